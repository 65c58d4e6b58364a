-- What stands in front of the words of a fault.
use Rattle.std.specs.Prelude.{List, ℕ, [], ◌++◌, Option, Some, codes}
use Rattle.clap.specs.Words.{Text}
use Rattle.kx_serve.specs.declared.fault.About.{About}
use Rattle.kx_serve.specs.declared.fault.About.TheVariants as about
use Rattle.kx_server_audit.specs.declared.fault.AuditFault.{AuditFault}
use Rattle.kx_server_audit.specs.declared.fault.AuditFault.TheVariants as fault
use Rattle.kx_server_audit.specs.declared.file.AuditFile.TheVariants as left

-- the folder, and what parts it from the words; of a file in it the words begin with its name
abbrev pub front_of : About → Option Text → Option Text → List ℕ
front_of about.Logs (Some folder) traces = folder ++ codes ": "
front_of about.InLogs (Some folder) traces = folder ++ codes "/"
front_of about.Traces logs (Some folder) = folder ++ codes ": "
front_of about.InTraces logs (Some folder) = folder ++ codes "/"
front_of about logs traces = []

-- what a fault of an audit is about
abbrev pub audit_about : AuditFault → About
audit_about fault.NoTraces = about.Traces
audit_about (fault.Read (left.Trace node)) = about.InTraces
audit_about (fault.Read (left.Log node)) = about.InLogs
audit_about (fault.NoTrace file) = about.InTraces
audit_about (fault.Version file) = about.InTraces
audit_about (fault.Later file) = about.InTraces
audit_about fault.Write = about.Neither
audit_about fault.Memory = about.Neither
