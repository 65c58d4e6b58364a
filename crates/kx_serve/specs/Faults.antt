-- The numbers of faults, and what each is about.
use Rattle.std.specs.Prelude.{ℕ}
use Rattle.kx_serve.specs.declared.fault.About.{About}
use Rattle.kx_serve.specs.declared.fault.About.TheVariants as about
use Rattle.kx_serve.specs.declared.fault.ServeFault.{ServeFault}
use Rattle.kx_serve.specs.declared.fault.ServeFault.TheVariants as fault

abbrev pub fault_number : ServeFault → ℕ
fault_number (fault.Net port why) = 1
fault_number fault.Write = 2
fault_number (fault.Open file why) = 3
fault_number fault.Memory = 4
fault_number (fault.Folder why) = 6
fault_number fault.InUse = 7
fault_number (fault.NotWhole file) = 9
fault_number (fault.TraceFolder why) = 10
fault_number fault.TracesInUse = 11
fault_number (fault.Trace file why) = 12
fault_number (fault.Untold file) = 13
fault_number (fault.Gone file) = 14
fault_number (fault.Gateway why) = 15
fault_number (fault.Elsewhere file) = 16
fault_number (fault.Changed file why) = 17
fault_number (fault.Sums file) = 18
fault_number (fault.End file why) = 19
fault_number (fault.Ids file count) = 20
fault_number (fault.Listed file why) = 21
fault_number (fault.List why) = 22

-- a folder, a file in one, or neither
abbrev pub about_of : ServeFault → About
about_of (fault.Net port why) = about.Neither
about_of fault.Write = about.Neither
about_of (fault.Open file why) = about.InLogs
about_of fault.Memory = about.Neither
about_of (fault.Folder why) = about.Logs
about_of fault.InUse = about.Logs
about_of (fault.NotWhole file) = about.InLogs
about_of (fault.TraceFolder why) = about.Traces
about_of fault.TracesInUse = about.Traces
about_of (fault.Trace file why) = about.InTraces
about_of (fault.Untold file) = about.InLogs
about_of (fault.Gone file) = about.InTraces
about_of (fault.Gateway why) = about.InLogs
about_of (fault.Elsewhere file) = about.InTraces
about_of (fault.Changed file why) = about.InLogs
about_of (fault.Sums file) = about.InLogs
about_of (fault.End file why) = about.InLogs
about_of (fault.Ids file count) = about.InLogs
about_of (fault.Listed file why) = about.InLogs
about_of (fault.List why) = about.InLogs
