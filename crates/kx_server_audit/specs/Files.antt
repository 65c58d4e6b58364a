-- The names of a server's files.
use Rattle.std.specs.Prelude.{ℕ, List, ◌++◌, codes}
use Rattle.kx_message.specs.Ranges.{partition_text}
use Rattle.kx_server_audit.specs.declared.file.AuditFile.{AuditFile}
use Rattle.kx_server_audit.specs.declared.file.AuditFile.TheVariants as file
use Rattle.kx_trace.specs.declared.node.TracedNode.{TracedNode}
use Rattle.kx_trace.specs.declared.node.TracedNode.TheVariants as traced

-- the part of the names that tells the node
abbrev pub node_word : TracedNode → List ℕ
node_word traced.Coordinator = codes "co"
node_word (traced.Partition number) = codes "p" ++ partition_text number

abbrev pub file_name : AuditFile → List ℕ
file_name (file.Trace node) = node_word node ++ codes ".trace"
file_name (file.Log node) = node_word node ++ codes ".log"
