-- Traces that are read.
use Rattle.std.specs.Prelude.{◌==◌, ◌||◌, ◌++◌, ◌+◌, ◌-◌, ◌^◌, ℕ, Bool, false, List, [], Option, drop}
use Rattle.std.specs.Prelude.{if◌then◌else◌, length, min}
use Rattle.kx_trace.specs.declared.node.TracedNode.{TracedNode}
use Rattle.kx_trace_audit.specs.declared.ending.Ending.{Ending}
use Rattle.kx_trace_audit.specs.declared.ending.Ending.TheVariants.{At, Unknown}
use Rattle.kx_trace_audit.specs.declared.servers.TraceOf.{TraceOf}

-- as far as 64 bits can say it
abbrev pub in_64_bits : ℕ → ℕ
in_64_bits n = min n (2 ^ 64 - 1)

-- the node, how many bytes of whole entries its log has at the end of the trace, what was fed of the
-- trace and isn't done with, how many items are done with, and whether no more bytes will be fed
pub record Reading : Type 0 where
  pub node : TracedNode
  pub log_len : Option ℕ
  pub unread : List ℕ
  pub items : ℕ
  pub is_end : Bool

-- nothing was read after its head
abbrev pub begun : TraceOf → Reading
begun of = record {
  node = of.node;
  log_len = of.log_len;
  unread = [];
  items = 0;
  is_end = false;
}

-- more bytes of it were fed; no bytes say that there are no more
abbrev pub fed_on : List ℕ → Reading → Reading
fed_on bytes r =
    record r { unread = r.unread ++ bytes; is_end = r.is_end || (length bytes == 0) }

-- one more item is done with, which took this many bytes
abbrev pub advanced : ℕ → Reading → Reading
advanced used r =
    record r { unread = drop used r.unread; items = in_64_bits (r.items + 1) }

abbrev pub ending_of : Reading → Ending
ending_of r = if r.is_end then At r.log_len else Unknown
