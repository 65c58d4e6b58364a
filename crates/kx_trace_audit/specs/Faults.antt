-- The numbers of refusals.
use Rattle.std.specs.Prelude.{ℕ}
use Rattle.kx_trace_audit.specs.declared.refusal.TraceRefusal.{TraceRefusal}
use Rattle.kx_trace_audit.specs.declared.refusal.TraceRefusal.TheVariants as refusal

abbrev pub refusal_number : TraceRefusal → ℕ
refusal_number refusal.DuplicateNode = 1
refusal_number refusal.Bytes = 2
refusal_number refusal.Unsent = 3
refusal_number refusal.Store = 4
refusal_number refusal.Answer = 5
refusal_number refusal.Found = 6
refusal_number refusal.Log = 7
refusal_number refusal.Memory = 8
