-- What an auditor finds is a schedule, which led to the nodes that it found.
use Rattle.std.proofs.Common.{◌≡◌, ℕ, List, [], Some}
use Rattle.std.specs.Prelude.{slice_get}
use Rattle.kx_audit.specs.Audited.{IsAudited}
use Rattle.kx_audit.specs.Joined.{AreJoined, at_node, led_to}
use Rattle.kx_audit.specs.Making.{Trail, named, node_of}
use Rattle.kx_audit.specs.Rerun.{AllAre, StepIs}
use Rattle.kx_audit.specs.Schedule.{AllFit}
use Rattle.kx_audit.specs.Told.{AllAnswer, AreMerged, Told}
use Rattle.kx_machine.specs.Meaning.{NodeState}
use Rattle.kx_message.specs.declared.message.Message.{Message}
use Rattle.kx_system.specs.System.{System}
use Rattle.kx_audit.proofs.Telling.{AllBy, Any, any_answers, found_by}
use Rattle.kx_audit.proofs.Whole.{is_whole}

-- the schedule, and what is said of each step
pub record AuditedBy (Is : StepIs) (arrived : List Message) (trails : List Trail)
    (told : List Told) (Stands : ℕ → NodeState → Type 0) : Type 0 where
  pub system : System
  pub audited : IsAudited arrived trails told Stands system
  pub joined : AreJoined arrived trails audited.merged
  pub each : (k : ℕ) (t : Trail) → slice_get trails k ≡ Some t
      → AllAre Is [] (node_of t.made) (at_node (named t.made) audited.merged)

pub audited_by : (Is : StepIs) (arrived : List Message) (trails : List Trail) (told : List Told)
    (Stands : ℕ → NodeState → Type 0) → AllFit trails → AreMerged arrived trails told
    → AllBy Is trails told Stands → AuditedBy Is arrived trails told Stands
audited_by Is arrived trails told Stands fit are all =
    let by = found_by Is arrived trails told Stands are all in
    let f = by.found in
    let w = is_whole arrived trails f.merged fit f.joined in
    record {
      system = w.system;
      audited = record {
        merged = f.merged;
        events = w.events;
        told_is = f.told_is;
        is = w.is;
        ends = λ k t at. record {
          node = led_to (node_of t.made) (at_node (named t.made) f.merged);
          node_is = (w.is.stand k t at).node_is;
          replays = (w.is.stand k t at).replays;
          stands = f.stand k t at;
        };
      };
      joined = f.joined;
      each = by.each;
    }

pub audited : (arrived : List Message) (trails : List Trail) (told : List Told)
    (Stands : ℕ → NodeState → Type 0) → AllFit trails → AreMerged arrived trails told
    → AllAnswer trails told Stands → (s : System) × IsAudited arrived trails told Stands s
audited arrived trails told Stands fit are all =
    let by = audited_by Any arrived trails told Stands fit are
    (any_answers trails told Stands all) in (by.system, by.audited)
