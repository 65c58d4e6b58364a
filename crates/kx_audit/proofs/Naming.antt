-- A receipt is of a step of a trace, and of one in the order of all steps.
use Rattle.std.proofs.Common.{◌≡◌, List, Some, sym, ap, ◌∙◌}
use Rattle.std.specs.Prelude.{slice_get}
use Rattle.std.proofs.lemmas.Option.{same_Some}
use Rattle.kx_audit.specs.Making.{NodeMaking}
use Rattle.kx_audit.specs.Merged.{AreDone, IsMerging, Merged, told_so_far}
use Rattle.kx_audit.specs.Receipts.{AreNamed, AreOfSteps}
use Rattle.kx_audit.specs.Replayed.{IsOfLine, Progress, line_of, name_at}
use Rattle.kx_audit.specs.Told.{Told, told_at}
use Rattle.kx_machine.specs.Meaning.{NodeState}
use Rattle.kx_machine.specs.declared.taken.Taken.{Taken}
use Rattle.kx_nodes.specs.declared.receipt.Receipt.{Receipt}
use Rattle.kx_nodes.specs.declared.trace.Step.{Step}
use Rattle.kx_audit.proofs.Done.{whole_line}
use Rattle.kx_audit.proofs.Lines.{told_by_at}

module _ {B M : Type 0} (making : B → NodeMaking) where
  -- the step at a receipt's place, and its answer
  module _ (p : Progress B M) (receipt : Receipt) (step : Step) (taken : Taken)
      (at : slice_get p.trace.steps receipt.place ≡ Some step)
      (answered : slice_get p.takens receipt.place ≡ Some taken) where
    abbrev told : Told
    told = record { node = name_at making p; step = step; taken = taken }

    -- the receipt holds the node's name and these
    abbrev Holds : Type 0
    Holds =
        (receipt.node ≡ name_at making p) × (receipt.input ≡ step.input)
        × (receipt.taken ≡ taken)

    there : slice_get (line_of making p) receipt.place ≡ Some told
    there =
        told_by_at (name_at making p) p.trace.steps p.takens receipt.place step taken at answered

    pub of_line : Holds → (x : Told) × IsOfLine making p receipt x
    of_line holds = (
      told,
      record { node_is = holds.0; there = there; input_is = holds.1; taken_is = holds.2 },
    )

    pub only_so : (x : Told) → IsOfLine making p receipt x → Holds
    only_so x is =
        let same : x ≡ told = same_Some x told (sym is.there ∙ there) in (
          is.node_is,
          is.input_is ∙ ap (λ (y : Told). y.step.input) same,
          is.taken_is ∙ ap (λ (y : Told). y.taken) same,
        )

  ------ in the order of all steps

  pub of_steps : (stands : NodeState → M → Type 0) (m : Merged B M) (receipts : List Receipt)
      → IsMerging making stands m → AreDone m.nodes → AreNamed making m.nodes receipts
      → AreOfSteps (told_so_far making m) receipts
  of_steps stands m receipts merging done named j receipt at =
      let is = named j receipt at in (
        is.step,
        record {
          there = ap (λ name. slice_get (told_at name (told_so_far making m)) receipt.place)
              is.is.node_is
              ∙ ap (λ line. slice_get line receipt.place)
              (whole_line making stands m merging done is.number is.node is.there)
              ∙ is.is.there;
          input_is = is.is.input_is;
          taken_is = is.is.taken_is;
        },
      )
