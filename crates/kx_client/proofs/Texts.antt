-- A builder to which values are pushed stands for the batch of their records.
use Rattle.std.proofs.Common.{◌≡◌, ◌++◌, ℕ, pos, List, [], ◌∷◌, Some, None, Bool, true, sym, ap}
use Rattle.std.proofs.Common.{◌∙◌, subst, false, lit<}
use Rattle.std.specs.Prelude.{if◌then◌else◌, is_some}
use Rattle.std.specs.Int.{w16}
use Rattle.std.specs.Int.RustNames.{FitsSigned}
use Rattle.kx_batch.specs.Build.{Builds, Draft, pushed_to, within_limit}
use Rattle.kx_batch.specs.Record.{Record}
use Rattle.kx_batch.proofs.Making.{draft_of}
use Rattle.kx_message.specs.declared.message.Held.{Held}
use Rattle.kx_client.proofs.Sizes.{one_pushed}
use Rattle.kx_model.specs.Client.{client_batch, value_records}

some_records : (a b : List Record) → Some a ≡ Some b → a ≡ b
some_records a b e = cc

pub flag_fits : (transactional : Bool)
    → FitsSigned w16 (if transactional then pos 0x10 else pos 0)
flag_fits true = record { sfits = lit< tt }
flag_fits false = record { sfits = lit< tt }

module _ (transactional : Bool) (held : Held) (first : ℕ) where
  -- the draft of a batch of these values
  abbrev pub drafts : List (List ℕ) → Draft
  drafts values = draft_of (if transactional then pos 0x10 else pos 0) (pos held.id)
      (pos held.epoch) (pos first) (Some (value_records values))

  -- one more of them all
  pub value_pushed : (before after : Draft) (xs : List (List ℕ)) (x : List ℕ)
      (ys all : List (List ℕ)) → (xs ++ x ∷ []) ++ ys ≡ all
      → is_some (within_limit (value_records all)) ≡ true → before ≡ drafts xs
      → after ≡ pushed_to before None (Some x) [] → after ≡ drafts (xs ++ x ∷ [])
  value_pushed before after xs x ys all split fit is pushes =
      pushes ∙ ap (λ (d : Draft). pushed_to d None (Some x) []) is
      ∙ ap (draft_of (if transactional then pos 0x10 else pos 0) (pos held.id) (pos held.epoch)
      (pos first)) (one_pushed xs x ys (subst (λ (vs : List (List ℕ)).
      is_some (within_limit (value_records vs)) ≡ true) (sym split) fit))

  pub text_built : (values : List (List ℕ)) (draft : Draft) (text : List ℕ)
      → draft ≡ drafts values → Builds draft text
      → text ≡ client_batch transactional held first (value_records values)
  text_built values draft text is h =
      let b : Builds (drafts values) text = subst (λ (d : Draft). Builds d text) is h in
      b.2 ∙ ap (client_batch transactional held first)
      (sym (some_records (value_records values) b.0 b.1))
