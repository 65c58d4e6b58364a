-- Two requests are equal if their messages are.
use Rattle.std.proofs.Common.{◌≡◌, ℕ, List, Bool, true, false, refl, sym, ap, Some}
use Rattle.std.specs.Prelude.{◌&&◌, ◌==◌, nat_eq, bytes_eq}
use Rattle.std.specs.Bool.{Decides}
use Rattle.std.specs.Cmp.Lexicographic.{pointwise}
use Rattle.std.specs.Option.{option_eq}
use Rattle.std.specs.Ordering.{eq_of_both, int_eq, on}
use Rattle.std.proofs.lemmas.Bool.{and_from, and_parts, eqb-true, eq-eqb}
use Rattle.std.proofs.lemmas.Bool.Decides.{Decides-int_eq}
use Rattle.std.proofs.lemmas.Slice.Eq.{bytes_eq-Decides, slice_eq-Decides}
use Rattle.kx_message.specs.declared.message.Held.{Held}
use Rattle.kx_message.specs.declared.payload.PartitionOffset.{PartitionOffset}
use Rattle.kx_message.specs.declared.requests.TxnOffsetCommit.{TxnOffsetCommit}
use Rattle.kx_model.specs.Groups.{offsets_batch}
use Rattle.kx_model.specs.Verification.{same_caller, same_request}
use Rattle.kx_offsets.proofs.Commits.{one_commit}
use Rattle.kx_verify.specs.Internal.Messages.{Fits, request_in}
use Rattle.kx_verify.specs.declared.request.Append.{Append}
use Rattle.kx_verify.specs.declared.request.Append.TheVariants.{Produce, Offsets}
use Rattle.kx_verify.specs.contracts.request.AppendPartialEq.TheImpl.{eq-value}

------ tests

four : (a b c d : Bool) → (a && (b && (c && d))) ≡ (((a && b) && c) && d)
four true true true d = refl
four true true false d = refl
four true false c d = refl
four false b c d = refl

never : (x y : Bool) → false ≡ ((x && false) && y)
never true y = refl
never false y = refl

seven : (a t g m n r x : Bool) → (g ≡ true → r ≡ x)
    → (a && (t && (g && (m && (n && r))))) ≡ (((a && t) && ((g && m) && n)) && x)
seven true true true true true r x same = same refl
seven true true true true false r x same = refl
seven true true true false n r x same = refl
seven true true false m n r x same = refl
seven true false g m n r x same = refl
seven false t g m n r x same = refl

one_fact : {P : Type 0} (x y : Bool) → Decides x P → Decides y P → x ≡ y
one_fact true true f g = refl
one_fact true false f g = sym (g.1 (f.0 refl))
one_fact false true f g = f.1 (g.0 refl)
one_fact false false f g = refl

------ offsets

abbrev same_offset : PartitionOffset → PartitionOffset → Bool
same_offset = eq_of_both (on (λ o. o.partition) nat_eq) (on (λ o. o.offset) int_eq)

offset_decides : (a b : PartitionOffset) → Decides (same_offset a b) (a ≡ b)
offset_decides a b = (
  λ e. let p = and_parts (a.partition == b.partition) (int_eq a.offset b.offset) e in
      let partition = eqb-true a.partition b.partition p.0 in
      let offset = (Decides-int_eq a.offset b.offset).0 p.1 in
      λ i. record { partition = partition i; offset = offset i },
  λ e. and_from (a.partition == b.partition) (int_eq a.offset b.offset)
      (eq-eqb a.partition b.partition (ap (λ (o : PartitionOffset). o.partition) e))
      ((Decides-int_eq a.offset b.offset).1 (ap (λ (o : PartitionOffset). o.offset) e)),
)

abbrev text_of : TxnOffsetCommit → List ℕ
text_of it = offsets_batch it.group it.held it.first_sequence it.offsets

-- id, epoch, sequence and offsets
abbrev same_fields : TxnOffsetCommit → TxnOffsetCommit → Bool
same_fields a b =
    (a.held.id == b.held.id && a.held.epoch == b.held.epoch)
    && (int_eq a.first_sequence b.first_sequence
    && pointwise same_offset a.offsets b.offsets)

fields_decide : (a b : TxnOffsetCommit) → Fits (Offsets a) → Fits (Offsets b) → a.group ≡ b.group
    → Decides (same_fields a b) (text_of a ≡ text_of b)
fields_decide a b fits others group =
    let offsets = slice_eq-Decides offset_decides a.offsets b.offsets
    (pointwise same_offset a.offsets b.offsets) refl in (
      λ e. let p = and_parts (a.held.id == b.held.id && a.held.epoch == b.held.epoch)
          (int_eq a.first_sequence b.first_sequence
          && pointwise same_offset a.offsets b.offsets) e in
          let held = and_parts (a.held.id == b.held.id) (a.held.epoch == b.held.epoch) p.0 in
          let more = and_parts (int_eq a.first_sequence b.first_sequence)
          (pointwise same_offset a.offsets b.offsets) p.1 in
          let id = eqb-true a.held.id b.held.id held.0 in
          let epoch = eqb-true a.held.epoch b.held.epoch held.1 in
          let first = (Decides-int_eq a.first_sequence b.first_sequence).0 more.0 in
          let all = offsets.0 more.1 in
          λ i. offsets_batch (group i) (record { id = id i; epoch = epoch i }) (first i) (all i),
      λ e. let one = one_commit a.group a.held a.first_sequence a.offsets
          b.group b.held b.first_sequence b.offsets fits others e in
          and_from _ _
          (and_from _ _ (eq-eqb a.held.id b.held.id (ap (λ (h : Held). h.id) one.1))
          (eq-eqb a.held.epoch b.held.epoch (ap (λ (h : Held). h.epoch) one.1)))
          (and_from _ _ ((Decides-int_eq a.first_sequence b.first_sequence).1 one.2)
          (offsets.1 one.3)),
    )

------ messages

pub same_messages : (a b : Append) → Fits a → Fits b
    → eq-value.it a b ≡ same_request (request_in a) (request_in b)
same_messages (Produce a) (Produce b) ra rb =
    four (same_caller a.caller b.caller) (option_eq bytes_eq a.txn b.txn)
    (a.partition == b.partition) (bytes_eq a.batch b.batch)
same_messages (Produce a) (Offsets b) ra rb =
    never (same_caller a.caller b.caller && option_eq bytes_eq a.txn (Some b.txn))
    (bytes_eq a.batch (text_of b))
same_messages (Offsets a) (Produce b) ra rb =
    never (same_caller a.caller b.caller && option_eq bytes_eq (Some a.txn) b.txn)
    (bytes_eq (text_of a) b.batch)
same_messages (Offsets a) (Offsets b) ra rb =
    seven (same_caller a.caller b.caller) (bytes_eq a.txn b.txn) (bytes_eq a.group b.group)
    (a.member == b.member) (int_eq a.generation b.generation) (same_fields a b)
    (bytes_eq (text_of a) (text_of b))
    (λ group. one_fact (same_fields a b) (bytes_eq (text_of a) (text_of b))
    (fields_decide a b ra rb ((bytes_eq-Decides a.group b.group).0 group))
    (bytes_eq-Decides (text_of a) (text_of b)))
