use Rattle.std.proofs.Common.{◌≡◌, ◌<◌, ◌≤◌, ◌==◌, arith, sym, subst, ap, ◌∙◌, List, None}
use Rattle.std.proofs.Common.{false, length}
use Rattle.std.proofs.Common.{ℤ, to_z, of_z, w64, FitsSigned, rules}
use Rattle.std.specs.List.{insert}
use Rattle.std.proofs.lemmas.Bool.Decides.{nat_tests}
use Rattle.std.proofs.lemmas.Int.{to_z-of_z}
use Rattle.kx_model.specs.Produce.{open_limit}
use Rattle.kx_open.specs.Open.{OpenState, IsOpenList, IsPlaceBehind, begun, epoch_in}
use Rattle.kx_open.specs.declared.open.OpenTxn.{OpenTxn}
use Rattle.kx_open.proofs.Order.{begun_at_place, begun_is_open_list}
use Rattle.kx_open.proofs.open.OpenTxns.begin.Goals as goal

-- it isn't full
room : (c : goal.In_ok-insert) → length c.args.self.now.txns < open_limit
room c =
    let seen = ap (λ (kept : OpenState). kept.txns) c.self.view_is in
    let within : length c.args.self.now.txns ≤ open_limit =
    subst (λ (l : List OpenTxn). length l ≤ open_limit) seen c.self.invariant.within in
    let other : (length c.args.self.now.txns == open_limit) ≡ false =
    sym c.is_full.ensures ∙ c.if-is_full.false in
    grind (arith, nat_tests)

-- the transaction that begins, at an offset
abbrev txn_at : goal.In_ok-insert → ℤ → OpenTxn
txn_at c offset = record { id = c.args.id; epoch = c.args.epoch; first = offset }

-- as the code passes it on
abbrev passed : goal.In_ok-insert → ℤ
passed c = to_z w64 (of_z w64 c.args.offset)

pub invariant_of-self-2 : goal.invariant_of-self-2
invariant_of-self-2 c =
    let txn = txn_at c (passed c) in
    let txns = c.self.inside.txns.items in
    let place = c.place_behind-place.result in
    let seen : txns ≡ c.args.self.now.txns = ap (λ (kept : OpenState). kept.txns) c.self.view_is in
    let between : IsPlaceBehind txn.first txns place =
    subst (λ (l : List OpenTxn). IsPlaceBehind txn.first l place) (sym seen)
    c.place_behind-place.ensures.between in
    let none : epoch_in c.args.id txns ≡ None = ap (epoch_in c.args.id) seen ∙ c.requires in
    let short : length txns < open_limit =
    subst (λ (l : List OpenTxn). length l < open_limit) (sym seen) (room c) in
    let within : place ≤ length txns =
    subst (λ (l : List OpenTxn). place ≤ length l) (sym seen) c.place_behind-place.ensures.within in
    let at : c.insert.new.self.items ≡ insert txns place txn = c.in_ok-insert.ensures.items in
    subst IsOpenList (sym at)
    (begun_is_open_list txn txns place between none short within c.self.invariant)

pub returns : goal.returns
returns c =
    let txn = txn_at c (passed c) in
    let txns = c.args.self.now.txns in
    let place = c.place_behind-place.result in
    let seen = ap (λ (kept : OpenState). kept.txns) c.self.view_is in
    let at : c.insert.new.self.items ≡ insert txns place txn =
    c.in_ok-insert.ensures.items ∙ ap (λ (l : List OpenTxn). insert l place txn) seen in
    let fits : FitsSigned w64 c.args.offset = search rules in
    let same : passed c ≡ c.args.offset = to_z-of_z w64 c.args.offset fits in (
      room c,
      at ∙ begun_at_place txn txns place c.place_behind-place.ensures.between
          ∙ ap (λ (z : ℤ). begun (txn_at c z) txns) same,
    )
