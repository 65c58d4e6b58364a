use Rattle.std.proofs.Common.{◌≡◌, ◌<◌, ℕ, pos, Some, sym, ap, ◌∙◌, subst, arith}
use Rattle.std.specs.Prelude.{Option, unwrap_or}
use Rattle.kx_grant.specs.Sequences.{IsSequence, since}
use Rattle.kx_grant.specs.Grant.{after_batch}
use Rattle.kx_grant.specs.Steps.{after_all, rank}
use Rattle.kx_grant.specs.declared.grant.Grant.{Grant}
use Rattle.kx_grant.specs.declared.grant.Listed.{Listed}
use Rattle.kx_grant.proofs.Rises.{batch_same, rises_at_ends}
use Rattle.kx_grant.proofs.Sends.{with_sent_is, known_within, late, sent, sent_at, since_apart}
use Rattle.kx_grant.proofs.Within.{Within, begins, stays_within}
use Rattle.kx_grant.proofs.laws.a_batch_is_sent_as_one.Goals as goal

pub returns-clause-one : goal.returns-clause-one
returns-clause-one c = λ g steps held other one two p first later count more place spot has fits fits2 e stay f.
    let s = sent g held p first count one place e in
    let base = unwrap_or s.found.listed.base first in
    let after = after_batch g held p (pos first) count in
    let here : Within g.granted g.core p base after =
    subst (λ (x : Grant). Within g.granted g.core p base x)
    (sym (with_sent_is g held p (pos first) count one place e)) (begins g held p first one place s) in
    let last = after_all after steps in
    let w : Within g.granted g.core p base last =
    stays_within g.granted g.core p base steps after stay here in
    let t = sent last other p later more two spot f in
    let kept : Some t.found.listed ≡ Some w.has.listed = sym t.found.listed_is ∙ w.has.listed_is in
    let listed : t.found.listed ≡ w.has.listed = cc in
    let begun : t.found.listed.base ≡ Some base =
    ap (λ (l : Listed). l.base) listed ∙ w.has.base_is in
    let same : two ≡ one = t.found.core_is ∙ (w.core_is ∙ sym s.found.core_is) in
    let there : spot ≡ pos (since base later) =
    t.found.place_is
    ∙ ap (λ (x : Option ℕ). pos (since (unwrap_or x later) later)) begun in
    let based : IsSequence base =
    known_within s.found.listed.base first (λ b is. has.base p s.found.listed s.found.listed_is b is) fits in (
      same,
      (
        (λ is. s.found.place_is ∙ (ap (λ (n : ℕ). pos (since base n)) is ∙ sym there)),
        (λ is.
            let places : pos (since base first) ≡ pos (since base later) =
            sym s.found.place_is ∙ (is ∙ there) in
            let counts : since base first ≡ since base later = cc in
            since_apart base first later based fits fits2 counts),
      ),
    )

pub returns-clause-apart : goal.returns-clause-apart
returns-clause-apart c = λ g steps held other one two p q first later count more place spot e go raise f.
    let s = sent_at g held p first count one place e in
    let after = after_batch g held p first count in
    let last = after_all after steps in
    let t = sent_at last other q later more two spot f in
    let core : rank after.core ≡ rank g.core = ap rank (batch_same g held p first count).core in
    let from : rank one ≡ rank g.core = ap rank s.sent.found.core_is in
    let to : rank two ≡ rank last.core = ap rank t.sent.found.core_is in
    let rise : rank after.core < rank last.core = rises_at_ends steps after go raise in
    omega (arith, core, from, to, rise)

pub returns-clause-late : goal.returns-clause-late
returns-clause-late c = late
