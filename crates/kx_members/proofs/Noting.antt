-- A change that is made behind a log can be noted.
use Rattle.std.proofs.Common.{◌≡◌, ◌<◌, ◌∙◌, ℕ, Bool, true, false, cond, List, [], ◌∷◌, filter}
use Rattle.std.proofs.Common.{refl}
use Rattle.std.proofs.Common.{sym, ap, subst, arith, length, nat_le, nat_lt, ◌==◌, ◌||◌}
use Rattle.std.proofs.lemmas.Bool.{eqb-true, not-true}
use Rattle.std.proofs.lemmas.Bool.Decides.{nat_tests}
use Rattle.kx_message.specs.declared.code.ErrorCode.TheVariants.{KafkaStorageError}
use Rattle.kx_message.specs.declared.code.ErrorCode.TheVariants.{UnknownMemberId}
use Rattle.kx_model.specs.Groups.{Fact, Offset, Joined, Left, Dropped, Already}
use Rattle.kx_model.specs.Groups.{Changes, Refuses, facts, greatest_generation, member_limit}
use Rattle.kx_model.specs.Log.{Entry}
use Rattle.kx_members.specs.Follows.{Makes, StandsFor}
use Rattle.kx_members.specs.Standing.{Standing, changes_by, is_among}
use Rattle.kx_members.specs.Standing.{join_verdict}
use Rattle.kx_members.specs.Table.{CanNote, group_in}
use Rattle.kx_members.proofs.Facts.{gone_is, joins, stays}
use Rattle.kx_members.proofs.Standings.{drop_same, is_standing, join_same, leave_same}

-- one that a filter keeps passes it
kept_passes : (test : ℕ → Bool) (member : ℕ) (items : List ℕ)
    → is_among member (filter test items) ≡ true → test member ≡ true
kept_passes test member [] among = absurd (cc)
kept_passes test member (x ∷ items) among =
    by (kept_passes test member items) (test x) refl among
  where
    here : (is_among member (filter test items) ≡ true → test member ≡ true) → (b : Bool)
        → (x == member) ≡ b → test x ≡ true
        → (b || is_among member (filter test items)) ≡ true → test member ≡ true
    here rest true same passes e = subst (λ m. test m ≡ true) (eqb-true x member same) passes
    here rest false same passes e = rest e

    by : (is_among member (filter test items) ≡ true → test member ≡ true) → (b : Bool)
        → test x ≡ b
        → is_among member (cond b (x ∷ filter test items) (filter test items)) ≡ true
        → test member ≡ true
    by rest true passes e = here rest (x == member) refl passes e
    by rest false fails e = rest e

-- a change was allowed, so there is a generation for it
allowed : (standing : Standing) (fact other : Fact) → changes_by standing fact ≡ Changes other
    → standing.generation < greatest_generation
allowed standing fact other e = by (nat_lt standing.generation greatest_generation) refl e
  where
    by : (b : Bool) → nat_lt standing.generation greatest_generation ≡ b
        → cond b (Changes fact) (Refuses KafkaStorageError) ≡ Changes other
        → standing.generation < greatest_generation
    by true is e = grind (arith, nat_tests)
    by false is e = absurd (cc)

allowed_join : (standing : Standing) (group : List ℕ) (member : ℕ) (other : Fact)
    → join_verdict standing group member ≡ Changes other
    → standing.generation < greatest_generation
allowed_join standing group member other e =
    by (is_among member standing.members) (is_among member standing.gone)
    (nat_le member_limit (length standing.members)) e
  where
    by : (already gone full : Bool)
        → cond already Already (cond gone (Refuses UnknownMemberId)
        (cond full (Refuses UnknownMemberId) (changes_by standing (Joined group member))))
        ≡ Changes other
        → standing.generation < greatest_generation
    by true gone full e = absurd (cc)
    by false true full e = absurd (cc)
    by false false true e = absurd (cc)
    by false false false e = allowed standing (Joined group member) other e

-- only a member leaves
a_member : (standing : Standing) (fact other : Fact) (member : ℕ)
    → cond (is_among member standing.members) (changes_by standing fact)
    (Refuses UnknownMemberId) ≡ Changes other
    → (standing.generation < greatest_generation) × (is_among member standing.members ≡ true)
a_member standing fact other member e = by (is_among member standing.members) refl e
  where
    by : (b : Bool) → is_among member standing.members ≡ b
        → cond b (changes_by standing fact) (Refuses UnknownMemberId) ≡ Changes other
        → (standing.generation < greatest_generation)
        × (is_among member standing.members ≡ true)
    by true is e = (allowed standing fact other e, is)
    by false is e = absurd (cc)

module _ (kept : List ℕ → Standing) (log : List Entry) (group : List ℕ) (member : ℕ)
    (stands : StandsFor kept log) where
  -- no member has gone
  not_gone : is_among member (kept group).members ≡ true
      → is_among member (kept group).gone ≡ false
  not_gone among =
      let is = stands.stands group ∙ is_standing log group in
      let stayed = kept_passes (stays group (facts log)) member (joins group (facts log))
      (subst (λ (s : Standing). is_among member s.members ≡ true) is among) in
      ap (λ (s : Standing). is_among member s.gone) is
      ∙ sym (gone_is group member (facts log)) ∙ not-true _ stayed

pub can_note : (kept : List ℕ → Standing) (log : List Entry) (fact : Fact)
    → StandsFor kept log → Makes log fact → CanNote (kept (group_in fact)) fact
can_note kept log (Offset group partition offset) stands makes = tt
can_note kept log (Joined group member) stands makes =
    allowed_join (kept group) group member (Joined group member)
    (sym (join_same kept log group member stands) ∙ makes)
can_note kept log (Left group member) stands makes =
    let is = a_member (kept group) (Left group member) (Left group member) member
    (sym (leave_same kept log group member stands) ∙ makes) in
    (is.0, not_gone kept log group member stands is.1)
can_note kept log (Dropped group member) stands makes =
    let is = a_member (kept group) (Dropped group member) (Dropped group member) member
    (sym (drop_same kept log group member stands) ∙ makes) in
    (is.0, not_gone kept log group member stands is.1)
