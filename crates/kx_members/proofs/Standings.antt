-- What is kept of groups stands for the log, and what becomes of a request by it.
use Rattle.std.proofs.Common.{◌≡◌, ℕ, Bool, true, false, cond, List, [], ◌∷◌, ◌++◌, flat_map, refl}
use Rattle.std.proofs.Common.{sym, ap, ◌∙◌, append-nil, subst, length, nat_le}
use Rattle.std.specs.Prelude.{filter_map}
use Rattle.std.specs.List.{AllByRecursion}
use Rattle.std.proofs.lemmas.Grind.{flat_map-append}
use Rattle.std.proofs.lemmas.List.Elements.{filter_map-append}
use Rattle.std.proofs.lemmas.Slice.Eq.{bytes_eq-Decides}
use Rattle.kx_message.specs.declared.code.ErrorCode.TheVariants.{UnknownMemberId}
use Rattle.kx_model.specs.Groups.{Fact, Offset, Joined, Left, Dropped, Membership, Already}
use Rattle.kx_model.specs.Groups.{Refuses, Changes, changes, fact_of, facts, generation}
use Rattle.kx_model.specs.Groups.{has_gone, is_member, judge_drop, judge_join, judge_leave}
use Rattle.kx_model.specs.Groups.{member_limit, members, records_of}
use Rattle.kx_model.specs.Log.{Entry}
use Rattle.kx_members.specs.Follows.{Makes, SaysOffset, StandsFor, standing}
use Rattle.kx_members.specs.Standing.{Standing, after, drop_verdict, join_verdict}
use Rattle.kx_members.specs.Standing.{leave_verdict, unknown}
use Rattle.kx_members.proofs.Facts.{drop_push, gone_is, join_push, leave_push, offsets_push}
use Rattle.kx_members.proofs.Facts.{standing_by}

pub is_standing : (log : List Entry) (group : List ℕ)
    → standing log group ≡ standing_by group (facts log)
unfolding generation members
is_standing log group = refl

facts-push : (log : List Entry) (entry : Entry)
    → facts (log ++ entry ∷ []) ≡ facts log ++ filter_map fact_of (records_of entry)
facts-push log entry =
    ap (filter_map fact_of) (flat_map-append records_of log (entry ∷ []))
    ∙ filter_map-append fact_of (flat_map records_of log) (records_of entry ++ [])
    ∙ ap (λ rs. facts log ++ filter_map fact_of rs) (append-nil (records_of entry))

------ growing

pub nothing_stands : StandsFor (λ group. unknown) []
nothing_stands = record { stands = λ group. sym (is_standing [] group) }

-- one that may join had not gone
newcomer : (already gone : Bool) (rest : Membership) (fact : Fact)
    → cond already Already (cond gone (Refuses UnknownMemberId) rest) ≡ Changes fact
    → gone ≡ false
newcomer true gone rest fact e = absurd (cc)
newcomer false true rest fact e = absurd (cc)
newcomer false false rest fact e = refl

after_fact : (log : List Entry) (fact : Fact) (group : List ℕ) → Makes log fact
    → standing_by group (facts log ++ fact ∷ []) ≡ after fact group (standing_by group (facts log))
after_fact log (Offset g partition offset) group makes = absurd makes
after_fact log (Joined g member) group makes =
    join_push group (facts log) g member (λ same.
    subst (λ n. has_gone log n member ≡ false) ((bytes_eq-Decides g group).0 same)
    (newcomer (is_member log g member) (has_gone log g member) _ _ makes))
after_fact log (Left g member) group makes = leave_push group (facts log) g member
after_fact log (Dropped g member) group makes = drop_push group (facts log) g member

pub change_stands : (kept : List ℕ → Standing) (log : List Entry) (entry : Entry) (fact : Fact)
    → StandsFor kept log → Makes log fact → filter_map fact_of (records_of entry) ≡ fact ∷ []
    → StandsFor (λ group. after fact group (kept group)) (log ++ entry ∷ [])
change_stands kept log entry fact stands makes says = record {
  stands = λ group. ap (after fact group) (stands.stands group ∙ is_standing log group)
      ∙ sym (after_fact log fact group makes)
      ∙ ap (λ said. standing_by group (facts log ++ said)) (sym says)
      ∙ ap (standing_by group) (sym (facts-push log entry))
      ∙ sym (is_standing (log ++ entry ∷ []) group);
}

pub others_stand : (kept : List ℕ → Standing) (log : List Entry) (entry : Entry)
    → StandsFor kept log → AllByRecursion SaysOffset (filter_map fact_of (records_of entry))
    → StandsFor kept (log ++ entry ∷ [])
others_stand kept log entry stands all = record {
  stands = λ group. stands.stands group ∙ is_standing log group
      ∙ sym (offsets_push group (facts log) (filter_map fact_of (records_of entry)) all)
      ∙ ap (standing_by group) (sym (facts-push log entry))
      ∙ sym (is_standing (log ++ entry ∷ []) group);
}

------ requests

module _ (kept : List ℕ → Standing) (log : List Entry) (group : List ℕ) (member : ℕ)
    (stands : StandsFor kept log) where
  abbrev verdict_past : Bool → Membership
  verdict_past gone =
      cond (is_member log group member) Already
      (cond gone (Refuses UnknownMemberId)
      (cond (nat_le member_limit (length (members log group))) (Refuses UnknownMemberId)
      (changes log group (Joined group member))))

  pub join_same : judge_join log group member ≡ join_verdict (kept group) group member
  join_same =
      ap verdict_past (gone_is group member (facts log))
      ∙ ap (λ s. join_verdict s group member) (sym (stands.stands group))

  pub leave_same : judge_leave log group member ≡ leave_verdict (kept group) group member
  leave_same = ap (λ s. leave_verdict s group member) (sym (stands.stands group))

  pub drop_same : judge_drop log group member ≡ drop_verdict (kept group) group member
  drop_same = ap (λ s. drop_verdict s group member) (sym (stands.stands group))
