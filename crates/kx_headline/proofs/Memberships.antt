-- What the offsets partition's log says of a group's members after a change of them that is
-- answered with 0.
use Rattle.std.proofs.Common.{◌≡◌, ◌≢◌, ℕ, true, false, not, ◌||◌, cond, List, [], ◌∷◌, ◌++◌}
use Rattle.std.proofs.Common.{Option, Contains, refl, sym, ap, ◌∙◌, subst, filter_map, length}
use Rattle.std.proofs.Common.{filter, nat_lt, ◌==◌, arith}
use Rattle.std.specs.Prelude.{nat_le}
use Rattle.std.specs.List.{cons_option, list_any}
use Rattle.std.proofs.lemmas.Bool.{cond_both}
use Rattle.std.proofs.lemmas.Bool.Decides.{nat_tests}
use Rattle.std.proofs.lemmas.Grind.{flat_map-append}
use Rattle.std.proofs.lemmas.List.Elements.{Contains-append_left, Contains-append_right}
use Rattle.std.proofs.lemmas.List.Elements.{Contains-push, filter_map-append}
use Rattle.std.proofs.lemmas.List.Folds.{list_any-append}
use Rattle.std.proofs.lemmas.Slice.Eq.{bytes_eq-Decides}
use Rattle.kx_message.specs.Message.{IsU32}
use Rattle.kx_message.specs.Ranges.{IsName}
use Rattle.kx_message.specs.Values.{where_true}
use Rattle.kx_message.specs.declared.code.ErrorCode.TheVariants as code
use Rattle.kx_message.specs.declared.message.Message.{Message}
use Rattle.kx_batch.specs.Batch.{batch_of}
use Rattle.kx_model.specs.Disk.{GrowsTo}
use Rattle.kx_model.specs.Groups.{Fact, Joined, Left, Membership, Already, Refuses, Changes}
use Rattle.kx_model.specs.Groups.{changes}
use Rattle.kx_model.specs.Groups.{fact_of, facts, generation, greatest_generation, has_gone}
use Rattle.kx_model.specs.Groups.{is_member, joined_to, judge_join, judge_leave, member_limit}
use Rattle.kx_model.specs.Groups.{members, membership_text, record_of, records_of, went_from}
use Rattle.kx_model.specs.Log.{Entry, Stored, entries, entry_in}
use Rattle.kx_model.specs.PartitionNode.{Partition}
use Rattle.kx_model.specs.Produce.{Verdict, Next, Duplicate, Unverified, Refused, judge_entry}
use Rattle.kx_model.specs.Produce.{judge_text}
use Rattle.kx_model.proofs.Logs.{entries-push}
use Rattle.kx_laws.proofs.Duplicates.{room_no}
use Rattle.kx_laws.proofs.GrownLogs.{batch_is}
use Rattle.kx_laws.proofs.Membership.{any_keeps, contains_head, filter_keeps}
use Rattle.kx_laws.proofs.StoredTexts.{judged_as}
use Rattle.kx_offsets.specs.Facts.{FactFits}
use Rattle.kx_offsets.proofs.Memberships.{membership_entry, membership_says}
use Rattle.kx_headline.proofs.PartitionDoes.{behind}
use Rattle.kx_headline.proofs.PartitionDoes as does
use Rattle.kx_headline.proofs.PartitionPromises.{entries_grow}
use Rattle.kx_headline.proofs.Verdicts.{Tells, text_tells}

facts-append : (a b : List Entry) → facts (a ++ b) ≡ facts a ++ facts b
facts-append a b =
    ap (filter_map fact_of) (flat_map-append records_of a b)
    ∙ filter_map-append fact_of _ _

-- what was said stays said
pub said_stays : (log later : List Stored) (fact : Fact) → GrowsTo log later
    → Contains (facts (entries log)) fact → Contains (facts (entries later)) fact
said_stays log later fact g c =
    let m = entries_grow log later g in
    subst (λ l. Contains l fact)
    (sym (ap facts m.1 ∙ facts-append (entries log) m.0))
    (Contains-append_left (facts (entries log)) (facts m.0) fact c)

------ one more fact

module _ (log : List Stored) (fact : Fact) (fits : FactFits fact) where
  abbrev text : List ℕ
  text = membership_text fact

  one_more : judge_text (entries log) true text ≡ Next
      → facts (entries (log ++ behind log text ∷ [])) ≡ facts (entries log) ++ fact ∷ []
  one_more next =
      let entry = entry_in (batch_of text) in
      ap facts (entries-push log (behind log text) entry (batch_is log true text next))
      ∙ facts-append (entries log) (entry ∷ [])
      ∙ ap (λ l. facts (entries log) ++ l) (membership_says fact fits)

  no_duplicate : (offset : ℕ) → judge_text (entries log) true text ≡ Duplicate offset → ⊥
  no_duplicate offset j =
      let read = judged_as (entries log) true text (Duplicate offset) (λ c h. cc) j in
      room_no (entries log) (length (record_of 0 fact ∷ [])) offset
      (ap (judge_entry (entries log) true) (sym (membership_entry fact fits)) ∙ read.judged)

module _ (number : ℕ) (p : Partition) (input : Option Message) (fact : Fact)
    (fits : FactFits fact) (after : List Stored) where
  abbrev SaysMore : Type 0
  SaysMore = facts (entries after) ≡ facts (entries p.disk.kept) ++ fact ∷ []

  put_says : (v : Verdict)
      → judge_text (entries p.disk.kept) true (membership_text fact) ≡ v
      → does.IsPut number p input (membership_text fact) v after → SaysMore
  put_says Next j is =
      ap (λ (l : List Stored). facts (entries l)) is ∙ one_more p.disk.kept fact fits j
  put_says (Duplicate offset) j is = absurd (no_duplicate p.disk.kept fact fits offset j)
  put_says Unverified j is = absurd is
  put_says (Refused c) j is =
      let tells : Tells true (Refused c) =
      subst (Tells true) j (text_tells (entries p.disk.kept) true (membership_text fact)) in
      absurd (tells is)

  changes_says : does.Became number p input (Changes fact) after → SaysMore
  changes_says is =
      put_says (judge_text (entries p.disk.kept) true (membership_text fact)) refl is

------ members

module _ (group : List ℕ) (client : ℕ) where
  joins_itself : Contains (filter_map (joined_to group) (Joined group client ∷ [])) client
  joins_itself =
      subst (λ b. Contains (cons_option (where_true b client) []) client)
      (sym ((bytes_eq-Decides group group).1 refl)) (contains_head client [])

  member_after : (log later : List Entry) → facts later ≡ facts log ++ Joined group client ∷ []
      → has_gone log group client ≡ false → is_member later group client ≡ true
  unfolding members
  member_after log later more stayed =
      let last = Joined group client ∷ [] in
      let gone : has_gone later group client ≡ false =
      ap (list_any (went_from group client)) more
      ∙ list_any-append (went_from group client) (facts log) last
      ∙ ap (λ b. b || false) stayed in
      let joined : Contains (filter_map (joined_to group) (facts later)) client =
      subst (λ l. Contains (filter_map (joined_to group) l) client) (sym more)
      (subst (λ l. Contains l client) (sym (filter_map-append (joined_to group) (facts log) last))
      (Contains-append_right (filter_map (joined_to group) (facts log))
      (filter_map (joined_to group) last) client joins_itself)) in
      let there = filter_keeps (λ member. not (has_gone later group member))
      (filter_map (joined_to group) (facts later)) client joined (ap not gone) in
      any_keeps (λ m. m == client)
      (filter (λ member. not (has_gone later group member))
      (filter_map (joined_to group) (facts later))) client there (grind (arith, nat_tests))

module _ (number : ℕ) (p : Partition) (input : Option Message) (group : List ℕ) (client : ℕ)
    (named : IsName group) (numbered : IsU32 client) (after : List Stored) where
  abbrev log : List Entry
  log = entries p.disk.kept

  abbrev Became : Membership → Type 0
  Became membership = does.Became number p input membership after

  no_storage : code.KafkaStorageError ≢ code.NoError
  no_storage e = cc

  unknown : code.UnknownMemberId ≢ code.NoError
  unknown e = cc

  -- who is answered that it joined is a member
  pub joined_member : Became (judge_join log group client)
      → is_member (entries after) group client ≡ true
  joined_member =
      let fact = Joined group client in
      let IsIn : Membership → Type 0 =
      λ m. Became m → is_member (entries after) group client ≡ true in
      let full = nat_le member_limit (length (members log group)) in
      let last : Membership = changes log group fact in
      let some : Membership = cond full (Refuses code.UnknownMemberId) last in
      let back : Membership =
      cond (has_gone log group client) (Refuses code.UnknownMemberId) some in
      cond_both (is_member log group client) Already back IsIn
      (λ e is. ap (λ (l : List Stored). is_member (entries l) group client) is ∙ e)
      (λ e. cond_both (has_gone log group client) (Refuses code.UnknownMemberId) some IsIn
      (λ f is. absurd (unknown is))
      (λ stayed. cond_both full (Refuses code.UnknownMemberId) last IsIn
      (λ f is. absurd (unknown is))
      (λ f. cond_both (nat_lt (generation log group) greatest_generation) (Changes fact)
      (Refuses code.KafkaStorageError) IsIn
      (λ g is. member_after group client log (entries after)
      (changes_says number p input fact (named, numbered) after is) stayed)
      (λ g is. absurd (no_storage is)))))

  -- who is answered that it left has its record of leaving
  pub left_says : Became (judge_leave log group client)
      → Contains (facts (entries after)) (Left group client)
  left_says =
      let fact = Left group client in
      let Says : Membership → Type 0 = λ m. Became m → Contains (facts (entries after)) fact in
      cond_both (is_member log group client) (changes log group fact)
      (Refuses code.UnknownMemberId) Says
      (λ e. cond_both (nat_lt (generation log group) greatest_generation) (Changes fact)
      (Refuses code.KafkaStorageError) Says
      (λ g is. subst (λ l. Contains l fact)
      (sym (changes_says number p input fact (named, numbered) after is))
      (Contains-push (facts log) fact))
      (λ g is. absurd (no_storage is)))
      (λ e is. absurd (unknown is))
