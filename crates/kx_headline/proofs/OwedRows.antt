-- What an ongoing row lists is owed its marker by the last row of its transactional id, or its
-- partition has answered the marker.
use Rattle.std.proofs.Common.{◌≡◌, ◌⊎◌, ℕ, ◌+◌, Bool, true, false, ◌&&◌, ◌||◌, cond, List, []}
use Rattle.std.proofs.Common.{◌∷◌}
use Rattle.std.proofs.Common.{◌++◌, Option, Some, None, ◌==◌, Contains, refl, sym, ap, ◌∙◌, subst}
use Rattle.std.proofs.Common.{inl, pos, ◌+ℤ◌}
use Rattle.std.proofs.Common.{inr, ⊎_elim, arith}
use Rattle.std.specs.Prelude.{bytes_eq}
use Rattle.std.specs.Option.{option_map_or, option_or}
use Rattle.std.proofs.lemmas.Bool.{and_from, or_cases, or_left}
use Rattle.std.proofs.lemmas.Bool.Decides.{nat_tests}
use Rattle.std.proofs.lemmas.List.Elements.{Contains-push_cases}
use Rattle.std.proofs.lemmas.Slice.Eq.{bytes_eq-Decides}
use Rattle.kx_message.specs.declared.code.ErrorCode.TheVariants.{NoError}
use Rattle.kx_message.specs.declared.message.Message.{Message}
use Rattle.kx_message.specs.Messages as the
use Rattle.kx_message.specs.declared.outcome.Outcome.{Outcome}
use Rattle.kx_model.specs.Coordinator.{Row, TxnEntry, CoordinatorEpoch, Allot, Written, State}
use Rattle.kx_model.specs.Coordinator.{Empty}
use Rattle.kx_model.specs.Coordinator.{Ongoing, Prepare, Complete, coordinator_epoch}
use Rattle.kx_model.specs.Coordinator.{has_under_way, is, is_at, last_row, lists, next_id, owed}
use Rattle.kx_model.specs.Coordinator.{row_if, row_of}
use Rattle.kx_model.specs.Requests.{completed, first_use, own_pair, prepared, with_added}
use Rattle.kx_headline.proofs.CoordinatorFollows.{Follows, opens, allots, begins, adds, prepares}
use Rattle.kx_headline.proofs.CoordinatorFollows.{takes_over, gives_up, completes, IsSettled}
use Rattle.kx_headline.proofs.CoordinatorFollows.{IsActive, active_not_prepare, given_up}
use Rattle.kx_headline.proofs.CoordinatorFollows.{lists_still, not_ongoing, not_prepare, taken_over}
use Rattle.kx_headline.proofs.CoordinatorGrows.{History, none, more, no_first_row}
use Rattle.kx_headline.proofs.CoordinatorRows.{IsFound, Names, own, previous, is_tells}
use Rattle.kx_headline.proofs.CoordinatorRows.{last_row_found, row_of-found, row_of-other}
use Rattle.kx_headline.proofs.CoordinatorRows.{row_of-own, row_of-written}
use Rattle.kx_headline.proofs.CoordinatorSound.{Sound, same_or_not}
use Rattle.kx_headline.proofs.CoordinatorTables.{Listed}
use Rattle.kx_laws.proofs.Membership.{any_keeps, contains_tail}

-- the transaction is under way, or its marker is on the way
pub data UnderWay (epoch : ℕ) (s : Row) : Type 0 where
  going : s.state ≡ Ongoing → s.epoch ≡ epoch → UnderWay epoch s
  ending : (o : Outcome) → s.state ≡ Prepare o → s.epoch ≡ epoch + 1 → UnderWay epoch s

pub record IsOwed (log : List TxnEntry) (p id epoch : ℕ) : Type 0 where
  pub row : Row
  pub current : row_of log row.txn ≡ Some row
  pub its_id : row.id ≡ id
  pub listed : Contains row.partitions p
  pub under_way : UnderWay epoch row

-- a reply of code 0 to a marker of the id at this epoch was sent
pub record IsAnswered (sent : List Message) (p id epoch : ℕ) : Type 0 where
  pub txn : List ℕ
  pub answered : Contains sent
      (the.MarkerReply p txn (record { id = id; epoch = epoch }) NoError)

abbrev pub OwedOrAnswered : List Message → List TxnEntry → ℕ → ℕ → ℕ → Type 0
OwedOrAnswered sent log p id epoch = IsOwed log p id epoch ⊎ IsAnswered sent p id (epoch + 1)

abbrev pub Owes : List Message → List TxnEntry → ℕ → Type 0
Owes sent log p = (id epoch : ℕ) → Listed log p id epoch → OwedOrAnswered sent log p id epoch

------ one note more

module _ (sent : List Message) (log : List TxnEntry) (p : ℕ) where
  some_same : (s t : Row) → Some s ≡ Some t → s ≡ t
  some_same s t h = cc

  -- another transactional id's row changes nothing, nor does a note that is no row
  other : (note : TxnEntry) (id epoch : ℕ) (o : IsOwed log p id epoch)
      → row_of (log ++ note ∷ []) o.row.txn ≡ row_of log o.row.txn
      → IsOwed (log ++ note ∷ []) p id epoch
  other note id epoch o same = record {
    row = o.row;
    current = same ∙ o.current;
    its_id = o.its_id;
    listed = o.listed;
    under_way = o.under_way;
  }

  -- a row that goes on from the last one, as this one owes
  goes_on : (s r : Row) (id epoch : ℕ) → row_of log s.txn ≡ Some s → r.txn ≡ s.txn
      → IsOwed log p id epoch
      → (s.id ≡ id → Contains s.partitions p → UnderWay epoch s
      → OwedOrAnswered sent (log ++ Written r ∷ []) p id epoch)
      → OwedOrAnswered sent (log ++ Written r ∷ []) p id epoch
  goes_on s r id epoch found same o on =
      ⊎_elim here (λ differ. inl (other (Written r) id epoch o
      (row_of-written log r o.row.txn differ))) (same_or_not r.txn o.row.txn)
    where
      here : r.txn ≡ o.row.txn → OwedOrAnswered sent (log ++ Written r ∷ []) p id epoch
      here e =
          let q : s ≡ o.row =
          some_same s o.row (sym found ∙ ap (row_of log) (sym same ∙ e) ∙ o.current) in
          on (ap (λ x. x.id) q ∙ o.its_id) (subst (λ x. Contains x.partitions p) (sym q) o.listed)
          (subst (UnderWay epoch) (sym q) o.under_way)

  owed_by : (r : Row) (id epoch : ℕ) → r.id ≡ id → Contains r.partitions p → UnderWay epoch r
      → IsOwed (log ++ Written r ∷ []) p id epoch
  owed_by r id epoch i l u = record {
    row = r;
    current = row_of-own log r;
    its_id = i;
    listed = l;
    under_way = u;
  }

  -- a settled row owes nothing
  resting : (s : Row) (epoch : ℕ) → IsSettled s.state → UnderWay epoch s → ⊥
  resting s epoch set (going g e) = not_ongoing s.state set g
  resting s epoch set (ending o g e) = not_prepare s.state set o g

  added_under_way : (s : Row) (start q epoch : ℕ) → IsActive s.state → UnderWay epoch s
      → UnderWay epoch (with_added s start q)
  added_under_way s start q epoch active (going g e) = going refl e
  added_under_way s start q epoch active (ending o g e) =
      absurd (active_not_prepare s.state active o g)

  prepared_under_way : (s : Row) (o : Outcome) (epoch : ℕ) → s.state ≡ Ongoing
      → UnderWay epoch s → (s.epoch + 1 ≡ epoch + 1)
  prepared_under_way s o epoch is_going (going g e) = ap (λ n. n + 1) e
  prepared_under_way s o epoch is_going (ending x g e) = absurd cc

  finished : (s : Row) (o : Outcome) (id epoch : ℕ) → s.state ≡ Prepare o → s.id ≡ id
      → UnderWay epoch s → Contains sent (the.MarkerReply p s.txn (own_pair s) NoError)
      → IsAnswered sent p id (epoch + 1)
  finished s o id epoch was i (going g e) m = absurd cc
  finished s o id epoch was i (ending x g e) m =
      record {
        txn = s.txn;
        answered = subst (λ n. Contains sent (the.MarkerReply p s.txn n NoError))
            (λ j. record { id = i j; epoch = e j }) m;
      }

  -- what an older row listed
  old_owed : (note : TxnEntry) → Follows sent log note → (id epoch : ℕ) → IsOwed log p id epoch
      → OwedOrAnswered sent (log ++ note ∷ []) p id epoch
  old_owed note (opens low) id epoch o =
      let k = CoordinatorEpoch (coordinator_epoch log +ℤ pos 1) in
      inl (other k id epoch o (row_of-other log k o.row.txn refl))
  old_owed note (allots caller t m) id epoch o =
      let a = Allot (next_id log) in inl (other a id epoch o (row_of-other log a o.row.txn refl))
  old_owed note (begins txn caller t first m) id epoch o =
      let r = first_use log caller.client txn t in
      inl (other (Written r) id epoch o (row_of-written log r o.row.txn
      (λ e. differ (sym first ∙ ap (row_of log) e ∙ o.current))))
    where
      differ : None ≡ Some o.row → ⊥
      differ h = cc
  old_owed note (adds s start q found active m) id epoch o =
      let r = with_added s start q in
      goes_on s r id epoch found refl o
      (λ i l u. inl (owed_by r id epoch i (lists_still q s.partitions p l)
      (added_under_way s start q epoch active u)))
  old_owed note (prepares s x cause found is_going why) id epoch o =
      let r = prepared log s x cause in
      goes_on s r id epoch found refl o
      (λ i l u. inl (owed_by r id epoch i l
      (ending x refl (prepared_under_way s x epoch is_going u))))
  old_owed note (takes_over s caller t found set above m) id epoch o =
      goes_on s (taken_over log s caller.client t) id epoch found refl o
      (λ i l u. absurd (resting s epoch set u))
  old_owed note (gives_up s caller found set m) id epoch o =
      goes_on s (given_up log s) id epoch found refl o (λ i l u. absurd (resting s epoch set u))
  old_owed note (completes s x found was m) id epoch o =
      goes_on s (completed log s x) id epoch found refl o
      (λ i l u. inr (finished s x id epoch was i u (m p l)))

  -- a row that lists anew is the last one
  new_owed : (note : TxnEntry) → Follows sent log note → (r : Row) → note ≡ Written r
      → r.state ≡ Ongoing → Contains r.partitions p → IsOwed (log ++ note ∷ []) p r.id r.epoch
  new_owed note (opens low) r e g l = absurd cc
  new_owed note (allots caller t m) r e g l = absurd cc
  new_owed note (begins txn caller t first m) r e g l =
      let h : first_use log caller.client txn t ≡ r = cc in let s = ap (λ x. x.state) h in absurd cc
  new_owed note (adds s start q found active m) r e g l =
      subst (λ n. IsOwed (log ++ n ∷ []) p r.id r.epoch) (sym e)
      (owed_by r r.id r.epoch refl l (going g refl))
  new_owed note (prepares s x cause found is_going why) r e g l =
      let h : prepared log s x cause ≡ r = cc in let s = ap (λ x. x.state) h in absurd cc
  new_owed note (takes_over s caller t found set above m) r e g l =
      let h : taken_over log s caller.client t ≡ r = cc in let s = ap (λ x. x.state) h in absurd cc
  new_owed note (gives_up s caller found set m) r e g l =
      let h : given_up log s ≡ r = cc in let s = ap (λ x. x.state) h in absurd cc
  new_owed note (completes s x found was m) r e g l =
      let h : completed log s x ≡ r = cc in let s = ap (λ x. x.state) h in absurd cc

  owes_next : (note : TxnEntry) → Follows sent log note → Owes sent log p
      → Owes sent (log ++ note ∷ []) p
  owes_next note f owes id epoch l =
      ⊎_elim old new (Contains-push_cases log note (Written l.row) l.written)
    where
      old : Contains log (Written l.row) → OwedOrAnswered sent (log ++ note ∷ []) p id epoch
      old c =
          ⊎_elim (old_owed note f id epoch) inr (owes id epoch (record {
            row = l.row;
            written = c;
            its_id = l.its_id;
            its_epoch = l.its_epoch;
            going = l.going;
            listed = l.listed;
          }))

      new : note ≡ Written l.row → OwedOrAnswered sent (log ++ note ∷ []) p id epoch
      new e =
          inl (subst (λ x. IsOwed (log ++ note ∷ []) p x epoch) l.its_id
          (subst (IsOwed (log ++ note ∷ []) p l.row.id) l.its_epoch
          (new_owed note f l.row e l.going l.listed)))

pub owes : {sent : List Message} {log : List TxnEntry} → History sent log → (p : ℕ)
    → Owes sent log p
owes none p id epoch l = absurd (no_first_row l.row l.written)
owes {sent} (more mid note g n) p id epoch l =
    owes_next sent mid p note n.follows (owes g p) id epoch l

------ the last row that names an id

-- of two tests, the second that of rows that pass the first too: the last row of the second is that
-- of the first, if it passes it
last_subset : (t u : Row → Bool) (log : List TxnEntry) (s : Row)
    → ((r : Row) → Contains log (Written r) → t r ≡ true → u r ≡ true) → t s ≡ true
    → last_row u log ≡ Some s → last_row t log ≡ Some s
unfolding last_row
last_subset t u [] s sub h e = absurd cc
last_subset t u (n ∷ log) s sub h e =
    at (last_row u log) (last_row_found u log) refl (last_row t log) (last_row_found t log) refl
    (last_subset t u log s (λ r c. sub r (contains_tail n (Written r) log c)) h) e
  where
    own_row : (n : TxnEntry) → row_if u n ≡ Some s → row_if t n ≡ Some s
    own_row (CoordinatorEpoch k) e = absurd cc
    own_row (Allot i) e = absurd cc
    own_row (Written r) e = if_own (u r) e
      where
        if_own : (b : Bool) → cond b (Some r) None ≡ Some s → cond (t r) (Some r) None ≡ Some s
        if_own true e =
            let same : s ≡ r = cc in
            ap (λ b. cond b (Some r) None) (ap t (sym same) ∙ h) ∙ sym (ap Some same)
        if_own false e = absurd cc

    at : (a : Option Row) → IsFound u log a → last_row u log ≡ a → (b : Option Row)
        → IsFound t log b → last_row t log ≡ b
        → (last_row u log ≡ Some s → last_row t log ≡ Some s)
        → option_or (last_row u log) (row_if u n) ≡ Some s
        → option_or (last_row t log) (row_if t n) ≡ Some s
    at (Some x) f a_is b g b_is ih e =
        let k : Some x ≡ Some s = sym (ap (λ o. option_or o (row_if u n)) a_is) ∙ e in
        ap (λ o. option_or o (row_if t n)) (ih (a_is ∙ k))
    at None f a_is None g b_is ih e =
        ap (λ o. option_or o (row_if t n)) b_is
        ∙ own_row n (sym (ap (λ o. option_or o (row_if u n)) a_is) ∙ e)
    at None f a_is (Some y) g b_is ih e =
        let passes = sub y (contains_tail n (Written y) log g.0) g.1 in
        let fails = f y g.0 in absurd cc

------ what is owed

names_tells : (id : ℕ) (r : Row) → (r.id == id || is r.previous id) ≡ true → Names r id
names_tells id r h =
    ⊎_elim (λ a. own (grind (arith, nat_tests))) (λ a. previous (is_tells r.previous id a))
    (or_cases (r.id == id) (is r.previous id) h)

at_state : (row_epoch epoch : ℕ) (s : Row) → s.epoch ≡ row_epoch → UnderWay epoch s
    → (st : State) → s.state ≡ st → is_at row_epoch epoch st ≡ true
at_state row_epoch epoch s same (going g e) Ongoing h = grind (arith, nat_tests)
at_state row_epoch epoch s same (ending o g e) Ongoing h = absurd cc
at_state row_epoch epoch s same (ending o g e) (Prepare x) h = grind (arith, nat_tests)
at_state row_epoch epoch s same (going g e) (Prepare x) h = absurd cc
at_state row_epoch epoch s same (going g e) Empty h = absurd cc
at_state row_epoch epoch s same (going g e) (Complete x) h = absurd cc
at_state row_epoch epoch s same (ending o g e) Empty h = absurd cc
at_state row_epoch epoch s same (ending o g e) (Complete x) h = absurd cc

-- what is owed is owed by the last row that names the id
pub owed_is : (log : List TxnEntry) → Sound log → (p id epoch : ℕ) → IsOwed log p id epoch
    → owed log p id epoch ≡ true
owed_is log sound p id epoch o =
    let s = o.row in
    let found = row_of-found log s.txn s o.current in
    let own_id : (s.id == id) ≡ true = grind (arith, nat_tests, o.its_id) in
    let last : last_row (λ r. r.id == id || is r.previous id) log ≡ Some s =
    last_subset (λ r. r.id == id || is r.previous id) (λ r. bytes_eq r.txn s.txn) log s
    (λ r c h. (bytes_eq-Decides r.txn s.txn).1
    (sound.one_txn r s id c found.0 (names_tells id r h) (own o.its_id)))
    (or_left (s.id == id) (is s.previous id) own_id) o.current in
    ap (λ r. option_map_or (has_under_way p id epoch) r false) last
    ∙ and_from (s.id == id && is_at s.epoch epoch s.state) (lists p s)
    (and_from (s.id == id) (is_at s.epoch epoch s.state) own_id
    (at_state s.epoch epoch s refl o.under_way s.state refl))
    (any_keeps (λ q. q == p) s.partitions p o.listed (grind (arith, nat_tests)))
