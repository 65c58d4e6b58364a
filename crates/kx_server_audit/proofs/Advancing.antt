-- An audit that goes on in one trace, and then in another.
use borrow.Author.Count.{below_more}
use Rattle.std.proofs.Common.{◌≡◌, ◌+◌, ◌<◌, ◌∙◌, ◌++◌, ◌==◌, ◌||◌, ◌⊎◌, ℕ, zero, suc, List, [], ◌∷◌, Option, ap}
use Rattle.std.proofs.Common.{All, Err, MatchOption, MatchResult, Ok, Result, append-nil, append_assoc, arith, get_or, inl, inr}
use Rattle.std.proofs.Common.{Bool, None, Some, false, length, length-append, map, refl, slice_get}
use Rattle.std.proofs.Common.{slice_set, subst, sym, true}
use Rattle.std.proofs.lemmas.Bool.{cases_eq, false≢true}
use Rattle.std.proofs.lemmas.List.{length-set, set-get_or}
use Rattle.std.proofs.lemmas.Option.{get_or_from_slice_get, slice_get_read, slice_get_within}
use Rattle.std.proofs.KnownBytes.{Consumes-nil, Consumes-trans}
use Rattle.std.proofs.lemmas.List.Sums.{sum_by-append}
use Rattle.std.specs.Io.KnownBytes.{Consumes, IsAtEnd}
use Rattle.kx_audit.specs.Joined.{Passed}
use Rattle.kx_follow.specs.Following.{Followed}
use Rattle.kx_log.specs.Store.{StoreState}
use Rattle.kx_machines.specs.declared.broker.BrokerMachine.{BrokerMachine}
use Rattle.kx_server_audit.specs.Counting.{AreCounts, decided_by, decided_in}
use Rattle.kx_server_audit.specs.Driving.{Advances, AreAudited, AreStuck, Audited, CannotRead, EndsBy}
use Rattle.kx_server_audit.specs.Driving.{AreTold, EndsIn, GoesNoFurther, GoesOn, HasGoneOn, IsFed}
use Rattle.kx_server_audit.specs.Driving.{IsStuck, IsTold, IsUnderWay, IsWhole, ItemLeft, ItemRefused}
use Rattle.kx_server_audit.specs.Driving.{OthersStay, RefusesAt, RefusesItem, SaysYes, Stays, making}
use Rattle.kx_server_audit.specs.Reads.{IsEnded, Start, traces_of}
use Rattle.kx_server_audit.specs.declared.auditing.Ending.{Ending}
use Rattle.kx_server_audit.specs.declared.auditing.Ending.TheVariants as ending
use Rattle.kx_server_audit.specs.declared.auditing.ServerAudit.{ServerAudit}
use Rattle.kx_server_audit.specs.declared.counts.Counts.{Counts}
use Rattle.kx_server_audit.specs.declared.server_node.ServerNode.{ServerNode}
use Rattle.kx_server_audit.specs.declared.sources.Source.{Source}
use Rattle.kx_server_audit.proofs.Reading.{all_are_read, all_at, are_parts, count_read, fed-fed}
use Rattle.kx_server_audit.proofs.Reading.{fed-nil, read_at}
use Rattle.kx_machines.specs.Brokers.{broker_stands}
use Rattle.kx_machine.specs.Meaning.{NodeState}
use Rattle.kx_trace_audit.specs.Auditing.{HasAudited, IsFirstLeft, IsRefused, IsYes, fed}
use Rattle.kx_trace_audit.specs.Readings.{Reading, fed_on, in_64_bits}
use Rattle.kx_trace_audit.specs.declared.refusal.TraceRefusal.{TraceRefusal}
use Rattle.kx_trace_audit.specs.declared.servers.TraceOf.{TraceOf}
use Rattle.kx_trace_audit.specs.declared.refusal.TraceRefusal.TheVariants as refusal

-- one more step is counted
pub counted_more : (history : List Passed) (p : Passed) (sent : ℕ) (old new : Counts)
    → sent ≡ length p.taken.messages → new.steps ≡ in_64_bits (old.steps + 1)
    → new.messages ≡ in_64_bits (old.messages + sent) → AreCounts history old
    → AreCounts (history ++ p ∷ []) new
counted_more history p sent old new e steps messages counted =
    let more = length-append history (p ∷ []) in
    let sum = sum_by-append (λ (q : Passed). length q.taken.messages) history (p ∷ []) in
    let before = counted.steps in
    let sent_before = counted.messages in
    record { steps = omega (arith, more); messages = omega (arith, sum) }

------ lists

get_set_here : {A : Type 0} (xs : List A) (i : ℕ) (y z : A)
    → slice_get (slice_set xs i y) i ≡ Some z → y ≡ z
get_set_here [] i y z is = cc
get_set_here (x ∷ xs) zero y z is = cc
get_set_here (x ∷ xs) (suc i) y z is = get_set_here xs i y z is

get_other : {A : Type 0} (xs : List A) (i j : ℕ) (y : A) → (j ≡ i → ⊥)
    → slice_get (slice_set xs i y) j ≡ slice_get xs j
get_other [] i j y apart = refl
get_other (x ∷ xs) zero zero y apart = absurd (apart refl)
get_other (x ∷ xs) zero (suc j) y apart = refl
get_other (x ∷ xs) (suc i) zero y apart = refl
get_other (x ∷ xs) (suc i) (suc j) y apart =
    get_other xs i j y (λ e. apart (ap (λ (n : ℕ). suc n) e))

or_true : (b : Bool) → (b || true) ≡ true
or_true true = refl
or_true false = refl

-- how many items are done with, of the trace that is there
items_of : (o : Option Reading) (items : ℕ) (r : Reading) → o ≡ Some r
    → MatchOption o (items ≡ 0) (λ q. items ≡ q.items) → items ≡ r.items
items_of None items r is counted = absurd cc
items_of (Some q) items r is counted =
    let same : q ≡ r = cc in
    counted ∙ ap (λ (x : Reading). x.items) same

------ of the traces that are audited

-- the trace of this number was changed to this
pub others_stay : (k : ℕ) (old new : Audited) (r : Reading)
    → new.traces ≡ slice_set old.traces k r → OthersStay k old new
others_stay k old new r e = λ j apart.
    ap (λ (rs : List Reading). slice_get rs j) e ∙ get_other old.traces k j r apart

changed_is : (k : ℕ) (old new : Audited) (r now : Reading) → new.traces ≡ slice_set old.traces k r
    → slice_get new.traces k ≡ Some now → r ≡ now
changed_is k old new r now e there =
    get_set_here old.traces k r now (sym (ap (λ (rs : List Reading). slice_get rs k) e) ∙ there)

-- whether it was told of the end is as before
pub still_told : {I : Type 0} (k : ℕ) (old new : ServerAudit) (from to : Source I) (was r : Reading)
    → slice_get old.audit.traces k ≡ Some was → r.is_end ≡ was.is_end
    → new.audit.traces ≡ slice_set old.audit.traces k r → to.is_ended ≡ from.is_ended
    → IsTold k old from → IsTold k new to
still_told k old new from to was r here same e ended told = λ now there at_end.
    let changed = changed_is k old.audit new.audit r now e there in
    ap (λ (x : Reading). x.is_end) (sym changed) ∙ same ∙ told was here (sym ended ∙ at_end)

-- bytes were fed
pub fed_told : (k : ℕ) (bytes : List ℕ) (old new : Audited) (was : Reading)
    → new ≡ record old { traces = slice_set old.traces k (fed_on bytes was) }
    → IsFed k bytes old new
fed_told k bytes old new was e =
    let set = ap (λ (a : Audited). a.traces) e in
    record {
      others = others_stay k old new (fed_on bytes was) set;
      ends = λ r there none.
          let changed = changed_is k old new (fed_on bytes was) r set there in
          ap (λ (x : Reading). x.is_end) (sym changed)
          ∙ ap (λ (bs : List ℕ). was.is_end || (length bs == 0)) none ∙ or_true was.is_end;
    }

-- there is no such trace
pub fed_nothing : (k : ℕ) (bytes : List ℕ) (old new : Audited) → slice_get old.traces k ≡ None
    → new ≡ old → IsFed k bytes old new
fed_nothing k bytes old new none e = record {
  others = λ j apart. ap (λ (a : Audited). slice_get a.traces j) e;
  ends = λ r there end.
      let found : None ≡ Some r =
      sym none ∙ sym (ap (λ (a : Audited). slice_get a.traces k) e) ∙ there in
      absurd cc;
}

-- the source of each trace, where one goes on
told_at : {I : Type 0} (k j : ℕ) (old new : ServerAudit) (from to s : Source I)
    (sources : List (Source I)) → from ≡ get_or sources k from
    → (IsTold k old from → IsTold k new to) → OthersStay k old.audit new.audit
    → AreTold old sources → slice_get (slice_set sources k to) j ≡ Some s
    → (j ≡ k) ⊎ (j ≡ k → ⊥) → IsTold j new s
told_at {I} k j old new from to s sources e told others are there (inl same) =
    let set : slice_get (slice_set sources k to) k ≡ Some s =
    ap (λ (i : ℕ). slice_get (slice_set sources k to) i) (sym same) ∙ there in
    let within = slice_get_within (slice_set sources k to) k s set in
    let was = slice_get_read sources (length sources) k from refl
    (omega (arith, within, length-set sources k to)) e in
    subst (λ (i : ℕ). IsTold i new s) (sym same)
    (subst (λ (x : Source I). IsTold k new x) (get_set_here sources k to s set)
    (told (are k from was)))
told_at k j old new from to s sources e told others are there (inr apart) = λ r at ended.
    are j s (sym (get_other sources k j to apart) ∙ there) r (sym (others j apart) ∙ at) ended

-- an element at each place
element : {A : Type 0} (xs : List A) (k : ℕ) → k < length xs → (x : A) × (slice_get xs k ≡ Some x)
element [] k h = absurd (omega arith)
element (x ∷ xs) zero h = (x, refl)
element (x ∷ xs) (suc k) h = element xs k (omega arith)

no_further : (start : Start) (history : List Passed) (k : ℕ) (a : Audited) (P Q : Type 0)
    → (P → Q) → GoesNoFurther start history k a P → GoesNoFurther start history k a Q
no_further start history k a P Q f (inl waits) = inl waits
no_further start history k a P Q f (inr needs) = inr (needs.0, f needs.1)

module _ {I : Type 0} (remaining : I → Option (List ℕ)) where
  -- nothing was read, and these steps were made
  pub makes : (start : Start) (texts : List (List ℕ)) (history more : List Passed) (k : ℕ) (old new : ServerAudit)
      (from to : Source I) → to.reader ≡ from.reader → to.is_ended ≡ from.is_ended
      → (IsTold k old from → IsTold k new to) → OthersStay k old.audit new.audit
      → ((done : List Passed) → AreCounts done old.counts
      → AreCounts (done ++ more) new.counts)
      → AreAudited start texts (history ++ more) new.audit
      → Advances remaining start texts history k old new from to
  makes start texts history more k old new from to reader ended told others counted audited = record {
    read = [];
    more = more;
    consumed = subst (λ (r : I). Consumes (remaining from.reader) (remaining r) []) (sym reader)
        (Consumes-nil (remaining from.reader));
    ended = λ before now. subst (λ (r : I). IsAtEnd (remaining r)) (sym reader)
        (before (sym ended ∙ now));
    told = told;
    others = others;
    audited = subst (λ (ts : List (List ℕ)). AreAudited start ts (history ++ more) new.audit)
        (sym (fed-nil texts k)) audited;
    counted = counted;
  }

  -- nothing was read, and no step was made
  pub stays : (start : Start) (texts : List (List ℕ)) (history : List Passed) (k : ℕ) (old new : ServerAudit)
      (from to : Source I) → to.reader ≡ from.reader → to.is_ended ≡ from.is_ended
      → (IsTold k old from → IsTold k new to) → OthersStay k old.audit new.audit
      → new.counts ≡ old.counts → AreAudited start texts history new.audit
      → Advances remaining start texts history k old new from to
  stays start texts history k old new from to reader ended told others counts audited =
      let none = append-nil history in
      makes start texts history [] k old new from to reader ended told others
      (λ done counted. subst (λ (h : List Passed). AreCounts h new.counts)
      (sym (append-nil done)) (subst (AreCounts done) (sym counts) counted))
      (subst (λ (h : List Passed). AreAudited start texts h new.audit) (sym none) audited)

  -- these bytes were read, and no step was made
  pub reads : (start : Start) (texts : List (List ℕ)) (history : List Passed) (k : ℕ) (old new : ServerAudit)
      (from to : Source I) (bytes : List ℕ)
      → Consumes (remaining from.reader) (remaining to.reader) bytes → IsEnded remaining to
      → (to.is_ended ≡ true → bytes ≡ []) → IsFed k bytes old.audit new.audit
      → new.counts ≡ old.counts → AreAudited start (fed texts k bytes) history new.audit
      → Advances remaining start texts history k old new from to
  reads start texts history k old new from to bytes consumed ended none_left is_fed counts audited =
      let none = append-nil history in
      record {
        read = bytes;
        more = [];
        consumed = consumed;
        ended = λ before. ended;
        told = λ before r there at_end. is_fed.ends r there (none_left at_end);
        others = is_fed.others;
        audited = subst (λ (h : List Passed). AreAudited start (fed texts k bytes) h new.audit)
            (sym none) audited;
        counted = λ done counted. subst (λ (h : List Passed). AreCounts h new.counts)
            (sym (append-nil done)) (subst (AreCounts done) (sym counts) counted);
      }

  -- it goes on twice
  pub Advances-trans : (start : Start) (texts : List (List ℕ)) (history : List Passed) (k : ℕ)
      (old mid new : ServerAudit) (from via to : Source I)
      (a : Advances remaining start texts history k old mid from via)
      → Advances remaining start (fed texts k a.read) (history ++ a.more) k mid new via to
      → Advances remaining start texts history k old new from to
  Advances-trans start texts history k old mid new from via to a b =
      let joined = append_assoc history a.more b.more in
      record {
        read = a.read ++ b.read;
        more = a.more ++ b.more;
        consumed = Consumes-trans (remaining from.reader) (remaining via.reader)
            (remaining to.reader) a.read b.read a.consumed b.consumed;
        ended = λ e. b.ended (a.ended e);
        told = λ t. b.told (a.told t);
        others = λ j apart. b.others j apart ∙ a.others j apart;
        audited = subst (λ (ts : List (List ℕ)). AreAudited start ts (history ++ (a.more ++ b.more)) new.audit)
            (fed-fed texts k a.read b.read)
            (subst (λ (h : List Passed). AreAudited start (fed (fed texts k a.read) k b.read) h new.audit) joined b.audited);
        counted = λ done c. subst (λ (h : List Passed). AreCounts h new.counts)
            (append_assoc done a.more b.more) (b.counted (done ++ a.more) (a.counted done c));
      }

  pub goes_nowhere : (k : ℕ) (a : ServerAudit) (s : Source I) → GoesOn remaining k a a s s
  goes_nowhere k a s = λ start texts history has.
      stays start texts history k a a s s refl refl (λ told. told) (λ j apart. refl) refl has

  pub goes_on : (k : ℕ) (old mid new : ServerAudit) (from via to : Source I)
      → GoesOn remaining k old mid from via → GoesOn remaining k mid new via to
      → GoesOn remaining k old new from to
  goes_on k old mid new from via to a b = λ start texts history has.
      let first = a start texts history has in
      Advances-trans start texts history k old mid new from via to first
      (b start (fed texts k first.read) (history ++ first.more) first.audited)

  pub has_gone : (k : ℕ) (old new : ServerAudit) (from to : Source I) (went_on : Bool)
      → HasGoneOn remaining k old new from to went_on → GoesOn remaining k old new from to
  has_gone k old new from to true h = h
  has_gone k old new from to false h = λ start texts history has.
      let s = h start texts history has in
      subst (λ (a : ServerAudit). Advances remaining start texts history k old a from to) (sym s.audit_is)
      (subst (λ (t : Source I). Advances remaining start texts history k old old from t) (sym s.source_is)
      (goes_nowhere k old from start texts history has))

  -- it has gone on in one of the traces
  pub one_goes : (start : Start) (k : ℕ) (old new : ServerAudit) (from to : Source I)
      (sources : List (Source I)) → from ≡ get_or sources k from → GoesOn remaining k old new from to
      → IsUnderWay remaining start old sources
      → IsUnderWay remaining start new (slice_set sources k to)
  one_goes start k old new from to sources e goes w =
      let a = goes start w.texts w.more w.audited in
      record {
        texts = fed w.texts k a.read;
        more = w.more ++ a.more;
        audited = a.audited;
        read = read_at remaining start.origins w.texts sources k from to a.read e a.consumed a.ended w.read;
        told = λ j s there. told_at k j old new from to s sources e a.told a.others w.told there
            (cases_eq j k);
        counted = a.counted w.more w.counted;
      }

  -- it went on in this trace before it ended so
  pub ends_later : (k : ℕ) (old mid new : ServerAudit) (from via : Source I) (e : Ending)
      → GoesOn remaining k old mid from via → EndsIn remaining k mid new via e
      → EndsIn remaining k old new from e
  ends_later k old mid new from via (ending.Refused r) goes h = record {
    before = h.before;
    to = h.to;
    goes = goes_on k old mid h.before from via h.to goes h.goes;
    trace_is = h.trace_is;
    counts_are = h.counts_are;
    refuses = h.refuses;
  }
  ends_later k old mid new from via (ending.Read trace) goes h = h
  ends_later k old mid new from via ending.Memory goes h = tt

  pub ends_unread : (k : ℕ) (old new : ServerAudit) (from : Source I) (e : Ending) → CannotRead k e
      → EndsIn remaining k old new from e
  ends_unread k old new from (ending.Refused r) h = absurd h
  ends_unread k old new from (ending.Read trace) h = h
  ends_unread k old new from ending.Memory h = tt

  -- its next item was refused
  pub ends_refused : (k : ℕ) (old new : ServerAudit) (from : Source I) (items : ℕ)
      (why : TraceRefusal) (e : Ending) → new.counts ≡ old.counts
      → MatchOption (slice_get new.audit.traces k) (items ≡ 0) (λ r. items ≡ r.items)
      → ((of : List TraceOf) (starts : List NodeState) (texts : List (List ℕ))
      (history : List Passed) → HasAudited making broker_stands of starts texts history old.audit
      → IsRefused making broker_stands of starts history k old.audit new.audit why)
      → RefusesAt k items why e → EndsIn remaining k old new from e
  ends_refused k old new from items why (ending.Refused r) counts counted refused h = record {
    before = old;
    to = from;
    goes = goes_nowhere k old from;
    trace_is = h.0;
    counts_are = counts;
    refuses = λ start texts history has.
        let of = traces_of start.origins in
        let is = refused of start.starts texts history has in
        let there = ap (λ (rs : List Reading). slice_get rs k) is.traces_are ∙ is.there in
        let items_are = items_of (slice_get new.audit.traces k) items is.reading there counted in
        subst (λ (w : TraceRefusal). RefusesItem start history old.audit new.audit
        (record { trace = r.trace; item = r.item; why = w })) (sym h.2)
        (subst (λ (n : ℕ). RefusesItem start history old.audit new.audit
        (record { trace = n; item = r.item; why = why })) (sym h.0) (record {
          known = h.3;
          refused = is;
          item_is = h.1 ∙ ap (λ (n : ℕ). in_64_bits (n + 1)) items_are;
        }));
  }
  ends_refused k old new from items why (ending.Read trace) counts counted refused h = absurd h
  ends_refused k old new from items why ending.Memory counts counted refused h = tt

  -- going on in one of the traces ended the audit
  pub one_ends : (start : Start) (k : ℕ) (old new : ServerAudit) (from : Source I)
      (sources : List (Source I)) (e : Ending) → from ≡ get_or sources k from
      → k < length sources → EndsIn remaining k old new from e
      → IsUnderWay remaining start old sources → EndsBy start new e
  one_ends start k old new from sources (ending.Refused r) is within h w =
      let u = one_goes start k old h.before from h.to sources is h.goes w in
      ItemRefused (record {
        texts = u.texts;
        history = u.more;
        before = h.before.audit;
        parts = are_parts remaining start.origins u.texts (slice_set sources k h.to) u.read;
        audited = u.audited;
        counted = subst (AreCounts u.more) (sym h.counts_are) u.counted;
        refuses = h.refuses start u.texts u.more u.audited;
      })
  one_ends start k old new from sources (ending.Read trace) is within h w =
      let count = count_read remaining start.origins w.texts sources w.read in
      omega (arith, h, count.1)
  one_ends start k old new from sources ending.Memory is within h w = tt

  -- a source can't be read
  pub unread_ends : (start : Start) (a : ServerAudit) (sources : List (Source I)) (k : ℕ)
      (e : Ending) → k < length sources → CannotRead k e → IsUnderWay remaining start a sources
      → EndsBy start a e
  unread_ends start a sources k (ending.Refused r) within h w = absurd h
  unread_ends start a sources k (ending.Read trace) within h w =
      let count = count_read remaining start.origins w.texts sources w.read in
      omega (arith, h, count.1)
  unread_ends start a sources k ending.Memory within h w = tt

  -- all was read, and the audit says yes
  pub says_yes : (start : Start) (a : ServerAudit)
      (shown sources : List (Source I)) → shown ≡ sources → All (λ s. s.is_ended ≡ true) shown
      → ((of : List TraceOf) (starts : List NodeState) (texts : List (List ℕ))
      (history : List Passed) → HasAudited making broker_stands of starts texts history a.audit
      → IsYes making broker_stands of starts texts history a.audit)
      → IsUnderWay remaining start a sources → SaysYes start a
  says_yes start a shown sources e ended says w = record {
    texts = w.texts;
    history = w.more;
    whole = all_are_read remaining start.origins w.texts sources
        (subst (All (λ (s : Source I). s.is_ended ≡ true)) e ended) w.read;
    counted = w.counted;
    says = says (traces_of start.origins) start.starts w.texts w.more w.audited;
  }

  -- each trace is stuck, and an item is left
  left_at : (start : Start) (a : ServerAudit) (sources : List (Source I)) (k items : ℕ)
      (e : Ending) → AreStuck a sources → (first : IsFirstLeft a.audit.traces k)
      → items ≡ first.reading.items → RefusesAt k items refusal.Unsent e
      → IsUnderWay remaining start a sources → EndsBy start a e
  left_at start a sources k items (ending.Refused r) stuck first items_are h w =
      let count = count_read remaining start.origins w.texts sources w.read in
      let left = subst (λ (n : ℕ). (f : IsFirstLeft a.audit.traces n)
      × (r.item ≡ in_64_bits (f.reading.items + 1))) (sym h.0)
      (first, h.1 ∙ ap (λ (n : ℕ). in_64_bits (n + 1)) items_are) in
      ItemLeft (record {
        texts = w.texts;
        history = w.more;
        parts = are_parts remaining start.origins w.texts sources w.read;
        audited = w.audited;
        counted = w.counted;
        why_is = h.2;
        first = left.0;
        item_is = left.1;
        stuck = λ j below.
            let at = element sources j (omega (arith, count.0, count.1, w.audited.count)) in
            let reading = element a.audit.traces j below in
            no_further start w.more j a.audit (at.0.is_ended ≡ true)
            (IsWhole start.origins w.texts j a.audit)
            (λ ended. record {
              all = all_at remaining start.origins w.texts sources j at.0 at.1 ended w.read;
              reading = reading.0;
              there = reading.1;
              is_end = w.told j at.0 at.1 reading.0 reading.1 ended;
            })
            (stuck j at.0 at.1 start w.texts w.more w.audited);
      })
  left_at start a sources k items (ending.Read trace) stuck first items_are h w = absurd h
  left_at start a sources k items ending.Memory stuck first items_are h w = tt

  pub says_left : (start : Start) (a : ServerAudit) (sources : List (Source I)) (k items : ℕ)
      (e : Ending) → AreStuck a sources
      → MatchOption (slice_get a.audit.traces k) (items ≡ 0) (λ r. items ≡ r.items)
      → ((of : List TraceOf) (starts : List NodeState) (texts : List (List ℕ))
      (history : List Passed) → HasAudited making broker_stands of starts texts history a.audit
      → IsFirstLeft a.audit.traces k)
      → RefusesAt k items refusal.Unsent e
      → IsUnderWay remaining start a sources → EndsBy start a e
  says_left start a sources k items e stuck counted left refuses w =
      let first = left (traces_of start.origins) start.starts w.texts w.more w.audited in
      left_at start a sources k items e stuck first
      (items_of (slice_get a.audit.traces k) items first.reading first.there counted) refuses w

------ traces that are stuck

-- the traces before this one are stuck
abbrev pub AreStuckBelow : {I : Type 0} → ℕ → ServerAudit → List (Source I) → Type 0
AreStuckBelow {I} n a sources =
    (k : ℕ) → k < n → (s : Source I) → slice_get sources k ≡ Some s → IsStuck k a s

-- this one is stuck too
pub stuck_next : {I : Type 0} (start : Start) (texts : List (List ℕ)) (history : List Passed)
    (n : ℕ) (old new : ServerAudit) (from to : Source I) (sources : List (Source I))
    → from ≡ get_or sources n from → AreAudited start texts history old.audit
    → ((s : Start) (ts : List (List ℕ)) (h : List Passed) → AreAudited s ts h old.audit
    → Stays s h n old new from to)
    → AreStuckBelow n old sources → AreStuckBelow (n + 1) new (slice_set sources n to)
stuck_next {I} start texts history n old new from to sources is has stays below =
    let now = stays start texts history has in
    let stuck : IsStuck n old from = λ s ts h at. (stays s ts h at).stuck in
    let here : (s : Source I) → slice_get sources n ≡ Some s → IsStuck n old s = λ s there.
    subst (λ (t : Source I). IsStuck n old t) (is ∙ get_or_from_slice_get sources n s from there) stuck in
    let all = below_more (λ (k : ℕ). (s : Source I) → slice_get sources k ≡ Some s → IsStuck k old s)
    n below here in
    let same = ap (λ (s : Source I). slice_set sources n s) is ∙ set-get_or sources n from in
    subst (λ (a : ServerAudit). AreStuckBelow (n + 1) a (slice_set sources n to)) (sym now.audit_is)
    (subst (λ (s : Source I). AreStuckBelow (n + 1) old (slice_set sources n s)) (sym now.source_is)
    (subst (λ (ss : List (Source I)). AreStuckBelow (n + 1) old ss) (sym same) all))

-- all are stuck
pub all_stuck : {I : Type 0} (n : ℕ) (a : ServerAudit) (sources : List (Source I))
    → length sources ≡ n → AreStuckBelow n a sources → AreStuck a sources
all_stuck n a sources e below = λ k s there.
    below k (omega (arith, slice_get_within sources k s there)) s there

-- one more trace of a round
pub next_trace : {I : Type 0} (remaining : I → Option (List ℕ)) (start : Start) (n : ℕ)
    (old new : ServerAudit) (from to : Source I) (sources : List (Source I)) (before went_on : Bool)
    → from ≡ get_or sources n from → HasGoneOn remaining n old new from to went_on
    → IsUnderWay remaining start old sources × (before ≡ false → AreStuckBelow n old sources)
    → IsUnderWay remaining start new (slice_set sources n to)
    × ((before || went_on) ≡ false → AreStuckBelow (n + 1) new (slice_set sources n to))
next_trace remaining start n old new from to sources before true is gone w = (
  one_goes remaining start n old new from to sources is gone w.0,
  λ none. absurd (false≢true (sym none ∙ or_true before)),
)
next_trace remaining start n old new from to sources true false is gone w = (
  one_goes remaining start n old new from to sources is
      (has_gone remaining n old new from to false gone) w.0,
  λ none. absurd (false≢true (sym none)),
)
next_trace remaining start n old new from to sources false false is gone w = (
  one_goes remaining start n old new from to sources is
      (has_gone remaining n old new from to false gone) w.0,
  λ none. stuck_next start w.0.texts w.0.more n old new from to sources is w.0.audited gone
      (w.1 refl),
)

-- no item is left
pub ended : {I T : Type 0} (remaining : I → Option (List ℕ)) (start : Start)
    (a : ServerAudit) (shown sources : List (Source I)) (r : Result T Ending) → shown ≡ sources
    → MatchResult r (λ done. All (λ s. s.is_ended ≡ true) shown)
    (λ e. (k : ℕ) × (k < length shown) × CannotRead k e)
    → ((of : List TraceOf) (starts : List NodeState) (texts : List (List ℕ))
    (history : List Passed) → HasAudited making broker_stands of starts texts history a.audit
    → IsYes making broker_stands of starts texts history a.audit)
    → IsUnderWay remaining start a sources
    → MatchResult r (λ done. SaysYes start a) (EndsBy start a)
ended remaining start a shown sources (Ok done) e all says w =
    says_yes remaining start a shown sources e all says w
ended {I} remaining start a shown sources (Err x) e why says w =
    unread_ends remaining start a sources why.0 x
    (subst (λ (ss : List (Source I)). why.0 < length ss) e why.1) why.2 w

------ counts of transactions

decided_first : (nodes : List (Followed ServerNode (BrokerMachine StoreState)))
    (n : Followed ServerNode (BrokerMachine StoreState)) → slice_get nodes 0 ≡ Some n
    → decided_by n.machine ≡ decided_in (map (λ n. n.machine) nodes)
decided_first [] n e = cc
decided_first (x ∷ nodes) n e =
    let same : n ≡ x = cc in
    ap (λ (y : Followed ServerNode (BrokerMachine StoreState)). decided_by y.machine) same

-- in the log of the first machine
pub decided_at : (nodes : List (Followed ServerNode (BrokerMachine StoreState)))
    (n : Followed ServerNode (BrokerMachine StoreState)) (m : BrokerMachine StoreState) (count : ℕ)
    → slice_get nodes 0 ≡ Some n → m ≡ n.machine → count ≡ decided_by m
    → count ≡ decided_in (map (λ n. n.machine) nodes)
decided_at nodes n m count e same counted =
    counted ∙ ap decided_by same ∙ decided_first nodes n e

pub decided_nowhere : (nodes : List (Followed ServerNode (BrokerMachine StoreState)))
    → slice_get nodes 0 ≡ None → 0 ≡ decided_in (map (λ n. n.machine) nodes)
decided_nowhere [] e = refl
decided_nowhere (x ∷ nodes) e = cc
