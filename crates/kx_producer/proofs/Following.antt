-- What one more entry of a log changes in what the log says of an id.
use Rattle.std.proofs.Common.{◌≡◌, ◌<◌, ◌==◌, ◌&&◌, ℕ, ℤ, Bool, true, false}
use Rattle.std.proofs.Common.{cond, max, nat_lt, List, [], ◌∷◌, ◌++◌, map, filter}
use Rattle.std.proofs.Common.{Option, Some, None, unwrap_or, refl, sym, ap, ◌∙◌, subst, arith}
use Rattle.std.proofs.lemmas.Bool.Decides.{nat_tests}
use Rattle.std.proofs.lemmas.Grind.{flat_map-append}
use Rattle.std.proofs.lemmas.List.{append-nil, map-append}
use Rattle.std.proofs.lemmas.List.Elements.{filter-append}
use Rattle.kx_model.specs.Log.{Control, Data, Entry, Marker, Placed, Plain, Sequenced}
use Rattle.kx_model.specs.Produce.{coordinator_in, marked_by, or_before}
use Rattle.kx_model.specs.Producers.{data_at, data_in, epoch_in, epoch_of, greater, is_of}
use Rattle.kx_model.specs.Producers.{last_of}
use Rattle.kx_model.proofs.Growth.{epoch_of-push, marked_by-push}
use Rattle.kx_producer.specs.Follows.{batches_in, items, known_at, known_in, remembered_of}
use Rattle.kx_producer.specs.Known.{Known, fresh, with_batch, with_marker}
use Rattle.kx_producer.specs.declared.noted.RememberedBatch.{RememberedBatch}
use Rattle.kx_producer.proofs.Batches.{last_of_few, map_last-push}

------ epochs

-- there is no epoch, or it is below this one
pub data IsAbove (epoch : ℕ) : Option ℕ → Type 0 where
  above_none : IsAbove epoch None
  above_some : (e : ℕ) → e < epoch → IsAbove epoch (Some e)

above_rest : (epoch : ℕ) (a b : Option ℕ) → IsAbove epoch (greater a b) → IsAbove epoch b
above_rest epoch None b h = h
above_rest epoch (Some e) None h = above_none
above_rest epoch (Some e) (Some f) (above_some m less) = above_some f (omega (arith, less))

above_first : (epoch e : ℕ) (b : Option ℕ) → IsAbove epoch (greater (Some e) b) → e < epoch
above_first epoch e None (above_some m less) = less
above_first epoch e (Some f) (above_some m less) = omega (arith, less)

-- an epoch above all that came has no batches
pub no_batches : (entries : List (Placed Entry)) (id epoch : ℕ)
    → IsAbove epoch (epoch_of (items entries) id) → batches_in entries id epoch ≡ []
unfolding epoch_of
no_batches [] id epoch h = refl
no_batches (p ∷ entries) id epoch h =
    filter-append (λ q. is_of id epoch q.item) (data_at p.offset p.item) (data_in entries)
    ∙ ap (λ l. filter (λ q. is_of id epoch q.item) (data_at p.offset p.item) ++ l)
    (no_batches entries id epoch (above_rest epoch (epoch_in id p.item) _ h))
    ∙ append-nil (filter (λ q. is_of id epoch q.item) (data_at p.offset p.item))
    ∙ here p.item h
  where
    here : (entry : Entry)
        → IsAbove epoch (greater (epoch_in id entry) (epoch_of (items entries) id))
        → filter (λ q. is_of id epoch q.item) (data_at p.offset entry) ≡ []
    here (Plain records) k = refl
    here (Control marker) k = refl
    here (Data batch) k = at (batch.id == id) refl k
      where
        one : List (Placed Sequenced)
        one = record { offset = p.offset; item = batch } ∷ []

        at : (same : Bool) → (batch.id == id) ≡ same
            → IsAbove epoch (greater (cond same (Some batch.epoch) None)
            (epoch_of (items entries) id))
            → cond ((batch.id == id) && (batch.epoch == epoch)) one [] ≡ []
        at false e k = ap (λ b. cond (b && (batch.epoch == epoch)) one []) e
        at true e k =
            let less : batch.epoch < epoch = above_first epoch batch.epoch _ k in
            let other : ((batch.id == id) && (batch.epoch == epoch)) ≡ false =
            grind (arith, nat_tests) in
            ap (λ b. cond b one []) other

pub no_marker : (log : List Entry) (id : ℕ) → epoch_of log id ≡ None → marked_by log id ≡ None
unfolding epoch_of marked_by
no_marker [] id h = refl
no_marker (entry ∷ log) id h =
    ap (λ o. or_before o (coordinator_in id entry)) (no_marker log id (rest (epoch_in id entry) h))
    ∙ here entry h
  where
    rest : (a : Option ℕ) → greater a (epoch_of log id) ≡ None → epoch_of log id ≡ None
    rest None e = e
    rest (Some n) e = at (epoch_of log id) e
      where
        at : (o : Option ℕ) → greater (Some n) o ≡ None → o ≡ None
        at None e = refl
        at (Some m) e = absurd (cc)

    here : (x : Entry) → greater (epoch_in id x) (epoch_of log id) ≡ None
        → coordinator_in id x ≡ None
    here (Plain records) e = refl
    here (Data batch) e = refl
    here (Control marker) e = at (marker.id == id) (epoch_of log id) e
      where
        at : (same : Bool) (o : Option ℕ)
            → greater (cond same (Some marker.epoch) None) o ≡ None
            → cond same (Some marker.coordinator) None ≡ None
        at false o e = refl
        at true None e = absurd (cc)
        at true (Some m) e = absurd (cc)

------ one more entry

module _ (entries : List (Placed Entry)) (p : Placed Entry) (id : ℕ) where
  batches-push : (epoch : ℕ) → batches_in (entries ++ p ∷ []) id epoch
      ≡ batches_in entries id epoch
      ++ filter (λ q. is_of id epoch q.item) (data_at p.offset p.item)
  batches-push epoch =
      let test = λ (q : Placed Sequenced). is_of id epoch q.item in
      ap (filter test) (flat_map-append (λ (q : Placed Entry). data_at q.offset q.item) entries
      (p ∷ []) ∙ ap (λ l. data_in entries ++ l) (append-nil (data_at p.offset p.item)))
      ∙ filter-append test (data_in entries) (data_at p.offset p.item)

  epoch-push : epoch_of (items (entries ++ p ∷ [])) id
      ≡ greater (epoch_of (items entries) id) (epoch_in id p.item)
  epoch-push =
      ap (λ log. epoch_of log id) (map-append _ entries (p ∷ []))
      ∙ epoch_of-push (items entries) p.item id

  marked-push : marked_by (items (entries ++ p ∷ [])) id
      ≡ or_before (coordinator_in id p.item) (marked_by (items entries) id)
  marked-push =
      ap (λ log. marked_by log id) (map-append _ entries (p ∷ []))
      ∙ marked_by-push (items entries) p.item id

-- what is known if there is an epoch
known_is : (entries : List (Placed Entry)) (id epoch : ℕ) (batches : List (Placed Sequenced))
    (marked : Option ℤ) → epoch_of (items entries) id ≡ Some epoch
    → batches_in entries id epoch ≡ batches → marked_by (items entries) id ≡ marked
    → known_in entries id ≡ Some (record {
      epoch = epoch;
      remembered = map remembered_of (last_of 5 batches);
      marked_by = marked;
    })
known_is entries id epoch batches marked e b m =
    ap (known_at entries id) e
    ∙ ap Some (λ i. record {
      epoch = epoch;
      remembered = map remembered_of (last_of 5 (b i));
      marked_by = m i;
    })

same_parts : (k : Known) (epoch : ℕ) (batches : List RememberedBatch) (marked : Option ℤ)
    → epoch ≡ k.epoch → batches ≡ k.remembered → marked ≡ k.marked_by
    → ◌≡◌ {A = Option Known}
    (Some (record { epoch = epoch; remembered = batches; marked_by = marked })) (Some k)
same_parts k epoch batches marked e b m =
    ap Some (λ i. record { epoch = e i; remembered = b i; marked_by = m i })

-- an entry that isn't of the id
pub untouched : (entries : List (Placed Entry)) (p : Placed Entry) (id : ℕ)
    → epoch_in id p.item ≡ None → known_in (entries ++ p ∷ []) id ≡ known_in entries id
untouched entries p id none = at (epoch_of (items entries) id) refl
  where
    no_data : (entry : Entry) (epoch : ℕ) → epoch_in id entry ≡ None
        → filter (λ q. is_of id epoch q.item) (data_at p.offset entry) ≡ []
    no_data (Plain records) epoch e = refl
    no_data (Control marker) epoch e = refl
    no_data (Data batch) epoch e = by (batch.id == id) e
      where
        one : List (Placed Sequenced)
        one = record { offset = p.offset; item = batch } ∷ []

        by : (same : Bool) → cond same (Some batch.epoch) None ≡ None
            → cond (same && (batch.epoch == epoch)) one [] ≡ []
        by false e = refl
        by true e = absurd (cc)

    no_coordinator : (entry : Entry) → epoch_in id entry ≡ None → coordinator_in id entry ≡ None
    no_coordinator (Plain records) e = refl
    no_coordinator (Data batch) e = refl
    no_coordinator (Control marker) e = by (marker.id == id) e
      where
        by : (same : Bool) → cond same (Some marker.epoch) None ≡ None
            → cond same (Some marker.coordinator) None ≡ None
        by false e = refl
        by true e = absurd (cc)

    same_epoch : (o : Option ℕ) → greater o None ≡ o
    same_epoch None = refl
    same_epoch (Some e) = refl

    epoch_is : epoch_of (items (entries ++ p ∷ [])) id ≡ epoch_of (items entries) id
    epoch_is =
        epoch-push entries p id ∙ ap (greater (epoch_of (items entries) id)) none
        ∙ same_epoch (epoch_of (items entries) id)

    at : (o : Option ℕ) → epoch_of (items entries) id ≡ o
        → known_in (entries ++ p ∷ []) id ≡ known_in entries id
    at None e =
        ap (known_at (entries ++ p ∷ []) id) (epoch_is ∙ e) ∙ ap (known_at entries id) (sym e)
    at (Some epoch) e =
        known_is (entries ++ p ∷ []) id epoch (batches_in entries id epoch)
        (marked_by (items entries) id) (epoch_is ∙ e)
        (batches-push entries p id epoch
        ∙ ap (λ l. batches_in entries id epoch ++ l) (no_data p.item epoch none)
        ∙ append-nil (batches_in entries id epoch))
        (marked-push entries p id
        ∙ ap (λ o. or_before o (marked_by (items entries) id)) (no_coordinator p.item none))
        ∙ ap (known_at entries id) (sym e)

-- how two epochs lie to each other
pub data Order (a b : ℕ) : Type 0 where
  lower : a < b → Order a b
  equal : a ≡ b → Order a b
  higher : b < a → Order a b

pub order : (a b : ℕ) → Order a b
order a b = at (nat_lt a b) (nat_lt b a) refl refl
  where
    at : (l m : Bool) → nat_lt a b ≡ l → nat_lt b a ≡ m → Order a b
    at true m e f = lower (grind (arith, nat_tests))
    at false true e f = higher (grind (arith, nat_tests))
    at false false e f = equal (grind (arith, nat_tests))

pub same_id : (n : ℕ) → (n == n) ≡ true
same_id n = grind (arith, nat_tests)

not_less : (n : ℕ) → nat_lt n n ≡ false
not_less n = grind (arith, nat_tests)

pub less : (a b : ℕ) → a < b → nat_lt a b ≡ true
less a b h = grind (arith, nat_tests)

not_below : (a b : ℕ) → b < a → nat_lt a b ≡ false
not_below a b h = grind (arith, nat_tests)

pub other_epoch : (a b : ℕ) → (a ≡ b → ⊥) → (a == b) ≡ false
other_epoch a b h = grind (arith, nat_tests)

-- a batch of the id, at this offset
module _ (entries : List (Placed Entry)) (offset : ℕ) (batch : Sequenced) where
  abbrev pub here : Placed Sequenced
  here = record { offset = offset; item = batch }

  abbrev pub entry : Placed Entry
  entry = record { offset = offset; item = Data batch }

  epoch_with : (o : Option ℕ) → epoch_of (items entries) batch.id ≡ o
      → epoch_of (items (entries ++ entry ∷ [])) batch.id ≡ greater o (Some batch.epoch)
  epoch_with o e =
      epoch-push entries entry batch.id
      ∙ ap (λ b. greater (epoch_of (items entries) batch.id) (cond b (Some batch.epoch) None))
      (same_id batch.id)
      ∙ ap (λ a. greater a (Some batch.epoch)) e

  batches_with : (epoch : ℕ) (is : Bool) → (batch.epoch == epoch) ≡ is
      → batches_in (entries ++ entry ∷ []) batch.id epoch
      ≡ batches_in entries batch.id epoch ++ cond is (here ∷ []) []
  batches_with epoch is e =
      batches-push entries entry batch.id epoch
      ∙ ap (λ b. batches_in entries batch.id epoch
      ++ cond (b && (batch.epoch == epoch)) (here ∷ []) []) (same_id batch.id)
      ∙ ap (λ b. batches_in entries batch.id epoch ++ cond b (here ∷ []) []) e

  marked_with : marked_by (items (entries ++ entry ∷ [])) batch.id
      ≡ marked_by (items entries) batch.id
  marked_with = marked-push entries entry batch.id

  abbrev pub noted_as : Option Known → Known
  noted_as before =
      with_batch batch.epoch (remembered_of here) (unwrap_or before (fresh batch.epoch))

  first_of_epoch : map remembered_of (last_of 5 (here ∷ [])) ≡ last_of 5 (remembered_of here ∷ [])
  first_of_epoch =
      ap (map remembered_of) (last_of_few 5 (here ∷ []) (omega arith))
      ∙ sym (last_of_few 5 (remembered_of here ∷ []) (omega arith))

  comes_first : epoch_of (items entries) batch.id ≡ None
      → known_in (entries ++ entry ∷ []) batch.id ≡ Some (noted_as (known_in entries batch.id))
  comes_first e =
      let known : Known = fresh batch.epoch in
      let nothing : known_in entries batch.id ≡ None = ap (known_at entries batch.id) e in
      known_is (entries ++ entry ∷ []) batch.id batch.epoch (here ∷ []) None
      (epoch_with None e)
      (batches_with batch.epoch true (same_id batch.epoch)
      ∙ ap (λ l. l ++ here ∷ []) (no_batches entries batch.id batch.epoch
      (subst (IsAbove batch.epoch) (sym e) above_none)))
      (marked_with ∙ no_marker (items entries) batch.id e)
      ∙ same_parts (noted_as None) batch.epoch (map remembered_of (last_of 5 (here ∷ []))) None
      (omega arith)
      (first_of_epoch
      ∙ ap (λ b. cond b [] (last_of 5 (cond b [] [] ++ remembered_of here ∷ [])))
      (sym (not_less batch.epoch)))
      refl
      ∙ ap (λ k. Some (noted_as k)) (sym nothing)

  comes_behind : (epoch : ℕ) → epoch_of (items entries) batch.id ≡ Some epoch
      → Order epoch batch.epoch
      → known_in (entries ++ entry ∷ []) batch.id ≡ Some (noted_as (known_in entries batch.id))
  comes_behind epoch e o = by o ∙ ap (λ k. Some (noted_as k)) (sym known)
    where
      before : Known
      before = record {
        epoch = epoch;
        remembered = map remembered_of (last_of 5 (batches_in entries batch.id epoch));
        marked_by = marked_by (items entries) batch.id;
      }

      known : known_in entries batch.id ≡ Some before
      known = ap (known_at entries batch.id) e

      -- the batch is remembered behind those of its epoch
      begins : (newer : Bool) → nat_lt epoch batch.epoch ≡ newer
          → nat_lt batch.epoch epoch ≡ false → (noted_as (Some before)).remembered
          ≡ last_of 5 (cond newer [] before.remembered ++ remembered_of here ∷ [])
      begins newer is old =
          ap (λ b. cond b before.remembered (last_of 5
          (cond (nat_lt epoch batch.epoch) [] before.remembered ++ remembered_of here ∷ []))) old
          ∙ ap (λ b. last_of 5 (cond b [] before.remembered ++ remembered_of here ∷ [])) is

      by : Order epoch batch.epoch
          → known_in (entries ++ entry ∷ []) batch.id ≡ Some (noted_as (Some before))
      by (lower h) =
          known_is (entries ++ entry ∷ []) batch.id batch.epoch (here ∷ []) before.marked_by
          (epoch_with (Some epoch) e ∙ ap Some (omega (arith, h)))
          (batches_with batch.epoch true (same_id batch.epoch)
          ∙ ap (λ l. l ++ here ∷ []) (no_batches entries batch.id batch.epoch
          (subst (IsAbove batch.epoch) (sym e) (above_some epoch h))))
          marked_with
          ∙ same_parts (noted_as (Some before)) batch.epoch
          (map remembered_of (last_of 5 (here ∷ []))) before.marked_by (omega (arith, h))
          (first_of_epoch ∙ sym (begins true (less epoch batch.epoch h)
          (not_below batch.epoch epoch h)))
          refl
      by (equal h) =
          known_is (entries ++ entry ∷ []) batch.id batch.epoch
          (batches_in entries batch.id epoch ++ here ∷ []) before.marked_by
          (epoch_with (Some epoch) e ∙ ap Some (omega (arith, h)))
          (batches_with batch.epoch true (same_id batch.epoch)
          ∙ ap (λ n. batches_in entries batch.id n ++ here ∷ []) (sym h))
          marked_with
          ∙ same_parts (noted_as (Some before)) batch.epoch
          (map remembered_of (last_of 5 (batches_in entries batch.id epoch ++ here ∷ [])))
          before.marked_by (omega (arith, h))
          (map_last-push remembered_of 5 (batches_in entries batch.id epoch) here (omega arith)
          ∙ sym (begins false (ap (λ n. nat_lt n batch.epoch) h ∙ not_less batch.epoch)
          (ap (nat_lt batch.epoch) h ∙ not_less batch.epoch)))
          refl
      by (higher h) =
          known_is (entries ++ entry ∷ []) batch.id epoch (batches_in entries batch.id epoch)
          before.marked_by (epoch_with (Some epoch) e ∙ ap Some (omega (arith, h)))
          (batches_with epoch false (other_epoch batch.epoch epoch (λ k. omega (arith, h, k)))
          ∙ append-nil (batches_in entries batch.id epoch))
          marked_with
          ∙ same_parts (noted_as (Some before)) epoch before.remembered before.marked_by
          (omega (arith, h))
          (ap (λ b. cond b before.remembered (last_of 5
          (cond (nat_lt epoch batch.epoch) [] before.remembered ++ remembered_of here ∷ [])))
          (sym (less batch.epoch epoch h)))
          refl

  pub batch_comes : known_in (entries ++ entry ∷ []) batch.id
      ≡ Some (noted_as (known_in entries batch.id))
  batch_comes = at (epoch_of (items entries) batch.id) refl
    where
      at : (o : Option ℕ) → epoch_of (items entries) batch.id ≡ o
          → known_in (entries ++ entry ∷ []) batch.id
          ≡ Some (noted_as (known_in entries batch.id))
      at None e = comes_first e
      at (Some epoch) e = comes_behind epoch e (order epoch batch.epoch)

-- a marker of the id
module _ (entries : List (Placed Entry)) (offset : ℕ) (marker : Marker) where
  abbrev pub end : Placed Entry
  end = record { offset = offset; item = Control marker }

  epoch_marked : (o : Option ℕ) → epoch_of (items entries) marker.id ≡ o
      → epoch_of (items (entries ++ end ∷ [])) marker.id ≡ greater o (Some marker.epoch)
  epoch_marked o e =
      epoch-push entries end marker.id
      ∙ ap (λ b. greater (epoch_of (items entries) marker.id) (cond b (Some marker.epoch) None))
      (same_id marker.id)
      ∙ ap (λ a. greater a (Some marker.epoch)) e

  batches_marked : (epoch : ℕ) → batches_in (entries ++ end ∷ []) marker.id epoch
      ≡ batches_in entries marker.id epoch
  batches_marked epoch =
      batches-push entries end marker.id epoch ∙ append-nil (batches_in entries marker.id epoch)

  coordinator_marked : marked_by (items (entries ++ end ∷ [])) marker.id
      ≡ Some marker.coordinator
  coordinator_marked =
      marked-push entries end marker.id
      ∙ ap (λ b. or_before (cond b (Some marker.coordinator) None)
      (marked_by (items entries) marker.id)) (same_id marker.id)

  abbrev pub marked_as : Option Known → Known
  marked_as before =
      with_marker marker.epoch marker.coordinator (unwrap_or before (fresh marker.epoch))

  marks_first : epoch_of (items entries) marker.id ≡ None
      → known_in (entries ++ end ∷ []) marker.id ≡ Some (marked_as (known_in entries marker.id))
  marks_first e =
      let nothing : known_in entries marker.id ≡ None = ap (known_at entries marker.id) e in
      known_is (entries ++ end ∷ []) marker.id marker.epoch [] (Some marker.coordinator)
      (epoch_marked None e)
      (batches_marked marker.epoch ∙ no_batches entries marker.id marker.epoch
      (subst (IsAbove marker.epoch) (sym e) above_none))
      coordinator_marked
      ∙ same_parts (marked_as None) marker.epoch (map remembered_of (last_of 5 []))
      (Some marker.coordinator) (omega arith)
      (ap (map remembered_of) (last_of_few 5 [] (omega arith))
      ∙ ap (λ b. cond b [] []) (sym (not_less marker.epoch)))
      refl
      ∙ ap (λ k. Some (marked_as k)) (sym nothing)

  marks_behind : (epoch : ℕ) → epoch_of (items entries) marker.id ≡ Some epoch
      → Order epoch marker.epoch
      → known_in (entries ++ end ∷ []) marker.id ≡ Some (marked_as (known_in entries marker.id))
  marks_behind epoch e o = by o ∙ ap (λ k. Some (marked_as k)) (sym known)
    where
      before : Known
      before = record {
        epoch = epoch;
        remembered = map remembered_of (last_of 5 (batches_in entries marker.id epoch));
        marked_by = marked_by (items entries) marker.id;
      }

      known : known_in entries marker.id ≡ Some before
      known = ap (known_at entries marker.id) e

      -- no newer epoch
      stays : max epoch marker.epoch ≡ epoch → nat_lt epoch marker.epoch ≡ false
          → known_in (entries ++ end ∷ []) marker.id ≡ Some (marked_as (Some before))
      stays same old =
          known_is (entries ++ end ∷ []) marker.id epoch (batches_in entries marker.id epoch)
          (Some marker.coordinator) (epoch_marked (Some epoch) e ∙ ap Some same)
          (batches_marked epoch) coordinator_marked
          ∙ same_parts (marked_as (Some before)) epoch before.remembered
          (Some marker.coordinator) (sym same)
          (ap (λ b. cond b [] before.remembered) (sym old)) refl

      by : Order epoch marker.epoch
          → known_in (entries ++ end ∷ []) marker.id ≡ Some (marked_as (Some before))
      by (equal h) =
          stays (omega (arith, h)) (ap (λ n. nat_lt n marker.epoch) h ∙ not_less marker.epoch)
      by (higher h) = stays (omega (arith, h)) (not_below epoch marker.epoch h)
      by (lower h) =
          known_is (entries ++ end ∷ []) marker.id marker.epoch [] (Some marker.coordinator)
          (epoch_marked (Some epoch) e ∙ ap Some (omega (arith, h)))
          (batches_marked marker.epoch ∙ no_batches entries marker.id marker.epoch
          (subst (IsAbove marker.epoch) (sym e) (above_some epoch h)))
          coordinator_marked
          ∙ same_parts (marked_as (Some before)) marker.epoch
          (map remembered_of (last_of 5 [])) (Some marker.coordinator) (omega (arith, h))
          (ap (map remembered_of) (last_of_few 5 [] (omega arith))
          ∙ ap (λ b. cond b [] before.remembered) (sym (less epoch marker.epoch h)))
          refl

  pub marker_comes : known_in (entries ++ end ∷ []) marker.id
      ≡ Some (marked_as (known_in entries marker.id))
  marker_comes = at (epoch_of (items entries) marker.id) refl
    where
      at : (o : Option ℕ) → epoch_of (items entries) marker.id ≡ o
          → known_in (entries ++ end ∷ []) marker.id
          ≡ Some (marked_as (known_in entries marker.id))
      at None e = marks_first e
      at (Some epoch) e = marks_behind epoch e (order epoch marker.epoch)
