-- The requests behind the batches that stand in a world's logs, with their places.
use Rattle.std.proofs.Common.{◌≡◌, ⊎_elim, ℕ, ◌+◌, true, ◌&&◌}
use Rattle.std.proofs.Common.{List, [], ◌∷◌, ◌++◌, Option, Some, None, ◌==◌, Contains, refl, sym}
use Rattle.std.proofs.Common.{ap, ◌∙◌, subst, arith}
use Rattle.std.specs.Prelude.{IfSome, sum_by}
use Rattle.std.proofs.lemmas.Bool.{and_from, and_parts}
use Rattle.std.proofs.lemmas.Bool.Decides.{nat_tests}
use Rattle.std.proofs.lemmas.List.Elements.{Contains-append_right}
use Rattle.std.proofs.lemmas.List.Sums.{sum_by-cons}
use Rattle.kx_message.specs.declared.message.Message.{Message}
use Rattle.kx_batch.specs.Batch.{batch_of}
use Rattle.kx_model.specs.Headline.{is_stored_as}
use Rattle.kx_model.specs.Log.{Entry, Plain, Data, Control, Placed, Sequenced, Stored, end, entries}
use Rattle.kx_model.specs.Log.{entry_in, entry_of, placed_by, stored_width}
use Rattle.kx_model.specs.PartitionNode.{Partition}
use Rattle.kx_model.specs.Produce.{stored_at}
use Rattle.kx_model.specs.Verification.{Request}
use Rattle.kx_model.specs.World.{World, entries_at, log_at, log_in, partition_at}
use Rattle.kx_model.proofs.Logs.{end_is}
use Rattle.kx_headline.proofs.LogCauses.{data_came, each_came}
use Rattle.kx_laws.proofs.Membership.{SplitAt, cons_cases, contains_head, map_holds, no_element}
use Rattle.kx_laws.proofs.Membership.{split_at}
use Rattle.kx_laws.proofs.Pages.{placed_by-append}
use Rattle.kx_headline.proofs.PartitionsAlways.{PartitionsHold}
use Rattle.kx_headline.proofs.PartitionHolds.{Built, MarkersFit, PartitionHolds, WasAsked}
use Rattle.kx_headline.proofs.PartitionHolds as holds

------ a stored batch and its place

-- a stored batch between those before it and those behind it
pub record StandsIn (n : ℕ) (log : List Stored) (p : Placed Stored) : Type 0 where
  pub before : List Stored
  pub after : List Stored
  pub parts : log ≡ before ++ p.item ∷ after
  pub offset : p.offset ≡ n + end (entries before)

pub stands_in : (n : ℕ) (log : List Stored) (p : Placed Stored)
    → Contains (placed_by stored_width n log) p → StandsIn n log p
stands_in n [] p c = absurd (no_element p c)
stands_in n (s ∷ log) p c =
    ⊎_elim
    (λ e. record {
      before = [];
      after = log;
      parts = ap (λ (q : Placed Stored). q.item ∷ log) e;
      offset = sym (ap (λ (q : Placed Stored). q.offset) e) ∙ omega arith;
    })
    (λ c. let t = stands_in (n + stored_width s) log p c in
    record {
      before = s ∷ t.before;
      after = t.after;
      parts = ap (λ (l : List Stored). s ∷ l) t.parts;
      offset = omega (
        arith,
        t.offset,
        end_is t.before,
        end_is (s ∷ t.before),
        sum_by-cons stored_width s t.before,
      );
    })
    (cons_cases (record { offset = n; item = s }) p
    (placed_by stored_width (n + stored_width s) log) c)

in_the_log : (before after : List Stored) (s : Stored)
    → Contains (placed_by stored_width 0 (before ++ s ∷ after))
    (record { offset = end (entries before); item = s })
in_the_log before after s =
    let n = 0 + sum_by stored_width before in
    let at : ℕ → Placed Stored = λ k. record { offset = k; item = s } in
    let place : n ≡ end (entries before) = omega (arith, end_is before) in
    subst (λ l. Contains l (at (end (entries before))))
    (sym (placed_by-append stored_width 0 before (s ∷ after)))
    (Contains-append_right (placed_by stored_width 0 before)
    (placed_by stored_width n (s ∷ after)) (at (end (entries before)))
    (subst (λ k. Contains (placed_by stored_width n (s ∷ after)) (at k)) place
    (contains_head (at n) (placed_by stored_width (n + stored_width s) after))))

-- a batch of the log stands at the end of those before it
stands_at_end : (log : List Stored) (s : Stored) (p : SplitAt log s)
    → Contains (placed_by stored_width 0 log)
    (record { offset = end (entries p.before); item = s })
stands_at_end log s p =
    subst (λ l. Contains (placed_by stored_width 0 l)
    (record { offset = end (entries p.before); item = s })) (sym p.parts)
    (in_the_log p.before p.after s)

-- the entry is a batch of this id, epoch and first sequence
pub record IsSame (d : Sequenced) (entry : Entry) : Type 0 where
  pub batch : Sequenced
  pub is : entry ≡ Data batch
  pub id : batch.id ≡ d.id
  pub epoch : batch.epoch ≡ d.epoch
  pub first : batch.first ≡ d.first

pub same_tells : (d : Sequenced) (entry : Entry) → is_stored_as d entry ≡ true → IsSame d entry
same_tells d (Plain records) h = absurd cc
same_tells d (Control m) h = absurd cc
same_tells d (Data e) h =
    let x = and_parts (e.id == d.id && e.epoch == d.epoch) (e.first == d.first) h in
    let y = and_parts (e.id == d.id) (e.epoch == d.epoch) x.0 in
    record {
      batch = e;
      is = refl;
      id = grind (arith, nat_tests, y.0);
      epoch = grind (arith, nat_tests, y.1);
      first = grind (arith, nat_tests, x.1);
    }

pub stored_as : (d e : Sequenced) → e.id ≡ d.id → e.epoch ≡ d.epoch → e.first ≡ d.first
    → is_stored_as d (Data e) ≡ true
stored_as d e i k f =
    and_from (e.id == d.id && e.epoch == d.epoch) (e.first == d.first)
    (and_from (e.id == d.id) (e.epoch == d.epoch) (grind (arith, nat_tests, i))
    (grind (arith, nat_tests, k)))
    (grind (arith, nat_tests, f))

-- the log of a partition that holds is built, and where there is none it is empty
pub built_in : (sent : List Message) (q : ℕ) (o : Option Partition)
    → IfSome o (PartitionHolds sent q) → Built sent q (log_in o)
built_in sent q None h = holds.start
built_in sent q (Some p) h = h.log

------ in a world

-- the request by which a batch stands at an offset of a partition's log
pub record StoredRequest (w : World) (q offset : ℕ) (stored : Stored) (d : Sequenced)
    : Type 0 where
  pub request : Request
  pub asked_for : WasAsked w.sent q request
  pub is : stored ≡ stored_at offset request.text
  pub reads : entry_in (batch_of request.text) ≡ Data d

pub stored_request : (w : World) → PartitionsHold w → MarkersFit w.sent → (q offset : ℕ)
    (stored : Stored) (d : Sequenced)
    → Contains (placed_by stored_width 0 (log_at w q)) (record { offset = offset; item = stored })
    → entry_of stored ≡ Data d → StoredRequest w q offset stored d
stored_request w all fit q offset stored d c e =
    let log = log_at w q in
    let s = stands_in 0 log (record { offset = offset; item = stored }) c in
    let came = each_came w.sent q log (built_in w.sent q (partition_at w q) (all q)) s.before stored
    s.after s.parts in
    let cause = data_came w.sent q fit s.before stored d came e in
    let place : end (entries s.before) ≡ offset = omega (arith, s.offset) in
    record {
      request = cause.request;
      asked_for = cause.asked_for;
      is = cause.is ∙ ap (λ n. stored_at n cause.request.text) place;
      reads = cause.entry;
    }

-- where the batch of an entry stands
pub record Place (w : World) (q : ℕ) (d : Sequenced) : Type 0 where
  pub offset : ℕ
  pub stored : Stored
  pub there : Contains (placed_by stored_width 0 (log_at w q))
      (record { offset = offset; item = stored })
  pub is : entry_of stored ≡ Data d

pub place_of : (w : World) (q : ℕ) (d : Sequenced) → Contains (entries_at w q) (Data d)
    → Place w q d
place_of w q d c =
    let x = map_holds entry_of (log_at w q) (Data d) c in
    let p = split_at (log_at w q) x.0 x.1 in
    record {
      offset = end (entries p.before);
      stored = x.0;
      there = stands_at_end (log_at w q) x.0 p;
      is = x.2;
    }
