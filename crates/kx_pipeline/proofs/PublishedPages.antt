-- A page of a log that a partition had shows what is visible in the world: what is committed in its
-- range stays, and each transaction there is closed as it was decided.
use Rattle.std.proofs.Common.{◌≡◌, ◌⊎◌, inl, inr, ◌≤◌, ℕ, ℤ, pos, ◌≤ℤ◌, List, [], filter, Ok}
use Rattle.std.proofs.Common.{true, sym, ap, ◌∙◌, subst, arith, append-nil}
use Rattle.std.proofs.lemmas.Int.{ints}
use Rattle.std.proofs.lemmas.List.{map-append}
use mathlib.Core.List.{IsPrefix}
use Rattle.kx_model.specs.Coordinator.{commits}
use Rattle.kx_model.specs.Headline.{HasOneOutcome}
use Rattle.kx_model.specs.Log.{Entry, Stored, entries, entry_of}
use Rattle.kx_model.specs.Page.{Fetched, answer_to, fetched_of, page}
use Rattle.kx_model.specs.Reading.{committed_of, visible}
use Rattle.kx_model.specs.Transactions.{has_commit, last_stable_offset}
use Rattle.kx_model.specs.World.{World, entries_at, log_at, notes, run}
use Rattle.kx_laws.specs.Grown.{IsGrown}
use Rattle.kx_laws.proofs.ClosedByCommit.{closes_known}
use Rattle.kx_laws.proofs.CommittedPages.{committed_stays, fetched_page, page_ends}
use Rattle.kx_laws.proofs.GrownFronts.{grown_front}
use Rattle.kx_laws.proofs.GrownLogs.{each_admitted}
use Rattle.kx_laws.proofs.StableRanges.{range_stays, stable_grows_on}
use Rattle.kx_headline.proofs.WorldReaders.{decided_known}
use Rattle.kx_pipeline.specs.Visible.{between, visible_in}

module _ (w : World) (q : ℕ) (log : List Stored) (grown : IsGrown (log_at w q))
    (begins : IsPrefix log (log_at w q)) (from : ℤ) (room : ℕ) (got : Fetched)
    (is : answer_to log from room true ≡ Ok got) where
  abbrev whole : List Entry
  whole = entries_at w q

  -- last stable offsets never go back
  grows : last_stable_offset (entries log) ≤ last_stable_offset whole
  grows =
      subst (λ (l : List Entry). last_stable_offset (entries log) ≤ last_stable_offset l)
      (sym (map-append entry_of log begins.0) ∙ ap entries begins.1)
      (stable_grows_on (entries log) (entries begins.0))

  -- the page is empty, or ends by the last stable offset
  ends : (got.next ≡ from) ⊎ (got.next ≤ℤ pos (last_stable_offset whole))
  ends =
      by (page log f.0 room true).next (ap (λ (g : Fetched). g.next) f.2)
      (page_ends log f.0 room (grown_front log begins.0 (subst IsGrown (sym begins.1) grown))).stable
    where
      f : (n : ℕ) × (from ≡ pos n) × (got ≡ fetched_of (page log n room true))
      f = fetched_page log room from got is

      by : (n : ℕ) → got.next ≡ pos n → (n ≡ f.0) ⊎ (n ≤ last_stable_offset (entries log))
          → (got.next ≡ from) ⊎ (got.next ≤ℤ pos (last_stable_offset whole))
      by n next (inl e) = inl (next ∙ ap pos e ∙ sym f.1)
      by n next (inr le) =
          inr (subst (λ (z : ℤ). z ≤ℤ pos (last_stable_offset whole)) (sym next)
          (omega (arith, ints, le, grows)))

  pub shows_visible : HasOneOutcome w → committed_of got ≡ visible_in w q from got.next
  unfolding run
  shows_visible one =
      let each = each_admitted (log_at w q) grown in
      committed_stays log (log_at w q) from room got grown begins is
      ∙ sym (range_stays whole (has_commit whole) (commits (notes w)) (closes_known whole each)
      (decided_known w [] q one each) [] from got.next ends)
      ∙ ap (λ l. filter (between from got.next) (visible l (commits (notes w)))) (append-nil whole)
