-- A world in which the events happened stands for the system to which they lead.
use Rattle.std.proofs.Common.{◌≡◌, ◌≤◌, ◌∙◌, ◌⊎◌, ℕ, Bool, true, List, [], ◌∷◌, All, Option}
use Rattle.std.proofs.Common.{map, inl, inr, sym, ap, subst, arith}
use Rattle.std.specs.Prelude.{nat_le}
use Rattle.std.proofs.lemmas.Bool.Decides.{nat_tests}
use Rattle.std.proofs.lemmas.List.Elements.{All-head, All-tail}
use Rattle.kx_batch.specs.Batch.{batch_limit}
use Rattle.kx_core.specs.World.{IsEvent, NoneLeft, OneMore, Runs}
use Rattle.kx_core.specs.declared.event.Event as happening
use Rattle.kx_core.specs.declared.event.Event.TheVariants as event
use Rattle.kx_machine.specs.Meaning.{input_of}
use Rattle.kx_machine.specs.Stores.{FailsWith, IsMode}
use Rattle.kx_machine.specs.declared.machine.StoreMode.{StoreMode}
use Rattle.kx_machine.specs.declared.machine.StoreMode.TheVariants as mode
use Rattle.kx_model.specs.Disk.{Store, Works, Fails, CannotLoad}
use Rattle.kx_model.specs.World.{Deliver, Hand}
use Rattle.kx_pipeline.specs.OpenSystems.{Inside, OpenSystemEvent, open_system_step}
use Rattle.kx_pipeline.specs.OpenSystems.{run_open_system}
use Rattle.kx_rerun.specs.Events.{IsSure, IsSureMode, meaning, store_of}
use Rattle.kx_system.specs.Processor.{Images}
use Rattle.kx_system.specs.System.{Happens, System}

-- what a store leaves that keeps all of an entry or nothing
kept_is : (keep : ℕ) (size : Option ℕ) (whole : Bool) → (keep ≡ 0) ⊎ (batch_limit ≤ keep)
    → FailsWith keep size (Fails whole) → whole ≡ nat_le batch_limit keep
kept_is keep size whole (inl none) is =
    is.0 none ∙ sym (ap (λ (k : ℕ). nat_le batch_limit k) none)
kept_is keep size whole (inr all) is =
    let every : nat_le batch_limit keep ≡ true = grind (arith, nat_tests) in
    is.1 all ∙ sym every

fails_store : (keep : ℕ) (size : Option ℕ) (store : Store)
    → (keep ≡ 0) ⊎ (batch_limit ≤ keep) → FailsWith keep size store
    → store ≡ Fails (nat_le batch_limit keep)
fails_store keep size Works sure is = absurd is
fails_store keep size CannotLoad sure is = absurd is
fails_store keep size (Fails whole) sure is = ap Fails (kept_is keep size whole sure is)

sure_store : (m : StoreMode) (size : Option ℕ) (store : Store) → IsSureMode m
    → IsMode m size store → store ≡ store_of m
sure_store mode.Works size store sure is = is
sure_store (mode.Fails keep) size store sure is = fails_store keep size store sure is
sure_store mode.CannotLoad size store sure is = is

module _ {F : Type 0} (image_of : F → Images) where
  sure_event : (s : System) (given : happening.Event F) (e : OpenSystemEvent) → IsSure given
      → IsEvent image_of s given e → e ≡ meaning image_of given
  sure_event s (event.Make client txn timeout) e sure is = is
  sure_event s (event.MakeProcessor client txn timeout group inputs process) e sure is = is
  sure_event s (event.Deliver number to mode) e sure is =
      is.2 ∙ ap (λ (x : Store). Inside (Happens (Deliver number to x)))
      (sure_store mode _ is.0 sure is.1)
  sure_event s (event.Hand to input mode) e sure is =
      is.2 ∙ ap (λ (x : Store). Inside (Happens (Hand to (input_of input) x)))
      (sure_store mode _ is.0 sure is.1)
  sure_event s (event.Arrive request) e sure is = is

  pub runs_to : (StandsFor : System → Type 0) (s : System) (es : List (happening.Event F))
      → All IsSure es → Runs image_of StandsFor s es
      → StandsFor (run_open_system (map (meaning image_of) es) s)
  unfolding run_open_system
  runs_to StandsFor s [] sure (NoneLeft _ h) = h
  runs_to StandsFor s (given ∷ more) sure (OneMore _ _ _ happened is rest) =
      subst (λ (o : OpenSystemEvent).
      StandsFor (run_open_system (map (meaning image_of) more) (open_system_step s o).0))
      (sure_event s given happened (All-head IsSure given more sure) is)
      (runs_to StandsFor (open_system_step s happened).0 more
      (All-tail IsSure given more sure) rest)
