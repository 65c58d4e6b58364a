-- A step's mark tells what the coordinator answers, if what stands behind its closed log is
-- open.
use Rattle.std.proofs.Common.{◌≡◌, ℕ, Bool, true, false, [], Option, Some, None, refl}
use Rattle.std.proofs.Common.{sym, ap, subst}
use Rattle.std.specs.Prelude.{◌≢◌, is_none, is_some, if◌then◌else◌}
use Rattle.kx_machine.specs.Meaning.{NodeState, AtCoordinator, note_of, of_kind, taken_of}
use Rattle.kx_machine.specs.declared.taken.Taken.{Taken}
use Rattle.kx_model.specs.Coordinator.{TxnEntry}
use Rattle.kx_model.specs.CoordinatorNode.{Coordinator, opens}
use Rattle.kx_model.specs.Disk.{Store, Works, Fails, CannotLoad, Reopening, Reopens}
use Rattle.kx_model.specs.Disk.{CannotRead, CannotWrite, reread, shut}
use Rattle.kx_model.specs.Markers.{reopen}
use Rattle.kx_model.specs.Step.{Input, Comes, Commands, Expires, Reminds, Drops, Puts, Restarts}
use Rattle.kx_model.specs.Step.{NodeStep, StepNote, Done, Unread, Unwritten, RunsOut, coordinates}
use Rattle.kx_model.specs.Step.{coordinator_step}
use Rattle.kx_nodes.specs.Alike.{AreAlike, AreSame, OneHides}
use Rattle.kx_nodes.specs.Replay.{mark_of}
use Rattle.kx_nodes.specs.declared.mark.Mark.TheVariants as mark
use Rattle.kx_nodes.proofs.CoordinatorSteps.{Steps, but, comes_alike, expires_alike}
use Rattle.kx_nodes.proofs.CoordinatorSteps.{step_hiding}
use Rattle.kx_nodes.proofs.Disks.{Alike, Apart, Itself, MayHide, Other}
use Rattle.kx_nodes.proofs.Leaving.{IsPlain}
use Rattle.kx_nodes.proofs.Telling.{BothTell, Compares, OneFails, Plain, TellsByMark, by_mark}
use Rattle.kx_nodes.proofs.Telling.{closed_mark, done_found, fails_alike, never_unread}
use Rattle.kx_nodes.proofs.Telling.{never_unwritten, never_used_up, served, shut_may}

abbrev of_node : NodeStep Coordinator → NodeStep NodeState
of_node s = of_kind AtCoordinator s

alike : (co : Coordinator) (hidden : Option TxnEntry) → MayHide co.disk hidden
    → AreAlike (AtCoordinator co) (AtCoordinator (but co hidden))
alike co hidden (Itself e) = AreSame (ap (λ h. AtCoordinator (but co h)) e)
alike co hidden (Other closed differ) = OneHides closed differ refl

------ steps but restarts

abbrev answer : Coordinator → NodeStep Coordinator → Taken
answer co s = served (AtCoordinator co) (of_node s)

served_compares : (co : Coordinator) (hidden : Option TxnEntry) (store other : Store)
    (one two : NodeStep Coordinator) → Plain one.note → Plain two.note
    → Steps co store other one two
    → Compares store other (answer co one) (answer (but co hidden) two) (AtCoordinator one.state)
    (AtCoordinator two.state)
served_compares co hidden store other one two plain clear (Alike h e may) =
    let q = but co hidden in
    subst (λ (s : NodeStep Coordinator). Compares store other (answer co one) (answer q s)
    (AtCoordinator one.state) (AtCoordinator s.state)) (sym e)
    (BothTell (record {
      same = ap (λ failed. record {
        messages = one.messages;
        note = note_of one.note;
        failed = failed;
        found = false;
      }) (fails_alike one.note (AtCoordinator co) (AtCoordinator q) (of_node one)
          (of_node (step_hiding one h)) refl refl);
      alike = alike one.state h may;
    }))
served_compares co hidden store other one two plain clear (Apart opened a b differ) =
    OneFails (closed_mark (AtCoordinator co) (of_node one) store opened plain a)
    (closed_mark (AtCoordinator (but co hidden)) (of_node two) other opened clear b) differ

------ restarts that read the log

-- what a restart notes that read the log, by the entry that it is to write
abbrev note_by : Reopening → Option TxnEntry → StepNote
note_by Reopens entry = if is_none entry then RunsOut else Done
note_by CannotRead entry = Unread
note_by (CannotWrite whole) entry = if is_none entry then RunsOut else Unwritten

abbrev pub opening : Coordinator → ℕ → Reopening → Option TxnEntry → NodeStep Coordinator
opening co now how entry = coordinates (opens co now how entry) (note_by how entry)

abbrev pub restarted : Coordinator → ℕ → NodeStep Coordinator → Taken
restarted co now s = taken_of (AtCoordinator co) (Restarts now) (of_node s)

abbrev RestartsTell : Coordinator → Coordinator → ℕ → NodeStep Coordinator → NodeStep Coordinator
    → Type 0
RestartsTell co q now s t =
    TellsByMark (restarted co now s) (restarted q now t) (AtCoordinator s.state)
    (AtCoordinator t.state)

unwritten_tells : (a b : Bool) → mark.Unwritten a ≡ mark.Unwritten b → a ≡ b
unwritten_tells a b e = cc

-- it read the log
abbrev pub Reads : Reopening → Type 0
Reads Reopens = Unit {0}
Reads CannotRead = ⊥
Reads (CannotWrite whole) = Unit {0}

-- the coordinator, whose new epoch couldn't be written
abbrev unwritten : Coordinator → ℕ → Bool → TxnEntry → NodeState
unwritten co now whole note = AtCoordinator (opens co now (CannotWrite whole) (Some note)).0

unwritten_alike : (co : Coordinator) (now : ℕ) (one two : Bool) (note : TxnEntry)
    → AreAlike (unwritten co now one note) (unwritten co now two note)
unwritten_alike co now true true note = AreSame refl
unwritten_alike co now false false note = AreSame refl
unwritten_alike co now true false note = OneHides refl (λ e. cc) refl
unwritten_alike co now false true note = OneHides refl (λ e. cc) refl

-- of the same coordinator
same_tell : (co : Coordinator) (now : ℕ) (how other : Reopening) (entry : Option TxnEntry)
    → Reads how → Reads other
    → RestartsTell co co now (opening co now how entry) (opening co now other entry)
same_tell co now CannotRead other entry reads can = absurd reads
same_tell co now how CannotRead entry reads can = absurd can
same_tell co now Reopens Reopens entry reads can =
    λ marks. record { same = refl; alike = AreSame refl }
same_tell co now Reopens (CannotWrite whole) None reads can =
    λ marks. record { same = refl; alike = AreSame refl }
same_tell co now (CannotWrite whole) Reopens None reads can =
    λ marks. record { same = refl; alike = AreSame refl }
same_tell co now (CannotWrite whole) (CannotWrite all) None reads can =
    λ marks. record { same = refl; alike = AreSame refl }
same_tell co now Reopens (CannotWrite whole) (Some note) reads can =
    let hid = is_some co.disk.hidden in
    λ marks. absurd (never_unwritten co.disk.closed hid hid marks)
same_tell co now (CannotWrite whole) Reopens (Some note) reads can =
    let hid = is_some co.disk.hidden in
    λ marks. absurd (never_unwritten co.disk.closed hid hid (sym marks))
same_tell co now (CannotWrite whole) (CannotWrite all) (Some note) reads can =
    λ marks. record { same = refl; alike = unwritten_alike co now whole all note }

module _ (co : Coordinator) (hidden : Option TxnEntry) (now : ℕ) where
  abbrev closed : Bool
  closed = co.disk.closed

  abbrev hid : Bool
  hid = is_some co.disk.hidden

  abbrev other_hid : Bool
  other_hid = is_some hidden

  abbrev OpeningsTell : Reopening → Reopening → Option TxnEntry → Option TxnEntry → Type 0
  OpeningsTell how other entry instead =
      RestartsTell co (but co hidden) now (opening co now how entry)
      (opening (but co hidden) now other instead)

  -- one of them alone hides an entry
  other_tell : closed ≡ true → hid ≢ other_hid → (how other : Reopening)
      (entry instead : Option TxnEntry) → Reads how → Reads other
      → OpeningsTell how other entry instead
  other_tell is differ CannotRead other entry instead reads can = absurd reads
  other_tell is differ how CannotRead entry instead reads can = absurd can
  other_tell is differ Reopens Reopens None None reads can =
      λ marks. record { same = refl; alike = OneHides is differ refl }
  other_tell is differ Reopens (CannotWrite whole) None None reads can =
      λ marks. record { same = refl; alike = OneHides is differ refl }
  other_tell is differ (CannotWrite whole) Reopens None None reads can =
      λ marks. record { same = refl; alike = OneHides is differ refl }
  other_tell is differ (CannotWrite whole) (CannotWrite all) None None reads can =
      λ marks. record { same = refl; alike = OneHides is differ refl }
  other_tell is differ Reopens Reopens None (Some note) reads can =
      λ marks. absurd (never_used_up closed other_hid (sym marks))
  other_tell is differ (CannotWrite whole) Reopens None (Some note) reads can =
      λ marks. absurd (never_used_up closed other_hid (sym marks))
  other_tell is differ Reopens (CannotWrite whole) None (Some note) reads can = λ marks. cc
  other_tell is differ (CannotWrite whole) (CannotWrite all) None (Some note) reads can =
      λ marks. cc
  other_tell is differ Reopens Reopens (Some note) None reads can =
      λ marks. absurd (never_used_up closed hid marks)
  other_tell is differ Reopens (CannotWrite whole) (Some note) None reads can =
      λ marks. absurd (never_used_up closed hid marks)
  other_tell is differ (CannotWrite whole) Reopens (Some note) None reads can = λ marks. cc
  other_tell is differ (CannotWrite whole) (CannotWrite all) (Some note) None reads can =
      λ marks. cc
  other_tell is differ Reopens Reopens (Some note) (Some instead) reads can =
      λ marks. absurd (differ (done_found closed hid closed other_hid marks))
  other_tell is differ Reopens (CannotWrite whole) (Some note) (Some instead) reads can =
      λ marks. absurd (never_unwritten closed hid other_hid marks)
  other_tell is differ (CannotWrite whole) Reopens (Some note) (Some instead) reads can =
      λ marks. absurd (never_unwritten closed other_hid hid (sym marks))
  other_tell is differ (CannotWrite whole) (CannotWrite all) (Some note) (Some instead) reads
      can =
      λ marks. absurd (differ (unwritten_tells hid other_hid marks))

  openings_tell : (how other : Reopening) → Reads how → Reads other → MayHide co.disk hidden
      → OpeningsTell how other (reopen (reread co.disk)) (reopen (reread (but co hidden).disk))
  openings_tell how other reads can (Itself e) =
      let entry = reopen (reread co.disk) in
      subst (λ (h : Option TxnEntry). RestartsTell co (but co h) now (opening co now how entry)
      (opening (but co h) now other (reopen (reread (but co h).disk)))) e
      (same_tell co now how other entry reads can)
  openings_tell how other reads can (Other is differ) =
      other_tell is differ how other (reopen (reread co.disk))
      (reopen (reread (but co hidden).disk)) reads can

------ restarts that couldn't read the log

abbrev shuts : Coordinator → NodeStep Coordinator
shuts co = coordinates (record co { disk = shut co.disk }, []) Unread

-- no other restart has that mark
pub never_shut : (co : Coordinator) (now : ℕ) (how : Reopening) (entry : Option TxnEntry) →
    Reads how
    → mark_of (restarted co now (opening co now how entry)) ≡ mark.Unread → ⊥
never_shut co now CannotRead entry reads e = absurd reads
never_shut co now Reopens None reads e = cc
never_shut co now (CannotWrite whole) None reads e = cc
never_shut co now Reopens (Some note) reads e =
    never_unread co.disk.closed (is_some co.disk.hidden) e
never_shut co now (CannotWrite whole) (Some note) reads e = cc

module _ (co : Coordinator) (hidden : Option TxnEntry) (now : ℕ) where
  shuts_tell : MayHide co.disk hidden
      → RestartsTell co (but co hidden) now (shuts co) (shuts (but co hidden))
  shuts_tell may = λ marks. record {
    same = refl;
    alike = alike (shuts co).state hidden (shut_may co.disk hidden may);
  }

  shuts_or_opens : (how : Reopening) (entry : Option TxnEntry) → Reads how
      → RestartsTell co (but co hidden) now (shuts co) (opening (but co hidden) now how entry)
  shuts_or_opens how entry reads =
      λ marks. absurd (never_shut (but co hidden) now how entry reads (sym marks))

  opens_or_shuts : (how : Reopening) (entry : Option TxnEntry) → Reads how
      → RestartsTell co (but co hidden) now (opening co now how entry) (shuts (but co hidden))
  opens_or_shuts how entry reads = λ marks. absurd (never_shut co now how entry reads marks)

  restart_tells : (store other : Store) → MayHide co.disk hidden
      → RestartsTell co (but co hidden) now (coordinator_step co store (Restarts now))
      (coordinator_step (but co hidden) other (Restarts now))
  restart_tells CannotLoad CannotLoad may = shuts_tell may
  restart_tells CannotLoad Works may =
      shuts_or_opens Reopens (reopen (reread (but co hidden).disk)) tt
  restart_tells CannotLoad (Fails whole) may =
      shuts_or_opens (CannotWrite whole) (reopen (reread (but co hidden).disk)) tt
  restart_tells Works CannotLoad may = opens_or_shuts Reopens (reopen (reread co.disk)) tt
  restart_tells (Fails whole) CannotLoad may =
      opens_or_shuts (CannotWrite whole) (reopen (reread co.disk)) tt
  restart_tells Works Works may = openings_tell co hidden now Reopens Reopens tt tt may
  restart_tells Works (Fails whole) may =
      openings_tell co hidden now Reopens (CannotWrite whole) tt tt may
  restart_tells (Fails whole) Works may =
      openings_tell co hidden now (CannotWrite whole) Reopens tt tt may
  restart_tells (Fails whole) (Fails all) may =
      openings_tell co hidden now (CannotWrite whole) (CannotWrite all) tt tt may

------ all steps

pub coordinator_plain : (co : Coordinator) (store : Store) (input : Input) → IsPlain input
    → Plain (coordinator_step co store input).note
coordinator_plain co store (Restarts now) plain = absurd plain
coordinator_plain co store input plain = tt

module _ (co : Coordinator) (hidden : Option TxnEntry) (store other : Store)
    (may : MayHide co.disk hidden) where
  pub coordinator_compares : (input : Input) → IsPlain input → Compares store other
      (taken_of (AtCoordinator co) input (of_node (coordinator_step co store input)))
      (taken_of (AtCoordinator (but co hidden)) input
      (of_node (coordinator_step (but co hidden) other input)))
      (AtCoordinator (coordinator_step co store input).state)
      (AtCoordinator (coordinator_step (but co hidden) other input).state)
  coordinator_compares (Comes m) plain =
      served_compares co hidden store other (coordinator_step co store (Comes m))
      (coordinator_step (but co hidden) other (Comes m)) tt tt
      (comes_alike store other co hidden m may)
  coordinator_compares (Expires now) plain =
      served_compares co hidden store other (coordinator_step co store (Expires now))
      (coordinator_step (but co hidden) other (Expires now)) tt tt
      (expires_alike store other co hidden now may)
  coordinator_compares Reminds plain =
      served_compares co hidden store other (coordinator_step co store Reminds)
      (coordinator_step (but co hidden) other Reminds) tt tt (Alike hidden refl may)
  coordinator_compares (Restarts now) plain = absurd plain
  coordinator_compares (Commands what) plain =
      served_compares co hidden store other (coordinator_step co store (Commands what))
      (coordinator_step (but co hidden) other (Commands what)) tt tt (Alike hidden refl may)
  coordinator_compares (Drops group member) plain =
      served_compares co hidden store other (coordinator_step co store (Drops group member))
      (coordinator_step (but co hidden) other (Drops group member)) tt tt (Alike hidden refl may)
  coordinator_compares (Puts value more) plain =
      served_compares co hidden store other (coordinator_step co store (Puts value more))
      (coordinator_step (but co hidden) other (Puts value more)) tt tt (Alike hidden refl may)

  pub coordinator_tells : (input : Input) → TellsByMark
      (taken_of (AtCoordinator co) input (of_node (coordinator_step co store input)))
      (taken_of (AtCoordinator (but co hidden)) input
      (of_node (coordinator_step (but co hidden) other input)))
      (AtCoordinator (coordinator_step co store input).state)
      (AtCoordinator (coordinator_step (but co hidden) other input).state)
  coordinator_tells (Restarts now) = restart_tells co hidden now store other may
  coordinator_tells input = by_mark store other _ _ _ _ (coordinator_compares input tt)
