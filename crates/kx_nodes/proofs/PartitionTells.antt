-- A step's mark tells what a partition answers, if what stands behind its closed log is open.
use Rattle.std.proofs.Common.{ℕ, false, [], ◌∷◌, Option, refl, sym, ap, subst}
use Rattle.std.specs.Prelude.{◌==◌, is_some, if◌then◌else◌}
use Rattle.kx_message.specs.Ranges.{offsets_partition}
use Rattle.kx_machine.specs.Meaning.{NodeState, AtPartition, note_of, of_kind, taken_of}
use Rattle.kx_machine.specs.declared.taken.Taken.{Taken}
use Rattle.kx_model.specs.Disk.{Store, Works, Fails, CannotLoad, shut}
use Rattle.kx_model.specs.Groups.{judge_drop}
use Rattle.kx_model.specs.Log.{Stored}
use Rattle.kx_model.specs.PartitionNode.{Partition, changed, entries_of, puts, reopened}
use Rattle.kx_model.specs.Step.{Input, Comes, Commands, Expires, Reminds, Drops, Puts, Restarts}
use Rattle.kx_model.specs.Step.{NodeStep, Coded, Done, PutAt, Unread, partition_step, plain_text}
use Rattle.kx_nodes.specs.Alike.{AreAlike, AreSame, OneHides}
use Rattle.kx_nodes.proofs.Disks.{Alike, Apart, Itself, MayHide, Other, by_test}
use Rattle.kx_nodes.proofs.PartitionSteps.{Steps, but, comes_alike, drops_alike, puts_step_alike}
use Rattle.kx_nodes.proofs.PartitionSteps.{step_hiding}
use Rattle.kx_nodes.proofs.Leaving.{IsPlain}
use Rattle.kx_nodes.proofs.Telling.{BothTell, Compares, OneFails, Plain, TellsByMark, by_mark}
use Rattle.kx_nodes.proofs.Telling.{closed_mark, done_found, fails_alike, never_unread, served}
use Rattle.kx_nodes.proofs.Telling.{shut_may}

module _ (number : ℕ) where
  abbrev node : Partition → NodeState
  node p = AtPartition number p

  abbrev of_node : NodeStep Partition → NodeStep NodeState
  of_node s = of_kind (AtPartition number) s

  alike : (p : Partition) (hidden : Option Stored) → MayHide p.disk hidden
      → AreAlike (node p) (node (but p hidden))
  alike p hidden (Itself e) = AreSame (ap (λ h. node (but p h)) e)
  alike p hidden (Other closed differ) = OneHides closed differ refl

  ------ steps but restarts

  abbrev answer : Partition → NodeStep Partition → Taken
  answer p s = served (node p) (of_node s)

  served_compares : (p : Partition) (hidden : Option Stored) (store other : Store)
      (one two : NodeStep Partition) → Plain one.note → Plain two.note
      → Steps p store other one two
      → Compares store other (answer p one) (answer (but p hidden) two) (node one.state)
      (node two.state)
  served_compares p hidden store other one two plain clear (Alike h e may) =
      let q = but p hidden in
      subst (λ (s : NodeStep Partition). Compares store other (answer p one) (answer q s)
      (node one.state) (node s.state)) (sym e)
      (BothTell (record {
        same = ap (λ failed. record {
          messages = one.messages;
          note = note_of one.note;
          failed = failed;
          found = false;
        }) (fails_alike one.note (node p) (node q) (of_node one) (of_node (step_hiding one h)) refl
            refl);
        alike = alike one.state h may;
      }))
  served_compares p hidden store other one two plain clear (Apart opened a b differ) =
      OneFails (closed_mark (node p) (of_node one) store opened plain a)
      (closed_mark (node (but p hidden)) (of_node two) other opened clear b) differ

  ------ restarts

  abbrev reopens : Partition → NodeStep Partition
  reopens p = record { state = reopened p; messages = []; note = Done }

  abbrev shuts : Partition → NodeStep Partition
  shuts p = record { state = record p { disk = shut p.disk }; messages = []; note = Unread }

  abbrev restarted : Partition → ℕ → NodeStep Partition → Taken
  restarted p now s = taken_of (node p) (Restarts now) (of_node s)

  abbrev RestartsTell : Partition → Partition → ℕ → NodeStep Partition → NodeStep Partition
      → Type 0
  RestartsTell p q now s t =
      TellsByMark (restarted p now s) (restarted q now t) (node s.state) (node t.state)

  module _ (p : Partition) (hidden : Option Stored) (now : ℕ) where
    reopens_tell : MayHide p.disk hidden
        → RestartsTell p (but p hidden) now (reopens p) (reopens (but p hidden))
    reopens_tell (Itself e) =
        λ marks. record {
          same = ap (λ h. restarted (but p h) now (reopens (but p h))) e;
          alike = AreSame (ap (λ h. node (reopened (but p h))) e);
        }
    reopens_tell (Other closed differ) =
        λ marks. absurd (differ (done_found p.disk.closed (is_some p.disk.hidden) p.disk.closed
        (is_some hidden) marks))

    shuts_tell : MayHide p.disk hidden
        → RestartsTell p (but p hidden) now (shuts p) (shuts (but p hidden))
    shuts_tell may = λ marks. record {
      same = refl;
      alike = alike (shuts p).state hidden (shut_may p.disk hidden may);
    }

    shuts_or_reopens : RestartsTell p (but p hidden) now (shuts p) (reopens (but p hidden))
    shuts_or_reopens = λ marks. absurd (never_unread p.disk.closed (is_some hidden) (sym marks))

    reopens_or_shuts : RestartsTell p (but p hidden) now (reopens p) (shuts (but p hidden))
    reopens_or_shuts =
        λ marks. absurd (never_unread p.disk.closed (is_some p.disk.hidden) marks)

    restart_tells : (store other : Store) → MayHide p.disk hidden
        → RestartsTell p (but p hidden) now (partition_step number p store (Restarts now))
        (partition_step number (but p hidden) other (Restarts now))
    restart_tells CannotLoad CannotLoad may = shuts_tell may
    restart_tells CannotLoad Works may = shuts_or_reopens
    restart_tells CannotLoad (Fails whole) may = shuts_or_reopens
    restart_tells Works CannotLoad may = reopens_or_shuts
    restart_tells (Fails whole) CannotLoad may = reopens_or_shuts
    restart_tells Works Works may = reopens_tell may
    restart_tells Works (Fails whole) may = reopens_tell may
    restart_tells (Fails whole) Works may = reopens_tell may
    restart_tells (Fails whole) (Fails all) may = reopens_tell may

  ------ all steps

  pub partition_plain : (p : Partition) (store : Store) (input : Input) → IsPlain input
      → Plain (partition_step number p store input).note
  partition_plain p store (Drops group member) plain =
      by_test (number == offsets_partition) (λ b. Plain (if b then Coded (changed p store
      (judge_drop (entries_of p) group member)).code else Done)) tt tt
  partition_plain p store (Puts value more) plain =
      let t = puts p store (plain_text (value ∷ more)) in
      by_test (number == offsets_partition)
      (λ b. Plain (if b then Done else PutAt t.code t.offset)) tt tt
  partition_plain p store (Restarts now) plain = absurd plain
  partition_plain p store input plain = tt

  module _ (p : Partition) (hidden : Option Stored) (store other : Store)
      (may : MayHide p.disk hidden) where
    abbrev StepsCompare : Input → Type 0
    StepsCompare input = Compares store other
        (taken_of (node p) input (of_node (partition_step number p store input)))
        (taken_of (node (but p hidden)) input
        (of_node (partition_step number (but p hidden) other input)))
        (node (partition_step number p store input).state)
        (node (partition_step number (but p hidden) other input).state)

    -- as the steps are alike
    plainly : (input : Input) → IsPlain input
        → Steps p store other (partition_step number p store input)
        (partition_step number (but p hidden) other input)
        → Compares store other (answer p (partition_step number p store input))
        (answer (but p hidden) (partition_step number (but p hidden) other input))
        (node (partition_step number p store input).state)
        (node (partition_step number (but p hidden) other input).state)
    plainly input plain are =
        served_compares p hidden store other (partition_step number p store input)
        (partition_step number (but p hidden) other input) (partition_plain p store input plain)
        (partition_plain (but p hidden) other input plain) are

    pub partition_compares : (input : Input) → IsPlain input → StepsCompare input
    partition_compares (Comes m) plain =
        plainly (Comes m) tt (comes_alike number store other p hidden m may)
    partition_compares (Drops group member) plain =
        plainly (Drops group member) tt (drops_alike number store other p hidden group member may)
    partition_compares (Puts value more) plain =
        plainly (Puts value more) tt (puts_step_alike number store other p hidden value more may)
    partition_compares (Restarts now) plain = absurd plain
    partition_compares (Commands what) plain =
        plainly (Commands what) tt (Alike hidden refl may)
    partition_compares (Expires now) plain = plainly (Expires now) tt (Alike hidden refl may)
    partition_compares Reminds plain = plainly Reminds tt (Alike hidden refl may)

    pub partition_tells : (input : Input) → TellsByMark
        (taken_of (node p) input (of_node (partition_step number p store input)))
        (taken_of (node (but p hidden)) input
        (of_node (partition_step number (but p hidden) other input)))
        (node (partition_step number p store input).state)
        (node (partition_step number (but p hidden) other input).state)
    partition_tells (Restarts now) = restart_tells p hidden now store other may
    partition_tells input = by_mark store other _ _ _ _ (partition_compares input tt)
