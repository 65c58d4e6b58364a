-- What a mark tells of a step but a restart, and what follows if two steps are alike.
use Rattle.std.proofs.Common.{◌≡◌, ◌∙◌, Bool, true, false, Option, refl, sym, ap}
use Rattle.std.specs.Prelude.{◌≢◌, ◌&&◌, not, if◌then◌else◌}
use Rattle.kx_machine.specs.Meaning.{NodeState, fails, is_closed, note_of}
use Rattle.kx_machine.specs.declared.taken.Note.TheVariants as note
use Rattle.kx_machine.specs.declared.taken.Taken.{Taken}
use Rattle.kx_model.specs.Disk.{Disk, Store, shut, works}
use Rattle.kx_model.specs.Step.{NodeStep, StepNote, Done, Declined, PutAt, Coded, Unread}
use Rattle.kx_model.specs.Step.{Unwritten, RunsOut}
use Rattle.kx_nodes.specs.Alike.{AreAlike}
use Rattle.kx_nodes.specs.Replay.{mark_by, mark_of}
use Rattle.kx_nodes.specs.declared.mark.Mark.{Mark}
use Rattle.kx_nodes.specs.declared.mark.Mark.TheVariants as mark
use Rattle.kx_nodes.proofs.Disks.{Itself, MayHide, Other}

-- the same answer, and nodes that are alike
pub record Tells (one two : Taken) (after other : NodeState) : Type 0 where
  pub same : one ≡ two
  pub alike : AreAlike after other

-- where the marks are the same
abbrev pub TellsByMark : Taken → Taken → NodeState → NodeState → Type 0
TellsByMark one two after other = mark_of one ≡ mark_of two → Tells one two after other

-- what isn't a restart is answered so
abbrev pub served : NodeState → NodeStep NodeState → Taken
served before s = record {
  messages = s.messages;
  note = note_of s.note;
  failed = fails before s s.note;
  found = false;
}

-- the note of a step but a restart
abbrev pub Plain : StepNote → Type 0
Plain Unread = ⊥
Plain Unwritten = ⊥
Plain RunsOut = ⊥
Plain note = Unit {0}

pub fails_alike : (note : StepNote) (a b : NodeState) (s t : NodeStep NodeState)
    → is_closed a ≡ is_closed b → is_closed s.state ≡ is_closed t.state
    → fails a s note ≡ fails b t note
fails_alike Unread a b s t e f = refl
fails_alike Unwritten a b s t e f = refl
fails_alike note a b s t e f = cc

pub fails_plain : (note : StepNote) → Plain note → (a : NodeState) (s : NodeStep NodeState)
    → fails a s note ≡ (not (is_closed a) && is_closed s.state)
fails_plain Unread plain a s = absurd plain
fails_plain Unwritten plain a s = absurd plain
fails_plain note plain a s = refl

abbrev pub mark_if : Bool → Mark
mark_if failed = if failed then mark.Failed else mark.Worked

pub mark_plain : (note : StepNote) → Plain note → (failed : Bool)
    → mark_by (note_of note) failed false ≡ mark_if failed
mark_plain Done plain failed = refl
mark_plain (Declined fault) plain failed = refl
mark_plain (PutAt code offset) plain failed = refl
mark_plain (Coded code) plain failed = refl
mark_plain Unread plain failed = absurd plain
mark_plain Unwritten plain failed = absurd plain
mark_plain RunsOut plain failed = absurd plain

pub mark_tells : (a b : Bool) → mark_if a ≡ mark_if b → a ≡ b
mark_tells true true e = refl
mark_tells false false e = refl
mark_tells true false e = cc
mark_tells false true e = cc

pub not_tells : (a b : Bool) → not a ≡ not b → a ≡ b
not_tells true true e = refl
not_tells false false e = refl
not_tells true false e = cc
not_tells false true e = cc

-- the mark of a step, from an open log
opened_mark : (a : NodeState) (s : NodeStep NodeState) → is_closed a ≡ false → Plain s.note
    → mark_of (served a s) ≡ mark_if (is_closed s.state)
opened_mark a s is plain =
    mark_plain s.note plain (fails a s s.note)
    ∙ ap mark_if (fails_plain s.note plain a s
    ∙ ap (λ c. not c && is_closed s.state) is)

-- the mark of a step that closes an open log just where its store doesn't work
pub closed_mark : (a : NodeState) (s : NodeStep NodeState) (store : Store) → is_closed a ≡ false
    → Plain s.note → is_closed s.state ≡ not (works store)
    → mark_of (served a s) ≡ mark_if (not (works store))
closed_mark a s store is plain closes = opened_mark a s is plain ∙ ap mark_if closes

-- two steps but restarts, with these stores: they answer the same, and their nodes are alike; or a
-- log is closed by the one whose store doesn't work, and not by the other
pub data Compares (store other : Store) (one two : Taken) (after beside : NodeState)
    : Type 0 where
  BothTell : Tells one two after beside → Compares store other one two after beside
  OneFails : mark_of one ≡ mark_if (not (works store)) → mark_of two ≡ mark_if (not (works other))
      → works store ≢ works other → Compares store other one two after beside

pub by_mark : (store other : Store) (one two : Taken) (after beside : NodeState)
    → Compares store other one two after beside → TellsByMark one two after beside
by_mark store other one two after beside (BothTell tells) = λ marks. tells
by_mark store other one two after beside (OneFails a b differ) =
    λ marks. absurd (differ (not_tells (works store) (works other)
    (mark_tells (not (works store)) (not (works other)) (sym a ∙ marks ∙ b))))

------ restarts

-- the mark of a restart that opened the log
abbrev pub done_mark : Bool → Bool → Mark
done_mark closed found = mark_by note.Done (not closed && false) found

abbrev pub found_mark : Bool → Mark
found_mark found = if found then mark.Found else mark.Worked

pub done_is : (closed found : Bool) → done_mark closed found ≡ found_mark found
done_is true found = refl
done_is false found = refl

found_tells : (a b : Bool) → found_mark a ≡ found_mark b → a ≡ b
found_tells true true e = refl
found_tells false false e = refl
found_tells true false e = cc
found_tells false true e = cc

-- it tells whether an entry was found
pub done_found : (closed found shut seen : Bool) → done_mark closed found ≡ done_mark shut seen
    → found ≡ seen
done_found closed found shut seen e =
    found_tells found seen (sym (done_is closed found) ∙ e ∙ done_is shut seen)

-- it is none of the others
never : (found : Bool) (other : Mark) → mark.Found ≢ other → mark.Worked ≢ other
    → found_mark found ≡ other → ⊥
never true other differs unlike e = differs e
never false other differs unlike e = unlike e

pub never_unread : (closed found : Bool) → done_mark closed found ≡ mark.Unread → ⊥
never_unread closed found e =
    never found mark.Unread (λ h. cc) (λ h. cc) (sym (done_is closed found) ∙ e)

pub never_used_up : (closed found : Bool) → done_mark closed found ≡ mark.UsedUp → ⊥
never_used_up closed found e =
    never found mark.UsedUp (λ h. cc) (λ h. cc) (sym (done_is closed found) ∙ e)

pub never_unwritten : (closed found hid : Bool) → done_mark closed found ≡ mark.Unwritten hid → ⊥
never_unwritten closed found hid e =
    never found (mark.Unwritten hid) (λ h. cc) (λ h. cc) (sym (done_is closed found) ∙ e)

-- a log that is shut hides what it hid
pub shut_may : {A : Type 0} (disk : Disk A) (hidden : Option A) → MayHide disk hidden
    → MayHide (shut disk) hidden
shut_may disk hidden (Itself e) = Itself e
shut_may disk hidden (Other closed differ) = Other refl differ
