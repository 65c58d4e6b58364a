-- A trace that is run again, with the stores that its marks and the steps behind tell: it has its
-- marks again.
use Rattle.std.proofs.Common.{◌≡◌, ◌∙◌, ℕ, Bool, true, false, List, [], ◌∷◌, ◌++◌, Option, Some}
use Rattle.std.proofs.Common.{None, refl, sym, ap, subst, append_assoc, append-nil, le_refl}
use Rattle.std.specs.Prelude.{◌≢◌, is_none, is_some, not, if◌then◌else◌}
use Rattle.kx_batch.specs.Batch.{batch_limit}
use Rattle.kx_machine.specs.Meaning.{NodeState, AtCoordinator, AtPartition, AtClient}
use Rattle.kx_machine.specs.Meaning.{AtProcessor, hides, input_of, is_closed, node_step, taken_of}
use Rattle.kx_machine.specs.Stores.{FailsWith, IsMode}
use Rattle.kx_machine.specs.declared.input.Input as given
use Rattle.kx_machine.specs.declared.input.Input.TheVariants as input
use Rattle.kx_machine.specs.declared.machine.StoreMode.{StoreMode}
use Rattle.kx_machine.specs.declared.taken.Taken.{Taken}
use Rattle.kx_model.specs.Coordinator.{TxnEntry}
use Rattle.kx_model.specs.CoordinatorNode.{Coordinator}
use Rattle.kx_model.specs.Disk.{Store, Works, Fails, CannotLoad, Reopening, Reopens}
use Rattle.kx_model.specs.Disk.{CannotWrite, reread, works}
use Rattle.kx_model.specs.Markers.{reopen}
use Rattle.kx_model.specs.Step.{Input, NodeStep, Restarts}
use Rattle.kx_nodes.specs.Again.{AsTold, CanMake, KeepsNone, MayMeet, RunsOn, again, keeps_log}
use Rattle.kx_nodes.specs.Again.{leaves_whole, meets_whole}
use Rattle.kx_nodes.specs.Again.{mode_by, mode_for, next_read, read_by, store_by, store_for}
use Rattle.kx_nodes.specs.Alike.{AreAlike, AreSame, OneHides, bare}
use Rattle.kx_nodes.specs.Replay.{AsMade, OneMore, Replays, Takes, mark_of}
use Rattle.kx_nodes.specs.declared.mark.Mark.{Mark}
use Rattle.kx_nodes.specs.declared.mark.Mark.TheVariants as mark
use Rattle.kx_nodes.specs.declared.trace.Step.{Step}
use Rattle.kx_nodes.proofs.CoordinatorTells.{opening, restarted}
use Rattle.kx_nodes.proofs.Telling.{BothTell, Compares, OneFails, done_is, found_mark}
use Rattle.kx_nodes.proofs.Telling.{mark_if}
use Rattle.kx_nodes.proofs.Traces.{after, answer, nodes_compare, steps_alike}
use Rattle.kx_nodes.proofs.Ways.{IsStill, Left, Opens, Stays, Told, Way, closed_still, is_left}
use Rattle.kx_nodes.proofs.Ways.{restart_told, unread_still, used_up, way}

------ what the steps behind tell of a closed log

abbrev ToldBy : Option Mark → NodeState → Type 0
ToldBy None a = Unit {0}
ToldBy (Some mark.Unread) a = ⊥
ToldBy (Some m) a = Told m a

told_before : (next : Option Mark) (a b : NodeState) → IsStill a b → ToldBy next b
    → ToldBy next a
told_before None a b still told = tt
told_before (Some mark.Worked) a b still told = sym still.hidden ∙ told
told_before (Some mark.Found) a b still told = sym still.hidden ∙ told
told_before (Some (mark.Unwritten found)) a b still told = sym still.hidden ∙ told
told_before (Some mark.UsedUp) a b still told = sym still.epochs ∙ told
told_before (Some mark.Failed) a b still told = absurd told
told_before (Some mark.Unread) a b still told = absurd told

-- what is told behind a step, if the log is closed then
abbrev ToldAfter : Option Mark → NodeState → Type 0
ToldAfter next b = is_closed b ≡ true → ToldBy next b

through : (next : Option Mark) (a b : NodeState) → IsStill a b → ToldAfter next b
    → is_closed a ≡ true → ToldBy next a
through next a b still told is = told_before next a b still (told (still.closed ∙ is))

-- the mark of a step, and the node after it
abbrev shown : NodeState → Store → given.Input → Mark
shown a store i = mark_of (answer a store (input_of i))

abbrev led : NodeState → Store → given.Input → NodeState
led a store i = after a store (input_of i)

told_through : (m : Mark) (next : Option Mark) (a : NodeState) (store : Store) (now : ℕ)
    → shown a store (input.Restart now) ≡ m → ToldAfter next (led a store (input.Restart now))
    → is_closed a ≡ true → Told m a → ToldBy (read_by (input.Restart now) m next) a
told_through mark.Unread next a store now e told is shows =
    through next a (led a store (input.Restart now)) (unread_still a store now is e) told is
told_through mark.Worked next a store now e told is shows = shows
told_through mark.Found next a store now e told is shows = shows
told_through (mark.Unwritten found) next a store now e told is shows = shows
told_through mark.UsedUp next a store now e told is shows = shows
told_through mark.Failed next a store now e told is shows = shows

-- what is told behind a step, and the step's own mark, tell what is behind the log before it
told_here : (i : given.Input) (next : Option Mark) (a : NodeState) (store : Store)
    → ToldAfter next (led a store i) → is_closed a ≡ true
    → ToldBy (read_by i (shown a store i) next) a
told_here (input.Restart now) next a store told is =
    told_through (shown a store (input.Restart now)) next a store now refl told is
    (restart_told a store now)
told_here (input.Deliver m) next a store told is =
    through next a _ (closed_still a store (input_of (input.Deliver m)) tt is) told is
told_here (input.Command c) next a store told is =
    through next a _ (closed_still a store (input_of (input.Command c)) tt is) told is
told_here (input.Expire now) next a store told is =
    through next a _ (closed_still a store (input_of (input.Expire now)) tt is) told is
told_here input.Remind next a store told is =
    through next a _ (closed_still a store (input_of input.Remind) tt is) told is
told_here (input.Drop group member) next a store told is =
    through next a _ (closed_still a store (input_of (input.Drop group member)) tt is) told is
told_here (input.Put values) next a store told is =
    through next a _ (closed_still a store (input_of (input.Put values)) tt is) told is

-- the steps that a node with a closed log can make tell what is behind it
told_of : (steps : List Step) (a : NodeState) → CanMake a steps → ToldAfter (next_read steps) a
told_of [] a can is = tt
told_of (step ∷ steps) a can is =
    let next = next_read steps in
    subst (λ m. ToldBy (read_by step.input m next) a)
    (ap mark_of (sym can.takes.answer) ∙ sym can.takes.mark_is)
    (told_here step.input next a can.takes.store
    (subst (ToldAfter next) can.takes.after_is (told_of steps can.after can.goes_on)) is)

------ nodes that are the same, as far as the steps behind tell

-- what is behind their logs shows in no later step
data IsBeyond (next : Option Mark) (a b : NodeState) : Type 0 where
  Untold : next ≡ None → IsBeyond next a b
  Spent : used_up a ≡ true → used_up b ≡ true → IsBeyond next a b

data Agree (next : Option Mark) (a b : NodeState) : Type 0 where
  Same : a ≡ b → Agree next a b
  Differ : is_closed a ≡ true → hides a ≢ hides b → bare a ≡ bare b → IsBeyond next a b
      → Agree next a b

are_alike : (next : Option Mark) (a b : NodeState) → Agree next a b → AreAlike a b
are_alike next a b (Same e) = AreSame e
are_alike next a b (Differ closed differ e beyond) = OneHides closed differ e

------ the marks are the same

works_so : (x : Bool) (whole : Bool) → works (store_by (mark_if (not x)) whole) ≡ x
works_so true whole = refl
works_so false whole = refl

-- of steps but restarts
by_comparing : (whole : Bool) (store other : Store) (one two : Taken) (c d : NodeState)
    → other ≡ store_by (mark_of one) whole → Compares store other one two c d
    → mark_of two ≡ mark_of one
by_comparing whole store other one two c d chosen (BothTell tells) = ap mark_of (sym tells.same)
by_comparing whole store other one two c d chosen (OneFails first second differ) =
    absurd (differ (sym (ap works chosen ∙ ap (λ m. works (store_by m whole)) first
    ∙ works_so (works store) whole)))

-- what a restart shows, by the store
abbrev Shows : Type 0
Shows = Store → Mark

store_found : (found whole : Bool) → store_by (found_mark found) whole ≡ Works
store_found true whole = refl
store_found false whole = refl

-- if the epochs are used up; if a new epoch is to be written; if none is; and if no log is kept
data Shape (f : Shows) : Type 0 where
  Spends : f CannotLoad ≡ mark.Unread → f Works ≡ mark.UsedUp
      → ((whole : Bool) → f (Fails whole) ≡ mark.UsedUp) → Shape f
  Writes : (found : Bool) → f CannotLoad ≡ mark.Unread → f Works ≡ found_mark found
      → ((whole : Bool) → f (Fails whole) ≡ mark.Unwritten found) → Shape f
  ReadsOnly : (found : Bool) → f CannotLoad ≡ mark.Unread → f Works ≡ found_mark found
      → ((whole : Bool) → f (Fails whole) ≡ found_mark found) → Shape f
  AnyStore : ((store other : Store) → f store ≡ f other) → Shape f

-- a store that is chosen by what is shown shows it again
shape_same : (f : Shows) (whole : Bool) → Shape f → (store : Store)
    → f (store_by (f store) whole) ≡ f store
shape_same f whole (AnyStore same) store = same (store_by (f store) whole) store
shape_same f whole (Spends u v w) CannotLoad = ap (λ m. f (store_by m whole)) u
shape_same f whole (Spends u v w) Works = ap (λ m. f (store_by m whole)) v
shape_same f whole (Spends u v w) (Fails kept) =
    ap (λ m. f (store_by m whole)) (w kept) ∙ v ∙ sym (w kept)
shape_same f whole (Writes found u v w) CannotLoad = ap (λ m. f (store_by m whole)) u
shape_same f whole (Writes found u v w) Works =
    ap (λ m. f (store_by m whole)) v ∙ ap f (store_found found whole)
shape_same f whole (Writes found u v w) (Fails kept) =
    ap (λ m. f (store_by m whole)) (w kept) ∙ w whole ∙ sym (w kept)
shape_same f whole (ReadsOnly found u v w) CannotLoad = ap (λ m. f (store_by m whole)) u
shape_same f whole (ReadsOnly found u v w) Works =
    ap (λ m. f (store_by m whole)) v ∙ ap f (store_found found whole)
shape_same f whole (ReadsOnly found u v w) (Fails kept) =
    ap (λ m. f (store_by m whole)) (w kept) ∙ ap f (store_found found whole) ∙ v ∙ sym (w kept)

module _ (now : ℕ) where
  abbrev restart_shows : NodeState → Shows
  restart_shows a store = mark_of (answer a store (Restarts now))

  abbrev opening_mark : Coordinator → Reopening → Option TxnEntry → Mark
  opening_mark co how entry = mark_of (restarted co now (opening co now how entry))

  coordinator_shape : (co : Coordinator) (entry : Option TxnEntry) → reopen (reread co.disk) ≡ entry
      → Shape (restart_shows (AtCoordinator co))
  coordinator_shape co None is =
      Spends refl (ap (opening_mark co Reopens) is)
      (λ whole. ap (opening_mark co (CannotWrite whole)) is)
  coordinator_shape co (Some note) is =
      let found = is_some co.disk.hidden in
      Writes found refl (ap (opening_mark co Reopens) is ∙ done_is co.disk.closed found)
      (λ whole. ap (opening_mark co (CannotWrite whole)) is)

  shape_of : (a : NodeState) → Shape (restart_shows a)
  shape_of (AtCoordinator co) = coordinator_shape co (reopen (reread co.disk)) refl
  shape_of (AtPartition number p) =
      let found = is_some p.disk.hidden in
      let done = done_is p.disk.closed found in
      ReadsOnly found refl done (λ whole. done)
  shape_of (AtClient c) = AnyStore (λ store other. refl)
  shape_of (AtProcessor p) = AnyStore (λ store other. refl)

  ------ where the epochs are used up

  abbrev spent_mark : Store → Mark
  spent_mark CannotLoad = mark.Unread
  spent_mark Works = mark.UsedUp
  spent_mark (Fails whole) = mark.UsedUp

  coordinator_spent : (co : Coordinator) (store : Store) (entry : Option TxnEntry)
      → reopen (reread co.disk) ≡ entry → is_none entry ≡ true
      → restart_shows (AtCoordinator co) store ≡ spent_mark store
  coordinator_spent co CannotLoad entry is spent = refl
  coordinator_spent co Works None is spent = ap (opening_mark co Reopens) is
  coordinator_spent co (Fails whole) None is spent = ap (opening_mark co (CannotWrite whole)) is
  coordinator_spent co Works (Some note) is spent = cc
  coordinator_spent co (Fails whole) (Some note) is spent = cc

  spent_shows : (a : NodeState) (store : Store) → used_up a ≡ true
      → restart_shows a store ≡ spent_mark store
  spent_shows (AtCoordinator co) store spent =
      coordinator_spent co store (reopen (reread co.disk)) refl spent
  spent_shows (AtPartition number p) store spent = cc
  spent_shows (AtClient c) store spent = cc
  spent_shows (AtProcessor p) store spent = cc

  spent_again : (store : Store) (whole : Bool)
      → spent_mark (store_by (spent_mark store) whole) ≡ spent_mark store
  spent_again CannotLoad whole = refl
  spent_again Works whole = refl
  spent_again (Fails kept) whole = refl

  -- a log that is closed is some log
  closed_unread : (b : NodeState) → is_closed b ≡ true → restart_shows b CannotLoad ≡ mark.Unread
  closed_unread (AtCoordinator co) is = refl
  closed_unread (AtPartition number p) is = refl
  closed_unread (AtClient c) is = cc
  closed_unread (AtProcessor p) is = cc

  untold_same : (m : Mark) (next : Option Mark) (whole : Bool) (b : NodeState)
      → is_closed b ≡ true → read_by (input.Restart now) m next ≡ None
      → restart_shows b (store_by m whole) ≡ m
  untold_same mark.Unread next whole b is none = closed_unread b is
  untold_same mark.Worked next whole b is none = cc
  untold_same mark.Found next whole b is none = cc
  untold_same (mark.Unwritten found) next whole b is none = cc
  untold_same mark.UsedUp next whole b is none = cc
  untold_same mark.Failed next whole b is none = cc

closed_bare : (a : NodeState) → is_closed (bare a) ≡ is_closed a
closed_bare (AtCoordinator co) = refl
closed_bare (AtPartition number p) = refl
closed_bare (AtClient c) = refl
closed_bare (AtProcessor p) = refl

closed_too : (a b : NodeState) → bare a ≡ bare b → is_closed a ≡ true → is_closed b ≡ true
closed_too a b e is = sym (closed_bare b) ∙ sym (ap is_closed e) ∙ closed_bare a ∙ is

restart_same : (now : ℕ) (next : Option Mark) (whole : Bool) (a b : NodeState) (store : Store)
    → Agree (read_by (input.Restart now) (restart_shows now a store) next) a b
    → restart_shows now b (store_by (restart_shows now a store) whole) ≡ restart_shows now a store
restart_same now next whole a b store (Same e) =
    subst (λ x. restart_shows now x (store_by (restart_shows now a store) whole)
    ≡ restart_shows now a store) e
    (shape_same (restart_shows now a) whole (shape_of now a) store)
restart_same now next whole a b store (Differ closed differ e (Untold none)) =
    untold_same now (restart_shows now a store) next whole b (closed_too a b e closed) none
restart_same now next whole a b store (Differ closed differ e (Spent one two)) =
    let shows = spent_shows now a store one in
    spent_shows now b (store_by (restart_shows now a store) whole) two
    ∙ ap (λ m. spent_mark now (store_by m whole)) shows ∙ spent_again now store whole ∙ sym shows

-- a step of nodes that agree has the same mark
shown_same : (i : given.Input) (next : Option Mark) (a b : NodeState) (store : Store)
    → Agree (read_by i (shown a store i) next) a b
    → shown b (store_by (shown a store i) (meets_whole next)) i ≡ shown a store i
shown_same (input.Restart now) next a b store agree =
    restart_same now next (meets_whole next) a b store agree
shown_same i next a b store agree =
    let other = store_by (shown a store i) (meets_whole next) in
    by_comparing (meets_whole next) store other (answer a store (input_of i))
    (answer b other (input_of i)) _ _ refl
    (nodes_compare store other (input_of i) tt a b
    (are_alike (read_by i (shown a store i) next) a b agree))

------ and then they agree again

left_store : (m : Mark) (whole kept : Bool) → is_left m ≡ true → store_by m whole ≡ Fails kept
    → whole ≡ kept
left_store mark.Failed whole kept left e = cc
left_store (mark.Unwritten found) whole kept left e = cc
left_store mark.Worked whole kept left e = cc
left_store mark.Found whole kept left e = cc
left_store mark.UsedUp whole kept left e = cc
left_store mark.Unread whole kept left e = cc

untold_after : (i : given.Input) (m : Mark) (next : Option Mark) → read_by i m next ≡ None
    → next ≡ None
untold_after (input.Restart now) mark.Unread next e = e
untold_after (input.Restart now) mark.Worked next e = cc
untold_after (input.Restart now) mark.Found next e = cc
untold_after (input.Restart now) (mark.Unwritten found) next e = cc
untold_after (input.Restart now) mark.UsedUp next e = cc
untold_after (input.Restart now) mark.Failed next e = cc
untold_after i m next e = e

none_is : {A : Type 0} (o : Option A) → is_some o ≡ false → None ≡ o
none_is None e = refl
none_is (Some x) e = cc

bare_is : (a : NodeState) → hides a ≡ false → bare a ≡ a
bare_is (AtCoordinator co) e =
    ap (λ hidden. AtCoordinator (record co { disk = record co.disk { hidden = hidden } }))
    (none_is co.disk.hidden e)
bare_is (AtPartition number p) e =
    ap (λ hidden. AtPartition number (record p { disk = record p.disk { hidden = hidden } }))
    (none_is p.disk.hidden e)
bare_is (AtClient c) e = refl
bare_is (AtProcessor p) e = refl

not_true : (x : Bool) → x ≢ true → x ≡ false
not_true true differ = absurd (differ refl)
not_true false differ = refl

-- where the failing store left behind what the steps tell
left_beyond : (next : Option Mark) (c d : NodeState) → ToldBy next c → hides c ≢ hides d
    → bare c ≡ bare d → hides d ≡ meets_whole next
    → (used_up (bare d) ≡ true → used_up d ≡ true) → IsBeyond next c d
left_beyond None c d told differ e hid epochs = Untold refl
left_beyond (Some mark.Worked) c d told differ e hid epochs = absurd (differ (told ∙ sym hid))
left_beyond (Some mark.Found) c d told differ e hid epochs = absurd (differ (told ∙ sym hid))
left_beyond (Some (mark.Unwritten found)) c d told differ e hid epochs =
    absurd (differ (told ∙ sym hid))
left_beyond (Some mark.Failed) c d told differ e hid epochs = absurd told
left_beyond (Some mark.Unread) c d told differ e hid epochs = absurd told
left_beyond (Some mark.UsedUp) c d told differ e hid epochs =
    let bared = bare_is c (not_true (hides c) (λ is. differ (is ∙ sym hid))) in
    Spent told (epochs (ap used_up (sym e) ∙ ap used_up bared ∙ told))

module _ (i : given.Input) (next : Option Mark) (a b c d : NodeState) (store : Store) (m : Mark)
    (told : ToldBy next c) (differ : hides c ≢ hides d) (e : bare c ≡ bare d)
    (closed : is_closed c ≡ true) where
  stays_beyond : Way store m a c → is_left m ≡ false → hides d ≡ hides b → used_up d ≡ used_up b
      → Agree (read_by i m next) a b → IsBeyond next c d
  stays_beyond (Opens opened) unleft hid epochs agree = cc
  stays_beyond (Left whole is hidden spent left) unleft hid epochs agree = cc
  stays_beyond (Stays hidden spent still) unleft hid epochs (Same same) =
      absurd (differ (hidden ∙ ap hides same ∙ sym hid))
  stays_beyond (Stays hidden spent still) unleft hid epochs (Differ shut unlike bares
      (Untold none)) =
      Untold (untold_after i m next none)
  stays_beyond (Stays hidden spent still) unleft hid epochs (Differ shut unlike bares
      (Spent one two)) =
      Spent (spent ∙ one) (epochs ∙ two)

  -- nodes that differ after a step differ if no later step shows it
  after_beyond : Way store m a c → Way (store_by m (meets_whole next)) m b d
      → Agree (read_by i m next) a b → IsBeyond next c d
  after_beyond goes (Opens opened) agree =
      let shut = closed_too c d e closed in cc
  after_beyond goes (Stays hid epochs unleft) agree = stays_beyond goes unleft hid epochs agree
  after_beyond goes (Left whole is hid epochs left) agree =
      left_beyond next c d told differ e
      (hid ∙ sym (left_store m (meets_whole next) whole left is)) epochs

agree_by : (i : given.Input) (next : Option Mark) (a b c d : NodeState) (store : Store) (m : Mark)
    → ToldAfter next c → AreAlike c d → Way store m a c → Way (store_by m (meets_whole next)) m b d
    → Agree (read_by i m next) a b → Agree next c d
agree_by i next a b c d store m told (AreSame e) goes comes agree = Same e
agree_by i next a b c d store m told (OneHides closed differ e) goes comes agree =
    Differ closed differ e
    (after_beyond i next a b c d store m (told closed) differ e closed goes comes agree)

------ steps

-- what a step of a trace did to the log
way_of : (a : NodeState) (step : Step) (t : Taken) (c : NodeState) (takes : Takes a step t c)
    → Way takes.store step.mark a c
way_of a step t c takes =
    let i = input_of step.input in
    subst (Way takes.store step.mark a) (sym takes.after_is)
    (subst (λ m. Way takes.store m a (after a takes.store i))
    (sym (takes.mark_is ∙ ap mark_of takes.answer)) (way a takes.store i))

module _ (step : Step) (behind : List Step) where
  abbrev next : Option Mark
  next = next_read behind

  -- what a node answers, run again, and the node after it
  abbrev told_answer : NodeState → Taken
  told_answer b = answer b (store_for step behind) (input_of step.input)

  abbrev told_after : NodeState → NodeState
  told_after b = after b (store_for step behind) (input_of step.input)

  -- the same mark
  mark_again : (a b : NodeState) → CanMake a (step ∷ behind) → Agree (next_read (step ∷ behind)) a b
      → mark_of (told_answer b) ≡ step.mark
  mark_again a b can agree =
      let is : mark_of (answer a can.takes.store (input_of step.input)) ≡ step.mark =
      ap mark_of (sym can.takes.answer) ∙ sym can.takes.mark_is in
      subst (λ m. Agree (read_by step.input m next) a b
      → shown b (store_by m (meets_whole next)) step.input ≡ m) is
      (shown_same step.input next a b can.takes.store) agree

  takes_again : (a b : NodeState) → CanMake a (step ∷ behind)
      → Agree (next_read (step ∷ behind)) a b → Takes b step (told_answer b) (told_after b)
  takes_again a b can agree = record {
    store = store_for step behind;
    answer = refl;
    after_is = refl;
    mark_is = sym (mark_again a b can agree);
  }

  agree_again : (a b : NodeState) (can : CanMake a (step ∷ behind))
      → Agree (next_read (step ∷ behind)) a b → Agree next can.after (told_after b)
  unfolding takes_again
  agree_again a b can agree =
      let takes = takes_again a b can agree in
      agree_by step.input next a b can.after (told_after b) can.takes.store step.mark
      (told_of behind can.after can.goes_on)
      (steps_alike a b step can.taken (told_answer b) can.after (told_after b)
      (are_alike (next_read (step ∷ behind)) a b agree) can.takes takes)
      (way_of a step can.taken can.after can.takes)
      (way_of b step (told_answer b) (told_after b) takes) agree

-- a node that agrees can make the steps too
can_too : (steps : List Step) (a b : NodeState) → CanMake a steps → Agree (next_read steps) a b
    → CanMake b steps
can_too [] a b can agree = tt
can_too (step ∷ behind) a b can agree = record {
  taken = told_answer step behind b;
  after = told_after step behind b;
  takes = takes_again step behind a b can agree;
  goes_on = can_too behind can.after (told_after step behind b) can.goes_on
      (agree_again step behind a b can agree);
}

------ modes

fails_store : (whole : Bool) (size : Option ℕ) (store : Store)
    → FailsWith (if whole then batch_limit else 0) size store → store ≡ Fails whole
fails_store whole size Works is = absurd is
fails_store whole size CannotLoad is = absurd is
fails_store true size (Fails kept) is = ap Fails (is.1 (le_refl batch_limit))
fails_store false size (Fails kept) is = ap Fails (is.0 refl)

-- a mode allows only the store that is told
mode_store : (m : Mark) (whole : Bool) (size : Option ℕ) (store : Store)
    → IsMode (mode_by m whole) size store → store ≡ store_by m whole
mode_store mark.Unread whole size store is = is
mode_store mark.Failed whole size store is = fails_store whole size store is
mode_store (mark.Unwritten found) whole size store is = fails_store whole size store is
mode_store mark.Worked whole size store is = is
mode_store mark.Found whole size store is = is
mode_store mark.UsedUp whole size store is = is

-- a node's step depends on the store only if the node keeps a log
step_free : (node : NodeState) (store other : Store) (input : Input) → keeps_log node ≡ false
    → node_step node store input ≡ node_step node other input
step_free (AtCoordinator co) store other input none = cc
step_free (AtPartition number p) store other input none = cc
step_free (AtClient c) store other input none = refl
step_free (AtProcessor p) store other input none = refl

step_told : (node : NodeState) (told : StoreMode) (store other : Store) (input : Input)
    → ((size : Option ℕ) → IsMode told size store → store ≡ other) → MayMeet node told store
    → node_step node store input ≡ node_step node other input
step_told node told store other input same (AsTold size is) =
    ap (λ s. node_step node s input) (same size is)
step_told node told store other input same (KeepsNone none) =
    step_free node store other input none

------ a run again

-- what a trace has made can be made
can_make : (made : NodeState) (steps : List Step) (node : NodeState) → Replays made steps node
    → (more : List Step) → CanMake node more → CanMake made (steps ++ more)
can_make made steps node AsMade more can = can
can_make made steps node (OneMore front before step taken after replays takes) more can =
    subst (CanMake made) (sym (append_assoc front (step ∷ []) more))
    (can_make made front before replays (step ∷ more)
    (record { taken = taken; after = after; takes = takes; goes_on = can }))

-- it begins as the trace does
pub begins : (made : NodeState) (steps : List Step) (node : NodeState) → Replays made steps node
    → RunsOn made [] steps made
begins made steps node replays = record {
  replays = AsMade;
  goes_on = subst (CanMake made) (append-nil steps) (can_make made steps node replays [] tt);
}

module _ (made : NodeState) (before : List Step) (step : Step) (behind : List Step)
    (node : NodeState) (runs : RunsOn made before (step ∷ behind) node) where
  -- with the store that is told
  told_runs : RunsOn made (before ++ step ∷ []) behind (told_after step behind node)
  told_runs = record {
    replays = OneMore before node step (told_answer step behind node)
        (told_after step behind node) runs.replays
        (takes_again step behind node node runs.goes_on (Same refl));
    goes_on = can_too behind runs.goes_on.after (told_after step behind node)
        runs.goes_on.goes_on (agree_again step behind node node runs.goes_on (Same refl));
  }

  module _ (store : Store) (meets : MayMeet node (mode_for step behind) store) where
    chosen : node_step node store (input_of step.input)
        ≡ node_step node (store_for step behind) (input_of step.input)
    chosen = step_told node (mode_for step behind) store (store_for step behind)
        (input_of step.input)
        (λ size. mode_store step.mark (leaves_whole behind) size store) meets

    pub marks : mark_of (answer node store (input_of step.input)) ≡ step.mark
    marks =
        ap (λ (s : NodeStep NodeState). mark_of (taken_of node (input_of step.input) s)) chosen
        ∙ mark_again step behind node node runs.goes_on (Same refl)

    pub runs_on : RunsOn made (before ++ step ∷ []) behind
        (after node store (input_of step.input))
    runs_on =
        subst (λ (s : NodeStep NodeState). RunsOn made (before ++ step ∷ []) behind s.state)
        (sym chosen) told_runs

all_again : (made : NodeState) (before behind : List Step) (node : NodeState)
    → RunsOn made before behind node → Replays made (before ++ behind) (again node behind)
all_again made before [] node runs =
    subst (λ (steps : List Step). Replays made steps node) (sym (append-nil before)) runs.replays
all_again made before (step ∷ behind) node runs =
    subst (λ (steps : List Step). Replays made steps (again node (step ∷ behind)))
    (append_assoc before (step ∷ []) behind)
    (all_again made (before ++ step ∷ []) behind (told_after step behind node)
    (told_runs made before step behind node runs))

-- the run again is a run of the trace
pub replays_again : (made : NodeState) (steps : List Step) (node : NodeState)
    → Replays made steps node → Replays made steps (again made steps)
replays_again made steps node replays =
    all_again made [] steps made (begins made steps node replays)
