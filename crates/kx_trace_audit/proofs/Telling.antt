-- What became of a step that a trace tells of.
use Rattle.std.proofs.Common.{◌≡◌, ◌∙◌, ◌≤◌, ℕ, Bool, List, Option, Some, ap, arith, drop, length, subst}
use Rattle.std.proofs.Common.{refl, sym}
use Rattle.std.specs.Prelude.{slice_get}
use Rattle.std.specs.List.{flat_map}
use Rattle.std.proofs.lemmas.Option.{same_Some}
use Rattle.kx_audit.specs.Joined.{Passed}
use Rattle.kx_audit.specs.Making.{NodeMaking}
use Rattle.kx_follow.specs.Following.{Followed, Following, HasMade, MakesOneMore, state_after}
use Rattle.kx_machine.specs.Meaning.{NodeState}
use Rattle.kx_machine.specs.declared.input.Input.{Input}
use Rattle.kx_machine.specs.declared.input.Input.TheVariants.{Restart}
use Rattle.kx_machine.specs.declared.machine.StoreMode.{StoreMode}
use Rattle.kx_machine.specs.declared.taken.Taken.{Taken}
use Rattle.kx_message.specs.Fields.{frame_text}
use Rattle.kx_nodes.specs.Replay.{mark_of}
use Rattle.kx_nodes.specs.declared.mark.Mark.{Mark}
use Rattle.kx_trace_audit.specs.Items.{BeginsTold, ItemRefused}
use Rattle.kx_trace_audit.specs.Logs.{HasFound, log_size}
use Rattle.kx_trace_audit.specs.Lookahead.{IsDecided, mode_for}
use Rattle.kx_trace_audit.specs.Stepping.{Becomes, Differs, HasRefused, HasStepped, IsDecidedAt}
use Rattle.kx_trace_audit.specs.Stepping.{MakesTold, Refuses, used_by}
use Rattle.kx_trace_audit.specs.Told.{Answered, IsStepOf, Reopened, Told, Unanswered}
use Rattle.kx_trace_audit.specs.declared.ending.Ending.{Ending}
use Rattle.kx_trace_audit.specs.declared.progress.Progress.{Progress}
use Rattle.kx_trace_audit.specs.declared.progress.Progress.TheVariants as progress
use Rattle.kx_trace_audit.specs.declared.refusal.TraceRefusal.{TraceRefusal}
use Rattle.kx_trace_audit.specs.declared.refusal.TraceRefusal.TheVariants as refusal

-- no more bytes are done with than there are
pub used_within : (became : Progress) (len used : ℕ) → used ≡ used_by became len → used ≤ len
used_within (progress.Made sent) len used is = omega (arith, is)
used_within progress.NotTaken len used is = omega (arith, is)
used_within progress.Waits len used is = omega (arith, is)
used_within progress.NeedsMore len used is = omega (arith, is)

module _ {B M : Type 0} (making : B → NodeMaking) (stands : NodeState → M → Type 0)
    (starts : List NodeState) (number : ℕ) (history : List Passed) (old new : Following B M) where
  module _ (input : Input) (mode : StoreMode) (taken : Taken)
      (is : MakesOneMore making stands starts number input mode taken history old new) (sent : ℕ)
      (sent_is : sent ≡ length taken.messages) where
    -- it made the step of which this tells
    makes : (told : Told) → IsStepOf told is.passed
        → MakesTold making stands starts number told sent history old new
    makes told so = record {
      node = is.node;
      there = is.there;
      passed = is.passed;
      name_is = is.name_is;
      is = so;
      sent_is = sent_is ∙ ap (λ (t : Taken). length t.messages) (sym is.taken_is);
      makings = is.makings;
      made = is.made;
    }

    -- with this answer
    pub answered : (mark : Mark) (frames : List ℕ) → mark_of taken ≡ mark
        → flat_map frame_text taken.messages ≡ frames
        → MakesTold making stands starts number (Answered input mark frames) sent history old new
    answered mark frames mark_is frames_are =
        makes (Answered input mark frames) (
          is.input_is,
          is.mark_is ∙ mark_is,
          ap (λ (t : Taken). flat_map frame_text t.messages) is.taken_is ∙ frames_are,
        )

    -- it was never answered
    pub unanswered : MakesTold making stands starts number (Unanswered input) sent history old new
    unanswered = makes (Unanswered input) is.input_is

  -- the answer is another
  pub differs : (input : Input) (mode : StoreMode) (taken : Taken) (mark : Mark) (frames : List ℕ)
      → MakesOneMore making stands starts number input mode taken history old new → (why : TraceRefusal)
      → Differs why taken mark frames
      → Refuses making stands starts number (Answered input mark frames) mode history old new why
  differs input mode taken mark frames is refusal.Store so = record {
    input = input;
    mark = mark;
    frames = frames;
    told_is = refl;
    taken = taken;
    makes = is;
    differs = so;
  }
  differs input mode taken mark frames is refusal.Answer so = record {
    input = input;
    mark = mark;
    frames = frames;
    told_is = refl;
    taken = taken;
    makes = is;
    differs = so;
  }
  differs input mode taken mark frames is refusal.Memory so = tt
  differs input mode taken mark frames is refusal.DuplicateNode so = absurd so
  differs input mode taken mark frames is refusal.Bytes so = absurd so
  differs input mode taken mark frames is refusal.Unsent so = absurd so
  differs input mode taken mark frames is refusal.Found so = absurd so
  differs input mode taken mark frames is refusal.Log so = absurd so

  -- the end of a process
  module _ (now log_len : ℕ) (mode : StoreMode) (taken : Taken)
      (is : MakesOneMore making stands starts number (Restart now) mode taken history old new) where
    pub reopened : (sent : ℕ) → sent ≡ length taken.messages → HasFound is.passed.after log_len
        → MakesTold making stands starts number (Reopened now log_len) sent history old new
    reopened sent sent_is found =
        makes (Restart now) mode taken is sent sent_is (Reopened now log_len) (is.input_is, found)

    pub finds_else : (HasFound is.passed.after log_len → ⊥)
        → Refuses making stands starts number (Reopened now log_len) mode history old new refusal.Found
    finds_else other = record {
      now = now;
      log_len = log_len;
      told_is = refl;
      taken = taken;
      makes = is;
      other = other;
    }

  pub out_of_memory : (told : Told) (mode : StoreMode) (why : TraceRefusal) → why ≡ refusal.Memory
      → Refuses making stands starts number told mode history old new why
  out_of_memory told mode why is =
      subst (λ (w : TraceRefusal). Refuses making stands starts number told mode history old new w)
      (sym is) tt

  ------ by the bytes of a trace

  module _ (bytes : List ℕ) (told : Told) (len : ℕ) (begins : BeginsTold bytes told len) where
    pub steps : (end : Ending) (became : Progress) (used : ℕ) → used ≡ used_by became len
        → Becomes making stands starts number told history old new became
        → HasStepped making stands starts number bytes end history old new became used
    steps end (progress.Made sent) used is so =
        record { told = told; len = len; begins = begins; becomes = so; used_is = is }
    steps end progress.NotTaken used is so =
        record { told = told; len = len; begins = begins; becomes = so; used_is = is }
    steps end progress.Waits used is so =
        record { told = told; len = len; begins = begins; becomes = so; used_is = is }
    steps end progress.NeedsMore used is so = absurd so

    pub refuses : (end : Ending) (stood : Bool)
        → IsDecidedAt making stands starts number told end (drop len bytes) history old (Some stood)
        → (why : TraceRefusal)
        → Refuses making stands starts number told (mode_for told stood) history old new why
        → HasRefused making stands starts number bytes end history old new why
    refuses end stood decided refusal.Bytes so = absurd so
    refuses end stood decided refusal.Memory so = tt
    refuses end stood decided refusal.DuplicateNode so = absurd so
    refuses end stood decided refusal.Unsent so = absurd so
    refuses end stood decided refusal.Store so = record {
      told = told;
      len = len;
      begins = begins;
      stood = stood;
      decided = decided;
      refuses = so;
    }
    refuses end stood decided refusal.Answer so = record {
      told = told;
      len = len;
      begins = begins;
      stood = stood;
      decided = decided;
      refuses = so;
    }
    refuses end stood decided refusal.Found so = record {
      told = told;
      len = len;
      begins = begins;
      stood = stood;
      decided = decided;
      refuses = so;
    }
    refuses end stood decided refusal.Log so = absurd so

  pub no_item_read : (bytes : List ℕ) (end : Ending) (why : TraceRefusal) → ItemRefused bytes why
      → HasRefused making stands starts number bytes end history old new why
  no_item_read bytes end refusal.Bytes is = is
  no_item_read bytes end refusal.Memory is = tt
  no_item_read bytes end refusal.DuplicateNode is = absurd is
  no_item_read bytes end refusal.Unsent is = absurd is
  no_item_read bytes end refusal.Store is = absurd is
  no_item_read bytes end refusal.Answer is = absurd is
  no_item_read bytes end refusal.Found is = absurd is
  no_item_read bytes end refusal.Log is = absurd is

-- what follows decides it, by the node's log
pub decided_at : {B M : Type 0} (making : B → NodeMaking) (stands : NodeState → M → Type 0)
    (starts : List NodeState) (number : ℕ) (history : List Passed) (f : Following B M)
    → HasMade making stands starts history f → (told : Told) (end : Ending) (bytes : List ℕ)
    (len : ℕ) (rest : List ℕ) (stood : Option Bool) → rest ≡ drop len bytes
    → ((n : Followed B M) → slice_get f.nodes number ≡ Some n → (state : NodeState)
    → stands state n.machine → IsDecided told (log_size state) end rest stood)
    → IsDecidedAt making stands starts number told end (drop len bytes) history f stood
decided_at making stands starts number history f made told end bytes len rest stood rest_is decides =
    λ n start at begin.
    let led = made.led number n at in
    let same : led.start ≡ start = same_Some led.start start (sym led.begins ∙ begin) in
    subst (λ (s : NodeState).
    IsDecided told (log_size (state_after making s history n)) end (drop len bytes) stood) same
    (subst (λ (l : List ℕ).
    IsDecided told (log_size (state_after making led.start history n)) end l stood) rest_is
    (decides n at (state_after making led.start history n) led.stands_so))
