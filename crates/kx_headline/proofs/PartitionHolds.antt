-- What holds of a partition, given the messages ever handed out: each entry of its log and what
-- its store may hold behind came by one of them, and so did each request that is parked.
use Rattle.std.proofs.Common.{◌≡◌, ℕ, ℤ, Bool, true, false, List, [], ◌∷◌, ◌++◌, Option, Some, None}
use Rattle.std.proofs.Common.{sym, subst, Contains, All}
use Rattle.std.proofs.Common.{cond, pos}
use Rattle.std.specs.Prelude.{not}
use Rattle.std.specs.Ordering.{int_eq}
use Rattle.std.proofs.lemmas.List.Elements.{All-contains, All-weaker}
use Rattle.kx_message.specs.declared.code.ErrorCode.{ErrorCode}
use Rattle.kx_message.specs.declared.code.ErrorCode.TheVariants.{IllegalGeneration, NoError}
use Rattle.kx_message.specs.declared.code.ErrorCode.TheVariants.{UnknownMemberId}
use Rattle.kx_message.specs.declared.message.Held.{Held}
use Rattle.kx_message.specs.declared.message.Message.{Message}
use Rattle.kx_message.specs.Messages as the
use Rattle.kx_message.specs.Ranges.{offsets_partition}
use Rattle.kx_message.specs.declared.outcome.Outcome.{Outcome}
use Rattle.kx_model.specs.Log.{Entry, MarkerFits, Stored, entries}
use Rattle.kx_model.specs.PartitionNode.{Partition, marker_of}
use Rattle.kx_model.specs.Groups.{generation, is_member}
use Rattle.kx_model.specs.Produce.{Appends, Next, Refused, Verdict, judge_marker, judge_text}
use Rattle.kx_model.specs.Produce.{text_of}
use Rattle.kx_model.specs.Verification.{Parked, Request, judge_request, pair_of, partition_of}
use Rattle.kx_model.specs.Verification.{Target, ToGroup, ToPartition, judge_target, request_of}
use Rattle.kx_laws.specs.Grown.{IsGrown, Unwritten}
use Rattle.kx_laws.proofs.GrownLogs.{grown_by_batch, grown_by_marker}
use Rattle.kx_headline.proofs.PartitionDoes.{HasNoProducer, IsPaired, OfGroup, behind}
use Rattle.kx_headline.proofs.PartitionDoes as does
use Rattle.kx_laws.proofs.StoredTexts.{Accepts}

-- given the messages, of the partition of this number
module _ (sent : List Message) (number : ℕ) where
  -- the request was handed out, for this partition
  pub record WasAsked (r : Request) : Type 0 where
    pub message : Message
    pub handed : Contains sent message
    pub is : request_of message ≡ Some r
    pub here : partition_of r.target ≡ number
    -- what goes to the offsets partition is a commit of offsets
    pub commits : number ≡ offsets_partition → OfGroup r.target

  -- what is judged as verified has the coordinator's yes to its pair
  pub data IsListed (r : Request) : Bool → Type 0 where
    unlisted : IsListed r false
    listed : (txn : List ℕ) (held : Held)
        → Contains sent (the.AddReply number txn held NoError) → pair_of r ≡ Some held
        → IsListed r true

  -- why a text stands behind a log
  pub data Justified (log : List Stored) : List ℕ → Type 0 where
    asked : (r : Request) (verified : Bool) → WasAsked r → IsListed r verified
        → judge_request (entries log) verified r ≡ Next → Justified log r.text
    ended : (txn : List ℕ) (held : Held) (coordinator : ℤ) (outcome : Outcome)
        → Contains sent (the.WriteMarker number txn held coordinator outcome)
        → judge_marker (entries log) (marker_of held coordinator outcome) ≡ Appends
        → Justified log (text_of (marker_of held coordinator outcome))
    unowned : (text : List ℕ) → HasNoProducer text → judge_text (entries log) true text ≡ Next
        → Justified log text

  pub data Built : List Stored → Type 0 where
    start : Built []
    next : (log : List Stored) (text : List ℕ) → Built log → Justified log text
        → Built (log ++ behind log text ∷ [])

  pub data Left (log : List Stored) : Option Stored → Type 0 where
    nothing : Left log None
    whole : (text : List ℕ) → Justified log text → Left log (Some (behind log text))

  pub record Waiting (x : Parked) : Type 0 where
    pub request : WasAsked x.request
    pub paired : IsPaired x

  pub record PartitionHolds (p : Partition) : Type 0 where
    pub log : Built p.disk.kept
    pub hidden : Left p.disk.kept p.disk.hidden
    pub parked : All Waiting p.parked

------ it holds with more messages

module _ (sent later : List Message) (number : ℕ)
    (more : (m : Message) → Contains sent m → Contains later m) where
  pub asked_later : (r : Request) → WasAsked sent number r → WasAsked later number r
  asked_later r w = record {
    message = w.message;
    handed = more w.message w.handed;
    is = w.is;
    here = w.here;
    commits = w.commits;
  }

  listed_later : (r : Request) (verified : Bool) → IsListed sent number r verified
      → IsListed later number r verified
  listed_later r verified unlisted = unlisted
  listed_later r verified (listed txn held c e) =
      listed txn held (more (the.AddReply number txn held NoError) c) e

  justified_later : (log : List Stored) (text : List ℕ) → Justified sent number log text
      → Justified later number log text
  justified_later log text (asked r verified w l j) =
      asked r verified (asked_later r w) (listed_later r verified l) j
  justified_later log text (ended txn held coordinator outcome c j) =
      ended txn held coordinator outcome
      (more (the.WriteMarker number txn held coordinator outcome) c) j
  justified_later log text (unowned text' n j) = unowned text' n j

  built_later : (log : List Stored) → Built sent number log → Built later number log
  built_later log start = start
  built_later log (next earlier text b j) =
      next earlier text (built_later earlier b) (justified_later earlier text j)

  left_later : (log : List Stored) (o : Option Stored) → Left sent number log o
      → Left later number log o
  left_later log o nothing = nothing
  left_later log o (whole text j) = whole text (justified_later log text j)

  pub holds_later : (p : Partition) → PartitionHolds sent number p
      → PartitionHolds later number p
  holds_later p h = record {
    log = built_later p.disk.kept h.log;
    hidden = left_later p.disk.kept p.disk.hidden h.hidden;
    parked = All-weaker (Waiting sent number) (Waiting later number)
        (λ x w. record { request = asked_later x.request w.request; paired = w.paired })
        p.parked h.parked;
  }

------ each step keeps it

-- a message that comes is one that was handed out
pub data Comes (sent : List Message) : Option Message → Type 0 where
  no_message : Comes sent None
  message : (m : Message) → Contains sent m → Comes sent (Some m)

module _ (sent : List Message) (number : ℕ) (p : Partition) (input : Option Message)
    (holds : PartitionHolds sent number p) (comes : Comes sent input) where
  pub handed_out : (m : Message) → input ≡ Some m → Contains sent m
  handed_out m e = by input comes e
    where
      by : (o : Option Message) → Comes sent o → o ≡ Some m → Contains sent m
      by o no_message e = absurd cc
      by o (message n c) e = let same : n ≡ m = cc in subst (Contains sent) same c

  pub origin_asked : (r : Request) → does.Origin number p input r → WasAsked sent number r
  origin_asked r (does.came m i e n g) =
      record { message = m; handed = handed_out m i; is = e; here = n; commits = g }
  origin_asked r (does.waited x c e) =
      subst (WasAsked sent number) e
      (All-contains (Waiting sent number) p.parked x holds.parked c).request

  judged_listed : (r : Request) (verified : Bool) → does.Judged number p input r verified
      → IsListed sent number r verified
  judged_listed r verified does.at_first = unlisted
  judged_listed r verified (does.on_yes txn held i e) =
      listed txn held (handed_out (the.AddReply number txn held NoError) i) e

  may_justified : (log : List Stored) (text : List ℕ) → does.May number p input log text
      → Justified sent number log text
  may_justified log text (does.request r verified o j e) =
      asked r verified (origin_asked r o) (judged_listed r verified j) e
  may_justified log text (does.marker txn held coordinator outcome i e) =
      ended txn held coordinator outcome
      (handed_out (the.WriteMarker number txn held coordinator outcome) i) e
  may_justified log text (does.plain text' n e) = unowned text' n e

  found_built : (o : Option Stored) (stored : Stored) → Left sent number p.disk.kept o
      → o ≡ Some stored → Built sent number (p.disk.kept ++ stored ∷ [])
  found_built o stored nothing e = absurd cc
  found_built o stored (whole text j) e =
      let same : behind p.disk.kept text ≡ stored = cc in
      subst (λ s. Built sent number (p.disk.kept ++ s ∷ [])) same
      (next p.disk.kept text holds.log j)

  grew_built : (log : List Stored) → does.Grew number p input log → Built sent number log
  grew_built log does.unchanged = holds.log
  grew_built log (does.found stored e) =
      found_built p.disk.hidden stored holds.hidden e
  grew_built log (does.more earlier text g m) =
      next earlier text (grew_built earlier g) (may_justified earlier text m)

  hidden_left : (log : List Stored) (o : Option Stored) → does.Hidden number p input log o
      → Left sent number log o
  hidden_left log o (does.kept e) =
      subst (λ l. Left sent number l p.disk.hidden) (sym e) holds.hidden
  hidden_left log o (does.left text m) = whole text (may_justified log text m)
  hidden_left log o does.gone = nothing

  waits_waiting : (x : Parked) → does.Waits number p input x → Waiting sent number x
  waits_waiting x w = record { request = origin_asked x.request w.origin; paired = w.paired }

  pub state_holds : (q : Partition) → does.State number p input q → PartitionHolds sent number q
  state_holds q st = record {
    log = grew_built q.disk.kept st.log;
    hidden = hidden_left q.disk.kept q.disk.hidden st.hidden;
    parked = All-weaker (does.Waits number p input) (Waiting sent number) waits_waiting q.parked
        st.parked;
  }

------ the log is grown

-- every marker that was handed out has numbers that a control batch holds
abbrev pub MarkersFit : List Message → Type 0
MarkersFit sent =
    (partition : ℕ) (txn : List ℕ) (held : Held) (coordinator : ℤ) (outcome : Outcome)
    → Contains sent (the.WriteMarker partition txn held coordinator outcome)
    → MarkerFits (marker_of held coordinator outcome)

unless : (b : Bool) (code : ErrorCode) (v verdict : Verdict) → Accepts verdict
    → cond b (Refused code) v ≡ verdict → v ≡ verdict
unless true code v verdict some e = absurd (some code e)
unless false code v verdict some e = e

-- the text of a request that isn't refused is judged alike
pub text_verdict : (log : List Entry) (verified : Bool) (text : List ℕ) (target : Target)
    (verdict : Verdict) → Accepts verdict → judge_target log verified text target ≡ verdict
    → judge_text log verified text ≡ verdict
text_verdict log verified text (ToPartition partition) verdict some e = e
text_verdict log verified text (ToGroup group member named) verdict some e =
    let judged = judge_text log verified text in
    let old = not (int_eq named (pos (generation log group))) in
    unless old IllegalGeneration judged verdict some
    (unless (not (is_member log group member)) UnknownMemberId
    (cond old (Refused IllegalGeneration) judged) verdict some e)

pub text_next : (log : List Entry) (verified : Bool) (text : List ℕ) (target : Target)
    → judge_target log verified text target ≡ Next → judge_text log verified text ≡ Next
text_next log verified text target e =
    text_verdict log verified text target Next (λ code h. cc) e

pub built_grown : (sent : List Message) (number : ℕ) (log : List Stored) → MarkersFit sent
    → Built sent number log → IsGrown log
built_grown sent number log fit start = Unwritten
built_grown sent number log fit (next earlier text b (asked r verified w l j)) =
    grown_by_batch earlier verified r.text (built_grown sent number earlier fit b)
    (text_next (entries earlier) verified r.text r.target j)
built_grown sent number log fit (next earlier text b (ended txn held coordinator outcome c j)) =
    grown_by_marker earlier (marker_of held coordinator outcome)
    (built_grown sent number earlier fit b) (fit number txn held coordinator outcome c) j
built_grown sent number log fit (next earlier text b (unowned text' n j)) =
    grown_by_batch earlier true text' (built_grown sent number earlier fit b) j
