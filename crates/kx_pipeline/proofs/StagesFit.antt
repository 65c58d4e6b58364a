-- A processor's step keeps what stands of it, if the numbers of the reply that comes are in
-- their ranges.
use Rattle.std.proofs.Common.{◌<◌, ◌≤◌, ◌+◌, ℕ, zero, suc, ℤ, List, [], ◌∷◌}
use Rattle.std.proofs.Common.{map, All, arith, Result, Ok, Err}
use Rattle.std.specs.Prelude.{fold, int_lt}
use Rattle.std.specs.Int.{w64}
use Rattle.std.specs.Int.RustNames.{FitsSigned}
use Rattle.std.specs.List.{range_with_len}
use Rattle.std.proofs.lemmas.Bool.{cond_both}
use Rattle.std.proofs.lemmas.List.Elements.{All-cons, All-filter, All-head, All-map, All-nil}
use Rattle.std.proofs.lemmas.List.Elements.{All-push, All-tail}
use Rattle.kx_varint.specs.Text.{IsBytes}
use Rattle.kx_message.specs.declared.code.ErrorCode.{ErrorCode}
use Rattle.kx_message.specs.declared.code.ErrorCode.TheVariants as code
use Rattle.kx_message.specs.declared.message.Message.{Message}
use Rattle.kx_message.specs.declared.message.Message.TheVariants as msg
use Rattle.kx_message.specs.declared.payload.AbortedTxn.{AbortedTxn}
use Rattle.kx_batch.specs.declared.fault.BatchFault.{BatchFault}
use Rattle.kx_client.specs.declared.values.Values.{Values}
use Rattle.kx_log.specs.Row.{row_in}
use Rattle.kx_model.specs.Client.{Command, Commanded, Declines, Does, Failed, Fault, InFlight}
use Rattle.kx_model.specs.Client.{MustAbort, NotReady, NotTransactional, Poll, TooLarge, UsedUp}
use Rattle.kx_model.specs.Client.{WindowFull}
use Rattle.kx_model.specs.Log.{Stored}
use Rattle.kx_model.specs.Page.{Fetched}
use Rattle.kx_model.specs.Reading.{committed_of}
use Rattle.kx_model.specs.Replies.{is_awaited}
use Rattle.kx_model.specs.Step.{Input, Comes, Commands, Expires, Reminds, Drops, Puts, Restarts}
use Rattle.kx_model.specs.World.{IsCommand}
use Rattle.kx_partition.specs.Reply.{page_in, page_with, with_batches}
use Rattle.kx_partition.specs.declared.fault.ReplyFault.{ReplyFault}
use Rattle.kx_laws.proofs.Lists.{All-from_contains}
use Rattle.kx_system.specs.Processor.{Aborting, Committing, Fetching, Joining, Locating, Overflown}
use Rattle.kx_system.specs.Processor.{Anew, Overflows, Processing, Processor, Sequel, Stage}
use Rattle.kx_system.specs.Processor.{Stops, Writing, alone, at_stage, batches_of, behind}
use Rattle.kx_system.specs.Processor.{committed, ended, fetched, fits, is_waiting, joined, located}
use Rattle.kx_system.specs.Processor.{obeys, onward, owned, owns, paged, processor_command}
use Rattle.kx_system.specs.Processor.{processor_step, stage_commanded, stage_refused}
use Rattle.kx_system.specs.Processor.{stage_sent, stage_told, takes, takes_another, with_another}
use Rattle.kx_system.specs.Processor.{with_image, written}
use Rattle.kx_pipeline.proofs.PartitionReplies.{InRange}
use Rattle.kx_pipeline.proofs.ProcessorsFit.{AreInputs, ProcessingFits, StageFits, ValuesFit}

------ input partitions

onward_fits : (inputs : ℕ) (left : List ℕ) → AreInputs inputs left
    → StageFits inputs (onward left)
onward_fits inputs [] h = tt
onward_fits inputs (input ∷ left) h =
    (All-head (λ i. i < inputs) input left h, All-tail (λ i. i < inputs) input left h)

range_below : (first count inputs : ℕ) → first + count ≤ inputs
    → AreInputs inputs (range_with_len first count)
range_below first zero inputs h = All-nil (λ i. i < inputs)
range_below first (suc count) inputs h =
    All-cons (λ i. i < inputs) first (range_with_len (first + 1) count) (omega (arith, h))
    (range_below (first + 1) count inputs (omega (arith, h)))

-- those that a member owns
owned_below : (number count inputs : ℕ) → AreInputs inputs (owned number count inputs)
owned_below number count inputs =
    All-filter (owns number count) (λ i. i < inputs) (range_with_len 0 inputs)
    (range_below 0 inputs inputs (omega arith))

------ images

alone_fits : (image : List ℕ) → IsBytes image → ValuesFit (alone image)
alone_fits image h = All-cons IsBytes image [] h (All-nil IsBytes)

another_fits : (values : Values) (image : List ℕ) → ValuesFit values → IsBytes image
    → ValuesFit (with_another values image)
another_fits values image fit h = All-push IsBytes (values.first ∷ values.more) image fit h

one : (values : Values) → ValuesFit values → All ValuesFit (values ∷ [])
one values fit = All-cons ValuesFit values [] fit (All-nil ValuesFit)

image_fits : (batches : List Values) (image : List ℕ) → All ValuesFit batches → IsBytes image
    → All ValuesFit (with_image batches image)
image_fits [] image all h = one (alone image) (alone_fits image h)
image_fits (last ∷ []) image all h =
    let fit = All-head ValuesFit last [] all in
    cond_both (takes_another last image) (with_another last image ∷ []) (last ∷ alone image ∷ [])
    (All ValuesFit) (λ e. one (with_another last image) (another_fits last image fit h))
    (λ e. All-cons ValuesFit last (alone image ∷ []) fit
    (one (alone image) (alone_fits image h)))
image_fits (values ∷ next ∷ rest) image all h =
    All-cons ValuesFit values (with_image (next ∷ rest) image)
    (All-head ValuesFit values (next ∷ rest) all)
    (image_fits (next ∷ rest) image (All-tail ValuesFit values (next ∷ rest) all) h)

images_fit : (batches : List Values) (images : List (List ℕ)) → All ValuesFit batches
    → All IsBytes images → All ValuesFit (fold with_image batches images)
images_fit batches [] all h = all
images_fit batches (image ∷ images) all h =
    images_fit (with_image batches image) images
    (image_fits batches image all (All-head IsBytes image images h))
    (All-tail IsBytes image images h)

------ pages

-- the offset behind a page has 64 bits
abbrev PageFits : Result Fetched ReplyFault → Type 0
PageFits (Ok page) = FitsSigned w64 page.next
PageFits (Err fault) = Unit {0}

batches_fit : (from next stable end : ℤ) (aborted : List AbortedTxn)
    (batches : Result (List Stored) BatchFault) → FitsSigned w64 next
    → PageFits (with_batches from next stable end aborted batches)
batches_fit from next stable end aborted (Ok batches) h = h
batches_fit from next stable end aborted (Err damage) h = tt

code_fits : (c : ErrorCode) (page : Result Fetched ReplyFault) → PageFits page
    → PageFits (page_with c page)
code_fits code.NoError page h = h
code_fits other page h = tt

page_fits : (from : ℤ) (m : Message) → InRange m → PageFits (page_in from m)
page_fits from (msg.FetchReply it) h =
    code_fits it.code (with_batches from it.next it.lso it.end it.aborted (row_in it.batches))
    (batches_fit from it.next it.lso it.end it.aborted (row_in it.batches) h)
page_fits from other h = tt

------ replies

module _ (p : Processing) (h : ProcessingFits p) where
  abbrev Fits : Stage → Type 0
  Fits stage = StageFits p.inputs stage

  joined_fits : (stage : Stage) (c : ErrorCode) (number count : ℕ) → Fits stage
      → Fits (joined p stage c number count)
  joined_fits Joining code.NoError number count s =
      onward_fits p.inputs (owned number count p.inputs) (owned_below number count p.inputs)
  joined_fits stage other number count s = s

  located_fits : (stage : Stage) (c : ErrorCode) (offset : ℤ) → FitsSigned w64 offset
      → Fits stage → Fits (located stage c offset)
  located_fits (Locating input left) code.NoError offset fit s = (s.0, s.1, fit)
  located_fits (Locating input left) code.UnstableOffsetCommit offset fit s =
      onward_fits p.inputs left s.1
  located_fits stage other offset fit s = s

  paged_fits : (input : ℕ) (left : List ℕ) (offset : ℤ) (page : Result Fetched ReplyFault)
      → PageFits page → Fits (Fetching input left offset)
      → Fits (paged p.image input left offset page)
  paged_fits input left offset (Err fault) fit s = s
  paged_fits input left offset (Ok page) fit s =
      let images = map (λ s. p.image s.shown) (committed_of page) in
      cond_both (int_lt page.from page.next)
      (Writing input left page.next (batches_of images)) (onward left) Fits
      (λ e. (
        s.0,
        s.1,
        fit,
        images_fit [] images (All-nil ValuesFit)
            (All-map IsBytes (λ s. p.image s.shown) (committed_of page)
            (All-from_contains (λ s. IsBytes (p.image s.shown)) (committed_of page)
            (λ s there. h.image s.shown))),
      ))
      (λ e. onward_fits p.inputs left s.1)

  fetched_fits : (stage : Stage) (m : Message) → InRange m → Fits stage
      → Fits (fetched p stage m)
  fetched_fits (Fetching input left offset) m fit s =
      paged_fits input left offset (page_in _ m) (page_fits _ m fit) s
  fetched_fits stage m fit s = s

  written_fits : (stage : Stage) (c : ErrorCode) → Fits stage → Fits (written stage c)
  written_fits (Writing input left next (values ∷ rest)) code.NoError s =
      (s.0, s.1, s.2, All-tail ValuesFit values rest s.3)
  written_fits stage other s = s

  committed_fits : (stage : Stage) (c : ErrorCode) → Fits stage → Fits (committed stage c)
  committed_fits (Writing input left next batches) code.NoError s = s.1
  committed_fits stage code.IllegalGeneration s = tt
  committed_fits stage code.UnknownMemberId s = tt
  committed_fits stage other s = s

  behind_fits : (sequel : Sequel) → Fits (behind sequel)
  behind_fits Anew = tt
  behind_fits Stops = tt
  behind_fits Overflows = tt

  ended_fits : (stage : Stage) (c : ErrorCode) → Fits stage → Fits (ended stage c)
  ended_fits (Committing left) code.NoError s = onward_fits p.inputs left s
  ended_fits (Aborting sequel) code.NoError s = behind_fits sequel
  ended_fits stage other s = s

  told_fits : (m : Message) → InRange m → Fits (stage_told p m)
  told_fits (msg.JoinReply it) fit = joined_fits p.stage it.code it.place it.count h.stage
  told_fits (msg.OffsetFetchReply it) fit = located_fits p.stage it.code it.offset fit h.stage
  told_fits (msg.FetchReply it) fit = fetched_fits p.stage (msg.FetchReply it) fit h.stage
  told_fits (msg.ProduceReply it) fit = written_fits p.stage it.code h.stage
  told_fits (msg.OffsetsReply it) fit = committed_fits p.stage it.code h.stage
  told_fits (msg.EndReply it) fit = ended_fits p.stage it.code h.stage
  told_fits m fit = h.stage

  ------ commands

  sent_fits : (stage : Stage) → Fits stage → Fits (stage_sent stage)
  sent_fits (Writing input left next (values ∷ rest)) s =
      cond_both (fits values) (Writing input left next (values ∷ rest)) (Aborting Overflows) Fits
      (λ e. s) (λ e. tt)
  sent_fits stage s = s

  refused_fits : (stage : Stage) (fault : Fault) → Fits stage → Fits (stage_refused fault stage)
  refused_fits Overflown TooLarge s = tt
  refused_fits stage TooLarge s = s
  refused_fits stage NotReady s = s
  refused_fits stage InFlight s = s
  refused_fits stage WindowFull s = s
  refused_fits stage Failed s = s
  refused_fits stage NotTransactional s = s
  refused_fits stage UsedUp s = s
  refused_fits stage MustAbort s = s

  at_fits : (stage : Stage) → Fits stage → ProcessingFits (at_stage p stage)
  at_fits stage s = record { group = h.group; few = h.few; image = h.image; stage = s }

module _ (p : Processor) (h : ProcessingFits p.processing) where
  commanded_fits : (what : Command) → StageFits p.processing.inputs (stage_commanded p what)
  commanded_fits Poll =
      cond_both (is_waiting p.client) p.processing.stage (stage_sent p.processing.stage)
      (StageFits p.processing.inputs) (λ e. h.stage)
      (λ e. sent_fits p.processing h p.processing.stage h.stage)
  commanded_fits what = h.stage

  obeys_fits : (stage : Stage) → StageFits p.processing.inputs stage → (done : Commanded)
      → ProcessingFits (obeys p stage done).state.processing
  obeys_fits stage s (Declines fault) =
      at_fits p.processing h (stage_refused fault p.processing.stage)
      (refused_fits p.processing h p.processing.stage fault h.stage)
  obeys_fits stage s (Does client sent) = at_fits p.processing h stage s

  takes_fits : (m : Message) → InRange m → ProcessingFits (takes p m).processing
  unfolding takes
  takes_fits m fit =
      cond_both (is_awaited p.client m) (at_stage p.processing (stage_told p.processing m))
      p.processing ProcessingFits
      (λ e. at_fits p.processing h (stage_told p.processing m) (told_fits p.processing h m fit))
      (λ e. h)

-- the numbers of a message that comes, and of a command, are in their ranges
abbrev pub ComesFit : Input → Type 0
ComesFit (Comes m) = InRange m
ComesFit (Commands what) = IsCommand what
ComesFit input = Unit {0}

pub step_fits : (p : Processor) (input : Input) → ProcessingFits p.processing → ComesFit input
    → ProcessingFits (processor_step p input).state.processing
unfolding processor_step
step_fits p (Comes m) h fit = takes_fits p h m fit
step_fits p (Commands what) h fit =
    obeys_fits p h (stage_commanded p what) (commanded_fits p h what) (processor_command p what)
step_fits p (Expires now) h fit = h
step_fits p Reminds h fit = h
step_fits p (Drops group member) h fit = h
step_fits p (Puts value more) h fit = h
step_fits p (Restarts now) h fit = h
