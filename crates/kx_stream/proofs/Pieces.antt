-- A piece of a stream, and what stands behind its messages.
use Rattle.std.proofs.Common.{◌≡◌, ℕ, List, [], ◌∷◌, ◌++◌, Option, Result, Ok, Err, refl, sym}
use Rattle.std.proofs.Common.{ap, ◌∙◌, ◌⊎◌, subst, append_assoc, append-nil, inl, inr}
use Rattle.std.specs.List.{AllByRecursion}
use Rattle.std.proofs.KnownBytes.{Appends-nil}
use Rattle.kx_machine.specs.Meaning.{NodeState}
use Rattle.kx_message.specs.Message.{IsSendable}
use Rattle.kx_message.specs.declared.message.Message.{Message}
use Rattle.kx_model.specs.Disk.{Store}
use Rattle.kx_stream.specs.Sending.{Written, frames}
use Rattle.kx_stream.specs.Serving.{Serves}
use Rattle.kx_stream.specs.Stream.{AllServed, Ends, PieceServed, Served}
use Rattle.kx_stream.specs.declared.fault.StreamFault.{StreamFault}
use Rattle.kx_stream.specs.declared.fault.StreamFault.TheVariants.{Read, Write, Frame}
use Rattle.kx_stream.proofs.Writing.{frames-append}
use Rattle.kx_stream.proofs.Rows.{serves_none}
use Rattle.kx_wire.specs.Frames.{Bad, Fed, Front, More, Over, Reads, Faulty, Splits, Stands}
use Rattle.kx_wire.specs.Frames.{Stream, Whole, frame_at}
use Rattle.kx_wire.specs.declared.fault.FrameFault.{FrameFault}
use Rattle.kx_wire.specs.declared.fault.FrameFault.TheVariants as fault

one_fault : {T E : Type 0} (r : Result T E) (a b : E) → r ≡ Err a → r ≡ Err b → a ≡ b
one_fault r a b first second = cc

no_fault : {T E : Type 0} (r : Result T E) (x : T) (a : E) → r ≡ Ok x → r ≡ Err a → ⊥
no_fault r x a first second = cc

all_front : {A : Type 0} (P : A → Type 0) (xs ys : List A) → AllByRecursion P (xs ++ ys)
    → AllByRecursion P xs
all_front P [] ys all = tt
all_front P (x ∷ xs) ys all = (all.0, all_front P xs ys all.1)

pub all_both : {A : Type 0} (P : A → Type 0) (xs ys : List A) → AllByRecursion P xs
    → AllByRecursion P ys → AllByRecursion P (xs ++ ys)
all_both P [] ys first second = second
all_both P (x ∷ xs) ys first second = (first.0, all_both P xs ys first.1 second)

------ what a check of a reader says, where a stream stands so after messages

-- a fault is that of the frame that stands there
pub checked_bad : (front : Front) (messages : List Message) (rest : List ℕ) (mid new : Stream)
    (answer : Result (Unit {0}) FrameFault) (f : FrameFault) → Stands front messages rest mid
    → ((partial : List ℕ) → mid ≡ Reads partial → (answer ≡ Ok tt) × (new ≡ mid))
    → ((g : FrameFault) → mid ≡ Faulty g → (answer ≡ Err g) × (new ≡ Over))
    → answer ≡ Err f → front ≡ Bad f
checked_bad (Whole m behind) messages rest mid new answer f stands fine faulty told = absurd stands
checked_bad (Bad g) messages rest mid new answer f stands fine faulty told =
    ap (λ (x : FrameFault). Bad x) (one_fault answer g f (faulty g stands.1).0 told)
checked_bad More messages rest mid new answer f stands fine faulty told =
    absurd (no_fault answer tt f (fine rest stands).0 told)

-- without one, less than a frame stands there, and is held back
pub checked_fine : (front : Front) (messages : List Message) (rest : List ℕ) (mid new : Stream)
    (answer : Result (Unit {0}) FrameFault) → Stands front messages rest mid
    → ((partial : List ℕ) → mid ≡ Reads partial → (answer ≡ Ok tt) × (new ≡ mid))
    → ((g : FrameFault) → mid ≡ Faulty g → (answer ≡ Err g) × (new ≡ Over))
    → answer ≡ Ok tt → (front ≡ More) × (new ≡ Reads rest)
checked_fine (Whole m behind) messages rest mid new answer stands fine faulty told = absurd stands
checked_fine (Bad g) messages rest mid new answer stands fine faulty told =
    absurd (no_fault answer tt g told (faulty g stands.1).0)
checked_fine More messages rest mid new answer stands fine faulty told =
    (refl, (fine rest stands).1 ∙ stands)

------ a piece

module _ {M : Type 0} (stands : NodeState → M → Type 0)
    (allows : M → Option ℕ → Store → Type 0) where
  pub nothing_served : (bytes : List ℕ) (m : M) (known : Option (List ℕ)) (f : FrameFault)
      → (frame_at bytes ≡ Bad f) ⊎ (f ≡ fault.Memory)
      → Served stands allows bytes m m known known (Err (Frame f))
  nothing_served bytes m known f why = record {
    messages = [];
    behind = bytes;
    parts = refl;
    each = tt;
    handed = [];
    serves = serves_none stands allows m;
    ends = inl (why, Appends-nil known);
  }

  why_refused : (partial piece : List ℕ) (f : FrameFault) (new : Stream)
      → Fed (Reads partial) piece (Err f) new
      → (frame_at (partial ++ piece) ≡ Bad f) ⊎ (f ≡ fault.Memory)
  why_refused partial piece fault.Memory new fed = inr refl
  why_refused partial piece fault.TooLong new fed = inl fed.0
  why_refused partial piece fault.Kind new fed = inl fed.0
  why_refused partial piece fault.Field new fed = inl fed.0
  why_refused partial piece fault.Failed new fed = absurd fed

  -- the piece isn't taken
  pub piece_refused : (partial piece : List ℕ) (m : M) (known : Option (List ℕ)) (f : FrameFault)
      (new : Stream) → Fed (Reads partial) piece (Err f) new
      → PieceServed stands allows partial piece m m new known known (Err (Frame f))
  piece_refused partial piece m known f new fed = record {
    served = nothing_served (partial ++ piece) m known f (why_refused partial piece f new fed);
    held = tt;
  }

  unserved : (rest : List ℕ) (handed : List Message) (old new : Option (List ℕ))
      (f : StreamFault) → Written handed old new (Err f) → Ends rest handed old new (Err f)
  unserved rest handed old new (Frame g) cut = inr cut
  unserved rest handed old new Write cut = cut
  unserved rest handed old new Read cut = absurd cut

  -- a message of the piece isn't answered
  pub piece_fails : (partial piece rest : List ℕ) (messages : List Message) (before after : M)
      (stream : Stream) (old new : Option (List ℕ)) (f : StreamFault)
      → Splits (partial ++ piece) messages rest
      → AllServed stands allows messages before after old new (Err f)
      → PieceServed stands allows partial piece before after stream old new (Err f)
  piece_fails partial piece rest messages before after stream old new f splits all = record {
    served = record {
      messages = all.front;
      behind = frames all.untaken ++ rest;
      parts = splits.whole
          ∙ ap (λ (l : List Message). frames l ++ rest) all.parts
          ∙ ap (λ (l : List ℕ). l ++ rest) (frames-append all.front all.untaken)
          ∙ append_assoc (frames all.front) (frames all.untaken) rest;
      each = all_front IsSendable all.front all.untaken
          (subst (AllByRecursion IsSendable) all.parts splits.each);
      handed = all.handed;
      serves = all.serves;
      ends = unserved (frames all.untaken ++ rest) all.handed old new f all.written;
    };
    held = tt;
  }

  abbrev all_served : (bytes rest : List ℕ) (messages : List Message) (before after : M)
      (old new : Option (List ℕ)) (result : Result (Unit {0}) StreamFault)
      → Splits bytes messages rest
      → (all : AllServed stands allows messages before after old new (Ok tt))
      → Ends rest all.handed old new result
      → Served stands allows bytes before after old new result
  all_served bytes rest messages before after old new result splits all ends = record {
    messages = messages;
    behind = rest;
    parts = splits.whole;
    each = splits.each;
    handed = all.handed;
    serves = subst (λ (l : List Message). Serves stands allows before l all.handed after)
        (sym (all.parts ∙ ap (λ (l : List Message). all.front ++ l) all.all
        ∙ append-nil all.front))
        all.serves;
    ends = ends;
  }

  -- a fault stands behind its messages
  pub piece_breaks : (partial piece rest : List ℕ) (messages : List Message) (before after : M)
      (stream : Stream) (old new : Option (List ℕ)) (f : FrameFault)
      → Splits (partial ++ piece) messages rest
      → AllServed stands allows messages before after old new (Ok tt) → frame_at rest ≡ Bad f
      → PieceServed stands allows partial piece before after stream old new (Err (Frame f))
  piece_breaks partial piece rest messages before after stream old new f splits all bad = record {
    served = all_served (partial ++ piece) rest messages before after old new (Err (Frame f)) splits
        all (inl (inl bad, all.written));
    held = tt;
  }

  -- less than a frame does
  pub piece_taken : (partial piece rest : List ℕ) (messages : List Message) (before after : M)
      (stream : Stream) (old new : Option (List ℕ)) → Splits (partial ++ piece) messages rest
      → AllServed stands allows messages before after old new (Ok tt) → frame_at rest ≡ More
      → stream ≡ Reads rest
      → PieceServed stands allows partial piece before after stream old new (Ok tt)
  piece_taken partial piece rest messages before after stream old new splits all less is = record {
    served = all_served (partial ++ piece) rest messages before after old new (Ok tt) splits all
        (less, all.written);
    held = is;
  }
