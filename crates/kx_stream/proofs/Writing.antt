-- Bytes that are written by many writes, and frames that are written, one after the other.
use Rattle.std.proofs.Common.{◌≡◌, ◌≤◌, ◌<◌, ◌+◌, ◌-◌, ℕ, List, [], ◌∷◌, ◌++◌, Option, Result, Ok}
use Rattle.std.proofs.Common.{Err, sym, ap, ◌∙◌, subst, append_assoc, append-nil, length, take, drop}
use Rattle.std.proofs.Common.{arith, length-append, length-drop, take-append-drop}
use Rattle.std.proofs.Math.Seq.{take-add}
use Rattle.std.proofs.lemmas.List.{take_all}
use Rattle.std.specs.Io.KnownBytes.{Appends, Keeps}
use Rattle.std.proofs.KnownBytes.{Appends-kept, Appends-nil, Appends-trans}
use Rattle.std.proofs.lemmas.Grind.{flat_map-append}
use Rattle.std.proofs.lemmas.List.Concat.{flat_map-cons}
use Rattle.kx_message.specs.Fields.{frame_text}
use Rattle.kx_message.specs.declared.message.Message.{Message}
use Rattle.kx_stream.specs.Sending.{IsBroken, IsCut, Sends, Writes, Written, frames}
use Rattle.kx_stream.specs.declared.fault.StreamFault.{StreamFault}
use Rattle.kx_stream.specs.declared.fault.StreamFault.TheVariants.{Read, Write, Frame}
use Rattle.kx_wire.specs.declared.fault.FrameFault.{FrameFault}

pub frames-append : (xs ys : List Message) → frames (xs ++ ys) ≡ frames xs ++ frames ys
frames-append xs ys = flat_map-append frame_text xs ys

frames-one : (x : Message) → frames (x ∷ []) ≡ frame_text x
frames-one x = flat_map-cons frame_text x [] ∙ append-nil (frame_text x)

-- the writer took the frames of both
pub appends_both : (old mid new : Option (List ℕ)) (xs ys : List Message)
    → Appends old mid (frames xs) → Appends mid new (frames ys)
    → Appends old new (frames (xs ++ ys))
appends_both old mid new xs ys first second =
    subst (Appends old new) (sym (frames-append xs ys))
    (Appends-trans old mid new (frames xs) (frames ys) first second)

------ bytes that are written by many writes

-- so many of the bytes are written, from their front
pub record IsPart (text : List ℕ) (count : ℕ) (old new : Option (List ℕ)) : Type 0 where
  pub within : count ≤ length text
  pub written : Appends old new (take count text)

pub no_part : (text : List ℕ) (known : Option (List ℕ)) → IsPart text 0 known known
no_part text known = record { within = omega arith; written = Appends-nil known }

-- one more write, of all that is left
pub part_more : (text : List ℕ) (count more : ℕ) (old mid new : Option (List ℕ))
    → IsPart text count old mid
    → more ≤ length (take (length text - count) (drop count text))
    → Appends mid new (take more (take (length text - count) (drop count text)))
    → IsPart text (count + more) old new
part_more text count more old mid new part few next =
    let left = length-drop count text in
    let whole = take_all (length text - count) (drop count text) (omega (arith, left)) in
    let size = ap length whole in
    record {
      within = omega (arith, part.within, few, left, size);
      written = subst (Appends old new) (sym (take-add count more text))
          (Appends-trans old mid new (take count text) (take more (drop count text)) part.written
          (subst (λ l. Appends mid new (take more l)) whole next));
    }

-- nothing is left
pub part_all : (text : List ℕ) (count : ℕ) (old new : Option (List ℕ)) → length text ≤ count
    → IsPart text count old new → Appends old new text
part_all text count old new all part =
    subst (Appends old new) (take_all count text all) part.written

-- no more is written, though some is left
pub part_breaks : (text : List ℕ) (count : ℕ) (old mid new : Option (List ℕ))
    → count < length text → IsPart text count old mid → Keeps mid new → IsBroken text old new
part_breaks text count old mid new some part kept = record {
  front = take count text;
  lost = drop count text;
  parts = sym (take-append-drop count text);
  some_lost = omega (arith, some, length-drop count text);
  written = Appends-kept old mid new (take count text) part.written kept;
}

------ bytes of which a part is written

-- with more bytes after them
pub broken_before : (old new : Option (List ℕ)) (text more whole : List ℕ) → whole ≡ text ++ more
    → IsBroken text old new → IsBroken whole old new
broken_before old new text more whole is broken = record {
  front = broken.front;
  lost = broken.lost ++ more;
  parts = is ∙ ap (λ l. l ++ more) broken.parts ∙ append_assoc broken.front broken.lost more;
  some_lost = omega (arith, broken.some_lost, length-append broken.lost more);
  written = broken.written;
}

-- after bytes that are written whole
pub broken_after : (old mid new : Option (List ℕ)) (first text whole : List ℕ)
    → whole ≡ first ++ text → Appends old mid first → IsBroken text mid new
    → IsBroken whole old new
broken_after old mid new first text whole is done broken = record {
  front = first ++ broken.front;
  lost = broken.lost;
  parts = is ∙ ap (λ l. first ++ l) broken.parts
      ∙ sym (append_assoc first broken.front broken.lost);
  some_lost = broken.some_lost;
  written = Appends-trans old mid new first broken.front done broken.written;
}

------ frames

-- one more
pub sends_more : (old mid new : Option (List ℕ)) (xs : List Message) (x : Message)
    → Appends old mid (frames xs) → Appends mid new (frame_text x)
    → Appends old new (frames (xs ++ x ∷ []))
sends_more old mid new xs x first second =
    appends_both old mid new xs (x ∷ []) first
    (subst (Appends mid new) (sym (frames-one x)) second)

-- a message after others isn't written
pub sends_fail : (old mid new : Option (List ℕ)) (all xs : List Message) (x : Message)
    (rest : List Message) (fault : StreamFault) → Appends old mid (frames xs)
    → Sends x mid new (Err fault) → all ≡ (xs ++ x ∷ []) ++ rest → Written all old new (Err fault)
sends_fail old mid new all xs x rest (Frame fault) first stopped parts = record {
  sent = xs;
  first = x;
  lost = rest;
  parts = parts ∙ append_assoc xs (x ∷ []) rest;
  written = Appends-kept old mid new (frames xs) first stopped.0;
  unsent = stopped.1;
}
sends_fail old mid new all xs x rest Write first stopped parts =
    let one = frames-append xs (x ∷ []) ∙ ap (λ (l : List ℕ). frames xs ++ l) (frames-one x) in
    broken_before old new (frames (xs ++ x ∷ [])) (frames rest) (frames all)
    (ap frames parts ∙ frames-append (xs ++ x ∷ []) rest)
    (broken_after old mid new (frames xs) (frame_text x) (frames (xs ++ x ∷ [])) one first stopped)
sends_fail old mid new all xs x rest Read first stopped parts = absurd stopped

-- a frame that is written in two parts
pub sends_by : (message : Message) (old mid new : Option (List ℕ)) (head batches : List ℕ)
    (result : Result (Unit {0}) StreamFault) → head ++ batches ≡ frame_text message
    → Appends old mid head → Writes batches mid new result → Sends message old new result
sends_by message old mid new head batches (Ok done) is first second =
    subst (Appends old new) is (Appends-trans old mid new head batches first second)
sends_by message old mid new head batches (Err Write) is first second =
    broken_after old mid new head batches (frame_text message) (sym is) first second
sends_by message old mid new head batches (Err Read) is first second = absurd second
sends_by message old mid new head batches (Err (Frame fault)) is first second = absurd second

-- what is cut after others that are written whole
pub cut_behind : (old mid new : Option (List ℕ)) (xs ys : List Message) (fault : FrameFault)
    → Appends old mid (frames xs) → IsCut fault ys mid new → IsCut fault (xs ++ ys) old new
cut_behind old mid new xs ys fault first cut = record {
  sent = xs ++ cut.sent;
  first = cut.first;
  lost = cut.lost;
  parts = ap (λ (l : List Message). xs ++ l) cut.parts
      ∙ sym (append_assoc xs cut.sent (cut.first ∷ cut.lost));
  written = appends_both old mid new xs cut.sent first cut.written;
  unsent = cut.unsent;
}
