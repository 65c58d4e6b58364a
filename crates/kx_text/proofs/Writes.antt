-- What several writes in a row do to the bytes that a writer holds, also if one of them fails.
use Rattle.std.proofs.Common.{◌≡◌, ◌≤◌, ◌<◌, ◌+◌, ◌-◌, ℕ, List, [], ◌++◌, Option, Result, Ok}
use Rattle.std.proofs.Common.{Err, refl, sym, ap, ◌∙◌, append_assoc, subst, length, take, drop}
use Rattle.std.proofs.Common.{arith, length-append, length-drop, take-append-drop}
use Rattle.std.proofs.Math.Seq.{take-add}
use Rattle.std.proofs.lemmas.List.{take_all}
use Rattle.std.specs.Io.KnownBytes.{Appends, Keeps}
use Rattle.std.proofs.KnownBytes.{Appends-kept, Appends-nil, Appends-trans}
use Rattle.kx_text.specs.Writing.{IsBroken, Writes}

------ bytes that are written by many writes

-- so many of the bytes are written, from their front
pub record IsPart (text : List ℕ) (count : ℕ) (old new : Option (List ℕ)) : Type 0 where
  pub within : count ≤ length text
  pub written : Appends old new (take count text)

pub no_part : (text : List ℕ) (known : Option (List ℕ)) → IsPart text 0 known known
no_part text known = record { within = omega arith; written = Appends-nil known }

-- one more write, of all that is left
pub part_more : (text : List ℕ) (count more : ℕ) (old mid new : Option (List ℕ))
    → IsPart text count old mid
    → more ≤ length (take (length text - count) (drop count text))
    → Appends mid new (take more (take (length text - count) (drop count text)))
    → IsPart text (count + more) old new
part_more text count more old mid new part few next =
    let left = length-drop count text in
    let whole = take_all (length text - count) (drop count text) (omega (arith, left)) in
    let size = ap length whole in
    record {
      within = omega (arith, part.within, few, left, size);
      written = subst (Appends old new) (sym (take-add count more text))
          (Appends-trans old mid new (take count text) (take more (drop count text)) part.written
          (subst (λ l. Appends mid new (take more l)) whole next));
    }

-- nothing is left
pub part_all : (text : List ℕ) (count : ℕ) (old new : Option (List ℕ)) → length text ≤ count
    → IsPart text count old new → Appends old new text
part_all text count old new all part =
    subst (Appends old new) (take_all count text all) part.written

-- no more is written, though some is left
pub part_breaks : (text : List ℕ) (count : ℕ) (old mid new : Option (List ℕ))
    → count < length text → IsPart text count old mid → Keeps mid new → IsBroken text old new
part_breaks text count old mid new some part kept = record {
  front = take count text;
  lost = drop count text;
  parts = sym (take-append-drop count text);
  some_lost = omega (arith, some, length-drop count text);
  written = Appends-kept old mid new (take count text) part.written kept;
}

------ bytes of which a front is written

-- nothing is written of some bytes
pub broken_whole : (known : Option (List ℕ)) (text : List ℕ) → 0 < length text
    → IsBroken text known known
broken_whole known text some = record {
  front = [];
  lost = text;
  parts = refl;
  some_lost = some;
  written = Appends-nil known;
}

-- with more bytes after them
pub broken_before : (old new : Option (List ℕ)) (text more whole : List ℕ) → whole ≡ text ++ more
    → IsBroken text old new → IsBroken whole old new
broken_before old new text more whole is broken = record {
  front = broken.front;
  lost = broken.lost ++ more;
  parts = is ∙ ap (λ l. l ++ more) broken.parts ∙ append_assoc broken.front broken.lost more;
  some_lost = omega (arith, broken.some_lost, length-append broken.lost more);
  written = broken.written;
}

-- after bytes that are written whole
pub broken_after : (old mid new : Option (List ℕ)) (first text whole : List ℕ)
    → whole ≡ first ++ text → Appends old mid first → IsBroken text mid new
    → IsBroken whole old new
broken_after old mid new first text whole is done broken = record {
  front = first ++ broken.front;
  lost = broken.lost;
  parts = is ∙ ap (λ l. first ++ l) broken.parts
      ∙ sym (append_assoc first broken.front broken.lost);
  some_lost = broken.some_lost;
  written = Appends-trans old mid new first broken.front done broken.written;
}

-- with a few more
pub broken_more : (old new : Option (List ℕ)) (text more : List ℕ) → IsBroken text old new
    → IsBroken (text ++ more) old new
broken_more old new text more broken = broken_before old new text more (text ++ more) refl broken

-- which the writer keeps
pub broken_kept : (text : List ℕ) (old mid new : Option (List ℕ)) → Keeps mid new
    → IsBroken text old mid → IsBroken text old new
broken_kept text old mid new kept broken = record {
  front = broken.front;
  lost = broken.lost;
  parts = broken.parts;
  some_lost = broken.some_lost;
  written = Appends-kept old mid new broken.front broken.written kept;
}

-- a fault that is handed on
pub fails_with : {E : Type 0} (text : List ℕ) (old new : Option (List ℕ))
    (r : Result (Unit {0}) E) (e : E) → r ≡ Err e → IsBroken text old new → Writes text old new r
fails_with text old new r e is broken = subst (Writes text old new) (sym is) broken

-- the last bytes, after bytes that are written whole
pub writes_after : {E : Type 0} (old mid new : Option (List ℕ)) (first text : List ℕ)
    (r : Result (Unit {0}) E) → Appends old mid first → Writes text mid new r
    → Writes (first ++ text) old new r
writes_after old mid new first text (Ok done) h k = Appends-trans old mid new first text h k
writes_after old mid new first text (Err e) h k =
    broken_after old mid new first text (first ++ text) refl h k

------ several writes

-- some of the whole text was written, and the rest is left to write
pub record IsBegun (old now : Option (List ℕ)) (rest whole : List ℕ) : Type 0 where
  pub text : List ℕ
  pub written : Appends old now text
  pub same : text ++ rest ≡ whole

pub begins : (o : Option (List ℕ)) (whole : List ℕ) → IsBegun o o whole whole
begins o whole = record { text = []; written = Appends-nil o; same = refl }

pub goes_on : (old mid new : Option (List ℕ)) (xs rest whole : List ℕ)
    → IsBegun old mid (xs ++ rest) whole → Appends mid new xs → IsBegun old new rest whole
goes_on old mid new xs rest whole h k = record {
  text = h.text ++ xs;
  written = Appends-trans old mid new h.text xs h.written k;
  same = append_assoc h.text xs rest ∙ h.same;
}

pub ends : (old mid new : Option (List ℕ)) (rest whole : List ℕ)
    → IsBegun old mid rest whole → Appends mid new rest → Appends old new whole
ends old mid new rest whole h k =
    subst (Appends old new) h.same (Appends-trans old mid new h.text rest h.written k)

-- a write of the next bytes fails
pub breaks : (old mid new : Option (List ℕ)) (xs rest whole : List ℕ)
    → IsBegun old mid (xs ++ rest) whole → IsBroken xs mid new → IsBroken whole old new
breaks old mid new xs rest whole h broken =
    broken_after old mid new h.text (xs ++ rest) whole (sym h.same) h.written
    (broken_before mid new xs rest (xs ++ rest) refl broken)
