-- What a dump has written while it goes over a file, and that a file is dumped in one way only.
use Rattle.std.proofs.Common.{◌≡◌, ◌<◌, ◌≤◌, ◌+◌, ◌-◌, ℕ, zero, suc, List, [], ◌∷◌, ◌++◌, length}
use Rattle.std.proofs.Common.{drop, Option, Some, Result, Ok, Err, arith, refl, sym, ap, ◌∙◌, subst}
use Rattle.std.proofs.Common.{append_assoc, inl, inr}
use Rattle.std.specs.Prelude.{IsOkUnless, ◌⊎◌}
use Rattle.std.specs.Io.KnownBytes.{Appends, Keeps}
use Rattle.std.proofs.lemmas.List.{length-append, drop_at, length-drop, append-nil}
use Rattle.std.proofs.lemmas.List.Concat.{flat_map-append}
use Rattle.std.proofs.KnownBytes.{Appends-kept, Appends-nil, Appends-trans}
use Rattle.kx_batch.specs.Batch.{Spelled, batch_at}
use Rattle.kx_batch.specs.declared.fault.BatchFault.{BatchFault}
use Rattle.kx_batch.specs.declared.fault.BatchFault.TheVariants as fault
use Rattle.kx_batch.proofs.Whole.{batch_takes, places}
use Rattle.kx_text.specs.Dump.{AreBatches, Dumps, HasDump, IsDumped, IsDumpedInPart, IsDumpedUpTo}
use Rattle.kx_text.specs.Dump.{batch_text_of, dump_text, fault_line}
use Rattle.kx_text.specs.Writing.{IsBroken}
use Rattle.kx_text.specs.declared.dump.DumpFault.{DumpFault}
use Rattle.kx_text.specs.declared.dump.DumpFault.TheVariants as dump_fault
use Rattle.kx_text.proofs.Writes.{broken_after, broken_before, broken_kept}
use Rattle.kx_varint.proofs.Agree.{IsBytes-back, IsBytes-front}
use Rattle.kx_varint.specs.Text.{IsBytes}

------ batches

are_more : (batches : List Spelled) (b : Spelled) (bytes rest behind : List ℕ)
    → AreBatches batches bytes rest → batch_at rest ≡ Ok (b, behind)
    → AreBatches (batches ++ b ∷ []) bytes behind
are_more [] b bytes rest behind h e = (behind, ap batch_at h ∙ e, refl)
are_more (a ∷ batches) b bytes rest behind h e =
    (h.0, h.1, are_more batches b h.0 rest behind h.2 e)

-- two lists of batches that end if none stands end at the same place
same_end : (some others : List Spelled) (bytes p q : List ℕ) (f g : BatchFault)
    → AreBatches some bytes p → AreBatches others bytes q
    → batch_at p ≡ Err f → batch_at q ≡ Err g → p ≡ q
same_end [] [] bytes p q f g h k e d = sym h ∙ k
same_end [] (b ∷ others) bytes p q f g h k e d =
    let s : batch_at bytes ≡ Err f = ap batch_at h ∙ e in absurd (cc (s, k.1))
same_end (a ∷ some) [] bytes p q f g h k e d =
    let s : batch_at bytes ≡ Err g = ap batch_at k ∙ d in absurd (cc (s, h.1))
same_end (a ∷ some) (b ∷ others) bytes p q f g h k e d =
    let both : (a, h.0) ≡ (b, k.0) = cc (h.1, k.1) in
    let s : h.0 ≡ k.0 = ap (λ (x : Spelled × List ℕ). x.1) both in
    same_end some others h.0 p q f g h.2
    (subst (λ (t : List ℕ). AreBatches others t q) (sym s) k.2) e d

none_at_end : batch_at [] ≡ Err fault.Short
unfolding batch_at
none_at_end = refl

------ a dump

-- a front of the file is batches, and their text was written
pub record Underway (bytes rest : List ℕ) (old now : Option (List ℕ)) : Type 0 where
  pub batches : List Spelled
  pub front : List ℕ
  pub parts : bytes ≡ front ++ rest
  pub are : AreBatches batches bytes rest
  pub written : Appends old now (dump_text batches)

pub starts : (bytes : List ℕ) (old : Option (List ℕ)) → Underway bytes bytes old old
starts bytes old = record {
  batches = [];
  front = [];
  parts = refl;
  are = refl;
  written = Appends-nil old;
}

pub goes_on : (bytes rest behind : List ℕ) (b : Spelled) (old mid new : Option (List ℕ))
    → Underway bytes rest old mid → batch_at rest ≡ Ok (b, behind) → rest ≡ b.text ++ behind
    → Appends mid new (batch_text_of b.batch) → Underway bytes behind old new
goes_on bytes rest behind b old mid new h e parts k = record {
  batches = h.batches ++ b ∷ [];
  front = h.front ++ b.text;
  parts = h.parts ∙ ap (λ (t : List ℕ). h.front ++ t) parts
      ∙ sym (append_assoc h.front b.text behind);
  are = are_more h.batches b bytes rest behind h.are e;
  written =
      let one : dump_text (b ∷ []) ≡ batch_text_of b.batch = append-nil (batch_text_of b.batch) in
      let more = flat_map-append (λ (b : Spelled). batch_text_of b.batch) h.batches (b ∷ []) in
      subst (Appends old new)
      (ap (λ (t : List ℕ). dump_text h.batches ++ t) (sym one) ∙ sym more)
      (Appends-trans old mid new (dump_text h.batches) (batch_text_of b.batch) h.written k);
}

pub ends : (bytes rest : List ℕ) (old now : Option (List ℕ)) → Underway bytes rest old now
    → rest ≡ [] → IsDumped bytes old now
ends bytes rest old now h e =
    (h.batches, subst (λ (t : List ℕ). AreBatches h.batches bytes t) e h.are, h.written)

pub stops : (bytes rest : List ℕ) (place : ℕ) (f : BatchFault) (old mid new : Option (List ℕ))
    → Underway bytes rest old mid → place ≡ length bytes - length rest → 0 < length rest
    → batch_at rest ≡ Err f → Appends mid new (fault_line place f)
    → IsDumpedUpTo bytes place f old new
stops bytes rest place f old mid new h at some e k =
    let len : length bytes ≡ length h.front + length rest =
    ap length h.parts ∙ length-append h.front rest in
    let place_is : place ≡ length h.front = omega arith in
    let left : drop place bytes ≡ rest =
    ap (λ (n : ℕ). drop n bytes) place_is ∙ ap (drop (length h.front)) h.parts
    ∙ drop_at h.front rest (length h.front) refl in
    record {
      batches = h.batches;
      within = omega arith;
      are = subst (λ (t : List ℕ). AreBatches h.batches bytes t) (sym left) h.are;
      none = ap batch_at left ∙ e;
      written = Appends-trans old mid new (dump_text h.batches) (fault_line place f) h.written k;
    }

------ a front of a dump

-- the same into an empty writer
in_memory : (bytes rest : List ℕ) (old now : Option (List ℕ))
    → (h : Underway bytes rest old now)
    → Underway bytes rest (Some []) (Some (dump_text h.batches))
in_memory bytes rest old now h = record {
  batches = h.batches;
  front = h.front;
  parts = h.parts;
  are = h.are;
  written = refl;
}

-- some bytes, of which the front is dumped, have a dump
has_dump : (n : ℕ) (bytes rest text : List ℕ) → IsBytes rest → length rest ≤ n
    → Underway bytes rest (Some []) (Some text)
    → (more : List ℕ) × HasDump bytes (text ++ more)
has_dump n bytes [] text fits long h = (
  [],
  inl (ends bytes [] (Some []) (Some (text ++ []))
      (subst (λ (t : List ℕ). Underway bytes [] (Some []) (Some t)) (sym (append-nil text)) h)
      refl),
)
has_dump zero bytes (x ∷ xs) text fits long h = absurd (omega arith)
has_dump (suc n) bytes (x ∷ xs) text fits long h =
    at (λ rest t. has_dump n bytes rest t) (batch_at (x ∷ xs)) refl where
      at : ((rest t : List ℕ) → IsBytes rest → length rest ≤ n
          → Underway bytes rest (Some []) (Some t) → (more : List ℕ) × HasDump bytes (t ++ more))
          → (r : Result (Spelled × List ℕ) BatchFault) → batch_at (x ∷ xs) ≡ r
          → (more : List ℕ) × HasDump bytes (text ++ more)
      at next (Ok read) e =
          let b = read.0 in
          let behind = read.1 in
          let one = batch_text_of b.batch in
          let takes = batch_takes (x ∷ xs) read fits e in
          let size = (places b.batch b.text takes.0
          (IsBytes-front (x ∷ xs) b.text behind takes.1 fits)).long in
          let sizes : suc (length xs) ≡ length b.text + length behind =
          ap length takes.1 ∙ length-append b.text behind in
          let rest = next behind (text ++ one)
          (IsBytes-back (x ∷ xs) b.text behind takes.1 fits) (omega arith)
          (goes_on bytes (x ∷ xs) behind b (Some []) (Some text) (Some (text ++ one)) h e takes.1 refl)
          in
          (one ++ rest.0, subst (HasDump bytes) (append_assoc text one rest.0) rest.1)
      at next (Err f) e =
          let place = length bytes - length (x ∷ xs) in (
            fault_line place f,
            inr (
              place,
              f,
              stops bytes (x ∷ xs) place f (Some []) (Some text) (Some (text ++ fault_line place f)) h
                  refl (omega arith) e refl,
            ),
          )

-- a batch isn't written whole
pub breaks_off : (bytes rest behind : List ℕ) (b : Spelled) (old mid new : Option (List ℕ))
    → IsBytes bytes → Underway bytes rest old mid → batch_at rest ≡ Ok (b, behind)
    → rest ≡ b.text ++ behind → IsBroken (batch_text_of b.batch) mid new
    → IsDumpedInPart bytes old new
breaks_off bytes rest behind b old mid new fits h e parts broken =
    let text = dump_text h.batches in
    let one = batch_text_of b.batch in
    let next = goes_on bytes rest behind b (Some []) (Some text) (Some (text ++ one))
    (in_memory bytes rest old mid h) e parts refl in
    let all = has_dump (length behind) bytes behind (text ++ one)
    (IsBytes-back bytes next.front behind next.parts fits) (omega arith) next in (
      (text ++ one) ++ all.0,
      all.1,
      broken_before old new (text ++ one) all.0 ((text ++ one) ++ all.0) refl
          (broken_after old mid new text one (text ++ one) refl h.written broken),
    )

-- where no batch is isn't written whole
pub stops_off : (bytes rest : List ℕ) (place : ℕ) (f : BatchFault) (old mid new : Option (List ℕ))
    → Underway bytes rest old mid → place ≡ length bytes - length rest → 0 < length rest
    → batch_at rest ≡ Err f → IsBroken (fault_line place f) mid new
    → IsDumpedInPart bytes old new
stops_off bytes rest place f old mid new h at some e broken =
    let text = dump_text h.batches in
    let all = text ++ fault_line place f in (
      all,
      inr (
        place,
        f,
        stops bytes rest place f (Some []) (Some text) (Some all) (in_memory bytes rest old mid h) at
            some e refl,
      ),
      broken_after old mid new text (fault_line place f) all refl h.written broken,
    )

------ a flush after a dump

pub dumps_kept : (bytes : List ℕ) (old mid new : Option (List ℕ))
    (r : Result (Unit {0}) DumpFault) → Keeps mid new → Dumps bytes old mid r
    → Dumps bytes old new r
dumps_kept bytes old mid new (Ok done) kept h =
    (h.0, h.1, Appends-kept old mid new (dump_text h.0) h.2 kept)
dumps_kept bytes old mid new (Err dump_fault.Write) kept h =
    (h.0, h.1, broken_kept h.0 old mid new kept h.2)
dumps_kept bytes old mid new (Err dump_fault.Memory) kept h = absurd h
dumps_kept bytes old mid new (Err (dump_fault.Batch place f)) kept h = record {
  batches = h.batches;
  within = h.within;
  are = h.are;
  none = h.none;
  written = Appends-kept old mid new (dump_text h.batches ++ fault_line place f) h.written kept;
}

------ one way only

-- batches up to the end are no fault
pub only_whole : (bytes : List ℕ) (old new : Option (List ℕ)) (r : Result (Unit {0}) DumpFault)
    → Dumps bytes old new r → (batches : List Spelled) → AreBatches batches bytes []
    → IsOkUnless r dump_fault.Write
only_whole bytes old new (Ok done) h batches are = tt
only_whole bytes old new (Err dump_fault.Write) h batches are = refl
only_whole bytes old new (Err dump_fault.Memory) h batches are = absurd h
only_whole bytes old new (Err (dump_fault.Batch place f)) h batches are =
    let end : [] ≡ drop place bytes = same_end batches h.batches bytes [] (drop place bytes)
    fault.Short f are h.are none_at_end h.none in
    absurd (omega (arith, h.within, ap length end, length-drop place bytes))

-- the first place without a batch is the fault
pub only_stops : (bytes : List ℕ) (old new : Option (List ℕ)) (r : Result (Unit {0}) DumpFault)
    → Dumps bytes old new r → (batches : List Spelled) (place : ℕ) (f : BatchFault)
    → place < length bytes → AreBatches batches bytes (drop place bytes)
    → batch_at (drop place bytes) ≡ Err f
    → (r ≡ Err (dump_fault.Batch place f)) ⊎ (r ≡ Err dump_fault.Write)
only_stops bytes old new (Ok done) h batches place f within are none =
    let end : drop place bytes ≡ [] = same_end batches h.0 bytes (drop place bytes) []
    f fault.Short are h.1 none none_at_end in
    absurd (omega (arith, ap length end, length-drop place bytes))
only_stops bytes old new (Err dump_fault.Write) h batches place f within are none = inr refl
only_stops bytes old new (Err dump_fault.Memory) h batches place f within are none = absurd h
only_stops bytes old new (Err (dump_fault.Batch other g)) h batches place f within are none =
    let end : drop place bytes ≡ drop other bytes = same_end batches h.batches bytes
    (drop place bytes) (drop other bytes) f g are h.are none h.none in
    let place_is : other ≡ place = omega (
      arith,
      h.within,
      ap length end,
      length-drop place bytes,
      length-drop other bytes,
    ) in
    let fault_is : g ≡ f = cc (none, h.none, ap batch_at end) in
    inl (cc (place_is, fault_is))
