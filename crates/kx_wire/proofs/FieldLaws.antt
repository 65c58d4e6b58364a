-- Each field is read as it is spelled.
use Rattle.std.proofs.Common.{◌≡◌, ℕ, zero, suc, ℤ, pos, negsuc, ◌<◌, Bool, true}
use Rattle.std.proofs.Common.{false, List, [], ◌∷◌, ◌++◌, length, Option, Some, None, refl, sym, ap}
use Rattle.std.proofs.Common.{subst, arith, lit<, inl, inr}
use Rattle.std.specs.Prelude.{IfSome}
use Rattle.std.specs.List.{flat_map}
use Rattle.std.specs.Int.{w8, w16, w32, w64}
use Rattle.std.specs.Int.RustNames.{FitsSigned}
use Rattle.std.proofs.lemmas.Bool.Decides.{Decides-ltb}
use Rattle.kx_varint.specs.BigEndian.{unsigned_text, signed_text}
use Rattle.kx_varint.proofs.FixedWidth.{wide8, wide16, wide32, wide64}
use Rattle.kx_message.specs.Ranges.{IsProducerId, IsPartition, IsTimeout, IsName}
use Rattle.kx_message.specs.Ranges.{IsOffsetCount}
use Rattle.kx_message.specs.Codes.{number_of, outcome_byte}
use Rattle.kx_message.specs.Values.{is_partition, is_timeout, is_name, is_offset_count}
use Rattle.kx_message.specs.Values.{partition_with, timeout_with, name_with, code_with}
use Rattle.kx_message.specs.Values.{outcome_with}
use Rattle.kx_message.specs.Values.{flag_with, held_with, optional_held_with, natural_with}
use Rattle.kx_message.specs.Reader.{unsigned, signed}
use Rattle.kx_wire.specs.Reading.{caller_at, partition_at, timeout_at, code_at, outcome_at}
use Rattle.kx_wire.specs.Reading.{flag_at, named, name_at, optional_named, optional_name_at}
use Rattle.kx_wire.specs.Reading.{held_at, marker_at, optional_held_at, bytes_at, offset_at}
use Rattle.kx_wire.specs.Reading.{offset_count_at, offsets_at, id_at, aborted_txn_at, aborted_at}
use Rattle.kx_message.specs.Fields.{caller_text, name_text, optional_text, held_text}
use Rattle.kx_message.specs.Fields.{optional_held_text, code_text, outcome_field, flag_byte}
use Rattle.kx_message.specs.Fields.{flag_text}
use Rattle.kx_message.specs.Fields.{bytes_text, offset_text, offsets_text, aborted_txn_text}
use Rattle.kx_message.specs.Fields.{aborted_text}
use Rattle.kx_message.specs.Message.{IsU16, IsU32, IsCaller, IsHeld, IsMarker, IsOffset, IsAborted}
use Rattle.kx_message.specs.Message.{AreOffsets, AreAborted, IsPayload}
use Rattle.kx_message.specs.declared.code.ErrorCode.{ErrorCode}
use Rattle.kx_message.specs.declared.code.ErrorCode.TheVariants as code
use Rattle.kx_message.specs.declared.outcome.Outcome.{Outcome}
use Rattle.kx_message.specs.declared.outcome.Outcome.TheVariants.{Abort, Commit}
use Rattle.kx_message.specs.declared.message.Held.{Held}
use Rattle.kx_wire.proofs.Exact.{Exact, Completes, Narrows, field, done, last, only_done, took_of}
use Rattle.kx_wire.proofs.Exact.{then_again, last_again, done_again, only_again, Again, narrowed}
use Rattle.kx_wire.proofs.Exact.{some_is, unsigned_exact}
use Rattle.kx_wire.proofs.Exact.{signed_exact, taken_exact, repeated_exact}
use Rattle.kx_wire.proofs.Values.{true_takes, true_again, of_partition, of_timeout, of_name}
use Rattle.kx_wire.proofs.Values.{of_offset_count, code_again, code_takes}

pub u16_exact : Exact (unsigned_text w16) IsU16 (unsigned w16)
u16_exact = unsigned_exact w16 wide16

pub u32_exact : Exact (unsigned_text w32) IsU32 (unsigned w32)
u32_exact = unsigned_exact w32 wide32

pub i32_exact : Exact (signed_text w32) (FitsSigned w32) (signed w32)
i32_exact = signed_exact w32 wide32

pub i64_exact : Exact (signed_text w64) (FitsSigned w64) (signed w64)
i64_exact = signed_exact w64 wide64

pub caller_exact : Exact caller_text IsCaller caller_at
unfolding caller_at caller_text
caller_exact = record {
  takes = took_of (field u32_exact (λ client f. field u32_exact (λ correlation g.
      done (record { client = client; correlation = correlation }) (f, g) refl)));
  again = λ c f. then_again _ u32_exact c.client f.0
      (last_again _ u32_exact c.correlation f.1 done_again);
}

-- ---- numbers that stand for values

partition_narrows : Narrows partition_with (λ n. n) IsU16 IsPartition
partition_narrows = record {
  takes = λ a b f e. let h = true_takes (is_partition a) (IsPartition a) a b (of_partition a) e in
      (sym h.1, subst IsPartition h.1 h.0);
  again = λ b h. true_again (is_partition b) (IsPartition b) b (of_partition b) h;
  fits = λ b h. elim h [
    | inl lt ↦ omega arith
    | inr e ↦ omega arith
  ];
}

pub partition_exact : Exact (unsigned_text w16) IsPartition partition_at
unfolding partition_at
partition_exact = narrowed u16_exact partition_narrows

timeout_narrows : Narrows timeout_with (λ n. n) IsU32 IsTimeout
timeout_narrows = record {
  takes = λ a b f e. let h = true_takes (is_timeout a) (IsTimeout a) a b (of_timeout a) e in
      (sym h.1, subst IsTimeout h.1 h.0);
  again = λ b h. true_again (is_timeout b) (IsTimeout b) b (of_timeout b) h;
  fits = λ b h. omega (arith, h.1);
}

pub timeout_exact : Exact (unsigned_text w32) IsTimeout timeout_at
unfolding timeout_at
timeout_exact = narrowed u32_exact timeout_narrows

code_small : (c : ErrorCode) → number_of c < 100
code_small code.NoError = lit< tt
code_small code.OffsetOutOfRange = lit< tt
code_small code.CorruptMessage = lit< tt
code_small code.UnknownTopicOrPartition = lit< tt
code_small code.MessageTooLarge = lit< tt
code_small code.IllegalGeneration = lit< tt
code_small code.UnknownMemberId = lit< tt
code_small code.OutOfOrderSequenceNumber = lit< tt
code_small code.InvalidProducerEpoch = lit< tt
code_small code.InvalidTxnState = lit< tt
code_small code.InvalidProducerIdMapping = lit< tt
code_small code.ConcurrentTransactions = lit< tt
code_small code.TransactionCoordinatorFenced = lit< tt
code_small code.KafkaStorageError = lit< tt
code_small code.UnsupportedCompressionType = lit< tt
code_small code.InvalidRecord = lit< tt
code_small code.UnstableOffsetCommit = lit< tt
code_small code.ProducerFenced = lit< tt

code_narrows : Narrows code_with (λ c. pos (number_of c)) (FitsSigned w16) (λ _. Unit {0})
code_narrows = record {
  takes = λ a b f e. (code_takes a b e, tt);
  again = λ b h. code_again b;
  fits = λ b h. let small = code_small b in omega arith;
}

pub code_exact : Exact code_text (λ _. Unit {0}) code_at
unfolding code_at code_text
code_exact = narrowed (signed_exact w16 wide16) code_narrows

outcome_takes : (n : ℕ) (o : Outcome) → outcome_with n ≡ Some o → outcome_byte o ≡ n
outcome_takes zero o e = ap outcome_byte (sym (some_is Abort o e))
outcome_takes (suc zero) o e = ap outcome_byte (sym (some_is Commit o e))
outcome_takes (suc (suc n)) o e = absurd cc

outcome_again : (o : Outcome) → outcome_with (outcome_byte o) ≡ Some o
outcome_again Abort = refl
outcome_again Commit = refl

outcome_small : (o : Outcome) → outcome_byte o < 256
outcome_small Abort = lit< tt
outcome_small Commit = lit< tt

pub outcome_exact : Exact outcome_field (λ _. Unit {0}) outcome_at
unfolding outcome_at outcome_field
outcome_exact = narrowed (unsigned_exact w8 wide8) (record {
  takes = λ a b f e. (outcome_takes a b e, tt);
  again = λ b h. outcome_again b;
  fits = λ b h. outcome_small b;
})

flag_takes : (n : ℕ) (b : Bool) → flag_with n ≡ Some b → flag_byte b ≡ n
flag_takes zero b e = ap flag_byte (sym (some_is false b e))
flag_takes (suc zero) b e = ap flag_byte (sym (some_is true b e))
flag_takes (suc (suc n)) b e = absurd cc

flag_again : (b : Bool) → flag_with (flag_byte b) ≡ Some b
flag_again false = refl
flag_again true = refl

flag_small : (b : Bool) → flag_byte b < 256
flag_small false = lit< tt
flag_small true = lit< tt

pub flag_exact : Exact flag_text (λ _. Unit {0}) flag_at
unfolding flag_at flag_text
flag_exact = narrowed (unsigned_exact w8 wide8) (record {
  takes = λ a b f e. (flag_takes a b e, tt);
  again = λ b h. flag_again b;
  fits = λ b h. flag_small b;
})

-- ---- names

names : (n : ℕ) → Narrows name_with (λ t. t) (λ t. length t ≡ n) (λ t. IsName t × (length t ≡ n))
unfolding name_with
names n = record {
  takes = λ a b f e. let h = true_takes (is_name a) (IsName a) a b (of_name a) e in
      (sym h.1, subst (λ t. IsName t × (length t ≡ n)) h.1 (h.0, f));
  again = λ b h. true_again (is_name b) (IsName b) b (of_name b) h.0;
  fits = λ b h. h.1;
}

named_exact : (n : ℕ) → Exact (λ t. t) (λ t. IsName t × (length t ≡ n)) (named n)
unfolding named
named_exact n = narrowed (taken_exact n) (names n)

pub name_exact : Exact name_text IsName name_at
unfolding name_at name_text
name_exact = record {
  takes = took_of (field (unsigned_exact w8 wide8) (λ n f. last (named_exact n) (λ t h.
      (h.0, ap (λ k. unsigned_text w8 k ++ t) (sym h.1)))));
  again = λ t h. then_again _ (unsigned_exact w8 wide8) (length t) (omega (arith, h.fits))
      ((named_exact (length t)).again t (h, refl));
}

optional_takes : (n : ℕ) → n < 256
    → Completes optional_text (λ o. IfSome o IsName) (unsigned_text w8 n) (optional_named n)
unfolding optional_text name_text
optional_takes zero f = done None tt refl
optional_takes (suc n) f = field (named_exact (suc n)) (λ t h.
    done (Some t) h.0 (ap (λ k. unsigned_text w8 k ++ t) (sym h.1)))

optional_again : (o : Option (List ℕ)) → IfSome o IsName
    → Again optional_name_at (optional_text o) o
unfolding optional_name_at optional_text name_text
optional_again None h = last_again _ (unsigned_exact w8 wide8) 0 (lit< tt) done_again
optional_again (Some []) h = let p = h.nonempty in absurd (omega arith)
optional_again (Some (b ∷ t)) h = then_again _ (unsigned_exact w8 wide8) (length (b ∷ t))
    (omega (arith, h.fits)) (last_again _ (named_exact (length (b ∷ t))) (b ∷ t)
    (h, refl) done_again)

pub optional_name_exact : Exact optional_text (λ o. IfSome o IsName) optional_name_at
unfolding optional_name_at
optional_name_exact = record {
  takes = took_of (field (unsigned_exact w8 wide8) optional_takes);
  again = optional_again;
}

-- ---- ids and epochs

held_takes : (id epoch : ℤ) → FitsSigned w64 id → FitsSigned w16 epoch → (h : Held)
    → held_with id epoch ≡ Some h
    → IsHeld h × ((signed_text w64 id ++ signed_text w16 epoch) ≡ held_text h)
unfolding held_text
held_takes (pos id) (pos epoch) f g h e =
    subst (λ h. IsHeld h × ((signed_text w64 (pos id) ++ signed_text w16 (pos epoch))
    ≡ (signed_text w64 (pos h.id) ++ signed_text w16 (pos h.epoch)))) (some_is _ h e)
    (record { id = omega arith; epoch = omega arith }, refl)
held_takes (pos id) (negsuc epoch) f g h e = absurd cc
held_takes (negsuc id) epoch f g h e = absurd cc

held_again : (h : Held) → IsHeld h → Again held_at (held_text h) h
unfolding held_at held_text
held_again h f = then_again _ i64_exact (pos h.id) (omega (arith, f.id))
    (last_again _ (signed_exact w16 wide16) (pos h.epoch) (omega (arith, f.epoch))
    (only_again refl))

pub held_exact : Exact held_text IsHeld held_at
unfolding held_at
held_exact = record {
  takes = took_of (field i64_exact (λ id f. field (signed_exact w16 wide16) (λ epoch g.
      only_done (held_takes id epoch f g))));
  again = held_again;
}

pub marker_exact : Exact held_text IsMarker marker_at
unfolding marker_at
marker_exact = narrowed held_exact (record {
  takes = λ a b f e.
      let h = true_takes _ (0 < a.epoch) a b (Decides-ltb 0 a.epoch) e in
      let some : 0 < a.epoch = h.0 in
      (sym h.1, subst IsMarker h.1 (record { ids = f; some = omega arith }));
  again = λ b h. true_again _ (0 < b.epoch) b (Decides-ltb 0 b.epoch) (omega (arith, h.some));
  fits = λ b h. h.ids;
})

optional_held_takes : (id epoch : ℤ) → FitsSigned w64 id → FitsSigned w16 epoch → (o : Option Held)
    → optional_held_with id epoch ≡ Some o → IfSome o IsHeld
    × ((signed_text w64 id ++ signed_text w16 epoch) ≡ optional_held_text o)
unfolding optional_held_text held_text
optional_held_takes (pos id) (pos epoch) f g o e =
    subst (λ o. IfSome o IsHeld × ((signed_text w64 (pos id) ++ signed_text w16 (pos epoch))
    ≡ optional_held_text o)) (some_is _ o e)
    (record { id = omega arith; epoch = omega arith }, refl)
optional_held_takes (negsuc zero) (negsuc zero) f g o e =
    subst (λ o. IfSome o IsHeld × ((signed_text w64 (negsuc 0) ++ signed_text w16 (negsuc 0))
    ≡ optional_held_text o)) (some_is _ o e) (tt, refl)
optional_held_takes (pos id) (negsuc epoch) f g o e = absurd cc
optional_held_takes (negsuc zero) (pos epoch) f g o e = absurd cc
optional_held_takes (negsuc zero) (negsuc (suc epoch)) f g o e = absurd cc
optional_held_takes (negsuc (suc id)) epoch f g o e = absurd cc

optional_held_again : (o : Option Held) → IfSome o IsHeld
    → Again optional_held_at (optional_held_text o) o
unfolding optional_held_at optional_held_text held_text
optional_held_again None f = then_again _ i64_exact (negsuc 0) (omega arith)
    (last_again _ (signed_exact w16 wide16) (negsuc 0) (omega arith) (only_again refl))
optional_held_again (Some h) f = then_again _ i64_exact (pos h.id) (omega (arith, f.id))
    (last_again _ (signed_exact w16 wide16) (pos h.epoch) (omega (arith, f.epoch))
    (only_again refl))

pub optional_held_exact : Exact optional_held_text (λ o. IfSome o IsHeld) optional_held_at
unfolding optional_held_at
optional_held_exact = record {
  takes = took_of (field i64_exact (λ id f. field (signed_exact w16 wide16) (λ epoch g.
      only_done (optional_held_takes id epoch f g))));
  again = optional_held_again;
}

-- ---- what is counted

pub bytes_exact : Exact bytes_text IsPayload bytes_at
unfolding bytes_at bytes_text
bytes_exact = record {
  takes = took_of (field u32_exact (λ n f. last (taken_exact n) (λ t h.
      (subst IsU32 (sym h) f, ap (λ k. unsigned_text w32 k ++ t) (sym h)))));
  again = λ t h. then_again _ u32_exact (length t) h ((taken_exact (length t)).again t refl);
}

offset_exact : Exact offset_text IsOffset offset_at
unfolding offset_at offset_text
offset_exact = record {
  takes = took_of (field partition_exact (λ p f. field i64_exact (λ o g.
      done (record { partition = p; offset = o }) (record { partition = f; offset = g }) refl)));
  again = λ o f. then_again _ partition_exact o.partition f.partition
      (last_again _ i64_exact o.offset f.offset done_again);
}

offset_count_exact : Exact (unsigned_text w16) IsOffsetCount offset_count_at
unfolding offset_count_at
offset_count_exact = narrowed u16_exact (record {
  takes = λ a b f e.
      let h = true_takes (is_offset_count a) (IsOffsetCount a) a b (of_offset_count a) e in
      (sym h.1, subst IsOffsetCount h.1 h.0);
  again = λ b h. true_again (is_offset_count b) (IsOffsetCount b) b (of_offset_count b) h;
  fits = λ b h. omega (arith, h.1);
})

pub offsets_exact : Exact offsets_text AreOffsets offsets_at
unfolding offsets_at offsets_text
offsets_exact = record {
  takes = took_of (field offset_count_exact (λ n f. last (repeated_exact offset_exact n) (λ os h. (
    record { count = subst IsOffsetCount (sym h.0) f; each = h.1 },
    ap (λ k. unsigned_text w16 k ++ flat_map offset_text os) (sym h.0),
  ))));
  again = λ os h. then_again _ offset_count_exact (length os) h.count
      ((repeated_exact offset_exact (length os)).again os (refl, h.each));
}

pub natural_takes : (z : ℤ) (n : ℕ) → FitsSigned w64 z → natural_with z ≡ Some n
    → (pos n ≡ z) × IsProducerId n
natural_takes (pos k) n f e = subst (λ n. (pos n ≡ pos k) × IsProducerId n) (some_is k n e)
    (refl, omega arith)
natural_takes (negsuc k) n f e = absurd cc

pub id_exact : Exact (λ n. signed_text w64 (pos n)) IsProducerId id_at
unfolding id_at
id_exact = narrowed i64_exact (record {
  takes = natural_takes;
  again = λ b h. refl;
  fits = λ b h. omega arith;
})

aborted_txn_exact : Exact aborted_txn_text IsAborted aborted_txn_at
unfolding aborted_txn_at aborted_txn_text
aborted_txn_exact = record {
  takes = took_of (field id_exact (λ id f. field i64_exact (λ first g.
      done (record { id = id; first = first }) (record { id = f; first = g }) refl)));
  again = λ a f. then_again _ id_exact a.id f.id
      (last_again _ i64_exact a.first f.first done_again);
}

pub aborted_exact : Exact aborted_text AreAborted aborted_at
unfolding aborted_at aborted_text
aborted_exact = record {
  takes = took_of (field u32_exact (λ n f. last (repeated_exact aborted_txn_exact n) (λ xs h. (
    record { count = subst IsU32 (sym h.0) f; each = h.1 },
    ap (λ k. unsigned_text w32 k ++ flat_map aborted_txn_text xs) (sym h.0),
  ))));
  again = λ xs h. then_again _ u32_exact (length xs) h.count
      ((repeated_exact aborted_txn_exact (length xs)).again xs (refl, h.each));
}
