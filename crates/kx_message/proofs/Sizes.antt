-- How many bytes a message's fields take.
use Rattle.std.proofs.Common.{◌≡◌, ℕ, ℤ, ◌+◌, ◌*◌, ◌<◌, List, [], ◌∷◌, length, Bool}
use Rattle.std.proofs.Common.{Option, Some, None, refl, ap, ◌∙◌, arith, length-append}
use Rattle.std.specs.List.{flat_map}
use Rattle.std.specs.Int.{Width, w8, w16, w32, w64, w128, byte_len}
use Rattle.std.proofs.lemmas.List.Concat.{flat_map-cons}
use Rattle.kx_varint.specs.BigEndian.{unsigned_text, signed_text}
use Rattle.kx_message.specs.declared.code.ErrorCode.{ErrorCode}
use Rattle.kx_message.specs.declared.outcome.Outcome.{Outcome}
use Rattle.kx_message.specs.declared.payload.PartitionOffset.{PartitionOffset}
use Rattle.kx_message.specs.declared.payload.AbortedTxn.{AbortedTxn}
use Rattle.kx_message.specs.declared.message.Held.{Held}
use Rattle.kx_message.specs.declared.requests.Caller.{Caller}
use Rattle.kx_message.specs.declared.message.Message.{Message}
use Rattle.kx_message.specs.declared.message.Message.TheVariants as msg
use Rattle.kx_message.specs.Fields.{caller_text, name_text, optional_text, held_text}
use Rattle.kx_message.specs.Fields.{optional_held_text, code_text, outcome_field, flag_text}
use Rattle.kx_message.specs.Fields.{bytes_text, offset_text, offsets_text, aborted_txn_text}
use Rattle.kx_message.specs.Fields.{aborted_text, fields_of}
use Rattle.kx_message.specs.Sizes.{FitsFrame, HasRoom, size_of, optional_size}

pub of_unsigned : (w : Width) (n : ℕ) → length (unsigned_text w n) ≡ byte_len w
unfolding unsigned_text
of_unsigned w8 n = refl
of_unsigned w16 n = refl
of_unsigned w32 n = refl
of_unsigned w64 n = refl
of_unsigned w128 n = refl

pub of_signed : (w : Width) (z : ℤ) → length (signed_text w z) ≡ byte_len w
unfolding signed_text
of_signed w8 z = refl
of_signed w16 z = refl
of_signed w32 z = refl
of_signed w64 z = refl
of_signed w128 z = refl

of_caller : (caller : Caller) → length (caller_text caller) ≡ 8
unfolding caller_text
of_caller caller = simp (length-append, of_unsigned) refl

pub of_name : (name : List ℕ) → length (name_text name) ≡ 1 + length name
unfolding name_text
of_name name = simp (length-append, of_unsigned) (omega arith)

of_optional : (name : Option (List ℕ)) → length (optional_text name) ≡ optional_size name
unfolding optional_text
of_optional None = of_unsigned w8 0
of_optional (Some name) = of_name name

pub of_held : (held : Held) → length (held_text held) ≡ 10
unfolding held_text
of_held held = simp (length-append, of_signed) refl

of_optional_held : (held : Option Held) → length (optional_held_text held) ≡ 10
unfolding optional_held_text
of_optional_held None = simp (length-append, of_signed) refl
of_optional_held (Some held) = of_held held

of_code : (code : ErrorCode) → length (code_text code) ≡ 2
unfolding code_text
of_code code = simp of_signed refl

of_outcome : (outcome : Outcome) → length (outcome_field outcome) ≡ 1
unfolding outcome_field
of_outcome outcome = simp of_unsigned refl

of_flag : (flag : Bool) → length (flag_text flag) ≡ 1
unfolding flag_text
of_flag flag = simp of_unsigned refl

of_bytes : (bytes : List ℕ) → length (bytes_text bytes) ≡ 4 + length bytes
unfolding bytes_text
of_bytes bytes = simp (length-append, of_unsigned) (omega arith)

pub of_each : {A : Type 0} (text : A → List ℕ) (size : ℕ) → ((x : A) → length (text x) ≡ size)
    → (xs : List A) → length (flat_map text xs) ≡ size * length xs
of_each text size each [] = omega arith
of_each text size each (x ∷ xs) =
    ap length (flat_map-cons text x xs) ∙ omega (
      arith,
      length-append (text x) (flat_map text xs),
      each x,
      of_each text size each xs,
    )

of_offset : (o : PartitionOffset) → length (offset_text o) ≡ 10
unfolding offset_text
of_offset o = simp (length-append, of_unsigned, of_signed) refl

of_offsets : (os : List PartitionOffset) → length (offsets_text os) ≡ 2 + 10 * length os
unfolding offsets_text
of_offsets os = omega (
  arith,
  length-append (unsigned_text w16 (length os)) (flat_map offset_text os),
  of_unsigned w16 (length os),
  of_each offset_text 10 of_offset os,
)

of_aborted_txn : (a : AbortedTxn) → length (aborted_txn_text a) ≡ 16
unfolding aborted_txn_text
of_aborted_txn a = simp (length-append, of_signed) refl

of_aborted : (xs : List AbortedTxn) → length (aborted_text xs) ≡ 4 + 16 * length xs
unfolding aborted_text
of_aborted xs = omega (
  arith,
  length-append (unsigned_text w32 (length xs)) (flat_map aborted_txn_text xs),
  of_unsigned w32 (length xs),
  of_each aborted_txn_text 16 of_aborted_txn xs,
)

ruleset sizes = (
  length-append,
  of_unsigned,
  of_signed,
  of_caller,
  of_name,
  of_optional,
  of_held,
  of_optional_held,
  of_code,
  of_outcome,
  of_flag,
  of_bytes,
  of_offsets,
  of_aborted,
)

pub size_is : (m : Message) → length (fields_of m) ≡ size_of m
size_is (msg.InitProducerId it) = simp sizes (omega arith)
size_is (msg.InitReply it) = simp sizes (omega arith)
size_is (msg.EndTxn it) = simp sizes (omega arith)
size_is (msg.EndReply it) = simp sizes (omega arith)
size_is (msg.Produce it) = simp sizes (omega arith)
size_is (msg.ProduceReply it) = simp sizes (omega arith)
size_is (msg.AddPartition it) = simp sizes (omega arith)
size_is (msg.AddReply it) = simp sizes (omega arith)
size_is (msg.WriteMarker it) = simp sizes (omega arith)
size_is (msg.MarkerReply it) = simp sizes (omega arith)
size_is (msg.Fetch it) = simp sizes (omega arith)
size_is (msg.FetchReply it) =
    simp sizes (omega arith)
size_is (msg.Join it) = simp sizes (omega arith)
size_is (msg.JoinReply it) = simp sizes (omega arith)
size_is (msg.Leave it) = simp sizes (omega arith)
size_is (msg.LeaveReply it) = simp sizes (omega arith)
size_is (msg.TxnOffsetCommit it) =
    simp sizes (omega arith)
size_is (msg.OffsetsReply it) = simp sizes (omega arith)
size_is (msg.OffsetFetch it) = simp sizes (omega arith)
size_is (msg.OffsetFetchReply it) = simp sizes (omega arith)

room_of : (m : Message) → size_of m < 2097152 → HasRoom m
room_of (msg.Produce it) h = omega arith
room_of (msg.FetchReply it) h =
    (omega arith, omega arith)
room_of other h = tt

pub room : (m : Message) → FitsFrame m → HasRoom m
room m h = room_of m (omega (arith, size_is m))
