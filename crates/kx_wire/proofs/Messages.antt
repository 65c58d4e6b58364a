-- Each message is read as it is spelled.
use Rattle.std.proofs.Common.{◌≡◌, ℕ, zero, suc, ◌+◌, List, [], ◌∷◌}
use Rattle.std.proofs.Common.{None, true, refl, subst, append_assoc, arith}
use Rattle.std.specs.List.{slice_get}
use Rattle.std.proofs.lemmas.Option.{none-some}
use Rattle.kx_message.specs.Reader.{Reader, only}
use Rattle.kx_message.specs.Fields.{kind_of, fields_of}
use Rattle.kx_message.specs.Message.{IsMessage}
use Rattle.kx_message.specs.declared.message.Message.{Message}
use Rattle.kx_message.specs.declared.message.Message.TheVariants as msg
use Rattle.kx_wire.proofs.Exact.{Completes, Again, field, done, then_again, last_again}
use Rattle.kx_wire.proofs.Exact.{only_done, done_again, spelled}
use Rattle.kx_wire.proofs.FieldLaws.{aborted_exact, bytes_exact, caller_exact, code_exact}
use Rattle.kx_wire.proofs.FieldLaws.{flag_exact, held_exact, i32_exact, i64_exact, marker_exact}
use Rattle.kx_wire.proofs.FieldLaws.{name_exact, offsets_exact, optional_held_exact}
use Rattle.kx_wire.proofs.FieldLaws.{optional_name_exact, outcome_exact, partition_exact}
use Rattle.kx_wire.proofs.FieldLaws.{timeout_exact, u16_exact, u32_exact}
use Rattle.kx_wire.specs.Reading.{readers, reader_or_none, fields_at, is_kind}
use Rattle.kx_wire.specs.Reading.{init_producer_id_at, init_reply_at, end_txn_at, end_reply_at}
use Rattle.kx_wire.specs.Reading.{produce_at, produce_reply_at, add_partition_at, add_reply_at}
use Rattle.kx_wire.specs.Reading.{write_marker_at, marker_reply_at, fetch_at, fetch_reply_at}
use Rattle.kx_wire.specs.Reading.{join_at, join_reply_at, leave_at, leave_reply_at}
use Rattle.kx_wire.specs.Reading.{txn_offset_commit_at, offsets_reply_at, offset_fetch_at}
use Rattle.kx_wire.specs.Reading.{offset_fetch_reply_at}

-- what the reader gives is a message of this kind, spelled so
abbrev OfKind : ℕ → Reader Message → Type 0
OfKind kind read = Completes fields_of (λ m. IsMessage m × (kind_of m ≡ kind)) [] read

init_producer_id_takes : OfKind 1 init_producer_id_at
unfolding init_producer_id_at
init_producer_id_takes =
    field caller_exact (λ _ f0. field optional_name_exact (λ _ f1. field timeout_exact (λ _ f2. done
    _ ((f0, f1, f2), refl) (simp append_assoc))))

init_reply_takes : OfKind 2 init_reply_at
unfolding init_reply_at
init_reply_takes =
    field caller_exact (λ _ f0. field code_exact (λ _ f1. field optional_held_exact (λ _ f2. done _
    ((f0, f2), refl) (simp append_assoc))))

end_txn_takes : OfKind 3 end_txn_at
unfolding end_txn_at
end_txn_takes =
    field caller_exact (λ _ f0. field name_exact (λ _ f1. field held_exact (λ _ f2. field
    outcome_exact (λ _ f3. done _ ((f0, f1, f2), refl) (simp append_assoc)))))

end_reply_takes : OfKind 4 end_reply_at
unfolding end_reply_at
end_reply_takes =
    field caller_exact (λ _ f0. field code_exact (λ _ f1. field optional_held_exact (λ _ f2. done _
    ((f0, f2), refl) (simp append_assoc))))

produce_takes : OfKind 5 produce_at
unfolding produce_at
produce_takes =
    field caller_exact (λ _ f0. field optional_name_exact (λ _ f1. field partition_exact (λ _ f2.
    field bytes_exact (λ _ f3. done _ ((f0, f1, f2, f3), refl) (simp append_assoc)))))

produce_reply_takes : OfKind 6 produce_reply_at
unfolding produce_reply_at
produce_reply_takes =
    field caller_exact (λ _ f0. field partition_exact (λ _ f1. field code_exact (λ _ f2. field
    i64_exact (λ _ f3. done _ ((f0, f1, f3), refl) (simp append_assoc)))))

add_partition_takes : OfKind 7 add_partition_at
unfolding add_partition_at
add_partition_takes =
    field name_exact (λ _ f0. field held_exact (λ _ f1. field partition_exact (λ _ f2. done _ (
      (
        f0,
        f1,
        f2,
      ),
      refl,
    ) (simp append_assoc))))

add_reply_takes : OfKind 8 add_reply_at
unfolding add_reply_at
add_reply_takes =
    field partition_exact (λ _ f0. field name_exact (λ _ f1. field held_exact (λ _ f2. field
    code_exact (λ _ f3. done _ ((f0, f1, f2), refl) (simp append_assoc)))))

write_marker_takes : OfKind 9 write_marker_at
unfolding write_marker_at
write_marker_takes =
    field partition_exact (λ _ f0. field name_exact (λ _ f1. field marker_exact (λ _ f2. field
    i32_exact (λ _ f3. field outcome_exact (λ _ f4. done _ ((f0, f1, f2, f3), refl) (simp
    append_assoc))))))

marker_reply_takes : OfKind 10 marker_reply_at
unfolding marker_reply_at
marker_reply_takes =
    field partition_exact (λ _ f0. field name_exact (λ _ f1. field marker_exact (λ _ f2. field
    code_exact (λ _ f3. done _ ((f0, f1, f2), refl) (simp append_assoc)))))

fetch_takes : OfKind 11 fetch_at
unfolding fetch_at
fetch_takes =
    field caller_exact (λ _ f0. field partition_exact (λ _ f1. field i64_exact (λ _ f2. field
    u32_exact (λ _ f3. field flag_exact (λ _ f4. done _ ((f0, f1, f2, f3), refl) (simp
    append_assoc))))))

fetch_reply_takes : OfKind 12 fetch_reply_at
unfolding fetch_reply_at
fetch_reply_takes =
    field caller_exact (λ _ f0. field partition_exact (λ _ f1. field code_exact (λ _ f2. field
    i64_exact (λ _ f3. field i64_exact (λ _ f4. field i64_exact (λ _ f5. field aborted_exact
    (λ _ f6. field bytes_exact (λ _ f7. done _ ((f0, f1, f3, f4, f5, f6, f7), refl) (simp
    append_assoc)))))))))

join_takes : OfKind 13 join_at
unfolding join_at
join_takes =
    field caller_exact (λ _ f0. field name_exact (λ _ f1. done _ ((f0, f1), refl) (simp
    append_assoc)))

join_reply_takes : OfKind 14 join_reply_at
unfolding join_reply_at
join_reply_takes =
    field caller_exact (λ _ f0. field code_exact (λ _ f1. field i32_exact (λ _ f2. field u16_exact
    (λ _ f3. field u16_exact (λ _ f4. done _ ((f0, f2, f3, f4), refl) (simp append_assoc))))))

leave_takes : OfKind 15 leave_at
unfolding leave_at
leave_takes =
    field caller_exact (λ _ f0. field name_exact (λ _ f1. done _ ((f0, f1), refl) (simp
    append_assoc)))

leave_reply_takes : OfKind 16 leave_reply_at
unfolding leave_reply_at
leave_reply_takes =
    field caller_exact (λ _ f0. field code_exact (λ _ f1. done _ (f0, refl) (simp append_assoc)))

txn_offset_commit_takes : OfKind 17 txn_offset_commit_at
unfolding txn_offset_commit_at
txn_offset_commit_takes =
    field caller_exact (λ _ f0. field name_exact (λ _ f1. field name_exact (λ _ f2. field u32_exact
    (λ _ f3. field i32_exact (λ _ f4. field held_exact (λ _ f5. field i32_exact (λ _ f6. field
    offsets_exact (λ _ f7. done _ ((f0, f1, f2, f3, f4, f5, f6, f7), refl) (simp
    append_assoc)))))))))

offsets_reply_takes : OfKind 18 offsets_reply_at
unfolding offsets_reply_at
offsets_reply_takes =
    field caller_exact (λ _ f0. field code_exact (λ _ f1. done _ (f0, refl) (simp append_assoc)))

offset_fetch_takes : OfKind 19 offset_fetch_at
unfolding offset_fetch_at
offset_fetch_takes =
    field caller_exact (λ _ f0. field name_exact (λ _ f1. field partition_exact (λ _ f2. field
    flag_exact (λ _ f3. done _ ((f0, f1, f2), refl) (simp append_assoc)))))

offset_fetch_reply_takes : OfKind 20 offset_fetch_reply_at
unfolding offset_fetch_reply_at
offset_fetch_reply_takes =
    field caller_exact (λ _ f0. field code_exact (λ _ f1. field i64_exact (λ _ f2. done _ (
      (f0, f2),
      refl,
    ) (simp append_assoc))))

-- ---- every kind

abbrev AllOf : ℕ → List (Reader Message) → Type 0
AllOf kind [] = Unit {0}
AllOf kind (read ∷ reads) = OfKind kind read × AllOf (suc kind) reads

all_of : AllOf 1 readers
all_of = (
  init_producer_id_takes,
  (
    init_reply_takes,
    (
      end_txn_takes,
      (
        end_reply_takes,
        (
          produce_takes,
          (
            produce_reply_takes,
            (
              add_partition_takes,
              (
                add_reply_takes,
                (
                  write_marker_takes,
                  (
                    marker_reply_takes,
                    (
                      fetch_takes,
                      (
                        fetch_reply_takes,
                        (
                          join_takes,
                          (
                            join_reply_takes,
                            (
                              leave_takes,
                              (
                                leave_reply_takes,
                                (
                                  txn_offset_commit_takes,
                                  (
                                    offsets_reply_takes,
                                    (offset_fetch_takes, (offset_fetch_reply_takes, tt)),
                                  ),
                                ),
                              ),
                            ),
                          ),
                        ),
                      ),
                    ),
                  ),
                ),
              ),
            ),
          ),
        ),
      ),
    ),
  ),
)

none_takes : (kind : ℕ) → OfKind kind (only None)
none_takes kind = only_done (λ m e. absurd (none-some m e))

of_place : (kind : ℕ) (reads : List (Reader Message)) → AllOf kind reads → (n : ℕ)
    → OfKind (n + kind) (reader_or_none (slice_get reads n))
of_place kind [] all n = none_takes (n + kind)
of_place kind (read ∷ reads) all zero =
    let e : kind ≡ 0 + kind = omega arith in subst (λ k. OfKind k read) e all.0
of_place kind (read ∷ reads) all (suc n) =
    let e : n + suc kind ≡ suc n + kind = omega arith in
    subst (λ k. OfKind k (reader_or_none (slice_get reads n))) e
    (of_place (suc kind) reads all.1 n)

pub kind_takes : (kind : ℕ) → OfKind kind (fields_at kind)
unfolding fields_at
kind_takes zero = none_takes zero
kind_takes (suc n) =
    let e : n + 1 ≡ suc n = omega arith in
    subst (λ k. OfKind k (reader_or_none (slice_get readers n))) e (of_place 1 readers all_of n)

pub message_again : (m : Message) → IsMessage m → Again (fields_at (kind_of m)) (fields_of m) m
unfolding fields_at init_producer_id_at init_reply_at end_txn_at end_reply_at produce_at
    produce_reply_at add_partition_at add_reply_at write_marker_at marker_reply_at fetch_at
    fetch_reply_at join_at join_reply_at leave_at leave_reply_at txn_offset_commit_at
    offsets_reply_at offset_fetch_at offset_fetch_reply_at
message_again (msg.InitProducerId it) h =
    spelled (then_again _ caller_exact it.caller h.0 (then_again _ optional_name_exact it.txn h.1
    (last_again _ timeout_exact it.timeout h.2 done_again))) (simp append_assoc)
message_again (msg.InitReply it) h =
    spelled (then_again _ caller_exact it.caller h.0 (then_again _ code_exact it.code tt (last_again
    _ optional_held_exact it.held h.1 done_again))) (simp append_assoc)
message_again (msg.EndTxn it) h =
    spelled (then_again _ caller_exact it.caller h.0 (then_again _ name_exact it.txn h.1 (then_again
    _ held_exact it.held h.2 (last_again _ outcome_exact it.outcome tt done_again)))) (simp
    append_assoc)
message_again (msg.EndReply it) h =
    spelled (then_again _ caller_exact it.caller h.0 (then_again _ code_exact it.code tt (last_again
    _ optional_held_exact it.held h.1 done_again))) (simp append_assoc)
message_again (msg.Produce it) h =
    spelled (then_again _ caller_exact it.caller h.0 (then_again _ optional_name_exact it.txn h.1
    (then_again _ partition_exact it.partition h.2 (last_again _ bytes_exact it.batch h.3
    done_again)))) (simp append_assoc)
message_again (msg.ProduceReply it) h =
    spelled (then_again _ caller_exact it.caller h.0 (then_again _ partition_exact it.partition h.1
    (then_again _ code_exact it.code tt (last_again _ i64_exact it.offset h.2 done_again)))) (simp
    append_assoc)
message_again (msg.AddPartition it) h =
    spelled (then_again _ name_exact it.txn h.0 (then_again _ held_exact it.held h.1 (last_again _
    partition_exact it.partition h.2 done_again))) (simp append_assoc)
message_again (msg.AddReply it) h =
    spelled (then_again _ partition_exact it.partition h.0 (then_again _ name_exact it.txn h.1
    (then_again _ held_exact it.held h.2 (last_again _ code_exact it.code tt done_again)))) (simp
    append_assoc)
message_again (msg.WriteMarker it) h =
    spelled (then_again _ partition_exact it.partition h.0 (then_again _ name_exact it.txn h.1
    (then_again _ marker_exact it.held h.2 (then_again _ i32_exact it.coordinator_epoch h.3
    (last_again _ outcome_exact it.outcome tt done_again))))) (simp append_assoc)
message_again (msg.MarkerReply it) h =
    spelled (then_again _ partition_exact it.partition h.0 (then_again _ name_exact it.txn h.1
    (then_again _ marker_exact it.held h.2 (last_again _ code_exact it.code tt done_again)))) (simp
    append_assoc)
message_again (msg.Fetch it) h =
    spelled (then_again _ caller_exact it.caller h.0 (then_again _ partition_exact it.partition h.1
    (then_again _ i64_exact it.from h.2 (then_again _ u32_exact it.max h.3 (last_again _ flag_exact
    it.committed tt done_again))))) (simp append_assoc)
message_again (msg.FetchReply it) h =
    spelled (then_again _ caller_exact it.caller h.0 (then_again _ partition_exact it.partition h.1
    (then_again _ code_exact it.code tt (then_again _ i64_exact it.next h.2 (then_again _ i64_exact
    it.lso h.3 (then_again _ i64_exact it.end h.4 (then_again _ aborted_exact it.aborted h.5
    (last_again _ bytes_exact it.batches h.6 done_again)))))))) (simp append_assoc)
message_again (msg.Join it) h =
    then_again _ caller_exact it.caller h.0 (last_again _ name_exact it.group h.1 done_again)
message_again (msg.JoinReply it) h =
    spelled (then_again _ caller_exact it.caller h.0 (then_again _ code_exact it.code tt (then_again
    _ i32_exact it.generation h.1 (then_again _ u16_exact it.place h.2 (last_again _ u16_exact
    it.count h.3 done_again))))) (simp append_assoc)
message_again (msg.Leave it) h =
    then_again _ caller_exact it.caller h.0 (last_again _ name_exact it.group h.1 done_again)
message_again (msg.LeaveReply it) h =
    then_again _ caller_exact it.caller h (last_again _ code_exact it.code tt done_again)
message_again (msg.TxnOffsetCommit it) h =
    spelled (then_again _ caller_exact it.caller h.0 (then_again _ name_exact it.txn h.1 (then_again
    _ name_exact it.group h.2 (then_again _ u32_exact it.member h.3 (then_again _ i32_exact
    it.generation h.4 (then_again _ held_exact it.held h.5 (then_again _ i32_exact it.first_sequence
    h.6 (last_again _ offsets_exact it.offsets h.7 done_again)))))))) (simp append_assoc)
message_again (msg.OffsetsReply it) h =
    then_again _ caller_exact it.caller h (last_again _ code_exact it.code tt done_again)
message_again (msg.OffsetFetch it) h =
    spelled (then_again _ caller_exact it.caller h.0 (then_again _ name_exact it.group h.1
    (then_again _ partition_exact it.partition h.2 (last_again _ flag_exact it.stable tt
    done_again)))) (simp append_assoc)
message_again (msg.OffsetFetchReply it) h =
    spelled (then_again _ caller_exact it.caller h.0 (then_again _ code_exact it.code tt (last_again
    _ i64_exact it.offset h.1 done_again))) (simp append_assoc)

pub kind_again : (m : Message) → is_kind (kind_of m) ≡ true
kind_again (msg.InitProducerId it) = refl
kind_again (msg.InitReply it) = refl
kind_again (msg.EndTxn it) = refl
kind_again (msg.EndReply it) = refl
kind_again (msg.Produce it) = refl
kind_again (msg.ProduceReply it) = refl
kind_again (msg.AddPartition it) = refl
kind_again (msg.AddReply it) = refl
kind_again (msg.WriteMarker it) = refl
kind_again (msg.MarkerReply it) = refl
kind_again (msg.Fetch it) = refl
kind_again (msg.FetchReply it) = refl
kind_again (msg.Join it) = refl
kind_again (msg.JoinReply it) = refl
kind_again (msg.Leave it) = refl
kind_again (msg.LeaveReply it) = refl
kind_again (msg.TxnOffsetCommit it) = refl
kind_again (msg.OffsetsReply it) = refl
kind_again (msg.OffsetFetch it) = refl
kind_again (msg.OffsetFetchReply it) = refl
