-- Worked runs of processors, by computation.
use Rattle.std.proofs.Common.{◌≡◌, ◌++◌, true, List, [], ◌∷◌, length, map, replicate, refl}
use Rattle.std.specs.Prelude.{codes}
use Rattle.kx_model.proofs.Printing.{Step, ◌gives◌, init, begin, send, commit, abort, resend, put}
use Rattle.kx_model.proofs.Printing.{deliver, join, offset, drop_member, client, poll}
use Rattle.kx_model.proofs.Printing.{fetch_committed, fetch_page, leave}
use Rattle.kx_log.specs.Row.{row_from}
use Rattle.kx_model.proofs.Rules.{rules}
use Rattle.kx_system.specs.Processor.{batches_of, processor_step, takes}
use Rattle.kx_system.specs.System.{System, start_system, system_step}
use Rattle.kx_system.proofs.Printing.{Prints, after, with_new}

-- input partition 0 has two records, and processor 1 is to write their images to partition 1
abbrev two_records : System
two_records = with_new 1 "a" "g" 1
    (after ((put 0 "x" ("y" ∷ []) gives ("offset 0" ∷ [])) ∷ []) (start_system 2))

-- it has an id, is a member, and has a page of both records
abbrev to_page : List Step
to_page =
    (init 1 gives ("#0 c1>co Init a 60000" ∷ []))
    ∷ (deliver 0 gives ("#1 co>c1 InitReply 0 0 0" ∷ []))
    ∷ (deliver 1 gives ("-" ∷ []))
    ∷ (poll 1 gives ("#2 c1>po Join g" ∷ []))
    ∷ (poll 1 gives ("-" ∷ []))
    ∷ (deliver 2 gives ("#3 po>c1 JoinReply 0 1 0 1" ∷ []))
    ∷ (deliver 3 gives ("-" ∷ []))
    ∷ (poll 1 gives ("#4 c1>po OffsetFetch g 0" ∷ []))
    ∷ (deliver 4 gives ("#5 po>c1 OffsetFetchReply 0 -1" ∷ []))
    ∷ (deliver 5 gives ("-" ∷ []))
    ∷ (poll 1 gives ("#6 c1>p0 Fetch 0 0" ∷ []))
    ∷ (deliver 6 gives ("#7 p0>c1 FetchReply 0 2" ∷ []))
    ∷ (deliver 7 gives ("-" ∷ []))
    ∷ []

-- their images are appended, and its offset is about to be
abbrev to_offset : List Step
to_offset =
    (poll 1 gives ("#8 c1>p1 Produce 0 0 0 2" ∷ []))
    ∷ (deliver 8 gives ("#9 p1>co Add a 0 0 1" ∷ []))
    ∷ (deliver 9 gives ("#10 co>p1 AddReply 0 0 0" ∷ []))
    ∷ (deliver 10 gives ("#11 p1>c1 ProduceReply 0 0" ∷ []))
    ∷ (deliver 11 gives ("-" ∷ []))
    ∷ (poll 1 gives ("#12 c1>po Offsets g 1 1 0 0 0 1" ∷ []))
    ∷ (deliver 12 gives ("#13 po>co Add a 0 0 o" ∷ []))
    ∷ (deliver 13 gives ("#14 co>po AddReply 0 0 0" ∷ []))
    ∷ []

-- the transaction commits
abbrev to_end : List Step
to_end =
    (deliver 14 gives ("#15 po>c1 OffsetsReply 0" ∷ []))
    ∷ (deliver 15 gives ("-" ∷ []))
    ∷ (poll 1 gives ("#16 c1>co EndTxn a 0 0 commit" ∷ []))
    ∷ (deliver 16 gives
    ("#17 co>c1 EndReply 0 0 1"
    ∷ "#18 co>p1 Marker 0 1 commit 1" ∷ "#19 co>po Marker 0 1 commit 1" ∷ []))
    ∷ (offset "g" 0 true gives ("88 -1" ∷ []))
    ∷ (deliver 18 gives ("#20 p1>co MarkerReply 0 0 1" ∷ []))
    ∷ (deliver 19 gives ("#21 po>co MarkerReply 0 0 1" ∷ []))
    ∷ []

-- the images and the offset behind the records count at once
images_and_offset_in_one_transaction :
    Prints two_records (to_page ++ to_offset ++ to_end
    ++ (offset "g" 0 true gives ("0 2" ∷ []))
    ∷ (fetch_committed 1 0 gives ("0 ox" ∷ "1 oy" ∷ "next 3 lso 3 end 3" ∷ []))
    ∷ [])
unfolding rules row_from takes processor_step system_step
images_and_offset_in_one_transaction = refl

-- the next pass begins behind what the one before committed, finds nothing new, and another begins
the_next_pass_reads_on :
    Prints two_records (to_page ++ to_offset ++ to_end
    ++ (deliver 17 gives ("-" ∷ []))
    ∷ (poll 1 gives ("#22 c1>po Join g" ∷ []))
    ∷ (deliver 22 gives ("#23 po>c1 JoinReply 0 1 0 1" ∷ []))
    ∷ (deliver 23 gives ("-" ∷ []))
    ∷ (poll 1 gives ("#24 c1>po OffsetFetch g 0" ∷ []))
    ∷ (deliver 24 gives ("#25 po>c1 OffsetFetchReply 0 2" ∷ []))
    ∷ (deliver 25 gives ("-" ∷ []))
    ∷ (poll 1 gives ("#26 c1>p0 Fetch 0 2" ∷ []))
    ∷ (deliver 26 gives ("#27 p0>c1 FetchReply 0 2" ∷ []))
    ∷ (deliver 27 gives ("-" ∷ []))
    ∷ (poll 1 gives ("#28 c1>po Join g" ∷ []))
    ∷ [])
unfolding rules row_from takes processor_step system_step
the_next_pass_reads_on = refl

-- an input partition whose offset is pending is passed over
an_offset_is_pending :
    Prints two_records (to_page ++ to_offset
    ++ (deliver 14 gives ("#15 po>c1 OffsetsReply 0" ∷ []))
    ∷ (deliver 15 gives ("-" ∷ []))
    ∷ (poll 1 gives ("#16 c1>co EndTxn a 0 0 commit" ∷ []))
    ∷ (deliver 16 gives
    ("#17 co>c1 EndReply 0 0 1"
    ∷ "#18 co>p1 Marker 0 1 commit 1" ∷ "#19 co>po Marker 0 1 commit 1" ∷ []))
    ∷ (deliver 17 gives ("-" ∷ []))
    ∷ (poll 1 gives ("#20 c1>po Join g" ∷ []))
    ∷ (deliver 20 gives ("#21 po>c1 JoinReply 0 1 0 1" ∷ []))
    ∷ (deliver 21 gives ("-" ∷ []))
    ∷ (poll 1 gives ("#22 c1>po OffsetFetch g 0" ∷ []))
    ∷ (deliver 22 gives ("#23 po>c1 OffsetFetchReply 88 -1" ∷ []))
    ∷ (deliver 23 gives ("-" ∷ []))
    ∷ (poll 1 gives ("#24 c1>po Join g" ∷ []))
    ∷ [])
unfolding rules row_from takes processor_step system_step
an_offset_is_pending = refl

-- another member has joined: the transaction is aborted, and a pass begins anew
a_new_generation :
    Prints two_records (to_page ++ to_offset
    ++ (client 2 "b" gives ("-" ∷ []))
    ∷ (join 2 "g" gives ("#15 c2>po Join g" ∷ []))
    ∷ (deliver 15 gives ("#16 po>c2 JoinReply 0 2 1 2" ∷ []))
    ∷ (deliver 14 gives ("#17 po>c1 OffsetsReply 22" ∷ []))
    ∷ (deliver 17 gives ("-" ∷ []))
    ∷ (poll 1 gives ("#18 c1>co EndTxn a 0 0 abort" ∷ []))
    ∷ (deliver 18 gives
    ("#19 co>c1 EndReply 0 0 1"
    ∷ "#20 co>p1 Marker 0 1 abort 1" ∷ "#21 co>po Marker 0 1 abort 1" ∷ []))
    ∷ (deliver 19 gives ("-" ∷ []))
    ∷ (poll 1 gives ("#22 c1>po Join g" ∷ []))
    ∷ (deliver 20 gives ("#23 p1>co MarkerReply 0 0 1" ∷ []))
    ∷ (fetch_committed 1 0 gives ("next 3 lso 3 end 3" ∷ []))
    ∷ [])
unfolding rules row_from takes processor_step system_step
a_new_generation = refl

-- it is no member any more: the transaction is aborted, and it has failed
a_dropped_member :
    Prints two_records (to_page ++ to_offset
    ++ (drop_member "g" 1 gives ("code 0" ∷ []))
    ∷ (deliver 14 gives ("#15 po>c1 OffsetsReply 25" ∷ []))
    ∷ (deliver 15 gives ("-" ∷ []))
    ∷ (poll 1 gives ("#16 c1>co EndTxn a 0 0 abort" ∷ []))
    ∷ (resend 1 gives ("#17 c1>co EndTxn a 0 0 abort" ∷ []))
    ∷ (deliver 16 gives
    ("#18 co>c1 EndReply 0 0 1"
    ∷ "#19 co>p1 Marker 0 1 abort 1" ∷ "#20 co>po Marker 0 1 abort 1" ∷ []))
    ∷ (deliver 18 gives ("-" ∷ []))
    ∷ (poll 1 gives ("refused Failed" ∷ []))
    ∷ (init 1 gives ("refused Failed" ∷ []))
    ∷ (resend 1 gives ("refused Failed" ∷ []))
    ∷ (begin 1 gives ("refused Failed" ∷ []))
    ∷ [])
unfolding rules row_from takes processor_step system_step
a_dropped_member = refl

-- a processor takes few commands, and waits for its id
a_processor_is_told_little :
    Prints two_records (
    (poll 1 gives ("refused NotReady" ∷ []))
    ∷ (resend 1 gives ("-" ∷ []))
    ∷ (init 1 gives ("#0 c1>co Init a 60000" ∷ []))
    ∷ (poll 1 gives ("-" ∷ []))
    ∷ (resend 1 gives ("#1 c1>co Init a 60000" ∷ []))
    ∷ (deliver 0 gives ("#2 co>c1 InitReply 0 0 0" ∷ []))
    ∷ (deliver 2 gives ("-" ∷ []))
    ∷ (init 1 gives ("refused NotReady" ∷ []))
    ∷ (begin 1 gives ("refused NotReady" ∷ []))
    ∷ (send 1 0 "x" gives ("refused NotReady" ∷ []))
    ∷ (join 1 "g" gives ("refused NotReady" ∷ []))
    ∷ (leave 1 gives ("refused NotReady" ∷ []))
    ∷ (commit 1 gives ("refused NotReady" ∷ []))
    ∷ (abort 1 gives ("refused NotReady" ∷ []))
    ∷ (fetch_page 1 0 0 gives ("refused NotReady" ∷ []))
    ∷ (poll 1 gives ("#3 c1>po Join g" ∷ []))
    ∷ [])
unfolding rules row_from takes processor_step system_step
a_processor_is_told_little = refl

-- a transaction is open behind the first record of input partition 0
abbrev an_open_transaction : List Step
an_open_transaction =
    (put 0 "x" [] gives ("offset 0" ∷ []))
    ∷ (client 2 "b" gives ("-" ∷ []))
    ∷ (init 2 gives ("#0 c2>co Init b 60000" ∷ []))
    ∷ (deliver 0 gives ("#1 co>c2 InitReply 0 0 0" ∷ []))
    ∷ (deliver 1 gives ("-" ∷ []))
    ∷ (begin 2 gives ("-" ∷ []))
    ∷ (send 2 0 "z" gives ("#2 c2>p0 Produce 0 0 0 1" ∷ []))
    ∷ (deliver 2 gives ("#3 p0>co Add b 0 0 0" ∷ []))
    ∷ (deliver 3 gives ("#4 co>p0 AddReply 0 0 0" ∷ []))
    ∷ (deliver 4 gives ("#5 p0>c2 ProduceReply 0 1" ∷ []))
    ∷ []

abbrev with_an_open_transaction : System
with_an_open_transaction = with_new 3 "a" "g" 1 (after an_open_transaction (start_system 2))

-- the offset is that behind the last record that was read, not the log's end
reads_up_to_an_open_transaction :
    Prints with_an_open_transaction (
    (init 3 gives ("#6 c3>co Init a 60000" ∷ []))
    ∷ (deliver 6 gives ("#7 co>c3 InitReply 0 1 0" ∷ []))
    ∷ (deliver 7 gives ("-" ∷ []))
    ∷ (poll 3 gives ("#8 c3>po Join g" ∷ []))
    ∷ (deliver 8 gives ("#9 po>c3 JoinReply 0 1 0 1" ∷ []))
    ∷ (deliver 9 gives ("-" ∷ []))
    ∷ (poll 3 gives ("#10 c3>po OffsetFetch g 0" ∷ []))
    ∷ (deliver 10 gives ("#11 po>c3 OffsetFetchReply 0 -1" ∷ []))
    ∷ (deliver 11 gives ("-" ∷ []))
    ∷ (poll 3 gives ("#12 c3>p0 Fetch 0 0" ∷ []))
    ∷ (deliver 12 gives ("#13 p0>c3 FetchReply 0 1" ∷ []))
    ∷ (deliver 13 gives ("-" ∷ []))
    ∷ (poll 3 gives ("#14 c3>p1 Produce 1 0 0 1" ∷ []))
    ∷ (deliver 14 gives ("#15 p1>co Add a 1 0 1" ∷ []))
    ∷ (deliver 15 gives ("#16 co>p1 AddReply 0 1 0" ∷ []))
    ∷ (deliver 16 gives ("#17 p1>c3 ProduceReply 0 0" ∷ []))
    ∷ (deliver 17 gives ("-" ∷ []))
    ∷ (poll 3 gives ("#18 c3>po Offsets g 3 1 1 0 0 1" ∷ []))
    ∷ (deliver 18 gives ("#19 po>co Add a 1 0 o" ∷ []))
    ∷ (deliver 19 gives ("#20 co>po AddReply 0 1 0" ∷ []))
    ∷ (deliver 20 gives ("#21 po>c3 OffsetsReply 0" ∷ []))
    ∷ (deliver 21 gives ("-" ∷ []))
    ∷ (poll 3 gives ("#22 c3>co EndTxn a 1 0 commit" ∷ []))
    ∷ (deliver 22 gives
    ("#23 co>c3 EndReply 0 1 1"
    ∷ "#24 co>p1 Marker 1 1 commit 1" ∷ "#25 co>po Marker 1 1 commit 1" ∷ []))
    ∷ (deliver 25 gives ("#26 po>co MarkerReply 0 1 1" ∷ []))
    ∷ (offset "g" 0 true gives ("0 1" ∷ []))
    ∷ [])
unfolding rules row_from takes processor_step system_step
reads_up_to_an_open_transaction = refl

-- a hundred images make a batch
batches_are_full : map (λ values. length values.more) (batches_of (replicate 101 (codes "x")))
    ≡ 99 ∷ 0 ∷ []
unfolding rules
batches_are_full = refl
