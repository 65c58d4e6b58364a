-- Worked scripts, each line with what it has to print, by computation.
use Prim.Native.String.{String}
use Rattle.std.proofs.Common.{◌≡◌, ◌++◌, ℕ, List, [], ◌∷◌, refl}
use Rattle.std.specs.Prelude.{codes, flat_map}
use Rattle.kx_script.specs.Script.{script_text}
use Rattle.kx_script.proofs.Rules.{rules}
use Rattle.kx_text.specs.Pages.{newline}

-- a line, and the lines that it has to print
pub record Step : Type 0 where
  pub line : String
  pub answer : List String

infix 4 ◌gives◌
abbrev pub ◌gives◌ : String → List String → Step
line gives answer = record { line = line; answer = answer }

abbrev line_text : String → List ℕ
line_text line = codes line ++ newline

-- the whole script prints these answers
abbrev pub Holds : List Step → Type 0
Holds steps = script_text (flat_map (λ s. line_text s.line) steps)
    ≡ flat_map (λ s. flat_map line_text s.answer) steps

-- client 1 of transactional id `a` has one batch at partition 0 in its transaction
abbrev pub opening : String → List Step
opening world =
    (world gives ("-" ∷ []))
    ∷ ("client 1 a" gives ("-" ∷ []))
    ∷ ("init 1" gives ("#0 c1>co Init a 60000" ∷ []))
    ∷ ("deliver 0" gives ("#1 co>c1 InitReply 0 0 0" ∷ []))
    ∷ ("deliver 1" gives ("-" ∷ []))
    ∷ ("begin 1" gives ("-" ∷ []))
    ∷ ("send 1 0 x" gives ("#2 c1>p0 Produce 0 0 0 1" ∷ []))
    ∷ ("deliver 2" gives ("#3 p0>co Add a 0 0 0" ∷ []))
    ∷ ("deliver 3" gives ("#4 co>p0 AddReply 0 0 0" ∷ []))
    ∷ ("deliver 4" gives ("#5 p0>c1 ProduceReply 0 0" ∷ []))
    ∷ ("deliver 5" gives ("-" ∷ []))
    ∷ []

-- a transaction over two partitions: its commit waits for what is unanswered, and a reader of
-- committed records gets a partition's records once its marker has come
one_transaction_over_two_partitions :
    Holds (opening "world 2" ++ ("send 1 1 z" gives ("#6 c1>p1 Produce 0 0 0 1" ∷ []))
    ∷ ("deliver 6" gives ("#7 p1>co Add a 0 0 1" ∷ []))
    ∷ ("deliver 7" gives ("#8 co>p1 AddReply 0 0 0" ∷ []))
    ∷ ("deliver 8" gives ("#9 p1>c1 ProduceReply 0 0" ∷ []))
    ∷ ("commit 1" gives ("refused InFlight" ∷ []))
    ∷ ("deliver 9" gives ("-" ∷ []))
    ∷ ("commit 1" gives ("#10 c1>co EndTxn a 0 0 commit" ∷ []))
    ∷ ("deliver 10" gives
    ("#11 co>c1 EndReply 0 0 1" ∷ "#12 co>p0 Marker 0 1 commit 1"
    ∷ "#13 co>p1 Marker 0 1 commit 1" ∷ []))
    ∷ ("deliver 12" gives ("#14 p0>co MarkerReply 0 0 1" ∷ []))
    ∷ ("fetch 0 0 committed" gives ("0 x" ∷ "next 2 lso 2 end 2" ∷ []))
    ∷ ("fetch 1 0 committed" gives ("next 0 lso 0 end 1" ∷ []))
    ∷ ("deliver 13" gives ("#15 p1>co MarkerReply 0 0 1" ∷ []))
    ∷ ("deliver 14" gives ("-" ∷ []))
    ∷ ("rows" gives ("a 0 1 2 0,1" ∷ []))
    ∷ ("deliver 15" gives ("-" ∷ []))
    ∷ ("fetch 1 0 committed" gives ("0 z" ∷ "next 2 lso 2 end 2" ∷ []))
    ∷ ("rows" gives ("a 0 1 4 -" ∷ []))
    ∷ [])
unfolding rules
one_transaction_over_two_partitions = refl

-- a later client of the same transactional id fences the one before
a_later_client_fences_the_owner :
    Holds (opening "world 1" ++ ("client 2 a" gives ("-" ∷ []))
    ∷ ("init 2" gives ("#6 c2>co Init a 60000" ∷ []))
    ∷ ("deliver 6" gives ("#7 co>c2 InitReply 51 -1 -1" ∷ "#8 co>p0 Marker 0 1 abort 1" ∷ []))
    ∷ ("deliver 8" gives ("#9 p0>co MarkerReply 0 0 1" ∷ []))
    ∷ ("deliver 9" gives ("-" ∷ []))
    ∷ ("abort 1" gives ("#10 c1>co EndTxn a 0 0 abort" ∷ []))
    ∷ ("deliver 10" gives ("#11 co>c1 EndReply 0 0 1" ∷ []))
    ∷ ("deliver 11" gives ("-" ∷ []))
    ∷ ("deliver 7" gives ("-" ∷ []))
    ∷ ("init 2" gives ("#12 c2>co Init a 60000" ∷ []))
    ∷ ("deliver 12" gives ("#13 co>c2 InitReply 0 0 2" ∷ []))
    ∷ ("begin 1" gives ("-" ∷ []))
    ∷ ("send 1 0 y" gives ("#14 c1>p0 Produce 0 1 0 1" ∷ []))
    ∷ ("deliver 14" gives ("#15 p0>co Add a 0 1 0" ∷ []))
    ∷ ("deliver 15" gives ("#16 co>p0 AddReply 90 0 1" ∷ []))
    ∷ ("deliver 16" gives ("#17 p0>c1 ProduceReply 47 -1" ∷ []))
    ∷ ("deliver 17" gives ("-" ∷ []))
    ∷ ("begin 1" gives ("refused Failed" ∷ []))
    ∷ [])
unfolding rules
a_later_client_fences_the_owner = refl

-- a transaction that lasted too long is aborted
an_expiry_and_a_reminder :
    Holds (opening "world 1" ++ ("expire 59999" gives ("-" ∷ []))
    ∷ ("expire 60000" gives ("#6 co>p0 Marker 0 1 abort 1" ∷ []))
    ∷ ("remind" gives ("#7 co>p0 Marker 0 1 abort 1" ∷ []))
    ∷ ("commit 1" gives ("#8 c1>co EndTxn a 0 0 commit" ∷ []))
    ∷ ("deliver 8" gives ("#9 co>c1 EndReply 48 -1 -1" ∷ []))
    ∷ ("deliver 9" gives ("-" ∷ []))
    ∷ ("begin 1" gives ("refused Failed" ∷ []))
    ∷ [])
unfolding rules
an_expiry_and_a_reminder = refl

-- an append fails and leaves all of its bytes: a restart finds them, and the batch is a duplicate
a_batch_found_whole :
    Holds (opening "world 1" ++ ("fail p0 whole" gives ("-" ∷ []))
    ∷ ("send 1 0 y" gives ("#6 c1>p0 Produce 0 0 1 1" ∷ []))
    ∷ ("deliver 6" gives ("#7 p0>c1 ProduceReply 56 -1" ∷ []))
    ∷ ("fetch 0 0 all" gives ("0 x" ∷ "next 1 lso 0 end 1" ∷ []))
    ∷ ("deliver 6" gives ("#8 p0>c1 ProduceReply 56 -1" ∷ []))
    ∷ ("restart p0" gives ("-" ∷ []))
    ∷ ("deliver 6" gives ("#9 p0>c1 ProduceReply 0 1" ∷ []))
    ∷ ("fetch 0 0 all" gives ("0 x" ∷ "1 y" ∷ "next 2 lso 0 end 2" ∷ []))
    ∷ [])
unfolding rules
a_batch_found_whole = refl

-- the same of a decision
a_decision_found_whole :
    Holds (opening "world 1" ++ ("fail co whole" gives ("-" ∷ []))
    ∷ ("commit 1" gives ("#6 c1>co EndTxn a 0 0 commit" ∷ []))
    ∷ ("deliver 6" gives ("#7 co>c1 EndReply 56 -1 -1" ∷ []))
    ∷ ("restart co" gives ("#8 co>p0 Marker 0 1 commit 2" ∷ []))
    ∷ ("deliver 6" gives ("#9 co>c1 EndReply 0 0 1" ∷ []))
    ∷ [])
unfolding rules
a_decision_found_whole = refl

-- a decision of which nothing was written is made again
a_decision_lost :
    Holds (opening "world 1" ++ ("fail co none" gives ("-" ∷ []))
    ∷ ("commit 1" gives ("#6 c1>co EndTxn a 0 0 commit" ∷ []))
    ∷ ("deliver 6" gives ("#7 co>c1 EndReply 56 -1 -1" ∷ []))
    ∷ ("restart co" gives ("-" ∷ []))
    ∷ ("deliver 6" gives ("#8 co>c1 EndReply 0 0 1" ∷ "#9 co>p0 Marker 0 1 commit 2" ∷ []))
    ∷ [])
unfolding rules
a_decision_lost = refl

-- offsets are pending until their transaction commits
offsets_with_their_transaction :
    Holds (("world 1" gives ("-" ∷ []))
    ∷ ("client 1 a" gives ("-" ∷ []))
    ∷ ("init 1" gives ("#0 c1>co Init a 60000" ∷ []))
    ∷ ("deliver 0" gives ("#1 co>c1 InitReply 0 0 0" ∷ []))
    ∷ ("deliver 1" gives ("-" ∷ []))
    ∷ ("join 1 g" gives ("#2 c1>po Join g" ∷ []))
    ∷ ("deliver 2" gives ("#3 po>c1 JoinReply 0 1 0 1" ∷ []))
    ∷ ("deliver 3" gives ("-" ∷ []))
    ∷ ("begin 1" gives ("-" ∷ []))
    ∷ ("offsets 1 0 5" gives ("#4 c1>po Offsets g 1 1 0 0 0 1" ∷ []))
    ∷ ("deliver 4" gives ("#5 po>co Add a 0 0 o" ∷ []))
    ∷ ("deliver 5" gives ("#6 co>po AddReply 0 0 0" ∷ []))
    ∷ ("deliver 6" gives ("#7 po>c1 OffsetsReply 0" ∷ []))
    ∷ ("offset g 0 stable" gives ("88 -1" ∷ []))
    ∷ ("offset g 0 any" gives ("0 -1" ∷ []))
    ∷ ("deliver 7" gives ("-" ∷ []))
    ∷ ("commit 1" gives ("#8 c1>co EndTxn a 0 0 commit" ∷ []))
    ∷ ("deliver 8" gives ("#9 co>c1 EndReply 0 0 1" ∷ "#10 co>po Marker 0 1 commit 1" ∷ []))
    ∷ ("deliver 10" gives ("#11 po>co MarkerReply 0 0 1" ∷ []))
    ∷ ("offset g 0 stable" gives ("0 5" ∷ []))
    ∷ [])
unfolding rules
offsets_with_their_transaction = refl

-- a processor's images and its offset count at once
a_processor_consumes_and_produces :
    Holds (("world 2" gives ("-" ∷ []))
    ∷ ("put 0 x y" gives ("offset 0" ∷ []))
    ∷ ("processor 1 a g 1" gives ("-" ∷ []))
    ∷ ("init 1" gives ("#0 c1>co Init a 60000" ∷ []))
    ∷ ("deliver 0" gives ("#1 co>c1 InitReply 0 0 0" ∷ []))
    ∷ ("deliver 1" gives ("-" ∷ []))
    ∷ ("poll 1" gives ("#2 c1>po Join g" ∷ []))
    ∷ ("deliver 2" gives ("#3 po>c1 JoinReply 0 1 0 1" ∷ []))
    ∷ ("deliver 3" gives ("-" ∷ []))
    ∷ ("poll 1" gives ("#4 c1>po OffsetFetch g 0" ∷ []))
    ∷ ("deliver 4" gives ("#5 po>c1 OffsetFetchReply 0 -1" ∷ []))
    ∷ ("deliver 5" gives ("-" ∷ []))
    ∷ ("poll 1" gives ("#6 c1>p0 Fetch 0 0" ∷ []))
    ∷ ("deliver 6" gives ("#7 p0>c1 FetchReply 0 2" ∷ []))
    ∷ ("deliver 7" gives ("-" ∷ []))
    ∷ ("poll 1" gives ("#8 c1>p1 Produce 0 0 0 2" ∷ []))
    ∷ ("deliver 8" gives ("#9 p1>co Add a 0 0 1" ∷ []))
    ∷ ("deliver 9" gives ("#10 co>p1 AddReply 0 0 0" ∷ []))
    ∷ ("deliver 10" gives ("#11 p1>c1 ProduceReply 0 0" ∷ []))
    ∷ ("deliver 11" gives ("-" ∷ []))
    ∷ ("poll 1" gives ("#12 c1>po Offsets g 1 1 0 0 0 1" ∷ []))
    ∷ ("deliver 12" gives ("#13 po>co Add a 0 0 o" ∷ []))
    ∷ ("deliver 13" gives ("#14 co>po AddReply 0 0 0" ∷ []))
    ∷ ("deliver 14" gives ("#15 po>c1 OffsetsReply 0" ∷ []))
    ∷ ("deliver 15" gives ("-" ∷ []))
    ∷ ("poll 1" gives ("#16 c1>co EndTxn a 0 0 commit" ∷ []))
    ∷ ("deliver 16" gives
    ("#17 co>c1 EndReply 0 0 1" ∷ "#18 co>p1 Marker 0 1 commit 1"
    ∷ "#19 co>po Marker 0 1 commit 1" ∷ []))
    ∷ ("offset g 0 stable" gives ("88 -1" ∷ []))
    ∷ ("deliver 18" gives ("#20 p1>co MarkerReply 0 0 1" ∷ []))
    ∷ ("deliver 19" gives ("#21 po>co MarkerReply 0 0 1" ∷ []))
    ∷ ("offset g 0 stable" gives ("0 2" ∷ []))
    ∷ ("fetch 1 0 committed" gives ("0 ox" ∷ "1 oy" ∷ "next 3 lso 3 end 3" ∷ []))
    ∷ [])
unfolding rules
a_processor_consumes_and_produces = refl

-- it has 1 to 8 input partitions
no_processor_of_nine :
    Holds (("world 2" gives ("-" ∷ []))
    ∷ ("processor 1 a g 8" gives ("-" ∷ []))
    ∷ ("processor 2 a g 9" gives ("bad line 3" ∷ []))
    ∷ [])
unfolding rules
no_processor_of_nine = refl

-- a transaction in which nothing was sent
nothing_sent :
    Holds (("world 1" gives ("-" ∷ []))
    ∷ ("client 1 a" gives ("-" ∷ []))
    ∷ ("init 1" gives ("#0 c1>co Init a 60000" ∷ []))
    ∷ ("deliver 0" gives ("#1 co>c1 InitReply 0 0 0" ∷ []))
    ∷ ("deliver 1" gives ("-" ∷ []))
    ∷ ("begin 1" gives ("-" ∷ []))
    ∷ ("commit 1" gives ("-" ∷ []))
    ∷ ("begin 1" gives ("-" ∷ []))
    ∷ ("abort 1" gives ("#2 c1>co EndTxn a 0 0 abort" ∷ []))
    ∷ ("deliver 2" gives ("#3 co>c1 EndReply 0 0 1" ∷ []))
    ∷ ("rows" gives ("a 0 1 5 -" ∷ []))
    ∷ ("drop g 1" gives ("code 25" ∷ []))
    ∷ [])
unfolding rules
nothing_sent = refl

-- batches of no producer, and an empty line
plain_batches :
    Holds (("world 1" gives ("-" ∷ []))
    ∷ ("rows" gives ("-" ∷ []))
    ∷ ("put 0 a b" gives ("offset 0" ∷ []))
    ∷ ("put 0 c" gives ("offset 2" ∷ []))
    ∷ ("fetch 0 0 all" gives ("0 a" ∷ "1 b" ∷ "2 c" ∷ "next 3 lso 3 end 3" ∷ []))
    ∷ ("fetch 0 4 all" gives ("refused 1" ∷ []))
    ∷ [])
unfolding rules
plain_batches = refl

-- a world has at least one partition
no_world_of_none :
    Holds (("world 0" gives ("bad line 1" ∷ []))
    ∷ [])
unfolding rules
no_world_of_none = refl

-- a message that was never handed out
no_such_message :
    Holds (("world 1" gives ("-" ∷ []))
    ∷ ("deliver 0" gives ("bad line 2" ∷ []))
    ∷ [])
unfolding rules
no_such_message = refl

-- a client that was never made, and what stands behind a bad line
no_such_client :
    Holds (("world 1" gives ("-" ∷ []))
    ∷ ("init 1" gives ("bad line 2" ∷ []))
    ∷ ("put 0 a" gives ([]))
    ∷ [])
unfolding rules
no_such_client = refl

-- a number that isn't above all before
no_other_client_of_that_number :
    Holds (("world 1" gives ("-" ∷ []))
    ∷ ("client 2 -" gives ("-" ∷ []))
    ∷ ("client 2 b" gives ("bad line 3" ∷ []))
    ∷ [])
unfolding rules
no_other_client_of_that_number = refl
