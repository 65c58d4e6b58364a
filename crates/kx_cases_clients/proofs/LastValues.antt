-- What commands are answered if a client's numbers and sequences come to their last value, by
-- computation: no run of public calls is long enough to get there.
use Rattle.std.proofs.Common.{◌≡◌, ℕ, pos, true, false, List, [], ◌∷◌, Some, None, refl}
use Rattle.kx_message.specs.Messages as the
use Rattle.kx_message.specs.Ranges.{offsets_partition}
use Rattle.kx_message.specs.declared.message.Held.{Held}
use Rattle.kx_message.specs.declared.message.Message.{Message}
use Rattle.kx_message.specs.declared.outcome.Outcome.TheVariants.{Abort, Commit}
use Rattle.kx_message.specs.declared.payload.PartitionOffset.{PartitionOffset}
use Rattle.kx_model.specs.Client.{Client, Declines, Does, End, Init, JoinGroup, LeaveGroup, Send}
use Rattle.kx_model.specs.Client.{SendOffsets, UsedUp, caller_of, command}
use Rattle.kx_model.specs.Client.{new_client}

abbrev group : List ℕ
group = 103 ∷ []

abbrev txn : List ℕ
txn = 97 ∷ []

abbrev held : Held
held = record { id = 5; epoch = 0 }

abbrev value : List ℕ
value = 120 ∷ []

abbrev offset : PartitionOffset
offset = record { partition = 0; offset = pos 5 }

-- a client in a transaction and in a group
abbrev ready : Client
ready = record (new_client 7 (Some txn) 1000) {
  held = Some held;
  group = Some group;
  place = Some (record { group = group; generation = pos 1; number = 0; count = 1 });
  in_transaction = true;
}

------ numbers of requests

-- the last is 2^32 - 1
abbrev at_last : Client
at_last = record ready { correlation = 4294967295 }

abbrev spent : Client
spent = record ready { correlation = 4294967296 }

abbrev last_join : Message
last_join = the.Join (caller_of at_last) group

the_last_number_is_used :
    command at_last (JoinGroup group)
    ≡ Does (record spent { waiting = last_join ∷ [] }) (last_join ∷ [])
unfolding command
the_last_number_is_used = refl

none_is_left_for_a_join : command spent (JoinGroup group) ≡ Declines UsedUp
unfolding command
none_is_left_for_a_join = refl

nor_for_a_leave : command spent LeaveGroup ≡ Declines UsedUp
unfolding command
nor_for_a_leave = refl

nor_for_a_batch : command spent (Send 0 value []) ≡ Declines UsedUp
unfolding command
nor_for_a_batch = refl

nor_for_offsets : command spent (SendOffsets offset []) ≡ Declines UsedUp
unfolding command
nor_for_offsets = refl

nor_for_an_abort : command spent (End Abort) ≡ Declines UsedUp
unfolding command
nor_for_an_abort = refl

nor_for_a_commit : command (record spent { sent_some = true }) (End Commit) ≡ Declines UsedUp
unfolding command
nor_for_a_commit = refl

-- a commit of an empty transaction asks for none
commit_of_nothing :
    command spent (End Commit) ≡ Does (record spent { in_transaction = false }) []
unfolding command
commit_of_nothing = refl

abbrev without_id : Client
without_id = record (new_client 7 None 1000) { correlation = 4294967296 }

abbrev first_init : Message
first_init = the.InitProducerId (caller_of (new_client 7 None 1000)) None 1000

nor_for_an_init : command without_id Init ≡ Declines UsedUp
unfolding command
nor_for_an_init = refl

-- nor does the same request again
init_again :
    command (record without_id { waiting = first_init ∷ [] }) Init
    ≡ Does (record without_id { waiting = first_init ∷ [] }) (first_init ∷ [])
unfolding command
init_again = refl

------ sequences

-- the last is 2^31 - 1
abbrev before_last : ℕ → Client
before_last partition =
    record ready { sequences = record { partition = partition; next = 2147483647 } ∷ [] }

abbrev behind_last : ℕ → Client
behind_last partition =
    record ready { sequences = record { partition = partition; next = 2147483648 } ∷ [] }

abbrev last_offset : Message
last_offset = the.TxnOffsetCommit (caller_of ready) txn group 7 (pos 1) held (pos 2147483647)
    (offset ∷ [])

the_last_sequence_is_used :
    command (before_last offsets_partition) (SendOffsets offset [])
    ≡ Does (record (behind_last offsets_partition) {
      correlation = 1;
      waiting = last_offset ∷ [];
      sent_some = true;
    }) (last_offset ∷ [])
unfolding command
the_last_sequence_is_used = refl

not_two_offsets :
    command (before_last offsets_partition) (SendOffsets offset (offset ∷ []))
    ≡ Declines UsedUp
unfolding command
not_two_offsets = refl

none_is_left : command (behind_last offsets_partition) (SendOffsets offset []) ≡ Declines UsedUp
unfolding command
none_is_left = refl

not_two_values : command (before_last 0) (Send 0 value (value ∷ [])) ≡ Declines UsedUp
unfolding command
not_two_values = refl

none_is_left_for_a_value : command (behind_last 0) (Send 0 value []) ≡ Declines UsedUp
unfolding command
none_is_left_for_a_value = refl
