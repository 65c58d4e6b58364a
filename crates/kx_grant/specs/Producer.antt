-- What is known of one transactional id, and what becomes of each request of its clients.
use Rattle.std.specs.Prelude.{ℕ, ℤ, pos, negsuc, ◌+◌, nat_lt, Bool, true, false, not, ◌||◌}
use Rattle.std.specs.Prelude.{if◌then◌else◌}
use Rattle.kx_grant.specs.Sequences.{after, sequences}
use Rattle.kx_grant.specs.Grant.{after_commit, commit_code}
use Rattle.kx_grant.specs.declared.producer.OffsetsPlace.{OffsetsPlace}
use Rattle.std.specs.Prelude.{Option, Some, None, option_map}
use Rattle.kx_message.specs.declared.code.ErrorCode.{ErrorCode}
use Rattle.kx_message.specs.declared.code.ErrorCode.TheVariants as code
use Rattle.kx_message.specs.declared.message.Held.{Held}
use Rattle.kx_message.specs.declared.outcome.Outcome.{Outcome}
use Rattle.kx_message.specs.declared.outcome.Outcome.TheVariants.{Abort, Commit}
use Rattle.kx_message.specs.declared.requests.EndTxn.{EndTxn}
use Rattle.kx_grant.specs.Codes.{init_code, is_final}
use Rattle.kx_grant.specs.Grant.{add_code, after_batch, after_refused}
use Rattle.kx_grant.specs.Grant.{after_taken, batch_verdict, begun, end_fenced, end_verdict, ended}
use Rattle.kx_grant.specs.Grant.{init_verdict, is_before, is_held}
use Rattle.kx_grant.specs.Heard.{after_hear, granted_to, is_heard}
use Rattle.kx_grant.specs.declared.grant.Grant.{Grant}
use Rattle.kx_grant.specs.declared.heard.Heard.{Heard}
use Rattle.kx_grant.specs.declared.heard.Role.{Role}
use Rattle.kx_grant.specs.declared.heard.Role.TheVariants as role
use Rattle.kx_grant.specs.declared.producer.ClientBatch.{ClientBatch}
use Rattle.kx_grant.specs.declared.producer.Producer.{Producer}
use Rattle.kx_grant.specs.declared.verdicts.BatchVerdict.{BatchVerdict}
use Rattle.kx_grant.specs.declared.verdicts.BatchVerdict.TheVariants.{Send, Refused}
use Rattle.kx_grant.specs.declared.verdicts.EndStep.{EndStep}
use Rattle.kx_grant.specs.declared.verdicts.EndStep.TheVariants as step
use Rattle.kx_grant.specs.declared.verdicts.EndVerdict.{EndVerdict}
use Rattle.kx_grant.specs.declared.verdicts.EndVerdict.TheVariants as end
use Rattle.kx_grant.specs.declared.verdicts.InitVerdict.{InitVerdict}
use Rattle.kx_grant.specs.declared.verdicts.InitVerdict.TheVariants as init
use Rattle.kx_grant.specs.declared.verdicts.Granting.{Granting}
use Rattle.kx_grant.specs.declared.verdicts.Granting.TheVariants as grants

-- the code for a producer of whom no grant is known
abbrev pub unknown : ErrorCode
unknown = code.InvalidProducerIdMapping

abbrev pub holds : Option Grant → Held → Bool
holds None held = false
holds (Some g) held = is_held g.granted held

------ which requests are heard

-- a request that has to be heard is, unless a newer connection spoke in its role
abbrev pub hears : Heard → Bool → Role → ℕ → Bool
hears h must in_role connection = not must || is_heard h in_role connection

abbrev pub after_hears : Heard → Bool → Role → ℕ → Heard
after_hears h must in_role connection =
    if must then after_hear h in_role connection else h

-- None of a request that isn't heard
abbrev pub answer_if : {A : Type 0} → Bool → A → Option A
answer_if true x = Some x
answer_if false x = None

-- the grant after a request, which changes nothing if it isn't heard
abbrev pub grant_if : Bool → Option Grant → Option Grant → Option Grant
grant_if true after before = after
grant_if false after before = before

-- what a request leaves that has to be heard if its client holds the granted pair
abbrev pub stepped : Producer → Held → Role → ℕ → (Grant → Grant) → Producer
stepped p held in_role connection step = record p {
  grant = grant_if (hears p.heard (holds p.grant held) in_role connection)
      (option_map step p.grant) p.grant;
  heard = after_hears p.heard (holds p.grant held) in_role connection;
}

-- how a request of such a client is answered
abbrev pub answered : {A : Type 0} → Producer → Held → Role → ℕ → A → Option A
answered p held in_role connection x =
    answer_if (hears p.heard (holds p.grant held) in_role connection) x

------ InitProducerId

-- where no grant is known, any producer may ask
abbrev pub init_of : Option Grant → Option Held → InitVerdict
init_of (Some g) held = init_verdict g held
init_of None held = init.Ask

-- only a request of which the core is asked has to be heard
abbrev pub asks : InitVerdict → Bool
asks init.Ask = true
asks init.Fenced = false

-- the pair in an answer of the core with code 0
abbrev pub pair_in : ErrorCode → Option Held → Option Held
pair_in code.NoError held = held
pair_in other held = None

-- of a pair that the client named itself the core is asked once more: its next one is another
abbrev pub granting : Option Held → Held → Granting
granting asked held = if is_before asked held then grants.AskAgain else grants.Granted held

-- what an answer of the core grants; no response that grants nothing has code 0
abbrev pub granting_of : ℤ → Option Held → ErrorCode → Option Held → Granting
granting_of version asked code.NoError (Some held) = granting asked held
granting_of version asked code.NoError None = grants.Refused unknown
granting_of version asked other held = grants.Refused (init_code version other)

abbrev pub after_init : Producer → Option Held → ℕ → Granting → Producer
after_init p asked connection (grants.Granted held) =
    record p { grant = Some (begun asked held); heard = granted_to connection }
after_init p asked connection other = p

------ AddPartitionsToTxn

abbrev pub add_of : Option Grant → Held → ErrorCode
add_of None held = unknown
add_of (Some g) held = add_code g held

------ Produce

abbrev pub batch_of : Option Grant → ClientBatch → BatchVerdict
batch_of None b = Refused unknown
batch_of (Some g) b = batch_verdict g b.held b.partition b.first b.count

-- a batch was answered with this code: it was taken, or refused for good
abbrev pub after_answer : ClientBatch → ErrorCode → Grant → Grant
after_answer b code.NoError g = after_taken g b.held b.partition b.first b.count
after_answer b other g =
    if is_final other then after_refused g b.held b.partition b.first b.count else g

-- a batch that isn't sent to the core is answered at once
abbrev pub after_verdict_of : ClientBatch → BatchVerdict → Grant → Grant
after_verdict_of b (Send held first) g = g
after_verdict_of b (Refused code) g = after_answer b code g

abbrev pub after_batch_of : ClientBatch → Grant → Grant
after_batch_of b g =
    after_verdict_of b (batch_verdict g b.held b.partition b.first b.count)
    (after_batch g b.held b.partition b.first b.count)

------ TxnOffsetCommit

-- the core's next sequence for offsets in the transaction of this pair: 0 at its begin, and none as
-- long as an answer is awaited
abbrev pub free_at : Option ℕ → ℕ → Option ℕ
free_at None next = Some next
free_at (Some awaited) next = None

abbrev pub place_in : Option OffsetsPlace → Held → Option ℕ
place_in None core = Some 0
place_in (Some place) core =
    if is_held place.core core then free_at place.awaited place.next else Some 0

abbrev pub at_place : Held → Option ℕ → ℕ → BatchVerdict
at_place core None count = Refused code.UnknownMemberId
at_place core (Some next) count =
    if nat_lt (next + count) sequences then Send core (pos next)
    else Refused code.OutOfOrderSequenceNumber

abbrev pub offsets_in : Option ErrorCode → Held → Option OffsetsPlace → ℕ → BatchVerdict
offsets_in None core place count = at_place core (place_in place core) count
offsets_in (Some code) core place count = Refused code

-- clients abort the transaction of a producer of whom no grant is known
abbrev pub offsets_of : Option Grant → Option OffsetsPlace → Held → ℕ → BatchVerdict
offsets_of None place held count = Refused code.UnknownMemberId
offsets_of (Some g) place held count = offsets_in (commit_code g held) g.core place count

abbrev pub first_in : ℤ → ℕ
first_in (pos n) = n
first_in (negsuc n) = 0

-- what is sent to the core is noted
abbrev pub after_offsets : BatchVerdict → Held → ℕ → Producer → Producer
after_offsets (Send core first) held count p = record p {
  grant = option_map (λ g. after_commit g held) p.grant;
  place = Some (record { core = core; next = first_in first; awaited = Some count });
}
after_offsets (Refused code) held count p = p

abbrev pub heard_as : Producer → Held → Role → ℕ → Producer
heard_as p held in_role connection =
    record p { heard = after_hears p.heard (holds p.grant held) in_role connection }

abbrev pub after_if : Bool → Producer → Producer → Producer
after_if true after before = after
after_if false after before = before

-- what offsets leave, if they are heard
abbrev pub after_commits : Producer → Held → ℕ → ℕ → Producer
after_commits p held count connection =
    let heard = heard_as p held role.Offsets connection in
    after_if (hears p.heard (holds p.grant held) role.Offsets connection)
    (after_offsets (offsets_of p.grant p.place held count) held count heard) heard

-- the sequences go on if the core took the offsets
abbrev pub after_count : ErrorCode → ℕ → ℕ → ℕ
after_count code.NoError next count = after next count
after_count other next count = next

abbrev pub with_answer : ErrorCode → OffsetsPlace → Option ℕ → OffsetsPlace
with_answer code place None = place
with_answer code place (Some count) =
    record place { next = after_count code place.next count; awaited = None }

abbrev pub answered_place : ErrorCode → OffsetsPlace → OffsetsPlace
answered_place code place = with_answer code place place.awaited

------ EndTxn

-- the flag of the request
abbrev pub outcome_of : Bool → Outcome
outcome_of true = Commit
outcome_of false = Abort

-- the core is asked with its own pair
abbrev pub end_step : ℤ → EndTxn → EndVerdict → EndStep
end_step version asked (end.Ask held outcome) =
    step.Ask (record asked { held = held; outcome = outcome })
end_step version asked (end.Answer code) = step.Answer code
end_step version asked end.Fenced = step.Answer (end_fenced version)

abbrev pub end_of : ℤ → EndTxn → Option Grant → EndStep
end_of version asked None = step.Answer unknown
end_of version asked (Some g) =
    end_step version asked (end_verdict g asked.held asked.outcome)

-- the core answered the end that it was asked for, with code 0 and the pair with which it goes on
abbrev pub after_end_reply : Outcome → Option Held → Grant → Grant
after_end_reply outcome None g = g
after_end_reply outcome (Some next) g = ended outcome next g
