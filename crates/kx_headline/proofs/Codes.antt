-- What is said of replies by their codes, and what an EndTxn holds.
use Rattle.std.proofs.Common.{Option, Some, None, refl}
use Rattle.std.specs.Prelude.{◌≢◌}
use Rattle.std.specs.Bool.{⊤}
use Rattle.kx_message.specs.declared.code.ErrorCode.{ErrorCode}
use Rattle.kx_message.specs.declared.code.ErrorCode.TheVariants as code
use Rattle.kx_message.specs.declared.message.Held.{Held}
use Rattle.kx_message.specs.declared.message.Message.{Message}
use Rattle.kx_message.specs.declared.message.Message.TheVariants as msg
use Rattle.kx_message.specs.declared.requests.EndTxn.{EndTxn}

-- what is said where the code is 0
abbrev pub WithNoError : ErrorCode → Type 0 → Type 0
WithNoError code.NoError A = A
WithNoError other A = ⊤

pub with_no_error : {A B : Type 0} (c : ErrorCode) → (A → B) → WithNoError c A → WithNoError c B
with_no_error code.NoError f a = f a
with_no_error other f a = tt

-- of another code nothing is said
pub with_error : (c : ErrorCode) (A : Type 0) → c ≢ code.NoError → WithNoError c A
with_error code.NoError A other = absurd (other refl)
with_error c A other = tt

-- a code that says nothing of a group's members
abbrev pub OfNoGroup : ErrorCode → Type 0
OfNoGroup code.IllegalGeneration = ⊥
OfNoGroup code.UnknownMemberId = ⊥
OfNoGroup other = ⊤

-- what is said of the pair that a client is handed
abbrev pub OfGiven : ErrorCode → Option Held → (Held → Type 0) → Type 0
OfGiven code.NoError (Some held) A = A held
OfGiven c held A = ⊤

pub of_given : {A B : Held → Type 0} (c : ErrorCode) (held : Option Held)
    → ((h : Held) → A h → B h) → OfGiven c held A → OfGiven c held B
of_given code.NoError (Some held) f a = f held a
of_given c held f a = tt

-- and where code 0 never comes without a pair
abbrev pub OfNext : ErrorCode → Option Held → (Held → Type 0) → Type 0
OfNext code.NoError (Some held) A = A held
OfNext code.NoError None A = ⊥
OfNext other held A = ⊤

pub of_next : {A B : Held → Type 0} (c : ErrorCode) (held : Option Held)
    → ((h : Held) → A h → B h) → OfNext c held A → OfNext c held B
of_next code.NoError (Some held) f a = f held a
of_next code.NoError None f a = a
of_next other held f a = tt

-- equal messages hold equal requests
abbrev pub end_of : EndTxn → Message → EndTxn
end_of other (msg.EndTxn it) = it
end_of other m = other
