-- What stands of a processor: its names, numbers and bytes are in their ranges, and so are those of
-- the commands that its polls come to.
use Rattle.std.proofs.Common.{◌<◌, ◌≤◌, ◌+◌, ◌^◌, ℕ, ℤ, pos, negsuc, List, [], ◌∷◌, All}
use Rattle.std.proofs.Common.{arith, inl, lit<, lit≤}
use Rattle.std.specs.Int.{w64}
use Rattle.std.specs.Int.RustNames.{FitsSigned}
use Rattle.std.proofs.lemmas.Bool.{cond_both}
use Rattle.std.proofs.lemmas.List.Elements.{All-cons, All-head, All-nil}
use Rattle.kx_varint.specs.Text.{IsBytes}
use Rattle.kx_message.specs.Message.{IsOffset}
use Rattle.kx_message.specs.Ranges.{IsName, IsPartition}
use Rattle.kx_message.specs.declared.outcome.Outcome.TheVariants.{Abort, Commit}
use Rattle.kx_message.specs.declared.payload.PartitionOffset.{PartitionOffset}
use Rattle.kx_batch.specs.Record.{Record}
use Rattle.kx_client.specs.declared.values.Values.{Values}
use Rattle.kx_model.specs.Client.{Client, Command, Begin, End, FetchOffset, FetchPage, JoinGroup}
use Rattle.kx_model.specs.Client.{Send, SendOffsets}
use Rattle.kx_model.specs.World.{IsCommand}
use Rattle.kx_system.specs.Processor.{Aborting, Committing, Fetching, Joining, Locating, Overflown}
use Rattle.kx_system.specs.Processor.{Processing, Stage, Stopped, Writing, fits, from_offset}
use Rattle.kx_system.specs.Processor.{in_transaction, next_commands, writes}
use Rattle.kx_system.specs.System.{most_inputs}

------ what stands

-- input partitions of so many
abbrev pub AreInputs : ℕ → List ℕ → Type 0
AreInputs inputs left = All (λ input. input < inputs) left

-- the values are bytes
abbrev pub ValuesFit : Values → Type 0
ValuesFit values = All IsBytes (values.first ∷ values.more)

-- where a processor of so many input partitions is
abbrev pub StageFits : ℕ → Stage → Type 0
StageFits inputs Joining = Unit {0}
StageFits inputs (Locating input left) = (input < inputs) × AreInputs inputs left
StageFits inputs (Fetching input left offset) =
    (input < inputs) × AreInputs inputs left × FitsSigned w64 offset
StageFits inputs (Writing input left next batches) =
    (input < inputs) × AreInputs inputs left × FitsSigned w64 next × All ValuesFit batches
StageFits inputs (Committing left) = AreInputs inputs left
StageFits inputs (Aborting sequel) = Unit {0}
StageFits inputs Overflown = Unit {0}
StageFits inputs Stopped = Unit {0}

pub record ProcessingFits (p : Processing) : Type 0 where
  pub group : IsName p.group
  pub few : p.inputs ≤ most_inputs
  pub image : (r : Record) → IsBytes (p.image r)
  pub stage : StageFits p.inputs p.stage

------ its commands

module _ (p : Processing) (h : ProcessingFits p) where
  -- an input partition, and the partition of its images
  its_input : (input : ℕ) → input < p.inputs → IsPartition input
  its_input input low = inl (omega (arith, low, h.few))

  its_output : (input : ℕ) → input < p.inputs → IsPartition (input + p.inputs)
  its_output input low = inl (omega (arith, low, h.few))

  from_fits : (offset : ℤ) → FitsSigned w64 offset → from_offset offset < 2 ^ 63
  from_fits (pos n) fit = fit.sfits
  from_fits (negsuc n) fit = lit< tt

  one : (what : Command) → IsCommand what → All IsCommand (what ∷ [])
  one what fit = All-cons IsCommand what [] fit (All-nil IsCommand)

  inside : (c : Client) (what : Command) → IsCommand what → All IsCommand (in_transaction c what)
  inside c what fit =
      cond_both c.in_transaction (what ∷ []) (Begin ∷ what ∷ []) (All IsCommand)
      (λ e. one what fit) (λ e. All-cons IsCommand Begin (what ∷ []) tt (one what fit))

  writes_fit : (output : ℕ) (values : Values) → IsPartition output → ValuesFit values
      → IsCommand (writes output values)
  writes_fit output values there fit =
      cond_both (fits values) (Send output values.first values.more) (End Abort) IsCommand
      (λ e. (there, fit)) (λ e. tt)

  offset_fits : (input : ℕ) (next : ℤ) → input < p.inputs → FitsSigned w64 next
      → IsCommand (SendOffsets (record { partition = input; offset = next }) [])
  offset_fits input next low fit =
      let o : PartitionOffset = record { partition = input; offset = next } in (
        All-cons IsOffset o [] (record { partition = its_input input low; offset = fit })
            (All-nil IsOffset),
        (lit≤ tt, lit≤ tt),
      )

  pub commands_fit : (c : Client) (stage : Stage) → StageFits p.inputs stage
      → All IsCommand (next_commands c p stage)
  commands_fit c Joining s = one (JoinGroup p.group) h.group
  commands_fit c (Locating input left) s =
      one (FetchOffset p.group input) (h.group, its_input input s.0)
  commands_fit c (Fetching input left offset) s =
      one (FetchPage input (from_offset offset)) (its_input input s.0, from_fits offset s.2)
  commands_fit c (Writing input left next []) s =
      inside c (SendOffsets (record { partition = input; offset = next }) [])
      (offset_fits input next s.0 s.2)
  commands_fit c (Writing input left next (values ∷ rest)) s =
      inside c (writes (input + p.inputs) values)
      (writes_fit (input + p.inputs) values (its_output input s.0)
      (All-head ValuesFit values rest s.3))
  commands_fit c (Committing left) s = one (End Commit) tt
  commands_fit c (Aborting sequel) s = one (End Abort) tt
  commands_fit c Overflown s = All-nil IsCommand
  commands_fit c Stopped s = All-nil IsCommand
