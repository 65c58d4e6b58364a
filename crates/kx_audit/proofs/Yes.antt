-- An audit's yes: what stands of the order of all steps, and of the receipts, is all that it says.
use Rattle.std.proofs.Common.{◌≡◌, ◌++◌, ℕ, All, IfOk, List, Result, Ok, Err, [], length, sym, ap}
use Rattle.std.proofs.Common.{◌∙◌, subst}
use Rattle.std.specs.Prelude.{OnOk}
use Rattle.kx_audit.specs.Arrivals.{requests_of}
use Rattle.kx_audit.specs.Making.{NodeMaking, Trail, makings}
use Rattle.kx_audit.specs.Merged.{AreDone, ArePlaced, IsMerging, Merged, arrived_at, told_so_far}
use Rattle.kx_audit.specs.Receipts.{AreDistinct, AreNamed, AreReceipts, IsOfStep}
use Rattle.kx_audit.specs.Replayed.{machines_of, steps_of, traces_of, trails_of}
use Rattle.kx_audit.specs.Rerun.{TakesAgain}
use Rattle.kx_audit.specs.Run.{AreServersYes, AreTurns, IsFound, IsYes, Ran, StandsAt}
use Rattle.kx_audit.specs.Schedule.{AllFit}
use Rattle.kx_audit.specs.Told.{Told}
use Rattle.kx_machine.specs.Meaning.{NodeState}
use Rattle.kx_message.specs.Ranges.{data_partitions}
use Rattle.kx_message.specs.declared.message.Message.{Message}
use Rattle.kx_model.specs.OpenHeadline.{KeepsOpenPromises}
use Rattle.kx_nodes.specs.Replay.{Traced}
use Rattle.kx_nodes.specs.declared.receipt.Receipt.{Receipt}
use Rattle.kx_outside.specs.Requests.{IsRequest}
use Rattle.kx_pipeline.specs.OpenSystems.{IsOpenSystemSchedule, OpenSystemEvent, run_open_system}
use Rattle.kx_pipeline.specs.Promises.{KeepsAll}
use Rattle.kx_system.specs.System.{IsSystemSchedule, System, SystemEvent, run_system, start_system}
use Rattle.kx_audit.proofs.Answering.{is_answered}
use Rattle.kx_audit.proofs.Audited.{audited_by}
use Rattle.kx_audit.proofs.Done.{all_answer, are_merged, are_turns, count_is}
use Rattle.kx_audit.proofs.Naming.{of_steps}
use Rattle.kx_audit.proofs.Requests.{open_schedule}
use Rattle.kx_audit.proofs.Running.{runs_again}

module _ {B M : Type 0} (making : B → NodeMaking) (stands : NodeState → M → Type 0)
    (m : Merged B M) (receipts : List Receipt) (is : IsMerging making stands m)
    (done : AreDone m.nodes) where
  abbrev trails : List Trail
  trails = trails_of making (traces_of m.nodes)

  abbrev told : List Told
  told = told_so_far making m

  abbrev pub ran : Ran B M
  ran = record {
    traces = traces_of m.nodes;
    turns = m.turns;
    told = told;
    machines = machines_of m.nodes;
  }

  are_receipts : AreNamed making m.nodes receipts
      → length receipts ≡ steps_of (traces_of m.nodes) → AreDistinct receipts
      → AreReceipts told receipts
  are_receipts named count distinct = record {
    count = count ∙ sym (count_is making stands m is done);
    of_steps = of_steps making stands m receipts is done named;
    distinct = distinct;
  }

  abbrev arrived : List Message
  arrived = arrived_at making m.clients m.nodes

  pub is_found : AllFit trails → AreNamed making m.nodes receipts
      → length receipts ≡ steps_of (traces_of m.nodes) → AreDistinct receipts
      → (s : System) × IsFound arrived making stands ran receipts s
  is_found fit named count distinct =
      let all = audited_by TakesAgain arrived trails told (StandsAt stands (machines_of m.nodes)) fit
      (are_merged making stands m is done) (all_answer making stands m is done) in
      let yes = all.audited in
      let turns = are_turns making stands m is in
      let told_receipts = are_receipts named count distinct in (
        all.system,
        record {
          apart = is.apart;
          audited = yes;
          turns = turns;
          again = runs_again making (traces_of m.nodes) arrived yes.merged m.turns yes.events
              all.system fit is.apart yes.is all.each
              (subst (λ (xs : List Told). ArePlaced [] m.turns xs) (sym yes.told_is) is.placed)
              (subst (λ (xs : List Told). AreTurns trails m.turns xs) (sym yes.told_is) turns);
          receipts = told_receipts;
          answered = λ j receipt at.
              let of = told_receipts.of_steps j receipt at in
              is_answered arrived trails yes.merged yes.events all.system receipt of.0 yes.is
              (subst (λ (xs : List Told). IsOfStep xs receipt of.0) (sym yes.told_is) of.1);
        },
      )

------ whose the clients are

module _ {B M : Type 0} (making : B → NodeMaking) (stands : NodeState → M → Type 0)
    (receipts : List Receipt) where
  -- each client has a trace: what is found is a schedule
  module _ (keeps : (partitions : ℕ) (events : List SystemEvent) → IsSystemSchedule events
      → KeepsAll (run_system events (start_system partitions))) where
    yes_by : (run : Ran B M) (s : System) → IsFound [] making stands run receipts s
        → IsYes making stands run receipts s
    yes_by run s found = record {
      apart = found.apart;
      audited = found.audited;
      promises = subst KeepsAll (sym found.audited.is.is_run)
          (keeps data_partitions (makings (trails_of making run.traces) ++ found.audited.events)
          found.audited.is.is_schedule);
      turns = found.turns;
      again = found.again;
      receipts = found.receipts;
      answered = found.answered;
    }

    pub is_yes : {E : Type 0} (r : Result (Ran B M) E)
        → IfOk r (λ run. (s : System) × IsFound [] making stands run receipts s)
        → IfOk r (λ run. (s : System) × IsYes making stands run receipts s)
    is_yes (Ok run) found = (found.0, yes_by run found.0 found.1)
    is_yes (Err fault) found = tt

  -- the clients are outside: it is an open schedule
  module _ (keeps : (partitions : ℕ) (events : List OpenSystemEvent)
      → IsOpenSystemSchedule events
      → KeepsOpenPromises (run_open_system events (start_system partitions)).world) where
    servers_yes_by : (run : Ran B M) (s : System) → let trails = trails_of making run.traces in
        IsFound (requests_of trails) making stands run receipts s
        → All IsRequest (requests_of trails) → AreServersYes making stands run receipts s
    servers_yes_by run s found fit =
        let trails = trails_of making run.traces in
        let audited = found.audited in
        let opened = open_schedule keeps (requests_of trails) trails audited.merged audited.events s
        fit audited.is in
        record {
          found = found;
          scheduled = opened.scheduled;
          is_run = opened.is_run;
          promises = opened.promises;
        }

    pub is_servers_yes : {E : Type 0} (traces : List (Traced B)) (r : Result (Ran B M) E)
        → IfOk r (λ run. run.traces ≡ traces)
        → IfOk r (λ run. (s : System)
        × IsFound (requests_of (trails_of making traces)) making stands run receipts s)
        → OnOk r (All IsRequest (requests_of (trails_of making traces)))
        → IfOk r (λ run. (s : System) × AreServersYes making stands run receipts s)
    is_servers_yes traces (Ok run) same found fit =
        let back = sym same in (
          found.0,
          servers_yes_by run found.0
              (subst (λ (ts : List (Traced B)).
              IsFound (requests_of (trails_of making ts)) making stands run receipts found.0)
              back found.1)
              (subst (λ (ts : List (Traced B)). All IsRequest (requests_of (trails_of making ts)))
              back fit),
        )
    is_servers_yes traces (Err fault) same found fit = tt
