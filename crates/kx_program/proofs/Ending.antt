-- How the program ends, and what was written by then.
use Rattle.std.proofs.Common.{◌≡◌, ◌∙◌, ◌⊎◌, ℕ, List, Bool, Option, None, Some, Result, Ok, Err}
use Rattle.std.proofs.Common.{inl, inr, IfSome, MatchResult, refl, subst, sym}
use Rattle.std.specs.Prelude.{OnOk}
use Rattle.std.specs.Io.KnownBytes.{Appends, Keeps}
use Rattle.std.proofs.KnownBytes.{Appends-kept, Keeps-refl}
use Rattle.kx_demo.specs.Telling.{Tells, SaysYes, SaysNo, GaveUp, Fails}
use Rattle.kx_demo.specs.declared.fault.DemoFault.{DemoFault}
use Rattle.kx_program.specs.Program.{Audits, DumpsBytes, DumpsFile, Plays, ServesStock}
use Rattle.kx_serve.specs.declared.fault.ServeFault.{ServeFault}
use Rattle.kx_server.specs.Lines.{Listens}
use Rattle.kx_server_audit.specs.Contents.{unknown}
use Rattle.kx_server_audit.specs.Telling as audit
use Rattle.kx_server_audit.specs.declared.fault.AuditFault.{AuditFault}
use Rattle.kx_text.specs.Statuses.{ending_of}
use Rattle.kx_text.specs.declared.fault.ScriptFault.{ScriptFault}
use Rattle.kx_text.specs.declared.program.Ending.{Ending}
use Rattle.kx_text.specs.declared.program.Ending.TheVariants as ending

-- what is said of a run, and how the program ends
pub ran_so : (known : Option (List ℕ)) (says : List ℕ → Result (Unit {0}) ScriptFault → Type 0)
    (ran : Result (Unit {0}) ScriptFault) (how : Ending)
    → IfSome known (λ script. says script ran) → how ≡ ending_of ran
    → IfSome known (λ script. (r : Result (Unit {0}) ScriptFault) × says script r
    × (how ≡ ending_of r))
ran_so None says ran how told is = tt
ran_so (Some script) says ran how told is = (ran, told, is)

-- a file that was read, or couldn't be
pub file_dumped : {V E : Type 0} (bytes : V → List ℕ) (read : Result V E)
    (old new : Option (List ℕ)) (how : Ending)
    → MatchResult read (λ v. DumpsBytes (bytes v) old new how)
    (λ e. (how ≡ ending.Failed) × Keeps old new) → DumpsFile old new how
file_dumped bytes (Ok v) old new how told = (Some (bytes v), told)
file_dumped bytes (Err e) old new how told = (None, told)

-- a flush keeps what was appended
tells_kept : (old mid new : Option (List ℕ)) (played : Result Bool DemoFault) → Keeps mid new
    → Tells old mid played → Tells old new played
tells_kept old mid new _ kept (SaysYes run audited told) = SaysYes run audited (record {
  counts = told.counts;
  counted = told.counted;
  printed = Appends-kept old mid new _ told.printed kept;
})
tells_kept old mid new _ kept (SaysNo trails receipts why refused printed) =
    SaysNo trails receipts why refused (Appends-kept old mid new _ printed kept)
tells_kept old mid new _ kept (GaveUp printed) = GaveUp (Appends-kept old mid new _ printed kept)
tells_kept old mid new _ kept (Fails why other) = Fails why other

audit_kept : (compares : Bool) (old mid new : Option (List ℕ))
    (audited : Result Bool AuditFault) → Keeps mid new
    → audit.Tells unknown compares old mid audited → audit.Tells unknown compares old new audited
audit_kept compares old mid new _ kept (audit.TellsYes f words none says printed) =
    audit.TellsYes f words none says (Appends-kept old mid new _ printed kept)
audit_kept compares old mid new _ kept (audit.TellsNo f words denial some why printed) =
    audit.TellsNo f words denial some why (Appends-kept old mid new _ printed kept)
audit_kept compares old mid new _ kept (audit.Fails why) = audit.Fails why

-- the audit of a server, and a flush after it
pub audits_flushed : (compares : Bool) (old mid new : Option (List ℕ)) (before after : Ending)
    → Keeps mid new → (after ≡ ending.Failed) ⊎ (after ≡ before)
    → Audits compares old mid before → Audits compares old new after
audits_flushed compares old mid new before after kept (inl failed) audits = inl failed
audits_flushed compares old mid new before after kept (inr same) (inl failed) =
    inl (same ∙ failed)
audits_flushed compares old mid new before after kept (inr same) (inr (audited, tells, is)) =
    inr (audited, audit_kept compares old mid new audited kept tells, same ∙ is)

-- a demonstration, and a flush after it
pub plays_flushed : (old mid new : Option (List ℕ)) (before after : Ending) → Keeps mid new
    → (after ≡ ending.Failed) ⊎ (after ≡ before) → Plays old mid before → Plays old new after
plays_flushed old mid new before after kept (inl failed) plays = inl failed
plays_flushed old mid new before after kept (inr same) (inl failed) = inl (same ∙ failed)
plays_flushed old mid new before after kept (inr same) (inr (played, tells, is)) =
    inr (played, tells_kept old mid new played kept tells, same ∙ is)

-- stock clients were served, or weren't
pub stock_served : (served : Result (Unit {0}) ServeFault) (old new : Option (List ℕ))
    (how : Ending) → OnOk served (Listens old new) → how ≡ ending_of served
    → ServesStock old new how
stock_served (Ok done) old new how listens is = subst (ServesStock old new) (sym is) listens
stock_served (Err fault) old new how listens is = subst (ServesStock old new) (sym is) tt

-- the topics that were asked for are wrong
pub stock_refused : (known : Option (List ℕ)) (how : Ending)
    → (how ≡ ending.Failed) ⊎ (how ≡ ending.WrongArguments) → ServesStock known known how
stock_refused known how (inl failed) = subst (ServesStock known known) (sym failed) tt
stock_refused known how (inr wrong) =
    subst (ServesStock known known) (sym wrong) (Keeps-refl known)
