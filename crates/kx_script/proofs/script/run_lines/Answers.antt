use Rattle.std.proofs.Common.{◌^◌, ℕ, List, Result, Ok, Err, Bool, refl, sym, ap, ◌∙◌, subst, inl}
use Rattle.std.proofs.Common.{inr}
use Rattle.std.proofs.Common.{arith}
use Rattle.std.specs.Prelude.{IfSome}
use Rattle.std.specs.Io.KnownBytes.{Appends}
use Rattle.std.proofs.lemmas.Result.{err_from_is_err_and}
use Rattle.kx_text.specs.Words.{before}
use Rattle.kx_text.specs.Lines.{ReadsLine}
use Rattle.kx_text.specs.declared.fault.ScriptFault.{ScriptFault}
use Rattle.kx_text.specs.declared.fault.ScriptFault.TheVariants.{Read}
use Rattle.kx_text.specs.Writing.{IsBroken}
use Rattle.kx_script.specs.Running.{StandsIn}
use Rattle.kx_script.specs.Script.{Ends, MakesAnswer, State, answer, kept_in}
use Rattle.kx_script.proofs.Underway.{finishes, goes_on, has_more, is_bad, read_fails, starts, stops}
use Rattle.kx_script.proofs.Underway.{text_fails}
use Rattle.kx_script.proofs.script.run_lines.Goals as goal

pub loop-number-init : goal.loop-number-init
loop-number-init g c =
    starts (StandsIn c.args.running.now) c.requires (g.R.Read.remaining c.args.reader.now.reader)
    (g.W.Write.contents c.args.writer.now)

pub returns-in_err-next_line-clause-ends : goal.returns-in_err-next_line-clause-ends
returns-in_err-next_line-clause-ends g c =
    let told = g.R.Read.remaining c.args.reader.now.reader in
    let old = g.W.Write.contents c.args.writer.now in
    let now = g.W.Write.contents c.loop-number.writer in
    let p = err_from_is_err_and c.from_residual.result c.from_residual.ensures.1 in
    subst (λ (r : Result (Unit {0}) ScriptFault). IfSome told (λ input. Ends input old now r))
    (sym (p.1 ∙ ap Err p.2))
    (read_fails (StandsIn c.loop-number.running) told
    (g.R.Read.remaining c.loop-number.reader.reader)
    (g.R.Read.remaining c.next_line.new.reader.reader) c.loop-number.number old now
    c.next_line.new.line.items c.in_err-next_line.field-0.0
    c.loop-number.invariant c.in_err-next_line.ensures.line)

pub returns-then-not-branch-clause-ends : goal.returns-then-not-branch-clause-ends
returns-then-not-branch-clause-ends g c =
    let left = g.R.Read.remaining c.loop-number.reader.reader in
    let after = g.R.Read.remaining c.next_line.new.reader.reader in
    let line = c.next_line.new.line.items in
    finishes (StandsIn c.loop-number.running)
    (g.R.Read.remaining c.args.reader.now.reader) left after c.loop-number.number
    (g.W.Write.contents c.args.writer.now) (g.W.Write.contents c.loop-number.writer)
    line tt c.loop-number.invariant
    (subst (λ (b : Bool). IfSome left (λ bytes. ReadsLine bytes after line (Ok b)))
    c.if-not-branch.true c.in_ok-next_line.ensures.line)

pub returns-in_err-is_good-clause-ends : goal.returns-in_err-is_good-clause-ends
returns-in_err-is_good-clause-ends g c =
    let told = g.R.Read.remaining c.args.reader.now.reader in
    let old = g.W.Write.contents c.args.writer.now in
    let now = g.W.Write.contents c.loop-number.writer in
    let p = err_from_is_err_and c.from_residual-in_err-is_good.result
    c.from_residual-in_err-is_good.ensures.1 in
    subst (λ (r : Result (Unit {0}) ScriptFault). IfSome told (λ input. Ends input old now r))
    (sym (p.1 ∙ ap Err p.2))
    (stops (StandsIn c.loop-number.running) told (g.R.Read.remaining c.loop-number.reader.reader)
    c.loop-number.number old now c.in_err-is_good.field-0.0 (inr c.in_err-is_good.ensures.fault)
    c.loop-number.invariant)

pub returns-in_err-write_text-clause-ends : goal.returns-in_err-write_text-clause-ends
returns-in_err-write_text-clause-ends g c =
    let told = g.R.Read.remaining c.args.reader.now.reader in
    let left = g.R.Read.remaining c.loop-number.reader.reader in
    let after = g.R.Read.remaining c.next_line.new.reader.reader in
    let line = c.next_line.new.line.items in
    let words = c.without_newline-words.result.now in
    let text = c.make_answer.new.text.items in
    let old = g.W.Write.contents c.args.writer.now in
    let now = g.W.Write.contents c.loop-number.writer in
    let new = g.W.Write.contents c.write_text.new.writer in
    let number = c.loop-number.number in
    let After = StandsIn c.make_answer.new.running in
    let read = subst (λ (b : Bool). IfSome left (λ bytes. ReadsLine bytes after line (Ok b)))
    c.if-not-branch.false c.in_ok-next_line.ensures.line in
    let is = c.without_newline-words.ensures ∙ ap (before 10) c.as_slice.ensures.value in
    let p = err_from_is_err_and c.from_residual-in_err-write_text.result
    c.from_residual-in_err-write_text.ensures.1 in
    subst (λ (r : Result (Unit {0}) ScriptFault). IfSome told (λ input. Ends input old new r))
    (sym (p.1 ∙ ap Err p.2))
    (text_fails (StandsIn c.loop-number.running) After told left after number old now new line words
    text c.in_ok-is_good.is_good c.in_err-write_text.field-0.0 c.in_err-write_text.ensures.fault
    c.loop-number.invariant read is c.in_ok-is_good.ensures.made
    (subst (λ (t : List ℕ). IsBroken t now new) c.as_slice-in-loop-number.ensures.value
    c.in_err-write_text.ensures.written))

pub returns-then-not-is_good-clause-ends : goal.returns-then-not-is_good-clause-ends
returns-then-not-is_good-clause-ends g c =
    let told = g.R.Read.remaining c.args.reader.now.reader in
    let left = g.R.Read.remaining c.loop-number.reader.reader in
    let after = g.R.Read.remaining c.next_line.new.reader.reader in
    let line = c.next_line.new.line.items in
    let words = c.without_newline-words.result.now in
    let text = c.make_answer.new.text.items in
    let old = g.W.Write.contents c.args.writer.now in
    let now = g.W.Write.contents c.loop-number.writer in
    let new = g.W.Write.contents c.write_text.new.writer in
    let number = c.loop-number.number in
    let After = StandsIn c.make_answer.new.running in
    let read = subst (λ (b : Bool). IfSome left (λ bytes. ReadsLine bytes after line (Ok b)))
    c.if-not-branch.false c.in_ok-next_line.ensures.line in
    let is = c.without_newline-words.ensures ∙ ap (before 10) c.as_slice.ensures.value in
    let made = λ (state : State) (s : StandsIn c.loop-number.running state).
    subst (λ (b : Bool). MakesAnswer After (answer state words) (kept_in state words) number text
    (Ok b)) c.if-not-is_good.true (c.in_ok-is_good.ensures.made state s) in
    let written = subst (Appends now new) c.as_slice-in-loop-number.ensures.value
    c.in_ok-write_text.ensures.written in
    is_bad (StandsIn c.loop-number.running) After told left after number old now new line words text
    c.loop-number.invariant read is made written

pub loop-number-preserved : goal.loop-number-preserved
loop-number-preserved g c =
    let told = g.R.Read.remaining c.args.reader.now.reader in
    let left = g.R.Read.remaining c.loop-number.reader.reader in
    let after = g.R.Read.remaining c.next_line.new.reader.reader in
    let line = c.next_line.new.line.items in
    let words = c.without_newline-words.result.now in
    let text = c.make_answer.new.text.items in
    let old = g.W.Write.contents c.args.writer.now in
    let now = g.W.Write.contents c.loop-number.writer in
    let new = g.W.Write.contents c.write_text.new.writer in
    let number = c.loop-number.number in
    let After = StandsIn c.make_answer.new.running in
    let read = subst (λ (b : Bool). IfSome left (λ bytes. ReadsLine bytes after line (Ok b)))
    c.if-not-branch.false c.in_ok-next_line.ensures.line in
    let is = c.without_newline-words.ensures ∙ ap (before 10) c.as_slice.ensures.value in
    let made = λ (state : State) (s : StandsIn c.loop-number.running state).
    subst (λ (b : Bool). MakesAnswer After (answer state words) (kept_in state words) number text
    (Ok b)) c.if-not-is_good.false (c.in_ok-is_good.ensures.made state s) in
    let written = subst (Appends now new) c.as_slice-in-loop-number.ensures.value
    c.in_ok-write_text.ensures.written in
    goes_on (StandsIn c.loop-number.running) After told left after number old now new line words text
    c.loop-number.invariant read is made written

pub returns-in_err-next_line-2-clause-ends : goal.returns-in_err-next_line-2-clause-ends
returns-in_err-next_line-2-clause-ends g c =
    let told = g.R.Read.remaining c.args.reader.now.reader in
    let old = g.W.Write.contents c.args.writer.now in
    let now = g.W.Write.contents c.loop-number.writer in
    let p = err_from_is_err_and c.from_residual-in_err-next_line-2.result
    c.from_residual-in_err-next_line-2.ensures.1 in
    subst (λ (r : Result (Unit {0}) ScriptFault). IfSome told (λ input. Ends input old now r))
    (sym (p.1 ∙ ap Err p.2))
    (read_fails (StandsIn c.loop-number.running) told
    (g.R.Read.remaining c.loop-number.reader.reader)
    (g.R.Read.remaining c.next_line-2.new.reader.reader) c.loop-number.number old now
    c.next_line-2.new.line.items c.in_err-next_line-2.field-0.0
    c.loop-number.invariant c.in_err-next_line-2.ensures.line)

pub returns-then-branch-clause-ends : goal.returns-then-branch-clause-ends
returns-then-branch-clause-ends g c =
    stops (StandsIn c.loop-number.running) (g.R.Read.remaining c.args.reader.now.reader)
    (g.R.Read.remaining c.loop-number.reader.reader) c.loop-number.number
    (g.W.Write.contents c.args.writer.now) (g.W.Write.contents c.loop-number.writer) Read (inl refl)
    c.loop-number.invariant

pub returns-then-branch-clause-over : goal.returns-then-branch-clause-over
returns-then-branch-clause-over g c = λ read.
    inr (has_more (StandsIn c.loop-number.running) (g.R.Read.remaining c.args.reader.now.reader)
    (g.R.Read.remaining c.loop-number.reader.reader) c.loop-number.number (2 ^ 63)
    (g.W.Write.contents c.args.writer.now) (g.W.Write.contents c.loop-number.writer)
    c.loop-number.invariant (omega arith))

pub returns-clause-ends : goal.returns-clause-ends
returns-clause-ends g c =
    let left = g.R.Read.remaining c.loop-number.reader.reader in
    let after = g.R.Read.remaining c.next_line-2.new.reader.reader in
    let line = c.next_line-2.new.line.items in
    finishes (StandsIn c.loop-number.running)
    (g.R.Read.remaining c.args.reader.now.reader) left after c.loop-number.number
    (g.W.Write.contents c.args.writer.now) (g.W.Write.contents c.loop-number.writer)
    line tt c.loop-number.invariant
    (subst (λ (b : Bool). IfSome left (λ bytes. ReadsLine bytes after line (Ok b)))
    c.if-branch.false c.in_ok-next_line-2.ensures.line)
