use Rattle.std.proofs.Common.{◌≡◌, ◌++◌, ℕ, List, length, refl, subst, arith, not, eqb}
use Rattle.std.specs.Prelude.{IfSome}
use Rattle.std.specs.Io.BufRead.{take_through}
use Rattle.kx_text.proofs.Reading.{reads_line}
use Rattle.kx_text.proofs.lines.next_line.Goals as goal

pub returns-in-Ok-clause-line : goal.returns-in-Ok-clause-line
returns-in-Ok-clause-line g c =
    let e = c.in-Ok.ensures in
    let told = g.R.Read.remaining c.args.reader.now.reader in
    let line = c.read_until.new.buf.items in
    let n : length line ≡ c.in-Ok.count =
    omega (arith, e.ok, c.clear.ensures.len, c.read_until.new.buf.ok.0) in
    reads_line told (g.R.Read.remaining c.read_until.new.self.reader) line c.in-Ok.count
    (not (eqb c.in-Ok.count 0)) refl n e.end
    (subst (λ (z : List ℕ). IfSome told (λ bytes. line ≡ z ++ take_through 10 bytes))
    c.clear.ensures.items e.bytes) e.rest
