use Rattle.std.proofs.Common.{◌++◌, ◌+ℤ◌, ℕ, ℤ, List, refl, subst}
use Rattle.std.proofs.lemmas.Int.{to_z-of_z}
use Rattle.std.specs.Int.{w64}
use Rattle.std.specs.Prelude.{codes}
use Rattle.std.specs.Fmt.{signed_decimal}
use Rattle.std.specs.Io.KnownBytes.{Appends}
use Rattle.std.proofs.lemmas.Result.{err_from_is_err_and}
use Rattle.std.proofs.KnownBytes.{Appends-trans}
use Rattle.kx_batch.specs.Record.{Record}
use Rattle.kx_text.specs.Dump.{field_text, record_line}
use Rattle.kx_text.specs.Pages.{newline}
use Rattle.kx_text.specs.Writing.{IsBroken}
use Rattle.kx_text.proofs.Writes.{broken_after, broken_more, fails_with, writes_after}
use Rattle.kx_text.proofs.dump.write_record.Goals as goal

-- what is in front of a record's key
abbrev offset_at : ℤ → Record → List ℕ
offset_at base r = codes "record " ++ signed_decimal (base +ℤ r.offset_delta) ++ codes " "

pub returns-in_err-write_offset : goal.returns-in_err-write_offset
returns-in_err-write_offset g c =
    let r = c.args.shown.now in
    let old = g.W.Write.contents c.args.writer.now in
    let new = g.W.Write.contents c.write_offset.new.writer in
    let offset = offset_at c.args.base r in
    let key = field_text r.key in
    let value = field_text r.value in
    let broken0 = subst (λ (base : ℤ). IsBroken (offset_at base r) old new)
    (to_z-of_z w64 c.args.base c.ranges.base) c.in_err-write_offset.ensures in
    let cut1 = broken_more old new offset key broken0 in
    let cut2 = broken_more old new (offset ++ key) (codes " ") cut1 in
    let cut3 = broken_more old new (offset ++ key ++ codes " ") value cut2 in
    let cut4 = broken_more old new (offset ++ key ++ codes " " ++ value) newline cut3 in
    let p = err_from_is_err_and c.from_residual.result c.from_residual.ensures.1 in
    fails_with (record_line c.args.base r) old new c.from_residual.result p.0 p.1 cut4

pub returns-in_err-write_field : goal.returns-in_err-write_field
returns-in_err-write_field g c =
    let r = c.args.shown.now in
    let old = g.W.Write.contents c.args.writer.now in
    let a = g.W.Write.contents c.write_offset.new.writer in
    let new = g.W.Write.contents c.write_field.new.writer in
    let offset = offset_at c.args.base r in
    let key = field_text r.key in
    let value = field_text r.value in
    let first = subst (λ (base : ℤ). Appends old a (offset_at base r))
    (to_z-of_z w64 c.args.base c.ranges.base) c.in_ok-write_offset.ensures in
    let broken1 = broken_after old a new offset key (offset ++ key) refl first
    (subst (λ k. IsBroken (field_text k) a new) c.key.ensures
    c.in_err-write_field.ensures) in
    let cut2 = broken_more old new (offset ++ key) (codes " ") broken1 in
    let cut3 = broken_more old new (offset ++ key ++ codes " ") value cut2 in
    let cut4 = broken_more old new (offset ++ key ++ codes " " ++ value) newline cut3 in
    let p = err_from_is_err_and c.from_residual-in_err-write_field.result c.from_residual-in_err-write_field.ensures.1 in
    fails_with (record_line c.args.base r) old new c.from_residual-in_err-write_field.result p.0 p.1 cut4

pub returns-in_err-write_whole : goal.returns-in_err-write_whole
returns-in_err-write_whole g c =
    let r = c.args.shown.now in
    let old = g.W.Write.contents c.args.writer.now in
    let a = g.W.Write.contents c.write_offset.new.writer in
    let b = g.W.Write.contents c.write_field.new.writer in
    let new = g.W.Write.contents c.write_whole.new.writer in
    let offset = offset_at c.args.base r in
    let key = field_text r.key in
    let value = field_text r.value in
    let first = subst (λ (base : ℤ). Appends old a (offset_at base r))
    (to_z-of_z w64 c.args.base c.ranges.base) c.in_ok-write_offset.ensures in
    let second = Appends-trans old a b offset key first
    (subst (λ k. Appends a b (field_text k)) c.key.ensures c.in_ok-write_field.ensures) in
    let broken2 = broken_after old b new (offset ++ key) (codes " ") (offset ++ key ++ codes " ") refl second
    c.in_err-write_whole.ensures in
    let cut3 = broken_more old new (offset ++ key ++ codes " ") value broken2 in
    let cut4 = broken_more old new (offset ++ key ++ codes " " ++ value) newline cut3 in
    let p = err_from_is_err_and c.from_residual-in_err-write_whole.result c.from_residual-in_err-write_whole.ensures.1 in
    fails_with (record_line c.args.base r) old new c.from_residual-in_err-write_whole.result p.0 p.1 cut4

pub returns-in_err-write_field-2 : goal.returns-in_err-write_field-2
returns-in_err-write_field-2 g c =
    let r = c.args.shown.now in
    let old = g.W.Write.contents c.args.writer.now in
    let a = g.W.Write.contents c.write_offset.new.writer in
    let b = g.W.Write.contents c.write_field.new.writer in
    let d = g.W.Write.contents c.write_whole.new.writer in
    let new = g.W.Write.contents c.write_field-2.new.writer in
    let offset = offset_at c.args.base r in
    let key = field_text r.key in
    let value = field_text r.value in
    let first = subst (λ (base : ℤ). Appends old a (offset_at base r))
    (to_z-of_z w64 c.args.base c.ranges.base) c.in_ok-write_offset.ensures in
    let second = Appends-trans old a b offset key first
    (subst (λ k. Appends a b (field_text k)) c.key.ensures c.in_ok-write_field.ensures) in
    let third = Appends-trans old b d (offset ++ key) (codes " ") second
    c.in_ok-write_whole.ensures in
    let broken3 = broken_after old d new (offset ++ key ++ codes " ") value (offset ++ key ++ codes " " ++ value) refl third
    (subst (λ k. IsBroken (field_text k) d new) c.value.ensures
    c.in_err-write_field-2.ensures) in
    let cut4 = broken_more old new (offset ++ key ++ codes " " ++ value) newline broken3 in
    let p = err_from_is_err_and c.from_residual-in_err-write_field-2.result c.from_residual-in_err-write_field-2.ensures.1 in
    fails_with (record_line c.args.base r) old new c.from_residual-in_err-write_field-2.result p.0 p.1 cut4

pub returns : goal.returns
returns g c =
    let r = c.args.shown.now in
    let old = g.W.Write.contents c.args.writer.now in
    let a = g.W.Write.contents c.write_offset.new.writer in
    let b = g.W.Write.contents c.write_field.new.writer in
    let d = g.W.Write.contents c.write_whole.new.writer in
    let e = g.W.Write.contents c.write_field-2.new.writer in
    let new = g.W.Write.contents c.write_whole-2.new.writer in
    let offset = offset_at c.args.base r in
    let key = field_text r.key in
    let value = field_text r.value in
    let first = subst (λ (base : ℤ). Appends old a (offset_at base r))
    (to_z-of_z w64 c.args.base c.ranges.base) c.in_ok-write_offset.ensures in
    let second = Appends-trans old a b offset key first
    (subst (λ k. Appends a b (field_text k)) c.key.ensures c.in_ok-write_field.ensures) in
    let third = Appends-trans old b d (offset ++ key) (codes " ") second
    c.in_ok-write_whole.ensures in
    let fourth = Appends-trans old d e (offset ++ key ++ codes " ") value third
    (subst (λ k. Appends d e (field_text k)) c.value.ensures c.in_ok-write_field-2.ensures) in
    writes_after old e new (offset ++ key ++ codes " " ++ value) newline c.write_whole-2.result fourth
    c.write_whole-2.ensures
