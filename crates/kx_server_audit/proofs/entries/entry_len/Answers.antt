use Rattle.std.proofs.Common.{◌∙◌, ap, arith, length, sym}
use Rattle.kx_model.specs.Coordinator.{Allot, CoordinatorEpoch, Written}
use Rattle.kx_txnlog.specs.Entry.{note_of, row_of}
use Rattle.kx_txnlog.specs.Layout.{entry_text}
use Rattle.kx_txnlog.specs.declared.entry.Entry.{Entry}
use Rattle.kx_server_audit.proofs.Texts.{entry_size}
use Rattle.kx_server_audit.proofs.entries.entry_len.Goals as goal

pub returns-in-CoordinatorEpoch : goal.returns-in-CoordinatorEpoch
returns-in-CoordinatorEpoch c =
    sym (ap (λ (e : Entry). length (entry_text (note_of e))) c.in-CoordinatorEpoch.is
    ∙ entry_size (CoordinatorEpoch c.in-CoordinatorEpoch.field-0))

pub returns-in-Allot : goal.returns-in-Allot
returns-in-Allot c = sym (ap (λ (e : Entry). length (entry_text (note_of e))) c.in-Allot.is
    ∙ entry_size (Allot c.in-Allot.field-0))

pub returns-in-Row : goal.returns-in-Row
returns-in-Row c =
    let e = ap (λ (e : Entry). length (entry_text (note_of e))) c.in-Row.is in
    let size = entry_size (Written (row_of c.in-Row.row)) in
    let name = ap length c.as_bytes.ensures.value in
    let listed = ap length c.as_slice.ensures.value in
    omega (arith, e, size, name, listed)
