use Rattle.std.proofs.Common.{◌≡◌}
use Rattle.std.specs.Str.{bytes_eq}
use Rattle.kx_txnlog.specs.Entry.{note_of}
use Rattle.kx_txnlog.specs.Layout.{entry_text}
use Rattle.kx_server_audit.proofs.Texts.{same_note}
use Rattle.kx_server_audit.proofs.entries.same_entry.Goals as goal

pub returns : goal.returns
returns c =
    let a = note_of c.args.a.now in
    let b = note_of c.args.b.now in
    let e : c.eq.result ≡ bytes_eq (entry_text a) (entry_text b) =
    cc (
      c.eq.ensures,
      c.as_slice.ensures.value,
      c.as_slice-2.ensures.value,
      c.in_ok-text.ensures.text,
      c.in_ok-other.ensures.text,
    ) in
    same_note c.entries_are_read.ensures.several c.eq.result a b c.in_ok-text.ensures.within
    c.in_ok-other.ensures.within e
