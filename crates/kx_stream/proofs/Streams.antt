-- A stream, piece by piece.
use Rattle.std.proofs.Common.{◌≡◌, ◌≤◌, ◌+◌, ℕ, List, [], ◌++◌, Option, None, Result, Ok, Err, refl}
use Rattle.std.proofs.Common.{sym, ap, ◌∙◌, subst, append_assoc, append-nil, inl, inr, length}
use Rattle.std.proofs.Common.{arith, length-append}
use Rattle.std.specs.Prelude.{MatchResult, OnOk}
use Rattle.std.specs.Io.KnownBytes.{Appends, Consumes, IsAtEnd}
use Rattle.std.proofs.KnownBytes.{Appends-nil, Consumes-nil, Consumes-trans}
use Rattle.kx_machine.specs.Meaning.{NodeState}
use Rattle.kx_message.specs.Message.{IsSendable}
use Rattle.kx_message.specs.Reader.{unsigned}
use Rattle.kx_message.specs.declared.message.Message.{Message}
use Rattle.kx_model.specs.Disk.{Store}
use Rattle.kx_stream.specs.Reader.{Gives, ReadGives}
use Rattle.kx_stream.specs.Sending.{frames}
use Rattle.kx_stream.specs.Stream.{Ends, IsDone, PieceServed, Served}
use Rattle.kx_stream.specs.declared.fault.StreamFault.{StreamFault}
use Rattle.kx_stream.specs.declared.fault.StreamFault.TheVariants.{Read, Write, Frame}
use Rattle.kx_stream.specs.declared.stream.ReadsEnd.{ReadsEnd}
use Rattle.kx_stream.proofs.Pieces.{all_both, nothing_served, piece_refused}
use Rattle.kx_stream.proofs.Writing.{appends_both, broken_after, cut_behind, frames-append}
use Rattle.kx_stream.proofs.Rows.{serves_both, serves_none}
use Rattle.kx_wire.specs.Frames.{More, Reads, Stream, frame_at}
use Rattle.kx_wire.specs.declared.fault.FrameFault.TheVariants as fault

nothing_is_less : frame_at [] ≡ More
unfolding frame_at unsigned
nothing_is_less = refl

-- what a read gave, if these bytes are held of the stream
pub read_gives : (stream next : Stream) (partial read : List ℕ) (left : Option (List ℕ))
    (answer : Result (Option (List Message)) StreamFault) → stream ≡ Reads partial
    → Gives stream read left answer next → ReadGives partial read left answer next
read_gives stream next partial read left answer held gives =
    subst (λ (s : Stream). Gives s read left answer next) held gives

-- nothing more was read
none_read : (input now left : Option (List ℕ)) (before read : List ℕ) → Consumes input now before
    → Consumes now left read → read ≡ [] → Consumes input left before
none_read input now left before read first second none =
    subst (Consumes input left) (append-nil before)
    (Consumes-trans input now left before [] first (subst (Consumes now left) none second))

module _ {M : Type 0} (stands : NodeState → M → Type 0)
    (allows : M → Option ℕ → Store → Type 0) where
  -- some of the stream was read, by so many reads of a byte or more; all that came of it is served
  -- and written, and the rest is held
  pub record Along (reads : ℕ) (before after : M) (input left old new : Option (List ℕ))
      (stream : Stream) : Type 0 where
    pub read : List ℕ
    pub many : reads ≤ length read
    pub consumed : Consumes input left read
    pub served : Served stands allows read before after old new (Ok tt)
    pub held : stream ≡ Reads served.behind

  pub along_start : (m : M) (input known : Option (List ℕ)) (stream : Stream) → stream ≡ Reads []
      → Along 0 m m input input known known stream
  along_start m input known stream is = record {
    read = [];
    many = omega arith;
    consumed = Consumes-nil input;
    served = record {
      messages = [];
      behind = [];
      parts = refl;
      each = tt;
      handed = [];
      serves = serves_none stands allows m;
      ends = (nothing_is_less, Appends-nil known);
    };
    held = is;
  }

  ends_behind : (old mid new : Option (List ℕ)) (behind : List ℕ) (handed more : List Message)
      (result : Result (Unit {0}) StreamFault) → Appends old mid (frames handed)
      → Ends behind more mid new result → Ends behind (handed ++ more) old new result
  ends_behind old mid new behind handed more (Ok done) first ends =
      (ends.0, appends_both old mid new handed more first ends.1)
  ends_behind old mid new behind handed more (Err Read) first ends =
      (ends.0, appends_both old mid new handed more first ends.1)
  ends_behind old mid new behind handed more (Err Write) first ends =
      broken_after old mid new (frames handed) (frames more) (frames (handed ++ more))
      (frames-append handed more) first ends
  ends_behind old mid new behind handed more (Err (Frame f)) first (inl stood) =
      inl (stood.0, appends_both old mid new handed more first stood.1)
  ends_behind old mid new behind handed more (Err (Frame f)) first (inr cut) =
      inr (cut_behind old mid new handed more f first cut)

  -- what is served of a piece, behind what was served before
  pub served_more : (before mid after : M) (old now new : Option (List ℕ)) (read piece : List ℕ)
      (stream : Stream) (result : Result (Unit {0}) StreamFault)
      → (served : Served stands allows read before mid old now (Ok tt))
      → PieceServed stands allows served.behind piece mid after stream now new result
      → (more : Served stands allows (read ++ piece) before after old new result)
      × OnOk result (stream ≡ Reads more.behind)
  served_more before mid after old now new read piece stream result served p =
      let more = p.served in (
        record {
          messages = served.messages ++ more.messages;
          behind = more.behind;
          parts = ap (λ (l : List ℕ). l ++ piece) served.parts
              ∙ append_assoc (frames served.messages) served.behind piece
              ∙ ap (λ (l : List ℕ). frames served.messages ++ l) more.parts
              ∙ sym (append_assoc (frames served.messages) (frames more.messages) more.behind)
              ∙ ap (λ (l : List ℕ). l ++ more.behind)
              (sym (frames-append served.messages more.messages));
          each = all_both IsSendable served.messages more.messages served.each more.each;
          handed = served.handed ++ more.handed;
          serves = serves_both stands allows before mid after served.messages more.messages
              served.handed more.handed served.serves more.serves;
          ends = ends_behind old now new more.behind served.handed more.handed result
              served.ends.1 more.ends;
        },
        p.held,
      )

  -- one more piece is served
  pub along_more : (reads : ℕ) (before mid after : M)
      (input now left old known new : Option (List ℕ)) (piece : List ℕ) (stream next : Stream)
      → Along reads before mid input now old known stream → 1 ≤ length piece
      → Consumes now left piece
      → ((partial : List ℕ) → stream ≡ Reads partial
      → PieceServed stands allows partial piece mid after next known new (Ok tt))
      → Along (reads + 1) before after input left old new next
  along_more reads before mid after input now left old known new piece stream next along some taken
      more =
      let both = served_more before mid after old known new along.read piece next (Ok tt)
      along.served (more along.served.behind along.held) in
      record {
        read = along.read ++ piece;
        many = omega (arith, along.many, some, length-append along.read piece);
        consumed = Consumes-trans input now left along.read piece along.consumed taken;
        served = both.0;
        held = both.1;
      }

  -- a piece ends it
  pub ended : (reads : ℕ) (before mid after : M)
      (input now left old known new : Option (List ℕ))
      (piece : List ℕ) (stream next : Stream) (fault : StreamFault)
      → Along reads before mid input now old known stream
      → Consumes now left piece
      → ((partial : List ℕ) → stream ≡ Reads partial
      → PieceServed stands allows partial piece mid after next known new (Err fault))
      → (read : List ℕ) × Consumes input left read
      × Served stands allows read before after old new (Err fault)
  ended reads before mid after input now left old known new piece stream next fault along taken
      more =
      let both = served_more before mid after old known new along.read piece next (Err fault)
      along.served (more along.served.behind along.held) in (
        along.read ++ piece,
        Consumes-trans input now left along.read piece along.consumed taken,
        both.0,
      )

  -- what the reads of a stream come to
  abbrev pub ReadTo : M → M → Option (List ℕ) → Option (List ℕ) → Option (List ℕ)
      → Option (List ℕ) → Result ReadsEnd StreamFault → Type 0
  ReadTo before after input left old new result =
      (read : List ℕ) × Consumes input left read × MatchResult result
      (λ end. IsDone end read left × Served stands allows read before after old new (Ok tt))
      (λ fault. Served stands allows read before after old new (Err fault))

  pub read_breaks : (before after : M) (input left old new : Option (List ℕ)) (fault : StreamFault)
      (result : Result ReadsEnd StreamFault) → result ≡ Err fault
      → ((read : List ℕ) × Consumes input left read
      × Served stands allows read before after old new (Err fault))
      → ReadTo before after input left old new result
  read_breaks before after input left old new fault result is ended =
      subst (ReadTo before after input left old new) (sym is) ended

  -- no more is read, though the stream hasn't ended
  pub unread : (read : List ℕ) (before after : M) (old new : Option (List ℕ))
      → Served stands allows read before after old new (Ok tt)
      → Served stands allows read before after old new (Err Read)
  unread read before after old new served = record {
    messages = served.messages;
    behind = served.behind;
    parts = served.parts;
    each = served.each;
    handed = served.handed;
    serves = served.serves;
    ends = served.ends;
  }

  -- there is no memory to begin with
  pub no_memory : (m : M) (known : Option (List ℕ))
      → Served stands allows [] m m known known (Err (Frame fault.Memory))
  no_memory m known = nothing_served stands allows [] m known fault.Memory (inr refl)

  -- the stream is at its end
  pub at_end : (reads : ℕ) (before after : M) (input now left old new : Option (List ℕ))
      (stream next : Stream) → Along reads before after input now old new stream
      → ((read : List ℕ) × Consumes now left read × Gives stream read left (Ok None) next)
      → (read : List ℕ) × Consumes input left read
      × (IsAtEnd left × Served stands allows read before after old new (Ok tt))
  at_end reads before after input now left old new stream next along (read, consumed, gives) =
      let g = read_gives stream next along.served.behind read left (Ok None) along.held gives in (
        along.read,
        none_read input now left along.read read along.consumed consumed g.0,
        (g.1, along.served),
      )

  -- a read failed
  pub read_failed : (reads : ℕ) (before after : M) (input now left old new : Option (List ℕ))
      (stream next : Stream) → Along reads before after input now old new stream
      → ((read : List ℕ) × Consumes now left read × Gives stream read left (Err Read) next)
      → (read : List ℕ) × Consumes input left read
      × (Unit {0} × Served stands allows read before after old new (Ok tt))
  read_failed reads before after input now left old new stream next along
      (read, consumed, gives) =
      let g = read_gives stream next along.served.behind read left (Err Read) along.held gives in (
        along.read,
        none_read input now left along.read read along.consumed consumed g.0,
        (tt, along.served),
      )

  -- the reader gave a fault
  pub reader_failed : (reads : ℕ) (before after : M) (input now left old new : Option (List ℕ))
      (stream next : Stream) (fault : StreamFault)
      → Along reads before after input now old new stream
      → ((read : List ℕ) × Consumes now left read × Gives stream read left (Err fault) next)
      → (read : List ℕ) × Consumes input left read
      × Served stands allows read before after old new (Err fault)
  reader_failed reads before after input now left old new stream next (Frame f) along
      (read, consumed, gives) =
      ended reads before after after input now left old new new read stream next (Frame f) along
      consumed (λ partial e. piece_refused stands allows partial read after new f next
      (read_gives stream next partial read left (Err (Frame f)) e gives))
  reader_failed reads before after input now left old new stream next Read along
      (read, consumed, gives) =
      let g = read_gives stream next along.served.behind read left (Err Read) along.held gives in (
        along.read,
        none_read input now left along.read read along.consumed consumed g.0,
        unread along.read before after old new along.served,
      )
  reader_failed reads before after input now left old new stream next Write along
      (read, consumed, gives) =
      absurd (read_gives stream next along.served.behind read left (Err Write) along.held gives)
