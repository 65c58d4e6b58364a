-- Each batch with an offset of a group and an input partition rests on a link, if each commit of
-- the group rests on a part of the log that its client had read.
use Rattle.std.proofs.Common.{◌≡◌, ◌<◌, ◌≤◌, ◌<ℤ◌, ℕ, ℤ, pos, Bool, true, false, ◌&&◌, cond}
use Rattle.std.proofs.Common.{List, [], ◌∷◌, ◌++◌, length, Some, ◌==◌, refl}
use Rattle.std.proofs.Common.{Contains, sym, ap, ◌∙◌, subst, arith, ⊎_elim}
use Rattle.std.proofs.Common.{append_assoc, find}
use Rattle.std.specs.Prelude.{bytes_eq, count_by, position, unwrap_or}
use Rattle.std.specs.List.{list_any}
use Rattle.std.proofs.lemmas.Bool.{and_from, and_parts, cases_lt}
use Rattle.std.proofs.lemmas.Bool.Decides.{nat_tests}
use Rattle.std.proofs.lemmas.List.Elements.{All-contains, Contains-append_left}
use Rattle.std.proofs.lemmas.List.Sums.{sum_by-append, sum_by-cons}
use Rattle.std.proofs.lemmas.Slice.Eq.{bytes_eq-Decides}
use Rattle.kx_message.specs.Ranges.{offsets_partition}
use Rattle.kx_message.specs.declared.message.Held.{Held}
use Rattle.kx_message.specs.declared.message.Message.{Message}
use Rattle.kx_message.specs.declared.message.Message.TheVariants as msg
use Rattle.kx_message.specs.declared.requests.TxnOffsetCommit.{TxnOffsetCommit}
use Rattle.kx_model.specs.Client.{Client}
use Rattle.kx_model.specs.Groups.{generation, is_member, is_pending, marked_offset, members}
use Rattle.kx_model.specs.Groups.{offsets_in, place_of}
use Rattle.kx_model.specs.Headline.{is_stored_as}
use Rattle.kx_model.specs.Log.{Entry, Plain, Data, Control, Sequenced}
use Rattle.kx_model.specs.World.{World, entries_at, log_at}
use Rattle.kx_headline.proofs.ClientRequests.{Knows, RequestsStand}
use Rattle.kx_headline.proofs.MarkersFit.{markers_fit}
use Rattle.kx_headline.proofs.PartitionsAlways.{PartitionsStand}
use Rattle.kx_headline.proofs.StoredRequests.{stored_as}
use Rattle.kx_headline.proofs.WorldReaders.{grown_at}
use Rattle.kx_laws.proofs.Membership.{contains_head, contains_tail, in_the_middle, map_holds}
use Rattle.kx_laws.proofs.Membership.{split_at}
use Rattle.kx_laws.proofs.Sequences.{grown_ordered}
use Rattle.kx_system.specs.Processor.{from_offset, owns}
use Rattle.kx_pipeline.specs.Chain.{from_of, has_offset, is_request_of, last_fetch}
use Rattle.kx_pipeline.specs.Chain.{offset_batches, read_by, read_from}
use Rattle.kx_pipeline.proofs.CommitsCame.{batch_for, each_batch_came, its_group, one_offset}
use Rattle.kx_pipeline.proofs.CommitsFit.{CommitFitsIn, CommitsFit}
use Rattle.kx_pipeline.proofs.Generations.{accepted_tells, accepts, generation_grows}
use Rattle.kx_pipeline.proofs.Generations.{never_again, one_owner, same_members}
use Rattle.kx_pipeline.proofs.LastFetches.{find_one}
use Rattle.kx_pipeline.proofs.LinkedLogs.{AreLinkedIn}

------ what became of a commit

-- the batch is of the pair that the commit holds
abbrev pub IsOf : TxnOffsetCommit → Sequenced → Type 0
IsOf it batch = (batch.id ≡ it.held.id) × (batch.epoch ≡ it.held.epoch)

-- a commit stands in a log, or its group doesn't take it there, for good
pub data Settled (log : List Entry) (it : TxnOffsetCommit) : Type 0 where
  stands : (batch : Sequenced) → Contains log (Data batch) → IsOf it batch → Settled log it
  refused : (before more : List Entry) (named : ℕ) → log ≡ before ++ more
      → it.generation ≡ pos named → named ≤ generation before it.group
      → accepts before it.group it.member (pos named) ≡ false → Settled log it

pub settled_later : (log more : List Entry) (it : TxnOffsetCommit) → Settled log it
    → Settled (log ++ more) it
settled_later log more it (stands batch c is) =
    stands batch (Contains-append_left log more (Data batch) c) is
settled_later log more it (refused before rest named e same low none) =
    refused before (rest ++ more) named
    (ap (λ l. l ++ more) e ∙ append_assoc before rest more) same low none

-- what is taken wasn't settled
unsettled : (it : TxnOffsetCommit) (log more : List Entry) → Settled log it
    → accepts (log ++ more) it.group it.member it.generation ≡ true
    → ((batch : Sequenced) → Contains (log ++ more) (Data batch) → IsOf it batch → ⊥) → ⊥
unsettled it log more (stands batch c is) taken none =
    none batch (Contains-append_left log more (Data batch) c) is
unsettled it log more (refused before rest named e same low not_taken) taken none =
    let whole : log ++ more ≡ before ++ (rest ++ more) =
    ap (λ l. l ++ more) e ∙ append_assoc before rest more in
    never_again before (rest ++ more) it.group it.member named low not_taken
    (ap (λ l. accepts l it.group it.member (pos named)) (sym whole)
    ∙ ap (accepts (log ++ more) it.group it.member) (sym same) ∙ taken)

------ what a commit rests on

-- the log when its client joined, and behind it what the client had read when it fetched the offset
-- of an input partition that it owned then; before the commit it fetched records from that offset
pub record Based (sent : List Message) (log : List Entry) (it : TxnOffsetCommit) : Type 0 where
  pub joined : List Entry
  pub since : List Entry
  pub behind : List Entry
  pub parts : log ≡ (joined ++ since) ++ behind
  pub named : it.generation ≡ pos (generation joined it.group)
  pub input : ℕ
  pub next : ℤ
  pub one : it.offsets ≡ record { partition = input; offset = next } ∷ []
  pub owned : owns (place_of joined it.group it.caller.client)
      (length (members joined it.group)) input ≡ true
  pub none_pending : is_pending (joined ++ since) it.group input ≡ false
  pub from_is : from_of (last_fetch sent it.caller.client it.caller.correlation)
      ≡ pos (from_offset (marked_offset (joined ++ since) it.group input))
  pub grows : pos (from_offset (marked_offset (joined ++ since) it.group input)) <ℤ next
  -- the client's commits before it were settled
  pub earlier : (n : TxnOffsetCommit) → Contains sent (msg.TxnOffsetCommit n)
      → n.caller.client ≡ it.caller.client → n.caller.correlation < it.caller.correlation
      → Settled (joined ++ since) n
  pub unread : (batch : Sequenced) → Contains (joined ++ since) (Data batch) → IsOf it batch → ⊥

-- each commit of a group rests on that, and no other commit holds its pair
pub record AreBased (sent : List Message) (log : List Entry) (group : List ℕ) : Type 0 where
  pub based : (it : TxnOffsetCommit) → Contains sent (msg.TxnOffsetCommit it) → it.group ≡ group
      → Based sent log it
  pub alone : (it n : TxnOffsetCommit) → Contains sent (msg.TxnOffsetCommit it)
      → Contains sent (msg.TxnOffsetCommit n) → it.group ≡ group → n.held ≡ it.held → n ≡ it

------ lists

-- two fronts of one list
data Fronts {A : Type 0} (a x b y : List A) : Type 0 where
  shorter : (more : List A) → b ≡ a ++ more → Fronts a x b y
  longer : (first : A) (more rest : List A) → a ≡ b ++ first ∷ more → y ≡ first ∷ rest
      → Fronts a x b y

fronts : {A : Type 0} (a x b y : List A) → a ++ x ≡ b ++ y → Fronts a x b y
fronts [] x b y e = shorter b refl
fronts (f ∷ a) x [] y e = longer f a (a ++ x) refl (sym e)
fronts (f ∷ a) x (g ∷ b) y e = by (fronts a x b y cc) cc
  where
    by : Fronts a x b y → f ≡ g → Fronts (f ∷ a) x (g ∷ b) y
    by (shorter more is) same =
        shorter more (ap (λ l. g ∷ l) is ∙ ap (λ h. h ∷ a ++ more) (sym same))
    by (longer first more rest is head) same =
        longer first more rest (ap (λ l. f ∷ l) is ∙ ap (λ h. h ∷ b ++ first ∷ more) same) head

-- what stands behind a front of the front
behind_front : {A : Type 0} (list front first more y : List A) (x : A) → list ≡ front ++ x ∷ y
    → front ≡ first ++ more → list ≡ first ++ (more ++ x ∷ y)
behind_front list front first more y x e f =
    e ∙ ap (λ l. l ++ x ∷ y) f ∙ append_assoc first more (x ∷ y)

counted : {A : Type 0} (test : A → Bool) (front back : List A) (x : A) → test x ≡ true
    → 1 ≤ count_by test (front ++ x ∷ back)
counted test front back x e =
    omega (
      arith,
      sum_by-append (λ y. cond (test y) 1 0) front (x ∷ back),
      sum_by-cons (λ y. cond (test y) 1 0) x back,
      ap {B = ℕ} (λ b. cond b 1 0) e,
    )

counted_twice : {A : Type 0} (test : A → Bool) (front middle back : List A) (x y : A)
    → test x ≡ true → test y ≡ true
    → 2 ≤ count_by test ((front ++ x ∷ middle) ++ y ∷ back)
counted_twice test front middle back x y e f =
    omega (
      arith,
      sum_by-append (λ z. cond (test z) 1 0) (front ++ x ∷ middle) (y ∷ back),
      sum_by-cons (λ z. cond (test z) 1 0) y back,
      counted test front middle x e,
      ap {B = ℕ} (λ b. cond b 1 0) f,
    )

-- none of the entries is a batch with such an offset
no_offset_batches : (group : List ℕ) (q : ℕ) (log : List Entry)
    → ((batch : Sequenced) → Contains log (Data batch) → has_offset group q batch ≡ true → ⊥)
    → offset_batches group q log ≡ []
no_offset_batches group q [] h = refl
no_offset_batches group q (Plain records ∷ log) h =
    no_offset_batches group q log
    (λ batch c. h batch (contains_tail (Plain records) (Data batch) log c))
no_offset_batches group q (Control marker ∷ log) h =
    no_offset_batches group q log
    (λ batch c. h batch (contains_tail (Control marker) (Data batch) log c))
no_offset_batches group q (Data batch ∷ log) h =
    by (has_offset group q batch) refl (no_offset_batches group q log
    (λ other c. h other (contains_tail (Data batch) (Data other) log c)))
  where
    by : (b : Bool) → has_offset group q batch ≡ b → offset_batches group q log ≡ []
        → offset_batches group q (Data batch ∷ log) ≡ []
    by true e rest = absurd (h batch (contains_head (Data batch) log) e)
    by false e rest = ap (λ b. cond b (batch ∷ []) [] ++ offset_batches group q log) e ∙ rest

-- who owns an input partition, by the members
abbrev owns_among : List ℕ → ℕ → ℕ → Bool
owns_among all client q = owns (unwrap_or (position (λ m. m == client) all) 0) (length all) q

------ in a world

module _ (w : World) (stand : PartitionsStand w) (requests : RequestsStand w)
    (commits : CommitsFit w) where
  abbrev log : List Entry
  log = entries_at w offsets_partition

  abbrev IsSent : TxnOffsetCommit → Type 0
  IsSent it = Contains w.sent (msg.TxnOffsetCommit it)

  -- a client's number is that of one request
  pub one_number : (it n : TxnOffsetCommit) → IsSent it → IsSent n
      → n.caller.client ≡ it.caller.client → n.caller.correlation ≡ it.caller.correlation
      → n.held ≡ it.held
  one_number it n a b client number =
      let (c, at, same) = map_holds (λ (c : Client). c.number) w.clients it.caller.client
      (requests.known (msg.TxnOffsetCommit it) it.caller.client a refl) in
      let k = All-contains (Knows w.sent) w.clients c requests.clients at in
      let one = k.distinct (msg.TxnOffsetCommit n) (msg.TxnOffsetCommit it)
      (b, ap Some (client ∙ sym same)) (a, ap Some (sym same)) number in
      cc

  its_member : (it : TxnOffsetCommit) → IsSent it → it.member ≡ it.caller.client
  its_member it there =
      (All-contains CommitFitsIn w.sent (msg.TxnOffsetCommit it) commits.sent there).2

  -- the commit by which a batch stands is of its pair
  pub came_of : (it : TxnOffsetCommit) (first : ℕ) (batch : Sequenced) → batch ≡ batch_for it first
      → IsOf it batch
  came_of it first batch e = (ap (λ (b : Sequenced). b.id) e, ap (λ (b : Sequenced). b.epoch) e)

  pos_is : (a b : ℕ) → pos a ≡ pos b → a ≡ b
  pos_is a b e = cc

  module _ (group : List ℕ) (h : AreBased w.sent log group) where
    -- no other batch of a commit's pair stands before it
    once_only : (it : TxnOffsetCommit) (first : ℕ) (before behind : List Entry) → IsSent it
        → it.group ≡ group → it.first_sequence ≡ pos first
        → log ≡ before ++ Data (batch_for it first) ∷ behind → (batch : Sequenced)
        → Contains before (Data batch) → IsOf it batch → ⊥
    once_only it first before behind there g sequence parts batch c is =
        let s = split_at before (Data batch) c in
        let whole : log ≡ s.before ++ Data batch ∷ (s.after ++ Data (batch_for it first) ∷ behind) =
        parts ∙ ap (λ l. l ++ Data (batch_for it first) ∷ behind) s.parts
        ∙ append_assoc s.before (Data batch ∷ s.after) (Data (batch_for it first) ∷ behind) in
        let came = each_batch_came w stand requests commits s.before _ batch whole in
        let n = came.commit in
        let pair = came_of n came.first batch came.is in
        let id : n.held.id ≡ it.held.id = sym pair.0 ∙ is.0 in
        let epoch : n.held.epoch ≡ it.held.epoch = sym pair.1 ∙ is.1 in
        let same : n ≡ it = h.alone it n there came.handed g
        (λ i. record { id = id i; epoch = epoch i }) in
        let firsts : came.first ≡ first = pos_is came.first first
        (sym came.sequence ∙ ap (λ (x : TxnOffsetCommit). x.first_sequence) same ∙ sequence) in
        let own = batch_for it first in
        let b_is : batch ≡ own =
        came.is ∙ ap (λ x. batch_for x came.first) same ∙ ap (batch_for it) firsts in
        let itself : is_stored_as own (Data own) ≡ true = stored_as own own refl refl refl in
        let other : is_stored_as own (Data batch) ≡ true =
        ap (λ b. is_stored_as own (Data b)) b_is ∙ itself in
        let grown = grown_at w offsets_partition stand.holds (markers_fit w stand.coordinator) in
        let once = (grown_ordered (log_at w offsets_partition) grown).once own in
        let two = counted_twice (is_stored_as own) s.before s.after behind (Data batch) (Data own)
        other itself in
        let all : log ≡ (s.before ++ Data batch ∷ s.after) ++ Data own ∷ behind =
        parts ∙ ap (λ l. l ++ Data own ∷ behind) s.parts in
        let count = ap (count_by (is_stored_as own)) all in
        omega (arith, once, two, count)

    -- what a commit had read stands before its batch
    read_before : (it : TxnOffsetCommit) (b : Based w.sent log it) (before behind : List Entry)
        (batch : Sequenced) → log ≡ before ++ Data batch ∷ behind → IsOf it batch
        → (more : List Entry) × (before ≡ (b.joined ++ b.since) ++ more)
    read_before it b before behind batch parts is =
        by (fronts (b.joined ++ b.since) b.behind before (Data batch ∷ behind)
        (sym b.parts ∙ parts))
      where
        by : Fronts (b.joined ++ b.since) b.behind before (Data batch ∷ behind)
            → (more : List Entry) × (before ≡ (b.joined ++ b.since) ++ more)
        by (shorter more e) = (more, e)
        by (longer first more rest e head) =
            let same : first ≡ Data batch = cc in
            absurd (b.unread batch (subst (λ l. Contains l (Data batch))
            (ap (λ x. before ++ x ∷ more) (sym same) ∙ sym e)
            (in_the_middle before more (Data batch))) is)

    ------ nothing comes between

    -- two logs of one generation, one of which is a front of the other, have the same members
    same_in_fronts : (a x b y : List Entry) → a ++ x ≡ b ++ y
        → generation a group ≡ generation b group → members a group ≡ members b group
    same_in_fronts a x b y e same = by (fronts a x b y e)
      where
        by : Fronts a x b y → members a group ≡ members b group
        by (shorter more is) =
            let longer_is = ap (λ l. generation l group) is in
            sym (same_members a more group (sym longer_is ∙ sym same))
            ∙ ap (λ l. members l group) (sym is)
        by (longer first more rest is head) =
            let longer_is = ap (λ l. generation l group) is in
            ap (λ l. members l group) is
            ∙ same_members b (first ∷ more) group (sym longer_is ∙ same)

    -- a commit of the group that was taken at a log
    record Taken (before : List Entry) (it : TxnOffsetCommit) : Type 0 where
      there : IsSent it
      of_group : it.group ≡ group
      base : Based w.sent log it
      member : is_member before group it.caller.client ≡ true
      generation_is : generation before group ≡ generation base.joined group
      accepted : accepts before it.group it.member it.generation ≡ true

    taken_at : (before : List Entry) (it : TxnOffsetCommit) → IsSent it → it.group ≡ group
        → accepts before it.group it.member it.generation ≡ true → Taken before it
    taken_at before it there g accepted =
        let b = h.based it there g in
        let t = accepted_tells before it.group it.member (generation b.joined it.group)
        (ap (accepts before it.group it.member) (sym b.named) ∙ accepted) in
        record {
          there = there;
          of_group = g;
          base = b;
          member = ap (λ m. is_member before group m) (sym (its_member it there))
              ∙ ap (λ l. is_member before l it.member) (sym g) ∙ t.0;
          generation_is = ap (generation before) (sym g) ∙ t.1 ∙ ap (generation b.joined) g;
          accepted = accepted;
        }

    -- who takes an input partition at a log owns it by the members there
    owns_there : (before behind : List Entry) (it : TxnOffsetCommit) (t : Taken before it)
        → log ≡ before ++ behind → (members t.base.joined group ≡ members before group)
        × (owns_among (members before group) it.caller.client t.base.input ≡ true)
    owns_there before behind it t parts =
        let b = t.base in
        let whole : b.joined ++ (b.since ++ b.behind) ≡ before ++ behind =
        sym (append_assoc b.joined b.since b.behind) ∙ sym b.parts ∙ parts in
        let same = same_in_fronts b.joined (b.since ++ b.behind) before behind whole
        (sym t.generation_is) in (
          same,
          ap (λ l. owns_among l it.caller.client b.input) (sym same)
              ∙ ap (λ g. owns_among (members b.joined g) it.caller.client b.input)
              (sym t.of_group)
              ∙ b.owned,
        )

    -- between two logs of one generation everything is of that generation
    generation_between : (a b c : List Entry)
        → generation ((a ++ b) ++ c) group ≡ generation a group
        → generation (a ++ b) group ≡ generation a group
    generation_between a b c e =
        omega (arith, e, generation_grows a b group, generation_grows (a ++ b) c group)

    module _ (it : TxnOffsetCommit) (first : ℕ) (before behind more : List Entry)
        (t : Taken before it) (sequence : it.first_sequence ≡ pos first)
        (parts : log ≡ before ++ Data (batch_for it first) ∷ behind)
        (front : before ≡ (t.base.joined ++ t.base.since) ++ more) where
      abbrev read : List Entry
      read = t.base.joined ++ t.base.since

      none_of_pair : (batch : Sequenced) → Contains before (Data batch) → IsOf it batch → ⊥
      none_of_pair batch c is =
          once_only it first before behind t.there t.of_group sequence parts batch c is

      -- a batch with such an offset that came between is of the client itself, and of no commit of
      -- it
      none_here : (x y : List Entry) (batch : Sequenced) → more ≡ x ++ Data batch ∷ y
          → has_offset group t.base.input batch ≡ true → ⊥
      none_here x y batch split has =
          let earlier = read ++ x in
          let rest = y ++ Data (batch_for it first) ∷ behind in
          let before_is : before ≡ earlier ++ Data batch ∷ y =
          front ∙ ap (λ l. read ++ l) split ∙ sym (append_assoc read x (Data batch ∷ y)) in
          let whole : log ≡ earlier ++ Data batch ∷ rest =
          parts ∙ ap (λ l. l ++ Data (batch_for it first) ∷ behind) before_is
          ∙ append_assoc earlier (Data batch ∷ y) (Data (batch_for it first) ∷ behind) in
          let came = each_batch_came w stand requests commits earlier rest batch whole in
          let n = came.commit in
          let has_own : has_offset group t.base.input (batch_for n came.first) ≡ true =
          ap (has_offset group t.base.input) (sym came.is) ∙ has in
          let g = its_group n came.first group t.base.input came.fits has_own in
          let u = taken_at earlier n came.handed g came.accepted in
          let input = (one_offset n came.first group t.base.input u.base.input u.base.next came.fits
          u.base.one has_own).0 in
          let here = owns_there before (Data (batch_for it first) ∷ behind) it t parts in
          let there = owns_there earlier (Data batch ∷ rest) n u whole in
          let through : before ≡ ((t.base.joined ++ (t.base.since ++ x)) ++ Data batch ∷ y) =
          before_is ∙ ap (λ l. l ++ Data batch ∷ y) (append_assoc t.base.joined t.base.since x) in
          let one : generation (t.base.joined ++ (t.base.since ++ x)) group
          ≡ generation t.base.joined group =
          generation_between t.base.joined (t.base.since ++ x) (Data batch ∷ y)
          (ap (λ l. generation l group) (sym through) ∙ t.generation_is) in
          let of_earlier : generation earlier group ≡ generation before group =
          ap (λ l. generation l group) (append_assoc t.base.joined t.base.since x) ∙ one
          ∙ sym t.generation_is in
          let same : members before group ≡ members earlier group =
          same_in_fronts before (Data (batch_for it first) ∷ behind) earlier (Data batch ∷ rest)
          (sym parts ∙ whole) (sym of_earlier) in
          let member : is_member earlier group it.caller.client ≡ true =
          ap (λ (l : List ℕ). list_any (λ m. m == it.caller.client) l) (sym same) ∙ t.member in
          let own : owns_among (members earlier group) it.caller.client t.base.input ≡ true =
          ap (λ l. owns_among l it.caller.client t.base.input) (sym same) ∙ here.1 in
          let other : owns_among (members earlier group) n.caller.client t.base.input ≡ true =
          ap (owns_among (members earlier group) n.caller.client) (sym input) ∙ there.1 in
          let client : it.caller.client ≡ n.caller.client =
          one_owner earlier group it.caller.client n.caller.client t.base.input member u.member own
          other in
          let pair = came_of n came.first batch came.is in
          let stands_before : Contains before (Data batch) =
          subst (λ l. Contains l (Data batch)) (sym before_is)
          (in_the_middle earlier y (Data batch)) in
          let n_once = λ (b : Sequenced) (c : Contains earlier (Data b)) (is : IsOf n b).
          once_only n came.first earlier rest came.handed g came.sequence
          (whole ∙ ap (λ b. earlier ++ Data b ∷ rest) came.is) b c is in
          let sooner = λ (lt : n.caller.correlation < it.caller.correlation).
          unsettled n read x (t.base.earlier n came.handed (sym client) lt) u.accepted n_once in
          let m = read_before n u.base earlier rest batch whole pair in
          let later_is : before ≡ (u.base.joined ++ u.base.since) ++ (m.0 ++ Data batch ∷ y) =
          behind_front before earlier (u.base.joined ++ u.base.since) m.0 y (Data batch)
          before_is m.1 in
          let later = λ (lt : it.caller.correlation < n.caller.correlation).
          unsettled it (u.base.joined ++ u.base.since) (m.0 ++ Data batch ∷ y)
          (u.base.earlier it t.there client lt)
          (ap (λ l. accepts l it.group it.member it.generation) (sym later_is) ∙ t.accepted)
          (λ b c is. none_of_pair b (subst (λ l. Contains l (Data b)) (sym later_is) c) is) in
          ⊎_elim sooner
          (λ le. ⊎_elim later
          (λ ge. let equal : n.caller.correlation ≡ it.caller.correlation = omega (arith, le, ge) in
          let held = one_number it n t.there came.handed (sym client) equal in
          none_of_pair batch stands_before
          (pair.0 ∙ ap (λ (p : Held). p.id) held, pair.1 ∙ ap (λ (p : Held). p.epoch) held))
          (cases_lt it.caller.correlation n.caller.correlation))
          (cases_lt n.caller.correlation it.caller.correlation)

      none_between : offset_batches group t.base.input more ≡ []
      none_between =
          no_offset_batches group t.base.input more (λ batch c has.
          let s = split_at more (Data batch) c in
          none_here s.before s.after batch s.parts has)

    ------ the link

    -- the request of the batch is its commit
    pub request_found : (it : TxnOffsetCommit) (batch : Sequenced) → IsSent it → it.group ≡ group
        → IsOf it batch → find (is_request_of group batch) w.sent ≡ Some (msg.TxnOffsetCommit it)
    request_found it batch there g is =
        find_one (is_request_of group batch) w.sent (msg.TxnOffsetCommit it) there
        (and_from (it.held.id == batch.id && it.held.epoch == batch.epoch) (bytes_eq it.group group)
        (and_from (it.held.id == batch.id) (it.held.epoch == batch.epoch)
        (grind (arith, nat_tests, is.0)) (grind (arith, nat_tests, is.1)))
        ((bytes_eq-Decides it.group group).1 g))
        (λ m c e. by m c e)
      where
        by : (m : Message) → Contains w.sent m → is_request_of group batch m ≡ true
            → m ≡ msg.TxnOffsetCommit it
        by (msg.TxnOffsetCommit n) c e =
            let p = and_parts (n.held.id == batch.id && n.held.epoch == batch.epoch)
            (bytes_eq n.group group) e in
            let q = and_parts (n.held.id == batch.id) (n.held.epoch == batch.epoch) p.0 in
            let id : n.held.id ≡ it.held.id = grind (arith, nat_tests, q.0, is.0) in
            let epoch : n.held.epoch ≡ it.held.epoch = grind (arith, nat_tests, q.1, is.1) in
            ap msg.TxnOffsetCommit (h.alone it n there c g
            (λ i. record { id = id i; epoch = epoch i }))
        by m c e = absurd cc

    -- each batch with an offset of the group and an input partition rests on a link
    pub linked : (q : ℕ) → AreLinkedIn (read_from w.sent group) log group q
    linked q before behind batch parts has =
        let c = each_batch_came w stand requests commits before behind batch parts in
        let it = c.commit in
        let has_own : has_offset group q (batch_for it c.first) ≡ true =
        ap (has_offset group q) (sym c.is) ∙ has in
        let g = its_group it c.first group q c.fits has_own in
        let t = taken_at before it c.handed g c.accepted in
        let b = t.base in
        let o = one_offset it c.first group q b.input b.next c.fits b.one has_own in
        let pair = came_of it c.first batch c.is in
        let own_parts : log ≡ before ++ Data (batch_for it c.first) ∷ behind =
        parts ∙ ap (λ x. before ++ Data x ∷ behind) c.is in
        let m = read_before it b before behind batch parts pair in
        let read = b.joined ++ b.since in
        let offset_is : from_offset (marked_offset read it.group b.input)
        ≡ from_offset (marked_offset read group q) =
        ap (λ x. from_offset (marked_offset read x b.input)) g
        ∙ ap (λ x. from_offset (marked_offset read group x)) o.0 in
        let from : read_from w.sent group batch ≡ pos (from_offset (marked_offset read group q)) =
        ap (read_by w.sent) (request_found it batch c.handed g pair) ∙ b.from_is
        ∙ ap pos offset_is in
        record {
          read = read;
          between = m.0;
          parts = m.1;
          none_pending = ap (λ x. is_pending read x q) (sym g)
              ∙ ap (λ x. is_pending read it.group x) (sym o.0) ∙ b.none_pending;
          none_between = ap (λ x. offset_batches group x m.0) (sym o.0)
              ∙ none_between it c.first before behind m.0 t c.sequence own_parts m.1;
          from_is = from;
          offset = b.next;
          only = ap (offsets_in group q) c.is ∙ o.1;
          grows = subst (λ x. x <ℤ b.next) (ap pos offset_is ∙ sym from) b.grows;
          transactional = ap (λ (x : Sequenced). x.transactional) c.is;
        }
