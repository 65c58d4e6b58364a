-- What an audit finds of what a server left.
use Rattle.std.proofs.Common.{◌≡◌, ◌≢◌, ◌∙◌, ◌⊎◌, ◌++◌, ◌∷◌, [], ℕ, Bool, IfSome, IsTrue, List, None}
use Rattle.std.proofs.Common.{Option, Some, ap, arith, false, inl, inr, length, map, refl, subst, sym}
use Rattle.std.proofs.Common.{◌+◌, ⊎_elim, length-append, zero, suc}
use Rattle.std.specs.Prelude.{slice_get, slice_set}
use Rattle.std.specs.Io.KnownBytes.{Consumes}
use Rattle.std.proofs.lemmas.List.{length-map}
use Rattle.std.proofs.lemmas.List.Elements.{All-nil, All-push}
use Rattle.std.proofs.lemmas.Option.{same_Some, slice_get_within}
use Rattle.kx_audit.proofs.Places.{from_map, get_more, to_map}
use Rattle.kx_follow.proofs.Lists.{get_push, map_set, set_here, set_there}
use Rattle.kx_server_audit.specs.Contents as contents
use Rattle.kx_server_audit.specs.Contents.{Absent, CanBeLog, CanBegin, CanLack, Contents, IsOpened}
use Rattle.kx_server_audit.specs.Contents.{Left, Unknown}
use Rattle.kx_server_audit.specs.Denials as denials
use Rattle.kx_server_audit.specs.Denials.{Damaged, IsNoAtOnce}
use Rattle.kx_server_audit.specs.Finding.{AreAllLeft, AreSeen, AreTraces, HasTrace, IsFound}
use Rattle.kx_server_audit.specs.Finding.{IsSeen, Traced, Untraced, all_nodes}
use Rattle.kx_server_audit.specs.Internal.{AreBad, Found, FindsTrace, HasBadLog, NoTrace}
use Rattle.kx_server_audit.specs.Internal.{IsOtherHead, NotFound, NotedAt, Notes, head_in}
use Rattle.kx_server_audit.specs.Logs.{HasWhole}
use Rattle.kx_server_audit.specs.Reads.{Origin, head_of, origins_of}
use Rattle.kx_server_audit.specs.declared.denial.Denial.{Denial}
use Rattle.kx_server_audit.specs.declared.file.AuditFile.TheVariants as file
use Rattle.kx_server_audit.specs.declared.sources.Source.{Source}
use Rattle.kx_server_audit.proofs.Reading.{origins_are}
use Rattle.kx_trace.specs.declared.node.TracedNode.{TracedNode}
use Rattle.kx_trace_audit.specs.declared.servers.TraceOf.{TraceOf}
use Rattle.kx_trace_files.specs.Beginning.{begun_text}
use Rattle.kx_trace_files.specs.declared.reading.OpenedOn.{OpenedOn}

------ a file that is opened

module _ {I : Type 0} (remaining : I → Option (List ℕ)) where
  -- what the reader gives first is what the file begins with
  pub can_begin : (c : Contents) (reader : I) (rest : Option (List ℕ)) (front : List ℕ)
      → IsOpened remaining c (Some reader) → Consumes (remaining reader) rest front
      → CanBegin c front rest
  can_begin Unknown reader rest front opened consumed = tt
  can_begin Absent reader rest front opened consumed = absurd cc
  can_begin (contents.Bytes bytes) reader rest front opened consumed =
      subst (λ (o : Option (List ℕ)). Consumes o rest front) opened consumed

  pub can_lack : (c : Contents) → IsOpened remaining c None → CanLack c
  can_lack Unknown opened = tt
  can_lack Absent opened = tt
  can_lack (contents.Bytes bytes) opened = absurd opened

  -- all that it gives is the log
  pub can_be_log : (c : Contents) (reader : I) (bytes : List ℕ)
      → IsOpened remaining c (Some reader) → IfSome (remaining reader) (λ all. bytes ≡ all)
      → CanBeLog c bytes
  can_be_log Unknown reader bytes opened are = tt
  can_be_log Absent reader bytes opened are = absurd cc
  can_be_log (contents.Bytes known) reader bytes opened are =
      sym (subst (λ (o : Option (List ℕ)). IfSome o (λ all. bytes ≡ all)) opened are)

  pub no_log : (c : Contents) (bytes : List ℕ) → bytes ≡ [] → IsOpened remaining c None
      → CanBeLog c bytes
  no_log Unknown bytes none opened = tt
  no_log Absent bytes none opened = none
  no_log (contents.Bytes known) bytes none opened = absurd opened

  -- the head names another node
  pub other_node : (left : Left) (node : TracedNode) (reader : I) (d : Denial)
      → IsOpened remaining (left (file.Trace node)) (Some reader)
      → IsOtherHead remaining node reader d → IsNoAtOnce left false d
  other_node left node reader d opened is = subst (IsNoAtOnce left false) (sym is.denial_is) (record {
    other = is.other;
    opened = is.opened;
    rest = is.rest;
    file_is = can_begin (left (file.Trace node)) reader is.rest (begun_text is.other is.opened) opened
        is.consumed;
    is_other = is.is_other;
  })

------ traces that are found

get_first : {A : Type 0} (xs ys : List A) (k : ℕ) (x : A) → slice_get xs k ≡ Some x
    → slice_get (xs ++ ys) k ≡ Some x
get_first [] ys k x e = absurd cc
get_first (z ∷ xs) ys zero x e = e
get_first (z ∷ xs) ys (suc k) x e = get_first xs ys k x e

get_last : {A : Type 0} (xs : List A) (y : A) → slice_get (xs ++ y ∷ []) (length xs) ≡ Some y
get_last [] y = refl
get_last (x ∷ xs) y = get_last xs y

has_more : (of : List TraceOf) (t : TraceOf) (node : TracedNode) → HasTrace of node
    → HasTrace (of ++ t ∷ []) node
has_more of t node has = record {
  number = has.number;
  trace = has.trace;
  there = get_first of (t ∷ []) has.number has.trace has.there;
  node_is = has.node_is;
}

module _ {I : Type 0} (remaining : I → Option (List ℕ)) (left : Left) where
  pub none_found : AreTraces remaining left [] [] []
  none_found = record {
    begun = record { count = refl; unread = All-nil (λ (s : Source I). s.is_ended ≡ false) };
    each = λ j node at. absurd cc;
    heads = λ k t s at. absurd cc;
  }

  -- one more node was looked for
  pub one_found : (nodes : List TracedNode) (node : TracedNode) (of : List TraceOf)
      (sources : List (Source I)) (new_of : List TraceOf) (new_sources : List (Source I))
      → AreTraces remaining left nodes of sources
      → FindsTrace remaining left node of sources new_of new_sources
      → AreTraces remaining left (nodes ++ node ∷ []) new_of new_sources
  one_found nodes node of sources new_of new_sources are (Found t reader is begins more) =
      subst (λ (ts : List TraceOf). AreTraces remaining left (nodes ++ node ∷ []) ts new_sources)
      (sym more.of_are)
      (subst (λ (ss : List (Source I)). AreTraces remaining left (nodes ++ node ∷ [])
      (of ++ t ∷ []) ss) (sym more.sources_are) (record {
        begun = record {
          count = length-append of (t ∷ []) ∙ ap (λ n. n + 1) are.begun.count
              ∙ sym (length-append sources (more.source ∷ []));
          unread = All-push (λ (s : Source I). s.is_ended ≡ false) sources more.source
              are.begun.unread more.unread;
        };
        each = λ j x at.
            ⊎_elim
            (λ (before : slice_get nodes j ≡ Some x).
            ⊎_elim (λ (has : HasTrace of x). inl (has_more of t x has)) (λ lack. inr lack)
            (are.each j x before))
            (λ (now : node ≡ x). inl (record {
              number = length of;
              trace = t;
              there = get_last of t;
              node_is = is ∙ now;
            }))
            (get_more nodes node j x at);
        heads = λ k u s at also.
            ⊎_elim
            (λ (a : slice_get of k ≡ Some u).
            ⊎_elim
            (λ (b : slice_get sources k ≡ Some s). are.heads k u s a b)
            (λ (b : (k ≡ length sources) × (more.source ≡ s)).
            let within = slice_get_within of k u a in
            let count = are.begun.count in
            let last = b.0 in
            absurd (omega (arith, within, count, last)))
            (get_push sources more.source k s also))
            (λ (a : (k ≡ length of) × (t ≡ u)).
            ⊎_elim
            (λ (b : slice_get sources k ≡ Some s).
            let within = slice_get_within sources k s b in
            let count = are.begun.count in
            let last = a.0 in
            absurd (omega (arith, within, count, last)))
            (λ (b : (k ≡ length sources) × (more.source ≡ s)).
            let reads : reader ≡ s.reader = sym more.reader_is
            ∙ ap (λ (y : Source I). y.reader) b.1 in
            subst (λ (x : TraceOf). CanBegin (left (file.Trace x.node))
            (begun_text x.node x.opened) (remaining s.reader)) a.1
            (subst (λ (i : I). CanBegin (left (file.Trace t.node)) (begun_text t.node t.opened)
            (remaining i)) reads
            (subst (λ (n : TracedNode). CanBegin (left (file.Trace n))
            (begun_text t.node t.opened) (remaining reader)) (sym is) begins)))
            (get_push sources more.source k s also))
            (get_push of t k u at);
      }))
  one_found nodes node of sources new_of new_sources are (NotFound lacks of_are sources_are) =
      subst (λ (ts : List TraceOf). AreTraces remaining left (nodes ++ node ∷ []) ts new_sources)
      (sym of_are)
      (subst (λ (ss : List (Source I)). AreTraces remaining left (nodes ++ node ∷ []) of ss)
      (sym sources_are) (record {
        begun = are.begun;
        each = λ j x at.
            ⊎_elim
            (λ (before : slice_get nodes j ≡ Some x). are.each j x before)
            (λ (now : node ≡ x).
            inr (subst (λ (n : TracedNode). CanLack (left (file.Trace n))) now lacks))
            (get_more nodes node j x at);
        heads = are.heads;
      }))

------ lengths that are noted

-- traces of the same heads are of the same nodes
same_trace : (of new : List TraceOf) (node : TracedNode) → map head_in new ≡ map head_in of
    → HasTrace new node → HasTrace of node
same_trace of new node same has =
    let found = from_map head_in of has.number (head_in has.trace)
    (ap (λ (l : List _). slice_get l has.number) (sym same)
    ∙ to_map head_in new has.number has.trace has.there) in
    record {
      number = has.number;
      trace = found.0;
      there = found.1;
      node_is = ap (λ (h : TracedNode × Option OpenedOn). h.0) found.2 ∙ has.node_is;
    }

-- a length that is noted changes no head
pub heads_stay : (node : TracedNode) (bytes : List ℕ) (old new : List TraceOf)
    → Notes node bytes old new → map head_in new ≡ map head_in old
heads_stay node bytes old new (NotedAt k t len there is whole new_is) =
    ap (λ (ts : List TraceOf). map head_in ts) new_is
    ∙ map_set head_in old k t (record t { log_len = Some len }) there refl
heads_stay node bytes old new (NoTrace none empty new_is) =
    ap (λ (ts : List TraceOf). map head_in ts) new_is

module _ (left : Left) (node : TracedNode) (bytes : List ℕ)
    (are : CanBeLog (left (file.Log node)) bytes) (old : List TraceOf) where
  -- the log of this node is seen
  now_seen : (new : List TraceOf) → Notes node bytes old new → IsSeen left new node
  now_seen new (NotedAt k t len there is whole new_is) =
      subst (λ (ts : List TraceOf). IsSeen left ts node) (sym new_is) (Traced (record {
        number = k;
        trace = record t { log_len = Some len };
        there = set_here old k (record t { log_len = Some len }) t there;
        node_is = is;
      }) (record {
        len = len;
        len_is = refl;
        bytes = bytes;
        bytes_are = subst (λ (n : TracedNode). CanBeLog (left (file.Log n)) bytes) (sym is) are;
        whole = subst (λ (n : TracedNode). HasWhole n bytes (Some len)) (sym is) whole;
      }))
  now_seen new (NoTrace none empty new_is) =
      subst (λ (ts : List TraceOf). IsSeen left ts node) (sym new_is) (Untraced none
      (subst (λ (b : List ℕ). CanBeLog (left (file.Log node)) b) empty are))

  -- those that were seen still are
  still_seen : (new : List TraceOf) → Notes node bytes old new → (x : TracedNode)
      → IsSeen left old x → IsSeen left new x
  still_seen new (NotedAt k t len there is whole new_is) x (Traced has noted) =
      let now = record t { log_len = Some len } in
      subst (λ (ts : List TraceOf). IsSeen left ts x) (sym new_is)
      (⊎_elim
      (λ (a : (has.number ≡ k) × (slice_get (slice_set old k now) has.number ≡ Some now)).
      let same : has.trace ≡ t = same_Some has.trace t
      (sym has.there ∙ ap (λ (i : ℕ). slice_get old i) a.0 ∙ there) in
      let node_is : node ≡ x = sym is ∙ ap (λ (u : TraceOf). u.node) (sym same) ∙ has.node_is in
      subst (λ (n : TracedNode). IsSeen left (slice_set old k now) n) node_is
      (now_seen (slice_set old k now) (NotedAt k t len there is whole refl)))
      (λ (a : slice_get (slice_set old k now) has.number ≡ Some has.trace).
      Traced (record {
        number = has.number;
        trace = has.trace;
        there = a;
        node_is = has.node_is;
      }) noted)
      (set_there old k now has.number has.trace has.there))
  still_seen new notes x (Untraced none empty) =
      Untraced (λ has. none (same_trace old new x (heads_stay node bytes old new notes) has)) empty
  still_seen new (NoTrace none empty new_is) x (Traced has noted) =
      subst (λ (ts : List TraceOf). IsSeen left ts x) (sym new_is) (Traced has noted)

  -- one more node's log was looked at
  pub seen_next : (nodes : List TracedNode) (new : List TraceOf) → Notes node bytes old new
      → AreSeen left old nodes → AreSeen left new (nodes ++ node ∷ [])
  seen_next nodes new notes seen j x at =
      ⊎_elim
      (λ (before : slice_get nodes j ≡ Some x). still_seen new notes x (seen j x before))
      (λ (now : node ≡ x).
      subst (λ (n : TracedNode). IsSeen left new n) now (now_seen new notes))
      (get_more nodes node j x at)

pub none_seen : (left : Left) (of : List TraceOf) → AreSeen left of []
none_seen left of j node at = absurd cc

-- the traces, whose heads are the same, are all that there are
pub traces_noted : {I : Type 0} (remaining : I → Option (List ℕ)) (left : Left)
    (nodes : List TracedNode) (of new : List TraceOf) (sources : List (Source I))
    → map head_in new ≡ map head_in of → AreTraces remaining left nodes of sources
    → AreTraces remaining left nodes new sources
traces_noted remaining left nodes of new sources same are = record {
  begun = record {
    count = sym (length-map new head_in) ∙ ap (λ (l : List _). length l) same
        ∙ length-map of head_in ∙ are.begun.count;
    unread = are.begun.unread;
  };
  each = λ j node at.
      ⊎_elim (λ (has : HasTrace of node). inl (same_trace new of node (sym same) has))
      (λ lack. inr lack) (are.each j node at);
  heads = λ k t s at also.
      let found = from_map head_in of k (head_in t)
      (ap (λ (l : List _). slice_get l k) (sym same) ∙ to_map head_in new k t at) in
      subst (λ (h : TracedNode × Option OpenedOn). CanBegin (left (file.Trace h.0))
      (begun_text h.0 h.1) (remaining s.reader)) found.2 (are.heads k found.0 s found.1 also);
}

-- a log that is bad beside traces of the same heads
pub bad_before : (of new : List TraceOf) (node : TracedNode) (bytes : List ℕ)
    → map head_in new ≡ map head_in of → AreBad new node bytes → AreBad of node bytes
bad_before of new node bytes same bad =
    ⊎_elim
    (λ (untraced : (HasTrace new node → ⊥) × (bytes ≢ [])).
    inl ((λ has. untraced.0 (same_trace new of node (sym same) has)), untraced.1))
    (λ (damaged : HasWhole node bytes None). inr damaged) bad

-- a bad log is a no before the audit
pub bad_log : {I : Type 0} (remaining : I → Option (List ℕ)) (left : Left)
    (of : List TraceOf) (sources : List (Source I)) (nodes : List TracedNode) (compares : Bool)
    (d : Denial) → IsTrue compares → AreTraces remaining left nodes of sources
    → HasBadLog left nodes of d → IsNoAtOnce left compares d
bad_log remaining left of sources nodes compares d asked are is =
    let node = is.node in
    subst (IsNoAtOnce left compares) (sym is.denial_is) (
      asked,
      ⊎_elim
          (λ (untraced : (HasTrace of node → ⊥) × (is.bytes ≢ [])).
          denials.Untraced is.bytes
          (⊎_elim (λ (has : HasTrace of node). absurd (untraced.0 has)) (λ lack. lack)
          (are.each is.number node is.there))
          is.bytes_are untraced.1)
          (λ (damaged : HasWhole node is.bytes None). Damaged is.bytes is.bytes_are damaged)
          is.bad,
    )

------ all that was left

module _ {I : Type 0} (remaining : I → Option (List ℕ)) where
  -- a trace and its source
  pub record IsFrom (of : List TraceOf) (sources : List (Source I)) (k : ℕ) (o : Origin)
      : Type 0 where
    pub trace : TraceOf
    pub source : Source I
    pub trace_there : slice_get of k ≡ Some trace
    pub source_there : slice_get sources k ≡ Some source
    pub origin_is : o ≡ record { trace = trace; rest = remaining source.reader }

  origin_at : (of : List TraceOf) (sources : List (Source I)) (k : ℕ) (o : Origin)
      → slice_get (origins_of remaining of sources) k ≡ Some o → IsFrom of sources k o
  origin_at [] sources k o at = absurd cc
  origin_at (t ∷ of) [] k o at = absurd cc
  origin_at (t ∷ of) (s ∷ sources) zero o at = record {
    trace = t;
    source = s;
    trace_there = refl;
    source_there = refl;
    origin_is = sym (same_Some (record { trace = t; rest = remaining s.reader }) o at);
  }
  origin_at (t ∷ of) (s ∷ sources) (suc k) o at =
      let found = origin_at of sources k o at in
      record {
        trace = found.trace;
        source = found.source;
        trace_there = found.trace_there;
        source_there = found.source_there;
        origin_is = found.origin_is;
      }

  pub are_all : (left : Left) (compares : Bool) (of : List TraceOf) (sources : List (Source I))
      → IsFound remaining left compares of sources
      → AreAllLeft left compares (origins_of remaining of sources)
  are_all left compares of sources found =
      let same = sym (origins_are remaining of sources found.traces.begun.count) in
      record {
        each = λ j node at.
            subst (λ (ts : List TraceOf). HasTrace ts node ⊎ CanLack (left (file.Trace node))) same
            (found.traces.each j node at);
        files = λ k o at.
            let from = origin_at of sources k o at in
            subst (λ (x : Origin). CanBegin (left (file.Trace x.trace.node)) (head_of x) x.rest)
            (sym from.origin_is)
            (found.traces.heads k from.trace from.source from.trace_there from.source_there);
        logs = λ asked.
            subst (λ (ts : List TraceOf). AreSeen left ts all_nodes) same (found.logs asked);
      }
