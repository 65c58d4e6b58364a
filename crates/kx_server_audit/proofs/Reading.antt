-- What was read of the sources of traces, a piece more at a time.
use Rattle.std.proofs.Common.{◌≡◌, ◌∙◌, ◌++◌, ℕ, zero, suc, List, [], ◌∷◌, Option, ap, append-nil}
use Rattle.std.proofs.Common.{All, Some, append_assoc, arith, false, get_or, length, refl}
use Rattle.std.proofs.Common.{slice_get, slice_set, subst, sym, true}
use Rattle.std.proofs.lemmas.Bool.{false≢true}
use Rattle.std.proofs.lemmas.List.Elements.{All-head, All-tail}
use Rattle.std.specs.Io.KnownBytes.{Consumes}
use Rattle.std.proofs.KnownBytes.{Consumes-all, Consumes-nil, Consumes-trans}
use Rattle.kx_server_audit.specs.Reads.{AreAllOf, ArePartsOf, AreReadOf, IsAllAt, IsAllOf, IsEnded}
use Rattle.kx_server_audit.specs.Reads.{IsOfNode, IsReadOf, Origin, head_of, origins_of, traces_of}
use Rattle.kx_server_audit.specs.declared.sources.Source.{Source}
use Rattle.kx_trace_audit.specs.Auditing.{fed}
use Rattle.kx_trace_audit.specs.Beginnings.{heads_of}
use Rattle.kx_trace_audit.specs.declared.servers.TraceOf.{TraceOf}
use Rattle.kx_trace_files.specs.Beginning.{begun_text}

pub fed-nil : (texts : List (List ℕ)) (k : ℕ) → fed texts k [] ≡ texts
fed-nil [] k = refl
fed-nil (text ∷ texts) zero = ap (λ (t : List ℕ). t ∷ texts) (append-nil text)
fed-nil (text ∷ texts) (suc k) = ap (λ (ts : List (List ℕ)). text ∷ ts) (fed-nil texts k)

pub fed-fed : (texts : List (List ℕ)) (k : ℕ) (a b : List ℕ)
    → fed (fed texts k a) k b ≡ fed texts k (a ++ b)
fed-fed [] k a b = refl
fed-fed (text ∷ texts) zero a b = ap (λ (t : List ℕ). t ∷ texts) (append_assoc text a b)
fed-fed (text ∷ texts) (suc k) a b =
    ap (λ (ts : List (List ℕ)). text ∷ ts) (fed-fed texts k a b)

module _ {I : Type 0} (remaining : I → Option (List ℕ)) where
  -- more was read of a source
  read_more : (o : Origin) (text : List ℕ) (s t : Source I) (read : List ℕ)
      → Consumes (remaining s.reader) (remaining t.reader) read
      → (IsEnded remaining s → IsEnded remaining t)
      → IsReadOf remaining o text s → IsReadOf remaining o (text ++ read) t
  read_more o text s t read consumed ended r = record {
    read = r.read ++ read;
    text_is = ap (λ (x : List ℕ). x ++ read) r.text_is ∙ append_assoc (head_of o) r.read read;
    consumed = Consumes-trans o.rest (remaining s.reader) (remaining t.reader) r.read read r.consumed consumed;
    ended = ended r.ended;
  }

  -- a source that is read to its end gave all that it had
  all_read : (o : Origin) (text : List ℕ) (s : Source I) → s.is_ended ≡ true
      → IsReadOf remaining o text s → IsAllOf o text
  all_read o text s e r =
      Consumes-all o.rest (remaining s.reader) r.read (head_of o) text r.consumed (r.ended e) r.text_is

  -- more was read of one of the sources
  pub read_at : (os : List Origin) (ts : List (List ℕ)) (ss : List (Source I)) (k : ℕ) (s t : Source I)
      (read : List ℕ) → s ≡ get_or ss k s → Consumes (remaining s.reader) (remaining t.reader) read
      → (IsEnded remaining s → IsEnded remaining t) → AreReadOf remaining os ts ss
      → AreReadOf remaining os (fed ts k read) (slice_set ss k t)
  read_at [] [] [] k s t read e consumed ended r = r
  read_at [] [] (x ∷ ss) k s t read e consumed ended r = absurd r
  read_at [] (text ∷ ts) ss k s t read e consumed ended r = absurd r
  read_at (o ∷ os) [] ss k s t read e consumed ended r = absurd r
  read_at (o ∷ os) (text ∷ ts) [] k s t read e consumed ended r = absurd r
  read_at (o ∷ os) (text ∷ ts) (x ∷ ss) zero s t read e consumed ended r =
      (read_more o text s t read consumed ended (subst (IsReadOf remaining o text) (sym e) r.0), r.1)
  read_at (o ∷ os) (text ∷ ts) (x ∷ ss) (suc k) s t read e consumed ended r =
      (r.0, read_at os ts ss k s t read e consumed ended r.1)

  -- sources that are read to their end gave all that they had
  pub all_are_read : (os : List Origin) (ts : List (List ℕ)) (ss : List (Source I))
      → All (λ s. s.is_ended ≡ true) ss → AreReadOf remaining os ts ss → AreAllOf os ts
  all_are_read [] [] [] ended r = tt
  all_are_read [] [] (s ∷ ss) ended r = absurd r
  all_are_read [] (text ∷ ts) ss ended r = absurd r
  all_are_read (o ∷ os) [] ss ended r = absurd r
  all_are_read (o ∷ os) (text ∷ ts) [] ended r = absurd r
  all_are_read (o ∷ os) (text ∷ ts) (s ∷ ss) ended r = (
    all_read o text s (All-head (λ (x : Source I). x.is_ended ≡ true) s ss ended) r.0,
    all_are_read os ts ss (All-tail (λ (x : Source I). x.is_ended ≡ true) s ss ended) r.1,
  )

  pub unread_at : (ss : List (Source I)) (k : ℕ) (s : Source I)
      → All (λ s. s.is_ended ≡ false) ss → slice_get ss k ≡ Some s → s.is_ended ≡ false
  unread_at [] k s unread there = cc
  unread_at (x ∷ ss) zero s unread there =
      let same : x ≡ s = cc in
      subst (λ (y : Source I). y.is_ended ≡ false) same
      (All-head (λ (y : Source I). y.is_ended ≡ false) x ss unread)
  unread_at (x ∷ ss) (suc k) s unread there =
      unread_at ss k s (All-tail (λ (y : Source I). y.is_ended ≡ false) x ss unread) there

  -- nothing was read yet
  pub begun : (traces : List TraceOf) (ss : List (Source I)) → length traces ≡ length ss
      → All (λ s. s.is_ended ≡ false) ss
      → AreReadOf remaining (origins_of remaining traces ss)
      (heads_of traces) ss
  begun [] [] e unread = tt
  begun [] (s ∷ ss) e unread = absurd (omega arith)
  begun (t ∷ traces) [] e unread = absurd (omega arith)
  begun (t ∷ traces) (s ∷ ss) e unread = (
    record {
      read = [];
      text_is = sym (append-nil (begun_text t.node t.opened));
      consumed = Consumes-nil (remaining s.reader);
      ended = λ ended. absurd (false≢true
          (sym (All-head (λ (x : Source I). x.is_ended ≡ false) s ss unread) ∙ ended));
    },
    begun traces ss (omega arith) (All-tail (λ (x : Source I). x.is_ended ≡ false) s ss unread),
  )

  -- there are as many texts and sources
  pub count_read : (os : List Origin) (ts : List (List ℕ)) (ss : List (Source I))
      → AreReadOf remaining os ts ss → (length ts ≡ length os) × (length ss ≡ length os)
  count_read [] [] [] r = (refl, refl)
  count_read [] [] (s ∷ ss) r = absurd r
  count_read [] (text ∷ ts) ss r = absurd r
  count_read (o ∷ os) [] ss r = absurd r
  count_read (o ∷ os) (text ∷ ts) [] r = absurd r
  count_read (o ∷ os) (text ∷ ts) (s ∷ ss) r =
      let c = count_read os ts ss r.1 in
      (omega (arith, c.0), omega (arith, c.1))

  -- what was read is a part of what there was
  pub are_parts : (os : List Origin) (ts : List (List ℕ)) (ss : List (Source I))
      → AreReadOf remaining os ts ss → ArePartsOf os ts
  are_parts [] [] [] r = tt
  are_parts [] [] (s ∷ ss) r = absurd r
  are_parts [] (text ∷ ts) ss r = absurd r
  are_parts (o ∷ os) [] ss r = absurd r
  are_parts (o ∷ os) (text ∷ ts) [] r = absurd r
  are_parts (o ∷ os) (text ∷ ts) (s ∷ ss) r = (
    record {
      read = r.0.read;
      left = remaining s.reader;
      text_is = r.0.text_is;
      consumed = r.0.consumed;
    },
    are_parts os ts ss r.1,
  )

  -- a source that is read to its end gave all that it had
  pub all_at : (os : List Origin) (ts : List (List ℕ)) (ss : List (Source I)) (k : ℕ) (s : Source I)
      → slice_get ss k ≡ Some s → s.is_ended ≡ true → AreReadOf remaining os ts ss
      → IsAllAt os ts k
  all_at [] [] [] k s there ended r = cc
  all_at [] [] (x ∷ ss) k s there ended r = absurd r
  all_at [] (text ∷ ts) ss k s there ended r = absurd r
  all_at (o ∷ os) [] ss k s there ended r = absurd r
  all_at (o ∷ os) (text ∷ ts) [] k s there ended r = absurd r
  all_at (o ∷ os) (text ∷ ts) (x ∷ ss) zero s there ended r =
      let same : x ≡ s = cc in
      record {
        origin = o;
        text = text;
        origin_there = refl;
        text_there = refl;
        all = all_read o text s ended (subst (IsReadOf remaining o text) same r.0);
      }
  all_at (o ∷ os) (text ∷ ts) (x ∷ ss) (suc k) s there ended r =
      let a = all_at os ts ss k s there ended r.1 in
      record {
        origin = a.origin;
        text = a.text;
        origin_there = a.origin_there;
        text_there = a.text_there;
        all = a.all;
      }

  -- the origins are those of the traces
  pub origins_are : (traces : List TraceOf) (ss : List (Source I)) → length traces ≡ length ss
      → traces_of (origins_of remaining traces ss) ≡ traces
  origins_are [] ss e = refl
  origins_are (t ∷ traces) [] e = absurd (omega arith)
  origins_are (t ∷ traces) (s ∷ ss) e =
      ap (λ (ts : List TraceOf). t ∷ ts) (origins_are traces ss (omega arith))

  -- the head of each trace names its node
  pub of_node : (traces : List TraceOf) (ss : List (Source I)) (k : ℕ) (t : TraceOf)
      → length traces ≡ length ss → slice_get traces k ≡ Some t
      → IsOfNode (origins_of remaining traces ss) k t.node
  of_node [] ss k t e there = cc
  of_node (x ∷ traces) [] k t e there = absurd (omega arith)
  of_node (x ∷ traces) (s ∷ ss) zero t e there =
      let same : x ≡ t = cc in
      record {
        origin = record { trace = x; rest = remaining s.reader };
        there = refl;
        node_is = ap (λ (y : TraceOf). y.node) same;
      }
  of_node (x ∷ traces) (s ∷ ss) (suc k) t e there =
      let a = of_node traces ss k t (omega arith) there in
      record { origin = a.origin; there = a.there; node_is = a.node_is }
