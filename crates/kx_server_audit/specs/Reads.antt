-- What was read of the sources of traces.
use Rattle.std.specs.Prelude.{◌≡◌, ◌++◌, ℕ, List, [], ◌∷◌, true, IfSome, Option, Some, map, slice_get}
use Rattle.std.specs.Io.KnownBytes.{Consumes, IsAtEnd}
use Rattle.kx_machine.specs.Meaning.{NodeState}
use Rattle.kx_server_audit.specs.declared.sources.Source.{Source}
use Rattle.kx_trace.specs.declared.node.TracedNode.{TracedNode}
use Rattle.kx_trace_audit.specs.declared.servers.TraceOf.{TraceOf}
use Rattle.kx_trace_files.specs.Beginning.{begun_text}

-- a trace by its head, and what its source has to give after that, if it is known
pub record Origin : Type 0 where
  pub trace : TraceOf
  pub rest : Option (List ℕ)

-- what the text of the trace begins with
abbrev pub head_of : Origin → List ℕ
head_of origin = begun_text origin.trace.node origin.trace.opened

abbrev pub traces_of : List Origin → List TraceOf
traces_of origins = map (λ o. o.trace) origins

module _ {I : Type 0} (remaining : I → Option (List ℕ)) where
  -- all of the source was read if it says so
  abbrev pub IsEnded : Source I → Type 0
  IsEnded s = s.is_ended ≡ true → IsAtEnd (remaining s.reader)

  -- the text is the head, and what was read of the source
  pub record IsReadOf (origin : Origin) (text : List ℕ) (s : Source I) : Type 0 where
    pub read : List ℕ
    pub text_is : text ≡ head_of origin ++ read
    pub consumed : Consumes origin.rest (remaining s.reader) read
    pub ended : IsEnded s

  abbrev pub AreReadOf : List Origin → List (List ℕ) → List (Source I) → Type 0
  AreReadOf [] [] [] = Unit {0}
  AreReadOf (o ∷ os) (t ∷ ts) (s ∷ ss) = IsReadOf o t s × AreReadOf os ts ss
  AreReadOf [] [] (s ∷ ss) = ⊥
  AreReadOf [] (t ∷ ts) ss = ⊥
  AreReadOf (o ∷ os) [] ss = ⊥
  AreReadOf (o ∷ os) (t ∷ ts) [] = ⊥

-- each trace begins with its head, and goes on with what its source has to give
abbrev pub origins_of : {I : Type 0} → (I → Option (List ℕ)) → List TraceOf → List (Source I)
    → List Origin
origins_of remaining [] sources = []
origins_of remaining (t ∷ traces) [] = []
origins_of remaining (t ∷ traces) (s ∷ sources) =
    record { trace = t; rest = remaining s.reader }
    ∷ origins_of remaining traces sources

-- the text is the head, and all that the source had to give
abbrev pub IsAllOf : Origin → List ℕ → Type 0
IsAllOf origin text = IfSome origin.rest (λ rest. text ≡ head_of origin ++ rest)

abbrev pub AreAllOf : List Origin → List (List ℕ) → Type 0
AreAllOf [] [] = Unit {0}
AreAllOf (o ∷ os) (t ∷ ts) = IsAllOf o t × AreAllOf os ts
AreAllOf [] (t ∷ ts) = ⊥
AreAllOf (o ∷ os) [] = ⊥

-- the text is the head, and the first of what the source had to give
pub record IsPartOf (origin : Origin) (text : List ℕ) : Type 0 where
  pub read : List ℕ
  pub left : Option (List ℕ)
  pub text_is : text ≡ head_of origin ++ read
  pub consumed : Consumes origin.rest left read

abbrev pub ArePartsOf : List Origin → List (List ℕ) → Type 0
ArePartsOf [] [] = Unit {0}
ArePartsOf (o ∷ os) (t ∷ ts) = IsPartOf o t × ArePartsOf os ts
ArePartsOf [] (t ∷ ts) = ⊥
ArePartsOf (o ∷ os) [] = ⊥

-- the text of this number is all of its trace
pub record IsAllAt (origins : List Origin) (texts : List (List ℕ)) (k : ℕ) : Type 0 where
  pub origin : Origin
  pub text : List ℕ
  pub origin_there : slice_get origins k ≡ Some origin
  pub text_there : slice_get texts k ≡ Some text
  pub all : IsAllOf origin text

-- the head of the trace of this number names this node
pub record IsOfNode (origins : List Origin) (k : ℕ) (node : TracedNode) : Type 0 where
  pub origin : Origin
  pub there : slice_get origins k ≡ Some origin
  pub node_is : origin.trace.node ≡ node

-- traces, and the nodes at which they begin
pub record Start : Type 0 where
  pub origins : List Origin
  pub starts : List NodeState
