-- A run over the lines so far, and how it goes on or comes to its end.
use Rattle.std.proofs.Common.{◌≡◌, ◌⊎◌, ◌<◌, ◌+◌, ℕ, List, [], ◌∷◌, ◌++◌, Option, None, Some, Ok}
use Rattle.std.proofs.Common.{Err, Bool, true, false, length, refl, sym, ap, ◌∙◌, subst}
use Rattle.std.proofs.Common.{append_assoc, arith, inl, inr}
use Rattle.std.specs.Prelude.{IfSome}
use Rattle.std.specs.Io.KnownBytes.{Appends}
use Rattle.std.proofs.lemmas.List.{append-nil, length-append}
use Rattle.std.proofs.KnownBytes.{Appends-nil, Appends-trans}
use Rattle.kx_text.specs.Words.{before, lines_of}
use Rattle.kx_text.specs.Lines.{ReadsLine, bad_text}
use Rattle.kx_text.specs.declared.fault.ScriptFault.{ScriptFault}
use Rattle.kx_text.specs.declared.fault.ScriptFault.TheVariants.{Read, Write, BadLine, Memory}
use Rattle.kx_text.specs.Writing.{IsBroken}
use Rattle.kx_text.proofs.Writes.{broken_after, broken_more}
use Rattle.kx_script.specs.Script.{Answers, Ends, HasLines, MakesAnswer, Prints, Runs}
use Rattle.kx_script.specs.Script.{State, answer, kept_in}

-- a run, and then one more line
pub Runs-push : (state : State) (lines : List (List ℕ)) (text : List ℕ) (mid : State)
    (line first : List ℕ) (next : State) → Runs state lines text mid
    → Answers mid line first next → Runs state (lines ++ line ∷ []) (text ++ first) next
Runs-push state [] text mid line first next r a = (
  first,
  [],
  next,
  ap (λ (t : List ℕ). t ++ first) r.0 ∙ sym (append-nil first),
  subst (λ (s : State). Answers s line first next) r.1 a,
  (refl, refl),
)
Runs-push state (l ∷ ls) text mid line first next r a = (
  r.0,
  r.1 ++ first,
  r.2,
  ap (λ (t : List ℕ). t ++ first) r.3 ∙ append_assoc r.0 r.1 first,
  r.4,
  Runs-push r.2 ls r.1 mid line first next r.5 a,
)

-- the lines in front of the rest have run, and the next one has this number
pub record InFront (Stands : State → Type 0) (input rest : List ℕ) (number : ℕ)
    (old now : Option (List ℕ)) : Type 0 where
  pub lines : List (List ℕ)
  pub text : List ℕ
  pub state : State
  pub lines_are : lines_of input ≡ lines ++ lines_of rest
  pub counted : number ≡ length lines + 1
  pub runs : Runs None lines text state
  pub stands : Stands state
  pub written : Appends old now text

-- the same, if the reader tells its bytes
abbrev pub Underway : (State → Type 0) → Option (List ℕ) → Option (List ℕ) → ℕ → Option (List ℕ)
    → Option (List ℕ) → Type 0
Underway Stands None left number old now = Unit {0}
Underway Stands (Some input) left number old now =
    (rest : List ℕ) × (left ≡ Some rest) × InFront Stands input rest number old now

pub starts : (Stands : State → Type 0) → Stands None → (told written : Option (List ℕ))
    → Underway Stands told told 1 written written
starts Stands s None written = tt
starts Stands s (Some input) written = (
  input,
  refl,
  record {
    lines = [];
    text = [];
    state = None;
    lines_are = refl;
    counted = refl;
    runs = (refl, refl);
    stands = s;
    written = Appends-nil written;
  },
)

-- no line could be read
pub read_fails : (Stands : State → Type 0) (told left after : Option (List ℕ)) (number : ℕ)
    (old now : Option (List ℕ)) (line : List ℕ) (fault : ScriptFault)
    → Underway Stands told left number old now
    → IfSome left (λ bytes. ReadsLine bytes after line (Err fault))
    → IfSome told (λ input. Ends input old now (Err fault))
read_fails Stands None left after number old now line fault u r = tt
read_fails Stands (Some input) left after number old now line Read u r =
    (u.2.lines, lines_of u.0, u.2.lines_are, (u.2.text, u.2.state, u.2.runs, u.2.written))
read_fails Stands (Some input) left after number old now line Memory u r =
    (u.2.lines, lines_of u.0, u.2.lines_are, (u.2.text, u.2.state, u.2.runs, u.2.written))
read_fails Stands (Some input) left after number old now line Write u r =
    absurd (subst (λ (o : Option (List ℕ)). IfSome o (λ bytes. ReadsLine bytes after line
    (Err Write))) u.1 r)
read_fails Stands (Some input) left after number old now line (BadLine n) u r =
    absurd (subst (λ (o : Option (List ℕ)). IfSome o (λ bytes. ReadsLine bytes after line
    (Err (BadLine n)))) u.1 r)

-- more lines than may be, or no memory for the answer to the next one
pub stops : (Stands : State → Type 0) (told left : Option (List ℕ)) (number : ℕ)
    (old now : Option (List ℕ)) (fault : ScriptFault) → (fault ≡ Read) ⊎ (fault ≡ Memory)
    → Underway Stands told left number old now
    → IfSome told (λ input. Ends input old now (Err fault))
stops Stands None left number old now fault why u = tt
stops Stands (Some input) left number old now fault (inl read) u =
    subst (λ (f : ScriptFault). Ends input old now (Err f)) (sym read)
    (u.2.lines, lines_of u.0, u.2.lines_are, (u.2.text, u.2.state, u.2.runs, u.2.written))
stops Stands (Some input) left number old now fault (inr memory) u =
    subst (λ (f : ScriptFault). Ends input old now (Err f)) (sym memory)
    (u.2.lines, lines_of u.0, u.2.lines_are, (u.2.text, u.2.state, u.2.runs, u.2.written))

-- the next line has a number above this one
pub has_more : (Stands : State → Type 0) (told left : Option (List ℕ)) (number count : ℕ)
    (old now : Option (List ℕ)) → Underway Stands told left number old now → count < number
    → HasLines count told
has_more Stands None left number count old now u many = tt
has_more Stands (Some input) left number count old now u many =
    let parts = ap length u.2.lines_are ∙ length-append u.2.lines (lines_of u.0) in
    omega (arith, u.2.counted, parts)

-- no line is left
pub finishes : (Stands : State → Type 0) (told left after : Option (List ℕ)) (number : ℕ)
    (old now : Option (List ℕ)) (line : List ℕ) (x : Unit {0})
    → Underway Stands told left number old now
    → IfSome left (λ bytes. ReadsLine bytes after line (Ok false))
    → IfSome told (λ input. Ends input old now (Ok x))
finishes Stands None left after number old now line x u r = tt
finishes Stands (Some input) left after number old now line x u r =
    let none : lines_of u.0 ≡ [] = subst (λ (o : Option (List ℕ)).
    IfSome o (λ bytes. ReadsLine bytes after line (Ok false))) u.1 r in
    let all : lines_of input ≡ u.2.lines = u.2.lines_are
    ∙ ap (λ (ls : List (List ℕ)). u.2.lines ++ ls) none ∙ append-nil u.2.lines in (
      u.2.text,
      u.2.state,
      subst (λ (ls : List (List ℕ)). Runs None ls u.2.text u.2.state) (sym all) u.2.runs,
      u.2.written,
    )

-- what the line was that was read
pub record IsNext (Stands : State → Type 0) (input : List ℕ) (left : Option (List ℕ))
    (line : List ℕ) (number : ℕ) (old now : Option (List ℕ)) : Type 0 where
  pub rest : List ℕ
  pub left_is : left ≡ Some rest
  pub lines : List (List ℕ)
  pub text : List ℕ
  pub state : State
  pub lines_are : lines_of input ≡ lines ++ line ∷ lines_of rest
  pub counted : number ≡ length lines + 1
  pub runs : Runs None lines text state
  pub stands : Stands state
  pub written : Appends old now text

next_of : (Stands : State → Type 0) (input : List ℕ) (left after : Option (List ℕ)) (number : ℕ)
    (old now : Option (List ℕ)) (line text : List ℕ)
    → Underway Stands (Some input) left number old now
    → IfSome left (λ bytes. ReadsLine bytes after line (Ok true)) → text ≡ before 10 line
    → IsNext Stands input after text number old now
next_of Stands input left after number old now line text u r e =
    let k : ReadsLine u.0 after line (Ok true) = subst (λ (o : Option (List ℕ)).
    IfSome o (λ bytes. ReadsLine bytes after line (Ok true))) u.1 r in
    record {
      rest = k.0;
      left_is = k.1;
      lines = u.2.lines;
      text = u.2.text;
      state = u.2.state;
      lines_are = u.2.lines_are ∙ ap (λ (ls : List (List ℕ)). u.2.lines ++ ls) k.2
          ∙ ap (λ (t : List ℕ). u.2.lines ++ t ∷ lines_of k.0) (sym e);
      counted = u.2.counted;
      runs = u.2.runs;
      stands = u.2.stands;
      written = u.2.written;
    }

-- the line was answered
pub goes_on : (Stands After : State → Type 0) (told left after : Option (List ℕ)) (number : ℕ)
    (old now new : Option (List ℕ)) (line words text : List ℕ)
    → Underway Stands told left number old now
    → IfSome left (λ bytes. ReadsLine bytes after line (Ok true)) → words ≡ before 10 line
    → ((state : State) → Stands state
    → MakesAnswer After (answer state words) (kept_in state words) number text (Ok true))
    → Appends now new text → Underway After told after (number + 1) old new
goes_on Stands After None left after number old now new line words text u r e a w = tt
goes_on Stands After (Some input) left after number old now new line words text u r e a w =
    let n = next_of Stands input left after number old now line words u r e in
    let d : MakesAnswer After (answer n.state words) (kept_in n.state words) number text (Ok true) =
    a n.state n.stands in (
      n.rest,
      n.left_is,
      record {
        lines = n.lines ++ words ∷ [];
        text = n.text ++ text;
        state = d.0;
        lines_are = n.lines_are ∙ sym (append_assoc n.lines (words ∷ []) (lines_of n.rest));
        counted = omega (arith, n.counted, length-append n.lines (words ∷ []));
        runs = Runs-push None n.lines n.text n.state words text d.0 n.runs d.1;
        stands = d.2;
        written = Appends-trans old now new n.text text n.written w;
      },
    )

-- the line is bad
pub is_bad : (Stands After : State → Type 0) (told left after : Option (List ℕ)) (number : ℕ)
    (old now new : Option (List ℕ)) (line words text : List ℕ)
    → Underway Stands told left number old now
    → IfSome left (λ bytes. ReadsLine bytes after line (Ok true)) → words ≡ before 10 line
    → ((state : State) → Stands state
    → MakesAnswer After (answer state words) (kept_in state words) number text (Ok false))
    → Appends now new text → IfSome told (λ input. Ends input old new (Err (BadLine number)))
is_bad Stands After None left after number old now new line words text u r e a w = tt
is_bad Stands After (Some input) left after number old now new line words text u r e a w =
    let n = next_of Stands input left after number old now line words u r e in
    let d : MakesAnswer After (answer n.state words) (kept_in n.state words) number text (Ok false) =
    a n.state n.stands in
    record {
      before = n.lines;
      line = words;
      after = lines_of n.rest;
      lines_are = n.lines_are;
      number_is = n.counted;
      text = n.text;
      state = n.state;
      runs = n.runs;
      bad = d.0;
      written = Appends-trans old now new n.text (bad_text number) n.written
          (subst (Appends now new) d.1 w);
    }

------ a text that isn't written whole

-- lines of which the front ran print something
prints : (rest front : List (List ℕ)) (text : List ℕ) (state : State) → Runs None front text state
    → (more : List ℕ) × Prints (front ++ rest) (text ++ more)
prints [] front text state runs = (
  [],
  inl (
    text ++ [],
    state,
    subst (λ (ls : List (List ℕ)). Runs None ls (text ++ []) state) (sym (append-nil front))
        (subst (λ (t : List ℕ). Runs None front t state) (sym (append-nil text)) runs),
    refl,
  ),
)
prints (line ∷ rest) front text state runs =
    at (λ fs t s. prints rest fs t s) (answer state line) refl where
      at : ((fs : List (List ℕ)) (t : List ℕ) (s : State) → Runs None fs t s
          → (more : List ℕ) × Prints (fs ++ rest) (t ++ more))
          → (o : Option (List ℕ × State)) → answer state line ≡ o
          → (more : List ℕ) × Prints (front ++ line ∷ rest) (text ++ more)
      at further None e = (
        bad_text (length front + 1),
        inr (
          length front + 1,
          record {
            before = front;
            line = line;
            after = rest;
            lines_are = refl;
            number_is = refl;
            text = text;
            state = state;
            runs = runs;
            bad = e;
            written = refl;
          },
        ),
      )
      at further (Some first) e =
          let next = further (front ++ line ∷ []) (text ++ first.0) first.1
          (Runs-push None front text state line first.0 first.1 runs (inl e)) in (
            first.0 ++ next.0,
            subst (λ (ls : List (List ℕ)). Prints ls (text ++ (first.0 ++ next.0)))
                (append_assoc front (line ∷ []) rest)
                (subst (λ (t : List ℕ). Prints ((front ++ line ∷ []) ++ rest) t)
                (append_assoc text first.0 next.0) next.1),
          )

-- what a line prints, good or bad, isn't written whole
cut_off : (Stands After : State → Type 0) (input : List ℕ) (left after : Option (List ℕ))
    (number : ℕ) (old now new : Option (List ℕ)) (line words text : List ℕ) (good : Bool)
    → Underway Stands (Some input) left number old now
    → IfSome left (λ bytes. ReadsLine bytes after line (Ok true)) → words ≡ before 10 line
    → ((state : State) → Stands state
    → MakesAnswer After (answer state words) (kept_in state words) number text (Ok good))
    → IsBroken text now new → Ends input old new (Err Write)
cut_off Stands After input left after number old now new line words text true u r e a broken =
    let n = next_of Stands input left after number old now line words u r e in
    let d : MakesAnswer After (answer n.state words) (kept_in n.state words) number text (Ok true) =
    a n.state n.stands in
    let all = prints (lines_of n.rest) (n.lines ++ words ∷ []) (n.text ++ text) d.0
    (Runs-push None n.lines n.text n.state words text d.0 n.runs d.1) in (
      (n.text ++ text) ++ all.0,
      subst (λ (ls : List (List ℕ)). Prints ls ((n.text ++ text) ++ all.0))
          (append_assoc n.lines (words ∷ []) (lines_of n.rest) ∙ sym n.lines_are) all.1,
      broken_more old new (n.text ++ text) all.0
          (broken_after old now new n.text text (n.text ++ text) refl n.written broken),
    )
cut_off Stands After input left after number old now new line words text false u r e a broken =
    let n = next_of Stands input left after number old now line words u r e in
    let d : MakesAnswer After (answer n.state words) (kept_in n.state words) number text (Ok false) =
    a n.state n.stands in (
      n.text ++ bad_text number,
      inr (
        number,
        record {
          before = n.lines;
          line = words;
          after = lines_of n.rest;
          lines_are = n.lines_are;
          number_is = n.counted;
          text = n.text;
          state = n.state;
          runs = n.runs;
          bad = d.0;
          written = refl;
        },
      ),
      broken_after old now new n.text (bad_text number) (n.text ++ bad_text number) refl n.written
          (subst (λ (t : List ℕ). IsBroken t now new) d.1 broken),
    )

-- the same, if the reader tells its bytes
pub text_fails : (Stands After : State → Type 0) (told left after : Option (List ℕ))
    (number : ℕ) (old now new : Option (List ℕ)) (line words text : List ℕ) (good : Bool)
    (fault : ScriptFault) → fault ≡ Write → Underway Stands told left number old now
    → IfSome left (λ bytes. ReadsLine bytes after line (Ok true)) → words ≡ before 10 line
    → ((state : State) → Stands state
    → MakesAnswer After (answer state words) (kept_in state words) number text (Ok good))
    → IsBroken text now new → IfSome told (λ input. Ends input old new (Err fault))
text_fails Stands After None left after number old now new line words text good fault is u r e a w =
    tt
text_fails Stands After (Some input) left after number old now new line words text good fault is
    u r e a w =
    subst (λ (f : ScriptFault). Ends input old new (Err f)) (sym is)
    (cut_off Stands After input left after number old now new line words text good u r e a w)
