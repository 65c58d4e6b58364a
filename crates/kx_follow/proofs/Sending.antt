-- Messages that were sent and not taken yet, by their frames.
use Rattle.std.proofs.Common.{◌≡◌, ◌++◌, ◌||◌, ℕ, Bool, true, false, cond, List, [], ◌∷◌, Option}
use Rattle.std.proofs.Common.{Some, None, map, refl, sym, ap, ◌∙◌, subst, ⊎_elim}
use Rattle.std.specs.Prelude.{Contains, MatchOption}
use Rattle.std.specs.List.{list_any}
use Rattle.std.specs.List.Sorted.{IsPermutation}
use Rattle.std.specs.Map.{lookup, remove_entry, set_value}
use Rattle.std.specs.Str.{bytes_eq}
use Rattle.std.proofs.lemmas.Bool.{or_cases, or_left, or_right}
use Rattle.std.proofs.lemmas.List.Elements.{Contains-append_left, Contains-push}
use Rattle.std.proofs.lemmas.List.Sorted.{list_any-IsPermutation}
use Rattle.std.proofs.lemmas.Slice.Eq.{bytes_eq-Decides}
use Rattle.kx_audit.specs.Sent.{IsRead}
use Rattle.kx_follow.specs.Internal.{HasFrame, waiting_of}
use Rattle.kx_follow.specs.Pending.{AreSent, IsAmong, Waiting}
use Rattle.kx_message.specs.Fields.{frame_text}
use Rattle.kx_message.specs.declared.message.Message.{Message}
use Rattle.kx_wire.specs.Frames.{Whole, frame_at}

any_map : {A B : Type 0} (f : A → B) (p : B → Bool) (xs : List A)
    → list_any p (map f xs) ≡ list_any (λ x. p (f x)) xs
any_map f p [] = refl
any_map f p (x ∷ xs) = ap (λ b. p (f x) || b) (any_map f p xs)

------ what was sent

-- messages of one frame are one
same_frame : (a b : Message) → IsRead a → IsRead b → frame_text a ≡ frame_text b → a ≡ b
same_frame a b read also e =
    let whole : Whole a [] ≡ Whole b [] = sym (read [])
    ∙ ap (λ (l : List ℕ). frame_at (l ++ [])) e ∙ also [] in
    cc

-- the frame of a message that was sent last
pub last_frame : (sent : List Message) (m : Message) (frame : List ℕ) → IsRead m
    → frame ≡ frame_text m → HasFrame (sent ++ m ∷ []) frame
last_frame sent m frame read is other fits also e =
    subst (λ (x : Message). Contains (sent ++ m ∷ []) x)
    (same_frame m other read also (sym is ∙ sym e)) (Contains-push sent m)

pub sent_more : (sent more : List Message) (waiting : Waiting) → AreSent sent waiting
    → AreSent (sent ++ more) waiting
sent_more sent more waiting are m fits read among =
    Contains-append_left sent more m (are m fits read among)

------ the frames of a map

module _ {K : Type 0} (bytes : K → List ℕ) where
  abbrev frames : List (K × ℕ) → Waiting
  frames entries = waiting_of bytes entries

  abbrev has : Message → K × ℕ → Bool
  has m e = bytes_eq (frame_text m) (bytes e.0)

  among_is : (m : Message) (entries : List (K × ℕ))
      → list_any (λ w. bytes_eq (frame_text m) w.0) (frames entries) ≡ list_any (has m) entries
  among_is m entries =
      any_map (λ (e : K × ℕ). (bytes e.0, e.1)) (λ (w : List ℕ × ℕ). bytes_eq (frame_text m) w.0)
      entries

  shuffled : (sent : List Message) (a b : List (K × ℕ)) → IsPermutation a b
      → AreSent sent (frames a) → AreSent sent (frames b)
  shuffled sent a b same are m fits read among =
      are m fits read (among_is m a ∙ list_any-IsPermutation (has m) a b same
      ∙ sym (among_is m b) ∙ among)

  one_more : (sent : List Message) (entries : List (K × ℕ)) (k : K) (v : ℕ)
      → AreSent sent (frames entries) → HasFrame sent (bytes k)
      → AreSent sent (frames ((k, v) ∷ entries))
  one_more sent entries k v are was m fits read among =
      ⊎_elim (λ t. was m fits read ((bytes_eq-Decides (frame_text m) (bytes k)).0 t))
      (λ t. are m fits read t)
      (or_cases (bytes_eq (frame_text m) (bytes k))
      (list_any (λ w. bytes_eq (frame_text m) w.0) (frames entries)) among)

  -- another value changes no key
  set_any : (test : K → Bool) (m : Message) (entries : List (K × ℕ)) (v : ℕ)
      → list_any (has m) (set_value test entries v) ≡ list_any (has m) entries
  set_any test m [] v = refl
  set_any test m (e ∷ entries) v = by (test e.0) (set_any test m entries v)
    where
      by : (b : Bool) → list_any (has m) (set_value test entries v) ≡ list_any (has m) entries
          → list_any (has m) (cond b ((e.0, v) ∷ entries) (e ∷ set_value test entries v))
          ≡ list_any (has m) (e ∷ entries)
      by true rest = refl
      by false rest = ap (λ (b : Bool). has m e || b) rest

  -- a key is put, or is there and has another value
  pub put : (sent : List Message) (old new : List (K × ℕ)) (k : K) (v : ℕ) (o : Option ℕ)
      (test : K → Bool)
      → MatchOption o (IsPermutation ((k, v) ∷ old) new) (λ _. new ≡ set_value test old v)
      → AreSent sent (frames old) → HasFrame sent (bytes k) → AreSent sent (frames new)
  put sent old new k v None test is are was =
      shuffled sent ((k, v) ∷ old) new is (one_more sent old k v are was)
  put sent old new k v (Some w) test is are was =
      subst (λ (es : List (K × ℕ)). AreSent sent (frames es)) (sym is) (λ m fits read among.
      are m fits read (among_is m old ∙ sym (set_any test m old v)
      ∙ sym (among_is m (set_value test old v)) ∙ among))

  fewer : (test : K → Bool) (p : K × ℕ → Bool) (entries : List (K × ℕ))
      → list_any p (remove_entry test entries) ≡ true → list_any p entries ≡ true
  fewer test p [] e = e
  fewer test p (x ∷ entries) e = by (test x.0) (fewer test p entries) e
    where
      by : (b : Bool)
          → (list_any p (remove_entry test entries) ≡ true → list_any p entries ≡ true)
          → list_any p (cond b entries (x ∷ remove_entry test entries)) ≡ true
          → list_any p (x ∷ entries) ≡ true
      by true rest e = or_right (p x) (list_any p entries) e
      by false rest e =
          ⊎_elim (λ t. or_left (p x) (list_any p entries) t)
          (λ t. or_right (p x) (list_any p entries) (rest t))
          (or_cases (p x) (list_any p (remove_entry test entries)) e)

  pub removed : (sent : List Message) (old new : List (K × ℕ)) (test : K → Bool)
      → IsPermutation (remove_entry test old) new → AreSent sent (frames old)
      → AreSent sent (frames new)
  removed sent old new test same are =
      shuffled sent (remove_entry test old) new same (λ m fits read among.
      are m fits read (among_is m old
      ∙ fewer test (has m) old (sym (among_is m (remove_entry test old)) ∙ among)))

  -- a key that is found
  pub found : (test : K → Bool) (entries : List (K × ℕ)) (v : ℕ)
      → lookup test entries ≡ Some v → list_any (λ e. test e.0) entries ≡ true
  found test [] v e = absurd cc
  found test (x ∷ entries) v e = by (test x.0) (found test entries v) e
    where
      by : (b : Bool)
          → (lookup test entries ≡ Some v → list_any (λ e. test e.0) entries ≡ true)
          → cond b (Some x.1) (lookup test entries) ≡ Some v
          → b || list_any (λ e. test e.0) entries ≡ true
      by true rest e = refl
      by false rest e = rest e

  missing : (test : K → Bool) (entries : List (K × ℕ)) → lookup test entries ≡ None
      → list_any (λ e. test e.0) entries ≡ false
  missing test [] e = refl
  missing test (x ∷ entries) e = by (test x.0) (missing test entries) e
    where
      by : (b : Bool) → (lookup test entries ≡ None → list_any (λ e. test e.0) entries ≡ false)
          → cond b (Some x.1) (lookup test entries) ≡ None
          → b || list_any (λ e. test e.0) entries ≡ false
      by true rest e = absurd cc
      by false rest e = rest e

  -- a key that isn't found is no frame of them
  pub no_frame : (m : Message) (entries : List (K × ℕ)) (frame : List ℕ) → frame ≡ frame_text m
      → lookup (λ k. bytes_eq frame (bytes k)) entries ≡ None → IsAmong (frames entries) m → ⊥
  no_frame m entries frame is none among =
      let other = missing (λ k. bytes_eq frame (bytes k)) entries none in
      let same = ap (λ (text : List ℕ). list_any (λ e. bytes_eq text (bytes e.0)) entries) is in
      let clash : true ≡ false = sym among ∙ among_is m entries ∙ sym same ∙ other in
      cc

  -- a message whose frame is found was sent
  pub found_frame : (sent : List Message) (entries : List (K × ℕ)) (frame : List ℕ) (v : ℕ)
      → lookup (λ k. bytes_eq frame (bytes k)) entries ≡ Some v → AreSent sent (frames entries)
      → HasFrame sent frame
  found_frame sent entries frame v at are m fits read is =
      are m fits read (among_is m entries
      ∙ ap (λ (text : List ℕ). list_any (λ e. bytes_eq text (bytes e.0)) entries) is
      ∙ found (λ k. bytes_eq frame (bytes k)) entries v at)
