-- A message that is added to a list and to an index of its frames.
use Rattle.std.proofs.Common.{◌≡◌, ℕ, List, [], ◌∷◌, ◌++◌, Bool, true, false, not, sym, ap}
use Rattle.std.proofs.Common.{◌∙◌, subst, ⊎_elim}
use Rattle.std.specs.List.{list_any, Contains}
use Rattle.std.specs.List.Sorted.{IsPermutation}
use Rattle.std.specs.Bool.{Decides, MatchBool}
use Rattle.std.specs.Str.{bytes_eq}
use Rattle.std.proofs.lemmas.List.Elements.{Contains-append_left, Contains-push}
use Rattle.std.proofs.lemmas.List.Elements.{Contains-push_cases}
use Rattle.std.proofs.lemmas.List.Sorted.{list_any-IsPermutation}
use Rattle.std.proofs.lemmas.Bool.{or_cases, or_left, or_right, not-false}
use Rattle.std.proofs.lemmas.Slice.Eq.{bytes_eq-Decides}
use Rattle.kx_message.specs.Fields.{frame_text}
use Rattle.kx_message.specs.Sizes.{FitsFrame}
use Rattle.kx_message.specs.declared.message.Message.{Message}
use Rattle.kx_wire.specs.Frames.{Whole, frame_at}
use Rattle.kx_audit.specs.Sent.{IsIndexed, IsRead}

-- messages of one frame are one
same_frame : (a b : Message) → IsRead a → IsRead b → frame_text a ≡ frame_text b → a ≡ b
same_frame a b read also e =
    let whole : Whole a [] ≡ Whole b [] = sym (read [])
    ∙ ap (λ (l : List ℕ). frame_at (l ++ [])) e ∙ also [] in
    cc

last : (ms : List Message) (x m : Message) → x ≡ m → Contains (ms ++ x ∷ []) m
last ms x m e = subst (λ (y : Message). Contains (ms ++ x ∷ []) y) e (Contains-push ms x)

-- its frame is put among the others, or was one of them
pub short_added : {K : Type 0} (bytes : K → List ℕ) (frames more : List K) (ms : List Message)
    (x : Message) (k : K) (fresh : Bool) → IsIndexed bytes frames ms → FitsFrame x → IsRead x
    → bytes k ≡ frame_text x
    → fresh ≡ not (list_any (λ q. bytes_eq (bytes k) (bytes q)) frames)
    → MatchBool fresh (IsPermutation (k ∷ frames) more) (more ≡ frames)
    → IsIndexed bytes more (ms ++ x ∷ [])
short_added bytes frames more ms x k true indexed fit is_read frame fresh put m fits read =
    let was = indexed m fits read in
    let among = list_any-IsPermutation (λ q. bytes_eq (frame_text m) (bytes q)) (k ∷ frames) more
    put in
    let this = bytes_eq-Decides (frame_text m) (bytes k) in
    let others = list_any (λ q. bytes_eq (frame_text m) (bytes q)) frames in (
      (λ e. ⊎_elim
          (λ t. last ms x m (sym (same_frame m x read is_read (this.0 t ∙ frame))))
          (λ t. Contains-append_left ms (x ∷ []) m (was.0 t))
          (or_cases (bytes_eq (frame_text m) (bytes k)) others (among ∙ e))),
      (λ has. sym among ∙ ⊎_elim
          (λ before. or_right (bytes_eq (frame_text m) (bytes k)) others (was.1 before))
          (λ is. or_left (bytes_eq (frame_text m) (bytes k)) others
          (this.1 (ap frame_text (sym is) ∙ sym frame)))
          (Contains-push_cases ms x m has)),
    )
short_added {K} bytes frames more ms x k false indexed fit is_read frame fresh put m fits read =
    let was = indexed m fits read in
    let has_frame = λ (text : List ℕ) (l : List K). list_any (λ q. bytes_eq text (bytes q)) l in
    let known : has_frame (bytes k) frames ≡ true = not-false (has_frame (bytes k) frames)
    (sym fresh) in
    let kept : has_frame (frame_text m) more ≡ has_frame (frame_text m) frames
    = ap (λ (l : List K). has_frame (frame_text m) l) put in (
      (λ e. Contains-append_left ms (x ∷ []) m (was.0 (sym kept ∙ e))),
      (λ has. kept ∙ ⊎_elim
          (λ before. was.1 before)
          (λ is. ap (λ (text : List ℕ). has_frame text frames) (ap frame_text (sym is) ∙ sym frame)
          ∙ known)
          (Contains-push_cases ms x m has)),
    )

-- a message that fits a frame is looked up by it
pub looked_up : {K : Type 0} (bytes : K → List ℕ) (frames : List K) (ms sent : List Message)
    (m : Message) (k : K) (found : Bool) → IsIndexed bytes frames ms → FitsFrame m → IsRead m
    → bytes k ≡ frame_text m → ms ≡ sent
    → found ≡ list_any (λ q. bytes_eq (bytes k) (bytes q)) frames
    → Decides found (Contains sent m)
looked_up bytes frames ms sent m k found indexed fits read frame same is =
    let all = is ∙ ap (λ (text : List ℕ). list_any (λ q. bytes_eq text (bytes q)) frames) frame in
    let was = indexed m fits read in (
      (λ e. subst (λ (l : List Message). Contains l m) same (was.0 (sym all ∙ e))),
      (λ has. all ∙ was.1 (subst (λ (l : List Message). Contains l m) (sym same) has)),
    )
