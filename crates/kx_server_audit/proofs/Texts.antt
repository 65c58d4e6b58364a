-- Texts of batches and of entries, by which logs are compared.
use Rattle.std.proofs.Common.{◌≡◌, ◌+◌, ◌∙◌, ℕ, Bool, true, false, not, List, [], ◌∷◌, ◌++◌, length}
use Rattle.std.proofs.Common.{MatchBool, ap, arith, length-append, refl, sym}
use Rattle.std.specs.List.{AllByRecursion, flat_map}
use Rattle.std.specs.Str.{bytes_eq}
use Rattle.std.proofs.lemmas.Slice.Eq.{bytes_eq-Decides}
use Rattle.kx_log.specs.Log.{texts}
use Rattle.kx_message.proofs.Sizes.{of_unsigned}
use Rattle.kx_model.specs.Coordinator.{TxnEntry}
use Rattle.kx_model.specs.Log.{Stored}
use Rattle.kx_txnlog.specs.Layout.{entry_text}
use Rattle.kx_txnlog.specs.Ranges.{IsEntry}
use Rattle.kx_txnlog.specs.Reading.{ReadNotes, notes_in, with_front}
use Rattle.kx_txnlog.proofs.Sizes.{size_is, size_of}

------ batches

was_true : (b : Bool) → not b ≡ false → b ≡ true
was_true true e = refl
was_true false e = cc

was_false : (b : Bool) → not b ≡ true → b ≡ false
was_false true e = cc
was_false false e = refl

-- what a test of bytes finds the same is the same
pub agree : (a b : List ℕ) (r : Bool) → r ≡ not (bytes_eq a b) → r ≡ false → a ≡ b
agree a b r e f = (bytes_eq-Decides a b).0 (was_true (bytes_eq a b) (sym e ∙ f))

-- and what it finds different differs
pub differ : (a b : List ℕ) (r : Bool) → r ≡ not (bytes_eq a b) → r ≡ true → a ≡ b → ⊥
differ a b r e t s =
    let f : bytes_eq a b ≡ false = was_false (bytes_eq a b) (sym e ∙ t) in
    let g : bytes_eq a b ≡ true = (bytes_eq-Decides a b).1 s in
    cc

-- the bytes of a batch and of those after it
pub len_with : (x : Stored) (rest all : List Stored) → all ≡ x ∷ rest
    → length (texts all) ≡ length x.text + length (texts rest)
len_with x rest all is =
    ap (λ (l : List Stored). length (texts l)) is ∙ length-append x.text (texts rest)

-- two walks that have come to one more batch each
module _ (x y : Stored) (a b left right : List Stored) (front : left ≡ x ∷ a) (other : right ≡ y ∷ b)
  where
    pub texts_agree : x.text ≡ y.text → texts a ≡ texts b → texts left ≡ texts right
    texts_agree e h = let p : texts (x ∷ a) ≡ texts (y ∷ b) = cc in ap texts front ∙ p ∙ sym (ap texts other)

    pub rests_agree : left ≡ right → a ≡ b
    rests_agree e = cc

    pub firsts_agree : left ≡ right → x.text ≡ y.text
    firsts_agree e = let p : x ≡ y = cc in ap (λ (s : Stored). s.text) p

------ entries

-- how many bytes the text of an entry has
pub entry_size : (note : TxnEntry) → length (entry_text note) ≡ 6 + size_of note
unfolding entry_text
entry_size note = simp (length-append, of_unsigned, size_is) (omega arith)

module _ (several : (notes : List TxnEntry) (rest : List ℕ) → AllByRecursion IsEntry notes
    → notes_in (flat_map entry_text notes ++ rest) ≡ with_front notes (notes_in rest)) where
  -- entries with the same text are the same
  notes_agree : (a b : TxnEntry) → IsEntry a → IsEntry b → entry_text a ≡ entry_text b → a ≡ b
  notes_agree a b p q e =
      let f = ap (λ (r : ReadNotes). r.notes) (several (a ∷ []) [] (p, tt)) in
      let g = ap (λ (r : ReadNotes). r.notes) (several (b ∷ []) [] (q, tt)) in
      let s = ap (λ (text : List ℕ). (notes_in ((text ++ []) ++ [])).notes) e in
      let h : a ∷ (notes_in []).notes ≡ b ∷ (notes_in []).notes = sym f ∙ s ∙ g in
      cc

  -- a test of their texts finds out whether entries are the same
  pub same_note : (r : Bool) (a b : TxnEntry) → IsEntry a → IsEntry b
      → r ≡ bytes_eq (entry_text a) (entry_text b) → MatchBool r (a ≡ b) (a ≡ b → ⊥)
  same_note true a b p q e = notes_agree a b p q ((bytes_eq-Decides (entry_text a) (entry_text b)).0 (sym e))
  same_note false a b p q e = λ s.
      let g : bytes_eq (entry_text a) (entry_text b) ≡ true =
      (bytes_eq-Decides (entry_text a) (entry_text b)).1 (ap entry_text s) in
      cc
