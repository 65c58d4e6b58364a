-- Each published log has a book of its own.
use Rattle.std.proofs.Common.{◌≡◌, ◌≤◌, ◌<◌, ℕ, ◌+◌, List, [], ◌∷◌, ◌++◌, length, arith, refl, sym}
use Rattle.std.proofs.Common.{ap, ◌∙◌, All, Bool, cond}
use Rattle.std.proofs.Math.Dec.{eqb}
use Rattle.std.proofs.lemmas.Bool.{eq-eqb, ne_eqb}
use Rattle.std.proofs.lemmas.List.Elements.{All-cons, All-nil}
use Rattle.logbook.specs.Pages.{Book}
use Rattle.kx_message.specs.Ranges.{data_partitions}
use Rattle.kx_published.specs.declared.book.Opened.{Opened}
use Rattle.kx_serve.specs.Opening.{HasBook, InOrder}

-- one more book
pub in_order_more : (first : ℕ) (books : List Opened) (opened : Opened) → InOrder first books
    → opened.partition ≡ first + length books → InOrder first (books ++ opened ∷ [])
in_order_more first [] opened is next = (omega (arith, next), tt)
in_order_more first (book ∷ books) opened is next =
    (is.0, in_order_more (first + 1) books opened is.1 (omega (arith, next)))

-- the book of a partition, if it is among these; else the other one
abbrev pub book_in : List Opened → Book → ℕ → Book
book_in [] other number = other
book_in (opened ∷ more) other number =
    cond (eqb opened.partition number) opened.seen.book (book_in more other number)

pub all_have_books : (named : ℕ → Book) (other : Book) (first : ℕ) (books : List Opened)
    → InOrder first books → first + length books ≤ data_partitions
    → ((number : ℕ) → first ≤ number → number < data_partitions
    → named number ≡ book_in books other number)
    → All (HasBook named) books
all_have_books named other first [] is within same = All-nil (HasBook named)
all_have_books named other first (opened ∷ more) is within same =
    let below : opened.partition < data_partitions = omega (arith, is.0, within) in
    let at_least : first ≤ opened.partition = omega (arith, is.0) in
    let found = same opened.partition at_least below in
    All-cons (HasBook named) opened more
    (record {
      is_data = below;
      book = sym (found ∙ ap (λ (b : Bool). cond b opened.seen.book
          (book_in more other opened.partition)) (eq-eqb opened.partition opened.partition refl));
    })
    (all_have_books named other (first + 1) more is.1 (omega (arith, within))
    (λ number later below.
    same number (omega (arith, later)) below
    ∙ ap (λ (b : Bool). cond b opened.seen.book (book_in more other number))
    (ne_eqb opened.partition number (λ e. absurd (omega (arith, e, is.0, later))))))

-- the other one is that of every number behind these
pub other_book : (books : List Opened) (other : Book) (first number : ℕ) → InOrder first books
    → first + length books ≤ number → book_in books other number ≡ other
other_book [] other first number is above = refl
other_book (opened ∷ more) other first number is above =
    ap (λ (b : Bool). cond b opened.seen.book (book_in more other number))
    (ne_eqb opened.partition number (λ e. absurd (omega (arith, e, is.0, above))))
    ∙ other_book more other (first + 1) number is.1 (omega (arith, above))
