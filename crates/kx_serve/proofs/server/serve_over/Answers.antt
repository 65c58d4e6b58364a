use Rattle.std.proofs.Common.{rules, ◌≡◌, ◌≤◌, ◌+◌, ◌∙◌, length, ap, arith, refl, sym}
use Rattle.kx_message.specs.Ranges.{data_partitions, offsets_partition}
use Rattle.kx_serve.proofs.Books.{all_have_books, book_in, other_book}
use Rattle.kx_serve.specs.Opening.{InOrder}
use Rattle.kx_serve.proofs.server.serve_over.Goals as goal

pub serve_named-requires-clause-books : goal.serve_named-requires-clause-books
serve_named-requires-clause-books g c κs within =
    let books = c.in_ok-books.books.items in
    let other = c.new-offsets.result.seen.book in
    let opened : InOrder 0 books × (length books ≤ data_partitions) = search rules in
    let within_data : 0 + length books ≤ data_partitions = omega (arith, opened.1) in
    all_have_books (book_in books other) other 0 books opened.0 within_data
    (λ number later below. refl)

pub serve_named-requires-clause-offsets : goal.serve_named-requires-clause-offsets
serve_named-requires-clause-offsets g c κs within =
    let books = c.in_ok-books.books.items in
    let other = c.new-offsets.result.seen.book in
    let opened : InOrder 0 books × (length books ≤ data_partitions) = search rules in
    let behind : 0 + length books ≤ offsets_partition = omega (arith, opened.1) in
    let is_offsets : c.new-offsets.result.partition ≡ offsets_partition = search rules in record {
      is_offsets = is_offsets;
      book = sym (ap (book_in books other) is_offsets
          ∙ other_book books other 0 offsets_partition opened.0 behind);
    }
