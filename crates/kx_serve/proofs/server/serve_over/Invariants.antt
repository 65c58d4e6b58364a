use Rattle.kx_serve.proofs.Books.{book_in}
use Rattle.kx_serve.proofs.server.serve_over.Given as goal

abbrev pub ghosts-serve_named : goal.ghosts-serve_named
ghosts-serve_named g a = record {
  book = λ number. book_in a.books.items a.offsets.seen.book number;
}
