use Rattle.std.proofs.Common.{◌≡◌, ◌≤◌, length}
use Rattle.kx_message.specs.Ranges.{data_partitions}
use Rattle.kx_serve.specs.Opening.{InOrder}
use Rattle.kx_serve.proofs.server.open_books.Given as goal

abbrev pub invariant-loop-number : goal.invariant-loop-number
invariant-loop-number l =
    InOrder 0 l.books.items × (length l.books.items ≡ l.number) × (l.number ≤ l.number-end)
    × (l.number-end ≤ data_partitions)
