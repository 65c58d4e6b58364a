use Rattle.kx_cases_published.proofs.shown.told_of.Given as goal

-- the book that was opened is the partition's
abbrev pub ghosts-told_by : goal.ghosts-told_by
ghosts-told_by g a = record { book = λ _. a.opened.seen.book }
