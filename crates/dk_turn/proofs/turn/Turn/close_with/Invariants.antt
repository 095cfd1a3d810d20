use Rattle.std.proofs.Common.{◌≡◌, List, ◌++◌, vec_len}
use Rattle.dk_turn.specs.Fronts.{Known, ContinuesAll}
use Rattle.dk_turn.proofs.turn.Turn.close_with.Given as goal

-- the passes that were taken off the list are behind the book
abbrev pub invariant-loop-pass : goal.invariant-loop-pass
invariant-loop-pass g l =
    (l.inner.book ≡ l.initial.inner.book)
    × ((seen : List (Known g.row.O-Entry.Denot)) × (l.initial.passes.items ≡ l.passes.items ++ seen) × ContinuesAll g.O.Book.number seen (g.O.Book.history l.initial.inner.book))

abbrev pub decreases-loop-pass : goal.decreases-loop-pass
decreases-loop-pass g l = vec_len l.passes
