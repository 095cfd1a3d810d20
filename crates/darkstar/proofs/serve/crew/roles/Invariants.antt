use Rattle.std.proofs.Common.{◌≡◌, ◌+◌, ◌≤◌, vec_len}
use Rattle.darkstar.proofs.serve.crew.roles.Given as goal

-- a ticker and so many workers at most
abbrev pub invariant-loop-number : goal.invariant-loop-number
invariant-loop-number g l = vec_len l.roles ≤ l.number + 1

-- behind them so many places at most, and the share has a part for each that is still to come
abbrev pub invariant-loop-place : goal.invariant-loop-place
invariant-loop-place g l = (vec_len l.roles ≤ l.fn.terms.workers + 1 + l._place) × (l.fn.terms.clients ≤ l.share.parts + l._place) × (l.share.amount ≡ 0)
