-- A claim in a fit world is granted, or nothing is left to run.
use Rattle.std.proofs.Common.{◌≢◌, ℕ, ◌≤◌, ◌==◌, List, [], map, inl, inr, ap, arith}
use Rattle.std.proofs.lemmas.Bool.{cases_Bool, both_ways}
use Rattle.dk_types.specs.declared.number.ConnNo.{ConnNo}
use Rattle.dk_model.specs.Worlds.{World}
use Rattle.dk_model.specs.Picks.{runnable}
use Rattle.dk_model.specs.Events.{has_left}
use Rattle.dk_progress.specs.Fitness.{left_at, left, HasNumbersLeft}
use Rattle.dk_progress.specs.ProgressLaws.{ClaimsAreGranted}
use Rattle.dk_progress.proofs.Lefts.{left_some}
use Rattle.dk_progress.proofs.Sums.{first_left, sum_holds}
use Rattle.dk_progress.proofs.Picks.{no_entries, runnable_first}

-- where something can be run something is left
something_left : (w : World) (conns : List ConnNo) (more : ℕ) → HasNumbersLeft w conns more → runnable w ≢ [] → 1 ≤ left w conns
something_left w conns more fit some = elim (cases_Bool (w.durable.commits == 0)) [
  | inl first ↦ let one = ap first_left first in omega (arith, one)
  | inr later ↦
      let i = (runnable_first w fit.tasks later some).1 in
      let here = ap left_at i.there in
      omega (arith, here, left_some i.c, sum_holds w.connections i.conn conns (fit.known i.conn i.c i.there))
]

-- no claim is refused
pub all_granted : ClaimsAreGranted
all_granted w conns more fit = record {
  quiet = λ rules pass after h. (record { idle = h.0; unclaimed = ap (map (λ e. e.1)) (no_entries w.claims fit.unclaimed) }, h.1);
  unspent = λ rules pass granted after h. both_ways (has_left w.budget) h.1 (ap has_left fit.unlimited);
  drawn = λ rules pass next after h. let none = h.2 in omega (arith, none, fit.numbers, something_left w conns more fit h.0);
}
