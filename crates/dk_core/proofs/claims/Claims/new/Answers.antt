use Rattle.std.proofs.Common.{sym, subst, ap, ◌∙◌}
use Rattle.dk_map.specs.AsMap.{map_of}
use Rattle.dk_map.specs.Entries.{IsOrdered}
use Rattle.dk_map.proofs.Maps.{map_of-empty}
use Rattle.dk_types.specs.Keys.{run_cmp}
use Rattle.dk_core.proofs.Counted.{counted_none, budget_begins}
use Rattle.dk_core.proofs.claims.Claims.new.Goals as goal

pub invariant_of-result : goal.invariant_of-result
invariant_of-result c = (subst (IsOrdered run_cmp) (sym c.new.ensures.empty) tt, counted_none _ c.args.next c.args.most (ap (map_of run_cmp) c.new.ensures.empty ∙ map_of-empty run_cmp) c.requires.numbers)

pub returns : goal.returns
returns c = λ i. record { claims = (ap (map_of run_cmp) c.new.ensures.empty ∙ map_of-empty run_cmp) i; next = c.args.next; budget = budget_begins c.args.most i }
