-- What several passes have seen of one history.
use Rattle.std.specs.Prelude.{◌≡◌, ℕ, ◌+◌, List, [], ◌∷◌}
use Rattle.std.specs.List.{AllByRecursion}
use mathlib.Core.List.{IsPrefix}
use Rattle.dk_types.specs.declared.event.Event.{Event}
use Rattle.dk_model.specs.Legal.{pass_of}
use Rattle.dk_turn.specs.Fronts.{Known, Continues}

-- these passes have the numbers from this one on, in order
abbrev pub AreNumbered : ℕ → List (Known Event) → Type 0
AreNumbered n [] = Unit {0}
AreNumbered n (p ∷ passes) = (p.number ≡ n) × AreNumbered (n + 1) passes

-- the history begins with what each of these passes has seen
abbrev pub AreBehind : List (Known Event) → List Event → Type 0
AreBehind passes log = AllByRecursion (λ p. IsPrefix p.front log) passes

-- and it has no event of such a pass beyond that
abbrev pub HaveSeen : List (Known Event) → List Event → Type 0
HaveSeen passes log = AllByRecursion (λ p. Continues pass_of p.number p.front log) passes

-- one pass after another is related to what became of it
abbrev pub ArePaired : (Known Event → Known Event → Type 0) → List (Known Event) → List (Known Event) → Type 0
ArePaired R [] [] = Unit {0}
ArePaired R (p ∷ before) (q ∷ after) = R p q × ArePaired R before after
ArePaired R [] (q ∷ after) = ⊥
ArePaired R (p ∷ before) [] = ⊥
