-- Two files of no bytes are no store yet, so what is opened on them is the empty world.
use Rattle.std.proofs.Common.{◌≡◌, List, [], ℕ, Result, inr, refl, sym, subst}
use Rattle.dk_types.specs.declared.side.Side.{Side}
use Rattle.dk_model.specs.DurableWorlds.{DurableWorld, empty_world}
use Rattle.dk_model.specs.Recovered.{HasDurable}
use Rattle.dk_model.specs.Stores.{StoreHeader, NoStore, StandsOn, standing}
use Rattle.dk_recover.specs.Recovery.{IsOurs}
use Rattle.dk_host.specs.OpenedStores.{IsWorldOrDevice, MayBeAnew}
use Rattle.dk_host.specs.declared.fault.OpenFault.{OpenFault}
use Rattle.dk_host.specs.declared.standing.Stood.{Stood}

none_stands : (side : Side) (header : StoreHeader) → standing [] [] ≡ StandsOn side header → ⊥
none_stands side header e = let no : NoStore ≡ StandsOn side header = e in absurd cc

-- what is answered where both files have no bytes
pub fresh_world : (zero one game : List ℕ) (answer : Result Stood OpenFault) → zero ≡ [] → one ≡ []
    → ((d : DurableWorld) → HasDurable zero one d → IsOurs zero one game → MayBeAnew zero one d → IsWorldOrDevice d answer) → IsWorldOrDevice empty_world answer
fresh_world zero one game answer no_zero no_one accepted =
    subst (λ (z : List ℕ). ((d : DurableWorld) → HasDurable z one d → IsOurs z one game → MayBeAnew z one d → IsWorldOrDevice d answer) → IsWorldOrDevice empty_world answer) (sym no_zero)
    (subst (λ (o : List ℕ). ((d : DurableWorld) → HasDurable [] o d → IsOurs [] o game → MayBeAnew [] o d → IsWorldOrDevice d answer) → IsWorldOrDevice empty_world answer) (sym no_one)
    (λ accept. accept empty_world (inr (refl, refl)) (λ side header stands. absurd (none_stands side header stands)) (λ header older. absurd (none_stands older.side header older.stands))))
    accepted
