use Rattle.std.proofs.Common.{◌≡◌, ℕ, Some, None, List, [], ◌∷◌, refl, subst}
use Rattle.std.specs.List.{slice_get}
use Rattle.dk_txn.proofs.Kit.{give_does}
use Rattle.dk_demos.proofs.counters.raise.Goals as goal

-- a list without a first is empty
none_first : (bytes : List ℕ) → None ≡ slice_get bytes 0 → bytes ≡ []
none_first [] h = refl
none_first (x ∷ bytes) h = let no : None ≡ Some x = h in absurd cc

pub returns-in-None : goal.returns-in-None
returns-in-None g c = rw (none_first c.args.arg.now (subst (λ bytes. None ≡ slice_get bytes 0) c.as_slice.ensures c.in-None.ensures.value)) give_does
