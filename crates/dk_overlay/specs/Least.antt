-- The least key that passes a test.
use Rattle.std.specs.Prelude.{◌≡◌, Bool, true, false, ◌&&◌, Option, Some, None, if◌then◌else◌}
use Rattle.std.specs.declared.cmp.Ordering.{Ordering}
use Rattle.std.specs.declared.cmp.Ordering.TheVariants.{Less}
use Rattle.std.specs.Ordering.{is_lt}

-- whether a key passes, by what stands there
abbrev pub passes : {K X : Type 0} → (K → Bool) → (X → Bool) → K → Option X → Bool
passes at good q None = false
passes at good q (Some x) = at q && good x

-- r is the least key that passes, or none does
abbrev pub Least : {K : Type 0} → (K → K → Ordering) → (K → Bool) → Option K → Type 0
Least R p None = (q : _) → p q ≡ false
Least R p (Some n) = (p n ≡ true) × ((q : _) → R q n ≡ Less → p q ≡ false)

-- the lesser of two keys
abbrev pub lesser : {K : Type 0} → (K → K → Ordering) → Option K → Option K → Option K
lesser R None b = b
lesser R (Some m) None = Some m
lesser R (Some m) (Some n) = if is_lt (R n m) then Some n else Some m
