-- What holds of an option that has a value.
use Rattle.std.proofs.Common.{Option, Some, None, IsSome, IfSome}

-- two facts of its value, together
pub of_some : {A T : Type 0} (o : Option A) (P Q : A → Type 0) → IsSome o → IfSome o P → IfSome o Q → ((a : A) → P a → Q a → T) → T
of_some (Some a) P Q is p q both = both a p q
of_some None P Q is p q both = absurd (cc is)
