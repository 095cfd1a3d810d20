-- How far a listener has come.
use Rattle.std.specs.Prelude.{◌≡◌, ℕ, ◌+◌, Bool, true, Option, Some, None}
use Rattle.dk_edge.specs.declared.listener.Binding.{Binding}
use Rattle.dk_edge.specs.declared.listener.Binding.TheVariants.{NotCalled, Bound}

-- where it listens, how many links it gave, and whether it said that no more come
pub record Listening : Type 0 where
  pub binding : Binding
  pub given : ℕ
  pub ended : Bool

-- `bind` was not called
abbrev pub IsUncalled : Listening → Type 0
IsUncalled l = l.binding ≡ NotCalled

-- it listens at a port
abbrev pub IsBound : Listening → Type 0
IsBound l = (port : ℕ) × (l.binding ≡ Bound port)

-- one more link was given, or it was said that no more come
abbrev pub after_accept : {A : Type 0} → Option A → Listening → Listening
after_accept (Some link) l = record l { given = l.given + 1 }
after_accept None l = record l { ended = true }

-- these together
abbrev pub listening_at : Binding → ℕ → Bool → Listening
listening_at binding given ended = record { binding = binding; given = given; ended = ended }
