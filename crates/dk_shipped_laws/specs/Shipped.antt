-- The games that come with this server, and the law of the stores that they alone wrote.
use Rattle.std.specs.Prelude.{◌≡◌, ◌⊎◌, ℕ, List}
use Rattle.std.specs.List.{AllByRecursion}
use Rattle.dk_model.specs.DurableWorlds.{DurableWorld}
use Rattle.dk_model.specs.Events.{Meaning}
use Rattle.dk_model.specs.Validity.{IsValid}
use Rattle.dk_session_laws.specs.Sessions.{KeepSessions}
use Rattle.dk_session_laws.specs.SessionsLaw.{EverySessionCounts, Life, IsLeftBy}
use Rattle.sword_world.specs.Rules.{sword_rules}
use Rattle.dk_demos.specs.CountersRules.{counters_rules}
use Rattle.dk_demos.specs.TimerRules.{timer_rules}
use Rattle.dk_demos.specs.ChannelsRules.{channels_rules}
use Rattle.dk_demos.specs.GreeterRules.{greeter_rules}

-- the meaning of SwordWorld, of the counters for some seed and number of tasks, of the timer, of the channels or of the greeter
abbrev pub IsShipped : Meaning → Type 0
IsShipped rules =
    ◌≡◌ {A = Meaning} rules sword_rules ⊎ ((seed : ℕ) × (tasks : ℕ) × ◌≡◌ {A = Meaning} rules (counters_rules seed tasks)) ⊎ ◌≡◌ {A = Meaning} rules timer_rules
    ⊎ ◌≡◌ {A = Meaning} rules channels_rules ⊎ ◌≡◌ {A = Meaning} rules greeter_rules

-- each of these games keeps the sessions
abbrev pub ShippedGamesKeepSessions : Type 0
ShippedGamesKeepSessions = (rules : Meaning) → IsShipped rules → KeepSessions rules

-- in a store that only these games wrote, through any number of stops, every session counts
abbrev pub ShippedStoresCount : Type 0
ShippedStoresCount = (lives : List Life) (d : DurableWorld) → AllByRecursion (λ life. IsShipped life.rules) lives → IsLeftBy lives d → IsValid d × EverySessionCounts d
