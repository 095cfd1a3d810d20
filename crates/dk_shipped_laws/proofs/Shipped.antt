-- The shipped games are lawful and keep the sessions, so in the stores that they write every session counts.
use Rattle.std.proofs.Common.{List, [], ◌∷◌, sym, subst, inl, inr}
use Rattle.std.specs.List.{AllByRecursion}
use Rattle.dk_model.specs.Events.{Meaning}
use Rattle.dk_model.specs.Lawful.{AreLawful}
use Rattle.dk_session_laws.specs.Sessions.{KeepSessions}
use Rattle.dk_session_laws.specs.SessionsLaw.{Life}
use Rattle.dk_session_laws.proofs.Ordered.{stores_count}
use Rattle.sword_world.specs.LawfulRules.{sword_lawful}
use Rattle.dk_demos.specs.CountersLawful.{counters_lawful}
use Rattle.dk_demos.specs.TimerLawful.{timer_lawful}
use Rattle.dk_demos.specs.ChannelsLawful.{channels_lawful}
use Rattle.dk_demos.specs.GreeterLawful.{greeter_lawful}
use Rattle.dk_shipped_laws.specs.Shipped.{IsShipped, ShippedGamesKeepSessions, ShippedStoresCount}
use Rattle.dk_shipped_laws.proofs.KeptSword.{sword_keeps}
use Rattle.dk_shipped_laws.proofs.KeptCounters.{counters_keep, timer_keeps, greeter_keeps}
use Rattle.dk_shipped_laws.proofs.KeptChannels.{channels_keep}

-- lawful rules that keep the sessions
abbrev AreOrderly : Meaning → Type 0
AreOrderly rules = AreLawful rules × KeepSessions rules

shipped_orderly : (rules : Meaning) → IsShipped rules → AreOrderly rules
shipped_orderly rules (inl sword) = subst AreOrderly (sym sword) (sword_lawful, sword_keeps)
shipped_orderly rules (inr (inl counters)) = subst AreOrderly (sym counters.2) (counters_lawful counters.0 counters.1, counters_keep counters.0 counters.1)
shipped_orderly rules (inr (inr (inl timer))) = subst AreOrderly (sym timer) (timer_lawful, timer_keeps)
shipped_orderly rules (inr (inr (inr (inl channels)))) = subst AreOrderly (sym channels) (channels_lawful, channels_keep)
shipped_orderly rules (inr (inr (inr (inr greeter)))) = subst AreOrderly (sym greeter) (greeter_lawful, greeter_keeps)

pub shipped_keep : ShippedGamesKeepSessions
shipped_keep rules is = (shipped_orderly rules is).1

all_orderly : (lives : List Life) → AllByRecursion (λ life. IsShipped life.rules) lives → AllByRecursion (λ life. AreLawful life.rules × KeepSessions life.rules) lives
all_orderly [] all = tt
all_orderly (life ∷ lives) all = (shipped_orderly life.rules all.0, all_orderly lives all.1)

pub shipped_count : ShippedStoresCount
shipped_count lives d all left = stores_count lives d (all_orderly lives all) left
