-- Events that claim nothing leave no claim where there was none.
use Rattle.std.proofs.Common.{◌≡◌, ℕ, Bool, true, false, Option, None, List, [], ◌∷◌, map, inl, inr, sym, ap, ◌∙◌}
use Rattle.std.specs.FinMap.{FinMap, get, empty, values, get-empty, same_map}
use Rattle.std.specs.List.{AllByRecursion}
use Rattle.dk_types.specs.declared.number.RunNo.{RunNo}
use Rattle.dk_types.specs.declared.number.ConnNo.{ConnNo}
use Rattle.dk_types.specs.declared.event.Event.{Event}
use Rattle.dk_model.specs.declared.script.Line.{Line}
use Rattle.dk_model.specs.declared.script.Line.TheVariants as line
use Rattle.dk_model.specs.Keys.{run_cmp}
use Rattle.dk_model.specs.Worlds.{World, Claim}
use Rattle.dk_model.specs.Events.{Meaning, Happens}
use Rattle.dk_model.specs.Histories.{Leads}
use Rattle.dk_model.specs.Openings.{opening}
use Rattle.dk_model.specs.DurableWorlds.{DurableWorld}
use Rattle.dk_model.specs.Sights.{grants}
use Rattle.dk_model.proofs.Maps.{runs_total, exact_runs}
use Rattle.dk_laws.proofs.Numbers.{fate, none_some, opening_claims}
use Rattle.dk_progress.proofs.Picks.{no_entries}
use Rattle.dk_play_laws.specs.LineEvents.{Said, IsLineEvent, AreLineEvents, AreHandEvents}
use Rattle.dk_play_laws.specs.WorkedLaw.{IsUnclaimed}

-- the event grants no run
abbrev GrantsNone : Event → Type 0
GrantsNone e = (run : RunNo) → grants run e ≡ false

true_false : ◌≡◌ {A = Bool} true false → ⊥
true_false e = cc

still_unclaimed : (rules : Meaning) (w : World) (e : Event) (after : World) → GrantsNone e → IsUnclaimed w → Happens rules w e after → IsUnclaimed after
still_unclaimed rules w e after grants_none none h run = elim (fate run rules w e after h) [
  | inl g ↦ absurd (true_false (sym g.grants ∙ grants_none run))
  | inr (inl g) ↦ none_some g.claim (sym (none run) ∙ g.held)
  | inr (inr g) ↦ g.same ∙ none run
]

pub unclaimed_after : (rules : Meaning) (w : World) (events : List Event) (after : World) → AllByRecursion GrantsNone events → IsUnclaimed w → Leads rules w events after → IsUnclaimed after
unclaimed_after rules w [] after grants_none none h run = ap (λ (x : World). get x.claims run) h ∙ none run
unclaimed_after rules w (e ∷ events) after grants_none none h run =
    unclaimed_after rules h.0 events after grants_none.1 (still_unclaimed rules w e h.0 grants_none.0 none h.1) h.2 run

-- lines grant none
line_grants : (pass : ℕ) (s : Said) (l : Line) (e : Event) (t : Said) → IsLineEvent pass s l e t → GrantsNone e
line_grants pass s (line.Login name) e t is run = ap (grants run) is.1
line_grants pass s (line.Send name text) e t is run = ap (grants run) is.3
line_grants pass s (line.Channel name channel text) e t is run = ap (grants run) is.3
line_grants pass s (line.Logout name) e t is run = ap (grants run) is.3
line_grants pass s (line.Drop name) e t is run = ap (grants run) is.3
line_grants pass s (line.Tick moment) e t is run = ap (grants run) is.0

pub lines_grant : (pass : ℕ) (s : Said) (lines : List Line) (events : List Event) (t : Said) → AreLineEvents pass s lines events t → AllByRecursion GrantsNone events
lines_grant pass s [] [] t is = tt
lines_grant pass s (l ∷ lines) (e ∷ events) t is = (line_grants pass s l e is.0 is.1, lines_grant pass is.0 lines events t is.2)
lines_grant pass s [] (e ∷ events) t is = absurd is
lines_grant pass s (l ∷ lines) [] t is = absurd is

-- and so do hands
pub hands_grant : (pass : ℕ) (conns : List ConnNo) (events : List Event) → AreHandEvents pass conns events → AllByRecursion GrantsNone events
hands_grant pass [] [] is = tt
hands_grant pass (conn ∷ conns) (e ∷ events) is = (λ run. ap (grants run) is.2, hands_grant pass conns events is.3)
hands_grant pass [] (e ∷ events) is = absurd is
hands_grant pass (conn ∷ conns) [] is = absurd is

-- a map in which nothing is found has no values
pub no_values : (claims : FinMap run_cmp Claim) → ((run : RunNo) → get claims run ≡ None) → values claims ≡ []
no_values claims none = ap (map (λ e. e.1)) (no_entries claims (same_map runs_total exact_runs claims empty (λ run. none run ∙ sym (get-empty run_cmp run))))

-- nothing is claimed at the opening
pub opening_unclaimed : (d : DurableWorld) (budget : Option ℕ) → IsUnclaimed (opening d budget)
opening_unclaimed d budget run = opening_claims d budget run
