-- Lines that may be entered one after another.
use Rattle.std.proofs.Common.{◌≡◌, ℕ, List, [], ◌∷◌, refl, sym, subst}
use Rattle.std.specs.FinSet as sets
use Rattle.dk_types.specs.declared.limits.TheConstants.{NUMBERS_END}
use Rattle.dk_types.specs.declared.event.Event.{Event}
use Rattle.dk_types.specs.declared.event.Event.TheVariants as event
use Rattle.dk_types.specs.declared.event.ConnectReply.TheVariants as connected
use Rattle.dk_model.specs.declared.script.Line.{Line}
use Rattle.dk_model.specs.declared.script.Line.TheVariants as line
use Rattle.dk_model.specs.Legal.{Opened, IsLegal}
use Rattle.dk_model.specs.Scripts.{LineNames, names_after, names_through}
use Rattle.dk_host.specs.Calls.{Entered}
use Rattle.dk_play_laws.specs.LineEvents.{Said, IsLineEvent, AreLineEvents}
use Rattle.dk_play_laws.proofs.Budgets.{numbers_end}
use Rattle.dk_workers.specs.Logins.{CanBeEntered, AllMean, MayStandAll}
use Rattle.dk_workers.proofs.Meanings.{login_means, left_means}

-- the first of the lines can be entered
pub can_first : (s : Said) (l : Line) (lines : List Line) → MayStandAll s (l ∷ lines) → CanBeEntered s l
can_first s (line.Login name) lines m = tt
can_first s (line.Send name text) lines m = (m.mean name m.stand.1, m.stand.0.1)
can_first s (line.Channel name channel text) lines m = (m.mean name m.stand.1, m.stand.0.1, m.stand.0.2)
can_first s (line.Logout name) lines m = m.mean name m.stand.1
can_first s (line.Drop name) lines m = m.mean name m.stand.1
can_first s (line.Tick moment) lines m = tt

-- the names that mean a connection after the line
mean_after : (pass : ℕ) (s t : Said) (names : LineNames) (l : Line) (e : Event) → AllMean names s.means → IsLineEvent pass s l e t → AllMean (names_after names l) t.means
mean_after pass s t names (line.Login name) e mean h = subst (AllMean (names_after names (line.Login name))) (sym h.2) (login_means names s.means name h.0 mean)
mean_after pass s t names (line.Send name text) e mean h = subst (AllMean names) (sym h.4) mean
mean_after pass s t names (line.Channel name channel text) e mean h = subst (AllMean names) (sym h.4) mean
mean_after pass s t names (line.Logout name) e mean h = subst (AllMean (sets.remove names name)) (sym h.4) (left_means names s.means name mean)
mean_after pass s t names (line.Drop name) e mean h = subst (AllMean (sets.remove names name)) (sym h.4) (left_means names s.means name mean)
mean_after pass s t names (line.Tick moment) e mean h = subst (AllMean names) (sym h.1) mean

-- and after all lines
pub mean_through : (pass : ℕ) (s t : Said) (names : LineNames) (lines : List Line) (events : List Event) → AllMean names s.means → AreLineEvents pass s lines events t → AllMean (names_through names lines) t.means
mean_through pass s t names [] [] mean h = subst (λ (x : Said). AllMean names x.means) (sym h) mean
mean_through pass s t names (l ∷ lines) (e ∷ events) mean h = mean_through pass h.0 t (names_after names l) lines events (mean_after pass s h.0 names l e mean h.1) h.2
mean_through pass s t names [] (e ∷ events) mean h = absurd h
mean_through pass s t names (l ∷ lines) [] mean h = absurd h

-- and then the others can be
pub stand_rest : (pass : ℕ) (s t : Said) (l : Line) (lines : List Line) (e : Event) → MayStandAll s (l ∷ lines) → IsLineEvent pass s l e t → MayStandAll t lines
stand_rest pass s t l lines e m is = record { names = names_after m.names l; mean = mean_after pass s t m.names l e m.mean is; stand = m.stand.2 }

-- where a Connect finds no number, numbers have come to their end
pub connect_ends : (o : Opened) (pass : ℕ) (name : List ℕ) (next : ℕ) (old new : List Event) → Entered o pass (event.Connect pass name (connected.Exhausted next) ∷ []) old new → next ≡ NUMBERS_END
connect_ends o pass name next old new e = numbers_end o e.before (event.Connect pass name (connected.Exhausted next)) next refl (subst (IsLegal o) e.front e.legal)
