-- The events of lines and of hands are those of the model's play.
use Rattle.std.proofs.Common.{◌≡◌, ℕ, true, List, [], ◌∷◌, refl, ap, subst, ◌∙◌, take_all}
use Rattle.dk_types.specs.declared.number.ConnNo.{ConnNo}
use Rattle.dk_types.specs.declared.job.Out.{Out}
use Rattle.dk_types.specs.declared.event.Event.{Event}
use Rattle.dk_types.specs.declared.event.Event.TheVariants as event
use Rattle.dk_types.specs.declared.limits.TheConstants.{OUTS_MOST_COUNT}
use Rattle.dk_model.specs.declared.script.Line.{Line}
use Rattle.dk_model.specs.declared.script.Line.TheVariants as line
use Rattle.dk_model.specs.Worlds.{World}
use Rattle.dk_model.specs.Events.{Meaning, Happens, outbox}
use Rattle.dk_model.specs.Histories.{Leads}
use Rattle.dk_model.specs.Transcripts.{PlaysLine, PlaysLines, Hands}
use Rattle.dk_progress.proofs.Fits.{AreWithin}
use Rattle.dk_play_laws.specs.Reported.{is_reported, reported_of}
use Rattle.dk_play_laws.specs.LineEvents.{Said, playing_at, IsLineEvent, AreLineEvents, AreHandEvents}
use Rattle.dk_play_laws.proofs.Boxes.{within_happens}
use Rattle.dk_play_laws.proofs.Reported.{told_first}

-- a line is entered
entered : (rules : Meaning) (pass : ℕ) (w : World) (s : Said) (l : Line) (e : Event) (after : World) (t : Said) → IsLineEvent pass s l e t → Happens rules w e after → PlaysLine rules (playing_at w s) l e (playing_at after t)
entered rules pass w s (line.Login name) e after t is h = (pass, is.0, is.1, h, is.2, is.3)
entered rules pass w s (line.Send name text) e after t is h = (pass, is.0, is.1, is.2, is.3, h, is.4, is.5)
entered rules pass w s (line.Channel name channel text) e after t is h = (pass, is.0, is.1, is.2, is.3, h, is.4, is.5)
entered rules pass w s (line.Logout name) e after t is h = (pass, is.0, is.1, is.2, is.3, h, is.4, is.5)
entered rules pass w s (line.Drop name) e after t is h = (pass, is.0, is.1, is.2, is.3, h, is.4, is.5)
entered rules pass w s (line.Tick moment) e after t is h = (pass, is.0, h, is.1, is.2)

-- and so are lines
pub entered_all : (rules : Meaning) (pass : ℕ) (w : World) (s : Said) (lines : List Line) (events : List Event) (after : World) (t : Said) → AreLineEvents pass s lines events t → Leads rules w events after
    → PlaysLines rules (playing_at w s) lines events (playing_at after t)
entered_all rules pass w s [] [] after t is h = ap (playing_at after) is ∙ ap (λ (x : World). playing_at x s) h
entered_all rules pass w s (l ∷ lines) (e ∷ events) after t is h =
    (playing_at h.0 is.0, entered rules pass w s l e h.0 is.0 is.1 h.1, entered_all rules pass h.0 is.0 lines events after t is.2 h.2)
entered_all rules pass w s [] (e ∷ events) after t is h = absurd is
entered_all rules pass w s (l ∷ lines) [] after t is h = absurd is

-- each connection is handed all that waits for it, since no more waits than is handed at once
pub handed_all : (rules : Meaning) (pass : ℕ) (w : World) (conns : List ConnNo) (events : List Event) (after : World) → AreHandEvents pass conns events → AreWithin w.connections → Leads rules w events after
    → Hands rules w conns events after
handed_all rules pass w [] [] after is within h = h
handed_all rules pass w (conn ∷ conns) (e ∷ events) after is within h =
    let happens : Happens rules w (event.Hand pass conn OUTS_MOST_COUNT is.0 is.1) h.0 = subst (λ (x : Event). Happens rules w x h.0) is.2 h.1 in
    let all : is.0 ≡ outbox w conn = happens.0 ∙ take_all OUTS_MOST_COUNT (outbox w conn) (within conn) in (
      h.0,
      pass,
      OUTS_MOST_COUNT,
      is.1,
      is.2 ∙ ap (λ (outs : List Out). event.Hand pass conn OUTS_MOST_COUNT outs is.1) all,
      h.1,
      handed_all rules pass h.0 conns events after is.3 (within_happens rules w e h.0 within h.1) h.2,
    )
handed_all rules pass w [] (e ∷ events) after is within h = absurd is
handed_all rules pass w (conn ∷ conns) [] after is within h = absurd is

-- the event of a line is told
line_told : (pass : ℕ) (s : Said) (l : Line) (e : Event) (t : Said) → IsLineEvent pass s l e t → is_reported e ≡ true
line_told pass s (line.Login name) e t is = ap is_reported is.1
line_told pass s (line.Send name text) e t is = ap is_reported is.3
line_told pass s (line.Channel name channel text) e t is = ap is_reported is.3
line_told pass s (line.Logout name) e t is = ap is_reported is.3
line_told pass s (line.Drop name) e t is = ap is_reported is.3
line_told pass s (line.Tick moment) e t is = ap is_reported is.0

-- all events of lines are told
pub lines_told : (pass : ℕ) (s : Said) (lines : List Line) (events : List Event) (t : Said) → AreLineEvents pass s lines events t → reported_of events ≡ events
lines_told pass s [] [] t is = refl
lines_told pass s (l ∷ lines) (e ∷ events) t is = told_first e events (line_told pass s l e is.0 is.1) ∙ ap (λ (es : List Event). e ∷ es) (lines_told pass is.0 lines events t is.2)
lines_told pass s [] (e ∷ events) t is = absurd is
lines_told pass s (l ∷ lines) [] t is = absurd is

-- and so are all hands
pub hands_told : (pass : ℕ) (conns : List ConnNo) (events : List Event) → AreHandEvents pass conns events → reported_of events ≡ events
hands_told pass [] [] is = refl
hands_told pass (conn ∷ conns) (e ∷ events) is = told_first e events (ap is_reported is.2) ∙ ap (λ (es : List Event). e ∷ es) (hands_told pass conns events is.3)
hands_told pass [] (e ∷ events) is = absurd is
hands_told pass (conn ∷ conns) [] is = absurd is
