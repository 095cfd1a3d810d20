-- The calls of a pass one behind another.
use Rattle.std.proofs.Common.{◌≡◌, ℕ, ◌<◌, List, [], ◌∷◌, ◌++◌, refl, subst, ◌∙◌}
use Rattle.std.specs.List.{All}
use Rattle.dk_types.specs.declared.number.ConnNo.{ConnNo}
use Rattle.dk_types.specs.declared.event.Event.{Event}
use Rattle.dk_model.specs.declared.script.Line.{Line}
use Rattle.dk_model.specs.Legal.{Opened, pass_of}
use Rattle.dk_turn.specs.Fronts.{Known}
use Rattle.dk_host.specs.Calls.{Entered}
use Rattle.dk_host.specs.Passes.{Enters}
use Rattle.dk_host.proofs.Entering.{enters_none, enters_one, enters_then}
use Rattle.dk_play_laws.specs.LineEvents.{Said, IsLineEvent, AreLineEvents, AreHandEvents}
use Rattle.dk_play_laws.specs.Phased.{GoesOn}
use Rattle.dk_workers.specs.Lines.{PassEnters, EntersLine, EntersLines, HandsAll}

module _ (o : Opened) (count : ℕ) where
  -- nothing was called
  pub passes_none : (p : Known Event) → PassEnters o count [] p p
  passes_none p = record { number = refl; enters = enters_none o count p.number p.front }

  -- one call
  pub passes_one : (events : List Event) (old new : Known Event) → new.number ≡ old.number → Entered o old.number events old.front new.front → All (λ e. pass_of e < count) new.front → PassEnters o count events old new
  passes_one events old new number e named = record { number = number; enters = enters_one o count old.number events old.front new.front e named }

  -- calls, and then others
  pub passes_then : (first second : List Event) (old mid new : Known Event) → PassEnters o count first old mid → PassEnters o count second mid new → PassEnters o count (first ++ second) old new
  passes_then first second old mid new a b = record {
    number = b.number ∙ a.number;
    enters = enters_then o count old.number first second old.front mid.front new.front a.enters (subst (λ (k : ℕ). Enters o count k second mid.front new.front) a.number b.enters);
  }

  -- what the laws of plays see of them
  pub goes_by : (events : List Event) (old new : Known Event) → PassEnters o count events old new → GoesOn events old new
  goes_by events old new p = record { number = p.number; begins = p.enters.begins; own_events = p.enters.own_events }

-- one line more
lines-push : (pass : ℕ) (s t u : Said) (lines : List Line) (events : List Event) (l : Line) (e : Event) → AreLineEvents pass s lines events t → IsLineEvent pass t l e u → AreLineEvents pass s (lines ++ l ∷ []) (events ++ e ∷ []) u
lines-push pass s t u [] [] l e is one = (u, subst (λ (x : Said). IsLineEvent pass x l e u) is one, refl)
lines-push pass s t u (k ∷ lines) (d ∷ events) l e is one = (is.0, is.1, lines-push pass is.0 t u lines events l e is.2 one)
lines-push pass s t u [] (d ∷ events) l e is one = absurd is
lines-push pass s t u (k ∷ lines) [] l e is one = absurd is

-- no line is entered yet
pub no_lines : (o : Opened) (count : ℕ) (p : Known Event) (s : Said) → EntersLines o count p p s [] s
no_lines o count p s = record { events = []; by = passes_none o count p; are_events = refl }

pub lines_then : (o : Opened) (count : ℕ) (old mid new : Known Event) (s t u : Said) (lines : List Line) (l : Line) → EntersLines o count old mid s lines t → EntersLine o count mid new t l u → EntersLines o count old new s (lines ++ l ∷ []) u
lines_then o count old mid new s t u lines l f g = record {
  events = f.events ++ g.event ∷ [];
  by = passes_then o count f.events (g.event ∷ []) old mid new f.by g.by;
  are_events = lines-push old.number s t u lines f.events l g.event f.are_events (subst (λ (k : ℕ). IsLineEvent k t l g.event u) f.by.number g.is_event);
}

-- one connection more
hands-push : (pass : ℕ) (conns : List ConnNo) (events : List Event) (conn : ConnNo) (e : Event) → AreHandEvents pass conns events → AreHandEvents pass (conn ∷ []) (e ∷ []) → AreHandEvents pass (conns ++ conn ∷ []) (events ++ e ∷ [])
hands-push pass [] [] conn e is one = one
hands-push pass (k ∷ conns) (d ∷ events) conn e is one = (is.0, is.1, is.2, hands-push pass conns events conn e is.3 one)
hands-push pass [] (d ∷ events) conn e is one = absurd is
hands-push pass (k ∷ conns) [] conn e is one = absurd is

pub no_hands : (o : Opened) (count : ℕ) (p : Known Event) → HandsAll o count p p []
no_hands o count p = record { events = []; by = passes_none o count p; are_hands = tt }

pub hands_then : (o : Opened) (count : ℕ) (old mid new : Known Event) (conns : List ConnNo) (conn : ConnNo) (e : Event) → HandsAll o count old mid conns → PassEnters o count (e ∷ []) mid new → AreHandEvents mid.number (conn ∷ []) (e ∷ [])
    → HandsAll o count old new (conns ++ conn ∷ [])
hands_then o count old mid new conns conn e f by is = record {
  events = f.events ++ e ∷ [];
  by = passes_then o count f.events (e ∷ []) old mid new f.by by;
  are_hands = hands-push old.number conns f.events conn e f.are_hands (subst (λ (k : ℕ). AreHandEvents k (conn ∷ []) (e ∷ [])) f.by.number is);
}
