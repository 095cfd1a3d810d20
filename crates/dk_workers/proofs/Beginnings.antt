-- What a pass entered of lines, hands and phases that it did not bring to their end.
use Rattle.std.proofs.Common.{◌≡◌, inl, inr, ℕ, List, [], ◌∷◌, ◌++◌, Result, Ok, Err, OnErr, refl, sym, subst, ◌∙◌}
use Rattle.std.specs.FinMap as maps
use Rattle.std.proofs.lemmas.List.{append-nil}
use Rattle.dk_types.specs.declared.number.ConnNo.{ConnNo}
use Rattle.dk_types.specs.declared.event.Event.{Event}
use Rattle.dk_types.specs.declared.event.Event.TheVariants as event
use Rattle.dk_types.specs.declared.event.ConnectReply.TheVariants as connected
use Rattle.dk_model.specs.declared.script.Line.{Line}
use Rattle.dk_model.specs.declared.script.Line.TheVariants as line
use Rattle.dk_model.specs.Legal.{Opened}
use Rattle.dk_turn.specs.Fronts.{Known}
use Rattle.dk_play_laws.specs.BegunLaw.{HasEntered, HaveOnlyWorked, HaveBegun, HasBegunPhase}
use Rattle.dk_play_laws.specs.FirstParts.{scripted_of, AreFirstLines, AreFirstHands}
use Rattle.dk_play_laws.specs.LineEvents.{Said, AreLineEvents, AreHandEvents}
use Rattle.dk_play_laws.proofs.Begun.{entered_then, goes_entered, lines_scripted, paired_same, begun_on}
use Rattle.dk_play_laws.proofs.FirstParts.{first_none, first_one, first_refused, first_then, first_scripted, no_hands, first_hands_scripted}
use Rattle.dk_workers.specs.Lines.{PassEnters, EntersLine, EntersLines, HandsAll, BeginsLines, BeginsHands}
use Rattle.dk_workers.proofs.Passing.{passes_none, passes_then, goes_by}

-- what holds of whatever comes holds of a fault
pub on_err : {T E P : Type 0} (r : Result T E) → P → OnErr r P
on_err (Ok x) p = tt
on_err (Err why) p = p

module _ (o : Opened) (count : ℕ) where
  -- nothing was entered of a line
  pub none_begun : (old new : Known Event) (s : Said) (lines : List Line) → PassEnters o count [] old new → BeginsLines o count old new s lines
  none_begun old new s lines by = record { events = []; by = by; are_first = first_none old.number s lines }

  -- a whole line was, and then there was no memory to go on
  pub whole_begun : (old new : Known Event) (s : Said) (l : Line) (t : Said) → EntersLine o count old new s l t → BeginsLines o count old new s (l ∷ [])
  whole_begun old new s l t one = record { events = one.event ∷ []; by = one.by; are_first = first_one old.number s l one.event t one.is_event }

  -- so of a login that was answered
  pub login_begun : (old new : Known Event) (s : Said) (name : List ℕ) (conn : ConnNo) → PassEnters o count (event.Connect old.number name (connected.Number conn) ∷ []) old new → BeginsLines o count old new s (line.Login name ∷ [])
  login_begun old new s name conn by =
      whole_begun old new s (line.Login name) (record { means = maps.insert s.means name conn; opened = s.opened ++ conn ∷ [] })
      record { event = event.Connect old.number name (connected.Number conn); by = by; is_event = (conn, refl, refl, refl) }

  -- a login found no number
  pub refused_begun : (old new : Known Event) (s : Said) (name : List ℕ) (next : ℕ) → PassEnters o count (event.Connect old.number name (connected.Exhausted next) ∷ []) old new → BeginsLines o count old new s (line.Login name ∷ [])
  refused_begun old new s name next by = record { events = event.Connect old.number name (connected.Exhausted next) ∷ []; by = by; are_first = first_refused old.number s name next }

  -- lines, and then a part of the next
  pub lines_begun : (old mid new : Known Event) (s t : Said) (lines next more : List Line) → EntersLines o count old mid s lines t → BeginsLines o count mid new t next → BeginsLines o count old new s (lines ++ (next ++ more))
  lines_begun old mid new s t lines next more f b = record {
    events = f.events ++ b.events;
    by = passes_then o count f.events b.events old mid new f.by b.by;
    are_first = first_then old.number s t lines f.events next more b.events f.are_events (subst (λ (k : ℕ). AreFirstLines k t next b.events) f.by.number b.are_first);
  }

  -- hands, and then none
  pub hands_begun : (old mid new : Known Event) (conns left all : List ConnNo) → all ≡ conns ++ left → HandsAll o count old mid conns → PassEnters o count [] mid new → BeginsHands o count old new all
  hands_begun old mid new conns left all parts f by = record {
    events = f.events ++ [];
    by = passes_then o count f.events [] old mid new f.by by;
    are_first = record { done = conns; left = left; parts = parts; are_hands = subst (AreHandEvents old.number conns) (sym (append-nil f.events)) f.are_hands };
  }

  -- what the laws of plays see of calls whose events a script makes
  passes_entered : (events : List Event) (old new : Known Event) → scripted_of events ≡ events → PassEnters o count events old new → HasEntered events old new
  passes_entered events old new is by = goes_entered events events old new (goes_by o count events old new by) is

  -- a phase was marked, and no line entered
  pub mark_begun : (lines : List Line) (s : Said) (workers : List (Known Event)) (old new : Known Event) → PassEnters o count [] old new → HasBegunPhase lines s workers workers old new
  mark_begun lines s workers old new by = record { events = []; main = passes_entered [] old new refl by; each = paired_same workers; begun = inl (first_none old.number s lines) }

  module _ (lines : List Line) (s : Said) (workers : List (Known Event)) (old m : Known Event) (to_mark : PassEnters o count [] old m) where
    -- some lines were entered
    pub phase_lines_begun : (new : Known Event) → BeginsLines o count m new s lines → HasBegunPhase lines s workers workers old new
    phase_lines_begun new b = record {
      events = b.events;
      main = entered_then [] b.events old m new (passes_entered [] old m refl to_mark) (passes_entered b.events m new (first_scripted m.number s lines b.events b.are_first) b.by);
      each = paired_same workers;
      begun = inl (subst (λ (k : ℕ). AreFirstLines k s lines b.events) to_mark.number b.are_first);
    }

    module _ (t : Said) (after : List (Known Event)) (e d : Known Event) (f : EntersLines o count m e s lines t) (work : HaveOnlyWorked workers after e d) where
      -- all were, and then jobs were run, and some connections were handed their messages
      pub phase_hands_begun : (new : Known Event) → BeginsHands o count d new t.opened → HasBegunPhase lines s workers after old new
      phase_hands_begun new b =
          let xs : List Event = f.events in
          let ys : List Event = b.events in
          let same : d.number ≡ old.number = work.main.number ∙ f.by.number ∙ to_mark.number in
          record {
            events = xs ++ ys;
            main = entered_then [] (xs ++ ys) old m new (passes_entered [] old m refl to_mark)
                (entered_then xs ys m e new (passes_entered xs m e (lines_scripted m.number s lines xs t f.are_events) f.by)
                (entered_then [] ys e d new work.main (passes_entered ys d new (first_hands_scripted d.number t.opened ys b.are_first) b.by)));
            each = work.each;
            begun = inr record {
              said = t;
              entered = xs;
              handed = ys;
              all = refl;
              are_lines = subst (λ (k : ℕ). AreLineEvents k s lines xs t) to_mark.number f.are_events;
              are_hands = subst (λ (k : ℕ). AreFirstHands k t.opened ys) same b.are_first;
            };
          }

      -- or no connection was
      pub phase_drain_begun : HasBegunPhase lines s workers after old d
      phase_drain_begun = phase_hands_begun d record { events = []; by = passes_none o count d; are_first = no_hands d.number t.opened }

  -- what was begun stands where the main pass enters nothing
  pub stands_begun : (script : List (List Line)) (workers : List (Known Event)) (old new : Known Event) → HaveBegun script workers old → PassEnters o count [] old new → HaveBegun script workers new
  stands_begun script workers old new h by = begun_on script workers workers old new h record { main = passes_entered [] old new refl by; each = paired_same workers }
