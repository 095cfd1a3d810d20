-- What the passes of a play enter for a script.
use Rattle.std.proofs.Common.{◌≡◌, ℕ, Bool, true, false, cond, inl, inr, Option, None, Some, List, [], ◌∷◌, ◌++◌, length, refl, sym, ap, subst, ◌∙◌, append_assoc}
use Rattle.std.specs.List.{AllByRecursion}
use Rattle.std.proofs.lemmas.Bool.Decides.{eqb_tells}
use Rattle.std.proofs.lemmas.List.{append-nil}
use Rattle.std.proofs.lemmas.List.Elements.{filter-append}
use Rattle.dk_types.specs.declared.number.ConnNo.{ConnNo}
use Rattle.dk_types.specs.declared.number.RunNo.{RunNo}
use Rattle.dk_types.specs.declared.event.Event.{Event}
use Rattle.dk_types.specs.declared.event.Event.TheVariants as event
use Rattle.dk_types.specs.declared.event.ClaimReply.{ClaimReply}
use Rattle.dk_model.specs.declared.script.Line.{Line}
use Rattle.dk_model.specs.declared.script.Line.TheVariants as line
use Rattle.dk_model.specs.Legal.{pass_of}
use Rattle.dk_turn.specs.Fronts.{Known}
use Rattle.dk_play_laws.specs.AloneLaw.{AreNamed}
use Rattle.dk_play_laws.specs.BegunLaw.{entered_by, HasEntered, HaveOnlyWorked, HasWorkers, NothingIsEntered, PhasesAreEntered, BegunPhasesAreFirst, AllPhasesAreFirst, BegunStandsOn, BegunIsSeen}
use Rattle.dk_play_laws.specs.FirstParts.{is_scripted, scripted_of, ArePhaseEvents, AreScriptEvents, IsFirstPart}
use Rattle.dk_play_laws.specs.LineEvents.{Said, nothing_said, IsLineEvent, AreLineEvents, AreHandEvents}
use Rattle.dk_play_laws.specs.Phased.{GoesOn, HasMet, HaveMet, HasWorkedOn, IsDrain, IsPhase}
use Rattle.dk_play_laws.specs.Seen.{AreBehind, HaveSeen, ArePaired}
use Rattle.dk_play_laws.specs.Worked.{Handles, AreWorked}
use Rattle.dk_play_laws.proofs.Drained.{paired_numbered, paired_count}
use Rattle.dk_play_laws.proofs.Own.{of_pass, of_first, of_rest, of_all, only_of, none_below, nothing_left}

-- ---- which events a script makes

scripted_cons : (e : Event) (events : List Event) (b : Bool) → is_scripted e ≡ b → scripted_of (e ∷ events) ≡ cond b (e ∷ scripted_of events) (scripted_of events)
scripted_cons e events b is = ap (λ t. cond t (e ∷ scripted_of events) (scripted_of events)) is

pub scripted_first : (e : Event) (events : List Event) → is_scripted e ≡ true → scripted_of (e ∷ events) ≡ e ∷ scripted_of events
scripted_first e events is = scripted_cons e events true is

pub scripted_rest : (e : Event) (events : List Event) → is_scripted e ≡ false → scripted_of (e ∷ events) ≡ scripted_of events
scripted_rest e events is = scripted_cons e events false is

pub scripted_append : (xs ys : List Event) → scripted_of (xs ++ ys) ≡ scripted_of xs ++ scripted_of ys
scripted_append xs ys = filter-append is_scripted xs ys

-- what a worker enters is none of them
handled_none : (hand : Option RunNo) (e : Event) (after : Option RunNo) → Handles hand e after → is_scripted e ≡ false
handled_none hand (event.Claim pass reply) after h = refl
handled_none hand (event.Commit pass run seq outcome) after h = refl
handled_none hand (event.Release pass run) after h = refl
handled_none None (event.Connect pass name reply) after h = absurd h
handled_none None (event.Post pass conn input reply) after h = absurd h
handled_none None (event.Hand pass conn most outs end) after h = absurd h
handled_none None (event.Tick pass moment) after h = absurd h
handled_none (Some run) (event.Connect pass name reply) after h = absurd h
handled_none (Some run) (event.Post pass conn input reply) after h = absurd h
handled_none (Some run) (event.Hand pass conn most outs end) after h = absurd h
handled_none (Some run) (event.Tick pass moment) after h = absurd h

pub worked_none : (hand : Option RunNo) (events : List Event) (after : Option RunNo) → AreWorked hand events after → scripted_of events ≡ []
worked_none hand [] after h = refl
worked_none hand (e ∷ events) after h = scripted_rest e events (handled_none hand e h.0 h.1) ∙ worked_none h.0 events after h.2

-- what is entered for a line is one of them
pub line_scripted : (pass : ℕ) (s : Said) (l : Line) (e : Event) (t : Said) → IsLineEvent pass s l e t → is_scripted e ≡ true
line_scripted pass s (line.Login name) e t is = ap is_scripted is.1
line_scripted pass s (line.Send name text) e t is = ap is_scripted is.3
line_scripted pass s (line.Channel name channel text) e t is = ap is_scripted is.3
line_scripted pass s (line.Logout name) e t is = ap is_scripted is.3
line_scripted pass s (line.Drop name) e t is = ap is_scripted is.3
line_scripted pass s (line.Tick moment) e t is = ap is_scripted is.0

pub lines_scripted : (pass : ℕ) (s : Said) (lines : List Line) (events : List Event) (t : Said) → AreLineEvents pass s lines events t → scripted_of events ≡ events
lines_scripted pass s [] [] t is = refl
lines_scripted pass s (l ∷ lines) (e ∷ events) t is =
    scripted_first e events (line_scripted pass s l e is.0 is.1) ∙ ap (λ (es : List Event). e ∷ es) (lines_scripted pass is.0 lines events t is.2)
lines_scripted pass s [] (e ∷ events) t is = absurd is
lines_scripted pass s (l ∷ lines) [] t is = absurd is

-- and so is what is handed
pub hands_scripted : (pass : ℕ) (conns : List ConnNo) (events : List Event) → AreHandEvents pass conns events → scripted_of events ≡ events
hands_scripted pass [] [] is = refl
hands_scripted pass (conn ∷ conns) (e ∷ events) is = scripted_first e events (ap is_scripted is.2) ∙ ap (λ (es : List Event). e ∷ es) (hands_scripted pass conns events is.3)
hands_scripted pass [] (e ∷ events) is = absurd is
hands_scripted pass (conn ∷ conns) [] is = absurd is

-- ---- what a pass entered, call after call

pub entered_then : (xs ys : List Event) (p q r : Known Event) → HasEntered xs p q → HasEntered ys q r → HasEntered (xs ++ ys) p r
entered_then xs ys p q r a b = record {
  number = b.number ∙ a.number;
  own_events = b.own_events ∙ ap (λ (es : List Event). es ++ ys) a.own_events ∙ append_assoc (entered_by p) xs ys;
}

-- a pass that went on, by what is scripted of its events
pub goes_entered : (events es : List Event) (p q : Known Event) → GoesOn events p q → scripted_of events ≡ es → HasEntered es p q
goes_entered events es p q goes is = record {
  number = goes.number;
  own_events = ap (λ (k : ℕ). scripted_of (of_pass k q.front)) goes.number ∙ ap scripted_of goes.own_events ∙ scripted_append (of_pass p.number p.front) events
      ∙ ap (λ (xs : List Event). entered_by p ++ xs) is;
}

pub stands_entered : (p : Known Event) → HasEntered [] p p
stands_entered p = record { number = refl; own_events = sym (append-nil (entered_by p)) }

-- a meeting enters nothing, and work enters none of a script
met_entered : (from to : List Event) (p q : Known Event) → HasMet from to p q → HasEntered [] p q
met_entered from to p q m = record {
  number = m.number;
  own_events = ap (λ (k : ℕ). scripted_of (of_pass k q.front)) m.number ∙ ap scripted_of m.continues.none_beyond ∙ sym (append-nil (entered_by p));
}

pub worked_entered : (p q : Known Event) → HasWorkedOn p q → HasEntered [] p q
worked_entered p q w = goes_entered w.events [] p q w.goes (worked_none None w.events None w.worked)

-- ---- several passes

paired_each : (R S : Known Event → Known Event → Type 0) → ((p q : Known Event) → R p q → S p q) → (before after : List (Known Event)) → ArePaired R before after → ArePaired S before after
paired_each R S f [] [] pairs = tt
paired_each R S f (p ∷ before) (q ∷ after) pairs = (f p q pairs.0, paired_each R S f before after pairs.1)
paired_each R S f [] (q ∷ after) pairs = absurd pairs
paired_each R S f (p ∷ before) [] pairs = absurd pairs

pub paired_same : (passes : List (Known Event)) → ArePaired (HasEntered []) passes passes
paired_same [] = tt
paired_same (p ∷ passes) = (stands_entered p, paired_same passes)

paired_then : (before mid after : List (Known Event)) → ArePaired (HasEntered []) before mid → ArePaired (HasEntered []) mid after → ArePaired (HasEntered []) before after
paired_then [] [] [] f g = tt
paired_then (p ∷ before) (q ∷ mid) (r ∷ after) f g = (entered_then [] [] p q r f.0 g.0, paired_then before mid after f.1 g.1)
paired_then [] (q ∷ mid) after f g = absurd f
paired_then (p ∷ before) [] after f g = absurd f
paired_then [] [] (r ∷ after) f g = absurd g
paired_then (p ∷ before) (q ∷ mid) [] f g = absurd g

pub only_then : (a b c : List (Known Event)) (p q r : Known Event) → HaveOnlyWorked a b p q → HaveOnlyWorked b c q r → HaveOnlyWorked a c p r
only_then a b c p q r f g = record { main = entered_then [] [] p q r f.main g.main; each = paired_then a b c f.each g.each }

-- a round
pub only_met : (workers after : List (Known Event)) (old new : Known Event) → HaveMet workers after old new → HaveOnlyWorked workers after old new
only_met workers after old new m = record {
  main = goes_entered [] [] old new m.main refl;
  each = paired_each (HasMet old.front new.front) (HasEntered []) (met_entered old.front new.front) workers after m.each;
}

-- the workers' work
pub only_each : (workers after : List (Known Event)) (main : Known Event) → ArePaired HasWorkedOn workers after → HaveOnlyWorked workers after main main
only_each workers after main works = record { main = stands_entered main; each = paired_each HasWorkedOn (HasEntered []) worked_entered workers after works }

-- the main pass's own work
pub only_main : (workers : List (Known Event)) (old new : Known Event) → HasWorkedOn old new → HaveOnlyWorked workers workers old new
only_main workers old new w = record { main = worked_entered old new w; each = paired_same workers }

-- a drain
only_drained : (reply : ClaimReply) (workers after : List (Known Event)) (old new : Known Event) → IsDrain reply workers after old new → HaveOnlyWorked workers after old new
only_drained reply workers after old new d =
    only_then workers d.begun after old d.at_work new (only_met workers d.begun old d.at_work d.first)
    (only_then d.begun d.ended after d.at_work d.at_work new (only_each d.begun d.ended d.at_work d.works)
    (only_then d.ended after after d.at_work d.met new (only_met d.ended after d.at_work d.met d.second)
    (only_main after d.met new record { events = d.last.events ++ event.Claim d.met.number reply ∷ []; goes = d.last.goes; worked = d.last.worked })))

-- ---- phases

-- the workers, after a step
none_still : (before after : List (Known Event)) → ArePaired (HasEntered []) before after → AllByRecursion (λ p. entered_by p ≡ []) before → AllByRecursion (λ p. entered_by p ≡ []) after
none_still [] [] pairs none = tt
none_still (p ∷ before) (q ∷ after) pairs none = (pairs.0.own_events ∙ append-nil (entered_by p) ∙ none.0, none_still before after pairs.1 none.1)
none_still [] (q ∷ after) pairs none = absurd pairs
none_still (p ∷ before) [] pairs none = absurd pairs

workers_still : (workers after : List (Known Event)) (old new : Known Event) → ArePaired (HasEntered []) workers after → new.number ≡ old.number → HasWorkers workers old → HasWorkers after new
workers_still workers after old new pairs same w = record {
  numbered = paired_numbered (HasEntered []) 0 workers after (λ p q h. h.number) pairs w.numbered;
  number = same ∙ w.number ∙ sym (paired_count (HasEntered []) workers after pairs);
  none = none_still workers after pairs w.none;
}

-- what a phase entered
phase_events : (lines : List Line) (s t : Said) (mark : ℕ) (workers after : List (Known Event)) (old new : Known Event) (ph : IsPhase lines s t mark workers after old new)
    → HasEntered (ph.to_drain.line_events ++ ph.hand_events) old new × ArePaired (HasEntered []) workers after
phase_events lines s t mark workers after old new ph =
    let to = ph.to_drain in
    let drained = only_drained _ workers after to.entered ph.drained to.drain in
    let xs : List Event = to.line_events in
    let ys : List Event = ph.hand_events in (
      entered_then [] (xs ++ ys) old to.marked new (goes_entered [] [] old to.marked to.to_mark refl)
          (entered_then xs ys to.marked to.entered new (goes_entered xs xs to.marked to.entered to.to_lines (lines_scripted old.number s lines xs t to.are_lines))
          (entered_then [] ys to.entered ph.drained new drained.main (goes_entered ys ys ph.drained new ph.to_hands (hands_scripted old.number t.opened ys ph.are_hands)))),
      drained.each,
    )

-- one phase more
script-push : (pass : ℕ) (s mid t : Said) (done : List (List Line)) (events : List Event) (lines : List Line) (more : List Event) → AreScriptEvents pass s done events mid → ArePhaseEvents pass mid lines more t
    → AreScriptEvents pass s (done ++ lines ∷ []) (events ++ more) t
script-push pass s mid t [] events lines more is one =
    (t, more, [], ap (λ (es : List Event). es ++ more) is.0 ∙ sym (append-nil more), subst (λ (x : Said). ArePhaseEvents pass x lines more t) is.1 one, (refl, refl))
script-push pass s mid t (l ∷ done) events lines more is one =
    (is.0, is.1, is.2 ++ more, ap (λ (es : List Event). es ++ more) is.3 ∙ append_assoc is.1 is.2 more, is.4, script-push pass is.0 mid t done is.2 lines more is.5 one)

-- the same of a main pass whose number is the same
at_number : (k n : ℕ) (done : List (List Line)) (events : List Event) (s : Said) → k ≡ n → AreScriptEvents k nothing_said done events s → AreScriptEvents n nothing_said done events s
at_number k n done events s same is = subst (λ (m : ℕ). AreScriptEvents m nothing_said done events s) same is

-- fronts of passes behind an empty one are empty
none_behind : (front : List Event) → front ≡ [] → (passes : List (Known Event)) → AreBehind passes front → AllByRecursion (λ p. entered_by p ≡ []) passes
none_behind front none [] behind = tt
none_behind front none (p ∷ passes) behind =
    (ap (λ (es : List Event). scripted_of (of_pass p.number es)) (nothing_left p.front behind.0.0 (behind.0.1 ∙ none)).0, none_behind front none passes behind.1)

pub nothing_entered : NothingIsEntered
nothing_entered workers main numbered number behind none = record {
  passes = record { numbered = numbered; number = number; none = none_behind main.front none workers behind };
  whole = (ap (λ (es : List Event). scripted_of (of_pass main.number es)) none, refl);
}

pub phases_entered : PhasesAreEntered
phases_entered done lines s t mark workers after old new h ph =
    let e = phase_events lines s t mark workers after old new ph in
    let xs : List Event = ph.to_drain.line_events in
    let ys : List Event = ph.hand_events in
    let pushed = script-push old.number nothing_said s t done (entered_by old) lines (xs ++ ys) h.whole record { entered = xs; handed = ys; all = refl; are_lines = ph.to_drain.are_lines; are_hands = ph.are_hands } in
    record {
      passes = workers_still workers after old new e.1 e.0.number h.passes;
      whole = at_number old.number new.number (done ++ lines ∷ []) (entered_by new) t (sym e.0.number)
          (subst (λ (es : List Event). AreScriptEvents old.number nothing_said (done ++ lines ∷ []) es t) (sym e.0.own_events) pushed);
    }

pub begun_first : BegunPhasesAreFirst
begun_first done left lines s workers after old new h b = record {
  passes = workers_still workers after old new b.each b.main.number h.passes;
  first = subst (λ (k : ℕ). IsFirstPart k (done ++ lines ∷ left) (entered_by new)) (sym b.main.number) record {
    done = done;
    left = lines ∷ left;
    parts = refl;
    said = s;
    whole = entered_by old;
    begun = b.events;
    all = b.main.own_events;
    are_whole = h.whole;
    is_begun = b.begun;
  };
}

pub all_first : AllPhasesAreFirst
all_first script s workers main h = record {
  passes = h.passes;
  first = record {
    done = script;
    left = [];
    parts = sym (append-nil script);
    said = s;
    whole = entered_by main;
    begun = [];
    all = sym (append-nil (entered_by main));
    are_whole = h.whole;
    is_begun = refl;
  };
}

pub begun_on : BegunStandsOn
begun_on script workers after old new h w =
    let same : entered_by new ≡ entered_by old = w.main.own_events ∙ append-nil (entered_by old) in
    record {
      passes = workers_still workers after old new w.each w.main.number h.passes;
      first = subst (λ (k : ℕ). IsFirstPart k script (entered_by new)) (sym w.main.number) (subst (λ (es : List Event). IsFirstPart old.number script es) (sym same) h.first);
    }

-- ---- the whole history

-- the scripted events of a pass are the pass's of the scripted ones
scripted_own : (n : ℕ) (events : List Event) → of_pass n (scripted_of events) ≡ scripted_of (of_pass n events)
scripted_own n [] = refl
scripted_own n (e ∷ events) = elim (eqb_tells (pass_of e) n) [
  | inl t ↦ elim (is_scripted e) as (λ b. is_scripted e ≡ b → of_pass n (scripted_of (e ∷ events)) ≡ scripted_of (of_pass n (e ∷ events))) [
    | true ↦ λ is.
        ap (of_pass n) (scripted_first e events is) ∙ of_first n e (scripted_of events) t.1 ∙ ap (λ (es : List Event). e ∷ es) (scripted_own n events)
        ∙ sym (scripted_first e (of_pass n events) is) ∙ ap scripted_of (sym (of_first n e events t.1))
    | false ↦ λ is. ap (of_pass n) (scripted_rest e events is) ∙ scripted_own n events ∙ sym (scripted_rest e (of_pass n events) is) ∙ ap scripted_of (sym (of_first n e events t.1))
  ] refl
  | inr t ↦ elim (is_scripted e) as (λ b. is_scripted e ≡ b → of_pass n (scripted_of (e ∷ events)) ≡ scripted_of (of_pass n (e ∷ events))) [
    | true ↦ λ is. ap (of_pass n) (scripted_first e events is) ∙ of_rest n e (scripted_of events) t.1 ∙ scripted_own n events ∙ ap scripted_of (sym (of_rest n e events t.1))
    | false ↦ λ is. ap (of_pass n) (scripted_rest e events is) ∙ scripted_own n events ∙ ap scripted_of (sym (of_rest n e events t.1))
  ] refl
]

-- what holds of all events holds of the scripted ones
scripted_named : (n : ℕ) (events : List Event) → AreNamed n events → AreNamed n (scripted_of events)
scripted_named n [] h = tt
scripted_named n (e ∷ events) h = elim (is_scripted e) as (λ b. is_scripted e ≡ b → AreNamed n (scripted_of (e ∷ events))) [
  | true ↦ λ is. subst (AreNamed n) (sym (scripted_first e events is)) (h.0, scripted_named n events h.1)
  | false ↦ λ is. subst (AreNamed n) (sym (scripted_rest e events is)) (scripted_named n events h.1)
] refl

-- the workers have none of the history's
none_of_workers : (log : List Event) (workers : List (Known Event)) → AllByRecursion (λ p. entered_by p ≡ []) workers → HaveSeen workers log → AllByRecursion (λ p. of_pass p.number (scripted_of log) ≡ []) workers
none_of_workers log [] none seen = tt
none_of_workers log (p ∷ workers) none seen = (scripted_own p.number log ∙ ap scripted_of seen.0.none_beyond ∙ none.0, none_of_workers log workers none.1 seen.1)

pub begun_seen : BegunIsSeen
begun_seen script workers main log h seen =
    let n : ℕ = length workers in
    let w = h.passes in
    let events : List Event = scripted_of log in
    let mine : of_pass n events ≡ events =
    of_all n events (only_of n events (scripted_named n log seen.named) (none_below events workers w.numbered (none_of_workers log workers w.none seen.of_workers))) in
    let known : of_pass n events ≡ entered_by main =
    scripted_own n log ∙ ap (λ (k : ℕ). scripted_of (of_pass k log)) (sym w.number) ∙ ap scripted_of seen.of_main.none_beyond in
    subst (λ (es : List Event). IsFirstPart n script es) (sym known ∙ mine) (subst (λ (k : ℕ). IsFirstPart k script (entered_by main)) w.number h.first)
