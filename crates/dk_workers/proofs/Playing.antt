-- Phases, from the calls that they make, one after another.
use Rattle.std.proofs.Common.{◌≡◌, ℕ, ◌+◌, ◌<◌, Some, List, [], ◌∷◌, ◌++◌, length, Result, Ok, Err, IfErr, OnOk, refl, sym, ap, subst, ◌∙◌}
use Rattle.std.specs.List.{All, AllByRecursion}
use Rattle.std.specs.FinSet as sets
use Rattle.std.proofs.lemmas.List.Elements.{All-head, All-tail}
use Rattle.dk_types.specs.declared.event.Event.{Event}
use Rattle.dk_types.specs.declared.event.ClaimReply.{ClaimReply}
use Rattle.dk_types.specs.declared.event.ClaimReply.TheVariants as claimed
use Rattle.dk_model.specs.declared.script.Line.{Line}
use Rattle.dk_model.specs.Lawful.{AreLawful}
use Rattle.dk_model.specs.Legal.{Opened, pass_of}
use Rattle.dk_model.specs.Scripts.{LineNames, AllStand, names_through}
use Rattle.dk_turn.specs.Fronts.{Known}
use Rattle.dk_play_laws.specs.AloneLaw.{AreNamed}
use Rattle.dk_play_laws.specs.BegunLaw.{HaveEntered, HaveBegun, HasBegunPhase}
use Rattle.dk_play_laws.specs.LineEvents.{Said, nothing_said, AreLineEvents, AreHandEvents}
use Rattle.dk_play_laws.specs.Phased.{IsBetween, IsDrain, IsPhaseTo, IsSpentAt}
use Rattle.dk_play_laws.specs.Seen.{AreNumbered, AreBehind}
use Rattle.dk_play_laws.proofs.Begun.{nothing_entered, phases_entered, begun_first}
use Rattle.dk_play_laws.proofs.Phasing.{phases_follow, spent_phases, nothing_played}
use Rattle.dk_workers.specs.Drains.{HasDrained, Drains}
use Rattle.dk_workers.specs.Lines.{PassEnters, EntersLines, HandsAll}
use Rattle.dk_workers.specs.Logins.{AllMean, MayStandAll}
use Rattle.dk_workers.specs.Phases.{HasPlayedOne, HasSpentAll, PlaysOne, PlaysAll}
use Rattle.dk_workers.specs.declared.play.fault.PlayFault.{PlayFault}
use Rattle.dk_workers.specs.declared.play.fault.PlayFault.TheVariants as fault
use Rattle.dk_workers.proofs.Meanings.{none_mean}
use Rattle.dk_workers.proofs.Passing.{goes_by}
use Rattle.dk_workers.proofs.Standing.{mean_through}

-- what holds of each event of a list
all_each : (P : Event → Type 0) (events : List Event) → All P events → AllByRecursion P events
all_each P [] all = tt
all_each P (e ∷ events) all = (All-head P e events all, all_each P events (All-tail P e events all))

-- events of so many passes
pub named_up_to : (count n : ℕ) (events : List Event) → count ≡ n + 1 → All (λ e. pass_of e < count) events → AreNamed n events
named_up_to count n events is all = subst (λ (k : ℕ). AllByRecursion (λ e. pass_of e < k) events) is (all_each (λ e. pass_of e < count) events all)

module _ (o : Opened) (count : ℕ) (lines : List Line) (s t : Said) (marks marked : List ℕ) (mark : ℕ) (workers after : List (Known Event)) (old m e d : Known Event)
    (to_mark : PassEnters o count [] old m) (at_mark : mark ≡ length m.front) (is_marked : marked ≡ marks ++ mark ∷ []) (entered : EntersLines o count m e s lines t) where
  -- a phase up to its drain
  phase_to : (reply : ClaimReply) → IsDrain reply workers after e d → IsPhaseTo reply lines s t mark workers after old d
  phase_to reply drain = record {
    marked = m;
    entered = e;
    line_events = entered.events;
    to_mark = goes_by o count [] old m to_mark;
    at_mark = at_mark;
    to_lines = goes_by o count entered.events m e entered.by;
    are_lines = subst (λ (k : ℕ). AreLineEvents k s lines entered.events t) to_mark.number entered.are_events;
    drain = drain;
  }

  number_then : (reply : ClaimReply) → IsDrain reply workers after e d → d.number ≡ old.number
  number_then reply drain = drain.last.goes.number ∙ drain.second.main.number ∙ drain.first.main.number ∙ entered.by.number ∙ to_mark.number

  pub one_played : (new : Known Event) → HasDrained claimed.Nothing o count workers after e d → HandsAll o count d new t.opened → HasPlayedOne o count lines s t marks marked workers after old new
  one_played new h hands = record {
    mark = mark;
    is_marked = is_marked;
    phase = record {
      drained = d;
      hand_events = hands.events;
      to_drain = phase_to claimed.Nothing h.drain;
      to_hands = goes_by o count hands.events d new hands.by;
      are_hands = subst (λ (k : ℕ). AreHandEvents k t.opened hands.events) (number_then claimed.Nothing h.drain) hands.are_hands;
    };
    legal = hands.by.enters.legal h.legal;
    named = hands.by.enters.named h.named;
  }

  pub all_spent : (granted : ℕ) → HasDrained (claimed.Spent granted) o count workers after e d → HasSpentAll o count granted lines s workers after old d
  all_spent granted h = record { mark = mark; said = t; phase = phase_to (claimed.Spent granted) h.drain; legal = h.legal; named = h.named }

  -- where the drain has a fault, so has the phase
  pub drain_fault : (f : PlayFault) → Drains o count (Err f) workers after e d → PlaysOne o count (Err f) lines s t marks marked workers after old d
  drain_fault fault.NoMemory h = h
  drain_fault fault.DiskFault h = h
  drain_fault (fault.Budget granted) h = all_spent granted h
  drain_fault (fault.JournalFull length) h = h
  drain_fault (fault.Exhausted next) h = h

-- phases that were played, and those that are left
pub record IsPlayedTo (o : Opened) (size : ℕ) (done left : List (List Line)) (s : Said) (marks : List ℕ) (workers : List (Known Event)) (main : Known Event) : Type 0 where
  pub between : IsBetween o done marks s workers main
  pub entered : HaveEntered done s workers main
  pub same_size : length workers ≡ size
  pub names : LineNames
  pub mean : AllMean names s.means
  pub stand : AllStand names left

-- nothing is played yet
pub played_none : (o : Opened) (script : List (List Line)) (s : Said) (marks : List ℕ) (workers : List (Known Event)) (main : Known Event) → s ≡ nothing_said → marks ≡ [] → AreNumbered 0 workers → main.number ≡ length workers → AreBehind workers main.front
    → main.front ≡ [] → AllStand sets.empty script → IsPlayedTo o (length workers) [] ([] ∷ script) s marks workers main
played_none o script s marks workers main is unmarked numbered number behind fresh stand = record {
  between = subst (λ (ms : List ℕ). IsBetween o [] ms s workers main) (sym unmarked) (subst (λ (x : Said). IsBetween o [] [] x workers main) (sym is) (nothing_played o workers main numbered number behind fresh));
  entered = subst (λ (x : Said). HaveEntered [] x workers main) (sym is) (nothing_entered workers main numbered number behind fresh);
  same_size = refl;
  names = sets.empty;
  mean = none_mean s.means;
  stand = (tt, stand);
}

module _ (o : Opened) (count size : ℕ) (done left : List (List Line)) (lines : List Line) (s : Said) (marks : List ℕ) (workers : List (Known Event)) (main : Known Event) (to : IsPlayedTo o size done (lines ∷ left) s marks workers main) (is_count : count ≡ size + 1) where
  -- the lines of the next phase may stand
  pub played_stands : MayStandAll s lines
  played_stands = record { names = to.names; mean = to.mean; stand = to.stand.0 }

  named_here : (events : List Event) → All (λ e. pass_of e < count) events → AreNamed (length workers) events
  named_here events all = named_up_to count (length workers) events (is_count ∙ ap (λ (k : ℕ). k + 1) (sym to.same_size)) all

  -- one phase more is played
  pub played_more : (t : Said) (marked : List ℕ) (after : List (Known Event)) (new : Known Event) → AreLawful o.rules → HasPlayedOne o count lines s t marks marked workers after main new → IsPlayedTo o size (done ++ lines ∷ []) left t marked after new
  played_more t marked after new lawful one =
      let named = named_here new.front one.named in
      let next = phases_follow o done marks lines s t one.mark workers after main new lawful to.between one.phase one.legal named in
      let p = one.phase.to_drain in
      let same : new.number ≡ main.number = one.phase.to_hands.number ∙ p.drain.last.goes.number ∙ p.drain.second.main.number ∙ p.drain.first.main.number ∙ p.to_lines.number ∙ p.to_mark.number in
      record {
        between = subst (λ (ms : List ℕ). IsBetween o (done ++ lines ∷ []) ms t after new) (sym one.is_marked) next;
        entered = phases_entered done lines s t one.mark workers after main new to.entered one.phase;
        same_size = sym next.number ∙ same ∙ to.between.number ∙ to.same_size;
        names = names_through to.names lines;
        mean = mean_through main.number s t to.names lines p.line_events to.mean p.are_lines;
        stand = to.stand.1;
      }

  -- or it was begun
  pub played_begun : (after : List (Known Event)) (new : Known Event) → HasBegunPhase lines s workers after main new → HaveBegun (done ++ lines ∷ left) after new
  played_begun after new b = begun_first done left lines s workers after main new to.entered b

  -- or the budget is spent
  pub played_spent : (most granted : ℕ) (after : List (Known Event)) (new : Known Event) → o.budget ≡ Some most → HasSpentAll o count granted lines s workers after main new → IsSpentAt o granted after new
  played_spent most granted after new budget spent =
      spent_phases o most granted done marks lines s spent.said spent.mark workers after main new budget to.between spent.phase spent.legal (named_here new.front spent.named)

  -- or there was a fault
  pub played_fault : {V : Type 0} (marks_of : V → List ℕ) (script : List (List Line)) (f : PlayFault) (most : ℕ) (t : Said) (marked : List ℕ) (after : List (Known Event)) (new : Known Event) → o.budget ≡ Some most
      → PlaysOne o count (Err f) lines s t marks marked workers after main new → PlaysAll o script marks_of (Err f) after new
  played_fault marks_of script fault.NoMemory most t marked after new budget h = h
  played_fault marks_of script fault.DiskFault most t marked after new budget h = h
  played_fault marks_of script (fault.Budget granted) most t marked after new budget h = played_spent most granted after new budget h
  played_fault marks_of script (fault.JournalFull length_) most t marked after new budget h = h
  played_fault marks_of script (fault.Exhausted next) most t marked after new budget h = h

-- the answer of the hands is that of the phase
pub hand_fault : (o : Opened) (count : ℕ) (r : Result (Unit {0}) PlayFault) (lines : List Line) (s t : Said) (marks marked : List ℕ) (workers after : List (Known Event)) (old new : Known Event) {H : Type 0}
    → IfErr r (λ why. why ≡ fault.NoMemory) → (H → HasPlayedOne o count lines s t marks marked workers after old new) → OnOk r H → PlaysOne o count r lines s t marks marked workers after old new
hand_fault o count (Ok done) lines s t marks marked workers after old new none then_played handed = then_played handed
hand_fault o count (Err why) lines s t marks marked workers after old new none then_played handed =
    subst (λ (f : PlayFault). PlaysOne o count (Err f) lines s t marks marked workers after old new) (sym none) tt
