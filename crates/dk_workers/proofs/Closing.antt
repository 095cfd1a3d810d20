-- From what is known of the whole history to the text.
use Rattle.std.proofs.Common.{◌≡◌, ◌≢◌, inl, inr, ℕ, Bool, true, false, IsTrue, Option, None, List, [], ◌∷◌, map, Result, Ok, Err, IfOk, IfErr, refl, sym, ap, subst, ◌∙◌}
use Rattle.std.specs.FinMap as maps
use Rattle.std.specs.List.{AllByRecursion}
use Rattle.dk_types.specs.declared.event.Event.{Event}
use Rattle.dk_model.specs.declared.script.Line.{Line}
use Rattle.dk_model.specs.Legal.{Opened, opening_of, world_after}
use Rattle.dk_model.specs.Orders.{OrderItem, AreInTurn, order_of}
use Rattle.dk_model.specs.Phases.{IsSmall, AreSmall, phases_of}
use Rattle.dk_model.specs.Transcripts.{Plays, playing, transcript_text}
use Rattle.dk_script.proofs.OrderTold.{order_of-transcript_text}
use Rattle.dk_play_laws.specs.LineEvents.{Said, playing_at}
use Rattle.dk_play_laws.specs.Phased.{HavePlayed}
use Rattle.dk_play_laws.specs.Reported.{reported_of, AreKept}
use Rattle.dk_play_laws.proofs.Reported.{silent_told, told_all}
use Rattle.dk_workers.specs.Played.{IsSavedAt, IsShown, IsSaved, IsReportedPlay, IsPlayCause, IsDiskFault, IsCounted, IsSettled, IsTextOf}
use Rattle.dk_workers.specs.declared.play.fault.PlayFault.{PlayFault}
use Rattle.dk_workers.specs.declared.play.fault.PlayFault.TheVariants as fault
use Rattle.dk_workers.specs.declared.play.saving.Saved.{Saved}
use Rattle.dk_workers.specs.declared.play.saving.Saved.TheVariants as saved
use Rattle.dk_workers.proofs.PlayOrder.{order_of-Plays}

module _ (o : Opened) (workers : ℕ) (asked : Bool) (script : List (List Line)) (history : List Event) (faults : Option ℕ) (first epoch before after : ℕ) where
  -- one worker's store was not stopped
  abbrev pub IsNotStoppedAlone : Type 0
  IsNotStoppedAlone = workers ≡ 1 → faults ≢ None → ⊥

  -- without a text there is a cause
  no_text : (f : PlayFault) → IsNotStoppedAlone → IsPlayCause o history before after f → IsTextOf o workers asked script history faults first epoch before after (Err f)
  no_text f not cause = record { told = tt; whole = tt; is_saved = λ is. tt; cause = cause; alone = λ one some risen. absurd (not one some) }

  pub disk_text : (f : PlayFault) → IsDiskFault before after f → IsTextOf o workers asked script history faults first epoch before after (Err f)
  disk_text fault.NoMemory h = record { told = tt; whole = tt; is_saved = λ is. tt; cause = tt; alone = λ one some risen. absurd (h risen) }
  disk_text fault.DiskFault h = record { told = tt; whole = tt; is_saved = λ is. tt; cause = h; alone = λ one some risen. refl }
  disk_text (fault.Budget granted) h = absurd h
  disk_text (fault.JournalFull length_) h = absurd h
  disk_text (fault.Exhausted next) h = absurd h

  pub memory_text : IsNotStoppedAlone → IsTextOf o workers asked script history faults first epoch before after (Err fault.NoMemory)
  memory_text not = no_text fault.NoMemory not tt

  -- a fault of the play
  pub fault_text : {V : Type 0} (marks_of : V → List ℕ) (saved_of : V → Saved) (phases : List (List Line)) (f told : PlayFault) → IsNotStoppedAlone → IsSettled asked o workers phases marks_of saved_of history (Err f) → IsCounted before after f told
      → IsTextOf o workers asked script history faults first epoch before after (Err told)
  fault_text marks_of saved_of phases fault.NoMemory told not h is = no_text told not (subst (IsPlayCause o history before after) (sym is) tt)
  fault_text marks_of saved_of phases fault.DiskFault told not h is = disk_text told is
  fault_text marks_of saved_of phases (fault.Budget granted) told not h is = no_text told not (subst (IsPlayCause o history before after) (sym is) h)
  fault_text marks_of saved_of phases (fault.JournalFull length_) told not h is = no_text told not (subst (IsPlayCause o history before after) (sym is) h)
  fault_text marks_of saved_of phases (fault.Exhausted next) told not h is = no_text told not (subst (IsPlayCause o history before after) (sym is) h)

  -- what became of the store
  store_saved : (s : Saved) → IsSavedAt asked o history s → IsShown s first epoch → IsTrue asked → IsSaved o history first epoch
  store_saved saved.Unasked at shown is = absurd (true_false (sym is ∙ at)) where
    true_false : ◌≡◌ {A = Bool} true false → ⊥
    true_false x = cc
  store_saved saved.Anew at shown is = inl shown
  store_saved saved.TooLarge at shown is = inr (inl (shown, at))
  store_saved saved.AtEnd at shown is = inr (inr shown)

  small_told : (phases : List (List Event)) → AreSmall phases → AreSmall (map reported_of phases)
  small_told [] small = tt
  small_told (events ∷ phases) small = (told_all IsSmall events small.0, small_told phases small.1)

  -- the text of a play is its transcript
  module _ (marks : List ℕ) (s : Said) (played : HavePlayed o workers ([] ∷ script) history marks s) (commits tasks : ℕ) (commits_are : commits ≡ (world_after o history).durable.commits)
      (tasks_are : tasks ≡ maps.len (world_after o history).durable.tasks) (text : List ℕ) (kept : AreKept history) (is_text : text ≡ transcript_text (phases_of history marks) commits tasks) where
    abbrev phases : List (List Event)
    phases = map reported_of (phases_of history marks)

    is_reported : text ≡ transcript_text phases commits tasks
    is_reported = is_text ∙ sym (silent_told (phases_of history marks) commits tasks)

    order_is : (played.played kept).order ≡ order_of text
    order_is =
        order_of-Plays o.rules (playing (opening_of o)) ([] ∷ script) (played.played kept).order phases (playing_at (world_after o history) s) (played.played kept).plays
        ∙ sym (ap order_of is_reported ∙ order_of-transcript_text phases commits tasks (small_told (phases_of history marks) played.small))

    pub told_play : IsReportedPlay o workers script history text
    told_play = record {
      transcript = record {
        phases = phases;
        end = playing_at (world_after o history) s;
        plays = subst (λ (order : List (List OrderItem)). Plays o.rules (playing (opening_of o)) ([] ∷ script) order phases (playing_at (world_after o history) s)) order_is (played.played kept).plays;
        told = is_reported ∙ ap (λ (n : ℕ). transcript_text phases n tasks) commits_are ∙ ap (λ (n : ℕ). transcript_text phases (world_after o history).durable.commits n) tasks_are;
      };
      ended = refl;
      turns = λ one. subst (AllByRecursion AreInTurn) order_is ((played.played kept).turns one);
    }

  -- what the text tells
  pub whole_text : (marks : List ℕ) (state : Saved) (commits tasks : ℕ) (events : List Event) (r : Result (List ℕ) PlayFault) → ((s : Said) × HavePlayed o workers ([] ∷ script) history marks s) × IsSavedAt asked o history state
      → commits ≡ (world_after o history).durable.commits → tasks ≡ maps.len (world_after o history).durable.tasks → faults ≡ None → IsShown state first epoch → events ≡ history
      → IfOk r (λ text. AreKept events) → IfOk r (λ text. text ≡ transcript_text (phases_of events marks) commits tasks) → IfErr r (λ why. why ≡ fault.NoMemory) → IsTextOf o workers asked script history faults first epoch before after r
  whole_text marks state commits tasks events (Ok text) settled commits_are tasks_are stopped shown same kept is_text fault_is =
      let p = settled.0 in
      record {
        told = told_play marks p.0 p.1 commits tasks commits_are tasks_are text (subst AreKept same kept) (is_text ∙ ap (λ (es : List Event). transcript_text (phases_of es marks) commits tasks) same);
        whole = stopped;
        is_saved = store_saved state settled.1 shown;
        cause = tt;
        alone = λ one some risen. absurd (some stopped);
      }
  whole_text marks state commits tasks events (Err why) settled commits_are tasks_are stopped shown same kept is_text fault_is =
      subst (λ (f : PlayFault). IsTextOf o workers asked script history faults first epoch before after (Err f)) (sym fault_is) (memory_text (λ one some. some stopped))
