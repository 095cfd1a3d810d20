-- A run, from how its store was opened and how its host ended.
use Rattle.std.proofs.Common.{◌≡◌, ◌≢◌, ◌⊎◌, ⊎_elim, inl, inr, ◌∙◌, ℕ, ◌<◌, ◌≤◌, Bool, true, false, IsTrue, List, [], ◌∷◌, ◌++◌, Option, None, Some, refl, sym, subst, arith}
use Rattle.std.proofs.lemmas.Bool.{cases_lt}
use Rattle.std.proofs.lemmas.List.{append-nil}
use Rattle.dk_types.specs.Faults.{COUNT_END, HasRisen}
use Rattle.dk_types.specs.declared.event.Event.{Event}
use Rattle.dk_types.specs.declared.side.Side.{Side}
use Rattle.dk_disk.specs.Disk.{settled}
use Rattle.dk_disk.specs.DiskHistories.{DiskHistory, now}
use Rattle.dk_model.specs.DurableWorlds.{DurableWorld}
use Rattle.dk_model.specs.Lawful.{AreLawful}
use Rattle.dk_model.specs.Legal.{Opened, IsLegal, opening_of}
use Rattle.dk_model.specs.Openings.{opening}
use Rattle.dk_model.specs.Validity.{IsValid}
use Rattle.dk_model.specs.Tails.{IsAfterSomeOrTail}
use Rattle.dk_journal.specs.Moments.{IsAsRead}
use Rattle.dk_journal.specs.Recoveries.{HeldNeverFalls, IsHeld, IsWorld, RecoverSince, Recovering}
use Rattle.dk_journal.specs.Stores.{AreSettled}
use Rattle.dk_journal.proofs.Recoveries.{all_at, all_weakened, held_on, since_on}
use Rattle.dk_host.specs.OpenedStores.{KeepsWorld}
use Rattle.dk_host.specs.Stores.{CountsOn, EndsAs, HasRecovered}
use Rattle.dk_status.specs.declared.status.Status.{Status}
use Rattle.dk_status.specs.declared.status.Status.TheVariants as status
use Rattle.dk_model.specs.declared.script.Line.{Line}
use Rattle.dk_play_laws.specs.LineEvents.{nothing_said}
use Rattle.dk_play_laws.proofs.FirstParts.{first_none}
use Rattle.darkstar.specs.Reports.{Holds}
use Rattle.darkstar.specs.Runs.{IsAfterSomeEnded, KeepsCommits, PlayTerms, RecoversFrom, RunOf, RunsOn, opened_with, passage}
use Rattle.darkstar.proofs.EndedTasks.{legal_front, legal_tail, some_ended}

-- files that are only read while nothing is pending leave to a stop what they left before
module _ (o : Opened) (events : List Event) (old new : DiskHistory) (start : ℕ) (from : old.clock ≤ start) (to : start ≤ new.clock)
    (read : (t : ℕ) (side : Side) → old.clock ≤ t → t ≤ start → IsAsRead (now old side) (new.disks t side)) (rests : (side : Side) → new.disks start side ≡ settled (now old side).reads)
    (r : RecoversFrom o events start new) (quiet : AreSettled old) where
  same : (t : ℕ) → old.clock ≤ t → t ≤ start → (side : Side) → new.disks t side ≡ new.disks start side
  same t after before side =
      ⊎_elim (λ (e : new.disks t side ≡ now old side). e ∙ quiet side) (λ (e : new.disks t side ≡ settled (now old side).reads). e) (read t side after before) ∙ sym (rests side)

  since_begun : RecoverSince (IsAfterSomeEnded o events) old.clock new
  since_begun t after le = ⊎_elim
      (λ later. r.0 t (omega (arith, later)) le)
      (λ before. all_at (IsAfterSomeEnded o events) new new t start (same t after before) (r.0 start (omega arith) to))
      (cases_lt start t)

  held_begun : HeldNeverFalls old.clock new
  held_begun t u n after le until held =
      let at_start : t ≤ start → IsHeld new start n = λ before. all_at (λ d. n ≤ d.commits) new new start t (λ side. sym (same t after before side)) held in
      ⊎_elim
      (λ later. r.1 t u n (omega (arith, later)) le until held)
      (λ before. ⊎_elim
      (λ also. r.1 start u n (omega arith) (omega (arith, also)) until (at_start before))
      (λ early. all_at (λ d. n ≤ d.commits) new new u start (same u (omega (arith, after, le)) early) (at_start before))
      (cases_lt start u))
      (cases_lt start t)

  pub from_begun : RecoversFrom o events old.clock new
  from_begun = (since_begun, held_begun)

-- a count that went on, and rose then, rose
risen_on : (begun before after : ℕ) → begun ≤ before → HasRisen before after → HasRisen begun after
risen_on begun before after le rose = ⊎_elim
    (λ (more : before < after). inl (omega (arith, le, more)))
    (λ (at_end : (before ≡ COUNT_END) × (after ≡ COUNT_END)). ⊎_elim
    (λ (less : begun < COUNT_END). inl (omega (arith, less, at_end.1)))
    (λ (most : COUNT_END ≤ begun). inr (omega (arith, most, le, at_end.0), at_end.1))
    (cases_lt begun COUNT_END))
    rose

-- of a store that was stopped the home's count rose
pub stopped_risen : (begun : ℕ) (faults : Option ℕ) (after : ℕ) → CountsOn begun faults after → faults ≢ None → HasRisen begun after
stopped_risen begun None after counts some = absurd (some refl)
stopped_risen begun (Some n) after counts some = risen_on begun counts.0 after counts.1.0 counts.1.1

module _ (o : Opened) (lawful : AreLawful o.rules) where
  -- the opened world is that after no event
  opens_to : (events : List Event) → IsLegal o events → (d : DurableWorld) → IsWorld o.durable d → IsAfterSomeEnded o events d
  unfolding opening
  opens_to events legal d is = some_ended o lawful events legal d (record { front = []; later = events; parts = refl; world = is })

  -- the world is kept while the store is opened, and then the commits are
  keeps_then : (front tail : List Event) (old mid new : DiskHistory) → IsLegal o (front ++ tail) → KeepsWorld o.durable old mid → HasRecovered o mid new front tail → KeepsCommits o (front ++ tail) old new
  keeps_then front tail old mid new legal k r =
      let events = front ++ tail in
      let to : (d : DurableWorld) → IsAfterSomeOrTail o front tail d → IsAfterSomeEnded o events d = some_ended o lawful events legal in
      let run : Recovering (IsAfterSomeEnded o events) mid new = record { later = r.begun; kept = r.kept; each = λ t from le. all_weakened (IsAfterSomeOrTail o front tail) (IsAfterSomeEnded o events) new t to (r.recovers t from le) } in
      let from_start : RecoversFrom o events k.start new = (
        since_on (IsAfterSomeEnded o events) k.start mid new (λ t from le. all_weakened (IsWorld o.durable) (IsAfterSomeEnded o events) mid t (opens_to events legal) (k.recovers t from le)) run,
        held_on k.start mid new k.to r.begun r.kept k.held r.held,
      ) in
      let end_ : k.start ≤ new.clock = omega (arith, k.to, r.begun) in
      let as_read : (t : ℕ) (side : Side) → old.clock ≤ t → t ≤ k.start → IsAsRead (now old side) (new.disks t side) = λ t side from to. subst (IsAsRead (now old side)) (sym (r.kept t side (omega (arith, to, k.to)))) (k.read t side from to) in
      let at_start : (side : Side) → new.disks k.start side ≡ settled (now old side).reads = λ side. r.kept k.start side k.to ∙ k.rests side in
      record {
        start = k.start;
        from = k.from;
        to = end_;
        kept = λ t side le. r.kept t side (omega (arith, le, k.from, k.to)) ∙ k.kept t side le;
        read = as_read;
        rests = at_start;
        recovers = from_start;
        at_rest = from_begun o events old new k.start k.from end_ as_read at_start from_start;
      }

  -- what a refused opening or one without events keeps
  keeps_world : (old new : DiskHistory) → IsLegal o [] → KeepsWorld o.durable old new → KeepsCommits o [] old new
  keeps_world old new legal k =
      let from_start : RecoversFrom o [] k.start new = (λ t from le. all_weakened (IsWorld o.durable) (IsAfterSomeEnded o []) new t (opens_to [] legal) (k.recovers t from le), k.held) in
      record {
        start = k.start;
        from = k.from;
        to = k.to;
        kept = k.kept;
        read = k.read;
        rests = k.rests;
        recovers = from_start;
        at_rest = from_begun o [] old new k.start k.from k.to k.read k.rests from_start;
      }

  nothing_legal : IsValid o.durable → IsLegal o []
  nothing_legal valid = record { valid = valid; within = tt; history = record { last = opening_of o; leads = refl } }

  module _ (workers : ℕ) (old : DiskHistory) (s : Status) where
    -- the history of a store that was opened, and on which no event came
    pub runs_none : (new : DiskHistory) (before after : ℕ) → IsValid o.durable → (tells : Bool) → (IsTrue tells → KeepsWorld o.durable old new) → RunsOn o workers (passage tells old new before after) s
    runs_none new before after valid tells keeps = record {
      history = [];
      legal = nothing_legal valid;
      front = [];
      later = [];
      parts = refl;
      none = refl;
      tail = [];
      is_tail = tt;
      risen = λ some. absurd (some refl);
      alone = λ one some. absurd (some refl);
      keeps = λ told. keeps_world old new (nothing_legal valid) (keeps told);
    }

    module _ (mid new : DiskHistory) (before after : ℕ) (history : List Event) (legal : IsLegal o history) (faults : Option ℕ) (epoch : ℕ) (counts : CountsOn before faults after)
        (alone : workers ≡ 1 → faults ≢ None → HasRisen before after → s ≡ status.DiskFault) where
      -- of a home that does not tell its content no more is known
      untold : RunsOn o workers (passage false old new before after) s
      untold = record {
        history = history;
        legal = legal;
        front = history;
        later = [];
        parts = sym (append-nil history);
        none = refl;
        tail = [];
        is_tail = tt;
        risen = λ some. absurd (some refl);
        alone = λ one some. absurd (some refl);
        keeps = λ is. absurd cc;
      }

      told : KeepsWorld o.durable old mid → EndsAs o mid new history faults epoch → RunsOn o workers (passage true old new before after) s
      told keeps e =
          let risen : e.tail ≢ [] → HasRisen before after = λ some. stopped_risen before faults after counts (λ none. some (e.whole none)) in
          record {
            history = history;
            legal = legal;
            front = e.front;
            later = e.later;
            parts = e.all;
            none = e.none;
            tail = e.tail;
            is_tail = e.is_tail;
            risen = risen;
            alone = λ one some. alone one (λ none. some (e.whole none)) (risen some);
            keeps = λ is. keeps_then e.front e.tail old mid new (legal_tail o e.front e.tail (legal_front o history e.front e.later legal e.all) e.is_tail) keeps e.since;
          }

      -- the history of a host that ended
      pub runs_on : (tells : Bool) → (IsTrue tells → KeepsWorld o.durable old mid) → (IsTrue tells → EndsAs o mid new history faults epoch) → RunsOn o workers (passage tells old new before after) s
      runs_on true keeps ends = told (keeps refl) (ends refl)
      runs_on false keeps ends = untold

      -- it is this one
      pub runs_history : (tells : Bool) (keeps : IsTrue tells → KeepsWorld o.durable old mid) (ends : IsTrue tells → EndsAs o mid new history faults epoch) → (runs_on tells keeps ends).history ≡ history
      unfolding runs_on told untold
      runs_history true keeps ends = refl
      runs_history false keeps ends = refl

      -- and has no tail where the store was not stopped
      pub runs_untailed : (tells : Bool) (keeps : IsTrue tells → KeepsWorld o.durable old mid) (ends : IsTrue tells → EndsAs o mid new history faults epoch) → faults ≡ None → (runs_on tells keeps ends).tail ≡ []
      unfolding runs_on told untold
      runs_untailed true keeps ends running = (ends refl).whole running
      runs_untailed false keeps ends running = refl

-- a store that was opened, and on which no event came, is a run of any script
pub none_of_script : (terms : PlayTerms) (lawful : AreLawful terms.rules) (s : Status) (script : List (List Line)) (tells : Bool) (old new : DiskHistory) (before after : ℕ) (d : DurableWorld) → IsValid d
    → (IsTrue tells → Holds old d) → (IsTrue tells → KeepsWorld d old new) → RunOf terms (passage tells old new before after) s script
unfolding runs_none
none_of_script terms lawful s script tells old new before after d valid held keeps = record {
  run = record { world = d; held = held; on = runs_none (opened_with terms d) lawful terms.workers old s new before after valid tells keeps };
  begun = record {
    done = [];
    left = [] ∷ script;
    parts = refl;
    said = nothing_said;
    whole = [];
    begun = [];
    all = refl;
    are_whole = (refl, refl);
    is_begun = inl (first_none terms.workers nothing_said []);
  };
}
