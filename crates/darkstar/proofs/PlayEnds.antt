-- What a play on an opened store leaves, and how the program ends after it.
use Rattle.std.proofs.Common.{◌≡◌, ◌≢◌, ◌⊎◌, ◌∙◌, ⊎_elim, inr, ℕ, Bool, IsTrue, List, [], ◌∷◌, Option, None, Result, Ok, Err, IfOk, MatchResult, refl, sym, ap, subst}
use Rattle.dk_types.specs.Faults.{HasRisen}
use Rattle.dk_types.specs.declared.durable.Durable.{Durable}
use Rattle.dk_types.specs.declared.event.Event.{Event}
use Rattle.dk_types.specs.declared.fault.Failed.{Failed}
use Rattle.dk_types.specs.declared.side.Side.TheVariants.{Zero, One}
use Rattle.dk_disk.specs.Disk.{Disk, IsImage}
use Rattle.dk_disk.specs.DiskHistories.{DiskHistory, now}
use Rattle.dk_disk.proofs.Images.{settled_image}
use Rattle.dk_model.specs.declared.script.Line.{Line}
use Rattle.dk_model.specs.DurableWorlds.{DurableWorld}
use Rattle.dk_model.specs.Events.{Meaning}
use Rattle.dk_model.specs.Legal.{Opened, world_after}
use Rattle.dk_model.specs.Stores.{Standing, NoStore, StandsOn, NoneStands, standing}
use Rattle.dk_journal.specs.Recoveries.{AllRecover, IsWorld}
use Rattle.dk_journal.specs.Stores.{AreSettled}
use Rattle.dk_recover.specs.Files.{OnlyReads}
use Rattle.dk_core.specs.Listings.{world_of}
use Rattle.dk_host.specs.OpenedStores.{IsLeft}
use Rattle.dk_host.specs.Stores.{StandsAs}
use Rattle.dk_host.specs.declared.standing.Stood.{Stood}
use Rattle.dk_play_laws.specs.BudgetLaw.{IsBudgetSpent}
use Rattle.dk_play_laws.specs.FirstParts.{scripted_of, IsFirstPart}
use Rattle.dk_workers.specs.Played.{IsPlayCause, IsPlayOn, IsSaved, IsReportedPlay, IsUnopened}
use Rattle.dk_workers.specs.declared.play.fault.PlayFault.{PlayFault}
use Rattle.dk_workers.specs.declared.play.fault.PlayFault.TheVariants as fault
use Rattle.dk_status.specs.declared.status.Status.{Status}
use Rattle.dk_status.specs.declared.status.Status.TheVariants as status
use Rattle.darkstar.specs.Ends.{status_of_playing, status_of_put}
use Rattle.darkstar.specs.Reports.{Holds, bytes_of}
use Rattle.darkstar.specs.Runs.{IsNextEpoch, IsOpenable, IsOpenedEpoch, IsPlayEnd, IsSpent, IsStanding, IsReportedRun, IsWrittenAnew, Keeps, KeepsScript, HoldsNone, Passage, PlayTerms, Run, RunOf, opened_with, passage}
use Rattle.darkstar.specs.Statuses.{IsOkOrEnd, IsOkOrLimit}
use Rattle.darkstar.proofs.OpenedOn.{OpenedOn}
use Rattle.darkstar.proofs.RunLaws.{none_of_script, runs_history, runs_none, runs_on, runs_untailed}

-- the epoch of a store that was opened
pub opened_epoch : (there : Standing) (stood : Stood) → IsLeft there stood → IsOpenedEpoch there stood.journal.epoch
opened_epoch NoStore stood left = left.1
opened_epoch (StandsOn side header) stood left = (λ current. (left.current current).1, λ older. (left.anew older).1)
opened_epoch (NoneStands side at) stood left = absurd left

-- files with nothing pending are what a stop leaves
pub settled_read : (P : DurableWorld → Type 0) (past : DiskHistory) → AreSettled past → AllRecover P past past.clock → (d : DurableWorld) × Holds past d × P d
settled_read P past quiet all =
    all (now past Zero).reads (now past One).reads (
      subst (λ (d : Disk). IsImage d (now past Zero).reads) (sym (quiet Zero)) (settled_image (now past Zero).reads),
      subst (λ (d : Disk). IsImage d (now past One).reads) (sym (quiet One)) (settled_image (now past One).reads),
    )

-- a store that stands with this world reads so
pub is_standing : (past : DiskHistory) (d : DurableWorld) → AreSettled past → AllRecover (IsWorld d) past past.clock → IsStanding past d
is_standing past d quiet all = let it = settled_read (IsWorld d) past quiet all in record { reads = subst (Holds past) it.2 it.1; images = all }

-- a play on a store that was opened on these files; the program ends so behind it
module _ (terms : PlayTerms) (tells : Bool) (old mid : DiskHistory) (stood : Stood) (on : OpenedOn terms tells old mid stood) (s : Status) (script : List (List Line)) (new : DiskHistory) (before after : ℕ) (text : Result (List ℕ) PlayFault)
    (p : IsPlayOn (opened_with terms (world_of stood.durable)) terms.workers terms.checkpoint script tells mid new stood.journal.epoch before after text)
    (ends : text ≡ Err fault.DiskFault → s ≡ status.DiskFault) where
  abbrev o : Opened
  o = opened_with terms (world_of stood.durable)

  alone : terms.workers ≡ 1 → p.faults ≢ None → HasRisen before after → s ≡ status.DiskFault
  alone one some risen = ends (p.text_of.alone one some risen)

  -- its run
  pub run_of : Run terms (passage tells old new before after) s
  run_of = record { world = world_of stood.durable; held = on.held; on = runs_on o on.lawful terms.workers old s mid new before after p.history p.legal p.faults p.epoch p.counts alone tells on.keeps p.ended }

  same_history : p.history ≡ run_of.on.history
  unfolding run_of
  same_history = sym (runs_history o on.lawful terms.workers old s mid new before after p.history p.legal p.faults p.epoch p.counts alone tells on.keeps p.ended)

  -- it is one of the script
  pub begun_of : RunOf terms (passage tells old new before after) s script
  begun_of = record { run = run_of; begun = subst (λ (es : List Event). IsFirstPart terms.workers ([] ∷ script) (scripted_of es)) same_history p.begun }

  pub openable : IsOpenable terms (passage tells old new before after)
  openable told = (on.ours told, (world_of stood.durable, on.held told))

  -- a store that was written anew
  anew_of : (there : StandsAs new p.epoch) (d : DurableWorld) → IsTrue tells → IsSaved o p.history stood.journal.epoch p.epoch → (world_after o p.history).durable ≡ d → IsWrittenAnew old new d
  anew_of there d told saved is = record {
    first = stood.journal.epoch;
    opened = opened_epoch (standing (bytes_of old Zero) (bytes_of old One)) stood (on.left told);
    side = there.side;
    header = there.header;
    stands = there.table;
    epoch = subst (IsNextEpoch d stood.journal.epoch) there.counted (subst (λ (w : DurableWorld). IsNextEpoch w stood.journal.epoch p.epoch) is saved);
  }

  -- the run is told where there is a text
  pub reported_of : (t : List ℕ) → text ≡ Ok t → IsReportedRun terms (passage tells old new before after) s script t
  unfolding run_of
  reported_of t is =
      let told : IsReportedPlay o terms.workers script p.history t = subst (λ (r : Result (List ℕ) PlayFault). IfOk r (IsReportedPlay o terms.workers script p.history)) is p.text_of.told in
      let running : p.faults ≡ None = subst (λ (r : Result (List ℕ) PlayFault). IfOk r (λ x. p.faults ≡ None)) is p.text_of.whole in
      let saved : IsTrue terms.checkpoint → IsSaved o p.history stood.journal.epoch p.epoch = λ asked. subst (λ (r : Result (List ℕ) PlayFault). IfOk r (λ x. IsSaved o p.history stood.journal.epoch p.epoch)) is (p.text_of.is_saved asked) in
      let world_is : (world_after o p.history).durable ≡ (world_after o run_of.on.history).durable = ap (λ (es : List Event). (world_after o es).durable) same_history in
      record {
        run = run_of;
        transcript = told.transcript;
        ended = told.ended ∙ ap (world_after o) same_history;
        turns = told.turns;
        untailed = runs_untailed o on.lawful terms.workers old s mid new before after p.history p.legal p.faults p.epoch p.counts alone tells on.keeps p.ended running;
        stands = λ yes. subst (IsStanding new) world_is (is_standing new (world_after o p.history).durable ((p.ended yes).stands running).rests ((p.ended yes).now running));
        anew = λ yes asked. anew_of ((p.ended yes).stands running) (world_after o run_of.on.history).durable yes (saved asked) world_is;
      }

  -- why there is none is why the program ends so
  pub end_of : (f : PlayFault) → s ≡ status_of_playing f → IsPlayCause o p.history before after f → IsPlayEnd terms (passage tells old new before after) (status_of_playing f)
  unfolding run_of
  end_of fault.NoMemory so cause = tt
  end_of fault.DiskFault so cause = tt
  end_of (fault.Budget granted) so cause = (openable, subst (λ (x : Status). IsSpent terms (passage tells old new before after) x granted) so (record { run = run_of; spent = subst (λ (es : List Event). IsBudgetSpent o es granted) same_history cause }))
  end_of (fault.JournalFull length) so cause = (openable, cause)
  end_of (fault.Exhausted next) so cause = (openable, cause)

-- a store that was opened and on which nothing came
pub keeps_none : (terms : PlayTerms) (tells : Bool) (old new : DiskHistory) (stood : Stood) → OpenedOn terms tells old new stood → (s : Status) (before after : ℕ) → Keeps terms (passage tells old new before after) s
keeps_none terms tells old new stood on s before after =
    inr (record { world = world_of stood.durable; held = on.held; on = runs_none (opened_with terms (world_of stood.durable)) on.lawful terms.workers old s new before after on.valid tells on.keeps })

-- the fault of a play that is this one
same_fault : (f g : PlayFault) → ◌≡◌ {A = Result (List ℕ) PlayFault} (Err f) (Err g) → f ≡ g
same_fault f g is = cc

not_faulty : (t : List ℕ) (f : PlayFault) → ◌≡◌ {A = Result (List ℕ) PlayFault} (Ok t) (Err f) → ⊥
not_faulty t f is = cc

-- what the host is opened with, by these rules
abbrev pub opened_by : Meaning → Durable → Option ℕ → Opened
opened_by r d budget = record { rules = r; durable = world_of d; budget = budget }

-- a play that was made on a store, as this home is left, and what it gave
pub record Played {H : Type 0} (past : H → DiskHistory) (counted : H → ℕ) (terms : PlayTerms) (tells : Bool) (old : DiskHistory) (home : H) (script : List (List Line)) (before : ℕ) (text : Result (List ℕ) PlayFault) : Type 0 where
  pub store : H
  pub stood : Stood
  pub on : OpenedOn terms tells old (past store) stood
  pub play : IsUnopened store home text ⊎ IsPlayOn (opened_with terms (world_of stood.durable)) terms.workers terms.checkpoint script tells (past store) (past home) stood.journal.epoch before (counted home) text

module _ {H : Type 0} {past : H → DiskHistory} {counted : H → ℕ} {terms : PlayTerms} {tells : Bool} {old : DiskHistory} {home : H} {script : List (List Line)} {before : ℕ} where
  -- by other names of its parts
  pub played_as : (store : H) (stood : Stood) → OpenedOn terms tells old (past store) stood → (rules : Meaning) (workers : ℕ) (told text : Result (List ℕ) PlayFault) → rules ≡ terms.rules → workers ≡ terms.workers → told ≡ text
      → IsUnopened store home told ⊎ IsPlayOn (opened_by rules stood.durable terms.budget) workers terms.checkpoint script tells (past store) (past home) stood.journal.epoch before (counted home) told → Played past counted terms tells old home script before text
  played_as store stood on rules workers told text same count is played =
      let by_rules = subst (λ (r : Meaning). IsUnopened store home told ⊎ IsPlayOn (opened_by r stood.durable terms.budget) workers terms.checkpoint script tells (past store) (past home) stood.journal.epoch before (counted home) told) same played in
      let by_workers = subst (λ (n : ℕ). IsUnopened store home told ⊎ IsPlayOn (opened_with terms (world_of stood.durable)) n terms.checkpoint script tells (past store) (past home) stood.journal.epoch before (counted home) told) count by_rules in
      subst (Played past counted terms tells old home script before) is (record { store = store; stood = stood; on = on; play = by_workers })

  -- with a text
  module _ (s : Status) {t : List ℕ} (x : Played past counted terms tells old home script before (Ok t)) where
    the_play : IsPlayOn (opened_with terms (world_of x.stood.durable)) terms.workers terms.checkpoint script tells (past x.store) (past home) x.stood.journal.epoch before (counted home) (Ok t)
    the_play = ⊎_elim (λ (u : IsUnopened x.store home (Ok t)). absurd (not_faulty t fault.NoMemory u.1)) (λ p. p) x.play

    no_fault : ◌≡◌ {A = Result (List ℕ) PlayFault} (Ok t) (Err fault.DiskFault) → s ≡ status.DiskFault
    no_fault is = absurd (not_faulty t fault.DiskFault is)

    pub text_told : IsReportedRun terms (passage tells old (past home) before (counted home)) s script t
    text_told = reported_of terms tells old (past x.store) x.stood x.on s script (past home) before (counted home) (Ok t) the_play no_fault t refl

    pub text_keeps : Keeps terms (passage tells old (past home) before (counted home)) s
    text_keeps = inr (run_of terms tells old (past x.store) x.stood x.on s script (past home) before (counted home) (Ok t) the_play no_fault)

    pub text_begun : KeepsScript terms (passage tells old (past home) before (counted home)) s script
    text_begun = inr (begun_of terms tells old (past x.store) x.stood x.on s script (past home) before (counted home) (Ok t) the_play no_fault)

    pub text_openable : IsOpenable terms (passage tells old (past home) before (counted home))
    text_openable told = (x.on.ours told, (world_of x.stood.durable, x.on.held told))

  -- with a fault
  module _ (s : Status) {f : PlayFault} (e : s ≡ status_of_playing f) (x : Played past counted terms tells old home script before (Err f)) where
    ends_so : ◌≡◌ {A = Result (List ℕ) PlayFault} (Err f) (Err fault.DiskFault) → s ≡ status.DiskFault
    ends_so is = e ∙ ap status_of_playing (same_fault f fault.DiskFault is)

    pub fault_keeps : Keeps terms (passage tells old (past home) before (counted home)) s
    fault_keeps = ⊎_elim
        (λ (u : IsUnopened x.store home (Err f)). subst (λ (h : H). Keeps terms (passage tells old (past h) before (counted h)) s) (sym u.0) (keeps_none terms tells old (past x.store) x.stood x.on s before (counted x.store)))
        (λ p. inr (run_of terms tells old (past x.store) x.stood x.on s script (past home) before (counted home) (Err f) p ends_so))
        x.play

    pub fault_begun : KeepsScript terms (passage tells old (past home) before (counted home)) s script
    fault_begun = ⊎_elim
        (λ (u : IsUnopened x.store home (Err f)).
        subst (λ (h : H). KeepsScript terms (passage tells old (past h) before (counted h)) s script) (sym u.0)
        (inr (none_of_script terms x.on.lawful s script tells old (past x.store) before (counted x.store) (world_of x.stood.durable) x.on.valid x.on.held x.on.keeps)))
        (λ p. inr (begun_of terms tells old (past x.store) x.stood x.on s script (past home) before (counted home) (Err f) p ends_so))
        x.play

    pub fault_end : IsPlayEnd terms (passage tells old (past home) before (counted home)) (status_of_playing f)
    fault_end = ⊎_elim
        (λ (u : IsUnopened x.store home (Err f)). subst (λ (g : PlayFault). IsPlayEnd terms (passage tells old (past home) before (counted home)) (status_of_playing g)) (sym (same_fault f fault.NoMemory u.1)) tt)
        (λ p. end_of terms tells old (past x.store) x.stood x.on s script (past home) before (counted home) (Err f) p ends_so f e p.text_of.cause)
        x.play

-- after the text was put into the sink
pub put_ok : (A B : Type 0) (put : Result (Unit {0}) Failed) → MatchResult put (λ _. A) (λ _. B) → status_of_put put ≡ status.Ok → A
put_ok A B (Ok done) has is = has
put_ok A B (Err failed) has is = absurd cc

pub put_torn : (A B : Type 0) (put : Result (Unit {0}) Failed) → MatchResult put (λ _. A) (λ _. B) → status_of_put put ≡ status.WriteFault → B
put_torn A B (Ok done) has is = absurd cc
put_torn A B (Err failed) has is = has

pub put_end : (terms : PlayTerms) (home : Passage) (put : Result (Unit {0}) Failed) → IsOpenable terms home → IsPlayEnd terms home (status_of_put put)
put_end terms home (Ok done) is = is
put_end terms home (Err failed) is = is

-- files that hold no world stay as they read
pub spared : (terms : PlayTerms) (home : Passage) (s : Status) → Keeps terms home s → IsTrue home.tells → HoldsNone home.old → OnlyReads home.old home.new
spared terms home s keeps told none = ⊎_elim (λ (only : IsTrue home.tells → OnlyReads home.old home.new). only told) (λ (run : Run terms home s). absurd (none run.world (run.held told))) keeps

-- where no device failed, a play that may begin comes to its end
pub without_faults : (s : Status) → IsOkOrLimit s → (s ≡ status.DiskFault → ⊥) → (s ≡ status.WriteFault → ⊥) → IsOkOrEnd s
without_faults status.Ok is disk sink = tt
without_faults status.NoMemory is disk sink = tt
without_faults status.Usage is disk sink = is
without_faults status.DiskFault is disk sink = disk refl
without_faults status.ReadFault is disk sink = is
without_faults status.WriteFault is disk sink = sink refl
without_faults (status.BadScript line) is disk sink = is
without_faults (status.NotAStore side at) is disk sink = is
without_faults (status.Damaged side at) is disk sink = is
without_faults (status.WrongGame found) is disk sink = is
without_faults (status.Budget granted) is disk sink = tt
without_faults (status.JournalFull length) is disk sink = tt
without_faults status.NetFault is disk sink = is
without_faults (status.Exhausted next) is disk sink = tt
without_faults (status.MigrateTooLarge length) is disk sink = is
without_faults (status.MigrateEpochEnd epoch) is disk sink = is
