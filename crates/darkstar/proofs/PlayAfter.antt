-- A play on files that were only looked at before.
use Rattle.std.proofs.Common.{◌≡◌, ◌⊎◌, ◌∙◌, ⊎_elim, inl, inr, ℕ, ◌≤◌, Bool, IsTrue, List, Option, ◌++◌, ap, subst, arith}
use Rattle.std.proofs.lemmas.Bool.{cases_lt}
use Rattle.dk_types.specs.Faults.{HasRisen}
use Rattle.dk_types.specs.declared.event.Event.{Event}
use Rattle.dk_types.specs.declared.side.Side.{Side}
use Rattle.dk_disk.specs.Disk.{Disk, settled}
use Rattle.dk_disk.specs.DiskHistories.{DiskHistory, Elapses, Stays, now}
use Rattle.dk_model.specs.DurableWorlds.{DurableWorld}
use Rattle.dk_model.specs.Legal.{Opened}
use Rattle.dk_model.specs.Recovered.{HasDurable, Recovers}
use Rattle.dk_model.specs.Recovered as files
use Rattle.dk_model.specs.Stores.{standing}
use Rattle.dk_model.specs.declared.script.Line.{Line}
use Rattle.dk_journal.specs.Moments.{IsAsRead}
use Rattle.dk_recover.specs.Recovery.{IsOurs, IsOfOther}
use Rattle.dk_reports.proofs.Reading.{backward, onward, stays_then_reads}
use Rattle.dk_host.specs.OpenedStores.{IsAtLastEpoch, IsImageTooLarge, MayBeAnew}
use Rattle.dk_streams.specs.Sources.{IsReadScript}
use Rattle.dk_status.specs.declared.status.Status.{Status}
use Rattle.dk_status.specs.declared.status.Status.TheVariants as status
use Rattle.darkstar.specs.Runs.{IsOpenable, IsOpenedEpoch, IsPlayEnd, IsReportedRun, IsWritten, IsWrittenAnew, Keeps, KeepsCommits, KeepsReadScript, KeepsScript, MayOpen, PlayTerms, Run, RunOf, RunsOn, passage}
use Rattle.darkstar.proofs.RunLaws.{from_begun}

module _ (tells : Bool) (old mid new : DiskHistory) (time : IsTrue tells → Elapses old mid) (stays : IsTrue tells → Stays old mid) where
  -- what is kept since is kept from before on
  keeps_before : (o : Opened) (events : List Event) → IsTrue tells → KeepsCommits o events mid new → KeepsCommits o events old new
  keeps_before o events told k =
      let t0 = time told in
      let same = stays told in
      let from : old.clock ≤ k.start = omega (arith, t0.later, k.from) in
      let as_read : (t : ℕ) (side : Side) → old.clock ≤ t → t ≤ k.start → IsAsRead (now old side) (new.disks t side) = λ t side from to. ⊎_elim
      (λ after. subst (λ (d : Disk). IsAsRead d (new.disks t side)) (same side) (k.read t side (omega (arith, after)) to))
      (λ before. inl (k.kept t side before ∙ ⊎_elim
      (λ since. t0.since t side since before ∙ same side)
      (λ at_first. t0.kept t side at_first ∙ ap (λ n. old.disks n side) (omega (arith, at_first, from)))
      (cases_lt old.clock t)))
      (cases_lt mid.clock t) in
      let rests : (side : Side) → new.disks k.start side ≡ settled (now old side).reads = λ side. k.rests side ∙ ap (λ (d : Disk). settled d.reads) (same side) in
      record {
        start = k.start;
        from = from;
        to = k.to;
        kept = λ t side le. k.kept t side (omega (arith, le, t0.later)) ∙ t0.kept t side le;
        read = as_read;
        rests = rests;
        recovers = k.recovers;
        at_rest = from_begun o events old new k.start from k.to as_read rests k.recovers;
      }

  module _ (begun before after : ℕ) (count : before ≡ begun) (terms : PlayTerms) where
    runs_before : (o : Opened) (s : Status) → RunsOn o terms.workers (passage tells mid new before after) s → RunsOn o terms.workers (passage tells old new begun after) s
    runs_before o s r = record {
      history = r.history;
      legal = r.legal;
      front = r.front;
      later = r.later;
      parts = r.parts;
      none = r.none;
      tail = r.tail;
      is_tail = r.is_tail;
      risen = λ some. subst (λ (n : ℕ). HasRisen n after) count (r.risen some);
      alone = r.alone;
      keeps = λ told. keeps_before o (r.front ++ r.tail) told (r.keeps told);
    }

    run_before : (s : Status) → Run terms (passage tells mid new before after) s → Run terms (passage tells old new begun after) s
    run_before s r = record {
      world = r.world;
      held = λ told. backward (λ z o. HasDurable z o r.world) old mid (stays told) (r.held told);
      on = runs_before _ s r.on;
    }

    pub keeps_run_before : (s : Status) → Keeps terms (passage tells mid new before after) s → Keeps terms (passage tells old new begun after) s
    keeps_run_before s = ⊎_elim
        (λ only. inl (λ told. stays_then_reads old mid new (time told) (stays told) (only told)))
        (λ run. inr (run_before s run))

    -- so of a run of a script that was read before
    run_of_before : (s : Status) (script : List (List Line)) → RunOf terms (passage tells mid new before after) s script → RunOf terms (passage tells old new begun after) s script
    unfolding run_before runs_before
    run_of_before s script r = record { run = run_before s r.run; begun = r.begun }

    pub begun_before : (s : Status) (script : List (List Line)) (left left' : Option (List ℕ)) → IsReadScript left left' script → KeepsScript terms (passage tells mid new before after) s script
        → KeepsReadScript terms (passage tells old new begun after) s left left'
    begun_before s script left left' read = ⊎_elim
        (λ only. inl (λ told. stays_then_reads old mid new (time told) (stays told) (only told)))
        (λ run. inr (record { script = script; read = read; played = run_of_before s script run }))

    anew_before : IsTrue tells → (d : DurableWorld) → IsWrittenAnew mid new d → IsWrittenAnew old new d
    anew_before told d a = record {
      first = a.first;
      opened = backward (λ z o. IsOpenedEpoch (standing z o) a.first) old mid (stays told) a.opened;
      side = a.side;
      header = a.header;
      stands = a.stands;
      epoch = a.epoch;
    }

    told_before : (s : Status) (script : List (List Line)) (text : List ℕ) → IsReportedRun terms (passage tells mid new before after) s script text → IsReportedRun terms (passage tells old new begun after) s script text
    unfolding run_before runs_before
    told_before s script text t = record {
      run = run_before s t.run;
      transcript = t.transcript;
      ended = t.ended;
      turns = t.turns;
      untailed = t.untailed;
      stands = t.stands;
      anew = λ told asked. anew_before told _ (t.anew told asked);
    }

    pub written_before : (W : Option (List ℕ) → Option (List ℕ) → List ℕ → Type 0) (s : Status) (script : List (List Line)) (contents contents' : Option (List ℕ))
        → IsWritten W terms (passage tells mid new before after) s script contents contents' → IsWritten W terms (passage tells old new begun after) s script contents contents'
    written_before W s script contents contents' w = record { text = w.text; told = told_before s script w.text w.told; written = w.written }

    pub openable_before : IsOpenable terms (passage tells mid new before after) → IsOpenable terms (passage tells old new begun after)
    openable_before is told = let it = is told in (backward (λ z o. IsOurs z o terms.game) old mid (stays told) it.0, (it.1.0, backward (λ z o. HasDurable z o it.1.0) old mid (stays told) it.1.1))

    pub end_before : (s : Status) → IsPlayEnd terms (passage tells mid new before after) s → IsPlayEnd terms (passage tells old new begun after) s
    unfolding run_before runs_before
    end_before status.Ok is = openable_before is
    end_before status.NoMemory is = tt
    end_before status.Usage is = is
    end_before status.DiskFault is = tt
    end_before status.ReadFault is = tt
    end_before status.WriteFault is = openable_before is
    end_before (status.BadScript line) is = tt
    end_before (status.NotAStore side at) is = λ told. backward (λ z o. Recovers z o (files.NotAStore side at)) old mid (stays told) (is told)
    end_before (status.Damaged side at) is = λ told. backward (λ z o. IsOurs z o terms.game × Recovers z o (files.Damaged side at)) old mid (stays told) (is told)
    end_before (status.WrongGame found) is = λ told. backward (λ z o. IsOfOther z o terms.game found) old mid (stays told) (is told)
    end_before (status.Budget granted) is = (openable_before is.0, record { run = run_before (status.Budget granted) is.1.run; spent = is.1.spent })
    end_before (status.JournalFull length) is = (openable_before is.0, is.1)
    end_before status.NetFault is = is
    end_before (status.Exhausted next) is = (openable_before is.0, is.1)
    end_before (status.MigrateTooLarge length) is = λ told. backward (λ z o. IsOurs z o terms.game × IsImageTooLarge z o length) old mid (stays told) (is told)
    end_before (status.MigrateEpochEnd epoch) is = λ told. backward (λ z o. IsOurs z o terms.game × IsAtLastEpoch z o epoch) old mid (stays told) (is told)

  -- what may be opened may be opened after
  pub may_open_after : (terms : PlayTerms) (d : DurableWorld) → IsTrue tells → MayOpen terms old d → MayOpen terms mid d
  may_open_after terms d told m = record {
    held = onward (λ z o. HasDurable z o d) old mid (stays told) m.held;
    ours = onward (λ z o. IsOurs z o terms.game) old mid (stays told) m.ours;
    anew = onward (λ z o. MayBeAnew z o d) old mid (stays told) m.anew;
  }
