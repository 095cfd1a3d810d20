-- What a notice shows of a refusal.
use Rattle.std.proofs.Common.{◌≡◌, ◌⊎◌, ℕ, None, Some, Result, Ok, Err, IfErr, inl, inr, ⊎_elim, sym, ap, subst, ◌∙◌}
use Rattle.dk_types.specs.Faults.{HasRisen}
use Rattle.dk_notice.specs.declared.told.Told.{Told}
use Rattle.dk_notice.specs.Notices.{BoardName, Says, Said, said_on}
use Rattle.dk_host.specs.declared.refused.CommitRefused.{CommitRefused}
use Rattle.dk_host.specs.declared.refused.CheckpointRefused.{CheckpointRefused}
use Rattle.dk_host.specs.declared.refused.CheckpointRefused.TheVariants as checkpoint
use Rattle.dk_host.specs.declared.refused.TailRefused.{TailRefused}
use Rattle.dk_host.specs.declared.refused.TailRefused.TheVariants as tail
use Rattle.dk_host.specs.declared.refused.Why.{Why}
use Rattle.dk_host.specs.declared.refused.Why.TheVariants as why
use Rattle.dk_host.specs.declared.shown.Shown.{Shown}
use Rattle.dk_host.specs.Checkpoints.{Rewrites}
use Rattle.dk_host.specs.Notices.{plain, told_of, IsNoticeOf, IsOfThisCall, ShowsStop, ShowsNone, commit_shows, checkpoint_shows, reading_shows}
use Rattle.dk_host.specs.Refusals.{IsLeftBy, Leaves}
use Rattle.dk_host.specs.Stores.{Stored, CountsOn, HasRisenSince}
use Rattle.dk_host.specs.Tails.{LeavesRead}

-- a notice of a store, by what the board said before
module _ (board : BoardName) (begun : ℕ) (old new : Stored) (notice : Said) (is : IsNoticeOf board (told_of old) new notice) where
  counted_is : notice.told.counted ≡ new.counted
  counted_is = ap (λ (t : Told). t.counted) is.told

  stopped_is : notice.told.stopped ≡ new.faults
  stopped_is = ap (λ (t : Told). t.stopped) is.told

  -- a store that is stopped now
  shows_stop : (n : ℕ) → new.faults ≡ Some n → CountsOn begun new.faults new.counted → ShowsStop board begun n notice
  shows_stop n stopped counts = record {
    named = is.named;
    stopped = stopped_is ∙ stopped;
    risen = subst (HasRisenSince begun) (sym counted_is) (subst (λ f. CountsOn begun f new.counted) stopped counts);
  }

  -- one that is not
  shows_none : new.faults ≡ None → ShowsNone board notice
  shows_none runs = record { named = is.named; running = stopped_is ∙ runs }

  -- a fault that was counted
  of_this_call : HasRisen old.counted new.counted → IsOfThisCall notice
  of_this_call risen = ⊎_elim (λ less. inl (is.first less)) (λ ends. inr (counted_is ∙ ends.1)) risen

  pub commit_shown : (w : Why) → IsLeftBy w old new → CountsOn begun new.faults new.counted → commit_shows board begun w notice
  commit_shown (why.Stopped faults) l counts = shows_stop faults (ap (λ (s : Stored). s.faults) l.1 ∙ l.0) counts
  commit_shown (why.Retry item found now) l counts = shows_none l.1
  commit_shown (why.JournalFull length) l counts = shows_none l.1
  commit_shown why.DiskFault l counts = (of_this_call l.2, (new.counted, shows_stop new.counted l.1 counts))
  commit_shown why.NoMemory l counts = shows_none l.1

  pub checkpoint_shown : (refused : CheckpointRefused) → Rewrites old new (Err refused) → CountsOn begun new.faults new.counted → checkpoint_shows board begun refused notice
  checkpoint_shown (checkpoint.Stopped faults) h counts = shows_stop faults (ap (λ (s : Stored). s.faults) h.1 ∙ h.0) counts
  checkpoint_shown checkpoint.DiskFault h counts = (of_this_call h.2, (new.counted, shows_stop new.counted h.1 counts))
  checkpoint_shown (checkpoint.TooLarge n) h counts = shows_none h.runs
  checkpoint_shown (checkpoint.EpochEnd n) h counts = shows_none h.runs
  checkpoint_shown checkpoint.NoMemory h counts = shows_none h.runs

  pub reading_shown : (A : Type 0) (refused : TailRefused) → LeavesRead {A = A} old new (Err refused) → CountsOn begun old.faults old.counted → CountsOn begun new.faults new.counted → reading_shows board begun refused notice
  reading_shown A (tail.Stopped faults) h before counts = shows_stop faults (ap (λ (s : Stored). s.faults) h.1 ∙ h.0) counts
  reading_shown A (tail.Older first) h before counts = shows_none h.1
  reading_shown A tail.DiskFault h before counts = (
    of_this_call h.2,
    record {
      named = is.named;
      running = stopped_is ∙ h.1;
      risen = subst (HasRisenSince begun) (sym counted_is) (old.counted, (subst (λ f. CountsOn begun f old.counted) h.0 before, h.2));
    },
  )
  reading_shown A tail.NoMemory h before counts = shows_none h.1
  reading_shown A (tail.Damaged at) h before counts = shows_none h.1

-- the same of an answer with its notice, where the board said what is told of the store before
module _ (board : BoardName) (begun : ℕ) (old new : Stored) (b : Says) (told : b ≡ said_on board (told_of old)) where
  of_board : (s : Said) → IsNoticeOf b.board b.told new s → IsNoticeOf board (told_of old) new s
  of_board s is = subst (λ (x : Says). IsNoticeOf x.board x.told new s) told is

  pub commit_shown_with : (r : Result ℕ (Shown CommitRefused)) → Leaves old new (plain r) → IfErr r (λ e. IsNoticeOf b.board b.told new e.notice) → IfErr r (λ e. CountsOn begun new.faults new.counted)
      → IfErr r (λ e. commit_shows board begun e.refused.why e.notice)
  commit_shown_with (Ok seq) h notice counts = tt
  commit_shown_with (Err e) h notice counts = commit_shown board begun old new e.notice (of_board e.notice notice) e.refused.why h counts

  pub checkpoint_shown_with : (r : Result (Unit {0}) (Shown CheckpointRefused)) → Rewrites old new (plain r) → IfErr r (λ e. IsNoticeOf b.board b.told new e.notice) → IfErr r (λ e. CountsOn begun new.faults new.counted)
      → IfErr r (λ e. checkpoint_shows board begun e.refused e.notice)
  checkpoint_shown_with (Ok done) h notice counts = tt
  checkpoint_shown_with (Err e) h notice counts = checkpoint_shown board begun old new e.notice (of_board e.notice notice) e.refused h counts

  pub reading_shown_with : {A : Type 0} (r : Result A (Shown TailRefused)) → LeavesRead old new (plain r) → CountsOn begun old.faults old.counted → IfErr r (λ e. IsNoticeOf b.board b.told new e.notice) → IfErr r (λ e. CountsOn begun new.faults new.counted)
      → IfErr r (λ e. reading_shows board begun e.refused e.notice)
  reading_shown_with (Ok entries) h before notice counts = tt
  reading_shown_with {A} (Err e) h before notice counts = reading_shown board begun old new e.notice (of_board e.notice notice) A e.refused h before counts
