-- Files that are only read, call after call.
use Rattle.std.proofs.Common.{◌≡◌, inl, inr, ⊎_elim, ℕ, ◌≤◌, refl, sym, ap, subst, ◌∙◌, arith}
use Rattle.std.proofs.lemmas.Bool.{cases_lt}
use Rattle.dk_types.specs.declared.side.Side.{Side}
use Rattle.dk_types.specs.declared.side.Side.TheVariants.{Zero, One}
use Rattle.dk_disk.specs.Disk.{Disk, settled}
use Rattle.dk_disk.specs.DiskHistories.{DiskHistory, now}
use Rattle.dk_journal.specs.Moments.{Runs, Looks, IsAsRead}
use Rattle.dk_recover.specs.Files.{OnlyReads, Settles}

as_read_then : (d e f : Disk) → IsAsRead d e → IsAsRead e f → IsAsRead d f
as_read_then d e f first second = ⊎_elim
    (λ same. subst (λ (x : Disk). IsAsRead x f) same second)
    (λ synced. ⊎_elim (λ (kept : f ≡ e). inr (kept ∙ synced)) (λ (again : f ≡ settled e.reads). inr (again ∙ ap (λ (x : Disk). settled x.reads) synced)) second)
    first

pub none_read : (past : DiskHistory) → OnlyReads past past
none_read past = record { later = omega arith; kept = λ t s le. refl; each = λ t s from to. inl (ap (λ k. past.disks k s) (omega (arith, from, to))) }

module _ (old mid new : DiskHistory) (so_far : OnlyReads old mid) where
  pub reads_looked : Looks mid new → OnlyReads old new
  reads_looked looks = record {
    later = omega (arith, so_far.later, looks.later);
    kept = λ t s le. looks.kept t s (omega (arith, le, so_far.later)) ∙ so_far.kept t s le;
    each = λ t s from to. ⊎_elim
        (λ after. subst (IsAsRead (now old s)) (sym (looks.each t s (omega (arith, after)) to)) (so_far.each mid.clock s so_far.later (omega arith)))
        (λ before. subst (IsAsRead (now old s)) (sym (looks.kept t s before)) (so_far.each t s from before))
        (cases_lt mid.clock t);
  }

  pub reads_run : (side : Side) → Runs side (IsAsRead (now mid side)) mid new → OnlyReads old new
  reads_run side run = record {
    later = omega (arith, so_far.later, run.later);
    kept = λ t s le. run.kept t s (omega (arith, le, so_far.later)) ∙ so_far.kept t s le;
    each = λ t s from to. ⊎_elim
        (λ after. as_read_then (now old s) (now mid s) (new.disks t s) (so_far.each mid.clock s so_far.later (omega arith)) (at_side side s t run (omega (arith, after)) to))
        (λ before. subst (IsAsRead (now old s)) (sym (run.kept t s before)) (so_far.each t s from before))
        (cases_lt mid.clock t);
  }
    where
      at_side : (side s : Side) (t : ℕ) → Runs side (IsAsRead (now mid side)) mid new → mid.clock ≤ t → t ≤ new.clock → IsAsRead (now mid s) (new.disks t s)
      at_side Zero Zero t run from to = run.each t from to
      at_side Zero One t run from to = inl (run.other t from to)
      at_side One Zero t run from to = inl (run.other t from to)
      at_side One One t run from to = run.each t from to

-- both files synced, and then looked at
pub settled_since : (old first second new : DiskHistory) → old.clock ≤ first.clock → first.clock ≤ second.clock → now first Zero ≡ settled (now old Zero).reads → now first One ≡ now old One → now second One ≡ settled (now first One).reads → now second Zero ≡ now first Zero
    → Looks second new → Settles old new
settled_since old first second new a b zero one synced same looks = (
  second.clock,
  record {
    from = omega (arith, a, b);
    to = looks.later;
    since = λ t s from to. looks.each t s from to ∙ is s;
  },
)
  where
    is : (s : Side) → now second s ≡ settled (now old s).reads
    is Zero = same ∙ zero
    is One = synced ∙ ap (λ (d : Disk). settled d.reads) one

-- and then looked at again
pub settles_looked : (old mid new : DiskHistory) → Settles old mid → Looks mid new → Settles old new
settles_looked old mid new is looks = (
  is.0,
  record {
    from = is.1.from;
    to = omega (arith, is.1.to, looks.later);
    since = λ t s from to. ⊎_elim
        (λ after. looks.each t s (omega (arith, after)) to ∙ is.1.since mid.clock s is.1.to (omega arith))
        (λ before. looks.kept t s before ∙ is.1.since t s from before)
        (cases_lt mid.clock t);
  },
)
