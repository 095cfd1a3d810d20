-- Files that are looked at, and then only read.
use Rattle.std.proofs.Common.{◌≡◌, ◌⊎◌, inl, ⊎_elim, ℕ, List, sym, ap, subst, ◌∙◌, arith}
use Rattle.std.proofs.lemmas.Bool.{cases_lt}
use Rattle.dk_disk.specs.Disk.{Disk}
use Rattle.dk_disk.specs.DiskHistories.{DiskHistory, now, Elapses, Stays}
use Rattle.dk_types.specs.declared.side.Side.{Side}
use Rattle.dk_types.specs.declared.side.Side.TheVariants.{Zero, One}
use Rattle.dk_journal.specs.Moments.{Looks, IsAsRead}
use Rattle.dk_journal.proofs.Going.{looks_once}
use Rattle.dk_recover.specs.Files.{OnlyReads}

looks_reads : (old mid new : DiskHistory) → Looks old mid → OnlyReads mid new → OnlyReads old new
looks_reads old mid new looks reads = record {
  later = omega (arith, looks.later, reads.later);
  kept = λ t s le. reads.kept t s (omega (arith, le, looks.later)) ∙ looks.kept t s le;
  each = λ t s from to. ⊎_elim
      (λ after. subst (λ (d : Disk). IsAsRead d (new.disks t s)) (looks.each mid.clock s looks.later (omega arith)) (reads.each t s (omega (arith, after)) to))
      (λ before. inl (reads.kept t s before ∙ looks.each t s from before))
      (cases_lt mid.clock t);
}

-- and then only read
pub stays_then_reads : (old mid new : DiskHistory) → Elapses old mid → Stays old mid → OnlyReads mid new → OnlyReads old new
stays_then_reads old mid new time stays reads = looks_reads old mid new (looks_once old mid time stays) reads

module _ (P : List ℕ → List ℕ → Type 0) (old new : DiskHistory) (stays : Stays old new) where
  same_reads : (s : Side) → (now new s).reads ≡ (now old s).reads
  same_reads s = ap (λ (d : Disk). d.reads) (stays s)

  -- what both files were found to be then they were before
  pub backward : P (now new Zero).reads (now new One).reads → P (now old Zero).reads (now old One).reads
  backward has = subst (λ (o : List ℕ). P (now old Zero).reads o) (same_reads One) (subst (λ (z : List ℕ). P z (now new One).reads) (same_reads Zero) has)

  pub onward : P (now old Zero).reads (now old One).reads → P (now new Zero).reads (now new One).reads
  onward has = subst (λ (o : List ℕ). P (now new Zero).reads o) (sym (same_reads One)) (subst (λ (z : List ℕ). P z (now old One).reads) (sym (same_reads Zero)) has)
