-- How what a stop leaves goes on from call to call.
use Rattle.std.proofs.Common.{◌≡◌, ⊎_elim, ℕ, ◌≤◌, List, sym, ◌∙◌, subst, arith}
use Rattle.std.proofs.lemmas.Bool.{cases_lt}
use Rattle.dk_types.specs.declared.side.Side.{Side}
use Rattle.dk_types.specs.declared.side.Side.TheVariants.{Zero, One}
use Rattle.dk_disk.specs.Disk.{Disk, IsImage}
use Rattle.dk_disk.specs.DiskHistories.{DiskHistory, MayLeave}
use Rattle.dk_model.specs.DurableWorlds.{DurableWorld}
use Rattle.dk_journal.specs.Recoveries.{AllRecover, IsHeld, HeldNeverFalls, RecoverSince, Recovering}

-- a moment whose files are those of another
pub image_at : (old new : DiskHistory) (t u : ℕ) → ((s : Side) → new.disks t s ≡ old.disks u s) → (zero one : List ℕ) → MayLeave new t zero one → MayLeave old u zero one
image_at old new t u same zero one left = (subst (λ (d : Disk). IsImage d zero) (same Zero) left.0, subst (λ (d : Disk). IsImage d one) (same One) left.1)

pub all_at : (P : DurableWorld → Type 0) (old new : DiskHistory) (t u : ℕ) → ((s : Side) → new.disks t s ≡ old.disks u s) → AllRecover P old u → AllRecover P new t
all_at P old new t u same all zero one left = all zero one (image_at old new t u same zero one left)

pub all_weakened : (P Q : DurableWorld → Type 0) (past : DiskHistory) (t : ℕ) → ((d : DurableWorld) → P d → Q d) → AllRecover P past t → AllRecover Q past t
all_weakened P Q past t to all zero one left = let it = all zero one left in (it.0, it.1, to it.0 it.2)

pub recovering_weakened : (P Q : DurableWorld → Type 0) (old new : DiskHistory) → ((d : DurableWorld) → P d → Q d) → Recovering P old new → Recovering Q old new
recovering_weakened P Q old new to run = record { later = run.later; kept = run.kept; each = λ t from le. all_weakened P Q new t to (run.each t from le) }

-- what was so since some moment stays so over a call
pub since_on : (P : DurableWorld → Type 0) (start : ℕ) (old new : DiskHistory) → RecoverSince P start old → Recovering P old new → RecoverSince P start new
since_on P start old new so_far run t from to =
    ⊎_elim
    (λ after. run.each t (omega (arith, after)) to)
    (λ before. all_at P old new t t (λ s. run.kept t s before) (so_far t from before))
    (cases_lt old.clock t)

-- one call and then another
pub recovering_on : (P : DurableWorld → Type 0) (old mid new : DiskHistory) → Recovering P old mid → Recovering P mid new → Recovering P old new
recovering_on P old mid new first second = record {
  later = omega (arith, first.later, second.later);
  kept = λ t s le. second.kept t s (omega (arith, le, first.later)) ∙ first.kept t s le;
  each = since_on P old.clock mid new first.each second;
}

-- what is held stays so over calls
pub held_on : (start : ℕ) (old new : DiskHistory) → start ≤ old.clock → old.clock ≤ new.clock → ((t : ℕ) (s : Side) → t ≤ old.clock → new.disks t s ≡ old.disks t s) → HeldNeverFalls start old → HeldNeverFalls old.clock new → HeldNeverFalls start new
held_on start old new begun later kept before since t u n from le to =
    ⊎_elim
    (λ after. ⊎_elim
    (λ also. since t u n (omega (arith, also)) le to)
    (λ early held.
    let at_end : IsHeld old old.clock n = before t old.clock n from early (omega arith) (all_at (λ d. n ≤ d.commits) new old t t (λ s. sym (kept t s early)) held) in
    since old.clock u n (omega arith) (omega (arith, after)) to (all_at (λ d. n ≤ d.commits) old new old.clock old.clock (λ s. kept old.clock s (omega arith)) at_end))
    (cases_lt old.clock t))
    (λ early held.
    all_at (λ d. n ≤ d.commits) old new u u (λ s. kept u s early) (before t u n from le early (all_at (λ d. n ≤ d.commits) new old t t (λ s. sym (kept t s (omega (arith, le, early)))) held)))
    (cases_lt old.clock u)
