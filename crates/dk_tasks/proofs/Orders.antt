-- The orders of keys, places and due tasks are total, and only equal keys and equal places tie.
use Rattle.std.proofs.Common.{ℕ}
use Rattle.std.specs.declared.cmp.Ordering.{Ordering}
use Rattle.std.specs.Ordering.{nat_cmp, on, then_cmp}
use Rattle.std.specs.Cmp.{IsTotalOrder, on_total, then_total, nat_cmp_total}
use Rattle.std.specs.FinMap.{IsAntisymmetric, nat_cmp-IsAntisymmetric}
use Rattle.dk_types.specs.declared.number.TaskKey.{TaskKey}
use Rattle.dk_map.proofs.Keys.{then-IsAntisymmetric}
use Rattle.dk_model.specs.Keys.{key_cmp}
use Rattle.dk_model.specs.DurableWorlds.{Task}
use Rattle.dk_tasks.specs.declared.stored.TaskRank.{TaskRank}
use Rattle.dk_tasks.specs.Places.{place_cmp}

pub key_total : IsTotalOrder key_cmp
key_total = then_total (on_total (λ (k : TaskKey). k.run.0) nat_cmp_total) (on_total (λ (k : TaskKey). k.k) nat_cmp_total)

pub key_same : IsAntisymmetric key_cmp
key_same = then-IsAntisymmetric (λ (k : TaskKey). k.run.0) (λ (k : TaskKey). k.k) nat_cmp-IsAntisymmetric nat_cmp-IsAntisymmetric (λ x y p q i. record { run = record { 0 = p i }; k = q i })

-- by due moment, and then by key
abbrev pub moment_cmp : ℕ × TaskKey → ℕ × TaskKey → Ordering
moment_cmp = then_cmp (on (λ d. d.0) nat_cmp) (on (λ d. d.1) key_cmp)

pub moment_total : IsTotalOrder moment_cmp
moment_total = then_total (on_total (λ (d : ℕ × TaskKey). d.0) nat_cmp_total) (on_total (λ (d : ℕ × TaskKey). d.1) key_total)

pub moment_same : IsAntisymmetric moment_cmp
moment_same = then-IsAntisymmetric (λ (d : ℕ × TaskKey). d.0) (λ (d : ℕ × TaskKey). d.1) nat_cmp-IsAntisymmetric key_same (λ x y p q i. (p i, q i))

pub place_total : IsTotalOrder place_cmp
place_total = on_total (λ (p : TaskRank). (p.due, p.key)) moment_total

pub place_same : IsAntisymmetric place_cmp
place_same = then-IsAntisymmetric (λ (p : TaskRank). p.due) (λ (p : TaskRank). p.key) nat_cmp-IsAntisymmetric key_same (λ x y p q i. record { due = p i; key = q i })

-- the order of tasks that `is_sooner` tests
abbrev pub sooner_cmp : TaskKey × Task → TaskKey × Task → Ordering
sooner_cmp = on (λ e. (e.1.due, e.0)) moment_cmp

pub sooner_total : IsTotalOrder sooner_cmp
sooner_total = on_total (λ (e : TaskKey × Task). (e.1.due, e.0)) moment_total
