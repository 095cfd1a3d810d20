-- A core that is opened on a world in which nothing stands.
use Rattle.std.proofs.Common.{◌≡◌, ◌↔◌, ℕ, ◌≤◌, Option, Some, None, [], map, refl, ap, ◌∙◌, arith}
use Rattle.std.specs.FinMap.{get, get-empty, empty}
use Rattle.dk_types.specs.declared.number.RunNo.{RunNo}
use Rattle.dk_types.specs.declared.durable.Durable.{Durable}
use Rattle.dk_types.specs.declared.limits.TheConstants.{NUMBERS_END}
use Rattle.dk_types.specs.Names.{bytes_cmp}
use Rattle.dk_types.specs.Keys.{id_cmp, key_cmp}
use Rattle.dk_model.specs.Effects.{with_set, task_of}
use Rattle.dk_model.specs.Validity.{IsValid, next_of}
use Rattle.dk_model.proofs.Maps.{not_both}
use Rattle.dk_core.specs.Listings.{world_of}

-- before the first commit, or after run 0 alone
abbrev pub IsFew : ℕ → Option RunNo → Type 0
IsFew commits None = commits ≡ 0
IsFew commits (Some last) = (commits ≡ 1) × (last.0 ≡ 0)

few_valid : (commits : ℕ) (last : Option RunNo) → IsFew commits last → (next_of last ≤ NUMBERS_END) × (commits ≤ next_of last) × ((commits ≡ 0) ↔ (last ≡ None))
few_valid commits None few = (omega arith, omega (arith, few), (λ e. refl, λ e. few))
few_valid commits (Some last) few =
    let one = few.0 in
    let zero = few.1 in
    (omega (arith, zero), omega (arith, one), (λ e. absurd (omega (arith, e, one)), λ e. absurd cc))

pub bare_valid : (d : Durable) → d.objects ≡ [] → d.names ≡ [] → d.tasks ≡ [] → IsFew d.commits d.last → IsValid (world_of d)
bare_valid d o n t few =
    let valid = few_valid d.commits d.last few in record {
      objects = λ id object e. not_both _ object e (ap (λ xs. get {R = id_cmp} (with_set xs empty) id) o ∙ get-empty id_cmp id);
      names = λ name id e. not_both _ id e (ap (λ xs. get {R = bytes_cmp} (with_set xs empty) name) n ∙ get-empty bytes_cmp name);
      tasks = λ key task e. not_both _ task e (ap (λ xs. get {R = key_cmp} (with_set (map task_of xs) empty) key) t ∙ get-empty key_cmp key);
      last = valid.0;
      commits = valid.1;
      begun = valid.2;
    }
