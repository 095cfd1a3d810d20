-- Entries whose values are changed by f, each at its key: they stand in the same order, and are found, put and taken out alike.
use Rattle.std.proofs.Common.{◌≡◌, suc, refl, ap, ◌∙◌, true, false, cond, not, ◌&&◌, List, [], ◌∷◌, map, length}
use Rattle.std.specs.Option.{option_map}
use Rattle.std.specs.Prelude.{Some}
use Rattle.std.specs.declared.cmp.Ordering.{Ordering}
use Rattle.std.specs.declared.cmp.Ordering.TheVariants.{Less, Equal, Greater}
use Rattle.std.specs.Ordering.{is_lt, eq_by_cmp}
use Rattle.std.specs.FinMap.Entries.{below_all, by_order}
use Rattle.dk_map.specs.Entries.{find, put, without, is_sorted}

module _ {K X Y : Type 0} (R : K → K → Ordering) (f : X → Y) where
  -- the entries with the changed values
  abbrev pub changed : List (K × X) → List (K × Y)
  changed es = map (λ e. (e.0, f e.1)) es

  pub find-changed : (q : K) (es : List (K × X)) → find R q (changed es) ≡ option_map f (find R q es)
  find-changed q [] = refl
  find-changed q (e ∷ es) =
      elim (eq_by_cmp R q e.0) as (λ b. cond b (Some (f e.1)) (find R q (changed es)) ≡ option_map f (cond b (Some e.1) (find R q es))) [ true ↦ refl | false ↦ find-changed q es ]

  pub put-changed : (k : K) (x : X) (es : List (K × X)) → put R k (f x) (changed es) ≡ changed (put R k x es)
  put-changed k x [] = refl
  put-changed k x (e ∷ es) =
      elim (R k e.0) as (λ c. by_order c ((k, f x) ∷ (e.0, f e.1) ∷ changed es) ((e.0, f x) ∷ changed es) ((e.0, f e.1) ∷ put R k (f x) (changed es)) ≡ changed (by_order c ((k, x) ∷ e ∷ es) ((e.0, x) ∷ es) (e ∷ put R k x es))) [
        | Less ↦ refl
        | Equal ↦ refl
        | Greater ↦ ap (λ t. (e.0, f e.1) ∷ t) (put-changed k x es)
      ]

  pub without-changed : (k : K) (es : List (K × X)) → without R k (changed es) ≡ changed (without R k es)
  without-changed k [] = refl
  without-changed k (e ∷ es) =
      let rest = without-changed k es in
      elim (not (eq_by_cmp R k e.0)) as (λ b. cond b ((e.0, f e.1) ∷ without R k (changed es)) (without R k (changed es)) ≡ changed (cond b (e ∷ without R k es) (without R k es))) [
        | true ↦ ap (λ t. (e.0, f e.1) ∷ t) rest
        | false ↦ rest
      ]

  below-changed : (q : K) (es : List (K × X)) → below_all R q (changed es) ≡ below_all R q es
  below-changed q [] = refl
  below-changed q (e ∷ es) = ap (λ b. is_lt (R q e.0) && b) (below-changed q es)

  pub sorted-changed : (es : List (K × X)) → is_sorted R (changed es) ≡ is_sorted R es
  sorted-changed [] = refl
  sorted-changed (e ∷ es) = ap (λ b. b && is_sorted R (changed es)) (below-changed e.0 es) ∙ ap (λ b. below_all R e.0 es && b) (sorted-changed es)

  pub length-changed : (es : List (K × X)) → length (changed es) ≡ length es
  length-changed [] = refl
  length-changed (e ∷ es) = ap suc (length-changed es)
