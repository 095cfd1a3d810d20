-- What maps have at a key once values are changed, entries are set and keys are taken away.
use Rattle.std.proofs.Common.{◌≡◌, ℕ, zero, suc, refl, sym, ap, subst, ◌∙◌, Bool, true, false, cond, ◌||◌, List, [], ◌∷◌, map, length, ◌<◌, arith, Option, None, Some}
use Rattle.std.specs.declared.cmp.Ordering.{Ordering}
use Rattle.std.specs.declared.cmp.Ordering.TheVariants.{Less, Equal, Greater}
use Rattle.std.specs.Ordering.{is_eq, eq_by_cmp}
use Rattle.std.specs.Cmp.{IsTotalOrder, tied_itself}
use Rattle.std.specs.Option.{option_map}
use Rattle.std.specs.List.{list_any, slice_index_or}
use Rattle.std.specs.FinMap.{FinMap, IsAntisymmetric, get, insert, remove, get-insert, get-remove, same_map}
use Rattle.dk_map.specs.Values.{values_with}
use Rattle.dk_map.proofs.Values.{get_values}
use Rattle.dk_model.specs.DurableWorlds.{with_value}
use Rattle.dk_model.specs.Effects.{with_set, without_keys}
use Rattle.dk_laws.proofs.EffectsMade.{Tells, get-without_keys}

-- a test that holds never, fails
false_unless : (b : Bool) → (b ≡ true → ⊥) → b ≡ false
false_unless true h = absurd (h refl)
false_unless false h = refl

-- tests that agree on each element agree on the list
pub any-same : {A : Type 0} (f g : A → Bool) → ((x : A) → f x ≡ g x) → (xs : List A) → list_any f xs ≡ list_any g xs
any-same f g h [] = refl
any-same f g h (x ∷ xs) = λ i. h x i || any-same f g h xs i

-- one of two tests gives the same value
either : {A : Type 0} (a b : Bool) (x y : A) → cond a x (cond b x y) ≡ cond (b || a) x y
either true true x y = refl
either true false x y = refl
either false true x y = refl
either false false x y = refl

mapped-cond : {A B : Type 0} (p : A → B) (b : Bool) (x y : Option A) → option_map p (cond b x y) ≡ cond b (option_map p x) (option_map p y)
mapped-cond p true x y = refl
mapped-cond p false x y = refl

-- what a change leaves of a value, the change does not touch
mapped-change : {A B : Type 0} (f : A → A) (p : A → B) → ((x : A) → p (f x) ≡ p x) → (r : Option A) → option_map p (option_map f r) ≡ option_map p r
mapped-change f p h None = refl
mapped-change f p h (Some x) = ap Some (h x)

-- a change that gives each value the same y
mapped-given : {A B : Type 0} (f : A → A) (p : A → B) (y : B) → ((x : A) → p (f x) ≡ y) → (r : Option A) → option_map p (option_map f r) ≡ option_map (λ _. y) (option_map p r)
mapped-given f p y h None = refl
mapped-given f p y h (Some x) = ap Some (h x)

pub mapped-same : {A : Type 0} (r : Option A) → r ≡ option_map (λ x. x) r
mapped-same None = refl
mapped-same (Some x) = refl

module _ {K : Type 0} {R : K → K → Ordering} (o : IsTotalOrder R) (same : IsAntisymmetric R) where
  -- at the key itself, or at another
  by_key : (q k : K) (P : Bool → Type 0) → (q ≡ k → P true) → P false → P (eq_by_cmp R q k)
  by_key q k P here there = elim (R q k) as (λ c. R q k ≡ c → P (is_eq c)) [
    | Less ↦ λ _. there
    | Equal ↦ λ e. here (same q k e)
    | Greater ↦ λ _. there
  ] refl

  -- a test that tells keys apart is the order's
  pub tests_alike : {test : K → K → Bool} → Tells test → (q k : K) → eq_by_cmp R q k ≡ test q k
  tests_alike {test} t q k = elim (R q k) as (λ c. R q k ≡ c → is_eq c ≡ test q k) [
    | Less ↦ λ e. sym (false_unless (test q k) (λ h. let tie : R q k ≡ Equal = ap (R q) (sym (t.equal q k h)) ∙ tied_itself o q in cc))
    | Equal ↦ λ e. sym (ap (test q) (sym (same q k e)) ∙ t.itself q)
    | Greater ↦ λ e. sym (false_unless (test q k) (λ h. let tie : R q k ≡ Equal = ap (R q) (sym (t.equal q k h)) ∙ tied_itself o q in cc))
  ] refl

module _ {K X : Type 0} {R : K → K → Ordering} (o : IsTotalOrder R) (same : IsAntisymmetric R) where
  -- to remove what is not there changes nothing
  pub remove-absent : (m : FinMap R X) (k : K) → get m k ≡ None → remove m k ≡ m
  remove-absent m k e = same_map o same _ _ (λ q. get-remove o m k q ∙ by_key o same q k (λ b. cond b None (get m q) ≡ get m q) (λ t. sym (ap (get m) t ∙ e)) refl)

  -- the map with what stands at a key changed
  abbrev pub Changed : (X → X) → FinMap R X → K → FinMap R X
  Changed f m k = with_value m k (option_map f (get m k))

  pub get-Changed : (f : X → X) (m : FinMap R X) (k q : K) → get (Changed f m k) q ≡ cond (eq_by_cmp R q k) (option_map f (get m q)) (get m q)
  get-Changed f m k q = elim (get m k) as (λ r. get m k ≡ r → get (with_value m k (option_map f r)) q ≡ cond (eq_by_cmp R q k) (option_map f (get m q)) (get m q)) [
    | None ↦ λ e. get-remove o m k q ∙ by_key o same q k (λ b. cond b None (get m q) ≡ cond b (option_map f (get m q)) (get m q)) (λ t. sym (ap (option_map f) (ap (get m) t ∙ e))) refl
    | Some v ↦ λ e. get-insert o m k (f v) q ∙ by_key o same q k (λ b. cond b (Some (f v)) (get m q) ≡ cond b (option_map f (get m q)) (get m q)) (λ t. sym (ap (option_map f) (ap (get m) t ∙ e))) refl
  ] refl

  module _ {Y : Type 0} (p : X → Y) where
    -- a change that leaves a part of each value leaves that part of the map
    pub part-Changed : (f : X → X) → ((x : X) → p (f x) ≡ p x) → (m : FinMap R X) (k q : K) → option_map p (get (Changed f m k) q) ≡ option_map p (get m q)
    part-Changed f h m k q =
        ap (option_map p) (get-Changed f m k q)
        ∙ elim (eq_by_cmp R q k) as (λ b. option_map p (cond b (option_map f (get m q)) (get m q)) ≡ option_map p (get m q)) [ true ↦ mapped-change f p h (get m q) | false ↦ refl ]

    -- a change that gives a part of each value
    pub given-Changed : (f : X → X) (y : Y) → ((x : X) → p (f x) ≡ y) → (m : FinMap R X) (k q : K)
        → option_map p (get (Changed f m k) q) ≡ option_map (λ x. cond (eq_by_cmp R q k) y x) (option_map p (get m q))
    given-Changed f y h m k q =
        ap (option_map p) (get-Changed f m k q)
        ∙ elim (eq_by_cmp R q k) as (λ b. option_map p (cond b (option_map f (get m q)) (get m q)) ≡ option_map (λ x. cond b y x) (option_map p (get m q))) [
          | true ↦ mapped-given f p y h (get m q)
          | false ↦ mapped-same (option_map p (get m q))
        ]

    -- the map of that part is the same
    pub values-Changed : (f : X → X) → ((x : X) → p (f x) ≡ p x) → (m : FinMap R X) (k : K) → values_with p (Changed f m k) ≡ values_with p m
    values-Changed f h m k = same_map o same _ _ (λ q. get_values p (Changed f m k) q ∙ part-Changed f h m k q ∙ sym (get_values p m q))

    -- entries that all have the same part y
    pub part-with_set : {E : Type 0} (entry : E → K × X) (y : Y) → ((e : E) → p (entry e).1 ≡ y) → (es : List E) (m : FinMap R X) (q : K)
        → option_map p (get (with_set (map entry es) m) q) ≡ cond (list_any (λ e. eq_by_cmp R q (entry e).0) es) (Some y) (option_map p (get m q))
    part-with_set entry y h [] m q = refl
    part-with_set entry y h (e ∷ es) m q =
        let rest = list_any (λ e. eq_by_cmp R q (entry e).0) es in
        part-with_set entry y h es (insert m (entry e).0 (entry e).1) q
        ∙ ap (cond rest (Some y)) (ap (option_map p) (get-insert o m (entry e).0 (entry e).1 q) ∙ mapped-cond p (eq_by_cmp R q (entry e).0) (Some (entry e).1) (get m q)
        ∙ ap (λ z. cond (eq_by_cmp R q (entry e).0) (Some z) (option_map p (get m q))) (h e))
        ∙ either rest (eq_by_cmp R q (entry e).0) (Some y) (option_map p (get m q))

    pub part-without_keys : (ks : List K) (m : FinMap R X) (q : K) → option_map p (get (without_keys ks m) q) ≡ cond (list_any (eq_by_cmp R q) ks) None (option_map p (get m q))
    part-without_keys ks m q = ap (option_map p) (get-without_keys R o same ks m q) ∙ mapped-cond p (list_any (eq_by_cmp R q) ks) None (get m q)

  -- ---- changes of values that make no difference to other changes, and to what they leave as it is

  changed-set : (a b : Bool) (f : X → X) (v : X) → f v ≡ v → (r : Option X) → cond a (Some v) (cond b (option_map f r) r) ≡ cond b (option_map f (cond a (Some v) r)) (cond a (Some v) r)
  changed-set true true f v h r = ap Some (sym h)
  changed-set true false f v h r = refl
  changed-set false true f v h r = refl
  changed-set false false f v h r = refl

  changed-gone : (a b : Bool) (f : X → X) (r : Option X) → cond a None (cond b (option_map f r) r) ≡ cond b (option_map f (cond a None r)) (cond a None r)
  changed-gone true true f r = refl
  changed-gone true false f r = refl
  changed-gone false true f r = refl
  changed-gone false false f r = refl

  changed-both : (f g : X → X) → ((x : X) → g (f x) ≡ f (g x)) → (r : Option X) → option_map g (option_map f r) ≡ option_map f (option_map g r)
  changed-both f g h None = refl
  changed-both f g h (Some x) = ap Some (h x)

  changed-changed : (a b : Bool) (f g : X → X) → ((x : X) → g (f x) ≡ f (g x)) → (r : Option X)
      → cond a (option_map g (cond b (option_map f r) r)) (cond b (option_map f r) r) ≡ cond b (option_map f (cond a (option_map g r) r)) (cond a (option_map g r) r)
  changed-changed true true f g h r = changed-both f g h r
  changed-changed true false f g h r = refl
  changed-changed false true f g h r = refl
  changed-changed false false f g h r = refl

  -- two changes, each of which leaves what the other does
  pub Changed-Changed : (f g : X → X) → ((x : X) → g (f x) ≡ f (g x)) → (m : FinMap R X) (k q : K) → Changed g (Changed f m k) q ≡ Changed f (Changed g m q) k
  Changed-Changed f g h m k q = same_map o same _ _ (λ p.
      get-Changed g (Changed f m k) q p ∙ ap (λ r. cond (eq_by_cmp R p q) (option_map g r) r) (get-Changed f m k p)
      ∙ changed-changed (eq_by_cmp R p q) (eq_by_cmp R p k) f g h (get m p)
      ∙ sym (get-Changed f (Changed g m q) k p ∙ ap (λ r. cond (eq_by_cmp R p k) (option_map f r) r) (get-Changed g m q p)))

  pub without-Changed : (f : X → X) (ks : List K) (m : FinMap R X) (k : K) → without_keys ks (Changed f m k) ≡ Changed f (without_keys ks m) k
  without-Changed f [] m k = refl
  without-Changed f (q ∷ ks) m k =
      ap (without_keys ks) (same_map o same _ _ (λ p.
      get-remove o (Changed f m k) q p ∙ ap (cond (eq_by_cmp R p q) None) (get-Changed f m k p)
      ∙ changed-gone (eq_by_cmp R p q) (eq_by_cmp R p k) f (get m p)
      ∙ sym (get-Changed f (remove m q) k p ∙ ap (λ r. cond (eq_by_cmp R p k) (option_map f r) r) (get-remove o m q p))))
      ∙ without-Changed f ks (remove m q) k

  -- a change leaves what stands at a key
  abbrev Settled : (X → X) → FinMap R X → K → Type 0
  Settled f m k = option_map f (get m k) ≡ get m k

  Changed-settled : (f : X → X) (m : FinMap R X) (k : K) → Settled f m k → Changed f m k ≡ m
  Changed-settled f m k s = same_map o same _ _ (λ q.
      get-Changed f m k q ∙ by_key o same q k (λ b. cond b (option_map f (get m q)) (get m q) ≡ get m q) (λ t. ap (λ p. option_map f (get m p)) t ∙ s ∙ ap (get m) (sym t)) refl)

  -- entries that a change leaves as they are
  module _ {E : Type 0} (f : X → X) (entry : E → K × X) (h : (e : E) → f (entry e).1 ≡ (entry e).1) where
    pub set-Changed : (es : List E) (m : FinMap R X) (k : K) → with_set (map entry es) (Changed f m k) ≡ Changed f (with_set (map entry es) m) k
    set-Changed [] m k = refl
    set-Changed (e ∷ es) m k =
        ap (with_set (map entry es)) (same_map o same _ _ (λ p.
        get-insert o (Changed f m k) (entry e).0 (entry e).1 p ∙ ap (cond (eq_by_cmp R p (entry e).0) (Some (entry e).1)) (get-Changed f m k p)
        ∙ changed-set (eq_by_cmp R p (entry e).0) (eq_by_cmp R p k) f (entry e).1 (h e) (get m p)
        ∙ sym (get-Changed f (insert m (entry e).0 (entry e).1) k p ∙ ap (λ r. cond (eq_by_cmp R p k) (option_map f r) r) (get-insert o m (entry e).0 (entry e).1 p))))
        ∙ set-Changed es (insert m (entry e).0 (entry e).1) k

    settled-set : (es : List E) (m : FinMap R X) (k : K) → Settled f m k → Settled f (with_set (map entry es) m) k
    settled-set [] m k s = s
    settled-set (e ∷ es) m k s =
        let at = get-insert o m (entry e).0 (entry e).1 k in
        settled-set es (insert m (entry e).0 (entry e).1) k (
        ap (option_map f) at
        ∙ elim (eq_by_cmp R k (entry e).0) as (λ b. option_map f (cond b (Some (entry e).1) (get m k)) ≡ cond b (Some (entry e).1) (get m k)) [ true ↦ ap Some (h e) | false ↦ s ]
        ∙ sym at)

    set_there : (es : List E) (i : ℕ) (e : E) → i < length es → e ≡ slice_index_or es i e → (m : FinMap R X) → Settled f (with_set (map entry es) m) (entry e).0
    set_there [] i e less is m = absurd (omega (arith, less))
    set_there (d ∷ es) zero e less is m =
        let at = get-insert o m (entry d).0 (entry d).1 (entry d).0 ∙ ap (λ c. cond (is_eq c) (Some (entry d).1) (get m (entry d).0)) (tied_itself o (entry d).0) in
        subst (λ x. Settled f (with_set (map entry (d ∷ es)) m) (entry x).0) (sym is)
        (settled-set es (insert m (entry d).0 (entry d).1) (entry d).0 (ap (option_map f) at ∙ ap Some (h d) ∙ sym at))
    set_there (d ∷ es) (suc i) e less is m = set_there es i e (omega (arith, less)) is (insert m (entry d).0 (entry d).1)

    -- what is set is left as it is
    pub set-settled : (es : List E) (i : ℕ) (e : E) → i < length es → e ≡ slice_index_or es i e → (k : K) → (entry e).0 ≡ k → (m : FinMap R X) → Changed f (with_set (map entry es) m) k ≡ with_set (map entry es) m
    set-settled es i e less is k at m = Changed-settled f (with_set (map entry es) m) k (subst (Settled f (with_set (map entry es) m)) at (set_there es i e less is m))
