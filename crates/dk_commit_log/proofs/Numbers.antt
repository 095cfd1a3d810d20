-- Entries by their numbers.
use Rattle.std.proofs.Common.{◌≡◌, ◌⊎◌, ⊎_elim, ℕ, ◌+◌, ◌<◌, ◌≤◌, leb, ltb, true, false, cond, ◌&&◌, List, [], ◌∷◌, ◌++◌, length, refl, sym, ap, subst, ◌∙◌, arith}
use Rattle.std.proofs.lemmas.Bool.{cases_lt, lt-ltb, le-leb, le-ltb, lt-leb}
use Rattle.dk_types.specs.declared.durable.Entry.{Entry}
use Rattle.dk_model.specs.DurableWorlds.{DurableWorld}
use Rattle.dk_model.specs.Effects.{after}
use Rattle.dk_model.specs.Recovered.{Follow}
use Rattle.dk_commit_log.specs.Ranges.{AreNumbered, is_between, between}

-- entries that follow one another from a world have the numbers behind its commits
pub follow_numbered : (first d : DurableWorld) (entries : List Entry) → Follow first entries d → AreNumbered (first.commits + 1) entries × (d.commits ≡ first.commits + length entries)
follow_numbered first d [] h = (tt, (let same : first.commits ≡ d.commits = ap (λ (w : DurableWorld). w.commits) h in omega (arith, same)))
follow_numbered first d (e ∷ es) h =
    let rest = follow_numbered (after e first) d es h.1 in
    let same : e.seq ≡ first.commits + 1 = h.0.seq in
    ((same, subst (λ n. AreNumbered (n + 1) es) same rest.0), omega (arith, same, rest.1))

pub numbered_left : (n : ℕ) (xs ys : List Entry) → AreNumbered n (xs ++ ys) → AreNumbered n xs
numbered_left n [] ys h = tt
numbered_left n (x ∷ xs) ys h = (h.0, numbered_left (n + 1) xs ys h.1)

pub numbered_right : (n : ℕ) (xs ys : List Entry) → AreNumbered n (xs ++ ys) → AreNumbered (n + length xs) ys
numbered_right n [] ys h = subst (λ k. AreNumbered k ys) (omega arith) h
numbered_right n (x ∷ xs) ys h = subst (λ k. AreNumbered k ys) (omega arith) (numbered_right (n + 1) xs ys h.1)

pub numbered_both : (n : ℕ) (xs ys : List Entry) → AreNumbered n xs → AreNumbered (n + length xs) ys → AreNumbered n (xs ++ ys)
numbered_both n [] ys a b = subst (λ k. AreNumbered k ys) (omega arith) b
numbered_both n (x ∷ xs) ys a b = (a.0, numbered_both (n + 1) xs ys a.1 (subst (λ k. AreNumbered k ys) (omega arith) b))

-- which numbers are in between
inside : (after last : ℕ) (e : Entry) → after < e.seq → e.seq ≤ last → is_between after last e ≡ true
inside after last e low high = ap (λ b. b && leb e.seq last) (lt-ltb after e.seq low) ∙ le-leb e.seq last high

too_low : (after last : ℕ) (e : Entry) → e.seq ≤ after → is_between after last e ≡ false
too_low after last e low = ap (λ b. b && leb e.seq last) (le-ltb after e.seq low)

too_high : (after last : ℕ) (e : Entry) → last < e.seq → is_between after last e ≡ false
too_high after last e high =
    ap (λ b. ltb after e.seq && b) (lt-leb e.seq last high) ∙ elim (ltb after e.seq) as (λ b. (b && false) ≡ false) [ true ↦ refl | false ↦ refl ]

-- behind the last one there is none
pub between_none : (after last n : ℕ) (es : List Entry) → AreNumbered n es → last < n → between after last es ≡ []
between_none after last n [] h high = refl
between_none after last n (e ∷ es) h high = ap (λ b. cond b (e ∷ between after last es) (between after last es)) (too_high after last e (omega (arith, h.0, high))) ∙ between_none after last (n + 1) es h.1 (omega (arith, high))

-- those in between, where the first one is
among : (after last n : ℕ) (es : List Entry) → AreNumbered n es → after < n → n ≤ last + 1 → last < n + length es → AreNumbered n (between after last es) × (n + length (between after last es) ≡ last + 1)
among after last n [] h low room enough = (tt, omega (arith, room, enough))
among after last n (e ∷ es) h low room enough = ⊎_elim
    (λ (end : last < n). let none = between_none after last n (e ∷ es) h end in (subst (AreNumbered n) (sym none) tt, (let long = ap length none in omega (arith, long, room, end))))
    (λ (more : n ≤ last).
    let is = ap (λ b. cond b (e ∷ between after last es) (between after last es)) (inside after last e (omega (arith, h.0, low)) (omega (arith, h.0, more))) in
    let rest = among after last (n + 1) es h.1 (omega (arith, low)) (omega (arith, more)) (omega (arith, enough)) in
    (subst (AreNumbered n) (sym is) (h.0, rest.0), (let long = ap length is in omega (arith, long, rest.1))))
    (cases_lt last n)

-- and where some come before
pub between_numbered : (after last n : ℕ) (es : List Entry) → AreNumbered n es → n ≤ after + 1 → after ≤ last → last < n + length es → AreNumbered (after + 1) (between after last es) × (after + length (between after last es) ≡ last)
between_numbered after last n [] h low order enough = (tt, omega (arith, low, order, enough))
between_numbered after last n (e ∷ es) h low order enough = ⊎_elim
    (λ (before : n < after + 1).
    let is = ap (λ b. cond b (e ∷ between after last es) (between after last es)) (too_low after last e (omega (arith, h.0, before))) in
    let rest = between_numbered after last (n + 1) es h.1 (omega (arith, before)) order (omega (arith, enough)) in
    (subst (AreNumbered (after + 1)) (sym is) rest.0, (let long = ap length is in omega (arith, long, rest.1))))
    (λ (at : after + 1 ≤ n).
    let same : n ≡ after + 1 = omega (arith, low, at) in
    let all = among after last n (e ∷ es) h (omega (arith, same)) (omega (arith, same, order)) enough in
    (subst (λ k. AreNumbered k (between after last (e ∷ es))) same all.0, omega (arith, all.1, same)))
    (cases_lt n (after + 1))

-- there is none in between where nothing is
pub between_void : (after last : ℕ) (es : List Entry) → last ≤ after → between after last es ≡ []
between_void after last [] order = refl
between_void after last (e ∷ es) order =
    let none : is_between after last e ≡ false = ⊎_elim (λ (high : after < e.seq). too_high after last e (omega (arith, high, order))) (λ (low : e.seq ≤ after). too_low after last e low) (cases_lt after e.seq) in
    ap (λ b. cond b (e ∷ between after last es) (between after last es)) none ∙ between_void after last es order
