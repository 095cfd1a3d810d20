-- Who is among members.
use Rattle.std.proofs.Common.{◌≡◌, ℕ, Bool, true, false, cond, not, ◌&&◌, ◌||◌, nat_eq, List, [], ◌∷◌, refl, sym, ap, ◌∙◌, inl, inr, ◌⊎◌, eqb-true}
use Rattle.std.specs.Cmp.Lexicographic.{bytes_decides}
use Rattle.std.proofs.lemmas.Bool.Decides.{eqb_tells}
use Rattle.dk_types.specs.declared.job.Session.{Session}
use Rattle.dk_model.specs.Platforms.{same_name, same_session, is_member, without_member}

both : (a b : Bool) → (a && b) ≡ true → (a ≡ true) × (b ≡ true)
both true b e = (refl, e)
both false b e = absurd cc

either : (a b : Bool) → (a || b) ≡ true → (a ≡ true) ⊎ (b ≡ true)
either true b e = inl refl
either false b e = inr e

-- true of the second is true of either
pub or_right : (a b : Bool) → b ≡ true → (a || b) ≡ true
or_right true b e = refl
or_right false b e = e

or_left : (a b : Bool) → a ≡ true → (a || b) ≡ true
or_left true b e = refl
or_left false b e = absurd cc

-- true or false, and not both
pub tells : (b : Bool) → (b ≡ true) ⊎ (b ≡ false)
tells true = inl refl
tells false = inr refl

pub not_both_ways : {A : Type 0} (b : Bool) → b ≡ true → b ≡ false → A
not_both_ways b e f = absurd cc

-- sessions that are the same are one
pub one_session : (a b : Session) → same_session a b ≡ true → a ≡ b
one_session a b e =
    let h = both (same_name a.name b.name) (nat_eq a.conn.0 b.conn.0) e in
    let names : a.name ≡ b.name = (bytes_decides a.name b.name).0 h.0 in
    let numbers : a.conn.0 ≡ b.conn.0 = eqb-true _ _ h.1 in
    λ i. record { name = names i; conn = record { 0 = numbers i } }

same_number : (n : ℕ) → nat_eq n n ≡ true
same_number n = elim (eqb_tells n n) [
  | inl t ↦ t.0
  | inr t ↦ absurd (t.1 refl)
]

-- a session is the same as itself
pub itself : (a : Session) → same_session a a ≡ true
itself a = ap (λ b. b && nat_eq a.conn.0 a.conn.0) ((bytes_decides a.name a.name).1 refl) ∙ same_number a.conn.0

-- the first is among them
pub first_is : (m : Session) (ms : List Session) → is_member m (m ∷ ms) ≡ true
first_is m ms = or_left (same_session m m) (is_member m ms) (itself m)

-- one of the rest is
pub later_is : (x m : Session) (ms : List Session) → is_member x ms ≡ true → is_member x (m ∷ ms) ≡ true
later_is x m ms e = or_right (same_session x m) (is_member x ms) e

-- one of them is the first, or of the rest
pub first_or_later : (x m : Session) (ms : List Session) → is_member x (m ∷ ms) ≡ true → (x ≡ m) ⊎ (is_member x ms ≡ true)
first_or_later x m ms e = elim (either (same_session x m) (is_member x ms) e) [
  | inl same ↦ inl (one_session x m same)
  | inr later ↦ inr later
]

-- of a list with the first taken away, or left
kept : (x m y : Session) (ys : List Session) (b : Bool) → is_member x (cond b (y ∷ ys) ys) ≡ true → ((b ≡ true) × (x ≡ y)) ⊎ (is_member x ys ≡ true)
kept x m y ys true e = elim (first_or_later x y ys e) [
  | inl same ↦ inl (refl, same)
  | inr later ↦ inr later
]
kept x m y ys false e = inr e

apart_is : (m x : Session) → not (same_session m x) ≡ true → x ≡ m → ⊥
apart_is m x e same = not_both_ways (not (same_session m x)) e (ap (λ (y : Session). not (same_session m y)) same ∙ ap not (itself m))

-- who is left was there, and is another
pub left_was : (x m : Session) (ms : List Session) → is_member x (without_member m ms) ≡ true → (is_member x ms ≡ true) × (x ≡ m → ⊥)
left_was x m [] e = absurd cc
left_was x m (y ∷ ys) e = elim (kept x m y (without_member m ys) (not (same_session m y)) e) [
  | inl p ↦ (ap (λ (z : Session). is_member z (y ∷ ys)) p.1 ∙ first_is y ys, λ same. apart_is m y p.0 (sym p.1 ∙ same))
  | inr rest ↦ let h = left_was x m ys rest in (later_is x y ys h.0, h.1)
]

keeps_first : (x m : Session) (ys : List Session) → (x ≡ m → ⊥) → (b : Bool) → same_session m x ≡ b → is_member x (cond (not b) (x ∷ ys) ys) ≡ true
keeps_first x m ys other true e = absurd (other (sym (one_session m x e)))
keeps_first x m ys other false e = first_is x ys

keeps_later : (x y : Session) (ys : List Session) (b : Bool) → is_member x ys ≡ true → is_member x (cond b (y ∷ ys) ys) ≡ true
keeps_later x y ys true e = later_is x y ys e
keeps_later x y ys false e = e

-- another who was there is left
pub left_is : (x m : Session) (ms : List Session) → is_member x ms ≡ true → (x ≡ m → ⊥) → is_member x (without_member m ms) ≡ true
left_is x m [] e other = absurd cc
left_is x m (y ∷ ys) e other = elim (first_or_later x y ys e) [
  | inl same ↦
      ap (λ (z : Session). is_member x (cond (not (same_session m z)) (z ∷ without_member m ys) (without_member m ys))) (sym same)
      ∙ keeps_first x m (without_member m ys) other (same_session m x) refl
  | inr later ↦ keeps_later x y (without_member m ys) (not (same_session m y)) (left_is x m ys later other)
]

-- one who was there is left, or is the one that was taken away
pub left_or_taken : (x m : Session) (ms : List Session) → is_member x ms ≡ true → (x ≡ m) ⊎ (is_member x (without_member m ms) ≡ true)
left_or_taken x m ms e = elim (tells (same_session x m)) [
  | inl same ↦ inl (one_session x m same)
  | inr other ↦ inr (left_is x m ms e (λ same. not_both_ways (same_session x m) (ap (λ (y : Session). same_session y m) same ∙ itself m) other))
]
