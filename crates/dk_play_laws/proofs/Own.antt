-- The events of one pass in a history, and what is left of it where nobody else entered anything.
use Rattle.std.proofs.Common.{◌≡◌, ◌≢◌, ℕ, ◌+◌, ◌<◌, ◌≤◌, Bool, cond, inl, inr, List, [], ◌∷◌, ◌++◌, length, refl, sym, ap, subst, ◌∙◌, arith, append_assoc, eq-eqb, ne_eqb}
use Rattle.std.specs.List.{AllByRecursion}
use Rattle.std.proofs.lemmas.List.{append-nil, append_cancel_left}
use Rattle.std.proofs.lemmas.Bool.Decides.{eqb_tells}
use mathlib.Core.List.{IsPrefix}
use Rattle.dk_types.specs.declared.event.Event.{Event}
use Rattle.dk_model.specs.Legal.{pass_of}
use Rattle.dk_turn.specs.Fronts.{Known, own}
use Rattle.dk_turn.proofs.Beginnings.{own-append}
use Rattle.dk_play_laws.specs.Seen.{AreNumbered, AreBehind, HaveSeen}
use Rattle.dk_play_laws.specs.AloneLaw.{AreNamed, OnePassIsAlone}

-- the events of a pass
abbrev pub of_pass : ℕ → List Event → List Event
of_pass n events = own pass_of n events

pub of_append : (n : ℕ) (xs ys : List Event) → of_pass n (xs ++ ys) ≡ of_pass n xs ++ of_pass n ys
of_append n xs ys = own-append pass_of n xs ys

-- by whether the first event is the pass's
pub of_first : (n : ℕ) (e : Event) (events : List Event) → pass_of e ≡ n → of_pass n (e ∷ events) ≡ e ∷ of_pass n events
of_first n e events is = ap (λ (b : Bool). cond b (e ∷ of_pass n events) (of_pass n events)) (eq-eqb (pass_of e) n is)

pub of_rest : (n : ℕ) (e : Event) (events : List Event) → pass_of e ≢ n → of_pass n (e ∷ events) ≡ of_pass n events
of_rest n e events other = ap (λ (b : Bool). cond b (e ∷ of_pass n events) (of_pass n events)) (ne_eqb (pass_of e) n other)

-- each event is of this pass
abbrev pub AreOf : ℕ → List Event → Type 0
AreOf n events = AllByRecursion (λ e. pass_of e ≡ n) events

-- the events of a pass are its own
pub of_own : (n : ℕ) (events : List Event) → AreOf n (of_pass n events)
of_own n [] = tt
of_own n (e ∷ events) = elim (eqb_tells (pass_of e) n) [
  | inl t ↦ subst (AreOf n) (sym (of_first n e events t.1)) (t.1, of_own n events)
  | inr t ↦ subst (AreOf n) (sym (of_rest n e events t.1)) (of_own n events)
]

-- and of no other
pub of_other : (m n : ℕ) (events : List Event) → m ≢ n → AreOf n events → of_pass m events ≡ []
of_other m n [] apart all = refl
of_other m n (e ∷ events) apart all = of_rest m e events (λ same. apart (sym same ∙ all.0)) ∙ of_other m n events apart all.1

-- where all are its own
pub of_all : (n : ℕ) (events : List Event) → AreOf n events → of_pass n events ≡ events
of_all n [] all = refl
of_all n (e ∷ events) all = of_first n e events all.0 ∙ ap (λ (es : List Event). e ∷ es) (of_all n events all.1)

pub named_first : (n : ℕ) (xs ys : List Event) → AreNamed n (xs ++ ys) → AreNamed n xs
named_first n [] ys h = tt
named_first n (x ∷ xs) ys h = (h.0, named_first n xs ys h.1)

pub named_last : (n : ℕ) (xs ys : List Event) → AreNamed n (xs ++ ys) → AreNamed n ys
named_last n [] ys h = h
named_last n (x ∷ xs) ys h = named_last n xs ys h.1

-- no event is of a pass of a lower number
abbrev pub HasNoneBelow : ℕ → List Event → Type 0
HasNoneBelow n events = (k : ℕ) → k < n → of_pass k events ≡ []

cons_nil : {A : Type 0} (x : A) (xs : List A) → x ∷ xs ≡ [] → ⊥
cons_nil x xs e = cc

pub none_rest : (n : ℕ) (e : Event) (events : List Event) → of_pass n (e ∷ events) ≡ [] → (pass_of e ≢ n) × (of_pass n events ≡ [])
none_rest n e events none = elim (eqb_tells (pass_of e) n) [
  | inl t ↦ absurd (cons_nil e (of_pass n events) (sym (of_first n e events t.1) ∙ none))
  | inr t ↦ (t.1, sym (of_rest n e events t.1) ∙ none)
]

-- events of passes up to this one, of which none is of a lower one, are of this one
pub only_of : (n : ℕ) (events : List Event) → AreNamed n events → HasNoneBelow n events → AreOf n events
only_of n [] named none = tt
only_of n (e ∷ events) named none = (
  elim (eqb_tells (pass_of e) n) [
    | inl t ↦ t.1
    | inr t ↦ let lt : pass_of e < n + 1 = named.0 in absurd ((none_rest (pass_of e) e events (none (pass_of e) (omega (arith, lt, t.1)))).0 refl)
  ],
  only_of n events named.1 (λ k lt. (none_rest k e events (none k lt)).1),
)

-- of passes above there is none
pub none_above : (n k : ℕ) (events : List Event) → AreNamed n events → n < k → of_pass k events ≡ []
none_above n k [] named lt = refl
none_above n k (e ∷ events) named lt = of_rest k e events (λ same. let below : pass_of e < n + 1 = named.0 in omega (arith, same, below, lt)) ∙ none_above n k events named.1 lt

-- two lists of which none is left
pub nothing_left : {A : Type 0} (xs ys : List A) → xs ++ ys ≡ [] → (xs ≡ []) × (ys ≡ [])
nothing_left [] ys e = (refl, e)
nothing_left (x ∷ xs) ys e = absurd (cons_nil x (xs ++ ys) e)

-- where a pass has entered nothing beyond what it has seen, it has entered nothing between two histories of which the first has all of that
pub none_between : (n : ℕ) (seen front later : List Event) → IsPrefix seen front → of_pass n (front ++ later) ≡ of_pass n seen → (of_pass n front ≡ of_pass n seen) × (of_pass n later ≡ [])
none_between n seen front later begins none =
    let parts : of_pass n front ≡ of_pass n seen ++ of_pass n begins.0 = ap (of_pass n) (sym begins.1) ∙ of_append n seen begins.0 in
    let all : of_pass n seen ++ (of_pass n begins.0 ++ of_pass n later) ≡ of_pass n seen ++ [] =
    sym (append_assoc (of_pass n seen) (of_pass n begins.0) (of_pass n later)) ∙ ap (λ (es : List Event). es ++ of_pass n later) (sym parts) ∙ sym (of_append n front later) ∙ none ∙ sym (append-nil (of_pass n seen)) in
    let left = nothing_left (of_pass n begins.0) (of_pass n later) (append_cancel_left (of_pass n seen) (of_pass n begins.0 ++ of_pass n later) [] all) in
    (parts ∙ ap (λ (es : List Event). of_pass n seen ++ es) left.0 ∙ append-nil (of_pass n seen), left.1)

-- what holds of the passes that have numbers from this one on
from_passes : (later : List Event) (m : ℕ) (passes : List (Known Event)) (n : ℕ) → AreNumbered m passes → AllByRecursion (λ p. of_pass p.number later ≡ []) passes
    → n ≡ m + length passes → (k : ℕ) → m ≤ k → k < n → of_pass k later ≡ []
from_passes later m [] n numbered none is k le lt = absurd (omega (arith, is, le, lt))
from_passes later m (p ∷ passes) n numbered none is k le lt = elim (eqb_tells k m) [
  | inl t ↦ ap (λ (j : ℕ). of_pass j later) (t.1 ∙ sym numbered.0) ∙ none.0
  | inr t ↦ from_passes later (m + 1) passes n numbered.1 none.1 (omega (arith, is)) k (omega (arith, le, t.1)) lt
]

pub none_below : (later : List Event) (passes : List (Known Event)) → AreNumbered 0 passes → AllByRecursion (λ p. of_pass p.number later ≡ []) passes → HasNoneBelow (length passes) later
none_below later passes numbered none k lt = from_passes later 0 passes (length passes) numbered none (omega arith) k (omega arith) lt

-- what the passes have seen of a longer history they have seen of a shorter one that has all of it, and nothing in between is theirs
pub seen_first : (passes : List (Known Event)) (front later : List Event) → AreBehind passes front → HaveSeen passes (front ++ later) → HaveSeen passes front × AllByRecursion (λ p. of_pass p.number later ≡ []) passes
seen_first [] front later behind seen = (tt, tt)
seen_first (p ∷ passes) front later behind seen =
    let here = none_between p.number p.front front later behind.0 seen.0.none_beyond in
    let rest = seen_first passes front later behind.1 seen.1 in
    ((record { begins = behind.0; none_beyond = here.0 }, rest.0), (here.1, rest.1))

pub alone : OnePassIsAlone
alone passes front events after numbered named behind seen begins entered =
    let n : ℕ = length passes in
    let later : List Event = begins.0 in
    let is : after ≡ front ++ later = sym begins.1 in
    let s = seen_first passes front later behind (subst (HaveSeen passes) is seen) in
    let mine : of_pass n later ≡ later = of_all n later (only_of n later (named_last n front later (subst (AreNamed n) is named)) (none_below later passes numbered s.1)) in
    let same : of_pass n later ≡ events = append_cancel_left (of_pass n front) (of_pass n later) events (sym (of_append n front later) ∙ ap (of_pass n) begins.1 ∙ entered) in
    record { all = is ∙ ap (λ (es : List Event). front ++ es) (sym mine ∙ same); seen = s.0 }
