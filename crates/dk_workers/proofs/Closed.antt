-- From what the passes have seen to the whole history.
use Rattle.std.proofs.Common.{◌≡◌, ℕ, suc, ◌+◌, ◌<◌, Bool, Some, List, [], ◌∷◌, ◌++◌, length, take, Result, Ok, Err, refl, sym, ap, subst, ◌∙◌, arith, length-append}
use Rattle.std.specs.List.{All, slice_get}
use Rattle.std.proofs.lemmas.List.Elements.{All-head, All-tail}
use Rattle.std.proofs.lemmas.List.{append-nil, take-append-le, take_all}
use mathlib.Core.List.{IsPrefix}
use Rattle.dk_types.specs.declared.event.Event.{Event}
use Rattle.dk_model.specs.declared.script.Line.{Line}
use Rattle.dk_model.specs.Legal.{Opened, IsFront, pass_of}
use Rattle.dk_model.proofs.Maps.{some_is}
use Rattle.dk_turn.specs.Fronts.{Known, known, Continues, IsDealt}
use Rattle.dk_play_laws.specs.PhasedLaw.{IsSeenBy}
use Rattle.dk_play_laws.specs.Seen.{AreNumbered, AreBehind, HaveSeen}
use Rattle.dk_play_laws.proofs.Phasing.{plays_seen, spent_seen, seen_all}
use Rattle.dk_workers.specs.Played.{IsSavedAt, IsSettled, IsStaged}
use Rattle.dk_workers.specs.declared.play.fault.PlayFault.{PlayFault}
use Rattle.dk_workers.specs.declared.play.fault.PlayFault.TheVariants as fault
use Rattle.dk_workers.specs.declared.play.saving.Saved.{Saved}
use Rattle.dk_workers.proofs.Playing.{named_up_to}
use Rattle.dk_workers.proofs.Meetings.{continued}

-- passes that are dealt, from this number on
abbrev AreDealtFrom : ℕ → List (Known Event) → Type 0
AreDealtFrom n [] = Unit {0}
AreDealtFrom n (p ∷ passes) = (p ≡ known n []) × AreDealtFrom (n + 1) passes

dealt_from : (n : ℕ) (passes : List (Known Event)) → ((k : ℕ) → k < length passes → slice_get passes k ≡ Some (known (n + k) [])) → AreDealtFrom n passes
dealt_from n [] each = tt
dealt_from n (p ∷ passes) each =
    let zero_more : n + 0 ≡ n = omega arith in (
      some_is p (known n []) (each 0 (omega arith) ∙ ap (λ (m : ℕ). Some (known m [])) zero_more),
      dealt_from (n + 1) passes (λ k lt. let more : n + suc k ≡ (n + 1) + k = omega arith in each (suc k) (omega (arith, lt)) ∙ ap (λ (m : ℕ). Some (known m [])) more),
    )

-- the workers and the main pass behind them
pub record AreFresh (workers : List (Known Event)) (main : Known Event) : Type 0 where
  pub numbered : AreNumbered 0 workers
  pub number : main.number ≡ length workers
  pub behind : AreBehind workers main.front
  pub fresh : main.front ≡ []

last_of : (n : ℕ) (workers : List (Known Event)) (main : Known Event) → AreDealtFrom n (workers ++ main ∷ []) → main ≡ known (n + length workers) []
last_of n [] main d = d.0 ∙ ap (λ (m : ℕ). known m []) (let same : n ≡ n + 0 = omega arith in same)
last_of n (p ∷ workers) main d = last_of (n + 1) workers main d.1 ∙ ap (λ (m : ℕ). known m []) (let same : (n + 1) + length workers ≡ n + length (p ∷ workers) = omega arith in same)

numbered_of : (n : ℕ) (workers : List (Known Event)) (main : Known Event) → AreDealtFrom n (workers ++ main ∷ []) → AreNumbered n workers
numbered_of n [] main d = tt
numbered_of n (p ∷ workers) main d = (ap (λ (q : Known Event). q.number) d.0, numbered_of (n + 1) workers main d.1)

behind_of : (front : List Event) (n : ℕ) (workers : List (Known Event)) (main : Known Event) → AreDealtFrom n (workers ++ main ∷ []) → AreBehind workers front
behind_of front n [] main d = tt
behind_of front n (p ∷ workers) main d = (subst (λ (es : List Event). IsPrefix es front) (sym (ap (λ (q : Known Event). q.front) d.0)) (front, refl), behind_of front (n + 1) workers main d.1)

pub fresh_of : (count : ℕ) (passes workers : List (Known Event)) (main : Known Event) → passes ≡ workers ++ main ∷ [] → IsDealt count passes → AreFresh workers main
fresh_of count passes workers main parts dealt =
    let d : AreDealtFrom 0 (workers ++ main ∷ []) = subst (AreDealtFrom 0) parts (dealt_from 0 passes (λ k lt. let same : k ≡ 0 + k = omega arith in dealt.each k (omega (arith, lt, dealt.all)) ∙ ap (λ (m : ℕ). Some (known m [])) same)) in
    let is = last_of 0 workers main d in
    let number : 0 + length workers ≡ length workers = omega arith in
    record {
      numbered = numbered_of 0 workers main d;
      number = ap (λ (q : Known Event). q.number) is ∙ number;
      behind = behind_of main.front 0 workers main d;
      fresh = ap (λ (q : Known Event). q.front) is;
    }

-- how many workers there are
pub size_of : (count : ℕ) (passes workers : List (Known Event)) (main : Known Event) → passes ≡ workers ++ main ∷ [] → IsDealt count passes → count ≡ length workers + 1
size_of count passes workers main parts dealt = let both = length-append workers (main ∷ []) in let same = ap length parts in omega (arith, dealt.all, both, same)

-- fronts of passes that are handed in
front_seen : (log : List Event) (workers : List (Known Event)) (main : Known Event) → All (λ p. IsFront p.number p.front log) (workers ++ main ∷ []) → HaveSeen workers log × Continues pass_of main.number main.front log
front_seen log [] main all = (tt, continued main.number main.front log (All-head (λ p. IsFront p.number p.front log) main [] all))
front_seen log (p ∷ workers) main all =
    let rest = front_seen log workers main (All-tail (λ p. IsFront p.number p.front log) p (workers ++ main ∷ []) all) in
    ((continued p.number p.front log (All-head (λ p. IsFront p.number p.front log) p (workers ++ main ∷ []) all), rest.0), rest.1)

pub seen_by : (count : ℕ) (log : List Event) (workers : List (Known Event)) (main : Known Event) (passes : List (Known Event)) → passes ≡ workers ++ main ∷ [] → count ≡ length workers + 1 → All (λ p. IsFront p.number p.front log) passes
    → All (λ e. pass_of e < count) log → IsSeenBy workers main log
seen_by count log workers main passes parts size fronts named =
    let s = front_seen log workers main (subst (All (λ p. IsFront p.number p.front log)) parts fronts) in record { of_workers = s.0; of_main = s.1; named = named_up_to count (length workers) log size named }

-- a part of a list that was lent comes back as the whole of it
pub given_back : (n : ℕ) (passes rest : List (Known Event)) → length passes ≡ n → take n (passes ++ rest) ≡ passes
given_back n passes rest is = take-append-le n passes rest (omega (arith, is)) ∙ take_all n passes (omega (arith, is))

module _ {V : Type 0} (asked : Bool) (o : Opened) (script : List (List Line)) (marks_of : V → List ℕ) (saved_of : V → Saved) (workers : List (Known Event)) (main : Known Event) where
  saved_seen : (s : Saved) (log : List Event) → main.front ≡ log → IsSavedAt asked o main.front s → IsSavedAt asked o log s
  saved_seen s log same h = subst (λ (es : List Event). IsSavedAt asked o es s) same h

  -- what is known of the whole
  pub settled : (log : List Event) (r : Result V PlayFault) → IsSeenBy workers main log → IsStaged asked o script marks_of saved_of r workers main → IsSettled asked o (length workers) script marks_of saved_of log r
  settled log (Ok v) seen h =
      let p = h.0 in
      let still = seen_all workers main log p.1.numbered p.1.number p.1.behind seen in
      let same : main.front ≡ log = sym (still.all ∙ append-nil main.front) in
      ((p.0, plays_seen o script (marks_of v) p.0 workers main log p.1 seen), saved_seen (saved_of v) log same h.1)
  settled log (Err (fault.Budget granted)) seen h = spent_seen o granted workers main log h seen
  settled log (Err (fault.Exhausted next)) seen h = h
  settled log (Err fault.DiskFault) seen h = h
  settled log (Err (fault.JournalFull length_)) seen h = h
  settled log (Err fault.NoMemory) seen h = h
