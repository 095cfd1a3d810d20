-- A round of the main pass: it meets one worker after another.
use Rattle.std.proofs.Common.{◌≡◌, ◌≢◌, ℕ, zero, suc, ◌+◌, ◌<◌, ◌≤◌, List, [], ◌∷◌, ◌++◌, length, get_or, refl, sym, ap, subst, ◌∙◌, arith}
use Rattle.std.proofs.Math.ListN.{set}
use Rattle.std.specs.List.{AllByRecursion}
use Rattle.std.proofs.lemmas.List.{append-nil}
use mathlib.Core.List.{IsPrefix}
use Rattle.dk_types.specs.declared.event.Event.{Event}
use Rattle.dk_model.specs.Legal.{IsFront, pass_of}
use Rattle.dk_turn.specs.Fronts.{Known, Continues}
use Rattle.dk_play_laws.specs.Phased.{GoesOn, HasMet, HaveMet}
use Rattle.dk_play_laws.specs.Seen.{ArePaired}
use Rattle.dk_play_laws.proofs.Drained.{prefix_then}
use Rattle.dk_play_laws.proofs.Own.{of_pass, of_append, of_rest}

-- events of others are none of the pass's own
none_own : (pass : ℕ) (events : List Event) → AllByRecursion (λ e. pass_of e ≢ pass) events → of_pass pass events ≡ []
none_own pass [] others = refl
none_own pass (e ∷ events) others = of_rest pass e events others.0 ∙ none_own pass events others.1

-- a front that goes on without its pass continues it
pub continued : (pass : ℕ) (front log : List Event) → IsFront pass front log → Continues pass_of pass front log
continued pass front log f = record {
  begins = (f.later, sym f.all);
  none_beyond = ap (of_pass pass) f.all ∙ of_append pass front f.later ∙ ap (λ (es : List Event). of_pass pass front ++ es) (none_own pass f.later f.others) ∙ append-nil (of_pass pass front);
}

-- so many of the workers were met, and the others are as they were
abbrev pub MetTo : List Event → List Event → ℕ → List (Known Event) → List (Known Event) → Type 0
MetTo from to k [] [] = Unit {0}
MetTo from to zero (p ∷ before) (q ∷ now) = (q ≡ p) × MetTo from to zero before now
MetTo from to (suc k) (p ∷ before) (q ∷ now) = HasMet from to p q × MetTo from to k before now
MetTo from to k [] (q ∷ now) = ⊥
MetTo from to k (p ∷ before) [] = ⊥

-- none was met yet
pub none_met : (from : List Event) (workers : List (Known Event)) → MetTo from from zero workers workers
none_met from [] = tt
none_met from (p ∷ workers) = (refl, none_met from workers)

met_more : (from to later : List Event) (p q : Known Event) → IsPrefix to later → HasMet from to p q → HasMet from later p q
met_more from to later p q more m = record { number = m.number; continues = m.continues; begins = m.begins; ends = prefix_then q.front to later m.ends more }

-- the main pass goes on
met_on : (from to later : List Event) (k : ℕ) (before now : List (Known Event)) → IsPrefix to later → MetTo from to k before now → MetTo from later k before now
met_on from to later k [] [] more m = tt
met_on from to later zero (p ∷ before) (q ∷ now) more m = (m.0, met_on from to later zero before now more m.1)
met_on from to later (suc k) (p ∷ before) (q ∷ now) more m = (met_more from to later p q more m.0, met_on from to later k before now more m.1)
met_on from to later k [] (q ∷ now) more m = absurd m
met_on from to later k (p ∷ before) [] more m = absurd m

-- the next one is met
pub met_next : (from to later : List Event) (k : ℕ) (before now : List (Known Event)) (p q : Known Event) → IsPrefix to later → MetTo from to k before now → k < length now → get_or now k p ≡ p → HasMet from later p q
    → MetTo from later (suc k) before (set now k q)
met_next from to later k [] [] p q more m within is one = absurd (omega arith)
met_next from to later zero (b ∷ before) (n ∷ now) p q more m within is one = (subst (λ (x : Known Event). HasMet from later x q) (sym is ∙ m.0) one, met_on from to later zero before now more m.1)
met_next from to later (suc k) (b ∷ before) (n ∷ now) p q more m within is one = (met_more from to later b n more m.0, met_next from to later k before now p q more m.1 (omega arith) is one)
met_next from to later k [] (n ∷ now) p q more m within is one = absurd m
met_next from to later k (b ∷ before) [] p q more m within is one = absurd m

-- all were met
pub all_met : (from to : List Event) (k : ℕ) (before now : List (Known Event)) → length now ≤ k → MetTo from to k before now → ArePaired (HasMet from to) before now
all_met from to k [] [] few m = tt
all_met from to zero (p ∷ before) (q ∷ now) few m = absurd (omega arith)
all_met from to (suc k) (p ∷ before) (q ∷ now) few m = (m.0, all_met from to k before now (omega arith) m.1)
all_met from to k [] (q ∷ now) few m = absurd m
all_met from to k (p ∷ before) [] few m = absurd m

-- a meeting of the main pass with a worker
pub a_meeting : (from : List Event) (main met p q : Known Event) → IsPrefix from main.front → q.number ≡ p.number → met.front ≡ q.front → IsFront main.number main.front met.front → IsFront p.number p.front q.front → HasMet from met.front p q
a_meeting from main met p q begins number same f g = record {
  number = number;
  continues = continued p.number p.front q.front g;
  begins = subst (IsPrefix from) same (prefix_then from main.front met.front begins (continued main.number main.front met.front f).begins);
  ends = subst (IsPrefix q.front) (sym same) ([], append-nil q.front);
}

-- the main pass met one more
pub met_then : (old main met : Known Event) → GoesOn [] old main → met.number ≡ main.number → IsFront main.number main.front met.front → GoesOn [] old met
met_then old main met goes number f =
    let c = continued main.number main.front met.front f in
    record {
      number = number ∙ goes.number;
      begins = prefix_then old.front main.front met.front goes.begins c.begins;
      own_events = subst (λ (k : ℕ). of_pass k met.front ≡ of_pass k main.front) goes.number c.none_beyond ∙ goes.own_events;
    }

pub still : (p : Known Event) → GoesOn [] p p
still p = record { number = refl; begins = ([], append-nil p.front); own_events = sym (append-nil (of_pass p.number p.front)) }

-- the main pass met so many workers
pub record IsRoundTo (k : ℕ) (before now : List (Known Event)) (old main : Known Event) : Type 0 where
  pub goes : GoesOn [] old main
  pub met : MetTo old.front main.front k before now

-- it met none yet
pub round_none : (workers : List (Known Event)) (main : Known Event) → IsRoundTo 0 workers workers main main
round_none workers main = record { goes = still main; met = none_met main.front workers }

-- it meets one more
pub round_next : (k : ℕ) (before now : List (Known Event)) (old main met p q : Known Event) → IsRoundTo k before now old main → k < length now → get_or now k p ≡ p
    → met.number ≡ main.number → q.number ≡ p.number → met.front ≡ q.front → IsFront main.number main.front met.front → IsFront p.number p.front q.front → IsRoundTo (k + 1) before (set now k q) old met
round_next k before now old main met p q r within is number same_number same f g =
    let next : suc k ≡ k + 1 = omega arith in record {
      goes = met_then old main met r.goes number f;
      met = subst (λ (n : ℕ). MetTo old.front met.front n before (set now k q)) next
          (met_next old.front main.front met.front k before now p q (continued main.number main.front met.front f).begins r.met within is (a_meeting old.front main met p q r.goes.begins same_number same f g));
    }

-- it met all
pub round_all : (k : ℕ) (before now : List (Known Event)) (old main : Known Event) → length now ≤ k → IsRoundTo k before now old main → HaveMet before now old main
round_all k before now old main few r = record { main = r.goes; each = all_met old.front main.front k before now few r.met }
