-- What workers do, as the laws of plays see it.
use Rattle.std.proofs.Common.{◌≡◌, ℕ, ◌<◌, ◌^◌, Some, None, inl, inr, List, [], ◌∷◌, ◌++◌, map, refl, sym, ap, subst, ◌∙◌}
use Rattle.std.specs.List.{All, AllByRecursion}
use Rattle.std.proofs.lemmas.List.Elements.{All-head, All-tail}
use Rattle.dk_types.specs.declared.limits.TheConstants.{NUMBERS_END}
use Rattle.dk_types.specs.declared.event.Event.{Event}
use Rattle.dk_types.specs.declared.event.Event.TheVariants as event
use Rattle.dk_types.specs.declared.event.ClaimReply.{ClaimReply}
use Rattle.dk_types.specs.declared.event.ClaimReply.TheVariants as reply
use Rattle.dk_model.specs.Legal.{Opened, IsLegal}
use Rattle.dk_turn.specs.Fronts.{Known}
use Rattle.dk_workers.specs.declared.worked.Worked.{Worked}
use Rattle.dk_workers.specs.declared.worked.Worked.TheVariants as worked
use Rattle.dk_workers.specs.declared.working.Ran.{Ran}
use Rattle.dk_workers.specs.Rows.{Shift, first_of}
use Rattle.dk_workers.specs.Workers.{committed, EndsWithClaim, EndsWithRelease, EndsBy, Works, WorkAll}
use Rattle.dk_play_laws.specs.Phased.{GoesOn, HasWorkedOn, EndsWork}
use Rattle.dk_play_laws.specs.Seen.{ArePaired}
use Rattle.dk_play_laws.specs.Worked.{AreWorked}
use Rattle.dk_play_laws.proofs.Budgets.{numbers_end}
use Rattle.dk_play_laws.proofs.Worked.{worked_then}

-- runs that were committed are worked
runs_worked : (pass : ℕ) (rans : List Ran) → AreWorked None (committed pass rans) None
runs_worked pass [] = refl
runs_worked pass (ran ∷ rans) = (Some ran.run, refl, (None, (refl, refl), runs_worked pass rans))

-- a claim that was granted nothing
claim_worked : (pass : ℕ) (answer : ClaimReply) (tail front : List Event) → AreWorked None (event.Claim pass answer ∷ []) None → EndsWithClaim pass answer tail front → AreWorked None tail None
claim_worked pass answer tail front silent e = subst (λ es. AreWorked None es None) (sym e.claim) silent

-- a claim that was given back
release_worked : (o : Opened) (pass : ℕ) (end : Worked) (tail front : List Event) → EndsWithRelease o pass end tail front → AreWorked None tail None
release_worked o pass end tail front e = subst (λ es. AreWorked None es None) (sym e.events) (Some e.claimed.run, refl, (None, (refl, refl), refl))

-- however it ends, a worker has ended what it claimed
tail_worked : (o : Opened) (pass : ℕ) (end : Worked) (tail front : List Event) → EndsBy o pass end tail front → AreWorked None tail None
tail_worked o pass worked.Idle tail front e = claim_worked pass reply.Nothing tail front (None, refl, refl) e
tail_worked o pass (worked.Spent granted) tail front e = claim_worked pass (reply.Spent granted) tail front (None, refl, refl) e
tail_worked o pass (worked.Exhausted next) tail front e = claim_worked pass (reply.Exhausted next) tail front (None, refl, refl) e
tail_worked o pass worked.DiskFault tail front e = release_worked o pass worked.DiskFault tail front e
tail_worked o pass (worked.Stopped faults) tail front e = release_worked o pass (worked.Stopped faults) tail front e
tail_worked o pass (worked.JournalFull length) tail front e = release_worked o pass (worked.JournalFull length) tail front e
tail_worked o pass worked.NoMemory tail front (inl none) = subst (λ es. AreWorked None es None) (sym none) refl
tail_worked o pass worked.NoMemory tail front (inr e) = release_worked o pass worked.NoMemory tail front e

-- one worker's pass before and after, and its answer
abbrev WorkShift : Type 0
WorkShift = Shift (Known Event)

module _ (o : Opened) (count : ℕ) where
  -- a worker worked
  pub works_on : (end : Worked) (old new : Known Event) → Works o count end old new → HasWorkedOn old new
  works_on end old new w = record {
    events = committed old.number w.rans ++ w.tail;
    goes = record { number = w.number; begins = w.enters.begins; own_events = w.enters.own_events };
    worked = worked_then None None None (committed old.number w.rans) w.tail (runs_worked old.number w.rans) (tail_worked o old.number end w.tail new.front w.ends);
  }

  -- and so did all
  all_on : (shifts : List WorkShift) → All (λ (s : WorkShift). Works o count s.end s.old s.new) shifts → ArePaired HasWorkedOn (map (λ (s : WorkShift). s.old) shifts) (map (λ (s : WorkShift). s.new) shifts)
  all_on [] each = tt
  all_on (s ∷ shifts) each = (works_on s.end s.old s.new (All-head (λ (s : WorkShift). Works o count s.end s.old s.new) s shifts each), all_on shifts (All-tail (λ (s : WorkShift). Works o count s.end s.old s.new) s shifts each))

  pub work_all_on : (end : Worked) (olds news : List (Known Event)) → WorkAll o count end olds news → ArePaired HasWorkedOn olds news
  work_all_on end olds news w =
      subst (λ (ps : List (Known Event)). ArePaired HasWorkedOn ps news) (sym w.before) (subst (λ (qs : List (Known Event)). ArePaired HasWorkedOn (map (λ (s : WorkShift). s.old) w.shifts) qs) (sym w.after) (all_on w.shifts w.each))

  -- a worker whose last claim was answered so
  pub ends_work : (answer : ClaimReply) (end : Worked) (old new : Known Event) → AreWorked None (event.Claim old.number answer ∷ []) None → (w : Works o count end old new) → EndsWithClaim old.number answer w.tail new.front → EndsWork answer old new
  ends_work answer end old new silent w e =
      let is : committed old.number w.rans ++ w.tail ≡ committed old.number w.rans ++ event.Claim old.number answer ∷ [] = ap (λ (es : List Event). committed old.number w.rans ++ es) e.claim in
      record {
        events = committed old.number w.rans;
        goes = subst (λ (es : List Event). GoesOn es old new) is record { number = w.number; begins = w.enters.begins; own_events = w.enters.own_events };
        worked = worked_then None None None (committed old.number w.rans) (event.Claim old.number answer ∷ []) (runs_worked old.number w.rans) silent;
      }

  -- what an answer says beside
  abbrev pub IsCaused : Worked → Type 0
  IsCaused worked.Idle = Unit {0}
  IsCaused (worked.Spent granted) = Unit {0}
  IsCaused (worked.Exhausted next) = next ≡ NUMBERS_END
  IsCaused worked.DiskFault = Unit {0}
  IsCaused (worked.Stopped faults) = Unit {0}
  IsCaused (worked.JournalFull length) = 2 ^ 40 < length
  IsCaused worked.NoMemory = Unit {0}

  -- each answer has its cause
  pub is_caused : (end : Worked) (old new : Known Event) → Works o count end old new → IsCaused end
  is_caused worked.Idle old new w = tt
  is_caused (worked.Spent granted) old new w = tt
  is_caused (worked.Exhausted next) old new w =
      numbers_end o w.ends.before (event.Claim old.number (reply.Exhausted next)) next refl
      (subst (IsLegal o) (w.ends.last ∙ ap (λ (es : List Event). w.ends.before ++ es) w.ends.claim) w.legal)
  is_caused worked.DiskFault old new w = tt
  is_caused (worked.Stopped faults) old new w = tt
  is_caused (worked.JournalFull length) old new w = w.ends.cause.holds
  is_caused worked.NoMemory old new w = tt

  -- and so has the first that is not Idle
  first_caused : (ends : List Worked) → AllByRecursion IsCaused ends → IsCaused (first_of ends)
  first_caused [] all = tt
  first_caused (worked.Idle ∷ ends) all = first_caused ends all.1
  first_caused (worked.Spent granted ∷ ends) all = all.0
  first_caused (worked.Exhausted next ∷ ends) all = all.0
  first_caused (worked.DiskFault ∷ ends) all = all.0
  first_caused (worked.Stopped faults ∷ ends) all = all.0
  first_caused (worked.JournalFull length ∷ ends) all = all.0
  first_caused (worked.NoMemory ∷ ends) all = all.0

  shifts_caused : (shifts : List WorkShift) → All (λ (s : WorkShift). Works o count s.end s.old s.new) shifts → AllByRecursion IsCaused (map (λ (s : WorkShift). s.end) shifts)
  shifts_caused [] each = tt
  shifts_caused (s ∷ shifts) each =
      (is_caused s.end s.old s.new (All-head (λ (s : WorkShift). Works o count s.end s.old s.new) s shifts each), shifts_caused shifts (All-tail (λ (s : WorkShift). Works o count s.end s.old s.new) s shifts each))

  pub work_all_caused : (end : Worked) (olds news : List (Known Event)) → WorkAll o count end olds news → IsCaused end
  work_all_caused end olds news w = subst IsCaused (sym w.first) (first_caused (map (λ (s : WorkShift). s.end) w.shifts) (shifts_caused w.shifts w.each))
