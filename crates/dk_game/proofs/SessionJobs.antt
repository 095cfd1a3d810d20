-- What the jobs of sessions do, from the calls that they made.
use Rattle.std.proofs.Common.{◌≡◌, ℕ, ◌+◌, ◌<◌, ◌≤◌, zero, suc, if◌then◌else◌, Option, Some, None, is_some, List, [], ◌∷◌, length, drop, get_or, Result, Ok, refl, sym, ap, subst, ◌∙◌, arith}
use Rattle.dk_types.specs.declared.number.ObjectId.{ObjectId}
use Rattle.dk_types.specs.declared.job.Session.{Session}
use Rattle.dk_types.specs.declared.job.Job.{Job}
use Rattle.dk_model.specs.Platforms.{platform_bound, find_session, leave}
use Rattle.dk_model.specs.Records.{session_name}
use Rattle.dk_model.specs.Runs.{Run, Act, give, and_then}
use Rattle.dk_model.specs.Steps.{displace, displace_found, displace_recorded, leave_channels}
use Rattle.dk_overlay.specs.ReadsAndWrites.{ReadsAndWrites}
use Rattle.dk_refs.specs.Lookups.{is_recorded}
use Rattle.dk_txn.specs.declared.txn.Txn.{Txn}
use Rattle.dk_txn.specs.Does.{Does, Resumes}
use Rattle.dk_txn.proofs.Kit.{does_as}
use Rattle.dk_game.specs.declared.halt.Halt.{Halt}
use Rattle.dk_game.specs.Halted.{halt_fault}
use Rattle.dk_txn.specs.Sights.{Sights}

-- what becomes of a name that has a record: its session is found, and displaced
abbrev found_and_displaced : List ℕ → (Job → Act (Unit {0})) → Act (Unit {0})
found_and_displaced name game = and_then (find_session name) (λ old. displace old game)

displaced_as : (o : Option ObjectId) (name : List ℕ) (game : Job → Act (Unit {0})) (s : Run) → displace_found o name game s ≡ (if is_some o then found_and_displaced name game else give (Ok tt)) s
displaced_as (Some id) name game s = refl
displaced_as None name game s = refl

-- whether a session is displaced is the question whether its name has a record
pub displaced_does : {S : Type 0} {sights : Sights S} {a b : Txn S ReadsAndWrites} {r : Result (Unit {0}) Halt} (name : List ℕ) (game : Job → Act (Unit {0}))
    → Does sights halt_fault a b (and_then (is_recorded name) (λ there. if there then found_and_displaced name game else give (Ok tt))) r → Does sights halt_fault a b (displace_recorded name game) r
unfolding and_then is_recorded
displaced_does name game p = does_as _ (λ s. displaced_as (platform_bound s (session_name name)) name game s) p

turn : (channels : List (List ℕ)) (i : ℕ) (x : List ℕ) → i < length channels → drop i channels ≡ get_or channels i x ∷ drop (suc i) channels
turn [] i x h = absurd (omega (arith, h))
turn (c ∷ channels) zero x h = refl
turn (c ∷ channels) (suc i) x h = turn channels i x (omega (arith, h))

none_left : (channels : List (List ℕ)) (i : ℕ) → length channels ≤ i → drop i channels ≡ []
none_left [] zero h = refl
none_left [] (suc i) h = refl
none_left (c ∷ channels) zero h = absurd (omega (arith, h))
none_left (c ∷ channels) (suc i) h = none_left channels i (omega (arith, h))

module _ {S : Type 0} {sights : Sights S} {a b : Txn S ReadsAndWrites} {f : Act (Unit {0})} (session : Session) (channels : List (List ℕ)) (i : ℕ) where
  -- what is left at a channel begins with it
  pub at_channel : (name x : List ℕ) → i < length channels → name ≡ get_or channels i x → Resumes sights a b f (leave_channels session (drop i channels))
      → Resumes sights a b f (and_then (leave name session) (λ _. leave_channels session (drop (i + 1) channels)))
  at_channel name x h is p =
      let next : suc i ≡ i + 1 = omega arith in
      let here : drop i channels ≡ name ∷ drop (i + 1) channels = turn channels i x h ∙ ap (λ (y : List ℕ). y ∷ drop (suc i) channels) (sym is) ∙ ap (λ n. name ∷ drop n channels) next in
      subst (λ cs. Resumes sights a b f (leave_channels session cs)) here p

  -- behind the last nothing is left
  pub at_end : length channels ≤ i → Resumes sights a b f (leave_channels session (drop i channels)) → Resumes sights a b f (leave_channels session [])
  at_end h p = subst (λ cs. Resumes sights a b f (leave_channels session cs)) (none_left channels i h) p
