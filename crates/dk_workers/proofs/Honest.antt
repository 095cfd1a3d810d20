-- A run that read the world as it stands is honest, and its reads stand.
use Rattle.std.proofs.Common.{◌≡◌, ℕ, ◌<◌, ◌≤◌, Bool, true, false, ◌||◌, if◌then◌else◌, Option, List, [], ◌∷◌, ◌++◌, length, refl, sym, ap, subst, ◌∙◌, arith}
use Rattle.std.proofs.lemmas.List.{append-nil, append_assoc}
use Rattle.std.specs.List.{AllByRecursion, list_any, filter}
use Rattle.dk_types.specs.declared.item.Item.{Item}
use Rattle.dk_types.specs.declared.item.Read.{Read}
use Rattle.dk_types.specs.declared.event.Event.{Event}
use Rattle.dk_types.specs.declared.limits.TheConstants.{MOMENT_MOST_MS}
use Rattle.dk_model.specs.DurableWorlds.{DurableWorld}
use Rattle.dk_model.specs.Events.{Meaning}
use Rattle.dk_model.specs.Finishes.{KeepsLaw, IsHonest}
use Rattle.dk_model.specs.Lawful.{AreLawful}
use Rattle.dk_model.specs.Openings.{opening}
use Rattle.dk_model.specs.Sights.{grants, IsHonestRead}
use Rattle.dk_laws.proofs.ClaimedOnce.{claimed_once}
use Rattle.dk_txn.specs.declared.finished.Finished.{Finished}
use Rattle.dk_txn.specs.Finishes.{report}
use Rattle.dk_txn.specs.Knowing.{HasTaskLimits}
use Rattle.dk_core.specs.StampedWorlds.{Stamped, seen_now}
use Rattle.dk_core.specs.Changes.{IsFirstConflict}
use Rattle.dk_core.specs.declared.durable.conflicts.Conflict.{Conflict}
use Rattle.dk_game.proofs.Lent.{job_fits}
use Rattle.dk_core.specs.declared.world.Core.{Core}
use Rattle.dk_core.specs.declared.claimed.Claimed.{Claimed}
use Rattle.dk_core.specs.Cores.{world_of, Represents, IsStanding, IsGranted, Adds, AddsBy}
use Rattle.dk_core.proofs.Opened.{read_at}
use Rattle.dk_core.proofs.Standing.{sound_of}
use Rattle.dk_workers.specs.Working.{AreReadsNow, RepresentsSome}

-- a read of the world as it stands does not differ from what is seen
none_differs : (w : Stamped) (before : List (Item × Read)) (item : Item) (read : Read) (behind : List (Item × Read)) → AreReadsNow w (before ++ (item, read) ∷ behind) → read.seen ≡ seen_now w item
none_differs w [] item read behind all = ap (λ (r : Read). r.seen) all.0
none_differs w (r ∷ before) item read behind all = none_differs w before item read behind all.1

-- so none is the first that changed
pub none_changed : (w : Stamped) (reads : List (Item × Read)) (c : Conflict) → AreReadsNow w reads → IsFirstConflict w reads c → ⊥
none_changed w reads c all f = f.differ (f.found ∙ none_differs w f.before c.item f.read f.behind (subst (AreReadsNow w) f.listed all) ∙ sym f.now)

-- a test that passes once passes for some
any_once : {A : Type 0} (p : A → Bool) (xs : List A) → 0 < length (filter p xs) → list_any p xs ≡ true
any_once p [] h = absurd (omega (arith, h))
any_once p (x ∷ xs) h = elim (p x) as (λ b. p x ≡ b → 0 < length (if b then x ∷ filter p xs else filter p xs) → (b || list_any p xs) ≡ true) [
  | true ↦ λ _ _. refl
  | false ↦ λ _ g. any_once p xs g
] refl h

pub standing_of : (rules : Meaning) (c : Core) → AreLawful rules → RepresentsSome rules c → IsStanding c
standing_of rules c lawful s = record { rules = rules; opened = s.opened; budget = s.budget; events = s.events; lawful = lawful; stands = s.stands }

module _ (rules : Meaning) (lawful : AreLawful rules) (c : Core) (claimed : Claimed) (held : IsGranted c claimed) where
  -- a claimed run is within its limits
  pub claim_within : RepresentsSome rules c → (HasTaskLimits claimed.job) × (claimed.at ≤ MOMENT_MOST_MS)
  claim_within s =
      let sound = (sound_of rules lawful s.opened s.budget s.events c s.stands).claims claimed.run (record { pass = claimed.pass; job = claimed.job; at = claimed.at }) held in
      (job_fits claimed.job sound.job, sound.moment)

  module _ (d : DurableWorld) (budget : Option ℕ) (events : List Event) (s : Represents rules d budget events c) where
    honest_reads : (reads : List (Item × Read)) → AreReadsNow c.world reads → AllByRecursion (λ r. IsHonestRead rules (opening d budget) events claimed.run r.0 r.1) reads
    honest_reads [] all = tt
    honest_reads (r ∷ reads) all = (
      record {
        earlier = events;
        later = [];
        all = sym (append-nil events);
        granted = let once = (claimed_once rules d budget claimed.run (record { pass = claimed.pass; job = claimed.job; at = claimed.at }) events (world_of c) held s.leads).granted in any_once (grants claimed.run) events (omega (arith, once));
        was = read_at c r.0 r.1 all.0 rules d budget events s;
      },
      honest_reads reads all.1,
    )

    -- a run that keeps the law, and read the world as it stands, is honest
    pub honest_now : (f : Finished) → KeepsLaw rules claimed.job claimed.run claimed.at f.reads.items (report f) → AreReadsNow c.world f.reads.items
        → IsHonest rules (opening d budget) events claimed.job claimed.run claimed.at f.reads.items (report f)
    honest_now f law all = record { law = law; honest = honest_reads f.reads.items all }

-- events one after another
pub goes_then : (rules : Meaning) (a b c : Core) (first second : Event) → AddsBy rules a b (first ∷ []) → AddsBy rules b c (second ∷ []) → AddsBy rules a c (first ∷ second ∷ [])
goes_then rules a b c first second g h d budget events s =
    subst (λ es. Represents rules d budget es c) (append_assoc events (first ∷ []) (second ∷ [])) (h d budget (events ++ first ∷ []) (g d budget events s))

-- the core stands for some history of the rules still
pub standing_then : (rules : Meaning) (a b : Core) (more : List Event) → RepresentsSome rules a → AddsBy rules a b more → RepresentsSome rules b
standing_then rules a b more s g = record { opened = s.opened; budget = s.budget; events = s.events ++ more; stands = g s.opened s.budget s.events s.stands }

-- what is entered by any lawful rules is entered by these
pub enters_goes : (rules : Meaning) → AreLawful rules → (old new : Core) (e : Event) → Adds old new (e ∷ []) → AddsBy rules old new (e ∷ [])
enters_goes rules lawful old new e enters d budget events s = enters rules d budget events lawful s

-- so the core stands for some history of them still
pub entered : (rules : Meaning) → AreLawful rules → (old new : Core) (e : Event) → RepresentsSome rules old → Adds old new (e ∷ []) → RepresentsSome rules new
entered rules lawful old new e s enters = standing_then rules old new (e ∷ []) s (enters_goes rules lawful old new e enters)
