-- A run that is committed was claimed once, and is committed once.
use Rattle.std.proofs.Common.{◌≡◌, ℕ, ◌<◌, ◌≤◌, false, suc, Option, Some, None, List, [], ◌∷◌, ◌++◌, inl, inr, length, filter, refl, sym, ap, ◌∙◌, arith}
use Rattle.std.specs.FinMap.{get}
use Rattle.std.specs.List.{list_any}
use Rattle.std.proofs.lemmas.Bool.Decides.{leb_tells}
use Rattle.dk_types.specs.declared.number.RunNo.{RunNo}
use Rattle.dk_types.specs.declared.fault.Outcome.{Outcome}
use Rattle.dk_types.specs.declared.event.Event.{Event}
use Rattle.dk_types.specs.declared.event.Event.TheVariants as event
use Rattle.dk_model.specs.DurableWorlds.{DurableWorld}
use Rattle.dk_model.specs.Worlds.{World, Claim}
use Rattle.dk_model.specs.Events.{Meaning}
use Rattle.dk_model.specs.Histories.{Leads}
use Rattle.dk_model.specs.Openings.{opening}
use Rattle.dk_model.specs.Sights.{grants}
use Rattle.dk_laws.specs.HistoryLaws.{commits_run}
use Rattle.dk_laws.proofs.OneWorld.{parted}
use Rattle.dk_laws.proofs.NumberedMaps.{equal, run-remove}
use Rattle.dk_laws.proofs.Numbers.{AreBelow, none_some, opening_claims, opening_below, happens_below, leads_below, claimed_below, fate}

-- the events neither grant the run nor commit it
pub record AreOthers (run : RunNo) (events : List Event) : Type 0 where
  pub granted : length (filter (grants run) events) ≡ 0
  pub committed : list_any (commits_run run) events ≡ false

others_more : (run : RunNo) (e : Event) (events : List Event) → grants run e ≡ false → commits_run run e ≡ false → AreOthers run events → AreOthers run (e ∷ events)
others_more run e events g k o = record { granted = rw g o.granted; committed = rw k o.committed }

-- a number that is drawn, and belongs to no claim, is never claimed
pub record IsOver (run : RunNo) (events : List Event) (after : World) : Type 0 where
  pub none : get after.claims run ≡ None
  pub others : AreOthers run events

pub gone_for_good : (rules : Meaning) (w : World) (run : RunNo) (events : List Event) (after : World) → run.0 < w.next → get w.claims run ≡ None
    → Leads rules w events after → IsOver run events after
gone_for_good rules w run [] after lt none h = record { none = ap (λ (x : World). get x.claims run) h ∙ none; others = record { granted = refl; committed = refl } }
gone_for_good rules w run (e ∷ events) after lt none h = elim (fate run rules w e h.0 h.1) [
  | inl f ↦ let drawn = f.drawn in absurd (omega arith)
  | inr (inl f) ↦ none_some f.claim (sym none ∙ f.held)
  | inr (inr f) ↦
      let grown = f.next in
      let rest = gone_for_good rules h.0 run events after (omega arith) (f.same ∙ none) h.2 in
      record { none = rest.none; others = others_more run e events f.grants f.commits rest.others }
]

-- while a run stays claimed it is neither granted nor committed
pub held_on : (rules : Meaning) (w : World) (run : RunNo) (claim : Claim) (events : List Event) (after : World) → run.0 < w.next
    → get after.claims run ≡ Some claim → Leads rules w events after → AreOthers run events
held_on rules w run claim [] after lt some h = record { granted = refl; committed = refl }
held_on rules w run claim (e ∷ events) after lt some h = elim (fate run rules w e h.0 h.1) [
  | inl f ↦ let drawn = f.drawn in absurd (omega arith)
  | inr (inl f) ↦
      let same = f.next in
      let over = gone_for_good rules h.0 run events after (omega arith) f.gone h.2 in none_some claim (sym over.none ∙ some)
  | inr (inr f) ↦
      let grown = f.next in
      others_more run e events f.grants f.commits (held_on rules h.0 run claim events after (omega arith) some h.2)
]

-- granted once, and not committed
pub record IsGrantedOnce (run : RunNo) (events : List Event) : Type 0 where
  pub granted : length (filter (grants run) events) ≡ 1
  pub committed : list_any (commits_run run) events ≡ false

-- a run that is claimed after a history whose first world had not drawn its number
pub granted_once : (rules : Meaning) (w : World) (run : RunNo) (claim : Claim) (events : List Event) (after : World) → AreBelow w → w.next ≤ run.0
    → get after.claims run ≡ Some claim → Leads rules w events after → IsGrantedOnce run events
granted_once rules w run claim [] after below le some h =
    none_some claim (sym (below.claims run le) ∙ sym (ap (λ (x : World). get x.claims run) h) ∙ some)
granted_once rules w run claim (e ∷ events) after below le some h = elim (fate run rules w e h.0 h.1) [
  | inl f ↦
      let next = f.next in
      let drawn = f.drawn in
      let rest = held_on rules h.0 run claim events after (omega arith) some h.2 in
      record { granted = rw f.grants (ap (λ (n : ℕ). suc n) rest.granted); committed = rw f.commits rest.committed }
  | inr (inl f) ↦ none_some f.claim (sym (below.claims run le) ∙ f.held)
  | inr (inr f) ↦
      elim (leb_tells h.0.next run.0) [
        | inl t ↦
            let rest = granted_once rules h.0 run claim events after (happens_below rules w e h.0 below h.1) t.1 some h.2 in
            record { granted = rw f.grants rest.granted; committed = rw f.commits rest.committed }
        | inr t ↦
            let over = gone_for_good rules h.0 run events after t.1 (f.same ∙ below.claims run le) h.2 in none_some claim (sym over.none ∙ some)
      ]
]

-- from the opening on a claimed run was granted once, and not committed
pub claimed_once : (rules : Meaning) (d : DurableWorld) (budget : Option ℕ) (run : RunNo) (claim : Claim) (events : List Event) (after : World)
    → get after.claims run ≡ Some claim → Leads rules (opening d budget) events after → IsGrantedOnce run events
claimed_once rules d budget run claim events after some h =
    let o = opening d budget in
    let below = opening_below d budget in
    elim (leb_tells o.next run.0) [
      | inl t ↦ granted_once rules o run claim events after below t.1 some h
      | inr t ↦ let over = gone_for_good rules o run events after t.1 (opening_claims d budget run) h in none_some claim (sym over.none ∙ some)
    ]

pub committed_once : (rules : Meaning) (d : DurableWorld) (budget : Option ℕ) (before later : List Event) (w : World) (pass seq : ℕ) (run : RunNo) (outcome : Outcome)
    → Leads rules (opening d budget) (before ++ event.Commit pass run seq outcome ∷ later) w
    → (length (filter (grants run) before) ≡ 1) × (list_any (commits_run run) before ≡ false) × (list_any (commits_run run) later ≡ false)
committed_once rules d budget before later w pass seq run outcome h =
    let p = parted rules (opening d budget) before (event.Commit pass run seq outcome ∷ later) w h in
    let commit = p.second in
    let step = commit.1 in
    let below = leads_below rules (opening d budget) before p.at (opening_below d budget) p.first in
    let once = claimed_once rules d budget run step.0 before p.at step.1 p.first in
    let lt = claimed_below p.at run step.0 below step.1 in
    let gone : get commit.0.claims run ≡ None = ap (λ (x : World). get x.claims run) step.5 ∙ run-remove p.at.claims run run ∙ rw (equal run.0 run.0 refl) refl in
    let next : commit.0.next ≡ p.at.next = ap (λ (x : World). x.next) step.5 in
    let over = gone_for_good rules commit.0 run later w (omega arith) gone commit.2 in
    (once.granted, once.committed, over.others.committed)
