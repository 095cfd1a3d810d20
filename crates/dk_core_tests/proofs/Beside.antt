-- What is claimed stays claimed while another job is claimed, run and committed.
use Rattle.std.proofs.Common.{◌≡◌, ℕ, ◌<◌, [], ◌∷◌, sym, ap, subst, refl, ◌∙◌, arith}
use Rattle.std.specs.FinMap.{get}
use Rattle.dk_model.specs.Worlds.{World, Claim}
use Rattle.dk_model.specs.Events.{Meaning}
use Rattle.dk_model.specs.Openings.{opening}
use Rattle.dk_laws.proofs.NumberedMaps.{unequal, run-insert, run-remove}
use Rattle.dk_laws.proofs.Numbers.{leads_below, opening_below, claimed_below}
use Rattle.dk_laws.proofs.OneWorld.{events_lead, parted}
use Rattle.dk_core.specs.declared.world.Core.{Core}
use Rattle.dk_core.specs.declared.claimed.Claimed.{Claimed}
use Rattle.dk_core.specs.Cores.{world_of, IsGranted, AddsBy}
use Rattle.dk_workers.specs.declared.working.Ran.{Ran}
use Rattle.dk_workers.specs.Working.{RepresentsSome, claim_of, commit_of}

pub kept_beside : (rules : Meaning) (old new : Core) (pass : ℕ) (ran : Ran) (claimed : Claimed) → RepresentsSome rules old → AddsBy rules old new (claim_of pass ran ∷ commit_of pass ran ∷ []) → IsGranted old claimed
    → IsGranted new claimed
kept_beside rules old new pass ran claimed s goes held =
    let n = goes s.opened s.budget s.events s.stands in
    let p = parted rules (opening s.opened s.budget) s.events (claim_of pass ran ∷ commit_of pass ran ∷ []) (world_of new) n.leads in
    let at : world_of old ≡ p.at = events_lead rules (opening s.opened s.budget) s.events (world_of old) s.stands.leads ∙ sym (events_lead rules (opening s.opened s.budget) s.events p.at p.first) in
    let low : claimed.run.0 < (world_of old).next = claimed_below (world_of old) claimed.run (record { pass = claimed.pass; job = claimed.job; at = claimed.at })
    (leads_below rules (opening s.opened s.budget) s.events (world_of old) (opening_below s.opened s.budget) s.stands.leads) held in
    let low_at : claimed.run.0 < p.at.next = subst (λ (w : World). claimed.run.0 < w.next) at low in
    let granted = p.second.1 in
    let committed = p.second.2.1 in
    let number : ran.run.0 ≡ p.at.next = ap (λ r. r.0) granted.3 in
    let claim : Claim = record { pass = pass; job = ran.job; at = p.at.moment } in
    let claims_kept : get p.second.0.claims claimed.run ≡ get p.at.claims claimed.run =
    ap (λ (w : World). get w.claims claimed.run) granted.5 ∙ run-insert p.at.claims (record { 0 = p.at.next }) claim claimed.run ∙ rw (unequal claimed.run.0 p.at.next (λ same. absurd (omega (arith, same, low_at)))) refl in
    let left : get p.second.2.0.claims claimed.run ≡ get p.second.0.claims claimed.run =
    ap (λ (w : World). get w.claims claimed.run) committed.5 ∙ run-remove p.second.0.claims ran.run claimed.run ∙ rw (unequal claimed.run.0 ran.run.0 (λ same. absurd (omega (arith, same, number, low_at)))) refl in
    ap (λ (w : World). get w.claims claimed.run) p.second.2.2 ∙ left ∙ claims_kept ∙ ap (λ (w : World). get w.claims claimed.run) (sym at) ∙ held
