-- Whether a claimed run has a job: after one claim more, and after one less.
use Rattle.std.proofs.Common.{◌≡◌, Bool, true, false, ◌||◌, ◌&&◌, not, Some, None, List, [], ◌∷◌, map, refl, sym, ap, ◌∙◌, inl, inr}
use Rattle.std.specs.List.{AllByRecursion, list_any}
use Rattle.std.specs.FinMap.{get, insert, remove, entries, values, get-entries}
use Rattle.dk_types.specs.declared.number.RunNo.{RunNo}
use Rattle.dk_types.specs.declared.job.Job.{Job}
use Rattle.dk_model.specs.Worlds.{Claim}
use Rattle.dk_model.proofs.Maps.{runs_total, exact_runs, get-insert_cases, get-insert_here, get-insert_other, get-remove_cases, get-remove_here, get-remove_other, not_both, some_is}
use Rattle.dk_laws.proofs.Entries.{all_entries}
use Rattle.dk_laws.proofs.OpenClaims.{TheClaims}
use Rattle.dk_laws.proofs.SoundClaims.{any_found}

-- some claim's job passes
abbrev pub has : (Job → Bool) → TheClaims → Bool
has p claims = list_any (λ (c : Claim). p c.job) (values claims)

-- a claim whose job passes
pub record Has (p : Job → Bool) (claims : TheClaims) : Type 0 where
  pub run : RunNo
  pub claim : Claim
  pub there : get claims run ≡ Some claim
  pub passes : p claim.job ≡ true

-- two tests that pass together are one
pub alike : (a b : Bool) → (a ≡ true → b ≡ true) → (b ≡ true → a ≡ true) → a ≡ b
alike true b f g = sym (f refl)
alike false true f g = g refl
alike false false f g = refl

-- a test that can not pass
pub never : (a : Bool) → (a ≡ true → ⊥) → a ≡ false
never true f = absurd (f refl)
never false f = refl

module _ (p : Job → Bool) where
  pub has_there : (claims : TheClaims) (run : RunNo) (claim : Claim) → get claims run ≡ Some claim → p claim.job ≡ true → has p claims ≡ true
  has_there claims run claim e t = any_found (λ (c : Claim). p c.job) run claim (entries claims) (sym (get-entries claims run) ∙ e) t

  has_from : (claims : TheClaims) (es : List (RunNo × Claim)) → AllByRecursion (λ e. get claims e.0 ≡ Some e.1) es → list_any (λ (c : Claim). p c.job) (map (λ e. e.1) es) ≡ true → Has p claims
  has_from claims [] h e = absurd cc
  has_from claims (x ∷ es) h e =
      elim (p x.1.job) as (λ b. p x.1.job ≡ b → (b || list_any (λ (c : Claim). p c.job) (map (λ e. e.1) es)) ≡ true → Has p claims) [
        | true ↦ λ t _. record { run = x.0; claim = x.1; there = h.0; passes = t }
        | false ↦ λ _ f. has_from claims es h.1 f
      ] refl e

  pub has_which : (claims : TheClaims) → has p claims ≡ true → Has p claims
  has_which claims h = has_from claims (entries claims) (all_entries runs_total (λ e. get claims e.0 ≡ Some e.1) claims (λ k x e. e)) h

  or_left : (a b : Bool) → a ≡ true → (a || b) ≡ true
  or_left true b e = refl
  or_left false b e = absurd cc

  or_right : (a b : Bool) → b ≡ true → (a || b) ≡ true
  or_right true b e = refl
  or_right false b e = e

  -- one claim more, of a number that none had
  pub has_insert : (claims : TheClaims) (run : RunNo) (claim : Claim) → get claims run ≡ None → has p (insert claims run claim) ≡ (p claim.job || has p claims)
  has_insert claims run claim none = alike _ _
      (λ t. let h = has_which (insert claims run claim) t in elim (get-insert_cases runs_total exact_runs claims run claim h.run h.claim h.there) [
        | inl q ↦ or_left (p claim.job) _ (ap (λ (c : Claim). p c.job) q.1 ∙ h.passes)
        | inr there ↦ or_right (p claim.job) _ (has_there claims h.run h.claim there h.passes)
      ])
      (λ t. elim (p claim.job) as (λ b. p claim.job ≡ b → (b || has p claims) ≡ true → has p (insert claims run claim) ≡ true) [
        | true ↦ λ e _. has_there (insert claims run claim) run claim (get-insert_here runs_total claims run claim) e
        | false ↦ λ _ f.
            let h = has_which claims f in
            has_there (insert claims run claim) h.run h.claim (get-insert_other runs_total exact_runs claims run claim h.run (λ same. not_both (get claims run) h.claim (ap (get claims) same ∙ h.there) none) ∙ h.there) h.passes
      ] refl t)

  and_both : (a b : Bool) → a ≡ true → b ≡ false → (a && not b) ≡ true
  and_both true true e f = absurd cc
  and_both true false e f = refl
  and_both false b e f = absurd cc

  and_first : (a b : Bool) → (a && not b) ≡ true → a ≡ true
  and_first true b e = refl
  and_first false b e = absurd cc

  and_second : (a b : Bool) → (a && not b) ≡ true → b ≡ false
  and_second true true e = absurd cc
  and_second true false e = refl
  and_second false b e = absurd cc

  -- one claim less, which is the only one of its job
  pub has_remove : (claims : TheClaims) (run : RunNo) (claim : Claim) → get claims run ≡ Some claim
      → (p claim.job ≡ true → (other : RunNo) (c : Claim) → get claims other ≡ Some c → p c.job ≡ true → other ≡ run)
      → has p (remove claims run) ≡ (has p claims && not (p claim.job))
  has_remove claims run claim e alone = alike _ _
      (λ t.
      let h = has_which (remove claims run) t in
      let there = get-remove_cases runs_total exact_runs claims run h.run h.claim h.there in
      and_both (has p claims) (p claim.job) (has_there claims h.run h.claim there h.passes)
      (never (p claim.job) (λ u. not_both (get (remove claims run) h.run) h.claim h.there (ap (get (remove claims run)) (alone u h.run h.claim there h.passes) ∙ get-remove_here runs_total claims run))))
      (λ t.
      let h = has_which claims (and_first (has p claims) (p claim.job) t) in
      let other : p claim.job ≡ false = and_second (has p claims) (p claim.job) t in
      has_there (remove claims run) h.run h.claim
      (get-remove_other runs_total exact_runs claims run h.run (λ same.
      let one : claim ≡ h.claim = some_is claim h.claim (sym e ∙ ap (get claims) same ∙ h.there) in
      let both = sym other ∙ ap (λ (c : Claim). p c.job) one ∙ h.passes in absurd cc) ∙ h.there) h.passes)
