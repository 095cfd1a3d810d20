-- A worked history of SwordWorld.
use Rattle.std.proofs.Common.{ℕ, false, Some, None, [], ◌∷◌, codes, refl, sym, subst, arith}
use Rattle.dk_types.specs.declared.job.Job.{Job}
use Rattle.dk_types.specs.declared.job.Job.TheVariants as job
use Rattle.dk_model.specs.Worlds.{World, Claim}
use Rattle.dk_model.specs.Histories.{Leads}
use Rattle.dk_examples.specs.Worked.{run, conn, listed, nothing}
use Rattle.dk_examples.specs.SessionRows.{alice}
use Rattle.sword_examples.specs.SwordRows.{furnished, alice_entered, sight}
use Rattle.sword_world.specs.Rules.{sword_rules}
use Rattle.dk_types.specs.declared.job.Out.TheVariants as out
use Rattle.dk_types.specs.declared.job.Input.TheVariants as input
use Rattle.dk_model.specs.declared.waiting.Waiting.TheVariants as waits
use Rattle.dk_examples.specs.HistoryRows.{world, of_alice}
use Rattle.sword_examples.specs.SwordHistories.{sword_events, SwordHistory}
use Rattle.dk_examples.proofs.Running.{puts}
use Rattle.dk_examples.proofs.EventSteps.{stands, opens_empty, claims, commits, connects, posts, hands}
use Rattle.sword_examples.proofs.SwordRuns.{sword_begins, sword_login, sword_look}

-- a claim of the first pass
abbrev claimed : Job → ℕ → Claim
claimed j at = record { pass = 0; job = j; at = at }

sword_history_goes : Leads sword_rules (world (listed nothing 0 None) 0 0 false [] []) sword_events (world (listed alice_entered 3 (Some (run 3))) 0 4 false [] ((conn 1, of_alice [] [] 3) ∷ []))
sword_history_goes = (
  world (listed nothing 0 None) 0 1 false ((run 0, claimed job.Initialize 0) ∷ []) [],
  claims sword_rules (listed nothing 0 None) 0 0 false [] [] job.Initialize ((run 0, claimed job.Initialize 0) ∷ []) [] (simp stands) (omega arith) (simp stands) (simp stands) refl refl,
  (
    world (listed furnished 1 (Some (run 0))) 0 1 false [] [],
    commits sword_rules (listed nothing 0 None) 0 1 false ((run 0, claimed job.Initialize 0) ∷ []) [] 0 (claimed job.Initialize 0) _ _ [] [] (simp stands) refl sword_begins (simp stands) (simp stands) refl refl,
    (
      world (listed furnished 1 (Some (run 0))) 0 2 false [] ((conn 1, of_alice (waits.Login ∷ []) [] 1) ∷ []),
      connects sword_rules (listed furnished 1 (Some (run 0))) 0 1 false [] [] ((conn 1, of_alice (waits.Login ∷ []) [] 1) ∷ []) (omega arith) (simp stands) refl (simp stands) refl,
      (
        world (listed furnished 1 (Some (run 0))) 0 2 false [] ((conn 1, of_alice (waits.Login ∷ waits.Input (input.Message (codes "look")) ∷ []) [] 1) ∷ []),
        posts sword_rules (listed furnished 1 (Some (run 0))) 0 2 false [] ((conn 1, of_alice (waits.Login ∷ []) [] 1) ∷ []) 1 (input.Message (codes "look")) ((conn 1, of_alice (waits.Login ∷ waits.Input (input.Message (codes "look")) ∷ []) [] 1) ∷ []) (simp stands) (simp stands) (simp stands) (simp stands) refl refl,
        (
          world (listed furnished 1 (Some (run 0))) 0 3 false ((run 2, claimed (job.Login (conn 1) alice) 0) ∷ []) ((conn 1, of_alice (waits.Login ∷ waits.Input (input.Message (codes "look")) ∷ []) [] 2) ∷ []),
          claims sword_rules (listed furnished 1 (Some (run 0))) 0 2 false [] ((conn 1, of_alice (waits.Login ∷ waits.Input (input.Message (codes "look")) ∷ []) [] 1) ∷ []) (job.Login (conn 1) alice) ((run 2, claimed (job.Login (conn 1) alice) 0) ∷ []) ((conn 1, of_alice (waits.Login ∷ waits.Input (input.Message (codes "look")) ∷ []) [] 2) ∷ []) (simp (puts, stands)) (omega arith) (simp stands) (simp stands) refl refl,
          (
            world (listed furnished 1 (Some (run 0))) 0 3 false ((run 2, claimed (job.Login (conn 1) alice) 0) ∷ []) ((conn 1, of_alice (waits.Login ∷ waits.Input (input.Message (codes "look")) ∷ []) [] 2) ∷ []),
            (simp (puts, stands), refl),
            (
              world (listed alice_entered 2 (Some (run 2))) 0 3 false [] ((conn 1, of_alice (waits.Input (input.Message (codes "look")) ∷ []) (out.Accepted ∷ []) 2) ∷ []),
              commits sword_rules (listed furnished 1 (Some (run 0))) 0 3 false ((run 2, claimed (job.Login (conn 1) alice) 0) ∷ []) ((conn 1, of_alice (waits.Login ∷ waits.Input (input.Message (codes "look")) ∷ []) [] 2) ∷ []) 2 (claimed (job.Login (conn 1) alice) 0) _ _ [] ((conn 1, of_alice (waits.Input (input.Message (codes "look")) ∷ []) (out.Accepted ∷ []) 2) ∷ []) (simp stands) refl sword_login (simp stands) (simp stands) refl refl,
              (
                world (listed alice_entered 2 (Some (run 2))) 0 4 false ((run 3, claimed (job.Message (conn 1) alice (codes "look")) 0) ∷ []) ((conn 1, of_alice (waits.Input (input.Message (codes "look")) ∷ []) (out.Accepted ∷ []) 3) ∷ []),
                claims sword_rules (listed alice_entered 2 (Some (run 2))) 0 3 false [] ((conn 1, of_alice (waits.Input (input.Message (codes "look")) ∷ []) (out.Accepted ∷ []) 2) ∷ []) (job.Message (conn 1) alice (codes "look")) ((run 3, claimed (job.Message (conn 1) alice (codes "look")) 0) ∷ []) ((conn 1, of_alice (waits.Input (input.Message (codes "look")) ∷ []) (out.Accepted ∷ []) 3) ∷ []) (simp (puts, stands)) (omega arith) (simp stands) (simp stands) refl refl,
                (
                  world (listed alice_entered 3 (Some (run 3))) 0 4 false [] ((conn 1, of_alice [] (out.Accepted ∷ out.Message sight ∷ []) 3) ∷ []),
                  commits sword_rules (listed alice_entered 2 (Some (run 2))) 0 4 false ((run 3, claimed (job.Message (conn 1) alice (codes "look")) 0) ∷ []) ((conn 1, of_alice (waits.Input (input.Message (codes "look")) ∷ []) (out.Accepted ∷ []) 3) ∷ []) 3 (claimed (job.Message (conn 1) alice (codes "look")) 0) _ _ [] ((conn 1, of_alice [] (out.Accepted ∷ out.Message sight ∷ []) 3) ∷ []) (simp stands) refl sword_look (simp stands) (simp stands) refl refl,
                  (
                    world (listed alice_entered 3 (Some (run 3))) 0 4 false [] ((conn 1, of_alice [] (out.Accepted ∷ out.Message sight ∷ []) 3) ∷ []),
                    (simp (puts, stands), refl),
                    (
                      world (listed alice_entered 3 (Some (run 3))) 0 4 false [] ((conn 1, of_alice [] [] 3) ∷ []),
                      hands sword_rules (listed alice_entered 3 (Some (run 3))) 0 4 false [] ((conn 1, of_alice [] (out.Accepted ∷ out.Message sight ∷ []) 3) ∷ []) 1 16 (out.Accepted ∷ out.Message sight ∷ []) false ((conn 1, of_alice [] [] 3) ∷ []) (simp stands) (simp stands) (simp stands) (simp stands) refl refl,
                      refl,
                    ),
                  ),
                ),
              ),
            ),
          ),
        ),
      ),
    ),
  ),
)

pub sword_history : SwordHistory
sword_history = subst (λ (o : World). Leads sword_rules o sword_events (world (listed alice_entered 3 (Some (run 3))) 0 4 false [] ((conn 1, of_alice [] [] 3) ∷ []))) (sym opens_empty) sword_history_goes
