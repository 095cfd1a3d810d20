-- Worked histories.
use Rattle.std.proofs.Common.{◌≡◌, ℕ, Bool, true, false, Some, None, List, [], ◌∷◌, refl, sym, subst, arith}
use Rattle.dk_types.specs.declared.number.RunNo.{RunNo}
use Rattle.dk_types.specs.declared.job.Job.{Job}
use Rattle.dk_types.specs.declared.job.Job.TheVariants as job
use Rattle.dk_model.specs.DurableWorlds.{DurableWorld}
use Rattle.dk_model.specs.Worlds.{World, Connection, Claim}
use Rattle.dk_model.specs.Openings.{opening, ended_connection}
use Rattle.dk_model.specs.Histories.{Leads}
use Rattle.dk_examples.specs.Worked.{run, conn, accepting, listed, nothing}
use Rattle.dk_examples.specs.TimerGame.{timer_rules}
use Rattle.dk_examples.specs.TimerRows.{occurrence, counting, counted}
use Rattle.dk_examples.specs.SessionRows.{alice, with_alice, with_alice_again}
use Rattle.dk_types.specs.declared.job.Out.TheVariants as out
use Rattle.dk_model.specs.declared.waiting.Waiting.TheVariants as waits
use Rattle.dk_examples.specs.HistoryRows.{world, of_alice, timer_events, TimerHistory, second_login_events, SecondLoginHistory, restart_events, RestartHistory}
use Rattle.dk_examples.proofs.Running.{looks, puts}
use Rattle.dk_examples.proofs.EventSteps.{stands, opens_empty, claims, commits, connects, ticks, hands}
use Rattle.dk_examples.proofs.SessionRuns.{session_read, first_run_accepts, login_is_accepted, second_login_displaces, stop_ends}
use Rattle.dk_examples.proofs.TimerRuns.{timer_begins, timer_skips, timer_goes_on, timer_ends}

-- a claim of the first pass
abbrev claimed : Job → ℕ → Claim
claimed j at = record { pass = 0; job = j; at = at }

-- the timer's worlds, by what is durable, the moment, the next number, whether the last claim was of a task, and the claims
abbrev timing : DurableWorld → ℕ → ℕ → Bool → List (RunNo × Claim) → World
timing d moment next after_task claims = world d moment next after_task claims []

timer_goes : Leads timer_rules (timing (listed nothing 0 None) 0 0 false []) timer_events (timing (listed counted 4 (Some (run 3))) 500 4 true [])
timer_goes = (
  timing (listed nothing 0 None) 0 1 false ((run 0, claimed job.Initialize 0) ∷ []),
  claims timer_rules (listed nothing 0 None) 0 0 false [] [] job.Initialize ((run 0, claimed job.Initialize 0) ∷ []) [] (simp stands) (omega arith) (simp stands) (simp stands) refl refl,
  (
    timing (listed nothing 0 None) 0 1 false ((run 0, claimed job.Initialize 0) ∷ []),
    (simp stands, refl),
    (
      timing (listed (counting 0 100) 1 (Some (run 0))) 0 1 false [],
      commits timer_rules (listed nothing 0 None) 0 1 false ((run 0, claimed job.Initialize 0) ∷ []) [] 0 (claimed job.Initialize 0) _ _ [] [] (simp stands) refl timer_begins (simp stands) (simp stands) refl refl,
      (
        timing (listed (counting 0 100) 1 (Some (run 0))) 0 1 false [],
        (simp (puts, stands), refl),
        (
          timing (listed (counting 0 100) 1 (Some (run 0))) 350 1 false [],
          ticks timer_rules (listed (counting 0 100) 1 (Some (run 0))) 0 1 false [] [] 350 (simp stands) (simp stands) refl refl,
          (
            timing (listed (counting 0 100) 1 (Some (run 0))) 350 2 true ((run 1, claimed (occurrence 100) 350) ∷ []),
            claims timer_rules (listed (counting 0 100) 1 (Some (run 0))) 350 1 false [] [] (occurrence 100) ((run 1, claimed (occurrence 100) 350) ∷ []) [] (simp (puts, stands)) (omega arith) (simp stands) (simp stands) refl refl,
            (
              timing (listed (counting 0 100) 1 (Some (run 0))) 350 2 true ((run 1, claimed (occurrence 100) 350) ∷ []),
              (simp (puts, stands), refl),
              (
                timing (listed (counting 1 400) 2 (Some (run 1))) 350 2 true [],
                commits timer_rules (listed (counting 0 100) 1 (Some (run 0))) 350 2 true ((run 1, claimed (occurrence 100) 350) ∷ []) [] 1 (claimed (occurrence 100) 350) _ _ [] [] (simp stands) refl timer_skips (simp stands) (simp stands) refl refl,
                (
                  timing (listed (counting 1 400) 2 (Some (run 1))) 350 2 true [],
                  (simp (puts, stands), refl),
                  (
                    timing (listed (counting 1 400) 2 (Some (run 1))) 400 2 true [],
                    ticks timer_rules (listed (counting 1 400) 2 (Some (run 1))) 350 2 true [] [] 400 (simp stands) (simp stands) refl refl,
                    (
                      timing (listed (counting 1 400) 2 (Some (run 1))) 400 3 true ((run 2, claimed (occurrence 400) 400) ∷ []),
                      claims timer_rules (listed (counting 1 400) 2 (Some (run 1))) 400 2 true [] [] (occurrence 400) ((run 2, claimed (occurrence 400) 400) ∷ []) [] (simp (puts, stands)) (omega arith) (simp stands) (simp stands) refl refl,
                      (
                        timing (listed (counting 2 500) 3 (Some (run 2))) 400 3 true [],
                        commits timer_rules (listed (counting 1 400) 2 (Some (run 1))) 400 3 true ((run 2, claimed (occurrence 400) 400) ∷ []) [] 2 (claimed (occurrence 400) 400) _ _ [] [] (simp stands) refl timer_goes_on (simp stands) (simp stands) refl refl,
                        (
                          timing (listed (counting 2 500) 3 (Some (run 2))) 400 3 true [],
                          (simp (puts, stands), refl),
                          (
                            timing (listed (counting 2 500) 3 (Some (run 2))) 500 3 true [],
                            ticks timer_rules (listed (counting 2 500) 3 (Some (run 2))) 400 3 true [] [] 500 (simp stands) (simp stands) refl refl,
                            (
                              timing (listed (counting 2 500) 3 (Some (run 2))) 500 4 true ((run 3, claimed (occurrence 500) 500) ∷ []),
                              claims timer_rules (listed (counting 2 500) 3 (Some (run 2))) 500 3 true [] [] (occurrence 500) ((run 3, claimed (occurrence 500) 500) ∷ []) [] (simp (puts, stands)) (omega arith) (simp stands) (simp stands) refl refl,
                              (
                                timing (listed counted 4 (Some (run 3))) 500 4 true [],
                                commits timer_rules (listed (counting 2 500) 3 (Some (run 2))) 500 4 true ((run 3, claimed (occurrence 500) 500) ∷ []) [] 3 (claimed (occurrence 500) 500) _ _ [] [] (simp stands) refl timer_ends (simp stands) (simp stands) refl refl,
                                (
                                  timing (listed counted 4 (Some (run 3))) 500 4 true [],
                                  (simp (puts, stands), refl),
                                  refl,
                                ),
                              ),
                            ),
                          ),
                        ),
                      ),
                    ),
                  ),
                ),
              ),
            ),
          ),
        ),
      ),
    ),
  ),
)

pub timer_history : TimerHistory
timer_history = subst (λ (o : World). Leads timer_rules o timer_events (timing (listed counted 4 (Some (run 3))) 500 4 true [])) (sym opens_empty) timer_goes

second_login_history_goes : Leads accepting (world (listed nothing 0 None) 0 0 false [] []) second_login_events (world (listed with_alice_again 3 (Some (run 4))) 0 5 false [] ((conn 3, of_alice [] [] 4) ∷ []))
second_login_history_goes = (
  world (listed nothing 0 None) 0 1 false ((run 0, claimed job.Initialize 0) ∷ []) [],
  claims accepting (listed nothing 0 None) 0 0 false [] [] job.Initialize ((run 0, claimed job.Initialize 0) ∷ []) [] (simp stands) (omega arith) (simp stands) (simp stands) refl refl,
  (
    world (listed nothing 1 (Some (run 0))) 0 1 false [] [],
    commits accepting (listed nothing 0 None) 0 1 false ((run 0, claimed job.Initialize 0) ∷ []) [] 0 (claimed job.Initialize 0) _ _ [] [] (simp stands) refl first_run_accepts (simp stands) (simp stands) refl refl,
    (
      world (listed nothing 1 (Some (run 0))) 0 2 false [] ((conn 1, of_alice (waits.Login ∷ []) [] 1) ∷ []),
      connects accepting (listed nothing 1 (Some (run 0))) 0 1 false [] [] ((conn 1, of_alice (waits.Login ∷ []) [] 1) ∷ []) (omega arith) (simp stands) refl (simp stands) refl,
      (
        world (listed nothing 1 (Some (run 0))) 0 3 false ((run 2, claimed (job.Login (conn 1) alice) 0) ∷ []) ((conn 1, of_alice (waits.Login ∷ []) [] 2) ∷ []),
        claims accepting (listed nothing 1 (Some (run 0))) 0 2 false [] ((conn 1, of_alice (waits.Login ∷ []) [] 1) ∷ []) (job.Login (conn 1) alice) ((run 2, claimed (job.Login (conn 1) alice) 0) ∷ []) ((conn 1, of_alice (waits.Login ∷ []) [] 2) ∷ []) (simp (puts, stands)) (omega arith) (simp stands) (simp stands) refl refl,
        (
          world (listed with_alice 2 (Some (run 2))) 0 3 false [] ((conn 1, of_alice [] (out.Accepted ∷ []) 2) ∷ []),
          commits accepting (listed nothing 1 (Some (run 0))) 0 3 false ((run 2, claimed (job.Login (conn 1) alice) 0) ∷ []) ((conn 1, of_alice (waits.Login ∷ []) [] 2) ∷ []) 2 (claimed (job.Login (conn 1) alice) 0) _ _ [] ((conn 1, of_alice [] (out.Accepted ∷ []) 2) ∷ []) (simp stands) refl login_is_accepted (simp stands) (simp stands) refl refl,
          (
            world (listed with_alice 2 (Some (run 2))) 0 4 false [] ((conn 1, of_alice [] (out.Accepted ∷ []) 2) ∷ (conn 3, of_alice (waits.Login ∷ []) [] 3) ∷ []),
            connects accepting (listed with_alice 2 (Some (run 2))) 0 3 false [] ((conn 1, of_alice [] (out.Accepted ∷ []) 2) ∷ []) ((conn 1, of_alice [] (out.Accepted ∷ []) 2) ∷ (conn 3, of_alice (waits.Login ∷ []) [] 3) ∷ []) (omega arith) (simp stands) refl (simp stands) refl,
            (
              world (listed with_alice 2 (Some (run 2))) 0 5 false ((run 4, claimed (job.Login (conn 3) alice) 0) ∷ []) ((conn 1, of_alice [] (out.Accepted ∷ []) 2) ∷ (conn 3, of_alice (waits.Login ∷ []) [] 4) ∷ []),
              claims accepting (listed with_alice 2 (Some (run 2))) 0 4 false [] ((conn 1, of_alice [] (out.Accepted ∷ []) 2) ∷ (conn 3, of_alice (waits.Login ∷ []) [] 3) ∷ []) (job.Login (conn 3) alice) ((run 4, claimed (job.Login (conn 3) alice) 0) ∷ []) ((conn 1, of_alice [] (out.Accepted ∷ []) 2) ∷ (conn 3, of_alice (waits.Login ∷ []) [] 4) ∷ []) (simp (puts, stands)) (omega arith) (simp stands) (simp stands) refl refl,
              (
                world (listed with_alice_again 3 (Some (run 4))) 0 5 false [] ((conn 1, record (of_alice [] (out.Accepted ∷ out.Close ∷ []) 2) { closed = true; over = true }) ∷ (conn 3, of_alice [] (out.Accepted ∷ []) 4) ∷ []),
                commits accepting (listed with_alice 2 (Some (run 2))) 0 5 false ((run 4, claimed (job.Login (conn 3) alice) 0) ∷ []) ((conn 1, of_alice [] (out.Accepted ∷ []) 2) ∷ (conn 3, of_alice (waits.Login ∷ []) [] 4) ∷ []) 4 (claimed (job.Login (conn 3) alice) 0) _ _ [] ((conn 1, record (of_alice [] (out.Accepted ∷ out.Close ∷ []) 2) { closed = true; over = true }) ∷ (conn 3, of_alice [] (out.Accepted ∷ []) 4) ∷ []) (simp stands) refl second_login_displaces (simp stands) (simp stands) refl refl,
                (
                  world (listed with_alice_again 3 (Some (run 4))) 0 5 false [] ((conn 1, record (of_alice [] (out.Accepted ∷ out.Close ∷ []) 2) { closed = true; over = true }) ∷ (conn 3, of_alice [] (out.Accepted ∷ []) 4) ∷ []),
                  (simp (puts, stands), refl),
                  (
                    world (listed with_alice_again 3 (Some (run 4))) 0 5 false [] ((conn 1, record (of_alice [] (out.Close ∷ []) 2) { closed = true; over = true }) ∷ (conn 3, of_alice [] (out.Accepted ∷ []) 4) ∷ []),
                    hands accepting (listed with_alice_again 3 (Some (run 4))) 0 5 false [] ((conn 1, record (of_alice [] (out.Accepted ∷ out.Close ∷ []) 2) { closed = true; over = true }) ∷ (conn 3, of_alice [] (out.Accepted ∷ []) 4) ∷ []) 1 1 (out.Accepted ∷ []) false ((conn 1, record (of_alice [] (out.Close ∷ []) 2) { closed = true; over = true }) ∷ (conn 3, of_alice [] (out.Accepted ∷ []) 4) ∷ []) (simp stands) (simp stands) (simp stands) (simp stands) refl refl,
                    (
                      world (listed with_alice_again 3 (Some (run 4))) 0 5 false [] ((conn 3, of_alice [] (out.Accepted ∷ []) 4) ∷ []),
                      hands accepting (listed with_alice_again 3 (Some (run 4))) 0 5 false [] ((conn 1, record (of_alice [] (out.Close ∷ []) 2) { closed = true; over = true }) ∷ (conn 3, of_alice [] (out.Accepted ∷ []) 4) ∷ []) 1 1 (out.Close ∷ []) true ((conn 3, of_alice [] (out.Accepted ∷ []) 4) ∷ []) (simp stands) (simp stands) (simp stands) (simp stands) refl refl,
                      (
                        world (listed with_alice_again 3 (Some (run 4))) 0 5 false [] ((conn 3, of_alice [] [] 4) ∷ []),
                        hands accepting (listed with_alice_again 3 (Some (run 4))) 0 5 false [] ((conn 3, of_alice [] (out.Accepted ∷ []) 4) ∷ []) 3 1 (out.Accepted ∷ []) false ((conn 3, of_alice [] [] 4) ∷ []) (simp stands) (simp stands) (simp stands) (simp stands) refl refl,
                        refl,
                      ),
                    ),
                  ),
                ),
              ),
            ),
          ),
        ),
      ),
    ),
  ),
)

pub second_login_history : SecondLoginHistory
second_login_history = subst (λ (o : World). Leads accepting o second_login_events (world (listed with_alice_again 3 (Some (run 4))) 0 5 false [] ((conn 3, of_alice [] [] 4) ∷ []))) (sym opens_empty) second_login_history_goes

-- alice as a stop left her
abbrev ended : Connection
ended = ended_connection (record { name = alice; conn = conn 1 })

abbrev restarted : World
restarted = world (listed with_alice 2 (Some (run 2))) 0 3 false [] ((conn 1, ended) ∷ [])

opens_with_alice : opening (listed with_alice 2 (Some (run 2))) None ≡ restarted
unfolding opening
opens_with_alice = simp (puts, looks, session_read)

restart_goes : Leads accepting restarted restart_events (world (listed nothing 3 (Some (run 3))) 0 4 false [] [])
restart_goes = (
  world (listed with_alice 2 (Some (run 2))) 0 4 false ((run 3, claimed (job.Disconnect (conn 1) alice false) 0) ∷ []) ((conn 1, record ended { turn = 3 }) ∷ []),
  claims accepting (listed with_alice 2 (Some (run 2))) 0 3 false [] ((conn 1, ended) ∷ []) (job.Disconnect (conn 1) alice false) ((run 3, claimed (job.Disconnect (conn 1) alice false) 0) ∷ []) ((conn 1, record ended { turn = 3 }) ∷ []) (simp (puts, stands)) (omega arith) (simp stands) (simp stands) refl refl,
  (
    world (listed nothing 3 (Some (run 3))) 0 4 false [] [],
    commits accepting (listed with_alice 2 (Some (run 2))) 0 4 false ((run 3, claimed (job.Disconnect (conn 1) alice false) 0) ∷ []) ((conn 1, record ended { turn = 3 }) ∷ []) 3 (claimed (job.Disconnect (conn 1) alice false) 0) _ _ [] [] (simp stands) refl stop_ends (simp stands) (simp stands) refl refl,
    (world (listed nothing 3 (Some (run 3))) 0 4 false [] [], (simp (puts, stands), refl), refl),
  ),
)

pub restart_history : RestartHistory
restart_history = subst (λ (o : World). Leads accepting o restart_events (world (listed nothing 3 (Some (run 3))) 0 4 false [] [])) (sym opens_with_alice) restart_goes
