-- A history of SwordWorld: which jobs are claimed and when, what is committed, and what is handed.
use Rattle.std.specs.Prelude.{false, Some, None, List, [], ◌∷◌, codes}
use Rattle.dk_types.specs.declared.job.Job.TheVariants as job
use Rattle.dk_types.specs.declared.job.Input.TheVariants as input
use Rattle.dk_types.specs.declared.job.Out.TheVariants as out
use Rattle.dk_types.specs.declared.event.Event.{Event}
use Rattle.dk_types.specs.declared.event.Event.TheVariants as event
use Rattle.dk_types.specs.declared.event.PostReply.TheVariants as posted
use Rattle.dk_model.specs.DurableWorlds.{empty_world}
use Rattle.dk_model.specs.Histories.{Leads}
use Rattle.dk_model.specs.Openings.{opening}
use Rattle.sword_world.specs.Rules.{sword_rules}
use Rattle.dk_examples.specs.Worked.{run, conn, listed}
use Rattle.dk_examples.specs.SessionRows.{alice}
use Rattle.sword_examples.specs.SwordRows.{sight, alice_entered}
use Rattle.dk_examples.specs.HistoryRows.{world, of_alice, claim, idle, commit, connect}

-- a login and a look, and what is handed then
abbrev pub sword_events : List Event
sword_events =
    claim 0 0 job.Initialize ∷ commit 0 1
    ∷ connect 1 ∷ event.Post 0 (conn 1) (input.Message (codes "look")) posted.Taken
    ∷ claim 2 0 (job.Login (conn 1) alice) ∷ idle ∷ commit 2 2
    ∷ claim 3 0 (job.Message (conn 1) alice (codes "look")) ∷ commit 3 3 ∷ idle
    ∷ event.Hand 0 (conn 1) 16 (out.Accepted ∷ out.Message sight ∷ []) false ∷ []

-- a login and a look, from the empty world on
abbrev pub SwordHistory : Type 0
SwordHistory = Leads sword_rules (opening empty_world None) sword_events (world (listed alice_entered 3 (Some (run 3))) 0 4 false [] ((conn 1, of_alice [] [] 3) ∷ []))
