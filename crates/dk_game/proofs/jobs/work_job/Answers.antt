use Rattle.dk_game.proofs.jobs.work_job.Goals as goal

pub returns-in-Task-clause-asked : goal.returns-in-Task-clause-asked
returns-in-Task-clause-asked g c = rw c.in-Task.is c.occurrence.ensures.asked
