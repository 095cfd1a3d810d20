-- A core stands for some history of the rules still, after a call.
use Rattle.std.proofs.Common.{Result, Ok, Err, [], ◌++◌, sym, subst}
use Rattle.dk_types.specs.declared.number.ConnNo.{ConnNo}
use Rattle.dk_types.specs.declared.job.Input.{Input}
use Rattle.dk_types.specs.declared.event.Event.TheVariants as event
use Rattle.dk_types.specs.declared.event.PostReply.TheVariants as posted
use Rattle.dk_txn.specs.declared.finished.Finished.{Finished}
use Rattle.dk_connections.specs.declared.answers.PostRefused.{PostRefused}
use Rattle.dk_connections.specs.declared.answers.PostRefused.TheVariants as post_refused
use Rattle.dk_model.specs.Events.{Meaning}
use Rattle.dk_model.specs.Lawful.{AreLawful}
use Rattle.dk_core.specs.declared.world.Core.{Core}
use Rattle.dk_core.specs.declared.claimed.Claimed.{Claimed}
use Rattle.dk_core.specs.declared.answers.PrepareRefused.{PrepareRefused}
use Rattle.dk_core.specs.declared.answers.PrepareRefused.TheVariants as prepare_refused
use Rattle.dk_core.specs.Cores.{AddsNothing, IsGranted}
use Rattle.dk_core.specs.Answers.{Posted, CommitsOrTells}
use Rattle.dk_workers.specs.Working.{RepresentsSome}
use Rattle.dk_workers.proofs.Honest.{entered}

pub stayed : (rules : Meaning) (old new : Core) → RepresentsSome rules old → AddsNothing old new → RepresentsSome rules new
stayed rules old new s stays = record { opened = s.opened; budget = s.budget; events = s.events ++ []; stands = stays rules s.opened s.budget s.events s.stands }

pub posted_so : (rules : Meaning) → AreLawful rules → (old new : Core) (conn : ConnNo) (input : Input) (r : Result (Unit {0}) PostRefused) → RepresentsSome rules old → Posted old new conn input r → RepresentsSome rules new
posted_so rules lawful old new conn input (Ok taken) s p = entered rules lawful old new (event.Post 0 conn input posted.Taken) s (p 0)
posted_so rules lawful old new conn input (Err post_refused.Closed) s p = entered rules lawful old new (event.Post 0 conn input posted.Closed) s (p 0)
posted_so rules lawful old new conn input (Err (post_refused.QueueFull waiting)) s p = entered rules lawful old new (event.Post 0 conn input (posted.QueueFull waiting)) s (p 0)
posted_so rules lawful old new conn input (Err post_refused.NoMemory) s p = subst (RepresentsSome rules) (sym p.0) s

-- a refused commit hands the claim back
pub refused_so : (rules : Meaning) (old new : Core) (claimed : Claimed) (f : Finished) (back : Claimed) (refused : PrepareRefused) → CommitsOrTells old new claimed f (Err (back, refused)) → RepresentsSome rules old
    → RepresentsSome rules new × IsGranted new back
refused_so rules old new claimed f back (prepare_refused.Retry changed) h s = (stayed rules old new s h.3, subst (IsGranted new) (sym h.0) h.1)
refused_so rules old new claimed f back prepare_refused.NoMemory h s = (stayed rules old new s h.2, subst (IsGranted new) (sym h.0) h.1)
