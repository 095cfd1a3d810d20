use Rattle.std.proofs.Common.{◌≡◌, ◌-◌, take, drop, length, subst}
use Rattle.dk_edge.specs.Links.{AppendsSome, PollPuts, Counts}
use Rattle.futures.specs.declared.task.Poll.TheVariants.{Ready}
use Rattle.dk_pump.proofs.PutParts.{put_more, rest_of}
use Rattle.dk_pump.proofs.outgoing.Outgoing.put.Goals as goal

pub returns-in-Ready-Ok-clause-put : goal.returns-in-Ready-Ok-clause-put
returns-in-Ready-Ok-clause-put g c =
    let old = c.args.link.now in
    let new = c.poll_put.new.self in
    let bytes = drop c.self.inside.put c.self.inside.frame in
    let put : AppendsSome old.contents new.contents bytes c.in-Ready-Ok.count =
    subst (λ bs. AppendsSome old.contents new.contents bs c.in-Ready-Ok.count) (rest_of c.self.inside.frame c.as_slice.result.now c.self.inside.put c.as_slice.ensures)
    (subst (λ r. PollPuts old.contents new.contents (take (length c.as_slice.result.now - c.self.inside.put) (drop c.self.inside.put c.as_slice.result.now)) (Ready r)) c.in-Ready-Ok.field-0-is c.in-Ready-Ok.ensures.bytes) in
    let still : new.put_counted ≡ old.put_counted = subst (λ r. Counts old.put_counted new.put_counted (Ready r)) c.in-Ready-Ok.field-0-is c.in-Ready-Ok.ensures.count in
    (take c.in-Ready-Ok.count bytes, put_more c.self.inside.frame c.self.inside.put c.in-Ready-Ok.count _ _ _ c.self.view_is c.begin_next.ensures, put.appends, still)
