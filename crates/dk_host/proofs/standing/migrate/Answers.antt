use Rattle.std.proofs.Common.{refl}
use Rattle.dk_checkpoint.specs.Given.{next_header, only_image}
use Rattle.dk_core.specs.Listings.{world_of}
use Rattle.dk_host.proofs.Settling.{either_is, given}
use Rattle.dk_host.proofs.standing.migrate.Goals as goal

pub returns-in-Ok-clause-keeps : goal.returns-in-Ok-clause-keeps
returns-in-Ok-clause-keeps g c tells =
    let lists = c.args.old.durable in
    let d = world_of lists in
    let old = g.M.Home.past c.args.home.now in
    let new = g.M.Home.past c.checkpoint.new.home in
    let h = c.requires.stands tells in
    let is = given old c.args.old.journal c.args.old.side c.args.game.now lists h c.requires.valid in
    (either_is d old new (c.checkpoint.ensures.run tells h.header h.payloads d d is), c.checkpoint.ensures.falls tells h.header h.payloads d d is refl)

pub returns-in-Ok-clause-stands : goal.returns-in-Ok-clause-stands
returns-in-Ok-clause-stands g c tells =
    let lists = c.args.old.durable in
    let d = world_of lists in
    let h = c.requires.stands tells in
    let is = given (g.M.Home.past c.args.home.now) c.args.old.journal c.args.old.side c.args.game.now lists h c.requires.valid in
    record { header = next_header c.args.game.now h.header.epoch; payloads = only_image lists; ours = refl; store = c.in-Ok.ensures.stands tells h.header h.payloads d d is }

pub returns-in-Err-clause-keeps : goal.returns-in-Err-clause-keeps
returns-in-Err-clause-keeps g c tells =
    let lists = c.args.old.durable in
    let d = world_of lists in
    let old = g.M.Home.past c.args.home.now in
    let new = g.M.Home.past c.checkpoint.new.home in
    let h = c.requires.stands tells in
    let is = given old c.args.old.journal c.args.old.side c.args.game.now lists h c.requires.valid in
    (either_is d old new (c.checkpoint.ensures.run tells h.header h.payloads d d is), c.checkpoint.ensures.falls tells h.header h.payloads d d is refl)
