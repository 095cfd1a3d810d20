use Rattle.std.proofs.Common.{◌≡◌, Option, Ok, Err, ap, sym, subst, ◌∙◌}
use Rattle.dk_disk.specs.Disk.{settled}
use Rattle.dk_disk.specs.DiskHistories.{now}
use Rattle.dk_types.specs.declared.side.Side.{Side}
use Rattle.dk_model.specs.Recovered.{file_on}
use Rattle.dk_types.specs.declared.side.Side.TheVariants.{Zero, One}
use Rattle.dk_journal.specs.declared.header.Header.{Header}
use Rattle.dk_journal.specs.declared.scan.Scan.{Scan}
use Rattle.dk_recover.specs.Recovery.{IsAnswer}
use Rattle.dk_recover.specs.Stood.{IsStood, IsStanding}
use Rattle.dk_recover.specs.declared.fault.OpenFault.TheVariants.{DiskFault}
use Rattle.dk_recover.proofs.OnlyRead.{reads_looked, settles_looked}
use Rattle.dk_recover.proofs.Recoveries.{accepts, holds, no_store, first_valid, first_side, handed_on, onward, backward, at_rest, side_file, settled_now}
use Rattle.dk_recover.proofs.recovery.recover.Goals as goal

pub returns-in-None-clause-answer : goal.returns-in-None-clause-answer
returns-in-None-clause-answer g c tells =
    let old = g.M.Home.past c.args.home.now in
    let new = g.M.Home.past c.find_standing.new.home in
    let z = (now old Zero).reads in
    let o = (now old One).reads in
    let stood = subst (λ (s : Option (Header × Scan)). IsStood z o (Ok s)) c.in-None.is (c.in_ok-find_standing.ensures.stood tells) in
    let at : (s : Side) → now new s ≡ settled (file_on s z o) = λ s. settled_now old new (c.in_ok-find_standing.ensures.settles tells (λ err. cc)) s ∙ ap settled (sym (side_file old s)) in
    no_store z o c.args.game.now new c.no_store.result stood at c.no_store.ensures.new c.no_store.ensures.only

pub returns-in-None-clause-valid : goal.returns-in-None-clause-valid
returns-in-None-clause-valid g c = first_valid c.no_store.result c.no_store.ensures.new

pub returns-in-None-clause-side : goal.returns-in-None-clause-side
returns-in-None-clause-side g c = first_side c.no_store.result c.no_store.ensures.new

pub returns-in-None-clause-accepted : goal.returns-in-None-clause-accepted
returns-in-None-clause-accepted g c tells d has our =
    let old = g.M.Home.past c.args.home.now in
    accepts (now old Zero).reads (now old One).reads d c.args.game.now (g.M.Home.past c.find_standing.new.home) has our c.no_store.result (returns-in-None-clause-answer g c tells)

pub returns-in_err-find_standing-clause-settles : goal.returns-in_err-find_standing-clause-settles
returns-in_err-find_standing-clause-settles g c tells never =
    c.in_err-find_standing.ensures.settles tells (λ err. let same : c.in_err-find_standing.field-0.0 ≡ DiskFault = cc in never (handed_on c.in_err-find_standing.field-0.0 c.from_residual.result c.from_residual.ensures.0 c.from_residual.ensures.1 ∙ ap Err same))

pub returns-in-None-clause-holds : goal.returns-in-None-clause-holds
returns-in-None-clause-holds g c tells =
    let old = g.M.Home.past c.args.home.now in
    holds (now old Zero).reads (now old One).reads c.args.game.now (g.M.Home.past c.find_standing.new.home) c.no_store.result (returns-in-None-clause-answer g c tells)

pub returns-in-Some-clause-reads : goal.returns-in-Some-clause-reads
returns-in-Some-clause-reads g c tells =
    reads_looked (g.M.Home.past c.args.home.now) (g.M.Home.past c.find_standing.new.home) (g.M.Home.past c.recover_standing.new.home) (c.in_ok-find_standing.ensures.reads tells) (c.recover_standing.ensures.looks tells)

pub returns-in-Some-clause-settles : goal.returns-in-Some-clause-settles
returns-in-Some-clause-settles g c tells never =
    settles_looked (g.M.Home.past c.args.home.now) (g.M.Home.past c.find_standing.new.home) (g.M.Home.past c.recover_standing.new.home) (c.in_ok-find_standing.ensures.settles tells (λ err. cc)) (c.recover_standing.ensures.looks tells)

pub returns-in-Some-clause-answer : goal.returns-in-Some-clause-answer
returns-in-Some-clause-answer g c tells =
    let old = g.M.Home.past c.args.home.now in
    let mid = g.M.Home.past c.find_standing.new.home in
    let stood = subst (λ (s : Option (Header × Scan)). IsStood (now old Zero).reads (now old One).reads (Ok s)) c.in-Some.is (c.in_ok-find_standing.ensures.stood tells) in
    let settles = c.in_ok-find_standing.ensures.settles tells (λ err. cc) in
    backward (λ z o. IsAnswer z o c.args.game.now (g.M.Home.past c.recover_standing.new.home) c.recover_standing.result) old mid settles
    (c.recover_standing.ensures.answer tells (at_rest old mid settles) (onward (λ z o. IsStanding z o c.in-Some.header c.in-Some.scan) old mid settles stood))

pub returns-in-Some-clause-accepted : goal.returns-in-Some-clause-accepted
returns-in-Some-clause-accepted g c tells d has our =
    let old = g.M.Home.past c.args.home.now in
    accepts (now old Zero).reads (now old One).reads d c.args.game.now (g.M.Home.past c.recover_standing.new.home) has our c.recover_standing.result (returns-in-Some-clause-answer g c tells)

pub returns-in-Some-clause-holds : goal.returns-in-Some-clause-holds
returns-in-Some-clause-holds g c tells =
    let old = g.M.Home.past c.args.home.now in
    holds (now old Zero).reads (now old One).reads c.args.game.now (g.M.Home.past c.recover_standing.new.home) c.recover_standing.result (returns-in-Some-clause-answer g c tells)
