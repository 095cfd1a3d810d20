use Rattle.std.proofs.Common.{arith}
use Rattle.dk_types.specs.declared.side.Side.TheVariants.{Zero, One}
use Rattle.dk_recover.proofs.OnlyRead.{none_read, reads_run, reads_looked, settled_since}
use Rattle.dk_journal.proofs.Going.{looks_once}
use Rattle.dk_recover.proofs.standing.see_both.Goals as goal

pub returns-in_err-zero_len-clause-reads : goal.returns-in_err-zero_len-clause-reads
returns-in_err-zero_len-clause-reads g c tells =
    let old = g.M.Home.past c.args.home.now in
    let first = g.M.Home.past c.see.new.home in
    let second = g.M.Home.past c.see-2.new.home in
    let new = g.M.Home.past c.len.new.self in
    reads_looked old second new (reads_run old first second (reads_run old old first (none_read old) Zero (c.see.ensures.run tells)) One (c.see-2.ensures.run tells)) (looks_once second new (c.len.ensures.time tells) (c.len.ensures.files tells))

pub returns-clause-reads : goal.returns-clause-reads
returns-clause-reads g c tells =
    let old = g.M.Home.past c.args.home.now in
    let first = g.M.Home.past c.see.new.home in
    let second = g.M.Home.past c.see-2.new.home in
    let new = g.M.Home.past c.len.new.self in
    reads_looked old second new (reads_run old first second (reads_run old old first (none_read old) Zero (c.see.ensures.run tells)) One (c.see-2.ensures.run tells)) (looks_once second new (c.len.ensures.time tells) (c.len.ensures.files tells))

pub returns-clause-settles : goal.returns-clause-settles
returns-clause-settles g c tells =
    let old = g.M.Home.past c.args.home.now in
    let first = g.M.Home.past c.see.new.home in
    let second = g.M.Home.past c.see-2.new.home in
    let new = g.M.Home.past c.len.new.self in
    let run = c.see.ensures.run tells in
    let further = c.see-2.ensures.run tells in
    settled_since old first second new run.later further.later (c.in_ok-zero.ensures.settled tells) (run.other first.clock run.later (omega arith)) (c.in_ok-one.ensures.settled tells) (further.other second.clock further.later (omega arith))
    (looks_once second new (c.len.ensures.time tells) (c.len.ensures.files tells))
