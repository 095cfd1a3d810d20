use Rattle.dk_core_tests.specs.Twins.{twins_rules}
use Rattle.dk_core_tests.proofs.Staying.{keeps_then}
use Rattle.dk_core_tests.proofs.between.others.Goals as goal

pub returns : goal.returns
returns c =
    let then = keeps_then twins_rules in
    let held = c.args.held.now in
    then _ _ _ held (then _ _ _ held (then _ _ _ held (then _ _ _ held (then _ _ _ held c.in_ok-conn.ensures c.in_ok-post.ensures) c.in_ok-other.ensures.keeps) c.release.ensures) c.in_ok-hand.ensures) c.tick.ensures
