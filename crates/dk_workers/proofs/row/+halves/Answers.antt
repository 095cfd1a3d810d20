use Rattle.std.proofs.Common.{rules, ◌++◌, sym, subst}
use Rattle.dk_workers.specs.Rows.{IsServed}
use Rattle.dk_workers.proofs.Shifts.{served_alone, served_both}
use Rattle.dk_workers.proofs.row.+halves.Goals as goal

pub serve_from-returns-then-elements-eq1 : goal.serve_from-returns-then-elements-eq1
serve_from-returns-then-elements-eq1 g t c = record {
  served = served_alone (g.S.Server.serves c.args.server.now) c.args.elements.now c.serve.result c.index-elements-0.result c.serve.new.element c.if-elements-eq1.true c.serve.ensures;
}

pub serve_halves-returns : goal.serve_halves-returns
serve_halves-returns g t c =
    let serves = g.S.Server.serves c.args.server.now in
    let one : IsServed serves c.join_mut-of_front.result.0 c.args.front.now c.front-1.given.0 = search rules in
    let other : IsServed serves c.join_mut-of_front.result.1 c.args.back.now c.back-1.given.0 = search rules in
    record { served = subst (λ end. IsServed serves end (c.args.front.now ++ c.args.back.now) (c.front-1.given.0 ++ c.back-1.given.0)) (sym c.first_end.ensures) (served_both serves _ _ _ _ _ _ one other) }
