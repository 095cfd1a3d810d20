use Rattle.std.proofs.Common.{◌+◌, refl, sym, subst, arith}
use Rattle.dk_types.specs.declared.event.Event.TheVariants as event
use Rattle.dk_types.specs.declared.event.ConnectReply.TheVariants as connected
use Rattle.dk_core.specs.Numbers.{HasNumbers}
use Rattle.dk_core.proofs.Drawn.{numbers_connected}
use Rattle.dk_core.proofs.Entering.{stays_so, connects}
use Rattle.dk_core.proofs.world.Core.connect.Goals as goal

pub returns-then-next-ge-NUMBERS_END-clause-event : goal.returns-then-next-ge-NUMBERS_END-clause-event
returns-then-next-ge-NUMBERS_END-clause-event c pass =
    let next = c.next-next.ensures in
    let end = c.if-next-ge-NUMBERS_END.true in
    stays_so c.args.self.now (event.Connect pass c.args.name.now (connected.Exhausted c.next-next.result)) c.as_slice-bytes.ensures.name (λ rules. (omega (arith, next, end), next, refl)) (λ rules. refl)

pub connect-requires : goal.connect-requires
connect-requires c = record { absent = rw c.next-next.ensures (c.args.self.now.numbers.0 (record { 0 = c.args.self.now.claims.next }) (omega arith)) }

pub invariant_of-self-2 : goal.invariant_of-self-2
invariant_of-self-2 c =
    let now = c.args.self.now in
    let next = c.next-next.ensures in
    let few = c.if-next-ge-NUMBERS_END.false in
    let linked = rw next at c.in_ok-connect.ensures.linked in
    record {
      numbers = subst (λ n. HasNumbers now.world.commits n c.connect.new.self.connections) (sym c.draw.ensures)
          (subst (HasNumbers now.world.commits (record now.claims { next = now.claims.next + 1 })) (sym linked) (numbers_connected now.world.commits now.claims now.connections.connections now.numbers _ (omega (arith, next, few))));
    }

pub returns-clause-event : goal.returns-clause-event
returns-clause-event c = λ pass. rw c.next-next.ensures
    (connects c.args.self.now c.args.name.now pass c.connect.new.self c.draw.new.self _ c.as_slice-bytes.ensures.name (rw c.next-next.ensures at c.if-next-ge-NUMBERS_END.false) c.draw.ensures
    (rw c.next-next.ensures at c.in_ok-connect.ensures.linked) (rw c.next-next.ensures at c.in_ok-connect.ensures.world) c.in_ok-connect.ensures.swept)
