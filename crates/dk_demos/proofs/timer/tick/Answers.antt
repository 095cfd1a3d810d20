use Rattle.std.proofs.Common.{eq-eqb}
use Rattle.std.proofs.lemmas.Bool.{ne_eqb}
use Rattle.dk_txn.proofs.Kit.{then_does, then_last, stops, halts_last, if_true_does, if_false_does, give_does}
use Rattle.dk_demos.specs.TimerRules.{tick}
use Rattle.dk_demos.proofs.timer.tick.Goals as goal

pub returns-in_err-counter : goal.returns-in_err-counter
unfolding tick
returns-in_err-counter g c = stops _ (rw c.in_ok-name.ensures at c.in_err-counter.ensures) c.from_residual-in_err-counter.ensures.1

pub returns-in_err-cancel : goal.returns-in_err-cancel
unfolding tick
returns-in_err-cancel g c =
    then_does _ (rw c.in_ok-name.ensures at c.in_ok-counter.ensures)
    (if_true_does _ (eq-eqb _ _ c.if-counter-eq-LAST_COUNT.true) (halts_last c.in_err-cancel.ensures.does c.from_residual-in_err-cancel.ensures.1))

pub returns-then-counter-eq-LAST_COUNT : goal.returns-then-counter-eq-LAST_COUNT
unfolding tick
returns-then-counter-eq-LAST_COUNT g c =
    then_does _ (rw c.in_ok-name.ensures at c.in_ok-counter.ensures) (if_true_does _ (eq-eqb _ _ c.if-counter-eq-LAST_COUNT.true) (then_last c.in_ok-cancel.ensures.does))

pub returns : goal.returns
unfolding tick
returns g c = then_does _ (rw c.in_ok-name.ensures at c.in_ok-counter.ensures) (if_false_does _ (ne_eqb _ _ c.if-counter-eq-LAST_COUNT.false) give_does)
