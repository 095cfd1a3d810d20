use Rattle.dk_overlay.proofs.Asking.{placed}
use Rattle.dk_overlay.proofs.reads.add_place.Goals as goal

pub returns-then-at-gt-FEW_READS-clause-ok : goal.returns-then-at-gt-FEW_READS-clause-ok
returns-then-at-gt-FEW_READS-clause-ok c = placed c.args.list.now c.args.index.now c.add.new.self c.args.item.now c.add.result (c.requires.indexed c.if-at-gt-FEW_READS.true) c.add.ensures.ok

pub returns-clause-ok : goal.returns-clause-ok
returns-clause-ok c = placed c.args.list.now c.in_ok-index.field-0 c.add-2.new.self c.args.item.now c.add-2.result c.in_ok-index.ensures c.add-2.ensures.ok
