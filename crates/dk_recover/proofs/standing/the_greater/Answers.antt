use Rattle.dk_recover.proofs.Table.{first_greater, second_greater, neither_greater}
use Rattle.dk_recover.proofs.standing.the_greater.Goals as goal

pub returns-then-zero-one : goal.returns-then-zero-one
returns-then-zero-one c z o first second = first_greater z o c.args.zero.0 c.args.one.0 c.args.zero.1 c.args.one.1 first second c.if-zero-one.true

pub returns-then-one-zero : goal.returns-then-one-zero
returns-then-one-zero c z o first second = second_greater z o c.args.zero.0 c.args.one.0 c.args.zero.1 c.args.one.1 first second c.if-one-zero.true

pub returns-else-one-zero : goal.returns-else-one-zero
returns-else-one-zero c z o first second = neither_greater z o c.args.zero.0 c.args.one.0 c.args.zero.1 c.args.one.1 first second c.if-zero-one.false c.if-one-zero.false
