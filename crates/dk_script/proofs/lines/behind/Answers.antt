use Rattle.dk_script.proofs.Prefixes.{behind_found, behind_none}
use Rattle.dk_script.proofs.lines.behind.Goals as goal

pub returns-clause-found : goal.returns-clause-found
returns-clause-found c = behind_found (λ x. x.now) c.args.word.now c.args.line.now c.strip_prefix.result c.strip_prefix.ensures.cases

pub returns-clause-none : goal.returns-clause-none
returns-clause-none c = behind_none (λ x. x.now) c.args.word.now c.args.line.now c.strip_prefix.result c.strip_prefix.ensures.cases
