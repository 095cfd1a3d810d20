use Rattle.dk_frame.proofs.FieldLemmas.{nameless_login, no_login}
use Rattle.dk_frame.proofs.fields.login.Goals as goal

pub returns-in_default : goal.returns-in_default
returns-in_default c = nameless_login c.args.fields.now (rw c.in_default.is at c.in_ok-name.ensures)

pub returns-then-not-is_empty : goal.returns-then-not-is_empty
returns-then-not-is_empty c =
    let found = rw c.in-Some.is at c.in_ok-name.ensures in
    no_login _ c.in-Some.name c.in-Some.behind.now found.0 found.1 cc
