use Rattle.dk_demos.specs.Commands.{command_of}
use Rattle.dk_demos.proofs.commands.Command.of.Goals as goal

pub returns-in-Some : goal.returns-in-Some
unfolding command_of
returns-in-Some c = let e = c.in-Some.ensures.cases in rw (e.0, e.1)

pub returns-in-Some-strip_prefix : goal.returns-in-Some-strip_prefix
unfolding command_of
returns-in-Some-strip_prefix c = let e = c.in-Some-strip_prefix.ensures.cases in rw (c.in_default.ensures.cases, e.0, e.1)

pub returns-in-Some-strip_prefix-2 : goal.returns-in-Some-strip_prefix-2
unfolding command_of
returns-in-Some-strip_prefix-2 c =
    let e = c.in-Some-strip_prefix-2.ensures.cases in rw (c.in_default.ensures.cases, c.in_default-strip_prefix.ensures.cases, e.0, e.1)

pub returns-in-Some-strip_prefix-3 : goal.returns-in-Some-strip_prefix-3
unfolding command_of
returns-in-Some-strip_prefix-3 c =
    let e = c.in-Some-strip_prefix-3.ensures.cases in
    rw (c.in_default.ensures.cases, c.in_default-strip_prefix.ensures.cases, c.in_default-strip_prefix-2.ensures.cases, e.0, e.1)

pub returns-in_default-strip_prefix-3 : goal.returns-in_default-strip_prefix-3
unfolding command_of
returns-in_default-strip_prefix-3 c =
    rw (c.in_default.ensures.cases, c.in_default-strip_prefix.ensures.cases, c.in_default-strip_prefix-2.ensures.cases, c.in_default-strip_prefix-3.ensures.cases)
