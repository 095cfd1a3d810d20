use Rattle.std.proofs.Common.{◌≡◌, ◌+◌, ◌++◌, length, Ok, Err, sym, ap, ◌∙◌, arith}
use Rattle.dk_types.specs.Fields.{u64_spelling}
use Rattle.dk_types.specs.Reading.{u64_at}
use Rattle.dk_types.specs.Rest.{Rest}
use Rattle.dk_commit_log.proofs.Beginning.{number_read, number_same, not_refused}
use Rattle.dk_commit_log.proofs.reading.number_of.Goals as goal

pub returns-then-number-le-NUMBERS_END-clause-number : goal.returns-then-number-le-NUMBERS_END-clause-number
returns-then-number-le-NUMBERS_END-clause-number c m rest fits bytes =
    number_same c.args.payload.now c.in-Ok.number m rest fits bytes c.new.result (c.new.ensures.rest ∙ (λ i. record { at = 0; bytes = c.as_slice.ensures i })) c.take_u64.new.self c.in-Ok.ensures.reads

pub returns-else-number-le-NUMBERS_END-clause-damaged : goal.returns-else-number-le-NUMBERS_END-clause-damaged
returns-else-number-le-NUMBERS_END-clause-damaged c place is m rest within bytes =
    let same = number_same c.args.payload.now c.in-Ok.number m rest (omega (arith, within)) bytes c.new.result (c.new.ensures.rest ∙ (λ i. record { at = 0; bytes = c.as_slice.ensures i })) c.take_u64.new.self c.in-Ok.ensures.reads in
    omega (arith, same, within, c.if-number-le-NUMBERS_END.false)

pub returns-in-Err-clause-damaged : goal.returns-in-Err-clause-damaged
returns-in-Err-clause-damaged c place is m rest within bytes =
    not_refused c.args.payload.now m rest (omega (arith, within)) bytes c.new.result (c.new.ensures.rest ∙ (λ i. record { at = 0; bytes = c.as_slice.ensures i })) _ c.in-Err.ensures.memory c.in-Err.ensures.reads.1
