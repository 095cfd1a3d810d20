use Rattle.std.proofs.Common.{List, ℕ, sym, subst}
use Rattle.std.specs.Str.{IsUtf8}
use Rattle.std.specs.Str.Parse.{ParsesUnsigned}
use Rattle.dk_script.proofs.Moments.{number_found, number_none, decimal_utf8}
use Rattle.dk_script.proofs.moment.number_of.Goals as goal

pub returns-in-Ok-clause-found : goal.returns-in-Ok-clause-found
returns-in-Ok-clause-found c =
    rw c.ok.ensures.value (number_found c.args.bytes.now c.parse.result c.requires (subst (λ (bs : List ℕ). ParsesUnsigned 64 10 bs c.parse.result) c.in-Ok.ensures.cases.0 c.parse.ensures.value.0))

pub returns-in-Ok-clause-none : goal.returns-in-Ok-clause-none
returns-in-Ok-clause-none c =
    rw c.ok.ensures.value (number_none c.args.bytes.now c.parse.result (subst (λ (bs : List ℕ). ParsesUnsigned 64 10 bs c.parse.result) c.in-Ok.ensures.cases.0 c.parse.ensures.value.0))

pub returns-in-Err-clause-none : goal.returns-in-Err-clause-none
returns-in-Err-clause-none c = λ number is most. c.in-Err.ensures.cases.0 (subst IsUtf8 (sym is) (decimal_utf8 number most))
