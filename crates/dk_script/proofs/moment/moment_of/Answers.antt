use Rattle.std.proofs.Common.{◌≡◌, ◌∙◌, true, arith, sym, subst}
use Rattle.std.proofs.lemmas.Fmt.{decimal_injective}
use Rattle.dk_script.specs.Reading.{IsBare}
use Rattle.dk_script.proofs.Moments.{decimal_bare}
use Rattle.dk_script.proofs.moment.moment_of.Goals as goal

pub returns-then-not-is_bare-clause-none : goal.returns-then-not-is_bare-clause-none
returns-then-not-is_bare-clause-none c = λ moment is most.
    let bare : c.is_bare.result ≡ true = c.is_bare.ensures.1 (subst IsBare (sym is) (decimal_bare moment most)) in
    cc

pub returns-else-moment-le-MOMENT_MOST_MS-clause-none : goal.returns-else-moment-le-MOMENT_MOST_MS-clause-none
returns-else-moment-le-MOMENT_MOST_MS-clause-none c = λ moment is most.
    let same : c.in_ok-moment.moment ≡ moment = decimal_injective c.in_ok-moment.moment moment (omega arith) (omega (arith, most)) (sym c.in_ok-moment.ensures.found ∙ is) in
    omega (arith, same, most)
