use Rattle.std.proofs.Common.{◌≡◌, sym, ◌∙◌, ap, arith}
use Rattle.dk_types.specs.Fields.{u64_spelling}
use Rattle.dk_model.specs.Validity.{next_of}
use Rattle.dk_image.proofs.images.next_run.Goals as goal

pub returns-then-run : goal.returns-then-run
unfolding u64_spelling
returns-then-run c =
    let e : next_of c.args.last ≡ 18446744073709551616 = ap next_of c.in-Some.is ∙ omega (arith, c.if-run.true) in
    ap u64_spelling (sym e)
