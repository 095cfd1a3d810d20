use Rattle.std.proofs.Common.{◌<◌, arith, sym, subst, ◌∙◌}
use Rattle.std.proofs.lemmas.List.Elements.{All-from_get_or}
use Rattle.dk_model.specs.Validity.{IsBody}
use Rattle.dk_demo_tests.proofs.driving.body_of.Goals as goal

pub returns : goal.returns
returns c =
    subst IsBody (sym (c.in_ok-copy_of.ensures ∙ c.as_bytes.ensures.value)) (record {
      short = omega arith;
      bytes = All-from_get_or (λ b. b < 256) c.args.text.now 0 (λ i _. omega (arith, c.type_inv.text i));
    })
