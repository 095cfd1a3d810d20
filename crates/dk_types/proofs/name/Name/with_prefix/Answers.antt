use Rattle.std.proofs.Common.{◌<◌, ◌∙◌, ap, length, length-append, arith, ℕ}
use Rattle.dk_types.proofs.name.Name.with_prefix.Goals as goal

pub from_text-requires-clause-some : goal.from_text-requires-clause-some
from_text-requires-clause-some c =
    let text = c.as_str-2.ensures.value ∙ c.in_ok-push_str.ensures.bytes in
    let named : 0 < length c.args.self.now = c.as_str.ensures.name.some in
    omega (arith, ap length text, ap length c.as_str.ensures.value, length-append {A = ℕ})
