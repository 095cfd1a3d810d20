use Rattle.std.proofs.Common.{◌∙◌, sym, nat_eq, string_bytes}
use Rattle.std.specs.Cmp.Lexicographic.{pointwise}
use Rattle.std.specs.Cmp.Derive.Mapped.{pointwise-map}
use Rattle.dk_types.proofs.words.WordsPartialEq.eq.Goals as goal

pub returns : goal.returns
returns c =
    c.eq.ensures ∙ sym (pointwise-map (λ s. string_bytes s) (pointwise nat_eq) c.self.inside.words.items c.other.inside.words.items) ∙ (λ i. pointwise (pointwise nat_eq) (c.self.view_is i) (c.other.view_is i))
