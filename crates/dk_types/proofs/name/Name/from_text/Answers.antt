use Rattle.std.proofs.Common.{◌≡◌, ◌∙◌, subst, sym, ℕ, List}
use Rattle.std.proofs.lemmas.Str.{utf8_valid_len-IsUtf8}
use Rattle.dk_types.specs.Names.{IsName}
use Rattle.dk_types.proofs.name.Name.from_text.Goals as goal

pub invariant_of-result : goal.invariant_of-result
invariant_of-result c =
    let same : c.in_ok-bytes.bytes ≡ c.args.text.now = c.in_ok-bytes.ensures ∙ c.as_bytes.ensures.value in
    let named : IsName c.args.text.now = record { some = c.requires.some; most = c.requires.most; text = utf8_valid_len-IsUtf8 c.args.text.now c.utf8.text } in
    subst (λ (bytes : List ℕ). IsName bytes) (sym same) named

pub returns : goal.returns
returns c =
    (c.in_ok-bytes.ensures ∙ c.as_bytes.ensures.value, record { some = c.requires.some; most = c.requires.most; text = utf8_valid_len-IsUtf8 c.args.text.now c.utf8.text })
