use Rattle.std.proofs.Common.{◌≡◌, ◌∙◌, arith}
use Rattle.std.specs.Int.{w32, from_be_bytes}
use Rattle.std.proofs.lemmas.Nat.{be_bytes_4}
use Rattle.byteorder.specs.Endian.{big_number}
use Rattle.dk_types.specs.Fields.{u32_spelling}
use Rattle.dk_journal.proofs.scan.number_of.Goals as goal

pub returns : goal.returns
unfolding u32_spelling
returns c =
    let same : big_number 4 c.args.field.now ≡ from_be_bytes w32 c.args.field.now = omega arith in
    be_bytes_4 c.args.field.now c.read_u32.result c.requires (λ i. omega (arith, c.type_inv.field i)) (c.read_u32.ensures ∙ same)
