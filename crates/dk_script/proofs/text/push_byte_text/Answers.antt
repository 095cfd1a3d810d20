use Rattle.std.proofs.Common.{ℕ, ◌-◌, ◌^◌, false, Some, List, [], sym, ap, ◌∙◌, arith}
use Rattle.std.specs.Fmt.{format_spec, padded_integral, styled_digits_output}
use Rattle.std.specs.Option.{option_map}
use Rattle.std.proofs.lemmas.Fmt.{hex_byte}
use Rattle.dk_script.proofs.HexBytes.{byte_text-from_hex}
use Rattle.dk_script.proofs.text.push_byte_text.Goals as goal

pub returns-in_ok-write : goal.returns-in_ok-write
returns-in_ok-write c =
    let two_digits = ap (styled_digits_output c.in_radix.result) c.laid_out.ensures ∙ ap (option_map (padded_integral (format_spec 32 0 4 2 (2 ^ 64 - 1)) false [])) c.in_radix.ensures ∙ ap (λ (t : List ℕ). Some t) (hex_byte false c.args.byte (omega arith)) in
    record {
      ok = byte_text-from_hex _ _ c.args.byte _ two_digits (sym c.is_plain.ensures ∙ c.if-is_plain.false) c.in_ok-write.ensures.bytes;
    }
