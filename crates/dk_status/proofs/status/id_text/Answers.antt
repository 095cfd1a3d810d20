use Rattle.std.proofs.Common.{◌<◌, arith, sym, subst, IsUtf8}
use Rattle.std.proofs.lemmas.List.Elements.{All-weaker}
use Rattle.std.proofs.lemmas.Str.{IsUtf8-from_ascii}
use Rattle.std.proofs.lemmas.Str.Ascii.{IsAscii-from_all}
use Rattle.dk_types.specs.GameIds.{IsVisible}
use Rattle.dk_status.proofs.status.id_text.Goals as goal

-- each byte of an id is ASCII, so the id is text
pub unreachable-requires : goal.unreachable-requires
unreachable-requires c =
    let bytes = c.args.game.now in
    let ascii = IsAscii-from_all bytes (All-weaker IsVisible (λ b. b < 128) (λ b v. omega (arith, v.1)) bytes c.as_slice.ensures.id.visible) in
    c.in-Err.ensures.cases.0 (subst IsUtf8 (sym c.as_slice.ensures.value) (IsUtf8-from_ascii bytes ascii))
