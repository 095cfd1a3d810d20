-- What a script may say is within the limits of the world.
use Rattle.std.proofs.Common.{◌≡◌, ℕ, ◌<◌, true, List, arith}
use Rattle.std.proofs.lemmas.Bool.Decides.{nat_tests}
use Rattle.std.proofs.lemmas.List.Sums.{AllPass-from_list_all}
use Rattle.std.proofs.lemmas.Str.{utf8_valid_len-IsUtf8, IsUtf8-from_ascii}
use Rattle.std.proofs.lemmas.Str.Ascii.{IsAscii-from_all}
use Rattle.dk_types.specs.Names.{IsName}
use Rattle.dk_model.specs.Scripts.{IsLineName, is_name_byte}

-- a visible byte is ASCII
name_byte_small : (b : ℕ) → is_name_byte b ≡ true → b < 128
name_byte_small b h = grind (arith, nat_tests)

-- a name of a line is a name
pub line_name : (name : List ℕ) → IsLineName name → IsName name
line_name name h = record {
  some = h.some;
  most = omega (arith, h.most);
  text = utf8_valid_len-IsUtf8 name (IsUtf8-from_ascii name (IsAscii-from_all name (λ k d l. name_byte_small _ (AllPass-from_list_all is_name_byte name h.visible k d l))));
}
