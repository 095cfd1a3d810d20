-- What a map is seen as.
use Rattle.std.specs.Prelude.{ℕ, List, refl}
use Rattle.std.specs.Coded.{Coded, code_by, coded×, coded_ℕ, coded_list}

-- the entries in the order of their keys, and how many more fit without memory
pub record Ordered (K V : Type 0) : Type 0 where
  pub entries : List (K × V)
  pub spare : ℕ

-- it is stored as the pair of its fields
abbrev pub ordered_code : {K V : Type 0} → Coded K → Coded V → Coded (Ordered K V)
ordered_code k v =
    code_by (List (_ × _) × ℕ) (coded× (coded_list (coded× k v)) coded_ℕ) (λ m. (m.entries, m.spare)) (λ p. record { entries = p.0; spare = p.1 }) (λ _. refl)
