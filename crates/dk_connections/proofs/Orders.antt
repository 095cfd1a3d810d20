-- The order of places is total, and only equal places tie.
use Rattle.std.proofs.Common.{◌≡◌, ◌&&◌, not, ℕ, Bool, refl, true, false}
use Rattle.std.proofs.Math.Bool.{beq}
use Rattle.std.proofs.Math.Dec.{eqb}
use Rattle.std.proofs.lemmas.Bool.{eqb-true}
use Rattle.std.specs.declared.cmp.Ordering.{Ordering}
use Rattle.std.specs.Ordering.{nat_cmp, bool_cmp, on, then_cmp}
use Rattle.std.specs.Cmp.{IsTotalOrder, on_total, then_total, nat_cmp_total, bool_cmp_total}
use Rattle.std.specs.FinMap.{IsAntisymmetric, nat_cmp-IsAntisymmetric}
use Rattle.dk_types.specs.declared.number.ConnNo.{ConnNo}
use Rattle.dk_map.proofs.Keys.{then-IsAntisymmetric}
use Rattle.dk_model.specs.Keys.{conn_cmp}
use Rattle.dk_model.proofs.Maps.{conns_total, exact_conns}
use Rattle.dk_connections.specs.declared.place.ConnectionRank.{ConnectionRank}
use Rattle.dk_connections.specs.Places.{place_cmp}

-- by turn, and then by number
abbrev pub turn_cmp : ℕ × ConnNo → ℕ × ConnNo → Ordering
turn_cmp = then_cmp (on (λ t. t.0) nat_cmp) (on (λ t. t.1) conn_cmp)

turns_total : IsTotalOrder turn_cmp
turns_total = then_total (on_total (λ (t : ℕ × ConnNo). t.0) nat_cmp_total) (on_total (λ (t : ℕ × ConnNo). t.1) conns_total)

exact_turns : IsAntisymmetric turn_cmp
exact_turns = then-IsAntisymmetric (λ (t : ℕ × ConnNo). t.0) (λ (t : ℕ × ConnNo). t.1) nat_cmp-IsAntisymmetric exact_conns (λ x y p q i. (p i, q i))

exact_bools : IsAntisymmetric bool_cmp
exact_bools false false e = refl
exact_bools false true e = cc
exact_bools true false e = cc
exact_bools true true e = refl

pub places_total : IsTotalOrder place_cmp
places_total = then_total (on_total (λ (p : ConnectionRank). p.idle) bool_cmp_total) (on_total (λ (p : ConnectionRank). (p.turn, p.conn)) turns_total)

pub exact_places : IsAntisymmetric place_cmp
exact_places = then-IsAntisymmetric (λ (p : ConnectionRank). p.idle) (λ (p : ConnectionRank). (p.turn, p.conn)) exact_bools exact_turns (λ x y p q i. record { idle = p i; turn = (q i).0; conn = (q i).1 })

same_bool : (a b : Bool) → beq a b ≡ true → a ≡ b
same_bool false false e = refl
same_bool false true e = cc
same_bool true false e = cc
same_bool true true e = refl

both : (a b : Bool) → a && b ≡ true → (a ≡ true) × (b ≡ true)
both false b e = cc
both true b e = (refl, e)

not_false : (b : Bool) → false ≡ not b → b ≡ true
not_false false e = cc
not_false true e = refl

-- where the derived test finds no difference there is none
pub same_place : (a b : ConnectionRank) → false ≡ not (beq a.idle b.idle && (eqb a.turn b.turn && eqb a.conn.0 b.conn.0)) → a ≡ b
same_place a b e =
    let first = both _ _ (not_false _ e) in
    let rest = both _ _ first.1 in
    λ i. record { idle = same_bool a.idle b.idle first.0 i; turn = eqb-true a.turn b.turn rest.0 i; conn = record { 0 = eqb-true a.conn.0 b.conn.0 rest.1 i } }
