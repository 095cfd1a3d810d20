-- The example is exact: a line for each field, and no fact about bytes.
use Rattle.std.proofs.Common.{ℕ, List, Option, refl, leb, arith}
use Rattle.std.proofs.lemmas.Bool.{leb-true}
use Rattle.dk_types.specs.Exact.{IsExact}
use Rattle.dk_value_tests.specs.Scores.{is_behind, IsRow, row_spelling, row_at, AreScores, scores_spelling, scores_at}
use Rattle.dk_types.proofs.Composing.{then_exact, last_exact, checked_exact}
use Rattle.dk_types.proofs.NextLaws.{next_name_exact, next_u64_exact}
use Rattle.dk_types.proofs.ListLaws.{list_exact}

-- reading a row takes back what its bytes say, and nothing else
pub row_exact : (before : Option (List ℕ × ℕ)) → IsExact (IsRow before) row_spelling (row_at before)
unfolding row_at
row_exact before =
    then_exact (λ row. row.0) _ (checked_exact (is_behind before) next_name_exact) (λ row is. (is.name, is.behind)) (λ name fits.
    last_exact (λ row. row.1) (λ score. (name, score)) next_u64_exact (λ row is. is.0.score)
    (λ score small. (record { name = fits.0; behind = fits.1; score = small }, refl)) (λ score. refl) (λ row is i. (is.1 i, row.1)))

-- the same of a table
pub scores_exact : IsExact AreScores scores_spelling scores_at
unfolding scores_at
scores_exact =
    then_exact (λ scores. scores.best) _ (checked_exact (λ n. leb n 1000000) next_u64_exact) (λ scores are. (omega (arith, leb-true _ _ are.best), are.best)) (λ best fits.
    last_exact (λ scores. scores.rows) (λ rows. record { best = best; rows = rows }) (list_exact row_exact) (λ scores is. is.0.rows)
    (λ rows are. (record { best = fits.1; rows = are }, refl)) (λ rows. refl) (λ scores is i. record { best = is.1 i; rows = scores.rows }))
