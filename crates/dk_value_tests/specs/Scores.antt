-- Scores as a payload: a worked record with a rule and a counted list in order, as the formats above are made.
use Rattle.std.specs.Prelude.{◌≡◌, ℕ, Bool, true, List, ◌++◌, Option, Some, None, Result, Ok, nat_le}
use Rattle.std.specs.Ordering.{is_lt}
use Rattle.dk_types.specs.Names.{IsName, bytes_cmp}
use Rattle.dk_value_tests.specs.declared.scores.Scores.{Scores}
use Rattle.dk_types.specs.Rest.{Rest}
use Rattle.dk_types.specs.Fields.{IsU64, u64_spelling, name_spelling}
use Rattle.dk_types.specs.Reading.{◌>>=◌}
use Rattle.dk_types.specs.Payload.{next_name, next_u64, checked}
use Rattle.dk_types.specs.Lists.{IsList, list_spelling, list_at}

-- the name stands behind that of the row before it, if there is one
abbrev pub is_behind : Option (List ℕ × ℕ) → List ℕ → Bool
is_behind None name = true
is_behind (Some before) name = is_lt (bytes_cmp before.0 name)

-- a row that may stand behind another
pub record IsRow (before : Option (List ℕ × ℕ)) (row : List ℕ × ℕ) : Type 0 where
  pub name : IsName row.0
  pub behind : is_behind before row.0 ≡ true
  pub score : IsU64 row.1

-- a name, and its score
abbrev pub row_spelling : List ℕ × ℕ → List ℕ
row_spelling row = name_spelling row.0 ++ u64_spelling row.1

-- reading a row of a table of scores
unfoldable pub row_at : Option (List ℕ × ℕ) → Rest → Result ((List ℕ × ℕ) × Rest) ℕ
row_at before r = do
  name ← checked (is_behind before) next_name r
  score ← next_u64 name.1
  Ok ((name.0, score.0), score.1)

-- the best score is at most a million, and the rows ascend by their names
pub record AreScores (scores : Scores) : Type 0 where
  pub best : nat_le scores.best 1000000 ≡ true
  pub rows : IsList IsRow scores.rows

-- the best score, and the rows
abbrev pub scores_spelling : Scores → List ℕ
scores_spelling scores = u64_spelling scores.best ++ list_spelling row_spelling scores.rows

-- reading a table of scores
unfoldable pub scores_at : Rest → Result (Scores × Rest) ℕ
scores_at r = do
  best ← checked (λ n. nat_le n 1000000) next_u64 r
  rows ← list_at row_at best.1
  Ok (record { best = best.0; rows = rows.0 }, rows.1)
