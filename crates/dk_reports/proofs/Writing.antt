-- What a put of a line says of its two answers.
use Rattle.std.proofs.Common.{Result, Ok, Err, MatchResult, OnOk}

pub put_whole : {T E : Type 0} (A B C : Type 0) (r : Result T E) → MatchResult r (λ _. A) (λ _. B) → (A → C) → OnOk r C
put_whole A B C (Ok done) put meant = meant put
put_whole A B C (Err fault) put meant = tt
