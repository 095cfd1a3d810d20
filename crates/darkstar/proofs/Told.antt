-- Which line is told of a source's bytes.
use Rattle.std.proofs.Common.{◌≡◌, ℕ, Option, Some, None, List, IsSomeAnd, subst}
use Rattle.std.specs.Prelude.{IfSome}
use Rattle.dk_model.specs.declared.script.Line.{Line}
use Rattle.dk_model.specs.Scripts.{IsScript, IsBadLine}
use Rattle.dk_script.proofs.ScriptOnce.{scripts-are_read}
use Rattle.dk_streams.specs.Sources.{IsPlayable, IsReadScript}

-- nothing is asked
pub told_free : (o : Option (List ℕ)) (line : ℕ) → IfSome o (λ bytes. IsBadLine bytes line → Unit {0})
told_free None line = tt
told_free (Some xs) line = λ bad. tt

-- bytes that were read as a script have no bad line
pub told_read : (o left' : Option (List ℕ)) (phases : List (List Line)) (line : ℕ) → IsReadScript o left' phases → IfSome o (λ bytes. IsBadLine bytes line → ⊥)
told_read None left' phases line p = tt
told_read (Some xs) left' phases line p = λ bad. (scripts-are_read xs).not_both phases line (subst (λ (l : List ℕ). IsScript l phases) p.all.0 p.script) bad

-- a bad line is the only one
pub told_once : (o : Option (List ℕ)) (line told : ℕ) → IfSome o (λ bytes. IsBadLine bytes told) → IfSome o (λ bytes. IsBadLine bytes line → told ≡ line)
told_once None line told bad = tt
told_once (Some xs) line told bad = λ other. (scripts-are_read xs).one_line told line bad other

-- told bytes are not both a script and none
pub not_both : (o : Option (List ℕ)) (line : ℕ) → IsSomeAnd o IsPlayable → IfSome o (λ bytes. IsBadLine bytes line) → ⊥
not_both None line is bad = absurd is
not_both (Some xs) line is bad = (scripts-are_read xs).not_both is.0 line is.1 bad
