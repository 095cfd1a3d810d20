-- What several puts in a row do to the bytes that a sink tells.
use Rattle.std.proofs.Common.{◌≡◌, ◌≤◌, ◌-◌, ℕ, List, length, take, drop, Option, Result, IsErr, arith, refl, ap, ◌∙◌, subst}
use Rattle.std.proofs.lemmas.List.{take-take, length-take}
use Rattle.std.proofs.lemmas.Result.{MatchResult-from_err}
use Rattle.std.specs.Io.KnownBytes.{Appends}
use Rattle.dk_types.specs.declared.fault.Failed.{Failed}
use Rattle.dk_edge.specs.Streams.{AppendsPrefix, Puts}
use Rattle.dk_edge.proofs.KnownBytes.{IsWritten, written_more}

-- the first k bytes of the rest were put
pub put_more : (a b c : Option (List ℕ)) (bytes rest piece rest' : List ℕ) (k : ℕ) → IsWritten a b bytes rest → Appends b c piece → piece ≡ take k rest → k ≤ length rest → rest' ≡ take (length rest - k) (drop k rest) → IsWritten a c bytes rest'
put_more a b c bytes rest piece rest' k put more is le is' = written_more a b c bytes rest rest' k put (subst (Appends b c) is more) le is'

-- a put that failed appended a part of its piece
pub put_part : (a b c : Option (List ℕ)) (bytes rest piece : List ℕ) (k : ℕ) → IsWritten a b bytes rest → AppendsPrefix b c piece → piece ≡ take k rest → AppendsPrefix a c bytes
put_part a b c bytes rest piece k put part is =
    let m = part.0 in
    let within : m ≤ length (take k rest) = subst (λ (l : List ℕ). m ≤ length l) is part.1 in
    let length_is = length-take k rest in
    let first : take m (take k rest) ≡ take m rest = take-take m k rest (omega arith) in
    let more : Appends b c (take m rest) = subst (λ (l : List ℕ). Appends b c l) (ap (take m) is ∙ first) part.2 in
    let w = written_more a b c bytes rest _ m put more (omega arith) refl in
    (w.0, w.1, w.3)

-- a call that failed, and a part of its bytes
pub puts_part : {T : Type 0} (result : Result T Failed) (a c : Option (List ℕ)) (bytes : List ℕ) → IsErr result → AppendsPrefix a c bytes → Puts a c bytes result
puts_part result a c bytes failed part = MatchResult-from_err result (λ _. Appends a c bytes) (λ _. AppendsPrefix a c bytes) failed (λ _. part)
