-- What several writes in a row do to the bytes that a writer tells.
use Rattle.std.proofs.Common.{◌≡◌, ◌≤◌, ◌+◌, ◌-◌, ℕ, List, ◌++◌, length, take, drop, Option, None, Some, arith, ◌∙◌, ap}
use Rattle.std.proofs.lemmas.List.{append_assoc, take-take, take-append-drop, drop-take, drop-drop, length-drop, take_rest}
use Rattle.std.specs.Io.KnownBytes.{Keeps, Appends}

-- of these bytes the first n were written, and the rest is left
abbrev pub IsWritten : Option (List ℕ) → Option (List ℕ) → List ℕ → List ℕ → Type 0
IsWritten old new bytes rest = (n : ℕ) × (n ≤ length bytes) × (rest ≡ drop n bytes) × Appends old new (take n bytes)

-- the first n, and then k
take_then : (bytes : List ℕ) (n k : ℕ) → take n bytes ++ take k (drop n bytes) ≡ take (n + k) bytes
take_then bytes n k = rw (← drop-take n k bytes, ← take-take n (n + k) bytes (omega arith)) (take-append-drop n (take (n + k) bytes))

-- bytes that were appended, and then more
appends_then : (a b c : Option (List ℕ)) (bs cs : List ℕ) → Appends a b bs → Appends b c cs → Appends a c (bs ++ cs)
appends_then None b c bs cs one two = tt
appends_then (Some xs) None c bs cs one two = absurd one
appends_then (Some xs) (Some ys) None bs cs one two = two
appends_then (Some xs) (Some ys) (Some zs) bs cs one two = two ∙ ap (λ l. l ++ cs) one ∙ append_assoc xs bs cs

-- bytes that were appended, and then stay
appends_keeps : (a b c : Option (List ℕ)) (bs : List ℕ) → Appends a b bs → Keeps b c → Appends a c bs
appends_keeps None b c bs one two = tt
appends_keeps (Some xs) None c bs one two = absurd one
appends_keeps (Some xs) (Some ys) None bs one two = two
appends_keeps (Some xs) (Some ys) (Some zs) bs one two = two ∙ one

-- a write of the first k bytes of the rest
pub written_more : (a b c : Option (List ℕ)) (bytes rest rest' : List ℕ) (k : ℕ) → IsWritten a b bytes rest → Appends b c (take k rest) → k ≤ length rest → rest' ≡ take (length rest - k) (drop k rest) → IsWritten a c bytes rest'
written_more a b c bytes rest rest' k written more le is =
    let n = written.0 in
    let left = length-drop n bytes in
    let rest_is = written.2 in
    let fits : k ≤ length (drop n bytes) = rw rest_is at le in
    let two : Appends b c (take k (drop n bytes)) = rw rest_is at more in
    (n + k, omega arith, is ∙ take_rest rest k ∙ ap (drop k) rest_is ∙ drop-drop k n bytes, rw (← take_then bytes n k) (appends_then a b c _ _ written.3 two))

-- a write that failed
pub written_same : (a b c : Option (List ℕ)) (bytes rest : List ℕ) → IsWritten a b bytes rest → Keeps b c → IsWritten a c bytes rest
written_same a b c bytes rest written kept = (written.0, written.1, written.2, appends_keeps a b c _ written.3 kept)
