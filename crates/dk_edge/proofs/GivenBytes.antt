-- Bytes that were copied from the front of a list to the front of a buffer.
use Rattle.std.proofs.Common.{◌≡◌, sym, ◌≤◌, ◌<◌, ◌+◌, ◌-◌, min, ℕ, List, [], ◌++◌, length, take, drop, Some, arith}
use Rattle.std.proofs.lemmas.List.{take-append-drop, take_at, length-take-le, length-append, take_rest, drop-drop, nil_from_length}
use Rattle.dk_edge.specs.Streams.{Gives}

-- the buffer begins with the first n bytes that were left, and the rest is left now
gives_front : (rest copied buffer : List ℕ) (n : ℕ) → copied ≡ take n rest → n ≤ length rest → (n ≡ 0 → rest ≡ []) → Gives (Some rest) (Some (drop n rest)) (copied ++ buffer) n
gives_front rest copied buffer n is le end =
    let len : length copied ≡ n = grind (arith, length-take-le n rest le, is) in
    record {
      within = grind (arith, length-append copied buffer);
      front = rw (take_at copied buffer n len, is) (sym (take-append-drop n rest));
      end = λ z. end z;
    }

-- the same, of bytes from a place on
pub gives_from : (bytes left copied buffer : List ℕ) (at piece room n : ℕ) → left ≡ drop at bytes → copied ≡ take n (take (length bytes - at) (drop at bytes)) → n ≡ min (min (length (take (length bytes - at) (drop at bytes))) piece) room → 0 < piece → 0 < room → Gives (Some left) (Some (drop (at + n) bytes)) (copied ++ buffer) n
gives_from bytes left copied buffer at piece room n same is count some_piece some_room =
    let all = take_rest bytes at in
    let is2 : copied ≡ take n (drop at bytes) = rw all at is in
    let count2 : n ≡ min (min (length (drop at bytes)) piece) room = rw all at count in
    rw (same, ← drop-drop n at bytes) (gives_front (drop at bytes) copied buffer n is2 (omega arith) (λ z. nil_from_length _ (omega arith)))
