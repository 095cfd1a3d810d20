-- The record's calls read the same bytes after more were put behind them.
use Rattle.std.proofs.Common.{◌≡◌, ℕ, zero, suc, ◌+◌, ◌<◌, List, [], ◌∷◌, ◌++◌, length, map, get_or, drop, Some, refl, sym, ap, arith, length-append, slice_get, reverse, ◌-◌, ◌∙◌}
use Rattle.std.proofs.lemmas.List.{drop-append-le, take-append-le, length-drop, length-reverse, get_or-reverse, reverse-append}
use Rattle.std.proofs.lemmas.Option.{slice_get-get_or}
use Rattle.dk_disk.specs.CallRecord.{AreWithin, IsWithinRecord, call_of, change_at}
use Rattle.dk_disk.specs.declared.call_record.Entry.{Entry}
use Rattle.dk_disk.specs.declared.call_record.Kept.{Kept}
use Rattle.dk_disk.specs.declared.call_record.Kept.TheVariants as kept
use Rattle.dk_disk.specs.Record.{Call}

within_read : (size : ℕ) (entries : List Entry) (i : ℕ) (e : Entry) → e ≡ get_or entries i e → i < length entries → AreWithin size entries → IsWithinRecord size e.kept
within_read size [] i e is lt within = absurd (omega arith)
within_read size (x ∷ xs) zero e is lt within = rw is within.0
within_read size (x ∷ xs) (suc i) e is lt within = within_read size xs i e is (omega arith) within.1

call_read : (bytes : List ℕ) (entries : List Entry) (i : ℕ) (e : Entry) → e ≡ get_or entries i e → i < length entries → slice_get (map (λ x. call_of bytes x) entries) i ≡ Some (call_of bytes e)
call_read bytes [] i e is lt = absurd (omega arith)
call_read bytes (x ∷ xs) zero e is lt = ap (λ (y : Entry). Some (call_of bytes y)) (sym is)
call_read bytes (x ∷ xs) (suc i) e is lt = call_read bytes xs i e is (omega arith)

within_grows : (size more : ℕ) (k : Kept) → IsWithinRecord size k → IsWithinRecord (size + more) k
within_grows size more (kept.Write at start count) within = (omega (arith, within.0), within.1)
within_grows size more (kept.Cut to) within = tt
within_grows size more kept.Sync within = tt

change_grows : (bytes new : List ℕ) (k : Kept) → IsWithinRecord (length bytes) k → change_at (bytes ++ new) k ≡ change_at bytes k
change_grows bytes new (kept.Write at start count) within =
    let one = drop-append-le start bytes new (omega (arith, within.0)) in
    let two = take-append-le count (drop start bytes) new (omega (arith, within.0, length-drop start bytes)) in
    rw (one, two) refl
change_grows bytes new (kept.Cut to) within = refl
change_grows bytes new kept.Sync within = refl

pub within_pushed : (bytes new : List ℕ) (entries : List Entry) (e : Entry) → AreWithin (length bytes) entries → IsWithinRecord (length (bytes ++ new)) e.kept → AreWithin (length (bytes ++ new)) (entries ++ e ∷ [])
within_pushed bytes new [] e within last = (last, tt)
within_pushed bytes new (x ∷ xs) e within last =
    (rw (length-append bytes new) (within_grows (length bytes) (length new) x.kept within.0), within_pushed bytes new xs e within.1 last)

calls_pushed : (bytes new : List ℕ) (entries : List Entry) (e : Entry) (call : Call) → AreWithin (length bytes) entries → call_of (bytes ++ new) e ≡ call → map (λ x. call_of (bytes ++ new) x) (entries ++ e ∷ []) ≡ map (λ x. call_of bytes x) entries ++ call ∷ []
calls_pushed bytes new [] e call within is = ap (λ (c : Call). c ∷ []) is
calls_pushed bytes new (x ∷ xs) e call within is =
    rw (change_grows bytes new x.kept within.0) (ap (λ (l : List Call). call_of bytes x ∷ l) (calls_pushed bytes new xs e call within.1 is))

mapped_length : (bytes : List ℕ) (entries : List Entry) → length (map (λ e. call_of bytes e) entries) ≡ length entries
mapped_length bytes [] = refl
mapped_length bytes (x ∷ xs) = ap (λ (n : ℕ). suc n) (mapped_length bytes xs)

-- a place from the one end is one from the other
reversed_read : (calls : List Call) (k : ℕ) (call : Call) → k < length calls → slice_get calls (length calls - 1 - k) ≡ Some call → slice_get (reverse calls) k ≡ Some call
reversed_read calls k call lt is =
    slice_get-get_or (reverse calls) k call (omega (arith, lt, length-reverse calls))
    ∙ ap (λ (c : Call). Some c) (get_or-reverse calls k call lt)
    ∙ sym (slice_get-get_or calls (length calls - 1 - k) call (omega (arith, lt)))
    ∙ is

pub reversed_call : (bytes : List ℕ) (entries : List Entry) (n k : ℕ) (e : Entry) → n ≡ length entries → k < length (reverse (map (λ x. call_of bytes x) entries)) → e ≡ get_or entries (n - 1 - k) e
    → slice_get (reverse (map (λ x. call_of bytes x) entries)) k ≡ Some (call_of bytes e)
reversed_call bytes entries n k e count lt is =
    let all : length (map (λ x. call_of bytes x) entries) ≡ n = mapped_length bytes entries ∙ sym count in
    let within : k < n = omega (arith, lt, all, length-reverse (map (λ x. call_of bytes x) entries)) in
    reversed_read (map (λ x. call_of bytes x) entries) k (call_of bytes e) (omega (arith, within, all)) (rw all (call_read bytes entries (n - 1 - k) e is (omega (arith, within, count))))

pub reversed_within : (bytes : List ℕ) (entries : List Entry) (n k : ℕ) (e : Entry) → n ≡ length entries → k < length (reverse (map (λ x. call_of bytes x) entries)) → e ≡ get_or entries (n - 1 - k) e → AreWithin (length bytes) entries → IsWithinRecord (length bytes) e.kept
reversed_within bytes entries n k e count lt is within =
    within_read (length bytes) entries (n - 1 - k) e is (omega (arith, count, lt, mapped_length bytes entries, length-reverse (map (λ x. call_of bytes x) entries))) within

-- a call that is put before the others
pub calls_put_first : (bytes new : List ℕ) (entries : List Entry) (e : Entry) (call : Call) → AreWithin (length bytes) entries → call_of (bytes ++ new) e ≡ call → reverse (map (λ x. call_of (bytes ++ new) x) (entries ++ e ∷ [])) ≡ call ∷ reverse (map (λ x. call_of bytes x) entries)
calls_put_first bytes new entries e call within is =
    ap (λ (calls : List Call). reverse calls) (calls_pushed bytes new entries e call within is) ∙ reverse-append (map (λ x. call_of bytes x) entries) (call ∷ [])
