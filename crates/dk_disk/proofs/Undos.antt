-- What takes calls back reads the same bytes after more were put behind them.
use Rattle.std.proofs.Common.{◌≡◌, ℕ, zero, suc, ◌+◌, ◌<◌, ◌≤◌, ◌-◌, List, [], ◌∷◌, ◌++◌, length, map, get_or, take, drop, Some, refl, sym, ap, arith, ◌∙◌, length-append, slice_get}
use Rattle.std.proofs.lemmas.List.{drop-append-le, take-append-le, length-drop, length-take}
use Rattle.dk_disk.specs.UndoRecord.{Undo, AreTraced, IsTraced, undo_of}
use Rattle.dk_disk.specs.declared.undo_record.UndoEntry.{UndoEntry}

traced_read : (size : ℕ) (entries : List UndoEntry) (i : ℕ) (e : UndoEntry) → e ≡ get_or entries i e → i < length entries → AreTraced size entries → (e.start + e.size ≤ size) × IsTraced e.trace e.size
traced_read size [] i e is lt within = absurd (omega arith)
traced_read size (x ∷ xs) zero e is lt within = rw is within.0
traced_read size (x ∷ xs) (suc i) e is lt within = traced_read size xs i e is (omega arith) within.1

undo_read : (bytes : List ℕ) (entries : List UndoEntry) (i : ℕ) (e : UndoEntry) → e ≡ get_or entries i e → i < length entries → slice_get (map (λ x. undo_of bytes x) entries) i ≡ Some (undo_of bytes e)
undo_read bytes [] i e is lt = absurd (omega arith)
undo_read bytes (x ∷ xs) zero e is lt = ap (λ (y : UndoEntry). Some (undo_of bytes y)) (sym is)
undo_read bytes (x ∷ xs) (suc i) e is lt = undo_read bytes xs i e is (omega arith)

bytes_grow : (bytes new : List ℕ) (start size : ℕ) → start + size ≤ length bytes → take size (drop start (bytes ++ new)) ≡ take size (drop start bytes)
bytes_grow bytes new start size within =
    ap (λ (l : List ℕ). take size l) (drop-append-le start bytes new (omega (arith, within)))
    ∙ take-append-le size (drop start bytes) new (omega (arith, within, length-drop start bytes))

pub traced_pushed : (bytes new : List ℕ) (entries : List UndoEntry) (e : UndoEntry) → AreTraced (length bytes) entries → (e.start + e.size ≤ length (bytes ++ new)) × IsTraced e.trace e.size → AreTraced (length (bytes ++ new)) (entries ++ e ∷ [])
traced_pushed bytes new [] e within last = (last, tt)
traced_pushed bytes new (x ∷ xs) e within last = ((omega (arith, length-append bytes new, within.0.0), within.0.1), traced_pushed bytes new xs e within.1 last)

pub undos_pushed : (bytes new : List ℕ) (entries : List UndoEntry) (e : UndoEntry) (undo : Undo) → AreTraced (length bytes) entries → undo_of (bytes ++ new) e ≡ undo → map (λ x. undo_of (bytes ++ new) x) (entries ++ e ∷ []) ≡ map (λ x. undo_of bytes x) entries ++ undo ∷ []
undos_pushed bytes new [] e undo within is = ap (λ (u : Undo). u ∷ []) is
undos_pushed bytes new (x ∷ xs) e undo within is =
    let one : undo_of (bytes ++ new) x ≡ undo_of bytes x = λ i. record { number = x.number; side = x.side; trace = x.trace; bytes = bytes_grow bytes new x.start x.size within.0.0 i; is_made = x.is_made } in
    rw one (ap (λ (l : List Undo). undo_of bytes x ∷ l) (undos_pushed bytes new xs e undo within.1 is))

undos_length : (bytes : List ℕ) (entries : List UndoEntry) → length (map (λ e. undo_of bytes e) entries) ≡ length entries
undos_length bytes [] = refl
undos_length bytes (x ∷ xs) = ap (λ (n : ℕ). suc n) (undos_length bytes xs)

pub undo_fits : (bytes : List ℕ) (entries : List UndoEntry) (i : ℕ) (e : UndoEntry) → i < length (map (λ x. undo_of bytes x) entries) → e ≡ get_or entries i e → AreTraced (length bytes) entries → (e.start + e.size ≤ length bytes) × IsTraced e.trace e.size
undo_fits bytes entries i e lt is within = traced_read (length bytes) entries i e is (omega (arith, lt, undos_length bytes entries)) within

pub undo_found : (bytes : List ℕ) (entries : List UndoEntry) (i : ℕ) (e : UndoEntry) → i < length (map (λ x. undo_of bytes x) entries) → e ≡ get_or entries i e → slice_get (map (λ x. undo_of bytes x) entries) i ≡ Some (undo_of bytes e)
undo_found bytes entries i e lt is = undo_read bytes entries i e is (omega (arith, lt, undos_length bytes entries))

-- the part of a list that ends so far behind its start
pub part_is : (bytes : List ℕ) (start size : ℕ) → take (start + size - start) (drop start bytes) ≡ take size (drop start bytes)
part_is bytes start size = let same : start + size - start ≡ size = omega arith in ap (λ (n : ℕ). take n (drop start bytes)) same

pub part_length : (bytes : List ℕ) (start size : ℕ) → start + size ≤ length bytes → length (take (start + size - start) (drop start bytes)) ≡ size
part_length bytes start size within = omega (arith, within, length-take (start + size - start) (drop start bytes), length-drop start bytes)
