-- Which of two files stands, by how they look.
use Rattle.std.proofs.Common.{◌≡◌, ℕ, ◌<◌, ◌≤◌, ltb, false, List, length, refl, sym, ap, subst, ◌∙◌, arith}
use Rattle.std.proofs.lemmas.Bool.{lt-ltb, ltb-true}
use Rattle.dk_types.specs.declared.side.Side.{Side}
use Rattle.dk_types.specs.declared.side.Side.TheVariants.{Zero, One}
use Rattle.dk_model.specs.Stores.{Look, Live, look, StandsOn, NoneStands, standing, standing_of}
use Rattle.dk_model.specs.Recovered.{file_on}
use Rattle.dk_journal.specs.Headers.{store_header}
use Rattle.dk_journal.specs.Opened.{IsOpened}
use Rattle.dk_journal.specs.declared.header.Header.{Header}
use Rattle.dk_journal.specs.declared.scan.Scan.{Scan}
use Rattle.dk_journal.proofs.HeaderBytes.{false_of}
use Rattle.dk_recover.specs.Stood.{IsStanding}

pub by_looks : (z o : List ℕ) (l m : Look) → look z ≡ l → look o ≡ m → standing z o ≡ standing_of (length z) l m
by_looks z o l m first second = λ i. standing_of (length z) (first i) (second i)

pub first_stands : (z o : List ℕ) (header : Header) (scan : Scan) → IsOpened z Zero header scan → standing z o ≡ StandsOn Zero (store_header header) → IsStanding z o header scan
first_stands z o header scan is stands = record {
  stands = stands ∙ ap (λ (s : Side). StandsOn s (store_header header)) (sym is.side);
  opened = subst (λ (s : Side). IsOpened (file_on s z o) s header scan) (sym is.side) is;
}

pub second_stands : (z o : List ℕ) (header : Header) (scan : Scan) → IsOpened o One header scan → standing z o ≡ StandsOn One (store_header header) → IsStanding z o header scan
second_stands z o header scan is stands = record {
  stands = stands ∙ ap (λ (s : Side). StandsOn s (store_header header)) (sym is.side);
  opened = subst (λ (s : Side). IsOpened (file_on s z o) s header scan) (sym is.side) is;
}

module _ (z o : List ℕ) (h k : Header) (s t : Scan) (first : IsOpened z Zero h s) (second : IsOpened o One k t) where
  both : standing z o ≡ standing_of (length z) (Live (store_header h)) (Live (store_header k))
  both = by_looks z o (Live (store_header h)) (Live (store_header k)) first.looks second.looks

  pub first_greater : k.epoch < h.epoch → IsStanding z o h s
  first_greater less = first_stands z o h s first (both ∙ rw (lt-ltb k.epoch h.epoch less) refl)

  pub second_greater : h.epoch < k.epoch → IsStanding z o k t
  second_greater less =
      let not_first : ltb k.epoch h.epoch ≡ false = false_of _ (λ more. omega (arith, less, ltb-true k.epoch h.epoch more)) in
      second_stands z o k t second (both ∙ rw (not_first, lt-ltb h.epoch k.epoch less) refl)

  pub neither_greater : h.epoch ≤ k.epoch → k.epoch ≤ h.epoch → standing z o ≡ NoneStands One 11
  neither_greater a b =
      let not_first : ltb k.epoch h.epoch ≡ false = false_of _ (λ more. omega (arith, a, ltb-true k.epoch h.epoch more)) in
      let not_second : ltb h.epoch k.epoch ≡ false = false_of _ (λ more. omega (arith, b, ltb-true h.epoch k.epoch more)) in
      both ∙ rw (not_first, not_second) refl
