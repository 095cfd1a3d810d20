-- Looking for the read of an item, one read after another.
use Rattle.std.proofs.Common.{◌≡◌, ℕ, zero, suc, ◌+◌, ◌<◌, false, if◌then◌else◌, List, [], ◌∷◌, length, drop, get_or, refl, sym, ap, subst, ◌∙◌, arith}
use Rattle.dk_types.specs.declared.item.Item.{Item}
use Rattle.dk_types.specs.declared.item.Read.{Read}
use Rattle.dk_overlay.specs.Items.{equal_items}
use Rattle.dk_txn.specs.Listing.{read_in}

turn : (reads : List (Item × Read)) (i : ℕ) (x : Item × Read) (item : Item) → i < length reads
    → read_in (drop i reads) item ≡ (if equal_items (get_or reads i x).0 item then (get_or reads i x).1 else read_in (drop (suc i) reads) item)
turn [] i x item h = absurd (omega (arith, h))
turn (r ∷ reads) zero x item h = refl
turn (r ∷ reads) (suc i) x item h = turn reads i x item (omega (arith, h))

-- it is another's
pub looked_on : (reads : List (Item × Read)) (i : ℕ) (x : Item × Read) (item : Item) (all : Read) → i < length reads → x ≡ get_or reads i x → equal_items x.0 item ≡ false
    → all ≡ read_in (drop i reads) item → all ≡ read_in (drop (i + 1) reads) item
looked_on reads i x item all h e same was =
    let next : suc i ≡ i + 1 = omega arith in
    subst (λ n. all ≡ read_in (drop n reads) item) next (was ∙ turn reads i x item h ∙ ap (λ (y : Item × Read). if equal_items y.0 item then y.1 else read_in (drop (suc i) reads) item) (sym e) ∙ ap (λ b. if b then x.1 else read_in (drop (suc i) reads) item) same)
