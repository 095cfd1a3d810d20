-- Reads that stand, and the first that does not.
use Rattle.std.proofs.Common.{◌≡◌, ℕ, ◌+◌, ◌<◌, sym, ap, subst, ◌∙◌, true, false, suc, List, [], ◌∷◌, ◌++◌, length, take, drop, get_or, take-append-drop, drop-cons}
use Rattle.std.proofs.lemmas.List.{take_more}
use Rattle.std.specs.List.{AllByRecursion}
use Rattle.dk_types.specs.declared.item.Item.{Item}
use Rattle.dk_types.specs.declared.item.Read.{Read}
use Rattle.dk_laws.proofs.StaleReads.{seen_equal, seen_itself}
use Rattle.dk_laws.proofs.SoundConnections.{all_append}
use Rattle.dk_core.specs.StampedWorlds.{Stamped, seen_now}
use Rattle.dk_core.specs.Changes.{same_seen, Stands, IsFirstConflict}
use Rattle.dk_core.specs.declared.durable.conflicts.Conflict.{Conflict}

module _ (w : Stamped) (reads : List (Item × Read)) (i : ℕ) (x : Item × Read) (lt : i < length reads) (is : x ≡ get_or reads i x) (front : AllByRecursion (Stands w) (take i reads)) where
  -- one more that stands
  pub stand_more : true ≡ same_seen x.1.seen (seen_now w x.0) → AllByRecursion (Stands w) (take (i + 1) reads)
  stand_more h =
      subst (AllByRecursion (Stands w)) (sym (take_more reads i x lt ∙ ap (λ y. take i reads ++ y ∷ []) (sym is)))
      (all_append (Stands w) (take i reads) (x ∷ []) front (seen_equal x.1.seen (seen_now w x.0) (sym h), tt))

  -- the one that does not
  pub first_is : false ≡ same_seen x.1.seen (seen_now w x.0) → (c : Conflict) → c.item ≡ x.0 → c.found ≡ x.1.seen → c.now ≡ seen_now w x.0 → IsFirstConflict w reads c
  first_is h c item found now = record {
    before = take i reads;
    read = x.1;
    behind = drop (suc i) reads;
    listed = sym (take-append-drop i reads) ∙ ap (λ ys. take i reads ++ ys) (drop-cons reads i x lt ∙ ap (λ y. y ∷ drop (suc i) reads) (sym is ∙ (λ j. (sym item j, x.1))));
    stand = front;
    found = found;
    now = now ∙ ap (seen_now w) (sym item);
    differ = λ e.
        let one : x.1.seen ≡ seen_now w x.0 = sym found ∙ e ∙ now in
        let alike : same_seen x.1.seen (seen_now w x.0) ≡ true = ap (same_seen x.1.seen) (sym one) ∙ seen_itself x.1.seen in
        cc;
  }
