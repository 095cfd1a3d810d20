-- Asking one after another.
use Rattle.std.proofs.Common.{◌≡◌, Option, List, [], ◌∷◌, ◌++◌, refl, sym, subst}
use Rattle.std.specs.List.{AllByRecursion}
use Rattle.dk_types.specs.declared.item.Item.{Item}
use Rattle.dk_types.specs.declared.item.Read.{Read}
use Rattle.dk_overlay.specs.Asked.{WasNotRead}
use Rattle.dk_overlay.specs.ReadsAndWrites.{ReadsAndWrites}
use Rattle.dk_txn.specs.declared.txn.Txn.{Txn}
use Rattle.dk_txn.specs.Sights.{Sights}
use Rattle.dk_txn.specs.Asks.{kept, AskedInTurn, AsksOf, AsksNothing}

pub All-join : {X : Type 0} (P : X → Type 0) (xs ys : List X) → AllByRecursion P xs → AllByRecursion P ys → AllByRecursion P (xs ++ ys)
All-join P [] ys h k = k
All-join P (x ∷ xs) ys h k = (h.0, All-join P xs ys h.1 k)

pub All-weaker : {X : Type 0} (P Q : X → Type 0) (xs : List X) → ((x : X) → P x → Q x) → AllByRecursion P xs → AllByRecursion Q xs
All-weaker P Q [] f h = tt
All-weaker P Q (x ∷ xs) f h = (f x h.0, All-weaker P Q xs f h.1)

module _ {S : Type 0} (sights : Sights S) where
  in_turn : (u v w : S) (before reads after : List (Item × Read)) (asks more : List (Item × Option Read)) → AskedInTurn sights u before asks v reads → AskedInTurn sights v reads more w after
      → AskedInTurn sights u before (asks ++ more) w after
  in_turn u v w before reads after [] more first then =
      subst (λ x. AskedInTurn sights x before more w after) first.0 (subst (λ rs. AskedInTurn sights v rs more w after) first.1 then)
  in_turn u v w before reads after (q ∷ asks) more first then =
      (first.0, (first.1.0, first.1.1, in_turn first.1.0 v w (before ++ kept q.0 q.1) reads after asks more first.1.2 then))

module _ {S : Type 0} {sights : Sights S} {Of : Item → Type 0} where
  -- nothing is asked
  pub asks_nothing : {a b : Txn S ReadsAndWrites} → AsksNothing a b → AsksOf Of sights a b
  asks_nothing n = record { asks = []; each = tt; in_turn = (n.same_view, n.same_reads) }

  -- a call, and then another
  pub asks_then : {a b c : Txn S ReadsAndWrites} → AsksOf Of sights a b → AsksOf Of sights b c → AsksOf Of sights a c
  asks_then {a = a} {b = b} {c = c} p q = record {
    asks = p.asks ++ q.asks;
    each = All-join (λ r. Of r.0) p.asks q.asks p.each q.each;
    in_turn = in_turn sights a.view.now b.view.now c.view.now a.set.reads b.set.reads c.set.reads p.asks q.asks p.in_turn q.in_turn;
  }

  -- others with the same reads
  pub asks_changed : {a b : Txn S ReadsAndWrites} (u : ReadsAndWrites) → AsksOf Of sights a b → u.reads ≡ b.set.reads → AsksOf Of sights a (record { view = b.view; set = u })
  asks_changed {a = a} {b = b} u p same = record {
    asks = p.asks;
    each = p.each;
    in_turn = subst (λ rs. AskedInTurn sights a.view.now a.set.reads p.asks b.view.now rs) (sym same) p.in_turn;
  }

  -- other items too
  pub asks_weaker : {Also : Item → Type 0} {a b : Txn S ReadsAndWrites} → ((item : Item) → Of item → Also item) → AsksOf Of sights a b → AsksOf Also sights a b
  asks_weaker {Also = Also} f p = record { asks = p.asks; each = All-weaker (λ q. Of q.0) (λ q. Also q.0) p.asks (λ q h. f q.0 h) p.each; in_turn = p.in_turn }

  -- the view is asked for an item that was not read
  pub asks_once : {a b : Txn S ReadsAndWrites} (item : Item) (read : Option Read) → Of item → WasNotRead a.set.reads item → sights.asked a.view.now item b.view.now → b.set.reads ≡ a.set.reads ++ kept item read
      → AsksOf Of sights a b
  asks_once {b = b} item read of fresh asked is = record { asks = (item, read) ∷ []; each = (of, tt); in_turn = (fresh, (b.view.now, asked, (refl, is))) }
