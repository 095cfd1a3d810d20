-- What the calls that read a record ask for, from the calls that they made.
use Rattle.std.proofs.Common.{◌≡◌, inl, inr, ℕ, Option, Some, List, Result, Ok, refl, sym, ap, subst, ◌∙◌}
use Rattle.dk_types.specs.declared.number.ObjectId.{ObjectId}
use Rattle.dk_types.specs.declared.item.Item.{Item}
use Rattle.dk_types.specs.declared.item.Item.TheVariants as ask
use Rattle.dk_types.specs.declared.mode.Mode.{Mode}
use Rattle.dk_types.specs.declared.fault.AppFault.{AppFault}
use Rattle.dk_model.specs.DurableWorlds.{DurableWorld, Agrees}
use Rattle.dk_model.specs.Runs.{Act, Run}
use Rattle.dk_model.specs.Records.{session_name}
use Rattle.dk_model.specs.Platforms.{platform_bound}
use Rattle.dk_overlay.specs.ReadsAndWrites.{ReadsAndWrites}
use Rattle.dk_txn.specs.Current.{current}
use Rattle.dk_txn.specs.declared.txn.Txn.{Txn}
use Rattle.dk_txn.specs.Refusals.{refusal_fault}
use Rattle.dk_txn.specs.Sights.{Sights}
use Rattle.dk_txn.specs.Asks.{Asks, AsksOf, AsksNothing, EitherOf}
use Rattle.dk_txn.specs.Does.{Does, Keeps}
use Rattle.dk_txn.proofs.Asking.{asks_nothing, asks_then, asks_weaker}
use Rattle.dk_txn.proofs.Kit.{agreed}
use Rattle.dk_refs.specs.Lookups.{recorded}
use Rattle.dk_refs.specs.RecordAsks.{IsOfRecord}
use Rattle.dk_refs.specs.Telling.{bound_to}

same_ok : {A : Type 0} (x y : A) (s t : Run) → ◌≡◌ {A = Result A AppFault × Run} (Ok x, s) (Ok y, t) → x ≡ y
same_ok {A = A} x y s t e = let told : ◌≡◌ {A = Result A AppFault} (Ok x) (Ok y) = ap (λ q. q.0) e in cc

-- what a name is bound to is what a look at it tells
pub led_to : {S : Type 0} {sights : Sights S} {a b : Txn S ReadsAndWrites} {f : Act (Option ObjectId)} {o : Option ObjectId} (name : List ℕ) → ((s : Run) → f s ≡ (Ok (platform_bound s name), s)) → Does sights refusal_fault a b f (Ok o)
    → (d : DurableWorld) → Agrees d b.set.reads → platform_bound (current a.set d) name ≡ o
led_to {a = a} {b = b} {o = o} name looks p d agrees = same_ok _ o (current a.set d) (current b.set d) (sym (looks (current a.set d)) ∙ p.does (Ok o) refl d agrees)

-- the record's items are so after other calls, where the world before is the same and the worlds that agree agreed
pub of_record_in : {q : Item} (name : List ℕ) (t u v w : ReadsAndWrites) → ((d : DurableWorld) → (current v d).world ≡ (current t d).world) → ((d : DurableWorld) → Agrees d w.reads → Agrees d u.reads) → IsOfRecord t u name q → IsOfRecord v w name q
of_record_in name t u v w same later (inl is) = inl is
of_record_in name t u v w same later (inr h) = inr (h.0, h.1, λ d agrees. ap (bound_to name) (same d) ∙ h.2 d (later d agrees))

module _ {S : Type 0} {sights : Sights S} where
  -- the name was asked for alone
  pub asks_name : {a b : Txn S ReadsAndWrites} (name : List ℕ) → Asks (ask.Bound name) sights a b → AsksOf (IsOfRecord a.set b.set name) sights a b
  asks_name name p = asks_weaker (λ q is. inl is) p

  -- the name, and then the object that it leads to
  pub asks_record : {a b c : Txn S ReadsAndWrites} {id : ObjectId} {f : Act (Option ObjectId)} (name : List ℕ) → ((s : Run) → f s ≡ (Ok (platform_bound s name), s))
      → Asks (ask.Bound name) sights a b → Does sights refusal_fault a b f (Ok (Some id)) → Keeps sights b c → Asks (ask.Object id) sights b c → AsksOf (IsOfRecord a.set c.set name) sights a c
  asks_record {a = a} {b = b} {c = c} {id = id} name looks p does keeps q =
      asks_then (asks_weaker (λ item is. inl is) p) (asks_weaker (λ item is. inr (id, is, λ d agrees. led_to name looks does d (agreed keeps d agrees))) q)

  -- and then nothing more
  pub asks_no_more : {a b c : Txn S ReadsAndWrites} (name : List ℕ) → AsksOf (IsOfRecord a.set b.set name) sights a b → Keeps sights b c → AsksNothing b c → AsksOf (IsOfRecord a.set c.set name) sights a c
  asks_no_more {a = a} {b = b} {c = c} name p keeps n = asks_then (asks_weaker (λ q h. of_record_in name a.set b.set a.set c.set (λ d. refl) (agreed keeps) h) p) (asks_nothing n)

  -- and then the name, or the object that it leads to, once more
  pub asks_again : {a b c : Txn S ReadsAndWrites} {id : ObjectId} (name key : List ℕ) → key ≡ name → ((d : DurableWorld) → Agrees d b.set.reads → bound_to name (current a.set d).world ≡ Some id)
      → AsksOf (IsOfRecord a.set b.set name) sights a b → Keeps sights b c → AsksOf (EitherOf (ask.Bound key) (ask.Object id)) sights b c → AsksOf (IsOfRecord a.set c.set name) sights a c
  asks_again {a = a} {b = b} {c = c} {id = id} name key is leads p keeps q =
      asks_then (asks_weaker (λ item h. of_record_in name a.set b.set a.set c.set (λ d. refl) (agreed keeps) h) p) (asks_weaker either q)
    where
      either : (item : Item) → EitherOf (ask.Bound key) (ask.Object id) item → IsOfRecord a.set c.set name item
      either item (inl e) = inl (e ∙ ap ask.Bound is)
      either item (inr e) = inr (id, e, λ d agrees. leads d (agreed keeps d agrees))

  -- a part in a mode of its own, with the old mode put back
  pub asks_within : {a b c d : Txn S ReadsAndWrites} (Of : ReadsAndWrites → ReadsAndWrites → Item → Type 0) (mode old : Mode) → ((q : Item) → Of (record (a.set) { mode = mode }) c.set q → Of a.set (record (c.set) { mode = old }) q)
      → b.view.now ≡ a.view.now → b.set ≡ record (a.set) { mode = mode } → AsksOf (Of b.set c.set) sights b c → d.view.now ≡ c.view.now → d.set ≡ record (c.set) { mode = old } → AsksOf (Of a.set d.set) sights a d
  asks_within {a = a} {c = c} Of mode old same stays is p stays' is' =
      asks_then (asks_nothing (record { same_view = stays; same_reads = ap (λ (t : ReadsAndWrites). t.reads) is }))
      (asks_then (asks_weaker (λ q h. subst (λ (l : ReadsAndWrites). Of a.set l q) (sym is') (same q (subst (λ (l : ReadsAndWrites). Of l c.set q) is h))) p) (asks_nothing (record { same_view = stays'; same_reads = ap (λ (t : ReadsAndWrites). t.reads) is' })))

  -- that of a session
  pub asks_session : {a b c : Txn S ReadsAndWrites} {id : ObjectId} (name : List ℕ)
      → Asks (ask.Bound (session_name name)) sights a b → Does sights refusal_fault a b (recorded name) (Ok (Some id)) → Keeps sights b c → Asks (ask.Object id) sights b c → AsksOf (IsOfRecord a.set c.set (session_name name)) sights a c
  unfolding recorded
  asks_session name = asks_record (session_name name) (λ s. refl)
