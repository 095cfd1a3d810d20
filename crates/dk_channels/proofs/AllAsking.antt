-- What the calls that read the records of all members ask for, and what they find.
use Rattle.std.proofs.Common.{◌≡◌, ◌⊎◌, inl, inr, ℕ, ◌+◌, ◌<◌, false, Option, Some, None, option_to_list, List, [], ◌∷◌, ◌++◌, zero, suc, length, get_or, IfSome, Ok, refl, sym, ap, subst, ◌∙◌, arith}
use Rattle.std.specs.List.{AllByRecursion}
use Rattle.dk_types.specs.declared.number.ObjectId.{ObjectId}
use Rattle.dk_types.specs.declared.job.Session.{Session}
use Rattle.dk_types.specs.declared.item.Item.{Item}
use Rattle.dk_types.specs.declared.item.Item.TheVariants as ask
use Rattle.dk_types.specs.declared.mode.Mode.{Mode}
use Rattle.dk_model.specs.declared.records.ChannelRecord.{ChannelRecord}
use Rattle.dk_model.specs.DurableWorlds.{DurableWorld, Agrees}
use Rattle.dk_model.specs.Runs.{Run, is_too_long}
use Rattle.dk_model.specs.Records.{CHANNEL_KIND, session_name, channel_of, channel_name}
use Rattle.dk_model.specs.Platforms.{channel_under, save_each}
use Rattle.dk_overlay.specs.ReadsAndWrites.{ReadsAndWrites}
use Rattle.dk_txn.specs.Current.{current}
use Rattle.dk_txn.specs.declared.txn.Txn.{Txn}
use Rattle.dk_txn.specs.Refusals.{refusal_fault}
use Rattle.dk_txn.specs.Sights.{Sights}
use Rattle.dk_txn.specs.Asks.{AsksOf}
use Rattle.dk_txn.specs.Does.{Keeps, Does, SameChanges, Stands}
use Rattle.dk_txn.specs.Rewritten.{IsObjectOf}
use Rattle.dk_txn.proofs.Asking.{All-join, All-weaker, asks_nothing, asks_then, asks_weaker}
use Rattle.dk_txn.proofs.Kit.{agreed}
use Rattle.dk_txn.proofs.Together.{stands_later}
use Rattle.dk_refs.specs.RecordAsks.{IsOfRecord}
use Rattle.dk_refs.specs.Telling.{bound_to}
use Rattle.dk_refs.proofs.Standing.{stands}
use Rattle.dk_refs.proofs.Tellings.{Avoids, save_avoids, save_short_avoids, give_avoids, then_avoids, current_same}
use Rattle.dk_channels.specs.AllMembers.{members_of, IsOfEach, IsOfChannel, IsOfAll, IsFoundOf, IsFoundAmong}
use Rattle.dk_channels.proofs.Looks.{channel_stands}

-- each saving is refused over no kind, and where the bytes are not too long, over no length
pub save_each_kind : (records : List (ObjectId × List ℕ)) → Avoids 3 (save_each records)
save_each_kind [] = give_avoids 3 tt
save_each_kind (one ∷ rest) = then_avoids (save_avoids one.0 one.1) (λ _. save_each_kind rest)

pub save_each_length : (records : List (ObjectId × List ℕ)) → AllByRecursion (λ p. is_too_long p.1 ≡ false) records → Avoids 4 (save_each records)
save_each_length [] short = give_avoids 4 tt
save_each_length (one ∷ rest) short = then_avoids (save_short_avoids one.0 one.1 short.0) (λ _. save_each_length rest short.1)

module _ {S : Type 0} {sights : Sights S} where
  -- an item of a record is one in the worlds that agree with more reads
  later_record : {b c : Txn S ReadsAndWrites} (start : ReadsAndWrites) (name : List ℕ) (q : Item) → Keeps sights b c → IsOfRecord start b.set name q → IsOfRecord start c.set name q
  later_record start name q k (inl is) = inl is
  later_record start name q k (inr h) = inr (h.0, h.1, λ d agrees. h.2 d (agreed k d agrees))

  later_each : {b c : Txn S ReadsAndWrites} (start : ReadsAndWrites) (members : List Session) (q : Item) → Keeps sights b c → IsOfEach start b.set members q → IsOfEach start c.set members q
  later_each start [] q k h = h
  later_each start (m ∷ members) q k (inl h) = inl (later_record start (session_name m.name) q k h)
  later_each start (m ∷ members) q k (inr h) = inr (later_each start members q k h)

-- and one before nothing was changed
earlier_record : (before start now : ReadsAndWrites) (name : List ℕ) (q : Item) → SameChanges before start → IsOfRecord start now name q → IsOfRecord before now name q
earlier_record before start now name q same (inl is) = inl is
earlier_record before start now name q same (inr h) = inr (h.0, h.1, λ d agrees. ap (λ (s : Run). bound_to name s.world) (sym (current_same before start d same)) ∙ h.2 d agrees)

earlier_each : (before start now : ReadsAndWrites) (members : List Session) (q : Item) → SameChanges before start → IsOfEach start now members q → IsOfEach before now members q
earlier_each before start now [] q same h = h
earlier_each before start now (m ∷ members) q same (inl h) = inl (earlier_record before start now (session_name m.name) q same h)
earlier_each before start now (m ∷ members) q same (inr h) = inr (earlier_each before start now members q same h)

-- of one member, of one of them
of_one : (before after : ReadsAndWrites) (members : List Session) (i : ℕ) (m : Session) (q : Item) → i < length members → m ≡ get_or members i m → IsOfRecord before after (session_name m.name) q → IsOfEach before after members q
of_one before after [] i m q h is of = let none : i < 0 = h in absurd (omega (arith, none))
of_one before after (k ∷ members) zero m q h is of = inl (subst (λ (y : Session). IsOfRecord before after (session_name y.name) q) is of)
of_one before after (k ∷ members) (suc i) m q h is of = inr (of_one before after members i m q (omega (arith, h)) is of)

module _ {S : Type 0} {sights : Sights S} (a : Txn S ReadsAndWrites) {b c : Txn S ReadsAndWrites} (k : Keeps sights b c) (same : SameChanges a.set b.set) (again : SameChanges b.set c.set) (members : List Session) (i : ℕ) (m : Session)
    (more : i < length members) (at : m ≡ get_or members i m) where
  here : (q : Item) → IsOfRecord b.set c.set (session_name m.name) q → IsOfEach a.set c.set members q
  here q h = of_one a.set c.set members i m q more at (earlier_record a.set b.set c.set (session_name m.name) q same h)

  -- one member more is asked for
  pub asks_next : AsksOf (IsOfEach a.set b.set members) sights a b → AsksOf (IsOfRecord b.set c.set (session_name m.name)) sights b c → AsksOf (IsOfEach a.set c.set members) sights a c
  asks_next p q = asks_then (asks_weaker (λ item h. later_each a.set members item k h) p) (asks_weaker here q)

  -- and may have been found
  pub found_next : (found : List (ObjectId × List ℕ)) (one : Option (ObjectId × List ℕ)) → AllByRecursion (IsFoundAmong a.set b.set members) found → IfSome one (IsFoundOf b.set c.set m)
      → AllByRecursion (IsFoundAmong a.set c.set members) (found ++ option_to_list one)
  found_next found one all new =
      All-join (IsFoundAmong a.set c.set members) found (option_to_list one)
      (All-weaker (IsFoundAmong a.set b.set members) (IsFoundAmong a.set c.set members) found (λ p h. (stands_later p.0 k again h.0, later_each a.set members (ask.Object p.0) k h.1, h.2)) all)
      (by one new)
    where
      by : (one : Option (ObjectId × List ℕ)) → IfSome one (IsFoundOf b.set c.set m) → AllByRecursion (IsFoundAmong a.set c.set members) (option_to_list one)
      by None h = tt
      by (Some p) h = ((h.0, here (ask.Object p.0) h.1, h.2), tt)

module _ (start now : ReadsAndWrites) (members : List Session) (id : ObjectId) (payload : List ℕ) (others records : List (ObjectId × List ℕ)) (is : records ≡ (id, payload) ∷ others) (found : AllByRecursion (IsFoundAmong start now members) others) where
  -- what is to be saved stands, and is short
  pub all_stand : Stands now id → AllByRecursion (λ p. Stands now p.0) records
  all_stand stood = subst (λ l. AllByRecursion (λ p. Stands now p.0) l) (sym is) (stood, All-weaker (IsFoundAmong start now members) (λ p. Stands now p.0) others (λ p h. h.0) found)

  pub all_short : is_too_long payload ≡ false → AllByRecursion (λ p. is_too_long p.1 ≡ false) records
  all_short short = subst (λ l. AllByRecursion (λ p. is_too_long p.1 ≡ false) l) (sym is) (short, All-weaker (IsFoundAmong start now members) (λ p. is_too_long p.1 ≡ false) others (λ p h. h.2) found)

  one_of_found : (others : List (ObjectId × List ℕ)) → AllByRecursion (IsFoundAmong start now members) others → (q : Item) → IsObjectOf others q → IsOfEach start now members q
  one_of_found [] all q h = absurd h
  one_of_found (p ∷ others) all q (inl same) = subst (IsOfEach start now members) (sym same) all.0.1
  one_of_found (p ∷ others) all q (inr h) = one_of_found others all.1 q h

  one_of_records : (q : Item) → IsObjectOf ((id, payload) ∷ others) q → IsOfChannel start now id members q
  one_of_records q (inl same) = inl same
  one_of_records q (inr h) = inr (one_of_found others found q h)

  pub of_records : (q : Item) → IsObjectOf records q → IsOfChannel start now id members q
  of_records q h = one_of_records q (subst (λ l. IsObjectOf l q) is h)

module _ {S : Type 0} {sights : Sights S} where
  -- the records were asked for, and then their objects, which are saved
  pub asks_saved : {a b c : Txn S ReadsAndWrites} (members : List Session) (id : ObjectId) (payload : List ℕ) (others records : List (ObjectId × List ℕ)) → records ≡ (id, payload) ∷ others → AllByRecursion (IsFoundAmong a.set b.set members) others
      → Keeps sights b c → AsksOf (IsOfEach a.set b.set members) sights a b → AsksOf (IsObjectOf records) sights b c → AsksOf (IsOfChannel a.set c.set id members) sights a c
  asks_saved {a = a} {b = b} {c = c} members id payload others records is found k p q = asks_then (asks_weaker (λ item h. inr (later_each a.set members item k h)) p) (asks_weaker by q)
    where
      by : (item : Item) → IsObjectOf records item → IsOfChannel a.set c.set id members item
      by item h = later (of_records a.set b.set members id payload others records is found item h)
        where
          later : IsOfChannel a.set b.set id members item → IsOfChannel a.set c.set id members item
          later (inl same) = inl same
          later (inr h) = inr (later_each a.set members item k h)

  module _ {a b c : Txn S ReadsAndWrites} (name : List ℕ) (x : ObjectId × ChannelRecord) (p : Does sights refusal_fault a b (channel_under name) (Ok x)) (same : SameChanges a.set b.set) (k : Keeps sights b c) where
    of_channel : (q : Item) → IsOfChannel b.set c.set x.0 x.1.members q → IsOfAll a.set c.set name q
    of_channel q (inl is) = inl (inr (x.0, is, λ d agrees. channel_stands name x (current a.set d) (current b.set d) (p.does (Ok x) refl d (agreed k d agrees))))
    of_channel q (inr h) = inr (
      x.1.members,
      λ d agrees. ap members_of (stands CHANNEL_KIND channel_of (current a.set d) (current b.set d) (channel_name name) x (p.does (Ok x) refl d (agreed k d agrees))).has_value,
      earlier_each a.set b.set c.set x.1.members q same h,
    )

    -- the channel's record, and then those of its members
    pub asks_all : AsksOf (IsOfRecord a.set b.set (channel_name name)) sights a b → AsksOf (IsOfChannel b.set c.set x.0 x.1.members) sights b c → AsksOf (IsOfAll a.set c.set name) sights a c
    asks_all first then = asks_then (asks_weaker (λ q h. inl (later_record a.set (channel_name name) q k h)) first) (asks_weaker of_channel then)

  -- the mode has no part in it
  pub asks_moded : {a b c d : Txn S ReadsAndWrites} (first last : Mode) (name : List ℕ) → b.view.now ≡ a.view.now → b.set ≡ record (a.set) { mode = first } → AsksOf (IsOfAll b.set c.set name) sights b c
      → d.view.now ≡ c.view.now → d.set ≡ record (c.set) { mode = last } → AsksOf (IsOfAll a.set d.set name) sights a d
  asks_moded {a = a} {b = b} {c = c} {d = d} first last name stays is asks still was =
      asks_then (asks_nothing (record { same_view = stays; same_reads = ap (λ (t : ReadsAndWrites). t.reads) is }))
      (asks_then (asks_weaker (λ q h. subst (λ (t : ReadsAndWrites). IsOfAll a.set t name q) (sym was) (subst (λ (t : ReadsAndWrites). IsOfAll t c.set name q) is h)) asks)
      (asks_nothing (record { same_view = still; same_reads = ap (λ (t : ReadsAndWrites). t.reads) was })))
