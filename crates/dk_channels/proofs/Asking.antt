-- What the calls that look at a channel's record ask for.
use Rattle.std.proofs.Common.{◌≡◌, inl, inr, ℕ, Some, List, Ok, refl, sym, ap, subst}
use Rattle.dk_types.specs.declared.number.ObjectId.{ObjectId}
use Rattle.dk_types.specs.declared.item.Item.{Item}
use Rattle.dk_types.specs.declared.item.Item.TheVariants as ask
use Rattle.dk_types.specs.declared.job.Session.{Session}
use Rattle.dk_model.specs.declared.records.ChannelRecord.{ChannelRecord}
use Rattle.dk_model.specs.declared.records.SessionRecord.{SessionRecord}
use Rattle.dk_model.specs.DurableWorlds.{DurableWorld}
use Rattle.dk_model.specs.Records.{CHANNEL_KIND, channel_of, channel_name, session_name}
use Rattle.dk_model.specs.Runs.{Run}
use Rattle.dk_model.specs.Platforms.{channel_under, own_record}
use Rattle.dk_overlay.specs.ReadsAndWrites.{ReadsAndWrites}
use Rattle.dk_txn.specs.Current.{current}
use Rattle.dk_txn.specs.declared.txn.Txn.{Txn}
use Rattle.dk_txn.specs.Refusals.{refusal_fault}
use Rattle.dk_txn.specs.Sights.{Sights}
use Rattle.dk_txn.specs.Asks.{Asks, AsksOf, EitherOf}
use Rattle.dk_txn.specs.Does.{Does, Keeps, SameChanges}
use Rattle.dk_txn.proofs.Asking.{asks_then, asks_weaker}
use Rattle.dk_txn.proofs.Kit.{agreed, keeps_then}
use Rattle.dk_refs.specs.RecordAsks.{IsOfRecord}
use Rattle.dk_refs.specs.Telling.{bound_to}
use Rattle.dk_refs.proofs.RecordAsks.{asks_record, of_record_in}
use Rattle.dk_refs.proofs.Standing.{stands, record_leads, own_record_leads}
use Rattle.dk_refs.proofs.Tellings.{current_same}
use Rattle.dk_channels.specs.Channels.{recorded}
use Rattle.dk_channels.specs.BothAsks.{HadRecord, IsOfBoth}

-- the name, and then the record
pub asks_channel : {S : Type 0} {sights : Sights S} {a b c : Txn S ReadsAndWrites} {id : ObjectId} (name : List ℕ)
    → Asks (ask.Bound (channel_name name)) sights a b → Does sights refusal_fault a b (recorded name) (Ok (Some id)) → Keeps sights b c → Asks (ask.Object id) sights b c → AsksOf (IsOfRecord a.set c.set (channel_name name)) sights a c
unfolding recorded
asks_channel name = asks_record (channel_name name) (λ s. refl)

module _ {S : Type 0} {sights : Sights S} (name : List ℕ) (session : Session) where
  -- the items of both records are so after other calls
  of_both_later : {q : Item} (a b c : Txn S ReadsAndWrites) → Keeps sights b c → IsOfBoth a.set b.set name session q → IsOfBoth a.set c.set name session q
  of_both_later a b c keeps (inl h) = inl (of_record_in (channel_name name) a.set b.set a.set c.set (λ d. refl) (agreed keeps) h)
  of_both_later a b c keeps (inr h) =
      inr ((h.0.0, λ d agrees. h.0.1 d (agreed keeps d agrees)), of_record_in (session_name session.name) a.set b.set a.set c.set (λ d. refl) (agreed keeps) h.1)

  -- what was found of the channel was so in every agreeing world
  had_record : {a b c : Txn S ReadsAndWrites} {x : ObjectId × ChannelRecord} → Does sights refusal_fault a b (channel_under name) (Ok x) → Keeps sights b c → HadRecord a.set c.set name
  had_record {a = a} {b = b} {x = x} found keeps = (
    x.1,
    λ d agrees.
        let is = stands CHANNEL_KIND channel_of (current a.set d) (current b.set d) (channel_name name) x (found.does (Ok x) refl d (agreed keeps d agrees)) in
        record { kind = is.has_kind; value = is.has_value },
  )

  -- the channel's record was asked for
  pub asks_first : {a b : Txn S ReadsAndWrites} → AsksOf (IsOfRecord a.set b.set (channel_name name)) sights a b → AsksOf (IsOfBoth a.set b.set name session) sights a b
  asks_first p = asks_weaker (λ q h. inl h) p

  -- and then the session's
  pub asks_second : {a b c : Txn S ReadsAndWrites} {x : ObjectId × ChannelRecord} → Does sights refusal_fault a b (channel_under name) (Ok x) → SameChanges a.set b.set → AsksOf (IsOfRecord a.set b.set (channel_name name)) sights a b
      → Keeps sights b c → AsksOf (IsOfRecord b.set c.set (session_name session.name)) sights b c → AsksOf (IsOfBoth a.set c.set name session) sights a c
  asks_second {a = a} {b = b} {c = c} found same p keeps q =
      asks_then (asks_weaker (λ item h. inl (of_record_in (channel_name name) a.set b.set a.set c.set (λ d. refl) (agreed keeps) h)) p) (asks_weaker second q)
    where
      before : (d : DurableWorld) → (current a.set d).world ≡ (current b.set d).world
      before d = ap (λ s. s.world) (sym (current_same a.set b.set d same))

      second : (item : Item) → IsOfRecord b.set c.set (session_name session.name) item → IsOfBoth a.set c.set name session item
      second item h = inr (had_record found keeps, of_record_in (session_name session.name) b.set c.set a.set c.set before (λ d agrees. agrees) h)

  -- and then the objects of both, once more
  pub asks_both : {a b c e : Txn S ReadsAndWrites} {x : ObjectId × ChannelRecord} {y : ObjectId × SessionRecord}
      → Does sights refusal_fault a b (channel_under name) (Ok x) → SameChanges a.set b.set → AsksOf (IsOfRecord a.set b.set (channel_name name)) sights a b
      → Does sights refusal_fault b c (own_record session) (Ok y) → AsksOf (IsOfRecord b.set c.set (session_name session.name)) sights b c
      → Keeps sights c e → AsksOf (EitherOf (ask.Object x.0) (ask.Object y.0)) sights c e → AsksOf (IsOfBoth a.set e.set name session) sights a e
  asks_both {a = a} {b = b} {c = c} {e = e} {x = x} {y = y} found same p own q keeps r =
      asks_then (asks_weaker (λ item h. of_both_later a c e keeps h) (asks_second found same p own.keeps q)) (asks_weaker either r)
    where
      either : (item : Item) → EitherOf (ask.Object x.0) (ask.Object y.0) item → IsOfBoth a.set e.set name session item
      either item (inl is) = inl (inr (x.0, is, λ d agrees. record_leads CHANNEL_KIND channel_of (channel_name name) x found d (agreed (keeps_then own.keeps keeps) d agrees)))
      either item (inr is) = inr (
        had_record found (keeps_then own.keeps keeps),
        inr (
          y.0,
          is,
          λ d agrees.
              subst (λ (s : Run). bound_to (session_name session.name) s.world ≡ Some y.0) (current_same a.set b.set d same) (own_record_leads session y own d (agreed keeps d agrees)),
        ),
      )
