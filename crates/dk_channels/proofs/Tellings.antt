-- What refusals tell of a channel's record, and of it and a session's.
use Rattle.std.proofs.Common.{◌≡◌, ℕ, ◌+◌, ◌==◌, ◌||◌, arith, nat_lt, nat_eq, Bool, true, false, if◌then◌else◌, Option, Some, None, List, [], ◌∷◌, ◌++◌, length, Result, Ok, Err, refl, sym, ap, subst, ◌∙◌}
use Rattle.std.specs.Result.{IsErrAnd, IfErr}
use Rattle.std.proofs.lemmas.Bool.Decides.{nat_tests}
use Rattle.dk_types.specs.declared.number.ObjectId.{ObjectId}
use Rattle.dk_types.specs.declared.job.Session.{Session}
use Rattle.dk_types.specs.declared.job.Out.{Out}
use Rattle.dk_types.specs.declared.item.Item.{Item}
use Rattle.dk_types.specs.declared.item.Read.{Read}
use Rattle.dk_types.specs.declared.fault.AppFault.{AppFault}
use Rattle.dk_types.specs.declared.fault.AppFault.TheVariants.{Refused}
use Rattle.dk_types.specs.declared.limits.TheConstants.{MESSAGES_MOST_COUNT}
use Rattle.dk_model.specs.declared.records.SessionRecord.{SessionRecord}
use Rattle.dk_model.specs.declared.records.ChannelRecord.{ChannelRecord}
use Rattle.dk_model.specs.DurableWorlds.{DurableWorld, Agrees}
use Rattle.dk_model.specs.Runs as act
use Rattle.dk_model.specs.Runs.{Run, Act, and_then, give, refuse, carry_on}
use Rattle.dk_model.specs.Records.{SESSION_KIND, CHANNEL_KIND, session_of, channel_of, session_name, channel_name, session_bytes, channel_bytes}
use Rattle.dk_model.specs.Platforms as platform
use Rattle.dk_model.specs.Platforms.{platform_bound, channel_under, session_under, own_record, send_each, save_both}
use Rattle.dk_overlay.specs.ReadsAndWrites.{ReadsAndWrites}
use Rattle.dk_txn.specs.Current.{current}
use Rattle.dk_txn.specs.declared.refusal.Refusal.{Refusal}
use Rattle.dk_txn.specs.declared.refusal.Refusal.TheVariants as refusal
use Rattle.dk_txn.specs.declared.txn.Txn.{Txn}
use Rattle.dk_txn.specs.Refusals.{refusal_fault, TellsLength}
use Rattle.dk_txn.specs.Does.{Does, SameChanges, failure}
use Rattle.dk_txn.proofs.Kit.{agreed}
use Rattle.dk_refs.specs.Telling.{TellsKind, TellsKindOf, TellsLengthIn, TellsLengthOf, kind_under, value_under}
use Rattle.dk_refs.proofs.Calls.{passed}
use Rattle.dk_refs.proofs.Tellings.{Avoids, answers, refuses, give_avoids, refuse_avoids, if_avoids, then_avoids, found_as_avoids, save_avoids, kind_found, current_same}
use Rattle.dk_refs.proofs.Standing.{stands, is_other, own_stands}
use Rattle.dk_channels.specs.Channels.{recorded}
use Rattle.dk_channels.specs.BothRecords.{other_kind, kind_of_records, of_both, records_after}
use Rattle.dk_txn.specs.Sights.{Sights}

pub recorded_avoids : (name : List ℕ) (n : ℕ) → Avoids n (recorded name)
unfolding recorded
recorded_avoids name n s t e = answers (platform_bound s (channel_name name)) n s t e

pub under_avoids : (name : List ℕ) → Avoids 4 (channel_under name)
under_avoids name s t e = found_as_avoids (platform_bound s (channel_name name)) CHANNEL_KIND channel_of s t e

session_avoids : (name : List ℕ) → Avoids 4 (session_under name)
session_avoids name s t e = found_as_avoids (platform_bound s (session_name name)) SESSION_KIND session_of s t e

pub own_avoids : (session : Session) → Avoids 4 (own_record session)
own_avoids session = then_avoids (session_avoids session.name) (λ r. if_avoids (nat_eq r.1.conn.0 session.conn.0) (give_avoids 4 r) (refuse_avoids 1 4 (λ e. cc)))

pub each_avoids : (members : List Session) (message : Out) (n : ℕ) → (8 ≡ n → ⊥) → Avoids n (send_each members message)
each_avoids members message n eight s t e = by _ (nat_lt MESSAGES_MOST_COUNT (length s.outs + length members)) e
  where
    by : (new : Run) (b : Bool) → ◌≡◌ {A = Result (Unit {0}) AppFault × Run} (if b then refuse 8 s else (Ok tt, new)) (Err (Refused n), t) → ⊥
    by new true e = refuses 8 n s t eight e
    by new false e = answers tt n new t e

both_avoids : (a b : ObjectId) (x y : List ℕ) → Avoids 3 (save_both a x b y)
both_avoids a b x y = if_avoids (act.is_too_long x || act.is_too_long y) (refuse_avoids 4 3 (λ e. cc)) (then_avoids (save_avoids a x) (λ u. save_avoids b y))

pub join_avoids : (name : List ℕ) (session : Session) (c : ObjectId × ChannelRecord) (r : ObjectId × SessionRecord) → Avoids 3 (platform.join_records name session c r)
join_avoids name session c r = if_avoids (platform.is_member session c.1.members) (give_avoids 3 tt)
    (both_avoids c.0 r.0 (channel_bytes (record (c.1) { members = c.1.members ++ session ∷ [] })) (session_bytes (record (r.1) { channels = r.1.channels ++ name ∷ [] })))

pub leave_avoids : (name : List ℕ) (session : Session) (c : ObjectId × ChannelRecord) (r : ObjectId × SessionRecord) → Avoids 3 (platform.leave_records name session c r)
leave_avoids name session c r = if_avoids (platform.is_member session c.1.members)
    (both_avoids c.0 r.0 (channel_bytes (record (c.1) { members = platform.without_member session c.1.members })) (session_bytes (record (r.1) { channels = platform.without_channel name r.1.channels })))
    (give_avoids 3 tt)

pub first_is : (o second : Option ℕ) (k : ℕ) → o ≡ Some k → (o ≡ Some CHANNEL_KIND → ⊥) → other_kind o second ≡ Some k
first_is None second k e other = cc
first_is (Some j) second k e other = by (j == CHANNEL_KIND) refl
  where
    by : (b : Bool) → (j == CHANNEL_KIND) ≡ b → (if b then second else Some j) ≡ Some k
    by true is = let same : j ≡ CHANNEL_KIND = grind (arith, nat_tests, is) in absurd (other (ap (λ n. Some n) same))
    by false is = e

pub second_is : (o second : Option ℕ) → o ≡ Some CHANNEL_KIND → other_kind o second ≡ second
second_is o second e = ap (λ (o : Option ℕ). other_kind o second) e

-- what a refusal tells of a kind is told so too
kinds_as : (t : ReadsAndWrites) (old new : DurableWorld → Option ℕ) (e : Refusal)
    → ((kind : ℕ) → e ≡ refusal.WrongKind kind → (d : DurableWorld) → Agrees d t.reads → old (current t d).world ≡ Some kind → new (current t d).world ≡ Some kind) → TellsKindOf t old e → TellsKindOf t new e
kinds_as t old new (refusal.WrongKind kind) h told = λ d agrees. h kind refl d agrees (told d agrees)
kinds_as t old new refusal.NameNotBound h told = tt
kinds_as t old new refusal.ObjectNotFound h told = tt
kinds_as t old new (refusal.TooLong len) h told = tt
kinds_as t old new refusal.BadDelay h told = tt
kinds_as t old new refusal.Reserved h told = tt
kinds_as t old new refusal.NoMemory h told = tt
kinds_as t old new refusal.TooMany h told = tt
kinds_as t old new refusal.NameExists h told = tt
kinds_as t old new refusal.BadBytes h told = tt

module _ {S : Type 0} {sights : Sights S} where
  -- the record is of another kind
  pub record_kind : {a b c : Txn S ReadsAndWrites} {id : ObjectId} {A B : Type 0} {f : Act A} {e : Refusal} (r : Result B Refusal) (name : List ℕ) → Does sights refusal_fault a b (recorded name) (Ok (Some id))
      → Does sights refusal_fault b c f (Err e) → SameChanges b.set c.set → TellsKind c.set id e → IsErrAnd r (λ h. h ≡ e) → IfErr r (TellsKindOf c.set (kind_under (channel_name name)))
  unfolding recorded
  record_kind r name p q same told is = kind_found r (channel_name name) p q same told is

  module _ (name : List ℕ) (session : Session) where
    -- the channel's record is of another kind
    pub first_kind : {a b : Txn S ReadsAndWrites} {e : Refusal} (r : Result (Unit {0}) Refusal) → Does sights refusal_fault a b (channel_under name) (Err e) → TellsKindOf b.set (kind_under (channel_name name)) e
        → IsErrAnd r (λ h. h ≡ e) → IfErr r (TellsKindOf b.set (kind_of_records name session))
    first_kind {a = a} {b = b} {e = e} r p told is = passed (TellsKindOf b.set (kind_of_records name session)) e r is (kinds_as b.set (kind_under (channel_name name)) (kind_of_records name session) e by told)
      where
        by : (kind : ℕ) → e ≡ refusal.WrongKind kind → (d : DurableWorld) → Agrees d b.set.reads → kind_under (channel_name name) (current b.set d).world ≡ Some kind → kind_of_records name session (current b.set d).world ≡ Some kind
        by kind is d agrees has =
            let refused : channel_under name (current a.set d) ≡ (Err (Refused 3), current b.set d) = p.does (Err (Refused 3)) (ap (λ (h : Refusal). failure (refusal_fault h)) is) d agrees in
            let o = is_other CHANNEL_KIND channel_of (current a.set d) (current b.set d) (channel_name name) refused in
            first_is (kind_under (channel_name name) (current b.set d).world) _ kind has (λ same. o.other (subst (λ (s : Run). kind_under (channel_name name) s.world ≡ Some CHANNEL_KIND) o.same same))

    module _ {a b : Txn S ReadsAndWrites} {x : ObjectId × ChannelRecord} (p : Does sights refusal_fault a b (channel_under name) (Ok x)) where
      -- the session's record is of another kind
      pub second_kind : {c : Txn S ReadsAndWrites} {e : Refusal} (r : Result (Unit {0}) Refusal) → Does sights refusal_fault b c (own_record session) (Err e) → SameChanges b.set c.set → TellsKindOf c.set (kind_under (session_name session.name)) e
          → IsErrAnd r (λ h. h ≡ e) → IfErr r (TellsKindOf c.set (kind_of_records name session))
      second_kind {c = c} {e = e} r q same told is = passed (TellsKindOf c.set (kind_of_records name session)) e r is (kinds_as c.set (kind_under (session_name session.name)) (kind_of_records name session) e by told)
        where
          by : (kind : ℕ) → e ≡ refusal.WrongKind kind → (d : DurableWorld) → Agrees d c.set.reads → kind_under (session_name session.name) (current c.set d).world ≡ Some kind → kind_of_records name session (current c.set d).world ≡ Some kind
          by kind is d agrees has =
              let h = stands CHANNEL_KIND channel_of (current a.set d) (current b.set d) (channel_name name) x (p.does (Ok x) refl d (agreed q.keeps d agrees)) in
              let now : current c.set d ≡ current a.set d = current_same b.set c.set d same ∙ h.same in
              second_is _ _ (ap (λ (s : Run). kind_under (channel_name name) s.world) now ∙ h.has_kind) ∙ has

      -- both records were found, and one of them would be too long
      pub both_length : {c d : Txn S ReadsAndWrites} {y : ObjectId × SessionRecord} {f : Act (Unit {0})} (r : Result (Unit {0}) Refusal) (after : List ℕ → Session → ChannelRecord → SessionRecord → List ℕ)
          → Does sights refusal_fault b c (own_record session) (Ok y) → Does sights refusal_fault c d f r → IfErr r (TellsLengthIn d.set (after name session x.1 y.1)) → IfErr r (TellsLengthOf a.set d.set (records_after after name session))
      both_length (Ok u) after q h told = tt
      both_length {c = c} {d = d} {y = y} (Err e) after q h told = λ w agrees. subst (λ bytes. TellsLength bytes e) (sym (by w agrees)) (told w agrees)
        where
          by : (w : DurableWorld) → Agrees w d.set.reads → records_after after name session (current a.set w).world ≡ after name session x.1 y.1
          by w agrees =
              let at_b = agreed q.keeps w (agreed h.keeps w agrees) in
              let s = stands CHANNEL_KIND channel_of (current a.set w) (current b.set w) (channel_name name) x (p.does (Ok x) refl w at_b) in
              let o = stands SESSION_KIND session_of (current b.set w) (current c.set w) (session_name session.name) y (own_stands session y (current b.set w) (current c.set w) (q.does (Ok y) refl w (agreed h.keeps w agrees))) in
              let own : value_under session_of (session_name session.name) (current a.set w).world ≡ Some y.1 = ap (λ (t : Run). value_under session_of (session_name session.name) t.world) (sym s.same) ∙ o.has_value in
              ap (λ v. of_both (after name session) v (value_under session_of (session_name session.name) (current a.set w).world)) s.has_value ∙ ap (λ v. of_both (after name session) (Some x.1) v) own
