-- What a leave did that was not refused, and how the records of `leave_all` are looked at and saved.
use Rattle.std.proofs.Common.{◌≡◌, ◌⊎◌, ℕ, Bool, true, false, ◌||◌, nat_eq, if◌then◌else◌, Some, None, List, [], ◌∷◌, ◌++◌, Ok, refl, sym, ap, subst, ◌∙◌, inl, inr}
use Rattle.std.specs.FinMap.{get, insert}
use Rattle.std.specs.List.{cons_option}
use Rattle.dk_types.specs.declared.mode.Mode.TheVariants.{Platform}
use Rattle.dk_types.specs.declared.number.ObjectId.{ObjectId}
use Rattle.dk_types.specs.declared.object.Object.{Object}
use Rattle.dk_types.specs.declared.item.Item.{Item}
use Rattle.dk_types.specs.declared.item.Item.TheVariants as ask
use Rattle.dk_types.specs.declared.job.Session.{Session}
use Rattle.dk_model.specs.Runs as act
use Rattle.dk_model.specs.Runs.{Run, and_then, give, refuse, save, change_found, is_too_long, TOO_LONG}
use Rattle.dk_model.specs.References.{get_as}
use Rattle.dk_model.specs.declared.records.SessionRecord.{SessionRecord}
use Rattle.dk_model.specs.declared.records.ChannelRecord.{ChannelRecord}
use Rattle.dk_model.specs.Records.{SESSION_KIND, CHANNEL_KIND, session_of, channel_of, channel_bytes, session_name, channel_name}
use Rattle.dk_model.specs.Platforms as does
use Rattle.dk_model.specs.Platforms.{platform_bound, is_member, own_record, channel_under, leave_records, save_both, recorded_as, record_if_connected, bytes_without, without_it, record_without, records_without, save_each}
use Rattle.dk_records.specs.RecordLaws.{IsChannelRecord}
use Rattle.dk_channel_laws.proofs.Steps.{IsRead, answered, refused, then_was, then_is, within_was, get_as_is, under_is, own_was}
use Rattle.dk_channel_laws.proofs.Exact.{channel_again, without, lacking}
use Rattle.dk_channel_laws.proofs.Objects.{Objects, of_session, session_object, channel_object, set_here, set_other, one_or_other, no_session}

-- the run with these objects and these written items
abbrev pub holding : Run → Objects → List Item → Run
holding s objects touched = record s { world = record (s.world) { objects = objects }; touched = touched }

-- the same on the platform's behalf
abbrev pub inside : Run → Objects → List Item → Run
inside s objects touched = record s { world = record (s.world) { objects = objects }; touched = touched; mode = Platform }

-- ---- saving

-- an object that stands is saved
pub save_is : (s : Run) (objects : Objects) (touched : List Item) (id : ObjectId) (bytes : List ℕ) (object : Object) → get objects id ≡ Some object → is_too_long bytes ≡ false
    → save id bytes (inside s objects touched) ≡ (Ok tt, inside s (insert objects id (record { kind = object.kind; bytes = bytes })) (touched ++ ask.Object id ∷ []))
unfolding save
save_is s objects touched id bytes object there short =
    ap (λ b. if b then refuse {A = Unit {0}} TOO_LONG (inside s objects touched) else act.change_object id (λ o. Some (record { kind = o.kind; bytes = bytes })) (inside s objects touched)) short
    ∙ ap (λ o. change_found o id (λ o. Some (record { kind = o.kind; bytes = bytes })) (inside s objects touched)) there

module _ (s : Run) (objects : Objects) (touched : List Item) (a b : ObjectId) (x y : List ℕ) (first second : Object) (t : Run) where
  -- what two saves come to
  abbrev Both : Type 0
  Both = (is_too_long y ≡ false) × ((written : List Item) × (t ≡ inside s (insert (insert objects a (record { kind = first.kind; bytes = x })) b (record { kind = second.kind; bytes = y })) written))

  -- both records were saved
  pub save_both_was : get objects a ≡ Some first → get objects b ≡ Some second → (a ≡ b → ⊥) → save_both a x b y (inside s objects touched) ≡ (Ok tt, t) → Both
  save_both_was at_a at_b apart e = by (is_too_long x) (is_too_long y) refl refl e
    where
      by : (long more : Bool) → is_too_long x ≡ long → is_too_long y ≡ more → (if long || more then refuse TOO_LONG else and_then (save a x) (λ _. save b y)) (inside s objects touched) ≡ (Ok tt, t) → Both
      by true more short too e = refused _ tt (inside s objects touched) t e
      by false true short too e = refused _ tt (inside s objects touched) t e
      by false false short too e =
          let now = insert objects a (record { kind = first.kind; bytes = x }) in
          let one = save_is s objects touched a x first at_a short in
          let two = save_is s now (touched ++ ask.Object a ∷ []) b y second (set_other objects a (record { kind = first.kind; bytes = x }) b apart ∙ at_b) too in
          let runs = then_is (save a x) (λ _. save b y) (inside s objects touched) (inside s now (touched ++ ask.Object a ∷ [])) tt one ∙ two in
          let end = answered tt tt (inside s (insert now b (record { kind = second.kind; bytes = y })) ((touched ++ ask.Object a ∷ []) ++ ask.Object b ∷ [])) t (sym runs ∙ e) in
          (too, ((touched ++ ask.Object a ∷ []) ++ ask.Object b ∷ [], sym end.1))

-- ---- a session's record

-- under the session's name stands this record, with its number
pub record Has (s : Run) (objects : Objects) (m : Session) (id : ObjectId) (r : SessionRecord) : Type 0 where
  pub bound : platform_bound s (session_name m.name) ≡ Some id
  pub bytes : List ℕ
  pub there : get objects id ≡ Some (of_session bytes)
  pub read : session_of bytes ≡ Some r
  pub number : nat_eq r.conn.0 m.conn.0 ≡ true

-- so it stands where it was read
has_own : {s : Run} (objects : Objects) (touched : List Item) (m : Session) (id : ObjectId) (r : SessionRecord) → IsRead (inside s objects touched) SESSION_KIND session_of id r → platform_bound s (session_name m.name) ≡ Some id → nat_eq r.conn.0 m.conn.0 ≡ true → Has s objects m id r
has_own objects touched m id r is bound number =
    record { bound = bound; bytes = is.object.bytes; there = is.there ∙ ap (λ k. Some (record { kind = k; bytes = is.object.bytes })) is.of_kind; read = is.value; number = number }

module _ (s : Run) (name : List ℕ) where
  -- it is looked at
  pub record_without_is : (objects : Objects) (touched : List Item) (m : Session) (id : ObjectId) (r : SessionRecord) → Has s objects m id r → is_too_long (bytes_without name r) ≡ false
      → record_without name m (inside s objects touched) ≡ (Ok (Some (id, bytes_without name r)), inside s objects touched)
  unfolding give
  record_without_is objects touched m id r has short =
      let now = inside s objects touched in
      let read = get_as_is SESSION_KIND session_of id now r (record { object = of_session has.bytes; there = has.there; of_kind = refl; value = has.read }) in
      let found : record_if_connected m now ≡ (Ok (Some (id, r)), now) =
      ap (λ o. recorded_as o m.conn now) has.bound
      ∙ then_is (get_as SESSION_KIND session_of id) (λ r. give (Ok (if nat_eq r.conn.0 m.conn.0 then Some (id, r) else None))) now now r read
      ∙ ap (λ b. (Ok (if b then Some (id, r) else None), now)) has.number in
      then_is (record_if_connected m) (without_it name) now now (Some (id, r)) found
      ∙ ap (λ b. (if b then refuse TOO_LONG else give (Ok (Some (id, bytes_without name r)))) now) short

  -- these are the records of the sessions, as they are without the channel
  abbrev pub AreSaved : Objects → List Session → List (ObjectId × List ℕ) → Type 0
  AreSaved objects [] records = records ≡ []
  AreSaved objects (m ∷ ms) records =
      (id : ObjectId) × (r : SessionRecord) × (rest : List (ObjectId × List ℕ)) × Has s objects m id r × (is_too_long (bytes_without name r) ≡ false) × (records ≡ (id, bytes_without name r) ∷ rest) × AreSaved objects ms rest

  -- one more
  pub saved_more : (objects : Objects) (m : Session) (ms : List Session) (id : ObjectId) (r : SessionRecord) (rest : List (ObjectId × List ℕ)) → Has s objects m id r → is_too_long (bytes_without name r) ≡ false → AreSaved objects ms rest
      → AreSaved objects (m ∷ ms) ((id, bytes_without name r) ∷ rest)
  saved_more objects m ms id r rest has short are = (id, r, rest, has, short, refl, are)

  -- all of them are looked at
  pub records_is : (objects : Objects) (touched : List Item) (ms : List Session) (records : List (ObjectId × List ℕ)) → AreSaved objects ms records → records_without name ms (inside s objects touched) ≡ (Ok records, inside s objects touched)
  unfolding give
  records_is objects touched [] records are = ap (λ (rs : List (ObjectId × List ℕ)). (Ok rs, inside s objects touched)) (sym are)
  records_is objects touched (m ∷ ms) records are =
      let now = inside s objects touched in
      then_is (record_without name m) (λ first. and_then (records_without name ms) (λ rest. give (Ok (cons_option first rest)))) now now (Some (are.0, bytes_without name are.1)) (record_without_is objects touched m are.0 are.1 are.3 are.4)
      ∙ then_is (records_without name ms) (λ rest. give (Ok (cons_option (Some (are.0, bytes_without name are.1)) rest))) now now are.2 (records_is objects touched ms are.2 are.6)
      ∙ ap (λ (rs : List (ObjectId × List ℕ)). (Ok rs, now)) (sym are.5)

-- ---- saving each

-- the objects with these records set
abbrev pub put_each : List (ObjectId × List ℕ) → Objects → Objects
put_each [] objects = objects
put_each (one ∷ rest) objects = put_each rest (insert objects one.0 (of_session one.1))

-- each of them is a session's record, and is to be no longer than an object may be
abbrev pub AreReady : Objects → List (ObjectId × List ℕ) → Type 0
AreReady objects [] = Unit {0}
AreReady objects (one ∷ rest) = (bytes : List ℕ) × (get objects one.0 ≡ Some (of_session bytes)) × (is_too_long one.1 ≡ false) × AreReady objects rest

pub ready_saved : (s : Run) (name : List ℕ) (objects : Objects) (ms : List Session) (records : List (ObjectId × List ℕ)) → AreSaved s name objects ms records → AreReady objects records
ready_saved s name objects [] records are = subst (AreReady objects) (sym are) tt
ready_saved s name objects (m ∷ ms) records are = subst (AreReady objects) (sym are.5) (are.3.bytes, are.3.there, are.4, ready_saved s name objects ms are.2 are.6)

-- so they are once the channel's record is written
pub ready_channel : (objects : Objects) (id : ObjectId) (bytes : List ℕ) (object : Object) → get objects id ≡ Some (record { kind = CHANNEL_KIND; bytes = bytes }) → (records : List (ObjectId × List ℕ)) → AreReady objects records → AreReady (insert objects id object) records
ready_channel objects id bytes object there [] are = tt
ready_channel objects id bytes object there (one ∷ rest) are =
    (are.0, set_other objects id object one.0 (no_session objects id one.0 bytes are.0 there are.1) ∙ are.1, are.2, ready_channel objects id bytes object there rest are.3)

-- and once one of them is
ready_session : (objects : Objects) (id : ObjectId) (bytes : List ℕ) (records : List (ObjectId × List ℕ)) → AreReady objects records → AreReady (insert objects id (of_session bytes)) records
ready_session objects id bytes [] are = tt
ready_session objects id bytes (one ∷ rest) are =
    let still = ready_session objects id bytes rest are.3 in
    elim (one_or_other id one.0) [
      | inl same ↦ (bytes, ap (get (insert objects id (of_session bytes))) same ∙ set_here objects id (of_session bytes), are.2, still)
      | inr apart ↦ (are.0, set_other objects id (of_session bytes) one.0 apart ∙ are.1, are.2, still)
    ]

-- all of them are saved
pub saves_is : (s : Run) (objects : Objects) (touched : List Item) (records : List (ObjectId × List ℕ)) → AreReady objects records → (written : List Item) × (save_each records (inside s objects touched) ≡ (Ok tt, inside s (put_each records objects) written))
unfolding give
saves_is s objects touched [] are = (touched, refl)
saves_is s objects touched (one ∷ rest) are =
    let now = insert objects one.0 (of_session one.1) in
    let first = save_is s objects touched one.0 one.1 (of_session are.0) are.1 are.2 in
    let others = saves_is s now (touched ++ ask.Object one.0 ∷ []) rest (ready_session objects one.0 one.1 rest are.3) in
    (others.0, then_is (save one.0 one.1) (λ _. save_each rest) (inside s objects touched) (inside s now (touched ++ ask.Object one.0 ∷ [])) tt first ∙ others.1)

-- ---- a leave

module _ (s : Run) (name : List ℕ) (channel : ObjectId) (bound : platform_bound s (channel_name name) ≡ Some channel) where
  -- the channel's record is read
  pub channel_is : (objects : Objects) (touched : List Item) (c : ChannelRecord) → get objects channel ≡ Some (channel_object c) → IsChannelRecord c → channel_under name (inside s objects touched) ≡ (Ok (channel, c), inside s objects touched)
  channel_is objects touched c there fits =
      under_is CHANNEL_KIND channel_of (channel_name name) (inside s objects touched) channel c bound (record { object = channel_object c; there = there; of_kind = refl; value = channel_again c fits })

  -- how a member left, or one who is none
  abbrev pub Left : Objects → List Item → ChannelRecord → Session → ObjectId → SessionRecord → Run → Type 0
  Left objects touched c m id r t =
      ((is_member m c.members ≡ true) × (is_too_long (bytes_without name r) ≡ false) × ((written : List Item) × (t ≡ holding s (insert (insert objects channel (channel_object (lacking m c))) id (session_object (without name r))) written)))
      ⊎ ((is_member m c.members ≡ false) × (t ≡ holding s objects touched))

  -- what the saves of a leave did
  left_by : (objects : Objects) (touched : List Item) (c : ChannelRecord) (m : Session) (id : ObjectId) (r : SessionRecord) (u : Run) → get objects channel ≡ Some (channel_object c) → Has s objects m id r
      → leave_records name m (channel, c) (id, r) (inside s objects touched) ≡ (Ok tt, u) → Left objects touched c m id r (record u { mode = s.mode })
  unfolding give
  left_by objects touched c m id r u there has e = by (is_member m c.members) refl e
    where
      by : (b : Bool) → is_member m c.members ≡ b → (if b then save_both channel (channel_bytes (lacking m c)) id (bytes_without name r) else give (Ok tt)) (inside s objects touched) ≡ (Ok tt, u) → Left objects touched c m id r (record u { mode = s.mode })
      by true is e =
          let both = save_both_was s objects touched channel id (channel_bytes (lacking m c)) (bytes_without name r) (channel_object c) (of_session has.bytes) u there has.there (no_session objects channel id (channel_bytes c) has.bytes there has.there) e in
          inl (is, both.0, (both.1.0, ap (λ (v : Run). record v { mode = s.mode }) both.1.1))
      by false is e = inr (is, ap (λ (v : Run). record v { mode = s.mode }) (sym (answered tt tt (inside s objects touched) u e).1))

  -- a leave that was not refused
  pub leave_was : (objects : Objects) (touched : List Item) (c : ChannelRecord) (m : Session) (t : Run) → get objects channel ≡ Some (channel_object c) → IsChannelRecord c → does.leave name m (holding s objects touched) ≡ (Ok tt, t)
      → (id : ObjectId) × (r : SessionRecord) × Has s objects m id r × Left objects touched c m id r t
  unfolding does.leave
  leave_was objects touched c m t there fits e =
      let now = inside s objects touched in
      let w = within_was Platform (and_then (channel_under name) (λ c. and_then (own_record m) (λ r. leave_records name m c r))) (holding s objects touched) t tt e in
      let run : and_then (channel_under name) (λ c. and_then (own_record m) (λ r. leave_records name m c r)) now ≡ and_then (own_record m) (λ r. leave_records name m (channel, c) r) now =
      then_is (channel_under name) (λ c. and_then (own_record m) (λ r. leave_records name m c r)) now now (channel, c) (channel_is objects touched c there fits) in
      let next : and_then (own_record m) (λ r. leave_records name m (channel, c) r) now ≡ (Ok tt, w.0) = sym run ∙ w.1 in
      let p = then_was (own_record m) (λ r. leave_records name m (channel, c) r) now w.0 tt next in
      let own = own_was m now p.1 p.0 p.2 in
      let has = has_own objects touched m (p.0.0) (p.0.1) own.2 own.1 own.3 in
      let done : leave_records name m (channel, c) (p.0) now ≡ (Ok tt, w.0) = ap (leave_records name m (channel, c) (p.0)) (sym own.0) ∙ p.3 in
      (p.0.0, p.0.1, has, subst (Left objects touched c m (p.0.0) (p.0.1)) (sym w.2) (left_by objects touched c m (p.0.0) (p.0.1) w.0 there has done))
