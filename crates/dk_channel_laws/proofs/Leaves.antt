-- The leaves of a channel's members, one after another, come to the saving of all their records at once.
use Rattle.std.proofs.Common.{◌≡◌, ◌⊎◌, ℕ, true, false, nat_eq, Some, List, [], ◌∷◌, Ok, refl, sym, ap, subst, ◌∙◌, inl, inr, arith}
use Rattle.std.specs.FinMap.{get, insert}
use Rattle.dk_types.specs.declared.number.ObjectId.{ObjectId}
use Rattle.dk_types.specs.declared.object.Object.{Object}
use Rattle.dk_types.specs.declared.item.Item.{Item}
use Rattle.dk_types.specs.declared.job.Session.{Session}
use Rattle.dk_model.specs.Runs.{Run, give, is_too_long}
use Rattle.dk_model.specs.declared.records.SessionRecord.{SessionRecord}
use Rattle.dk_model.specs.declared.records.ChannelRecord.{ChannelRecord}
use Rattle.dk_model.specs.Records.{SESSION_KIND, CHANNEL_KIND, session_bytes, session_of, channel_bytes, session_name, channel_name}
use Rattle.dk_model.specs.Platforms.{platform_bound, is_member, bytes_without, leave}
use Rattle.dk_model.proofs.Maps.{some_is}
use Rattle.dk_records.specs.RecordLaws.{IsSessionRecord, IsChannelRecord}
use Rattle.dk_channel_laws.specs.LeaveAllLaw.{leave_each}
use Rattle.dk_channel_laws.proofs.Steps.{answered, then_was}
use Rattle.dk_channel_laws.proofs.Exact.{session_again, without, without_fits, without_again, lacking, lacking_fits}
use Rattle.dk_channel_laws.proofs.Members.{not_both_ways, first_is, later_is, first_or_later, left_was, left_or_taken}
use Rattle.dk_channel_laws.proofs.Objects.{Objects, of_session, session_object, channel_object, set_here, set_other, set_as_is, set_again, one_or_other, no_session}
use Rattle.dk_channel_laws.proofs.Saves.{Has, AreSaved, saved_more, put_each, holding, leave_was}

-- each record of a session fits, wherever it stands
abbrev pub AllFit : Objects → Type 0
AllFit objects = (id : ObjectId) (bytes : List ℕ) (r : SessionRecord) → get objects id ≡ Some (of_session bytes) → session_of bytes ≡ Some r → IsSessionRecord r

-- the session has left: its record is there as it is without the channel
abbrev pub IsOut : Run → List ℕ → Objects → Session → Type 0
IsOut s name objects m = (id : ObjectId) × (r : SessionRecord) × Has s objects m id r × (is_too_long (bytes_without name r) ≡ false) × (get objects id ≡ Some (session_object (without name r)))

-- the channel's record with no member
abbrev pub emptied : ChannelRecord → ChannelRecord
emptied c = record c { members = [] }

same_bytes : (a b : List ℕ) → Some (of_session a) ≡ Some (of_session b) → a ≡ b
same_bytes a b e = ap (λ (o : Object). o.bytes) (some_is (of_session a) (of_session b) e)

no_kind : {A : Type 0} (a b : List ℕ) → Some (record { kind = CHANNEL_KIND; bytes = a }) ≡ Some (of_session b) → A
no_kind a b e =
    let kinds : CHANNEL_KIND ≡ SESSION_KIND = ap (λ (o : Object). o.kind) (some_is (record { kind = CHANNEL_KIND; bytes = a }) (of_session b) e) in
    absurd (omega (arith, kinds))

-- ---- the objects after one leave

module _ (s : Run) (name : List ℕ) (channel : ObjectId) (objects : Objects) (c : ChannelRecord) (m : Session) (id : ObjectId) (r : SessionRecord) (there : get objects channel ≡ Some (channel_object c)) (has : Has s objects m id r) (fit : AllFit objects) where
  -- the channel's record lacks the session, and the session's the channel
  abbrev pub after : Objects
  after = insert (insert objects channel (channel_object (lacking m c))) id (session_object (without name r))

  -- the two are apart
  pub apart : channel ≡ id → ⊥
  apart = no_session objects channel id (channel_bytes c) has.bytes there has.there

  fits : IsSessionRecord (without name r)
  fits = without_fits name r (fit id has.bytes r has.there has.read)

  -- the channel's record
  pub channel_after : get after channel ≡ Some (channel_object (lacking m c))
  channel_after = set_other (insert objects channel (channel_object (lacking m c))) id (session_object (without name r)) channel (λ e. apart (sym e)) ∙ set_here objects channel (channel_object (lacking m c))

  -- a session's object is the one that was written, or was there
  session_after : (q : ObjectId) (bytes : List ℕ) → get after q ≡ Some (of_session bytes) → ((q ≡ id) × (session_bytes (without name r) ≡ bytes)) ⊎ (get objects q ≡ Some (of_session bytes))
  session_after q bytes e = elim (one_or_other id q) [
    | inl same ↦ inl (same, same_bytes (session_bytes (without name r)) bytes (sym (set_here (insert objects channel (channel_object (lacking m c))) id (session_object (without name r))) ∙ ap (get after) (sym same) ∙ e))
    | inr other ↦
        let was : get (insert objects channel (channel_object (lacking m c))) q ≡ Some (of_session bytes) = sym (set_other (insert objects channel (channel_object (lacking m c))) id (session_object (without name r)) q other) ∙ e in
        elim (one_or_other channel q) [
          | inl same ↦ no_kind (channel_bytes (lacking m c)) bytes (sym (set_here objects channel (channel_object (lacking m c))) ∙ ap (get (insert objects channel (channel_object (lacking m c)))) (sym same) ∙ was)
          | inr not_channel ↦ inr (sym (set_other objects channel (channel_object (lacking m c)) q not_channel) ∙ was)
        ]
  ]

  -- another session's object is as it was
  session_stays : (q : ObjectId) (bytes : List ℕ) → get objects q ≡ Some (of_session bytes) → (id ≡ q → ⊥) → get after q ≡ Some (of_session bytes)
  session_stays q bytes e other =
      set_other (insert objects channel (channel_object (lacking m c))) id (session_object (without name r)) q other
      ∙ set_other objects channel (channel_object (lacking m c)) q (no_session objects channel q (channel_bytes c) bytes there e) ∙ e

  -- what is read of the record that was written
  written_is : (bytes : List ℕ) (x : SessionRecord) → session_bytes (without name r) ≡ bytes → session_of bytes ≡ Some x → without name r ≡ x
  written_is bytes x same read = some_is (without name r) x (sym (session_again (without name r) fits) ∙ ap session_of same ∙ read)

  -- each record fits still
  pub fit_after : AllFit after
  fit_after q bytes x at read = elim (session_after q bytes at) [
    | inl p ↦ subst IsSessionRecord (written_is bytes x p.1 read) fits
    | inr was ↦ fit q bytes x was read
  ]

  -- a session that has a record had one, and without the channel the two are alike
  has_back : (x : Session) (q : ObjectId) (y : SessionRecord) → Has s after x q y → (z : SessionRecord) × Has s objects x q z × (bytes_without name z ≡ bytes_without name y)
  has_back x q y h = elim (session_after q h.bytes h.there) [
    | inl p ↦
        let same = written_is h.bytes y p.1 h.read in (
          r,
          record { bound = h.bound; bytes = has.bytes; there = ap (get objects) p.0 ∙ has.there; read = has.read; number = ap (λ (z : SessionRecord). nat_eq z.conn.0 x.conn.0) same ∙ h.number },
          sym (ap session_bytes (without_again name r)) ∙ ap (bytes_without name) same,
        )
    | inr was ↦ (y, record { bound = h.bound; bytes = h.bytes; there = was; read = h.read; number = h.number }, refl)
  ]

  -- the records that are to be saved are those of before
  pub saved_back : (ms : List Session) (records : List (ObjectId × List ℕ)) → AreSaved s name after ms records → AreSaved s name objects ms records
  saved_back [] records are = are
  saved_back (x ∷ ms) records are =
      let was = has_back x are.0 are.1 are.3 in
      (are.0, was.0, are.2, was.1, ap is_too_long was.2 ∙ are.4, are.5 ∙ ap (λ (bytes : List ℕ). (are.0, bytes) ∷ are.2) (sym was.2), saved_back ms are.2 are.6)

  module _ (short : is_too_long (bytes_without name r) ≡ false) where
    -- whoever has the record that was written is out
    out_here : (x : Session) → platform_bound s (session_name x.name) ≡ Some id → nat_eq r.conn.0 x.conn.0 ≡ true → IsOut s name after x
    out_here x bound number =
        let here = set_here (insert objects channel (channel_object (lacking m c))) id (session_object (without name r)) in (
          id,
          without name r,
          record { bound = bound; bytes = session_bytes (without name r); there = here; read = session_again (without name r) fits; number = number },
          ap (λ (z : SessionRecord). is_too_long (session_bytes z)) (without_again name r) ∙ short,
          here ∙ ap (λ (z : SessionRecord). Some (session_object z)) (sym (without_again name r)),
        )

    -- the session is out
    pub out_now : IsOut s name after m
    out_now = out_here m has.bound has.number

    -- who was out is so still
    pub out_still : (x : Session) → IsOut s name objects x → IsOut s name after x
    out_still x out = elim (one_or_other id (out.0)) [
      | inl same ↦
          let bytes : out.2.bytes ≡ has.bytes = same_bytes out.2.bytes has.bytes (sym out.2.there ∙ ap (get objects) same ∙ has.there) in
          let one : out.1 ≡ r = some_is (out.1) r (sym out.2.read ∙ ap session_of bytes ∙ has.read) in
          out_here x (out.2.bound ∙ ap (λ (i : ObjectId). Some i) same) (ap (λ (z : SessionRecord). nat_eq z.conn.0 x.conn.0) (sym one) ∙ out.2.number)
      | inr other ↦ (
        out.0,
        out.1,
        record { bound = out.2.bound; bytes = out.2.bytes; there = session_stays (out.0) out.2.bytes out.2.there other; read = out.2.read; number = out.2.number },
        out.3,
        session_stays (out.0) (session_bytes (without name (out.1))) out.4 other,
      )
    ]

-- ---- all leaves

nobody : (members : List Session) → ((x : Session) → is_member x members ≡ true → is_member x [] ≡ true) → [] ≡ members
nobody [] h = refl
nobody (x ∷ xs) h = not_both_ways false (h x (first_is x xs)) refl

-- the run that was reached, with its objects said otherwise
reached : (s t : Run) (records : List (ObjectId × List ℕ)) (written : List Item) (a b : Objects) → t ≡ holding s (put_each records a) written → a ≡ b → t ≡ holding s (put_each records b) written
reached s t records written a b e same = e ∙ ap (λ (objects : Objects). holding s (put_each records objects) written) same

-- of these sessions, which are to leave one after another, each is a member or out, and no other is a member
pub record IsLeaving (s : Run) (name : List ℕ) (channel : ObjectId) (objects : Objects) (c : ChannelRecord) (ms : List Session) : Type 0 where
  pub there : get objects channel ≡ Some (channel_object c)
  pub fits : IsChannelRecord c
  pub fit : AllFit objects
  pub among : (x : Session) → is_member x c.members ≡ true → is_member x ms ≡ true
  pub out : (x : Session) → is_member x ms ≡ true → (is_member x c.members ≡ true) ⊎ IsOut s name objects x

module _ (s : Run) (name : List ℕ) (channel : ObjectId) (c : ChannelRecord) (objects : Objects) (m : Session) (ms : List Session) (h : IsLeaving s name channel objects c (m ∷ ms)) where
  -- behind a member that left
  leaving_after : (id : ObjectId) (r : SessionRecord) (has : Has s objects m id r) → is_too_long (bytes_without name r) ≡ false → IsLeaving s name channel (after s name channel objects c m id r h.there has h.fit) (lacking m c) ms
  leaving_after id r has short = record {
    there = channel_after s name channel objects c m id r h.there has h.fit;
    fits = lacking_fits m c h.fits;
    fit = fit_after s name channel objects c m id r h.there has h.fit;
    among = λ x e.
        let was = left_was x m c.members e in
        elim (first_or_later x m ms (h.among x was.0)) [
          | inl same ↦ absurd (was.1 same)
          | inr later ↦ later
        ];
    out = λ x e. elim (h.out x (later_is x m ms e)) [
      | inl member ↦ elim (left_or_taken x m c.members member) [
        | inl same ↦ inr (subst (IsOut s name (after s name channel objects c m id r h.there has h.fit)) (sym same) (out_now s name channel objects c m id r h.there has h.fit short))
        | inr still ↦ inl still
      ]
      | inr out ↦ inr (out_still s name channel objects c m id r h.there has h.fit short x out)
    ];
  }

  -- behind one that was out
  leaving_still : is_member m c.members ≡ false → IsLeaving s name channel objects c ms
  leaving_still none = record {
    there = h.there;
    fits = h.fits;
    fit = h.fit;
    among = λ x e. elim (first_or_later x m ms (h.among x e)) [
      | inl same ↦ not_both_ways (is_member m c.members) (ap (λ (y : Session). is_member y c.members) (sym same) ∙ e) none
      | inr later ↦ later
    ];
    out = λ x e. h.out x (later_is x m ms e);
  }

module _ (s : Run) (name : List ℕ) (channel : ObjectId) (bound : platform_bound s (channel_name name) ≡ Some channel) where
  -- where none of the leaves was refused, all records were saved, and the channel's with no member
  pub leaves_were : (ms : List Session) (objects : Objects) (touched : List Item) (c : ChannelRecord) (t : Run) → IsLeaving s name channel objects c ms → leave_each name ms (holding s objects touched) ≡ (Ok tt, t)
      → (records : List (ObjectId × List ℕ)) × (written : List Item) × AreSaved s name objects ms records × (t ≡ holding s (put_each records (insert objects channel (channel_object (emptied c)))) written)
  unfolding give
  leaves_were [] objects touched c t h e =
      let none : Some (channel_object c) ≡ Some (channel_object (emptied c)) = ap (λ (members : List Session). Some (channel_object (record c { members = members }))) (sym (nobody c.members h.among)) in
      ([], touched, refl, sym (answered tt tt (holding s objects touched) t e).1 ∙ ap (λ (os : Objects). holding s os touched) (sym (set_as_is objects channel (channel_object (emptied c)) (h.there ∙ none))))
  leaves_were (m ∷ ms) objects touched c t h e =
      let p = then_was (leave name m) (λ _. leave_each name ms) (holding s objects touched) t tt e in
      let w = leave_was s name channel bound objects touched c m p.1 h.there h.fits p.2 in
      elim w.3 [
        | inl l ↦
            let now = after s name channel objects c m w.0 w.1 h.there w.2 h.fit in
            let next : leave_each name ms (holding s now l.2.0) ≡ (Ok tt, t) = ap (leave_each name ms) (sym l.2.1) ∙ p.3 in
            let rest = leaves_were ms now l.2.0 (lacking m c) t (leaving_after s name channel c objects m ms h w.0 w.1 w.2 l.1) next in
            let order = set_again objects channel w.0 (channel_object (lacking m c)) (session_object (without name w.1)) (channel_object (emptied c)) (apart s name channel objects c m w.0 w.1 h.there w.2 h.fit) in (
              (w.0, bytes_without name w.1) ∷ rest.0,
              rest.1,
              saved_more s name objects m ms w.0 w.1 rest.0 w.2 l.1 (saved_back s name channel objects c m w.0 w.1 h.there w.2 h.fit ms rest.0 rest.2),
              reached s t rest.0 rest.1 (insert now channel (channel_object (emptied c))) (insert (insert objects channel (channel_object (emptied c))) w.0 (session_object (without name w.1))) rest.3 order,
            )
        | inr l ↦
            let next : leave_each name ms (holding s objects touched) ≡ (Ok tt, t) = ap (leave_each name ms) (sym l.1) ∙ p.3 in
            let rest = leaves_were ms objects touched c t (leaving_still s name channel c objects m ms h l.0) next in
            elim (h.out m (first_is m ms)) [
              | inl member ↦ not_both_ways (is_member m c.members) member l.0
              | inr out ↦
                  let end = channel_object (emptied c) in
                  let not_channel = no_session objects channel (out.0) (channel_bytes c) out.2.bytes h.there out.2.there in
                  let as_is = set_as_is (insert objects channel end) (out.0) (session_object (without name (out.1))) (set_other objects channel end (out.0) not_channel ∙ out.4) in (
                    (out.0, bytes_without name (out.1)) ∷ rest.0,
                    rest.1,
                    saved_more s name objects m ms (out.0) (out.1) rest.0 out.2 out.3 rest.2,
                    reached s t rest.0 rest.1 (insert objects channel end) (insert (insert objects channel end) (out.0) (session_object (without name (out.1)))) rest.3 (sym as_is),
                  )
            ]
      ]
