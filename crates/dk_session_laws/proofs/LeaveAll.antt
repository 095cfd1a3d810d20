-- `leave_all` leaves the sessions as they were: what it saves of each member's record has the record's own number.
use Rattle.std.proofs.Common.{◌≡◌, ℕ, Bool, true, false, nat_eq, if◌then◌else◌, All, Option, Some, None, List, [], ◌∷◌, Ok, refl, sym, subst, ◌∙◌}
use Rattle.std.specs.List.{cons_option}
use Rattle.dk_types.specs.declared.mode.Mode.{Mode}
use Rattle.dk_types.specs.declared.mode.Mode.TheVariants.{Platform}
use Rattle.dk_types.specs.declared.number.ConnNo.{ConnNo}
use Rattle.dk_types.specs.declared.number.ObjectId.{ObjectId}
use Rattle.dk_types.specs.declared.job.Session.{Session}
use Rattle.dk_types.specs.Names.{IsName}
use Rattle.dk_model.specs.declared.records.SessionRecord.{SessionRecord}
use Rattle.dk_model.specs.declared.records.ChannelRecord.{ChannelRecord}
use Rattle.dk_model.specs.Records.{SESSION_KIND, CHANNEL_KIND, session_bytes, session_of, channel_bytes, channel_of, session_name, channel_name}
use Rattle.dk_model.specs.Runs.{Run, and_then, give, refuse, save, is_too_long, TOO_LONG}
use Rattle.dk_model.specs.References.{get_as}
use Rattle.dk_model.specs.Platforms as does
use Rattle.dk_model.specs.Platforms.{platform_bound, recorded_as, bytes_without, without_it, records_without, save_each, leave_members, without_channel}
use Rattle.dk_session_laws.specs.Sessions.{IsRecord, IsStanding, IsKept, KeepsAt, Keeps}
use Rattle.dk_session_laws.proofs.Ends.{Reads, IsReadAs, ends_give, reads_then, reads_more, reads_give, reads_refuse, reads_as, reads_under}
use Rattle.dk_session_laws.proofs.Kept.{kept_itself}
use Rattle.dk_session_laws.proofs.Keeps.{keeps_on, keeps_inside, stands_in, saves_other}
use Rattle.dk_session_laws.proofs.Calls.{record_read, saves_record, channel_read, still_names}

-- the record of a session, where one was found
abbrev pub IsFound : Run → Option (ObjectId × SessionRecord) → Type 0
IsFound s None = Unit {0}
IsFound s (Some r) = IsReadAs s SESSION_KIND session_of r.0 r.1

found_if : (s : Run) (b : Bool) (id : ObjectId) (r : SessionRecord) → IsReadAs s SESSION_KIND session_of id r → IsFound s (if b then Some (id, r) else None)
found_if s true id r is = is
found_if s false id r is = tt

reads_recorded : (s : Run) (o : Option ObjectId) (conn : ConnNo) → Reads (IsFound s) s (recorded_as o conn)
reads_recorded s None conn = record { so = (refl, tt) }
reads_recorded s (Some id) conn =
    let p : Reads (IsFound s) s (and_then (get_as SESSION_KIND session_of id) (λ r. give (Ok (if nat_eq r.conn.0 conn.0 then Some (id, r) else None)))) = reads_more (reads_as s SESSION_KIND session_of id) (λ r is. reads_give _ (found_if s (nat_eq r.conn.0 conn.0) id r is)) in
    record { so = p.so }

-- a session's record, where it is recorded with its number
pub reads_if_connected : (s : Run) (session : Session) → Reads (IsFound s) s (does.record_if_connected session)
reads_if_connected s session = record { so = (reads_recorded s (platform_bound s (session_name session.name)) session.conn).so }

-- what is to be saved under an id: a session's record, with the number that it has
record IsOne (s : Run) (one : ObjectId × List ℕ) : Type 0 where
  was : SessionRecord
  new : SessionRecord
  at : IsRecord s.world one.0 was
  bytes : session_bytes new ≡ one.1
  number : new.conn.0 ≡ was.conn.0
  names : All IsName new.channels

-- each is such a record
abbrev AreOnes : Run → List (ObjectId × List ℕ) → Type 0
AreOnes s [] = Unit {0}
AreOnes s (one ∷ rest) = IsOne s one × AreOnes s rest

-- the one, if there is one
abbrev IsOneIf : Run → Option (ObjectId × List ℕ) → Type 0
IsOneIf s None = Unit {0}
IsOneIf s (Some one) = IsOne s one

-- so they are once a run left the sessions as they were
ones_onward : (s t : Run) (records : List (ObjectId × List ℕ)) → IsKept s t → AreOnes s records → AreOnes t records
ones_onward s t [] kept are = tt
ones_onward s t (one ∷ rest) kept are =
    let now = kept.same.onward one.0 are.0.was are.0.at in
    (record { was = now.0; new = are.0.new; at = now.1; bytes = are.0.bytes; number = are.0.number ∙ sym now.2; names = are.0.names }, ones_onward s t rest kept are.1)

-- all of them are saved
saves_each : (s : Run) (records : List (ObjectId × List ℕ)) → IsStanding s → AreOnes s records → KeepsAt s (save_each records)
saves_each s [] st are = ends_give tt (kept_itself s st.fresh)
saves_each s (one ∷ rest) st are =
    keeps_on st (subst (λ bytes. KeepsAt s (save one.0 bytes)) are.0.bytes (saves_record s one.0 are.0.was are.0.new st are.0.at are.0.number are.0.names)) (λ _ t stands kept. saves_each t rest stands (ones_onward s t rest kept are.1))

one_more : (s : Run) (first : Option (ObjectId × List ℕ)) (rest : List (ObjectId × List ℕ)) → IsOneIf s first → AreOnes s rest → AreOnes s (cons_option first rest)
one_more s None rest is are = are
one_more s (Some one) rest is are = (is, are)

module _ (s : Run) (st : IsStanding s) (name : List ℕ) where
  -- the record that was found, as it is without the channel
  reads_found_without : (o : Option (ObjectId × SessionRecord)) → IsFound s o → Reads (IsOneIf s) s (without_it name o)
  reads_found_without None found = reads_give None tt
  reads_found_without (Some r) found = by (is_too_long (bytes_without name r.1))
    where
      at : IsRecord s.world r.0 r.1
      at = record_read s r.0 r.1 st found

      by : (b : Bool) → Reads (IsOneIf s) s (if b then refuse TOO_LONG else give (Ok (Some (r.0, bytes_without name r.1))))
      by true = reads_refuse TOO_LONG
      by false = reads_give (Some (r.0, bytes_without name r.1)) (record { was = r.1; new = record (r.1) { channels = without_channel name r.1.channels }; at = at; bytes = refl; number = refl; names = still_names name r.1 at.channels })

  -- those of the members
  reads_without : (members : List Session) → Reads (AreOnes s) s (records_without name members)
  reads_without [] = reads_give [] tt
  reads_without (m ∷ members) =
      reads_more (reads_more (reads_if_connected s m) reads_found_without) (λ first is. reads_more (reads_without members) (λ rest are. reads_give (cons_option first rest) (one_more s first rest is are)))

leaves_members : (s : Run) (name : List ℕ) (c : ObjectId × ChannelRecord) (members : List Session) → IsStanding s → IsReadAs s CHANNEL_KIND channel_of c.0 c.1 → KeepsAt s (leave_members name c members)
leaves_members s name c [] st is = ends_give tt (kept_itself s st.fresh)
leaves_members s name c (m ∷ members) st is =
    reads_then (reads_without s st name (m ∷ members)) (λ records are.
    keeps_on st (saves_other s c.0 (channel_bytes (record (c.1) { members = [] })) st (channel_read s c.0 c.1 is)) (λ _ t stands kept. saves_each t records stands (ones_onward s t records kept are)))

-- `leave_all`
pub keeps_leave_all : {mode : Mode} (name : List ℕ) → Keeps mode (does.leave_all name)
unfolding does.leave_all
keeps_leave_all name = record {
  at = λ s m st.
      let inside = stands_in {s = s} Platform st in
      keeps_inside Platform (reads_then (reads_under (record s { mode = Platform }) (channel_name name) CHANNEL_KIND channel_of) (λ c under. leaves_members (record s { mode = Platform }) name c c.1.members inside under.value));
}
