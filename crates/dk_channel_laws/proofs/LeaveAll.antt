-- `leave_all` comes to the members' own leaves, one after another.
use Rattle.std.proofs.Common.{◌≡◌, ℕ, false, Some, List, [], ◌∷◌, ◌++◌, Ok, refl, sym, ap, ◌∙◌, inl}
use Rattle.std.specs.FinMap.{get, insert}
use Rattle.dk_types.specs.declared.mode.Mode.TheVariants.{Platform}
use Rattle.dk_types.specs.declared.number.ObjectId.{ObjectId}
use Rattle.dk_types.specs.declared.item.Item.{Item}
use Rattle.dk_types.specs.declared.item.Item.TheVariants as ask
use Rattle.dk_types.specs.declared.job.Session.{Session}
use Rattle.dk_types.specs.Fields.{u8_spelling, u32_spelling}
use Rattle.dk_types.specs.Lists.{list_spelling}
use Rattle.dk_model.specs.Runs.{Run, give, and_then, save, is_too_long}
use Rattle.dk_model.specs.declared.records.ChannelRecord.{ChannelRecord}
use Rattle.dk_model.specs.Records.{CHANNEL_KIND, channel_bytes, channel_of, channel_name}
use Rattle.dk_model.specs.Platforms.{platform_bound, channel_under, records_without, save_each, leave_members, leave_all, members, is_member}
use Rattle.dk_records.specs.RecordLaws.{IsChannelRecord}
use Rattle.dk_channel_laws.specs.LeaveAllLaw.{leave_each, LeaveAllIsEachLeave}
use Rattle.dk_channel_laws.proofs.Steps.{answered, then_was, then_is, within_is, under_was}
use Rattle.dk_channel_laws.proofs.Exact.{session_was, channel_was}
use Rattle.dk_channel_laws.proofs.Objects.{of_session, channel_object}
use Rattle.dk_channel_laws.proofs.Saves.{AreSaved, put_each, holding, inside, channel_is, records_is, save_is, saves_is, ready_saved, ready_channel}
use Rattle.dk_channel_laws.proofs.Leaves.{IsLeaving, emptied, leaves_were}

-- a channel's record with no member is short
emptied_short : (c : ChannelRecord) → is_too_long (channel_bytes (emptied c)) ≡ false
unfolding u8_spelling u32_spelling list_spelling
emptied_short c = refl

module _ (s : Run) (name : List ℕ) (channel : ObjectId) (bound : platform_bound s (channel_name name) ≡ Some channel) (c : ChannelRecord) (there : get s.world.objects channel ≡ Some (channel_object c)) (fits : IsChannelRecord c) where
  -- what the call does with the members
  members_leave : (all : List Session) (u : Run) → c.members ≡ all → leave_members name (channel, c) all (inside s s.world.objects s.touched) ≡ (Ok tt, u) → leave_all name s ≡ (Ok tt, record u { mode = s.mode })
  unfolding leave_all
  members_leave all u are runs =
      let here = inside s s.world.objects s.touched in
      within_is Platform (and_then (channel_under name) (λ c. leave_members name c c.1.members)) s u tt
      (then_is (channel_under name) (λ c. leave_members name c c.1.members) here here (channel, c) (channel_is s name channel bound s.world.objects s.touched c there fits) ∙ ap (λ ms. leave_members name (channel, c) ms here) are ∙ runs)

  -- with members, all records are saved
  some_leave : (m : Session) (ms : List Session) (records : List (ObjectId × List ℕ)) → AreSaved s name s.world.objects (m ∷ ms) records
      → (written : List Item) × (leave_members name (channel, c) (m ∷ ms) (inside s s.world.objects s.touched) ≡ (Ok tt, inside s (put_each records (insert s.world.objects channel (channel_object (emptied c)))) written))
  some_leave m ms records are =
      let here = inside s s.world.objects s.touched in
      let end = channel_object (emptied c) in
      let touched = s.touched ++ ask.Object channel ∷ [] in
      let looks = records_is s name s.world.objects s.touched (m ∷ ms) records are in
      let first = save_is s s.world.objects s.touched channel (channel_bytes (emptied c)) (channel_object c) there (emptied_short c) in
      let ready = ready_channel s.world.objects channel (channel_bytes c) end there records (ready_saved s name s.world.objects (m ∷ ms) records are) in
      let others = saves_is s (insert s.world.objects channel end) touched records ready in
      let saves = then_is (save channel (channel_bytes (emptied c))) (λ _. save_each records) here (inside s (insert s.world.objects channel end) touched) tt first ∙ others.1 in
      (others.0, then_is (records_without name (m ∷ ms)) (λ records. save_each ((channel, channel_bytes (emptied c)) ∷ records)) here here records looks ∙ saves)

  -- the call, and the leaves
  all_leave : (all : List Session) (t : Run) → c.members ≡ all → IsLeaving s name channel s.world.objects c all → leave_each name all s ≡ (Ok tt, t) → (u : Run) × (leave_all name s ≡ (Ok tt, u)) × (u.world ≡ t.world) × (u ≡ record t { touched = u.touched })
  unfolding give
  all_leave [] t are h e =
      let same : s ≡ t = (answered tt tt s t e).1 in
      (s, members_leave [] (inside s s.world.objects s.touched) are refl, ap (λ (v : Run). v.world) same, ap (λ (v : Run). record v { touched = s.touched }) same)
  all_leave (m ∷ ms) t are h e =
      let left = leaves_were s name channel bound (m ∷ ms) s.world.objects s.touched c t h e in
      let some = some_leave m ms left.0 left.2 in
      let u = holding s (put_each left.0 (insert s.world.objects channel (channel_object (emptied c)))) some.0 in
      (u, members_leave (m ∷ ms) (inside s (put_each left.0 (insert s.world.objects channel (channel_object (emptied c)))) some.0) are some.1, ap (λ (v : Run). v.world) (sym left.3), ap (λ (v : Run). record v { touched = some.0 }) (sym left.3))

-- the law
pub leave_all_is_each : LeaveAllIsEachLeave
unfolding members give
leave_all_is_each name all s t bytes found left =
    let p = then_was (channel_under name) (λ c. give (Ok c.1.members)) s s all found in
    let u = under_was CHANNEL_KIND channel_of (channel_name name) s p.1 p.0 p.2 in
    let c : ChannelRecord = p.0.1 in
    let are : c.members ≡ all = (answered c.members all p.1 s p.3).0 in
    let exact = channel_was u.2.object.bytes c (bytes (p.0.0) u.2.object u.2.there) u.2.value in
    let there : get s.world.objects (p.0.0) ≡ Some (channel_object c) = u.2.there ∙ (λ i. Some (record { kind = u.2.of_kind i; bytes = exact.1 i })) in
    all_leave s name (p.0.0) u.1 c there exact.0 all t are
    (record {
      there = there;
      fits = exact.0;
      fit = λ id bs r at read. session_was bs r (bytes id (of_session bs) at) read;
      among = λ x e. ap (λ (ms : List Session). is_member x ms) (sym are) ∙ e;
      out = λ x e. inl (ap (λ (ms : List Session). is_member x ms) are ∙ e);
    })
    left
