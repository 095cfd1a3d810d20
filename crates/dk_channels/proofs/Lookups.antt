-- What the calls that look for a channel's record do, from the calls that they made.
use Rattle.std.proofs.Common.{◌≡◌, ℕ, Bool, true, false, if◌then◌else◌, Option, Some, None, List, Result, Ok, Err, is_some, refl, subst}
use Rattle.std.specs.Result.{IsErrAnd}
use Rattle.dk_types.specs.declared.number.ObjectId.{ObjectId}
use Rattle.dk_types.specs.declared.item.Item.{Item}
use Rattle.dk_types.specs.declared.item.Read.{Read}
use Rattle.dk_types.specs.declared.fault.AppFault.TheVariants.{Refused}
use Rattle.dk_model.specs.declared.records.ChannelRecord.{ChannelRecord}
use Rattle.dk_model.specs.declared.records.Delivery.{Delivery}
use Rattle.dk_model.specs.Runs as act
use Rattle.dk_model.specs.Runs.{Run, Act, and_then, give, refuse}
use Rattle.dk_model.specs.References.{get_as}
use Rattle.dk_model.specs.Records.{CHANNEL_KIND, channel_of, channel_name, is_name_too_long}
use Rattle.dk_model.specs.Platforms.{platform_bound, found_as, channel_under, get_channel, new_channel}
use Rattle.dk_overlay.specs.ReadsAndWrites.{ReadsAndWrites}
use Rattle.dk_txn.specs.declared.refusal.Refusal.{Refusal}
use Rattle.dk_txn.specs.declared.refusal.Refusal.TheVariants as refusal
use Rattle.dk_txn.specs.declared.txn.Txn.{Txn}
use Rattle.dk_txn.specs.Bindings.{binding}
use Rattle.dk_txn.specs.Refusals.{refusal_fault}
use Rattle.dk_txn.specs.Does.{Does}
use Rattle.dk_txn.proofs.Kit.{then_does, give_does, does_as, stops}
use Rattle.dk_txn.proofs.ObjectCalls.{refused_here}
use Rattle.dk_refs.proofs.Calls.{answered_here}
use Rattle.dk_channels.specs.Channels.{recorded, recording}
use Rattle.dk_txn.specs.Sights.{Sights}

-- what follows where the name of a new channel was looked up
abbrev after_name : List ℕ → Bool → Delivery → Option ObjectId → Act (Unit {0})
after_name name listener delivery o s = if is_some o then refuse 9 s else recording (channel_name name) listener delivery s

means : (name : List ℕ) (listener : Bool) (delivery : Delivery) → is_name_too_long (channel_name name) ≡ false → (s : Run)
    → new_channel name listener delivery s ≡ and_then (binding (channel_name name)) (after_name name listener delivery) s
unfolding new_channel binding and_then
means name listener delivery short s = rw short refl

module _ {S : Type 0} {sights : Sights S} where
  pub recorded_long : {a : Txn S ReadsAndWrites} (name : List ℕ) → is_name_too_long (channel_name name) ≡ true → Does sights refusal_fault a a (recorded name) (Ok None)
  unfolding recorded
  recorded_long name long = answered_here (λ d. rw long refl)

  pub recorded_short : {a b : Txn S ReadsAndWrites} {r : Result (Option ObjectId) Refusal} (name key : List ℕ) → key ≡ channel_name name → is_name_too_long (channel_name name) ≡ false
      → Does sights refusal_fault a b (binding key) r → Does sights refusal_fault a b (recorded name) r
  unfolding recorded binding
  recorded_short {a = a} {b = b} {r = r} name key is short p = does_as (binding (channel_name name)) (λ s. rw short refl) (subst (λ k. Does sights refusal_fault a b (binding k) r) is p)

  -- the record is looked for, and what follows is by what was found
  pub looked : {a b c : Txn S ReadsAndWrites} {B : Type 0} {f : Act B} {o : Option ObjectId} {r : Result B Refusal} (name : List ℕ) (g : Option ObjectId → Act B)
      → ((s : Run) → f s ≡ g (platform_bound s (channel_name name)) s) → Does sights refusal_fault a b (recorded name) (Ok o) → Does sights refusal_fault b c (g o) r → Does sights refusal_fault a c f r
  unfolding recorded and_then
  looked name g same p q = does_as (and_then (recorded name) g) same (then_does g p q)

  pub look_stops : {a b : Txn S ReadsAndWrites} {B : Type 0} {f : Act B} {e : Refusal} {r : Result B Refusal} (name : List ℕ) (g : Option ObjectId → Act B)
      → ((s : Run) → f s ≡ g (platform_bound s (channel_name name)) s) → Does sights refusal_fault a b (recorded name) (Err e) → IsErrAnd r (λ h. h ≡ e) → Does sights refusal_fault a b f r
  unfolding recorded and_then
  look_stops name g same p is = does_as (and_then (recorded name) g) same (stops g p is)

  module _ {a b : Txn S ReadsAndWrites} (name : List ℕ) where
    pub under_stops : {e : Refusal} {r : Result (ObjectId × ChannelRecord) Refusal} → Does sights refusal_fault a b (recorded name) (Err e) → IsErrAnd r (λ h. h ≡ e) → Does sights refusal_fault a b (channel_under name) r
    under_stops p is = look_stops name (λ o. found_as o CHANNEL_KIND channel_of) (λ s. refl) p is

    pub under_none : Does sights refusal_fault a b (recorded name) (Ok None) → Does sights refusal_fault a b (channel_under name) (Err refusal.NameNotBound)
    under_none p = looked name (λ o. found_as o CHANNEL_KIND channel_of) (λ s. refl) p (refused_here (Refused 1) refl (λ d. refl))

    module _ {c : Txn S ReadsAndWrites} {id : ObjectId} (p : Does sights refusal_fault a b (recorded name) (Ok (Some id))) where
      under_some : {r : Result (ObjectId × ChannelRecord) Refusal} → Does sights refusal_fault b c (and_then (get_as CHANNEL_KIND channel_of id) (λ x. give (Ok (id, x)))) r → Does sights refusal_fault a c (channel_under name) r
      under_some q = looked name (λ o. found_as o CHANNEL_KIND channel_of) (λ s. refl) p (does_as _ (λ s. refl) q)

      pub under_halts : {e : Refusal} {r : Result (ObjectId × ChannelRecord) Refusal} → Does sights refusal_fault b c (get_as CHANNEL_KIND channel_of id) (Err e) → IsErrAnd r (λ h. h ≡ e) → Does sights refusal_fault a c (channel_under name) r
      under_halts q is = under_some (stops _ q is)

      pub under_finds : {x : ChannelRecord} → Does sights refusal_fault b c (get_as CHANNEL_KIND channel_of id) (Ok x) → Does sights refusal_fault a c (channel_under name) (Ok (id, x))
      under_finds q = under_some (then_does _ q give_does)

  -- a name that is too long for a channel
  module _ {a : Txn S ReadsAndWrites} {e : Refusal} (name : List ℕ) (told : refusal_fault e ≡ Some (Refused 4)) (long : is_name_too_long (channel_name name) ≡ true) where
    pub get_long : Does sights refusal_fault a a (get_channel name) (Err e)
    unfolding get_channel
    get_long = refused_here (Refused 4) told (λ d. rw long refl)

    pub new_long : (listener : Bool) (delivery : Delivery) → Does sights refusal_fault a a (new_channel name listener delivery) (Err e)
    unfolding new_channel
    new_long listener delivery = refused_here (Refused 4) told (λ d. rw long refl)

  -- a name that is none too long
  module _ {a b : Txn S ReadsAndWrites} (name key : List ℕ) (is : key ≡ channel_name name) (short : is_name_too_long (channel_name name) ≡ false) where
    pub get_halts : {e : Refusal} {r : Result (Unit {0}) Refusal} → Does sights refusal_fault a b (act.bound key) (Err e) → IsErrAnd r (λ h. h ≡ e) → Does sights refusal_fault a b (get_channel name) r
    unfolding get_channel
    get_halts {e = e} p told = does_as (and_then (act.bound (channel_name name)) (λ _. give (Ok tt))) (λ s. rw short refl) (stops _ (subst (λ k. Does sights refusal_fault a b (act.bound k) (Err e)) is p) told)

    pub get_finds : {id : ObjectId} → Does sights refusal_fault a b (act.bound key) (Ok id) → Does sights refusal_fault a b (get_channel name) (Ok tt)
    unfolding get_channel
    get_finds {id = id} p = does_as (and_then (act.bound (channel_name name)) (λ _. give (Ok tt))) (λ s. rw short refl) (then_does _ (subst (λ k. Does sights refusal_fault a b (act.bound k) (Ok id)) is p) give_does)

    module _ (listener : Bool) (delivery : Delivery) where
      pub new_stops : {e : Refusal} {r : Result (Unit {0}) Refusal} → Does sights refusal_fault a b (binding key) (Err e) → IsErrAnd r (λ h. h ≡ e) → Does sights refusal_fault a b (new_channel name listener delivery) r
      new_stops {e = e} p told = does_as _ (means name listener delivery short) (stops _ (subst (λ k. Does sights refusal_fault a b (binding k) (Err e)) is p) told)

      found_then : {c : Txn S ReadsAndWrites} {o : Option ObjectId} {r : Result (Unit {0}) Refusal} → Does sights refusal_fault a b (binding key) (Ok o) → Does sights refusal_fault b c (after_name name listener delivery o) r
          → Does sights refusal_fault a c (new_channel name listener delivery) r
      found_then {o = o} p q = does_as _ (means name listener delivery short) (then_does (after_name name listener delivery) (subst (λ k. Does sights refusal_fault a b (binding k) (Ok o)) is p) q)

      pub new_exists : {id : ObjectId} → Does sights refusal_fault a b (binding key) (Ok (Some id)) → Does sights refusal_fault a b (new_channel name listener delivery) (Err refusal.NameExists)
      new_exists p = found_then p (refused_here (Refused 9) refl (λ d. refl))

      pub new_made : {c : Txn S ReadsAndWrites} {r : Result (Unit {0}) Refusal} → Does sights refusal_fault a b (binding key) (Ok None) → Does sights refusal_fault b c (recording key listener delivery) r → Does sights refusal_fault a c (new_channel name listener delivery) r
      new_made {c = c} {r = r} p q = found_then p (does_as _ (λ s. refl) (subst (λ k. Does sights refusal_fault b c (recording k listener delivery) r) is q))
