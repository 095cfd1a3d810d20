-- What a message on a channel does, from the look for the channel's record.
use Rattle.std.proofs.Common.{◌≡◌, ℕ, Bool, true, false, not, if◌then◌else◌, ◌==◌, Option, Some, None, List, Result, Ok, Err, refl, sym, ap, ◌∙◌}
use Rattle.std.specs.FinMap as map
use Rattle.std.specs.Result.{IsErrAnd}
use Rattle.dk_types.specs.declared.number.ObjectId.{ObjectId}
use Rattle.dk_types.specs.declared.object.Object.{Object}
use Rattle.dk_types.specs.declared.job.Session.{Session}
use Rattle.dk_types.specs.declared.fault.AppFault.{AppFault}
use Rattle.dk_types.specs.declared.fault.AppFault.TheVariants.{Refused, Game, TooLarge}
use Rattle.dk_model.specs.declared.records.ChannelRecord.{ChannelRecord}
use Rattle.dk_model.specs.DurableWorlds.{DurableWorld, Agrees}
use Rattle.dk_model.specs.Platforms.{platform_bound, found_as, channel_under}
use Rattle.dk_model.specs.Records.{CHANNEL_KIND, channel_of, channel_name}
use Rattle.dk_model.specs.References.{get_as}
use Rattle.dk_model.specs.Runs.{Run, Act, and_then, carry_on, give, found, refuse, WRONG_KIND, BAD_BYTES, NAME_NOT_BOUND}
use Rattle.dk_model.specs.Runs as act
use Rattle.dk_model.specs.Steps.{channel_found, channel_message, heard}
use Rattle.dk_overlay.specs.ReadsAndWrites.{ReadsAndWrites}
use Rattle.dk_txn.specs.Current.{current}
use Rattle.dk_overlay.proofs.Tests.{Some_injective}
use Rattle.dk_txn.specs.declared.refusal.Refusal.{Refusal}
use Rattle.dk_txn.specs.declared.refusal.Refusal.TheVariants as refusal
use Rattle.dk_txn.specs.declared.txn.Txn.{Txn}
use Rattle.dk_txn.specs.Does.{Does, failure}
use Rattle.dk_txn.specs.Refusals.{refusal_fault}
use Rattle.dk_txn.proofs.Kit.{keeps_then, agreed}
use Rattle.dk_game.specs.declared.halt.Halt.{Halt}
use Rattle.dk_game.specs.Halted.{halt_fault}
use Rattle.dk_txn.specs.Sights.{Sights}

-- whether a fault is that of a name that is not bound
abbrev is_unbound : AppFault → Bool
is_unbound (Refused n) = n == NAME_NOT_BOUND
is_unbound (Game code) = false
is_unbound TooLarge = false

abbrev is_other : {A : Type 0} → Result A AppFault → Bool
is_other (Ok x) = true
is_other (Err fault) = not (is_unbound fault)

found_other : {A : Type 0} (o : Option A) → is_other (found BAD_BYTES o) ≡ true
found_other None = refl
found_other (Some x) = refl

abbrev answer_of : {A : Type 0} → Result A AppFault × Run → Result A AppFault
answer_of q = q.0

kind_other : {A : Type 0} (t : Bool) (o : Option A) (s : Run) → is_other (answer_of (if t then (found BAD_BYTES o, s) else refuse WRONG_KIND s)) ≡ true
kind_other true o s = found_other o
kind_other false o s = refl

-- a look at an object's value does not fail over a name
value_other : {A : Type 0} (kind : ℕ) (read : List ℕ → Option A) (o : Option Object) (s : Run)
    → is_other (answer_of (carry_on (found act.OBJECT_NOT_FOUND o) (λ object s. if object.kind == kind then (found BAD_BYTES (read object.bytes), s) else refuse WRONG_KIND s) s)) ≡ true
value_other kind read None s = refl
value_other kind read (Some object) s = kind_other (object.kind == kind) (read object.bytes) s

get_other : {A : Type 0} (kind : ℕ) (read : List ℕ → Option A) (id : ObjectId) (s : Run) → is_other (answer_of (get_as kind read id s)) ≡ true
unfolding get_as and_then act.get
get_other kind read id s = value_other kind read (map.get s.world.objects id) s

-- no other refusal is told as that one
other_fault : (e : Refusal) (fault : AppFault) → (e ≡ refusal.NameNotBound → ⊥) → refusal_fault e ≡ Some fault → not (is_unbound fault) ≡ true
other_fault refusal.NameNotBound fault other is = absurd (other refl)
other_fault refusal.ObjectNotFound fault other is = ap (λ f. not (is_unbound f)) (sym (Some_injective _ _ is))
other_fault (refusal.WrongKind kind) fault other is = ap (λ f. not (is_unbound f)) (sym (Some_injective _ _ is))
other_fault (refusal.TooLong len) fault other is = ap (λ f. not (is_unbound f)) (sym (Some_injective _ _ is))
other_fault refusal.BadDelay fault other is = ap (λ f. not (is_unbound f)) (sym (Some_injective _ _ is))
other_fault refusal.Reserved fault other is = ap (λ f. not (is_unbound f)) (sym (Some_injective _ _ is))
other_fault refusal.NoMemory fault other is = cc
other_fault refusal.TooMany fault other is = ap (λ f. not (is_unbound f)) (sym (Some_injective _ _ is))
other_fault refusal.NameExists fault other is = ap (λ f. not (is_unbound f)) (sym (Some_injective _ _ is))
other_fault refusal.BadBytes fault other is = ap (λ f. not (is_unbound f)) (sym (Some_injective _ _ is))

module _ (session : Session) (channel body : List ℕ) (game : Act (Unit {0})) where
  abbrev so : Result (Unit {0}) AppFault → Run → Result (Unit {0}) AppFault × Run
  so r s = (r, s)

  -- what follows the look for the channel's record
  abbrev after : Result (ObjectId × ChannelRecord) AppFault → Run → Result (Unit {0}) AppFault × Run
  after (Ok r) s = heard session channel body game r.1 s
  after (Err fault) s = if is_unbound fault then so (Ok tt) s else so (Err fault) s

  stops_so : (fault : AppFault) (t : Bool) (s : Run) → not t ≡ true → (if t then so (Ok tt) s else so (Err fault) s) ≡ so (Err fault) s
  stops_so fault true s h = cc
  stops_so fault false s h = refl

  value_after : (id : ObjectId) (q : Result ChannelRecord AppFault) (s : Run) → is_other q ≡ true
      → carry_on q (heard session channel body game) s ≡ (let p = carry_on q (λ x. give (Ok (id, x))) s in after p.0 p.1)
  unfolding give
  value_after id (Ok x) s h = refl
  value_after id (Err fault) s h = sym (stops_so fault (is_unbound fault) s h)

  found_after : (o : Option ObjectId) (s : Run) → channel_found o session channel body game s ≡ (let q = found_as o CHANNEL_KIND channel_of s in after q.0 q.1)
  unfolding and_then give
  found_after None s = refl
  found_after (Some id) s = let q = get_as CHANNEL_KIND channel_of id s in value_after id q.0 q.1 (get_other CHANNEL_KIND channel_of id s)

  -- a message on a channel is the look for its record, and what follows
  message_after : (s : Run) → channel_message session channel body game s ≡ (let q = channel_under channel s in after q.0 q.1)
  message_after s = found_after (platform_bound s (channel_name channel)) s

  stopped_on : (W : DurableWorld → Type 0) (o : Option AppFault) (before last : DurableWorld → Run) → ((fault : AppFault) → o ≡ Some fault → not (is_unbound fault) ≡ true)
      → ((fault : AppFault) → o ≡ Some fault → (d : DurableWorld) → W d → channel_under channel (before d) ≡ (Err fault, last d))
      → (s : Result (Unit {0}) AppFault) → failure o ≡ Some s → (d : DurableWorld) → W d → channel_message session channel body game (before d) ≡ (s, last d)
  stopped_on W None before last other p s t d h = cc
  stopped_on W (Some fault) before last other p s t d h =
      message_after (before d) ∙ ap (λ o. after o.0 o.1) (p fault refl d h) ∙ stops_so fault (is_unbound fault) (last d) (other fault refl) ∙ ap (λ r. (r, last d)) (Some_injective _ _ t)

  module _ {S : Type 0} {sights : Sights S} {a b : Txn S ReadsAndWrites} where
    -- there is such a channel
    pub channel_does : {c : Txn S ReadsAndWrites} {x : ObjectId × ChannelRecord} {r : Result (Unit {0}) Halt}
        → Does sights refusal_fault a b (channel_under channel) (Ok x) → Does sights halt_fault b c (heard session channel body game x.1) r → Does sights halt_fault a c (channel_message session channel body game) r
    channel_does {x = x} p q = record {
      keeps = keeps_then p.keeps q.keeps;
      does = λ s t d agrees. message_after (current a.set d) ∙ ap (λ o. after o.0 o.1) (p.does (Ok x) refl d (agreed q.keeps d agrees)) ∙ q.does s t d agrees;
    }

    -- there is none
    pub channel_none : Does sights refusal_fault a b (channel_under channel) (Err refusal.NameNotBound) → Does sights halt_fault a b (channel_message session channel body game) (Ok tt)
    channel_none p = record {
      keeps = p.keeps;
      does = λ s t d agrees. message_after (current a.set d) ∙ ap (λ o. after o.0 o.1) (p.does (Err (Refused NAME_NOT_BOUND)) refl d agrees) ∙ ap (λ r. (r, current b.set d)) (Some_injective _ _ t);
    }

    -- the look was refused over something else
    pub channel_halts : {e : Refusal} {r : Result (Unit {0}) Halt} → Does sights refusal_fault a b (channel_under channel) (Err e) → (e ≡ refusal.NameNotBound → ⊥) → IsErrAnd r (λ h. halt_fault h ≡ refusal_fault e)
        → Does sights halt_fault a b (channel_message session channel body game) r
    channel_halts {r = Ok x} p other is = absurd is
    channel_halts {e = e} {r = Err h} p other is = record {
      keeps = p.keeps;
      does = λ s t. stopped_on (λ d. Agrees d b.set.reads) (refusal_fault e) (λ d. current a.set d) (λ d. current b.set d) (λ fault is. other_fault e fault other is) (λ fault is. p.does (Err fault) (ap failure is)) s (ap failure (sym is) ∙ t);
    }
