-- The record that is found at an id, by the object that the stores have there with its stamp.
use Rattle.std.proofs.Common.{◌≡◌, ℕ, ◌==◌, refl, sym, ap, ◌∙◌, true, false, if◌then◌else◌, Option, None, Some, List, Result, Ok, Err, IfOk}
use Rattle.std.proofs.lemmas.Bool.{eq-eqb, eqb-true}
use Rattle.std.specs.Option.{option_map}
use Rattle.std.specs.Result.{result_ok}
use Rattle.std.specs.FinMap.{get}
use Rattle.dk_types.specs.declared.number.ObjectId.{ObjectId}
use Rattle.dk_types.specs.declared.object.Object.{Object}
use Rattle.dk_map.proofs.Values.{get_values}
use Rattle.dk_model.specs.declared.records.SessionRecord.{SessionRecord}
use Rattle.dk_types.specs.Payload.{whole}
use Rattle.dk_wire.proofs.WholeLaws.{whole_again}
use Rattle.dk_model.specs.Records.{SESSION_KIND, session_bytes, session_of, next_session, value_of}
use Rattle.dk_model.specs.Openings.{record_in}
use Rattle.dk_records.specs.RecordLaws.{IsSessionRecord, each_session_exact}
use Rattle.dk_core.specs.StampedWorlds.{Stamped, durable_of}

-- bytes that spell a record are it
pub spelled : (bytes : List ℕ) (r : SessionRecord) → IsSessionRecord r → bytes ≡ session_bytes r → Some r ≡ session_of bytes
unfolding session_of
spelled bytes r is e = sym (ap (value_of next_session) e ∙ ap result_ok (whole_again IsSessionRecord session_bytes next_session (each_session_exact None) r is))

-- and those that are read as none are none
pub unspelled : (bytes : List ℕ) (at : ℕ) → whole next_session bytes ≡ Err at → None ≡ session_of bytes
unfolding session_of
unspelled bytes at e = sym (ap result_ok e)

-- the record of what is found
found_in : (w : Stamped) (id : ObjectId) (o : Option (Object × ℕ)) → o ≡ get w.objects id → record_in (option_map (λ e. e.0) o) ≡ record_in (get (durable_of w).objects id)
found_in w id o e = ap record_in (ap (option_map (λ (e : Object × ℕ). e.0)) e ∙ sym (get_values (λ (e : Object × ℕ). e.0) w.objects id))

module _ (w : Stamped) (id : ObjectId) where
  -- there is none where there is no object
  pub none_there : None ≡ get w.objects id → None ≡ record_in (get (durable_of w).objects id)
  none_there e = found_in w id None e

  module _ (object : Object) (stamp : ℕ) (there : Some (object, stamp) ≡ get w.objects id) where
    -- nor where it is of another kind
    pub none_of_kind : (object.kind ≡ SESSION_KIND → ⊥) → None ≡ record_in (get (durable_of w).objects id)
    none_of_kind other =
        elim (object.kind == SESSION_KIND) as (λ b. (object.kind == SESSION_KIND) ≡ b → None ≡ (if b then session_of object.bytes else None)) [
          | true ↦ λ t. absurd (other (eqb-true object.kind SESSION_KIND t))
          | false ↦ λ _. refl
        ] refl
        ∙ found_in w id (Some (object, stamp)) there

    read_of_kind : object.kind ≡ SESSION_KIND → session_of object.bytes ≡ record_in (get (durable_of w).objects id)
    read_of_kind kind = ap (λ b. if b then session_of object.bytes else None) (sym (eq-eqb object.kind SESSION_KIND kind)) ∙ found_in w id (Some (object, stamp)) there

    -- and else it is what its bytes are
    pub decoded : {E : Type 0} (r : Result (Option SessionRecord) E) → object.kind ≡ SESSION_KIND → IfOk r (λ value. value ≡ session_of object.bytes) → IfOk r (λ value. value ≡ record_in (get (durable_of w).objects id))
    decoded (Ok value) kind e = e ∙ read_of_kind kind
    decoded (Err _) kind e = tt
