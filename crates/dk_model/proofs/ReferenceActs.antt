-- Each step of a typed reference is lawful.
use Rattle.std.proofs.Common.{◌≡◌, ℕ, ◌==◌, Option, Some, None, List, refl}
use Rattle.dk_types.specs.declared.number.ObjectId.{ObjectId}
use Rattle.dk_model.specs.Runs.{found, WRONG_KIND, BAD_BYTES}
use Rattle.dk_model.specs.References as does
use Rattle.dk_model.proofs.Acts.{Anything, AreBytes, HasIfOk, IsLawful, stays, refused, at_if, lawful_then, lawful_give, lawful_refuse, lawful_if}
use Rattle.dk_model.proofs.Operations.{lawful_get, lawful_mark, lawful_save}

-- `get_as` needs nothing; its value has what each has that is read from bytes
pub lawful_get_as : {A Needs : Type 0} {Has : A → Type 0} (kind : ℕ) (read : List ℕ → Option A) (id : ObjectId) → ((bytes : List ℕ) (x : A) → AreBytes bytes → read bytes ≡ Some x → Has x) → IsLawful Needs Has (does.get_as kind read id)
unfolding does.get_as
lawful_get_as {Has = Has} kind read id why = lawful_then (lawful_get id) (λ object. record {
  at = λ s. at_if (object.kind == kind)
      (λ _. stays s _ (λ n f. elim (read object.bytes) as (λ o. read object.bytes ≡ o → HasIfOk Has (found BAD_BYTES o)) [
        | None ↦ λ _. tt
        | Some x ↦ λ e. why object.bytes x n.1.body.bytes e
      ] refl))
      (λ _. refused s _);
})

-- the same of `get_for_update_as`
pub lawful_get_for_update_as : {A Needs : Type 0} {Has : A → Type 0} (kind : ℕ) (read : List ℕ → Option A) (id : ObjectId) → ((bytes : List ℕ) (x : A) → AreBytes bytes → read bytes ≡ Some x → Has x) → IsLawful Needs Has (does.get_for_update_as kind read id)
unfolding does.get_for_update_as
lawful_get_for_update_as kind read id why = lawful_then (lawful_get_as kind read id why) (λ x. lawful_then (lawful_mark id) (λ _. lawful_give x (λ n. n.0.1)))

-- `save_as` needs bytes
pub lawful_save_as : {Needs : Type 0} (kind : ℕ) (id : ObjectId) (bytes : List ℕ) → (Needs → AreBytes bytes) → IsLawful Needs Anything (does.save_as kind id bytes)
unfolding does.save_as
lawful_save_as kind id bytes why = lawful_then (lawful_get id) (λ object. lawful_if (object.kind == kind) (lawful_save id bytes (λ n. why n.0.0)) (lawful_refuse WRONG_KIND))
