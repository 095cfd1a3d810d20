-- Pieces of the game's runs, beside those of `dk_txn`.
use Rattle.std.proofs.Common.{◌≡◌, ℕ, ◌+◌, ◌<◌, ◌≤◌, Option, Some, None, List, [], ◌∷◌, ◌++◌, length, drop, get_or, Result, Ok, Err, refl, sym, ap, subst, ◌∙◌}
use Rattle.std.specs.Result.{IsErrAnd}
use Rattle.std.proofs.lemmas.List.{drop_all}
use Rattle.dk_types.specs.declared.number.ObjectId.{ObjectId}
use Rattle.dk_types.specs.declared.item.Item.{Item}
use Rattle.dk_types.specs.declared.item.Read.{Read}
use Rattle.dk_types.specs.declared.fault.AppFault.{AppFault}
use Rattle.dk_types.specs.declared.fault.AppFault.TheVariants.{Refused}
use Rattle.dk_model.specs.Runs.{Run, Act, and_then, refuse, TOO_LONG}
use Rattle.dk_model.specs.References.{get_as}
use Rattle.dk_overlay.specs.ReadsAndWrites.{ReadsAndWrites}
use Rattle.dk_txn.specs.Current.{current}
use Rattle.dk_overlay.proofs.Tests.{Some_injective}
use Rattle.dk_txn.specs.declared.txn.Txn.{Txn}
use Rattle.dk_txn.specs.declared.refusal.Refusal.{Refusal}
use Rattle.dk_txn.specs.Refusals.{refusal_fault}
use Rattle.dk_txn.specs.Bindings.{binding}
use Rattle.dk_txn.specs.Does.{Does, Resumes, failure}
use Rattle.dk_txn.proofs.Kit.{keeps_all, give_does, halts, leads_then, leads_does}
use Rattle.dk_game.specs.declared.halt.Halt.{Halt}
use Rattle.dk_game.specs.declared.halt.Halt.TheVariants as halt
use Rattle.dk_game.specs.Halted.{halt_fault}
use Rattle.sword_world.specs.Labels.{labels_from, labels}
use Rattle.sword_world.specs.Rules.{player_name, player_found, known_player}
use Rattle.sword_world.proofs.ListSteps.{rest_is}
use Rattle.dk_txn.specs.Sights.{Sights}

-- no fault is no outcome
untold : {A : Type 0} (o : Option AppFault) → o ≡ None → (s : Result A AppFault) → failure o ≡ Some s → ⊥
untold None e s t = absurd cc
untold (Some fault) e s t = absurd cc

-- what the player's name is bound to is looked at first
pub known_as : (name : List ℕ) (s : Run) → known_player name s ≡ and_then (binding (player_name name)) (λ o. player_found o name) s
unfolding known_player binding and_then
known_as name s = refl

module _ {S : Type 0} {sights : Sights S} where
  -- want of memory tells nothing
  pub starves : {a : Txn S ReadsAndWrites} {A : Type 0} {f : Act A} {r : Result A Halt} → IsErrAnd r (λ h. h ≡ halt.NoMemory) → Does sights halt_fault a a f r
  starves {r = Err h} is = record { keeps = keeps_all; does = λ s t d agrees. absurd (untold (halt_fault h) (ap halt_fault is) s t) }
  starves {r = Ok x} is = absurd is

  -- a name that would be too long is refused
  pub turned_away : {a : Txn S ReadsAndWrites} {A : Type 0} → Does sights halt_fault a a (refuse {A = A} TOO_LONG) (Err (halt.Fault (Refused TOO_LONG)))
  turned_away {a = a} = record { keeps = keeps_all; does = λ s t d agrees. ap (λ r. (r, current a.set d)) (Some_injective _ _ t) }

  module _ {A : Type 0} (kind : ℕ) (read : List ℕ → Option A) (label : A → List ℕ) {a b : Txn S ReadsAndWrites} (ids : List ObjectId) (i : ℕ) (d : ObjectId) where
    -- what is left begins with the next object
    labels_at : (so_far : List (List ℕ)) → i < length ids → Resumes sights a b (labels_from kind read label [] ids) (labels_from kind read label so_far (drop i ids))
        → Resumes sights a b (labels_from kind read label [] ids) (and_then (get_as kind read (get_or ids i d)) (λ x. labels_from kind read label (so_far ++ label x ∷ []) (drop (i + 1) ids)))
    labels_at so_far h before = subst (λ l. Resumes sights a b (labels_from kind read label [] ids) (labels_from kind read label so_far l)) (rest_is ids i d h) before

    -- one more object tells its label
    pub labels_more : {c : Txn S ReadsAndWrites} (so_far more : List (List ℕ)) (x : A) → i < length ids → Does sights refusal_fault b c (get_as kind read (get_or ids i d)) (Ok x) → more ≡ so_far ++ label x ∷ []
        → Resumes sights a b (labels_from kind read label [] ids) (labels_from kind read label so_far (drop i ids)) → Resumes sights a c (labels_from kind read label [] ids) (labels_from kind read label more (drop (i + 1) ids))
    labels_more {c = c} so_far more x h p is before =
        subst (λ m. Resumes sights a c (labels_from kind read label [] ids) (labels_from kind read label m (drop (i + 1) ids))) (sym is) (leads_then _ (labels_at so_far h before) p)

    -- an object that is refused ends the list
    pub labels_halt : {c : Txn S ReadsAndWrites} {e : Refusal} {r : Result (List (List ℕ)) Halt} (so_far : List (List ℕ)) → i < length ids → Does sights refusal_fault b c (get_as kind read (get_or ids i d)) (Err e)
        → IsErrAnd r (λ h. halt_fault h ≡ refusal_fault e) → Resumes sights a b (labels_from kind read label [] ids) (labels_from kind read label so_far (drop i ids)) → Does sights halt_fault a c (labels kind read label ids) r
    unfolding labels
    labels_halt so_far h p is before = leads_does (labels_at so_far h before) (halts _ p is)

    -- there is no memory for one more label
    pub labels_starve : {c : Txn S ReadsAndWrites} {r : Result (List (List ℕ)) Halt} (so_far : List (List ℕ)) (x : A) → i < length ids → Does sights refusal_fault b c (get_as kind read (get_or ids i d)) (Ok x)
        → IsErrAnd r (λ h. h ≡ halt.NoMemory) → Resumes sights a b (labels_from kind read label [] ids) (labels_from kind read label so_far (drop i ids)) → Does sights halt_fault a c (labels kind read label ids) r
    unfolding labels
    labels_starve so_far x h p is before = leads_does (leads_then _ (labels_at so_far h before) p) (starves is)

    -- nothing is left to tell
    pub labels_done : (so_far : List (List ℕ)) → length ids ≤ i
        → Resumes sights a b (labels_from kind read label [] ids) (labels_from kind read label so_far (drop i ids)) → Does sights halt_fault a b (labels kind read label ids) (Ok so_far)
    unfolding labels
    labels_done so_far h before = leads_does (subst (λ l. Resumes sights a b (labels_from kind read label [] ids) (labels_from kind read label so_far l)) (drop_all i ids h) before) give_does
