use Rattle.std.proofs.Common.{◌≡◌, ◌++◌, ◌-◌, ◌∙◌, sym, ap, subst, refl, ℕ, List, length, take, drop, replicate, arith, length-append}
use Rattle.std.proofs.Math.Seq.{take-append_seam}
use Rattle.std.proofs.lemmas.List.{drop-replicate}
use Rattle.dk_types.specs.GameIds.{IsGameId, IsPadded}
use Rattle.dk_types.proofs.game_id.GameId.padded.Goals as goal

-- an id's bytes over the front of forty-four zeros
over_zeros : (id front array : List ℕ) → IsGameId id → front ≡ id → array ≡ front ++ drop (length id) (replicate 44 0) → IsPadded array (length id) × IsGameId (take (length id) array)
over_zeros id front array named same is =
    let padded : array ≡ id ++ replicate (44 - length id) 0 = is ∙ ap (λ (xs : List ℕ). xs ++ drop (length id) (replicate 44 0)) same ∙ ap (λ (ys : List ℕ). id ++ ys) (drop-replicate (length id) 44 0) in
    let seam : take (length id) array ≡ id = ap (take (length id)) padded ∙ take-append_seam id (replicate (44 - length id) 0) in (
      record {
        within = omega (arith, ap length padded, length-append id (replicate (44 - length id) 0));
        zeros = padded ∙ ap (λ (xs : List ℕ). xs ++ replicate (44 - length id) 0) (sym seam);
      },
      subst (λ (bytes : List ℕ). IsGameId bytes) (sym seam) named,
    )

pub invariant_of-result : goal.invariant_of-result
invariant_of-result c = over_zeros c.args.bytes.now c.copy_from_slice.new.self _ c.requires c.copy_from_slice.ensures.after refl
