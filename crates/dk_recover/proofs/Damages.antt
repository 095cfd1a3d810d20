-- A record that does not fit, and one that is cut off, are damage at their gate; and so is a first gate without an image behind it.
use Rattle.std.proofs.Common.{◌≡◌, ◌⊎◌, inl, inr, refl, ℕ, ◌<◌, ◌^◌, List, [], ◌∷◌, ◌++◌, length, get_or, drop, sym, ap, subst, ◌∙◌, arith, append_assoc, length-append, take-append-drop}
use Rattle.std.proofs.lemmas.List.{drop_at, get_or-drop}
use Rattle.dk_types.specs.Fields.{blob_spelling}
use Rattle.dk_model.specs.DurableWorlds.{DurableWorld}
use Rattle.dk_model.specs.Images.{SpellsImage}
use Rattle.dk_model.specs.Validity.{IsValid}
use Rattle.dk_model.specs.Stores.{StoreHeader, header_spelling, records, AreSized, Reads}
use Rattle.dk_model.specs.Recovered.{HasWorld, IsDamaged, Takes}
use Rattle.dk_journal.specs.Scanning.{IsScanned, IsCutOff}
use Rattle.dk_journal.proofs.Readings.{blobs_apart, records_push}
use Rattle.dk_journal.proofs.Lookings.{byte_is}
use Rattle.dk_image.proofs.Worlds.{last_world, image_first}

last_sized : (ps : List (List ℕ)) (p : List ℕ) → AreSized (ps ++ p ∷ []) → length p < 2 ^ 32
last_sized [] p are = are.0
last_sized (q ∷ ps) p are = last_sized ps p are.1

module _ (file hs : List ℕ) (done : List (List ℕ)) (at end : ℕ) (is : IsScanned file hs done at end) where
  -- what stands from the gate on, where one more record was read
  pub behind : (p : List ℕ) (next end_ : ℕ) → IsScanned file hs (done ++ p ∷ []) next end_ → drop at file ≡ 1 ∷ (blob_spelling p ++ drop next file)
  behind p next end_ more =
      let rest = drop next file in
      let whole : file ≡ (hs ++ records done) ++ 1 ∷ (blob_spelling p ++ rest) =
      sym (take-append-drop next file) ∙ ap (λ (l : List ℕ). l ++ rest) more.front ∙ append_assoc hs (records (done ++ p ∷ [])) rest ∙ ap (λ (l : List ℕ). hs ++ l) (records_push done p rest)
      ∙ sym (append_assoc hs (records done) (1 ∷ (blob_spelling p ++ rest))) in
      ap (drop at) whole ∙ drop_at (hs ++ records done) (1 ∷ (blob_spelling p ++ rest)) at (omega (arith, length-append hs (records done), is.place))

-- the gate at this place
pub gate_of : (file rest : List ℕ) (at gate : ℕ) → drop at file ≡ gate ∷ rest → get_or file at 0 ≡ gate
gate_of file rest at gate e = ap (λ n. get_or file n 0) (omega arith) ∙ sym (get_or-drop at file 0 0) ∙ ap (λ (l : List ℕ). get_or l 0 0) e

module _ (file : List ℕ) (header : StoreHeader) (done : List (List ℕ)) (at end : ℕ) (is : IsScanned file (header_spelling header) done at end) (fit : (done ≡ []) ⊎ ((d : DurableWorld) × HasWorld header done d)) where
  -- a payload with which there is no world
  pub worldless_damages : (p : List ℕ) (next end_ : ℕ) → IsScanned file (header_spelling header) (done ++ p ∷ []) next end_ → ((e : DurableWorld) → HasWorld header (done ++ p ∷ []) e → ⊥) → IsDamaged file header at
  worldless_damages p next end_ more none =
      let from = behind file (header_spelling header) done at end is p next end_ more in
      record {
        good = done;
        fit = fit;
        sized = is.sized;
        front = is.front;
        place = is.place;
        broken = inl (
          gate_of file (blob_spelling p ++ drop next file) at 1 from,
          λ payload rest e small bytes some fits.
              let tails : blob_spelling payload ++ rest ≡ blob_spelling p ++ drop next file = let both : 1 ∷ (blob_spelling payload ++ rest) ≡ 1 ∷ (blob_spelling p ++ drop next file) = sym bytes ∙ from in cc in
              let same = blobs_apart payload p rest (drop next file) small (last_sized done p more.sized) tails in
              none e (subst (λ (x : List ℕ). HasWorld header (done ++ x ∷ []) e) same.0 fits),
        );
      }

  -- a record that is cut off
  pub cut_damages : IsCutOff file at → IsDamaged file header at
  cut_damages cut = record {
    good = done;
    fit = fit;
    sized = is.sized;
    front = is.front;
    place = is.place;
    broken = inl (
      byte_is file at 1 (omega (arith, is.within, is.ends)) cut.opened,
      λ payload rest e small bytes some fits. omega (arith, cut.none payload rest small bytes, some),
    );
  }

-- a payload of entries that do not fit
pub unfit_damages : (file : List ℕ) (header : StoreHeader) (done : List (List ℕ)) (at end : ℕ) (d : DurableWorld) → IsScanned file (header_spelling header) done at end → HasWorld header done d → (p : List ℕ) (next end_ : ℕ)
    → IsScanned file (header_spelling header) (done ++ p ∷ []) next end_ → ((e : DurableWorld) → Takes header.format d p e → ⊥) → IsDamaged file header at
unfit_damages file header done at end d is world p next end_ more unfit =
    worldless_damages file header done at end is (inr (d, world)) p next end_ more (λ e fits. unfit e (last_world header done p d e world fits))

module _ (file : List ℕ) (header : StoreHeader) (at end : ℕ) (is : IsScanned file (header_spelling header) [] at end) (epoch : 0 < header.epoch) where
  -- a first payload that is no image of a valid world
  pub unfit_image_damages : (p : List ℕ) (next end_ : ℕ) → IsScanned file (header_spelling header) (p ∷ []) next end_ → ((first : DurableWorld) → SpellsImage header.format first p → IsValid first → ⊥) → IsDamaged file header at
  unfit_image_damages p next end_ more unfit =
      worldless_damages file header [] at end is (inl refl) p next end_ more (λ e fits. let first = image_first header p e epoch fits in unfit first.0 first.1 first.2)

  -- no image
  pub closed_damages : Reads file (header_spelling header) [] → IsDamaged file header at
  closed_damages reads =
      let gate : drop at file ≡ reads.gate ∷ reads.behind = ap (drop at) reads.bytes ∙ drop_at (header_spelling header) (reads.gate ∷ reads.behind) at (omega (arith, is.place)) in
      record {
        good = [];
        fit = inl refl;
        sized = is.sized;
        front = is.front;
        place = is.place;
        broken = inr (λ (open_gate : get_or file at 0 ≡ 1). reads.closed (sym (gate_of file reads.behind at reads.gate gate) ∙ open_gate), epoch, refl);
      }
