-- What each image holds does not fall while an append is under way, nor at its end.
use Rattle.std.proofs.Common.{◌≡◌, ⊎_elim, ℕ, List, [], ◌∷◌, ◌++◌, sym, ◌∙◌, ap, subst, arith, append_assoc}
use Rattle.std.proofs.lemmas.Bool.{cases_lt}
use Rattle.dk_types.specs.declared.side.Side.{Side}
use Rattle.dk_disk.specs.Disk.{Disk}
use Rattle.dk_disk.specs.DiskHistories.{DiskHistory, now, Elapses}
use Rattle.dk_model.specs.Stores.{Reads}
use Rattle.dk_journal.specs.Moments.{Runs, Holds, NeverFalls, HasOrNot, IsBetween}
use Rattle.dk_journal.proofs.Readings.{one_reading}

-- from a moment at which some image has just these payloads
pub no_less : (header : List ℕ) (payloads : List (List ℕ)) (payload : List ℕ) (before after : Disk) (held : List (List ℕ)) → IsBetween header payloads payload before → HasOrNot header payloads payload after → Holds header held before → Holds header held after
no_less header payloads payload before after held between has holds image is =
    let first = holds between.least.0 between.least.1 in
    let same : payloads ≡ held ++ first.0 = one_reading between.least.0 header payloads (held ++ first.0) between.least.2 first.1 in
    ⊎_elim
    (λ (r : Reads image header payloads). (first.0, subst (λ (ps : List (List ℕ)). Reads image header ps) same r))
    (λ (r : Reads image header (payloads ++ payload ∷ [])). (first.0 ++ payload ∷ [], subst (λ (ps : List (List ℕ)). Reads image header ps) (ap (λ (ps : List (List ℕ)). ps ++ payload ∷ []) same ∙ append_assoc held first.0 (payload ∷ [])) r))
    (has image is)

pub falls_between : (header : List ℕ) (payloads : List (List ℕ)) (payload : List ℕ) (side : Side) (old new : DiskHistory) → Runs side (IsBetween header payloads payload) old new → NeverFalls header side old.clock new
falls_between header payloads payload side old new run t later held from le to =
    no_less header payloads payload (new.disks t side) (new.disks later side) held (run.each t from (omega (arith, le, to))) (run.each later (omega (arith, from, le)) to).each

-- one call more
pub falls_on : (header : List ℕ) (payloads : List (List ℕ)) (payload : List ℕ) (side : Side) (old mid new : DiskHistory) → Runs side (IsBetween header payloads payload) old mid → Elapses mid new → HasOrNot header payloads payload (now new side) → NeverFalls header side old.clock new
falls_on header payloads payload side old mid new run time has t later held from le to =
    ⊎_elim
    (λ after. ⊎_elim
    (λ also. subst (Holds header held) (time.since t side also (omega (arith, le, to)) ∙ sym (time.since later side after to)))
    (λ before holds. subst (Holds header held) (sym (time.since later side after to)) (no_less header payloads payload (mid.disks t side) (now new side) held (run.each t from before) has (subst (Holds header held) (time.kept t side before) holds)))
    (cases_lt mid.clock t))
    (λ before holds. subst (Holds header held) (sym (time.kept later side before)) (falls_between header payloads payload side old mid run t later held from le before (subst (Holds header held) (time.kept t side (omega (arith, le, before))) holds)))
    (cases_lt mid.clock later)
