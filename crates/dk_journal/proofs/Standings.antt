-- Which file stands while one of two is written, and what both recover to.
use Rattle.std.proofs.Common.{◌≡◌, ◌⊎◌, ⊎_elim, inl, inr, ℕ, ◌<◌, ◌≤◌, ltb, true, false, List, [], ◌∷◌, ◌++◌, length, refl, sym, ◌∙◌, ap, subst, arith}
use Rattle.std.proofs.lemmas.Bool.{lt-ltb, ltb-true, le-leb}
use Rattle.dk_types.specs.declared.side.Side.{Side}
use Rattle.dk_types.specs.declared.side.Side.TheVariants.{Zero, One}
use Rattle.dk_disk.specs.Disk.{Disk, IsImage, settled}
use Rattle.dk_disk.specs.DiskHistories.{DiskHistory, now, other_side, MayLeave}
use Rattle.dk_disk.proofs.Images.{settled_only}
use Rattle.dk_model.specs.DurableWorlds.{DurableWorld, empty_world}
use Rattle.dk_model.specs.Stores.{StoreHeader, IsHeader, header_spelling, Reads, Blank, Live, look, NoStore, StandsOn, is_blank, standing, standing_of}
use Rattle.dk_model.specs.Recovered.{HasWorld, Recovers, Holding, NotYet, file_on}
use Rattle.dk_journal.specs.Moments.{Runs, HasOrNot, IsNewOrEmpty, IsBlankUpTo}
use Rattle.dk_journal.specs.Ranks.{IsLesser, IsOutranked, IsBlankBeside}
use Rattle.dk_journal.proofs.HeaderBytes.{false_of}
use Rattle.dk_journal.proofs.Seen.{live}

-- the live file with the greater epoch stands, and so does one beside a blank file
pub wins : (side : Side) (h : StoreHeader) (zero one : List ℕ) → look (file_on side zero one) ≡ Live h → IsLesser h (file_on (other_side side) zero one) → standing zero one ≡ StandsOn side h
wins Zero h zero one here lesser = ⊎_elim
    (λ (blank : look one ≡ Blank). λ i. standing_of (length zero) (here i) (blank i))
    (λ (other : (k : StoreHeader) × (look one ≡ Live k) × (k.epoch < h.epoch)). let both : standing_of (length zero) (look zero) (look one) ≡ standing_of (length zero) (Live h) (Live other.0) = λ i. standing_of (length zero) (here i) (other.1 i) in both ∙ rw (lt-ltb other.0.epoch h.epoch other.2) refl)
    lesser
wins One h zero one here lesser = ⊎_elim
    (λ (blank : look zero ≡ Blank). λ i. standing_of (length zero) (blank i) (here i))
    (λ (other : (k : StoreHeader) × (look zero ≡ Live k) × (k.epoch < h.epoch)).
    let both : standing_of (length zero) (look zero) (look one) ≡ standing_of (length zero) (Live other.0) (Live h) = λ i. standing_of (length zero) (other.1 i) (here i) in
    let not_first : ltb h.epoch other.0.epoch ≡ false = false_of _ (λ less. omega (arith, other.2, ltb-true h.epoch other.0.epoch less)) in
    both ∙ rw (not_first, lt-ltb other.0.epoch h.epoch other.2) refl)
    lesser

pub holding : (side : Side) (zero one : List ℕ) (h : StoreHeader) (payloads : List (List ℕ)) (d : DurableWorld) → IsHeader h → Reads (file_on side zero one) (header_spelling h) payloads → HasWorld h payloads d → IsLesser h (file_on (other_side side) zero one) → Recovers zero one (Holding d)
holding side zero one h payloads d is reads world lesser =
    (side, (h, wins side h zero one (live (file_on side zero one) h payloads is reads) lesser, record { payloads = payloads; reads = reads; world = world }))

pub image_on : (side : Side) (past : DiskHistory) (t : ℕ) (zero one : List ℕ) → MayLeave past t zero one → IsImage (past.disks t side) (file_on side zero one)
image_on Zero past t zero one left = left.0
image_on One past t zero one left = left.1

-- the file that is not written, while the other is
pub other_file : (side : Side) (P : Disk → Type 0) (old new : DiskHistory) → now old (other_side side) ≡ settled (now old (other_side side)).reads → Runs side P old new → (t : ℕ) → old.clock ≤ t → t ≤ new.clock → (zero one : List ℕ) → MayLeave new t zero one
    → file_on (other_side side) zero one ≡ (now old (other_side side)).reads
other_file side P old new rests run t from to zero one left =
    settled_only _ _ (subst (λ (x : Disk). IsImage x (file_on (other_side side) zero one)) (run.other t from to ∙ rests) (image_on (other_side side) new t zero one left))

-- while a record is appended
pub appended : (side : Side) (h : StoreHeader) (payloads : List (List ℕ)) (payload : List ℕ) (d e : DurableWorld) (old new : DiskHistory) → IsHeader h → IsOutranked h old (other_side side) → HasWorld h payloads d → HasWorld h (payloads ++ payload ∷ []) e
    → Runs side (HasOrNot (header_spelling h) payloads payload) old new → (t : ℕ) → old.clock ≤ t → t ≤ new.clock → (zero one : List ℕ) → MayLeave new t zero one → Recovers zero one (Holding d) ⊎ Recovers zero one (Holding e)
appended side h payloads payload d e old new is rank world next run t from to zero one left =
    let lesser : IsLesser h (file_on (other_side side) zero one) = subst (IsLesser h) (sym (other_file side _ old new rank.settled run t from to zero one left)) rank.lesser in
    ⊎_elim
    (λ (r : Reads (file_on side zero one) (header_spelling h) payloads). inl (holding side zero one h payloads d is r world lesser))
    (λ (r : Reads (file_on side zero one) (header_spelling h) (payloads ++ payload ∷ [])). inr (holding side zero one h (payloads ++ payload ∷ []) e is r next lesser))
    (run.each t from to (file_on side zero one) (image_on side new t zero one left))

pub blank_looks : (file : List ℕ) → is_blank file ≡ true → look file ≡ Blank
blank_looks file is = rw is refl

-- two blank files, the first of them short
pub nothing : (zero one : List ℕ) → look zero ≡ Blank → look one ≡ Blank → length zero ≤ 65 → standing zero one ≡ NoStore
nothing zero one first second short =
    let both : standing_of (length zero) (look zero) (look one) ≡ standing_of (length zero) Blank Blank = λ i. standing_of (length zero) (first i) (second i) in
    both ∙ rw (le-leb (length zero) 65 short) refl

not_yet : (side : Side) (zero one : List ℕ) → IsBlankUpTo 65 (file_on side zero one) → look (file_on (other_side side) zero one) ≡ Blank → (side ≡ One → length zero ≤ 65) → standing zero one ≡ NoStore
not_yet Zero zero one mine other short = nothing zero one (blank_looks zero mine.0) other mine.1
not_yet One zero one mine other short = nothing zero one other (blank_looks one mine.0) (short refl)

-- of the side that is not written, while the other is
first_file : (side : Side) (past : DiskHistory) (zero one : List ℕ) → file_on (other_side side) zero one ≡ (now past (other_side side)).reads → length (now past Zero).reads ≤ 65 → side ≡ One → length zero ≤ 65
first_file Zero past zero one same short is = absurd cc
first_file One past zero one same short is = omega (arith, ap length same, short)

-- while a file of the first epoch is made
pub created : (side : Side) (h : StoreHeader) (old new : DiskHistory) → IsHeader h → h.epoch ≡ 0 → IsBlankBeside old (other_side side) → length (now old Zero).reads ≤ 65
    → Runs side (IsNewOrEmpty (header_spelling h)) old new → (t : ℕ) → old.clock ≤ t → t ≤ new.clock → (zero one : List ℕ) → MayLeave new t zero one → Recovers zero one NotYet ⊎ Recovers zero one (Holding empty_world)
created side h old new is first beside short run t from to zero one left =
    let other_is : file_on (other_side side) zero one ≡ (now old (other_side side)).reads = other_file side _ old new beside.settled run t from to zero one left in
    let blank : look (file_on (other_side side) zero one) ≡ Blank = ap look other_is ∙ beside.blank in
    ⊎_elim
    (λ (b : IsBlankUpTo 65 (file_on side zero one)). inl (not_yet side zero one b blank (first_file side old zero one other_is short)))
    (λ (r : Reads (file_on side zero one) (header_spelling h) []). inr (holding side zero one h [] empty_world is r (inl (first, refl)) (inl blank)))
    (run.each t from to (file_on side zero one) (image_on side new t zero one left))
