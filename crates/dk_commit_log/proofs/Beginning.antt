-- A file that is opened, and a scan that comes behind its image.
use Rattle.std.proofs.Common.{◌≡◌, ◌≢◌, ⊎_elim, ℕ, ◌+◌, ◌<◌, ◌≤◌, ◌&&◌, Bool, true, false, leb as nat_le, List, [], ◌∷◌, ◌++◌, length, Result, Ok, Err, refl, sym, ap, subst, ◌∙◌, arith}
use Rattle.std.proofs.lemmas.Bool.{leb-true}
use Rattle.dk_types.specs.Fields.{IsU64, u64_spelling}
use Rattle.dk_types.specs.Reading.{u64_at, Refuses}
use Rattle.dk_types.specs.Rest.{Rest}
use Rattle.dk_types.specs.declared.refused.WireRefused.{WireRefused}
use Rattle.dk_types.specs.declared.refused.WireRefused.TheVariants.{Short, Extra, BadTag, TooLong, NoMemory}
use Rattle.dk_types.specs.declared.limits.TheConstants.{NUMBERS_END}
use Rattle.dk_types.proofs.FieldLaws.{u64_exact}
use Rattle.dk_types.specs.declared.side.Side.{Side}
use Rattle.dk_disk.specs.Disk.{settled}
use Rattle.dk_disk.specs.DiskHistories.{DiskHistory, now}
use Rattle.dk_model.specs.DurableWorlds.{DurableWorld, empty_world}
use Rattle.dk_model.specs.Images.{SpellsImage}
use Rattle.dk_model.specs.Validity.{next_of}
use Rattle.dk_model.specs.Stores.{StoreHeader, Reads, Live, Faulty, header_spelling, look}
use Rattle.dk_journal.specs.Headers.{store_header}
use Rattle.dk_journal.specs.Moments.{Runs, Looks, IsAsRead}
use Rattle.dk_journal.specs.Opened.{IsOpened}
use Rattle.dk_journal.specs.Scanning.{IsScanned}
use Rattle.dk_journal.specs.declared.header.Header.{Header}
use Rattle.dk_journal.specs.declared.scan.Scan.{Scan}
use Rattle.dk_journal.proofs.Seen.{live}
use Rattle.dk_journal.proofs.Stores.{both_sides}
use Rattle.dk_commit_log.specs.Logs.{BeginsWith, HasImage, IsStoreFile, IsBehind}
use Rattle.dk_commit_log.proofs.Scanned.{scanned_next}

-- a sync of what is not pending leaves all as it was
pub looks_settled : (side : Side) (old new : DiskHistory) → now old side ≡ settled (now old side).reads → Runs side (IsAsRead (now old side)) old new → Looks old new
looks_settled side old new rests run = record {
  later = run.later;
  kept = run.kept;
  each = λ t s from to.
      both_sides (λ (x : Side). new.disks t x ≡ now old x) side
      (⊎_elim (λ (e : new.disks t side ≡ now old side). e) (λ (e : new.disks t side ≡ settled (now old side).reads). e ∙ sym rests) (run.each t from to))
      (run.other t from to) s;
}

-- a store's file is none that is not live
pub is_live : (file : List ℕ) (h : StoreHeader) (payloads : List (List ℕ)) → IsStoreFile file h payloads → look file ≡ Live h
is_live file h payloads is = live file h payloads is.fits is.reads

pub not_faulty : (file : List ℕ) (h : StoreHeader) (payloads : List (List ℕ)) (at : ℕ) → IsStoreFile file h payloads → look file ≡ Faulty at → ⊥
not_faulty file h payloads at is bad = let no : Live h ≡ Faulty at = sym (is_live file h payloads is) ∙ bad in absurd cc

module _ (file : List ℕ) (side : Side) (header : Header) (scan : Scan) (opened : IsOpened file side header scan) (h : StoreHeader) (payloads : List (List ℕ)) (is : IsStoreFile file h payloads) where
  same_header : store_header header ≡ h
  same_header = let one : Live (store_header header) ≡ Live h = sym opened.looks ∙ is_live file h payloads is in cc

  same_epoch : header.epoch ≡ h.epoch
  same_epoch = ap (λ (x : StoreHeader). x.epoch) same_header

  same_format : scan.format ≡ h.format
  same_format = opened.format ∙ ap (λ (x : StoreHeader). x.format) same_header

  pub begun : IsScanned file (header_spelling h) [] scan.at scan.end
  begun = subst (λ (x : StoreHeader). IsScanned file (header_spelling x) [] scan.at scan.end) same_header opened.scanned

  module _ (first : DurableWorld) (others : List (List ℕ)) (begins : BeginsWith h payloads first others) where
    -- in the first epoch
    pub at_first : header.epoch ≡ 0 → IsBehind file h payloads others scan
    at_first zero = ⊎_elim
        (λ none. record { done = []; parts = sym none.2; scanned = begun; format = same_format })
        (λ some. absurd (omega (arith, zero, same_epoch, some.0)))
        begins

    -- in a later one
    pub image_of : 0 < header.epoch → HasImage h.format payloads first others
    image_of later = ⊎_elim (λ none. absurd (omega (arith, later, same_epoch, none.0))) (λ some. some.1) begins

    pub image_reads : (later : 0 < header.epoch) → Reads file (header_spelling h) ([] ++ (image_of later).image ∷ others)
    image_reads later = subst (Reads file (header_spelling h)) (image_of later).parts is.reads

    pub behind_first : (later : 0 < header.epoch) (payload : List ℕ) (next : Scan) → IsScanned file (header_spelling h) ([] ++ payload ∷ []) next.at next.end → next.format ≡ scan.format → IsBehind file h payloads others next
    behind_first later payload next scanned format =
        let image = image_of later in
        let both = scanned_next file (header_spelling h) payloads is.reads [] payload image.image others next.at next.end scanned image.parts in
        record { done = [] ++ payload ∷ []; parts = both.1; scanned = scanned; format = format ∙ same_format }

-- a number that a payload begins with
pub number_read : (payload : List ℕ) (m : ℕ) (rest : List ℕ) → IsU64 m → payload ≡ u64_spelling m ++ rest → u64_at (record { at = 0; bytes = payload }) ≡ Ok (m, record { at = 0 + length (u64_spelling m); bytes = rest })
number_read payload m rest fits bytes = ap (λ (b : List ℕ). u64_at (record { at = 0; bytes = b })) bytes ∙ u64_exact.again 0 m rest fits

both_first : (x y : Bool) → (x && y) ≡ true → x ≡ true
both_first true y h = refl
both_first false y h = absurd cc

both_second : (x y : Bool) → (x && y) ≡ true → y ≡ true
both_second true y h = h
both_second false y h = absurd cc

-- an image begins with how many commits its world has
pub image_number : (format : ℕ) (first : DurableWorld) (image : List ℕ) → SpellsImage format first image → (rest : List ℕ) × (image ≡ u64_spelling first.commits ++ rest) × (first.commits ≤ NUMBERS_END)
image_number format first image s =
    let front = both_first (nat_le (next_of first.last) NUMBERS_END && nat_le first.commits (next_of first.last)) _ s.value.next in
    let next = leb-true (next_of first.last) NUMBERS_END (both_first (nat_le (next_of first.last) NUMBERS_END) (nat_le first.commits (next_of first.last)) front) in
    let commits = leb-true first.commits (next_of first.last) (both_second (nat_le (next_of first.last) NUMBERS_END) (nat_le first.commits (next_of first.last)) front) in
    (_, s.bytes, omega (arith, next, commits))

module _ (file : List ℕ) (side : Side) (header : Header) (scan : Scan) (opened : IsOpened file side header scan) (h : StoreHeader) (payloads : List (List ℕ)) (is : IsStoreFile file h payloads) (first : DurableWorld) (others : List (List ℕ)) (begins : BeginsWith h payloads first others) where
  -- in the first epoch no commit comes before
  pub none_first : header.epoch ≡ 0 → 0 ≡ first.commits
  none_first zero = ⊎_elim
      (λ (none : (h.epoch ≡ 0) × (first ≡ empty_world) × (others ≡ payloads)). ap (λ (d : DurableWorld). d.commits) (sym none.1))
      (λ (some : (0 < h.epoch) × HasImage h.format payloads first others). absurd (omega (arith, zero, same_epoch file side header scan opened h payloads is, some.0)))
      begins

  -- in a later one the first payload is the image
  pub image_scanned : (later : 0 < header.epoch) (payload : List ℕ) (next : Scan) → IsScanned file (header_spelling h) ([] ++ payload ∷ []) next.at next.end → (rest : List ℕ) × (payload ≡ u64_spelling first.commits ++ rest) × (first.commits ≤ NUMBERS_END)
  image_scanned later payload next scanned =
      let image = image_of file side header scan opened h payloads is first others begins later in
      let both = scanned_next file (header_spelling h) payloads is.reads [] payload image.image others next.at next.end scanned image.parts in
      image_number h.format first payload (subst (SpellsImage h.format first) (sym both.0) image.spelled)

-- the number that was read, or 0
abbrev number_in : Result (ℕ × Rest) WireRefused → ℕ
number_in (Ok x) = x.0
number_in (Err e) = 0

-- the number that a reader takes is the one that is there
pub number_same : (payload : List ℕ) (n m : ℕ) (rest : List ℕ) → IsU64 m → payload ≡ u64_spelling m ++ rest → (old : Rest) → old ≡ record { at = 0; bytes = payload } → (new : Rest) → u64_at old ≡ Ok (n, new) → n ≡ m
number_same payload n m rest fits bytes old is new read =
    ap number_in (sym read ∙ ap u64_at is ∙ number_read payload m rest fits bytes)

refuses_not : {Y : Type 0} (e : WireRefused) (y : Y) → e ≢ NoMemory → Refuses e (Ok y) → ⊥
refuses_not NoMemory y other h = other refl
refuses_not (Short need have) y other h = absurd cc
refuses_not (Extra at) y other h = absurd cc
refuses_not (BadTag at tag) y other h = absurd cc
refuses_not TooLong y other h = absurd cc

-- and it is not refused
pub not_refused : (payload : List ℕ) (m : ℕ) (rest : List ℕ) → IsU64 m → payload ≡ u64_spelling m ++ rest → (old : Rest) → old ≡ record { at = 0; bytes = payload } → (e : WireRefused) → e ≢ NoMemory → Refuses e (u64_at old) → ⊥
not_refused payload m rest fits bytes old is e other refused = refuses_not e (m, record { at = 0 + length (u64_spelling m); bytes = rest }) other (subst (Refuses e) (ap u64_at is ∙ number_read payload m rest fits bytes) refused)
