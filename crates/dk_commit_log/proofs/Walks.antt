-- How far the commits of a file were read.
use Rattle.std.proofs.Common.{◌≡◌, ℕ, ◌+◌, ◌-◌, ◌<◌, ◌≤◌, Bool, IsTrue, List, [], ◌∷◌, ◌++◌, length, refl, sym, ap, subst, ◌∙◌, arith, append_assoc, length-append}
use Rattle.std.proofs.lemmas.List.{append-nil}
use Rattle.std.proofs.lemmas.List.Elements.{filter-append}
use Rattle.dk_types.specs.declared.durable.Entry.{Entry}
use Rattle.dk_types.specs.declared.side.Side.{Side}
use Rattle.dk_types.proofs.ExactLaws.{prefix_free}
use Rattle.dk_disk.specs.Disk.{Disk}
use Rattle.dk_disk.specs.DiskHistories.{DiskHistory, now}
use Rattle.dk_model.specs.DurableWorlds.{DurableWorld}
use Rattle.dk_model.specs.Entries.{AreEntries, SpellsEntries, entries_spelling, entries_at}
use Rattle.dk_model.specs.Stores.{StoreHeader, Reads, header_spelling}
use Rattle.dk_entry.specs.EntryLaws.{entries_exact}
use Rattle.dk_journal.specs.Moments.{Looks}
use Rattle.dk_journal.specs.Scanning.{IsScanned}
use Rattle.dk_journal.specs.declared.scan.Scan.{Scan}
use Rattle.dk_journal.proofs.Readings.{one_reading}
use Rattle.dk_commit_log.specs.Logs.{BeginsWith, IsBehind, IsStoreFile, IsLogOf, Spell}
use Rattle.dk_commit_log.specs.Ranges.{AreNumbered, between, is_between}
use Rattle.dk_commit_log.proofs.Numbers.{follow_numbered, numbered_left, numbered_right, numbered_both, between_none, between_numbered}
use Rattle.dk_commit_log.proofs.Scanned.{scanned_next}

-- a payload spells one list of entries
pub entries_one : (format : ℕ) (es fs : List Entry) (payload : List ℕ) → SpellsEntries format es payload → SpellsEntries format fs payload → es ≡ fs
entries_one format es fs payload a b = (prefix_free (AreEntries format) entries_spelling (entries_at format) (entries_exact format) es fs [] [] a.are b.are (ap (λ (l : List ℕ). l ++ []) (sym a.bytes ∙ b.bytes))).0

-- these entries came by, of which those in between were kept
pub record Passed (before after last seen : ℕ) (items passed : List Entry) : Type 0 where
  pub numbered : AreNumbered (before + 1) passed
  pub counted : before + length passed ≡ seen
  pub kept : items ≡ between after last passed

-- of the file's entries these are left
pub record IsLeft (file : List ℕ) (header : StoreHeader) (payloads : List (List ℕ)) (all passed : List Entry) (scan : Scan) : Type 0 where
  pub others : List (List ℕ)
  pub behind : IsBehind file header payloads others scan
  pub left : List Entry
  pub spelled : Spell header.format others left
  pub parts : all ≡ passed ++ left

-- what came by, and for a file that tells what is left
pub record Walk (tells : Bool) (file : List ℕ) (before after last seen : ℕ) (items : List Entry) (scan : Scan) : Type 0 where
  pub passed : List Entry
  pub is : Passed before after last seen items passed
  pub log : IsTrue tells → (header : StoreHeader) (payloads : List (List ℕ)) (d first : DurableWorld) (all : List Entry) → IsLogOf file header payloads d first all before last → IsLeft file header payloads all passed scan

-- nothing came by yet
pub walk_begins : (tells : Bool) (file : List ℕ) (before after last seen : ℕ) (items : List Entry) (scan : Scan) → seen ≡ before → items ≡ []
    → (IsTrue tells → (header : StoreHeader) (payloads : List (List ℕ)) (first : DurableWorld) (others : List (List ℕ)) → IsStoreFile file header payloads → BeginsWith header payloads first others → IsBehind file header payloads others scan)
    → Walk tells file before after last seen items scan
walk_begins tells file before after last seen items scan start none behind = record {
  passed = [];
  is = record { numbered = tt; counted = omega (arith, start); kept = none };
  log = λ h header payloads d first all log. record {
    others = log.log.others;
    behind = behind h header payloads first log.log.others log.file log.log.begins;
    left = all;
    spelled = log.log.spelled;
    parts = refl;
  };
}

-- where one more is wanted, there is one more payload
pub record HasMore (file : List ℕ) (header : StoreHeader) (all passed : List Entry) (scan : Scan) : Type 0 where
  pub done : List (List ℕ)
  pub payload : List ℕ
  pub more : List (List ℕ)
  pub scanned : IsScanned file (header_spelling header) done scan.at scan.end
  pub reads : Reads file (header_spelling header) (done ++ payload ∷ more)
  pub here : List Entry
  pub rest : List Entry
  pub parts : all ≡ passed ++ (here ++ rest)
  pub spelled : SpellsEntries header.format here payload
  pub behind : Spell header.format more rest
  pub format : scan.format ≡ header.format

module _ (file : List ℕ) (header : StoreHeader) (payloads : List (List ℕ)) (d first : DurableWorld) (all passed : List Entry) (before after last seen : ℕ) (items : List Entry) (scan : Scan) (log : IsLogOf file header payloads d first all before last) (is : Passed before after last seen items passed) where
  -- all are numbered from the first on, and there are enough
  all_numbered : AreNumbered (before + 1) all
  all_numbered = subst (λ n. AreNumbered (n + 1) all) log.begins (follow_numbered first d all log.log.follow).0

  all_counted : d.commits ≡ before + length all
  all_counted = let both = (follow_numbered first d all log.log.follow).1 in omega (arith, both, log.begins)

  pub has_more : seen < last → IsLeft file header payloads all passed scan → HasMore file header all passed scan
  has_more wants left = by_others left.others left.left left.parts left.behind left.spelled
    where
      by_others : (others : List (List ℕ)) (rest : List Entry) → all ≡ passed ++ rest → IsBehind file header payloads others scan → Spell header.format others rest → HasMore file header all passed scan
      by_others [] rest parts behind spelled =
          let long = ap length (parts ∙ ap (λ (es : List Entry). passed ++ es) spelled ∙ append-nil passed) in absurd (omega (arith, wants, log.enough, all_counted, long, is.counted))
      by_others (p ∷ ps) rest parts behind spelled = record {
        done = behind.done;
        payload = p;
        more = ps;
        scanned = behind.scanned;
        reads = subst (Reads file (header_spelling header)) behind.parts log.file.reads;
        here = spelled.0;
        rest = spelled.1.0;
        parts = parts ∙ ap (λ (es : List Entry). passed ++ es) spelled.1.1.0;
        spelled = spelled.1.1.1;
        behind = spelled.1.1.2;
        format = behind.format;
      }

  -- it has the numbers that come next
  pub more_numbered : (m : HasMore file header all passed scan) → AreNumbered (seen + 1) m.here
  more_numbered m =
      let right = numbered_right (before + 1) passed (m.here ++ m.rest) (subst (AreNumbered (before + 1)) m.parts all_numbered) in
      numbered_left (seen + 1) m.here m.rest (subst (λ n. AreNumbered n (m.here ++ m.rest)) (omega (arith, is.counted)) right)

  -- and where it is taken the others are left
  pub left_next : (m : HasMore file header all passed scan) (payload : List ℕ) (next : Scan) (entries : List Entry) → IsScanned file (header_spelling header) (m.done ++ payload ∷ []) next.at next.end → next.format ≡ scan.format → SpellsEntries scan.format entries payload
      → IsLeft file header payloads all (passed ++ entries) next
  left_next m payload next entries scanned format spelled =
      let both = scanned_next file (header_spelling header) (m.done ++ m.payload ∷ m.more) m.reads m.done payload m.payload m.more next.at next.end scanned refl in
      let same : m.here ≡ entries = entries_one header.format m.here entries m.payload m.spelled (subst (λ (p : List ℕ). SpellsEntries header.format entries p) both.0 (subst (λ n. SpellsEntries n entries payload) m.format spelled)) in
      record {
        others = m.more;
        behind = record { done = m.done ++ payload ∷ []; parts = one_payloads m ∙ both.1; scanned = scanned; format = format ∙ m.format };
        left = m.rest;
        spelled = m.behind;
        parts = m.parts ∙ ap (λ (es : List Entry). passed ++ (es ++ m.rest)) same ∙ sym (append_assoc passed entries m.rest);
      }
    where
      one_payloads : (m : HasMore file header all passed scan) → payloads ≡ m.done ++ m.payload ∷ m.more
      one_payloads m = one_reading file (header_spelling header) payloads (m.done ++ m.payload ∷ m.more) log.file.reads m.reads

  -- the payload that was scanned spells them
  pub taken_spelled : (m : HasMore file header all passed scan) (payload : List ℕ) (next : Scan) → IsScanned file (header_spelling header) (m.done ++ payload ∷ []) next.at next.end → SpellsEntries scan.format m.here payload
  taken_spelled m payload next scanned =
      let both = scanned_next file (header_spelling header) (m.done ++ m.payload ∷ m.more) m.reads m.done payload m.payload m.more next.at next.end scanned refl in
      subst (λ n. SpellsEntries n m.here payload) (sym m.format) (subst (λ (p : List ℕ). SpellsEntries header.format m.here p) (sym both.0) m.spelled)

  -- those that were kept are all that are in between
  pub all_kept : last ≤ seen → (left : List Entry) → all ≡ passed ++ left → items ≡ between after last all
  all_kept enough left parts =
      let right = numbered_right (before + 1) passed left (subst (AreNumbered (before + 1)) parts all_numbered) in
      let none = between_none after last (before + 1 + length passed) left right (omega (arith, enough, is.counted)) in
      is.kept ∙ sym (append-nil (between after last passed)) ∙ ap (λ (es : List Entry). between after last passed ++ es) (sym none) ∙ sym (filter-append (is_between after last) passed left) ∙ ap (between after last) (sym parts)

-- the next entries came by
pub passed_next : (before after last seen now_seen : ℕ) (items now_items passed entries : List Entry) → Passed before after last seen items passed → AreNumbered (seen + 1) entries → now_seen ≡ seen + length entries → now_items ≡ items ++ between after last entries
    → Passed before after last now_seen now_items (passed ++ entries)
passed_next before after last seen now_seen items now_items passed entries is numbered counted kept = record {
  numbered = numbered_both (before + 1) passed entries is.numbered (subst (λ n. AreNumbered n entries) (omega (arith, is.counted)) numbered);
  counted = omega (arith, is.counted, counted, length-append passed entries);
  kept = kept ∙ ap (λ (es : List Entry). es ++ between after last entries) is.kept ∙ sym (filter-append (is_between after last) passed entries);
}

-- they have their numbers
pub passed_numbered : (before after last seen : ℕ) (items passed : List Entry) → Passed before after last seen items passed → before ≤ after → after ≤ last → last ≤ seen → AreNumbered (after + 1) items × (length items ≡ last - after)
passed_numbered before after last seen items passed is behind order enough =
    let both = between_numbered after last (before + 1) passed is.numbered (omega (arith, behind)) order (omega (arith, enough, is.counted)) in
    (subst (AreNumbered (after + 1)) (sym is.kept) both.0, (let long = ap length is.kept in omega (arith, long, both.1, order)))

-- files that were looked at read as they did
pub reads_still : (old new : DiskHistory) (side : Side) → Looks old new → (now new side).reads ≡ (now old side).reads
reads_still old new side looks = ap (λ (d : Disk). d.reads) (looks.each new.clock side looks.later (omega arith))
