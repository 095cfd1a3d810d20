-- What recovering answers, by what was found and read.
use Rattle.std.proofs.Common.{◌≡◌, ⊎_elim, inl, inr, ℕ, ◌≤◌, leb, ltb, true, false, if◌then◌else◌, take, length, List, Option, Some, None, Result, Ok, Err, IfOk, IfErr, MatchResult, refl, sym, ap, subst, ◌∙◌, arith}
use Rattle.std.proofs.lemmas.Bool.{false≢true, leb-true}
use Rattle.std.specs.Prelude.{IfSome}
use Rattle.std.specs.Result.{IsErr, IsErrAnd}
use Rattle.dk_types.specs.declared.side.Side.{Side}
use Rattle.dk_types.specs.declared.side.Side.TheVariants.{Zero, One}
use Rattle.dk_types.specs.declared.durable.Durable.{Durable}
use Rattle.dk_disk.specs.Disk.{Disk, settled}
use Rattle.dk_disk.specs.DiskHistories.{DiskHistory, now, other_side}
use Rattle.dk_model.specs.DurableWorlds.{DurableWorld, empty_world}
use Rattle.dk_model.specs.Images.{world_lists}
use Rattle.dk_model.specs.Validity.{IsValid}
use Rattle.dk_model.specs.Stores.{StoreHeader, header_spelling, Look, Blank, Live, Faulty, look, look_of_header, header_fault, is_blank, NoStore, StandsOn, NoneStands, standing, standing_of, Reads}
use Rattle.dk_model.specs.Recovered.{HasWorld, HoldsWorld, HasDurable, IsDamaged, Recovers, Holding, NotYet, file_on}
use Rattle.dk_model.specs.Recovered as files
use Rattle.dk_image.proofs.Worlds.{one_world, world_valid, empty_valid}
use Rattle.dk_journal.specs.Headers.{store_header}
use Rattle.dk_journal.specs.Ranks.{IsLesser}
use Rattle.dk_journal.specs.declared.header.Header.{Header}
use Rattle.dk_journal.specs.declared.journal.Journal.{Journal}
use Rattle.dk_journal.specs.declared.scan.Scan.{Scan}
use Rattle.dk_journal.proofs.Readings.{one_reading}
use Rattle.dk_journal.proofs.Outranked.{outranks}
use Rattle.dk_recover.specs.Files.{Settles}
use Rattle.dk_recover.specs.Recovery.{IsOurs, IsOfOther, IsStore, IsNoStore, IsFound, IsAnswer, IsOfDevice, HasValidWorld, IsOnItsSide}
use Rattle.dk_recover.specs.Records.{IsWhole}
use Rattle.dk_recover.specs.Stood.{IsStanding, IsStood, IsStandingFault}
use Rattle.dk_recover.specs.declared.fault.OpenFault.{OpenFault}
use Rattle.dk_recover.specs.declared.fault.OpenFault.TheVariants.{NoMemory, DiskFault, NotAStore, WrongGame, Damaged}
use Rattle.dk_recover.specs.declared.recovery.Recovered.{Recovered}
use Rattle.dk_recover.proofs.Undamaged.{not_damaged}

-- both files as they are in the end
pub settled_now : (old new : DiskHistory) → Settles old new → (s : Side) → now new s ≡ settled (now old s).reads
settled_now old new is s = is.1.since new.clock s is.1.to (omega arith)

pub side_file : (past : DiskHistory) (s : Side) → file_on s (now past Zero).reads (now past One).reads ≡ (now past s).reads
side_file past Zero = refl
side_file past One = refl

-- one store stands
pub one_side : (z o : List ℕ) (s t : Side) (h k : StoreHeader) → standing z o ≡ StandsOn s h → standing z o ≡ StandsOn t k → (s ≡ t) × (h ≡ k)
one_side z o s t h k a b =
    let both : StandsOn s h ≡ StandsOn t k = sym a ∙ b in
    let sides : s ≡ t = cc in
    let headers : h ≡ k = cc in
    (sides, headers)

-- no store is there yet only beside two blank files, the first of them short
none_stands_of : (n : ℕ) (a b : Look) → standing_of n a b ≡ NoStore → (a ≡ Blank) × (b ≡ Blank) × (n ≤ 65)
none_stands_of n (Faulty at) b is = absurd cc
none_stands_of n Blank (Faulty at) is = absurd cc
none_stands_of n (Live x) (Faulty at) is = absurd cc
none_stands_of n (Live x) Blank is = absurd cc
none_stands_of n Blank (Live k) is = absurd cc
none_stands_of n Blank Blank is =
    elim (leb n 65) as (λ c. leb n 65 ≡ c → (if c then NoStore else NoneStands Zero 0) ≡ NoStore → (Blank ≡ Blank) × (Blank ≡ Blank) × (n ≤ 65)) [ true ↦ λ short _. (refl, refl, leb-true n 65 short) | false ↦ λ _ no. absurd cc ] refl is
none_stands_of n (Live x) (Live k) is =
    elim (ltb k.epoch x.epoch) as (λ c. (if c then StandsOn Zero x else if ltb x.epoch k.epoch then StandsOn One k else NoneStands One 11) ≡ NoStore → (Live x ≡ Blank) × (Live k ≡ Blank) × (n ≤ 65)) [
      | true ↦ λ no. absurd cc
      | false ↦ λ rest. elim (ltb x.epoch k.epoch) as (λ c. (if c then StandsOn One k else NoneStands One 11) ≡ NoStore → (Live x ≡ Blank) × (Live k ≡ Blank) × (n ≤ 65)) [ true ↦ λ no. absurd cc | false ↦ λ no. absurd cc ] rest
    ] is

headed : (bytes : List ℕ) (fault : Option ℕ) → look_of_header bytes fault ≡ Blank → ⊥
headed bytes None is = absurd cc
headed bytes (Some at) is = absurd cc

blank_is : (file : List ℕ) → look file ≡ Blank → is_blank file ≡ true
blank_is file is =
    elim (is_blank file) as (λ c. (if c then Blank else if ltb (length file) 65 then Faulty 0 else look_of_header (take 64 file) (header_fault (take 64 file))) ≡ Blank → c ≡ true) [
      | true ↦ λ _. refl
      | false ↦ λ rest. absurd (elim (ltb (length file) 65) as (λ c. (if c then Faulty 0 else look_of_header (take 64 file) (header_fault (take 64 file))) ≡ Blank → ⊥) [ true ↦ λ no. absurd cc | false ↦ λ no. headed (take 64 file) (header_fault (take 64 file)) no ] rest)
    ] is

module _ (z o game : List ℕ) (header : Header) (scan : Scan) (is : IsStanding z o header scan) where
  pub of_other : (header.game ≡ game → ⊥) → IsOfOther z o game header.game
  of_other other = (scan.side, store_header header, is.stands, refl, other)

  pub ours : header.game ≡ game → IsOurs z o game
  ours same side k stands = ap (λ (h : StoreHeader). h.game) (sym (one_side z o scan.side side (store_header header) k is.stands stands).1) ∙ same

  damaged : (side : Side) (at : ℕ) → side ≡ scan.side → IsDamaged (file_on scan.side z o) (store_header header) at → Recovers z o (files.Damaged side at)
  damaged side at same bad = subst (λ (s : Side). Recovers z o (files.Damaged s at)) (sym same) (store_header header, is.stands, bad)

module _ (z o game : List ℕ) (header : Header) (scan : Scan) (is : IsStanding z o header scan) (same : header.game ≡ game) (past : DiskHistory) where
  pub refused : (fault : OpenFault) → IsWhole (file_on scan.side z o) (store_header header) (Err fault) → ((side : Side) (at : ℕ) → fault ≡ Damaged side at → side ≡ scan.side) → IsAnswer z o game past (Err fault)
  refused (Damaged side at) bad here = (ours z o game header scan is same, damaged z o game header scan is side at (here side at refl) bad)
  refused NoMemory bad here = ours z o game header scan is same
  refused DiskFault bad here = tt
  refused (NotAStore side at) bad here = absurd bad
  refused (WrongGame found) bad here = absurd bad

  pub recovered : (world : DurableWorld) (journal : Journal) (durable : Durable) (side : Side) (format : ℕ) → IsWhole (file_on scan.side z o) (store_header header) (Ok (world, journal)) → (journal.side ≡ scan.side) × (journal.epoch ≡ scan.epoch) × (journal.format ≡ scan.format)
      → ((s : Side) → now past s ≡ settled (file_on s z o)) → durable ≡ world_lists world → side ≡ scan.side → format ≡ scan.format → IsAnswer z o game past (Ok (record { durable = durable; store = Some journal; side = side; format = format }))
  recovered world journal durable side format whole journal_is at lists side_is format_is =
      let reads : (s : Side) → (now past s).reads ≡ file_on s z o = λ s. ap (λ (d : Disk). d.reads) (at s) in
      let rests : (s : Side) → now past s ≡ settled (now past s).reads = λ s. at s ∙ ap settled (sym (reads s)) in
      let store : IsStore z o game past (record { durable = durable; store = Some journal; side = scan.side; format = format }) journal = record {
        header = store_header header;
        world = world;
        stands = is.stands;
        ours = same;
        holds = record { payloads = whole.0; reads = whole.1; world = whole.2 };
        durable = lists;
        format = format_is ∙ is.opened.format;
        store = record {
          fits = is.opened.fits;
          here = journal_is.0;
          epoch = journal_is.1 ∙ is.opened.epoch;
          format = journal_is.2 ∙ is.opened.format;
          stands = record {
            settled = rests scan.side;
            reads = subst (λ (f : List ℕ). Reads f (header_spelling (store_header header)) whole.0) (sym (reads scan.side)) whole.1;
            place = whole.3;
          };
          outranked = record {
            settled = rests (other_side scan.side);
            lesser = subst (IsLesser (store_header header)) (sym (reads (other_side scan.side))) (outranks scan.side (store_header header) z o is.stands).1;
          };
          world = whole.2;
        };
      } in
      subst (λ (s : Side). IsStore z o game past (record { durable = durable; store = Some journal; side = s; format = format }) journal) (sym side_is) store

module _ (z o game : List ℕ) (past : DiskHistory) where
  pub none_stands : (fault : OpenFault) → IsStood z o (Err fault) → IsStandingFault fault → IsAnswer z o game past (Err fault)
  none_stands (NotAStore side at) is only = is
  none_stands DiskFault is only = tt
  none_stands NoMemory is only = absurd only
  none_stands (WrongGame found) is only = absurd only
  none_stands (Damaged side at) is only = absurd only

  pub no_store : (result : Result Recovered OpenFault) → standing z o ≡ NoStore → ((s : Side) → now past s ≡ settled (file_on s z o)) → IfOk result (λ found. (found.store ≡ None) × (found.durable ≡ world_lists empty_world) × (found.side ≡ Zero) × (found.format ≡ 2))
      → IfErr result (λ fault. fault ≡ NoMemory) → IsAnswer z o game past result
  no_store (Ok found) none at new only =
      let blanks = none_stands_of (length z) (look z) (look o) none in
      let reads : (s : Side) → (now past s).reads ≡ file_on s z o = λ s. ap (λ (d : Disk). d.reads) (at s) in
      let rests : (s : Side) → now past s ≡ settled (now past s).reads = λ s. at s ∙ ap settled (sym (reads s)) in
      let is : IsNoStore z o past found = record {
        not_yet = none;
        durable = new.1;
        side = new.2;
        format = new.3;
        ready = record { settled = rests Zero; blank = ap is_blank (reads Zero) ∙ blank_is z blanks.0 };
        short = omega (arith, blanks.2, ap length (reads Zero));
        beside = record { settled = rests One; blank = ap look (reads One) ∙ blanks.1 };
      } in
      subst (IsFound z o game past found) (sym new.0) is
  no_store (Err fault) none at new only = subst (λ (f : OpenFault). IsAnswer z o game past (Err f)) (sym only) (λ side h stands. let both : NoStore ≡ StandsOn side h = sym none ∙ stands in absurd cc)

-- a file has one world
pub one_held : (file : List ℕ) (header : StoreHeader) (d e : DurableWorld) → HoldsWorld file header d → HoldsWorld file header e → d ≡ e
one_held file header d e a b =
    one_world header b.payloads d e (subst (λ (ps : List (List ℕ)). HasWorld header ps d) (one_reading file (header_spelling header) a.payloads b.payloads a.reads b.reads) a.world) b.world

module _ (z o : List ℕ) (d : DurableWorld) where
  -- the store that stands holds it
  held_on : HasDurable z o d → (side : Side) (h : StoreHeader) → standing z o ≡ StandsOn side h → HoldsWorld (file_on side z o) h d
  held_on has side h stands = ⊎_elim
      (λ (there : Recovers z o (Holding d)).
      let same = one_side z o there.0 side there.1.0 h there.1.1 stands in
      subst (λ (k : StoreHeader). HoldsWorld (file_on side z o) k d) same.1 (subst (λ (s : Side). HoldsWorld (file_on s z o) there.1.0 d) same.0 there.1.2))
      (λ none. let both : NoStore ≡ StandsOn side h = sym none.0 ∙ stands in absurd cc)
      has

  none_held : HasDurable z o d → standing z o ≡ NoStore → d ≡ empty_world
  none_held has none = ⊎_elim (λ (there : Recovers z o (Holding d)). let both : NoStore ≡ StandsOn there.0 there.1.0 = sym none ∙ there.1.1 in absurd cc) (λ empty. empty.1) has

  no_place : HasDurable z o d → (side : Side) (at : ℕ) → standing z o ≡ NoneStands side at → ⊥
  no_place has side at none = ⊎_elim
      (λ (there : Recovers z o (Holding d)). let both : NoneStands side at ≡ StandsOn there.0 there.1.0 = sym none ∙ there.1.1 in absurd cc)
      (λ empty. let both : NoneStands side at ≡ NoStore = sym none ∙ empty.0 in absurd cc)
      has

  module _ (game : List ℕ) (past : DiskHistory) (has : HasDurable z o d) (our : IsOurs z o game) where
    found_lists : (found : Recovered) (store : Option Journal) → IsFound z o game past found store → found.durable ≡ world_lists d
    found_lists found None is = is.durable ∙ ap world_lists (sym (none_held has is.not_yet))
    found_lists found (Some journal) is = is.durable ∙ ap world_lists (one_held (file_on found.side z o) is.header is.world d is.holds (held_on has found.side is.header is.stands))

    pub accepts : (result : Result Recovered OpenFault) → IsAnswer z o game past result → MatchResult result (λ found. found.durable ≡ world_lists d) IsOfDevice
    accepts (Ok found) is = found_lists found found.store is
    accepts (Err (NotAStore side at)) is = no_place has side at is
    accepts (Err (WrongGame found)) is = is.4 (sym is.3 ∙ our is.0 is.1 is.2)
    accepts (Err (Damaged side at)) is = not_damaged (file_on side z o) is.1.0 d at (held_on has side is.1.0 is.1.1) is.1.2
    accepts (Err NoMemory) is = tt
    accepts (Err DiskFault) is = tt

module _ (z o game : List ℕ) (past : DiskHistory) where
  found_holds : (found : Recovered) (store : Option Journal) → IsFound z o game past found store → (d : DurableWorld) × HasDurable z o d × IsValid d × (found.durable ≡ world_lists d)
  found_holds found None is = (empty_world, inr (is.not_yet, refl), empty_valid, is.durable)
  found_holds found (Some journal) is = (is.world, inl (found.side, (is.header, is.stands, is.holds)), world_valid is.header is.holds.payloads is.world is.holds.world, is.durable)

  pub holds : (result : Result Recovered OpenFault) → IsAnswer z o game past result → IfOk result (λ found. (d : DurableWorld) × HasDurable z o d × IsValid d × (found.durable ≡ world_lists d))
  holds (Ok found) is = found_holds found found.store is
  holds (Err fault) is = tt

-- a refusal that is handed on
pub handed_on : (fault : OpenFault) (r : Result Recovered OpenFault) → IsErr r → IsErrAnd r (λ f. f ≡ fault) → r ≡ Err fault
handed_on fault (Ok found) err same = absurd (false≢true err)
handed_on fault (Err f) err same = ap Err same

-- files that were settled read as before
module _ (P : List ℕ → List ℕ → Type 0) (old new : DiskHistory) (is : Settles old new) where
  same_reads : (s : Side) → (now new s).reads ≡ (now old s).reads
  same_reads s = ap (λ (d : Disk). d.reads) (settled_now old new is s)

  pub onward : P (now old Zero).reads (now old One).reads → P (now new Zero).reads (now new One).reads
  onward has = subst (λ (o : List ℕ). P (now new Zero).reads o) (sym (same_reads One)) (subst (λ (z : List ℕ). P z (now old One).reads) (sym (same_reads Zero)) has)

  pub backward : P (now new Zero).reads (now new One).reads → P (now old Zero).reads (now old One).reads
  backward has = subst (λ (o : List ℕ). P (now old Zero).reads o) (same_reads One) (subst (λ (z : List ℕ). P z (now new One).reads) (same_reads Zero) has)

pub at_rest : (old new : DiskHistory) → Settles old new → (s : Side) → now new s ≡ settled (now new s).reads
at_rest old new is s = settled_now old new is s ∙ ap settled (sym (ap (λ (d : Disk). d.reads) (settled_now old new is s)))

-- where there is no store yet
pub first_valid : (r : Result Recovered OpenFault) → IfOk r (λ found. (found.store ≡ None) × (found.durable ≡ world_lists empty_world) × (found.side ≡ Zero) × (found.format ≡ 2)) → IfOk r HasValidWorld
first_valid (Ok found) is = (empty_world, empty_valid, is.1)
first_valid (Err fault) is = tt

pub first_side : (r : Result Recovered OpenFault) → IfOk r (λ found. (found.store ≡ None) × (found.durable ≡ world_lists empty_world) × (found.side ≡ Zero) × (found.format ≡ 2)) → IfOk r IsOnItsSide
first_side (Ok found) is = subst (λ (s : Option Journal). IfSome s (λ journal. journal.side ≡ found.side)) (sym is.0) tt
first_side (Err fault) is = tt
