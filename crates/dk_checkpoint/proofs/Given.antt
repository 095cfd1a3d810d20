-- What the two files recover to while one of them is made anew, and after it.
use Rattle.std.proofs.Common.{◌≡◌, inl, inr, ⊎_elim, ℕ, ◌+◌, ◌<◌, ◌≤◌, ◌^◌, List, ◌∷◌, length, refl, sym, ap, subst, ◌∙◌, arith}
use Rattle.dk_types.specs.declared.side.Side.{Side}
use Rattle.dk_types.specs.declared.durable.Durable.{Durable}
use Rattle.dk_types.specs.declared.limits.TheConstants.{NUMBERS_END}
use Rattle.dk_types.specs.GameIds.{IsGameId}
use Rattle.dk_disk.specs.Disk.{Disk, IsImage, settled}
use Rattle.dk_disk.specs.DiskHistories.{DiskHistory, now, other_side, MayLeave}
use Rattle.dk_model.specs.DurableWorlds.{DurableWorld}
use Rattle.dk_model.specs.Images.{SpellsImage, image_spelling}
use Rattle.dk_model.specs.Stores.{StoreHeader, IsHeader, header_spelling, Reads, look}
use Rattle.dk_model.specs.Recovered.{HasWorld, HasDurable, file_on}
use Rattle.dk_journal.specs.Moments.{Runs}
use Rattle.dk_journal.specs.Ranks.{IsLesser}
use Rattle.dk_journal.specs.Recoveries.{Recovering, IsEither, IsWorld, HeldNeverFalls}
use Rattle.dk_journal.specs.Stores.{HasStore}
use Rattle.dk_journal.specs.declared.journal.Journal.{Journal}
use Rattle.dk_journal.proofs.Seen.{live}
use Rattle.dk_journal.proofs.Standings.{holding, image_on, other_file, blank_looks}
use Rattle.dk_journal.proofs.Stores.{twice, store_recovers}
use Rattle.dk_image.proofs.ValidWorlds.{valid_spells}
use Rattle.dk_checkpoint.specs.Given.{IsGiven, IsReplacing, next_header, behind_gate, only_image}
use Rattle.dk_journal.proofs.Recoveries.{recovering_weakened}
use Rattle.dk_disk.proofs.Images.{settled_image}
use Rattle.dk_checkpoint.proofs.Held.{same_held, first_file, second_file, both_left}
use Rattle.dk_checkpoint.proofs.Fresh.{fresh_reads, fresh_end, fresh_world}

-- the other file is as it was
pub stays_other : (side : Side) (P : Disk → Type 0) (old new : DiskHistory) → Runs side P old new → now new (other_side side) ≡ now old (other_side side)
stays_other side P old new run = run.other new.clock run.later (omega arith)

-- at each moment
pub left_alone : (side other : Side) (P : Disk → Type 0) (old new : DiskHistory) → other ≡ other_side side → Runs other P old new → (t : ℕ) → old.clock ≤ t → t ≤ new.clock → new.disks t side ≡ now old side
left_alone side other P old new is run t from to =
    subst (λ (s : Side). new.disks t s ≡ now old s) (ap other_side is ∙ twice side) (run.other t from to)

pub no_time : (side : Side) (past : DiskHistory) (t : ℕ) → past.clock ≤ t → t ≤ past.clock → past.disks t side ≡ now past side
no_time side past t from to = ap (λ k. past.disks k side) (omega (arith, from, to))

-- nothing was done
pub not_yet : (past : DiskHistory) (side : Side) (journal : Journal) (lists : Durable) (header : StoreHeader) (payloads : List (List ℕ)) (before given : DurableWorld) → IsGiven past side journal lists header payloads before given → Recovering (IsEither before given) past past
not_yet past side journal lists header payloads before given is = record {
  later = omega arith;
  kept = λ t s le. refl;
  each = λ t from to. subst (λ k. (zero one : List ℕ) → MayLeave past k zero one → (d : DurableWorld) × HasDurable zero one d × IsEither before given d) (omega (arith, from, to)) (λ zero one left. let it = store_recovers past side journal header payloads before is.store zero one left in (it.0, it.1, inl it.2));
}

module _ (past : DiskHistory) (side : Side) (journal : Journal) (lists : Durable) (header : StoreHeader) (payloads : List (List ℕ)) (before given : DurableWorld) (is : IsGiven past side journal lists header payloads before given) (game : List ℕ) (is_game : IsGameId game) (epoch : ℕ) (same_epoch : epoch ≡ header.epoch) (room : epoch + 1 < NUMBERS_END) (short : length (image_spelling lists) < 2 ^ 32) where
  abbrev Next : StoreHeader
  Next = next_header game header.epoch

  next_is : IsHeader (next_header game header.epoch)
  next_is = record { game = is_game; epoch = omega (arith, room, same_epoch); format = inr refl }

  spelled : SpellsImage 2 given (image_spelling lists)
  spelled = subst (λ (l : Durable). SpellsImage 2 given (image_spelling l)) is.listed (valid_spells given is.valid (subst (λ (l : Durable). length (image_spelling l) < 2 ^ 32) (sym is.listed) short))

  world : HasWorld (next_header game header.epoch) (only_image lists) given
  world = fresh_world (next_header game header.epoch) (image_spelling lists) given (omega arith) spelled is.valid

  new_reads : Reads (1 ∷ behind_gate (next_header game header.epoch) (image_spelling lists)) (header_spelling (next_header game header.epoch)) (only_image lists)
  new_reads = fresh_reads (next_header game header.epoch) next_is (image_spelling lists) short

  -- the file from before does not stand beside the new one
  below : (file : List ℕ) → file ≡ (now past side).reads → IsLesser (next_header game header.epoch) file
  below file same =
      inr (header, ap look same ∙ live (now past side).reads header payloads is.store.fits is.store.stands.reads, omega arith)

  -- while the other file is made anew
  pub recovering : (new : DiskHistory) → Runs (other_side side) (IsReplacing (now past (other_side side)).reads (1 ∷ behind_gate (next_header game header.epoch) (image_spelling lists))) past new → Recovering (IsEither before given) past new
  recovering new run = record {
    later = run.later;
    kept = run.kept;
    each = λ t from to zero one left.
        let mine : file_on side zero one ≡ (now past side).reads =
        subst (λ (s : Side). file_on s zero one ≡ (now past s).reads) (twice side) (other_file (other_side side) _ past new (subst (λ (s : Side). now past s ≡ settled (now past s).reads) (sym (twice side)) is.store.stands.settled) run t from to zero one left) in
        let old_stands : IsLesser header (file_on (other_side side) zero one) → (d : DurableWorld) × HasDurable zero one d × IsEither before given d =
        λ lesser. (before, inl (holding side zero one header payloads before is.store.fits (subst (λ (f : List ℕ). Reads f (header_spelling header) payloads) (sym mine) is.store.stands.reads) is.store.world lesser), inl refl) in
        ⊎_elim
        (λ (same : file_on (other_side side) zero one ≡ (now past (other_side side)).reads). old_stands (subst (IsLesser header) (sym same) is.store.outranked.lesser))
        (λ more. ⊎_elim
        (λ blank. old_stands (inl (blank_looks (file_on (other_side side) zero one) blank)))
        (λ (made : file_on (other_side side) zero one ≡ 1 ∷ behind_gate (next_header game header.epoch) (image_spelling lists)). (
          given,
          inl (holding (other_side side) zero one (next_header game header.epoch) (only_image lists) given next_is (subst (λ (f : List ℕ). Reads f (header_spelling (next_header game header.epoch)) (only_image lists)) (sym made) new_reads) world
              (subst (λ (s : Side). IsLesser (next_header game header.epoch) (file_on s zero one)) (sym (twice side)) (below (file_on side zero one) mine))),
          inr refl,
        ))
        more)
        ((run.each t from to).0 (file_on (other_side side) zero one) (image_on (other_side side) new t zero one left));
  }

  -- and once it is made
  pub stands_anew : (new : DiskHistory) (P : Disk → Type 0) (made : Journal) → Runs (other_side side) P past new → now new (other_side side) ≡ settled (1 ∷ behind_gate (next_header game header.epoch) (image_spelling lists))
      → made.side ≡ other_side side → made.epoch ≡ epoch + 1 → made.format ≡ 2 → made.length ≡ 70 + length (image_spelling lists) → HasStore new (other_side side) made (next_header game header.epoch) (only_image lists) given
  stands_anew new P made run end here next format place =
      let other : now new (other_side (other_side side)) ≡ now past side = stays_other (other_side side) P past new run ∙ ap (now past) (twice side) in
      record {
        fits = next_is;
        here = here;
        epoch = next ∙ ap (λ n. n + 1) same_epoch;
        format = format;
        stands = record {
          settled = end ∙ ap (λ (d : Disk). settled d.reads) (sym end);
          reads = subst (λ (f : List ℕ). Reads f (header_spelling (next_header game header.epoch)) (only_image lists)) (ap (λ (d : Disk). d.reads) (sym end)) new_reads;
          place = place ∙ fresh_end (next_header game header.epoch) next_is (image_spelling lists) short;
        };
        outranked = record {
          settled = other ∙ is.store.stands.settled ∙ ap (λ (d : Disk). settled d.reads) (sym other);
          lesser = below (now new (other_side (other_side side))).reads (ap (λ (d : Disk). d.reads) other);
        };
        world = world;
      }

  -- by what the code has of these
  module _ (other : Side) (is_other : other ≡ other_side side) (behind : List ℕ) (is_behind : behind ≡ behind_gate (next_header game epoch) (image_spelling lists)) (new : DiskHistory) where
    behind_is : behind ≡ behind_gate (next_header game header.epoch) (image_spelling lists)
    behind_is = is_behind ∙ ap (λ n. behind_gate (next_header game n) (image_spelling lists)) same_epoch

    on_side : Runs other (IsReplacing (now past other).reads (1 ∷ behind)) past new → Runs (other_side side) (IsReplacing (now past (other_side side)).reads (1 ∷ behind_gate (next_header game header.epoch) (image_spelling lists))) past new
    on_side run =
        subst (λ (b : List ℕ). Runs (other_side side) (IsReplacing (now past (other_side side)).reads (1 ∷ b)) past new) behind_is
        (subst (λ (s : Side). Runs s (IsReplacing (now past s).reads (1 ∷ behind)) past new) is_other run)

    pub run_recovers : Runs other (IsReplacing (now past other).reads (1 ∷ behind)) past new → Recovering (IsEither before given) past new
    run_recovers run = recovering new (on_side run)

    pub made_stands : (made : Journal) → Runs other (IsReplacing (now past other).reads (1 ∷ behind)) past new → now new other ≡ settled (1 ∷ behind) → made.side ≡ other → made.epoch ≡ epoch + 1 → made.format ≡ 2 → made.length ≡ 1 + length behind → length behind ≡ 69 + length (image_spelling lists)
        → HasStore new other made (next_header game header.epoch) (only_image lists) given
    made_stands made run end here next format place long =
        subst (λ (s : Side). HasStore new s made (next_header game header.epoch) (only_image lists) given) (sym is_other)
        (stands_anew new _ made (on_side run) (subst (λ (s : Side). now new s ≡ settled (1 ∷ behind)) is_other end ∙ ap (λ (b : List ℕ). settled (1 ∷ b)) behind_is) (here ∙ is_other) next format (omega (arith, place, long)))

    -- where both worlds are one
    pub run_held : before ≡ given → Runs other (IsReplacing (now past other).reads (1 ∷ behind)) past new → HeldNeverFalls past.clock new
    run_held same run =
        let recovers = recovering_weakened (IsEither before given) (IsWorld given) past new (λ d either. ⊎_elim (λ (e : d ≡ before). e ∙ same) (λ (e : d ≡ given). e) either) (run_recovers run) in
        same_held given past.clock new recovers.each
        (λ t from to.
        let some = (run.each t from to).1 in
        let stands : IsImage (new.disks t (other_side other)) (now past side).reads =
        subst (λ (s : Side). IsImage (new.disks t s) (now past side).reads) (sym (ap other_side is_other ∙ twice side)) (subst (λ (d : Disk). IsImage d (now past side).reads) (sym (left_alone side other _ past new is_other run t from to ∙ is.store.stands.settled)) (settled_image (now past side).reads)) in
        (first_file other some.0 (now past side).reads, second_file other some.0 (now past side).reads, both_left other new t some.0 (now past side).reads some.1 stands))
