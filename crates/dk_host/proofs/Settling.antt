-- What a store's files hold while it is opened.
use Rattle.std.proofs.Common.{◌≡◌, ◌⊎◌, ⊎_elim, inl, inr, ℕ, ◌≤◌, List, [], ◌∷◌, length, map, Option, None, Some, Result, Ok, Err, IfErr, IsErrOf, refl, sym, ap, subst, ◌∙◌, arith}
use Rattle.std.specs.Cmp.{IsTotalOrder}
use Rattle.std.specs.declared.cmp.Ordering.{Ordering}
use Rattle.std.specs.FinMap.{FinMap, IsAntisymmetric, find, entries, entries_sorted, get, get-entries, get-empty, empty, same_map}
use Rattle.dk_types.specs.declared.number.TaskKey.{TaskKey}
use Rattle.dk_types.specs.declared.durable.Durable.{Durable}
use Rattle.dk_types.specs.declared.side.Side.{Side}
use Rattle.dk_types.specs.declared.side.Side.TheVariants.{Zero, One}
use Rattle.dk_types.specs.GameIds.{IsGameId}
use Rattle.dk_types.specs.Names.{bytes_cmp}
use Rattle.dk_disk.specs.Disk.{Disk, IsImage, settled}
use Rattle.dk_disk.specs.DiskHistories.{DiskHistory, now}
use Rattle.dk_disk.proofs.Images.{settled_only, settled_image}
use Rattle.dk_model.specs.DurableWorlds.{DurableWorld, Task, empty_world}
use Rattle.dk_model.specs.Effects.{with_set, pending_of, task_of}
use Rattle.dk_model.specs.Images.{world_lists}
use Rattle.dk_model.specs.Keys.{id_cmp, key_cmp}
use Rattle.dk_model.specs.Recovered.{HasDurable}
use Rattle.dk_model.specs.Stores.{StoreHeader, IsHeader, header_spelling, look}
use Rattle.dk_model.specs.Validity.{IsValid}
use Rattle.dk_model.proofs.Maps.{ids_total, exact_ids, keys_total, exact_keys, names_total, exact_names}
use Rattle.dk_laws.proofs.EffectsMade.{first_some, get-with_set}
use Rattle.dk_journal.specs.declared.journal.Journal.{Journal}
use Rattle.dk_journal.specs.declared.refused.JournalRefused.{JournalRefused}
use Rattle.dk_journal.specs.declared.refused.JournalRefused.TheVariants as journal_refused
use Rattle.dk_journal.specs.Moments.{Runs, HasSome, IsNewOrEmpty, IsAsRead}
use Rattle.dk_journal.specs.Ranks.{IsBlankBeside}
use Rattle.dk_journal.specs.Recoveries.{AllRecover, HasImage, HeldNeverFalls, Recovering, RecoverSince, IsEither, IsWorld}
use Rattle.dk_journal.specs.Refusals.{IsCreateFault}
use Rattle.dk_journal.specs.Standing.{IsReady, Stands}
use Rattle.dk_journal.proofs.Recoveries.{recovering_weakened, since_on, held_on}
use Rattle.dk_journal.proofs.Standings.{created, nothing, blank_looks}
use Rattle.dk_checkpoint.specs.Given.{IsGiven}
use Rattle.dk_checkpoint.proofs.Held.{same_held, now_held}
use Rattle.dk_recover.specs.Files.{OnlyReads, IsSettledFrom}
use Rattle.dk_core.specs.Listings.{world_of}
use Rattle.dk_host.specs.OpenedStores.{HasValidLists, HoldsStore, KeepsWorld}

-- a map is told by its entries, set one after another
set_back : {K X : Type 0} (R : K → K → Ordering) → IsTotalOrder R → IsAntisymmetric R → (m : FinMap R X) → with_set (entries m) empty ≡ m
unfolding first_some
set_back R total exact m = same_map total exact _ _ (λ q.
    get-with_set R total exact (entries m) (entries_sorted m) empty q ∙ ap (first_some (find R q (entries m))) (get-empty R q) ∙ first_only (find R q (entries m)) ∙ sym (get-entries m q))
  where
    first_only : {X : Type 0} (x : Option X) → first_some x None ≡ x
    first_only None = refl
    first_only (Some x) = refl

tasks_back : (es : List (TaskKey × Task)) → map task_of (map pending_of es) ≡ es
tasks_back [] = refl
tasks_back (e ∷ es) = ap (λ (l : List (TaskKey × Task)). e ∷ l) (tasks_back es)

-- the world of a world's lists
pub world_back : (d : DurableWorld) → world_of (world_lists d) ≡ d
world_back d i = record {
  objects = set_back id_cmp ids_total exact_ids d.objects i;
  names = set_back bytes_cmp names_total exact_names d.names i;
  tasks = (ap (λ es. with_set es empty) (tasks_back (entries d.tasks)) ∙ set_back key_cmp keys_total exact_keys d.tasks) i;
  commits = d.commits;
  last = d.last;
}

module _ (lists : Durable) (is : HasValidLists lists) where
  of_lists : world_of lists ≡ is.0
  of_lists = ap world_of is.2 ∙ world_back is.0

  pub lists_valid : IsValid (world_of lists)
  lists_valid = subst IsValid (sym of_lists) is.1

  pub lists_again : world_lists (world_of lists) ≡ lists
  lists_again = ap world_lists of_lists ∙ sym is.2

-- nothing is done
pub none_done : (P : DurableWorld → Type 0) (past : DiskHistory) → AllRecover P past past.clock → Recovering P past past
none_done P past now_all = record {
  later = omega arith;
  kept = λ t s le. refl;
  each = λ t from to. subst (λ k. AllRecover P past k) (omega (arith, from, to)) now_all;
}

-- files that were read and synced, with the world that they hold
module _ (old mid : DiskHistory) (start : ℕ) (is : IsSettledFrom start old mid) (d : DurableWorld) (has : HasDurable (now old Zero).reads (now old One).reads d) where
  still : RecoverSince (IsWorld d) start mid
  still t from to zero one left =
      let first : zero ≡ (now old Zero).reads = settled_only _ _ (subst (λ (x : Disk). IsImage x zero) (is.since t Zero from to) left.0) in
      let second : one ≡ (now old One).reads = settled_only _ _ (subst (λ (x : Disk). IsImage x one) (is.since t One from to) left.1) in
      (d, subst (λ (z : List ℕ). HasDurable z one d) (sym first) (subst (λ (o : List ℕ). HasDurable (now old Zero).reads o d) (sym second) has), refl)

  there : (t : ℕ) → start ≤ t → t ≤ mid.clock → HasImage mid t
  there t from to = (
    (now old Zero).reads,
    (now old One).reads,
    (
      subst (λ (x : Disk). IsImage x (now old Zero).reads) (sym (is.since t Zero from to)) (settled_image (now old Zero).reads),
      subst (λ (x : Disk). IsImage x (now old One).reads) (sym (is.since t One from to)) (settled_image (now old One).reads),
    ),
  )

  -- keep it while each image recovers to it
  pub keeps : (new : DiskHistory) → OnlyReads old mid → Recovering (IsWorld d) mid new → HeldNeverFalls mid.clock new → KeepsWorld d old new
  keeps new reads run held = record {
    start = start;
    from = is.from;
    to = omega (arith, is.to, run.later);
    kept = λ t s le. run.kept t s (omega (arith, le, reads.later)) ∙ reads.kept t s le;
    read = λ t s from to. subst (IsAsRead (now old s)) (sym (run.kept t s (omega (arith, to, is.to)))) (reads.each t s from (omega (arith, to, is.to)));
    rests = λ s. run.kept start s is.to ∙ is.since start s (omega arith) is.to;
    recovers = since_on (IsWorld d) start mid new still run;
    held = held_on start mid new is.to run.later run.kept (same_held d start mid still there) held;
  }

-- the header of a store that is made
abbrev pub first_header : List ℕ → StoreHeader
first_header game = record { game = game; epoch = 0; format = 2 }

pub first_fits : (game : List ℕ) → IsGameId game → IsHeader (first_header game)
first_fits game is = record { game = is; epoch = omega arith; format = inr refl }

module _ (old : DiskHistory) (ready : IsReady Zero old) (short : length (now old Zero).reads ≤ 65) (beside : IsBlankBeside old One) where
  none_yet : AllRecover (IsWorld empty_world) old old.clock
  none_yet zero one left =
      let first : zero ≡ (now old Zero).reads = settled_only _ _ (subst (λ (x : Disk). IsImage x zero) ready.settled left.0) in
      let second : one ≡ (now old One).reads = settled_only _ _ (subst (λ (x : Disk). IsImage x one) beside.settled left.1) in
      (empty_world, inr (nothing zero one (ap look first ∙ blank_looks (now old Zero).reads ready.blank) (ap look second ∙ beside.blank) (omega (arith, ap length first, short)), refl), refl)

  module _ (game : List ℕ) (new : DiskHistory) (run : Runs Zero (IsNewOrEmpty (header_spelling (first_header game))) old new) (some : Runs Zero HasSome old new) where
    making : IsGameId game → Recovering (IsWorld empty_world) old new
    making is = record {
      later = run.later;
      kept = run.kept;
      each = λ t from to zero one left. ⊎_elim
          (λ none. (empty_world, inr (none, refl), refl))
          (λ holds. (empty_world, inl holds, refl))
          (created Zero (first_header game) old new (first_fits game is) refl beside short run t from to zero one left);
    }

    making_held : IsGameId game → HeldNeverFalls old.clock new
    making_held is = same_held empty_world old.clock new (making is).each (λ t from to.
        let mine = some.each t from to in
        (mine.0, (now old One).reads, (mine.1, subst (λ (x : Disk). IsImage x (now old One).reads) (sym (run.other t from to ∙ beside.settled)) (settled_image (now old One).reads))))

    -- once it is made, it is a store of the empty world
    pub made : IsGameId game → (journal : Journal) → Stands Zero journal.length new (header_spelling (first_header game)) [] → journal.side ≡ Zero → journal.epoch ≡ 0 → journal.format ≡ 2 → HoldsStore new journal Zero game empty_world
    made is journal stands side epoch format =
        let other : now new One ≡ now old One = run.other new.clock run.later (omega arith) in
        record {
          header = first_header game;
          payloads = [];
          ours = refl;
          store = record {
            fits = first_fits game is;
            here = side;
            epoch = epoch;
            format = format;
            stands = stands;
            outranked = record { settled = other ∙ beside.settled ∙ ap (λ (x : Disk). settled x.reads) (sym other); lesser = inl (ap (λ (x : Disk). look x.reads) other ∙ beside.blank) };
            world = inl (refl, refl);
          };
        }

    -- whatever the answer is
    pub made_or_not : (r : Result Journal JournalRefused) → IfErr r IsCreateFault → (IsErrOf r journal_refused.NoMemory → new ≡ old) → ((IsErrOf r journal_refused.NoMemory → ⊥) → IsGameId game) → Recovering (IsWorld empty_world) old new × HeldNeverFalls old.clock new
    made_or_not (Ok journal) only same is = let game_is = is (λ err. cc) in (making game_is, making_held game_is)
    made_or_not (Err journal_refused.DiskFault) only same is = let game_is = is (λ err. cc) in (making game_is, making_held game_is)
    made_or_not (Err journal_refused.NoMemory) only same is =
        subst (λ (x : DiskHistory). Recovering (IsWorld empty_world) old x × HeldNeverFalls old.clock x) (sym (same refl)) (none_done (IsWorld empty_world) old none_yet, now_held old)
    made_or_not (Err (journal_refused.Full n)) only same is = absurd only
    made_or_not (Err (journal_refused.NotAStore at)) only same is = absurd only
    made_or_not (Err (journal_refused.Damaged at)) only same is = absurd only

-- what a checkpoint of the store's own world is given
module _ (past : DiskHistory) (journal : Journal) (side : Side) (game : List ℕ) (lists : Durable) (h : HoldsStore past journal side game (world_of lists)) (v : HasValidLists lists) where
  pub given : IsGiven past side journal lists h.header h.payloads (world_of lists) (world_of lists)
  given = record { store = h.store; listed = lists_again lists v; valid = lists_valid lists v }

-- one of two equal worlds is it
pub either_is : (d : DurableWorld) (old new : DiskHistory) → Recovering (IsEither d d) old new → Recovering (IsWorld d) old new
either_is d old new run = recovering_weakened (IsEither d d) (IsWorld d) old new (λ x either. ⊎_elim (λ (e : x ≡ d). e) (λ (e : x ≡ d). e) either) run
