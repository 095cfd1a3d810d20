-- What opening a store answers, by what was recovered and what was made of it.
use Rattle.std.proofs.Common.{◌≡◌, ◌⊎◌, ⊎_elim, inl, inr, ℕ, ◌+◌, ◌<◌, ◌≤◌, ◌^◌, List, Result, Ok, Err, IfOk, IfErr, IsErrOf, refl, sym, ap, subst, ◌∙◌, arith}
use Rattle.dk_types.specs.declared.side.Side.TheVariants.{Zero}
use Rattle.dk_types.specs.declared.durable.Durable.{Durable}
use Rattle.dk_types.specs.declared.limits.TheConstants.{NUMBERS_END}
use Rattle.dk_disk.specs.DiskHistories.{DiskHistory}
use Rattle.dk_model.specs.DurableWorlds.{DurableWorld, empty_world}
use Rattle.dk_model.specs.Images.{world_lists}
use Rattle.dk_model.specs.Recovered.{HasDurable}
use Rattle.dk_model.specs.Stores.{StoreHeader, Standing, NoStore, StandsOn}
use Rattle.dk_journal.specs.declared.journal.Journal.{Journal}
use Rattle.dk_checkpoint.proofs.Held.{one_durable, durable_once}
use Rattle.dk_recover.specs.declared.recovery.Recovered.{Recovered}
use Rattle.dk_recover.specs.declared.fault.OpenFault.{OpenFault as RecoverFault}
use Rattle.dk_recover.specs.declared.fault.OpenFault.TheVariants as recover
use Rattle.dk_recover.specs.Recovery.{IsAnswer, IsNoStore, IsOurs, IsStore}
use Rattle.dk_recover.proofs.Recoveries.{accepts, one_side}
use Rattle.dk_core.specs.Listings.{world_of}
use Rattle.dk_host.specs.declared.fault.OpenFault.{OpenFault}
use Rattle.dk_host.specs.declared.fault.OpenFault.TheVariants.{NoMemory, DiskFault, NotAStore, WrongGame, Damaged, ImageTooLarge, EpochEnd}
use Rattle.dk_host.specs.declared.standing.Stood.{Stood}
use Rattle.dk_host.specs.OpenedStores.{image_length, HoldsStore, IsAnewFault, IsFaultOf, IsLeft, IsMade, IsMadeAnew, IsMakingFault, IsOlder, IsOpenAnswer, IsUnwritten, IsWorldOrDevice, MayBeAnew}
use Rattle.dk_host.proofs.Settling.{world_back}

-- where there was no store yet
module _ (zero one game : List ℕ) (past : DiskHistory) (found : Recovered) (is : IsNoStore zero one past found) where
  pub none_world : world_of found.durable ≡ empty_world
  none_world = ap world_of is.durable ∙ world_back empty_world

  none_ours : IsOurs zero one game
  none_ours side header stands = let both : NoStore ≡ StandsOn side header = sym is.not_yet ∙ stands in absurd cc

  pub none_answer : (r : Result Stood OpenFault) → IfOk r (IsMade found.durable) → IfErr r IsMakingFault → IsOpenAnswer zero one game r
  none_answer (Ok stood) made only = (
    none_ours,
    subst (λ lists. HasDurable zero one (world_of lists)) (sym made.lists) (inr (is.not_yet, none_world)),
    subst (λ (s : Standing). IsLeft s stood) (sym is.not_yet) (made.side, made.epoch, made.length_),
  )
  none_answer (Err NoMemory) made only = none_ours
  none_answer (Err DiskFault) made only = tt
  none_answer (Err (NotAStore side at)) made only = absurd only
  none_answer (Err (WrongGame other)) made only = absurd only
  none_answer (Err (Damaged side at)) made only = absurd only
  none_answer (Err (ImageTooLarge n)) made only = absurd only
  none_answer (Err (EpochEnd n)) made only = absurd only

  pub none_written : {P : Type 0} (r : Result Stood OpenFault) → IfErr r IsMakingFault → (IsErrOf r NoMemory → P) → IsUnwritten zero one r → P
  none_written (Ok stood) only memory current = let both : NoStore ≡ StandsOn current.0 current.1.0 = sym is.not_yet ∙ current.1.1 in absurd cc
  none_written (Err NoMemory) only memory un = memory refl
  none_written (Err DiskFault) only memory un = absurd un
  none_written (Err (NotAStore side at)) only memory un = absurd only
  none_written (Err (WrongGame other)) only memory un = absurd only
  none_written (Err (Damaged side at)) only memory un = absurd only
  none_written (Err (ImageTooLarge n)) only memory un = absurd only
  none_written (Err (EpochEnd n)) only memory un = absurd only

  -- its world is the one that was found
  pub none_stands : (new : DiskHistory) (r : Result Stood OpenFault) → IfOk r (λ stood. HoldsStore new stood.journal stood.side game empty_world) → IfOk r (IsMade found.durable) → IfOk r (λ stood. HoldsStore new stood.journal stood.side game (world_of stood.durable))
  none_stands new (Ok stood) holds made = subst (HoldsStore new stood.journal stood.side game) (sym (ap world_of made.lists ∙ none_world)) holds
  none_stands new (Err fault) holds made = tt

-- where a store stood
module _ (zero one game : List ℕ) (past : DiskHistory) (found : Recovered) (journal : Journal) (is : IsStore zero one game past found journal) where
  -- as it stood
  abbrev old : Stood
  old = record { journal = journal; side = found.side; durable = found.durable }

  store_world : world_of found.durable ≡ is.world
  store_world = ap world_of is.durable ∙ world_back is.world

  pub store_holds : HoldsStore past journal found.side game (world_of found.durable)
  store_holds = subst (HoldsStore past journal found.side game) (sym store_world) (record { header = is.header; payloads = is.holds.payloads; ours = is.ours; store = is.store })

  store_ours : IsOurs zero one game
  store_ours side header stands = ap (λ (h : StoreHeader). h.game) (sym (one_side zero one found.side side is.header header is.stands stands).1) ∙ is.ours

  store_durable : (lists : _) → lists ≡ found.durable → HasDurable zero one (world_of lists)
  store_durable lists same =
      subst (HasDurable zero one) (sym (ap world_of same ∙ store_world)) (inl (found.side, (is.header, is.stands, is.holds)))

  -- of the format that is written
  pub current_answer : journal.format ≡ 2 → IsOpenAnswer zero one game (Ok (record { journal = journal; side = found.side; durable = found.durable }))
  current_answer two = (
    store_ours,
    store_durable found.durable refl,
    subst (λ (s : Standing). IsLeft s old) (sym is.stands) (record { current = λ _. (refl, is.store.epoch); anew = λ older. absurd (omega (arith, two, older, is.store.format)) }),
  )

  module _ (other : journal.format ≡ 2 → ⊥) where
    older : is.header.format ≡ 1
    older = ⊎_elim (λ (first : is.header.format ≡ 1). first) (λ (second : is.header.format ≡ 2). absurd (other (is.store.format ∙ second))) is.store.fits.format

    is_older : IsOlder zero one is.header is.world
    is_older = record { side = found.side; stands = is.stands; holds = is.holds; older = older }

    -- written anew
    pub anew_answer : (r : Result Stood OpenFault) → IfOk r (IsMadeAnew (record { journal = journal; side = found.side; durable = found.durable })) → IfErr r IsAnewFault
        → ((n : ℕ) → IsErrOf r (ImageTooLarge n) → (n ≡ image_length found.durable) × (2 ^ 32 ≤ n))
        → ((n : ℕ) → IsErrOf r (EpochEnd n) → (n ≡ journal.epoch) × (NUMBERS_END ≤ n + 1) × (image_length found.durable < 2 ^ 32)) → IsOpenAnswer zero one game r
    anew_answer (Ok stood) made only large spent = (
      store_ours,
      store_durable stood.durable made.lists,
      subst (λ (s : Standing). IsLeft s stood) (sym is.stands) (record {
        current = λ two. absurd (other (is.store.format ∙ two));
        anew = λ _. (
          made.side,
          omega (arith, made.epoch, is.store.epoch),
          made.length_ ∙ ap (λ lists. 70 + image_length lists) (sym made.lists),
          subst (λ lists. image_length lists < 2 ^ 32) (sym made.lists) made.short,
        );
      }),
    )
    anew_answer (Err NoMemory) made only large spent = store_ours
    anew_answer (Err DiskFault) made only large spent = tt
    anew_answer (Err (ImageTooLarge n)) made only large spent =
        let is_large = large n refl in
        (store_ours, (is.header, (is.world, is_older, is_large.0 ∙ ap image_length is.durable, is_large.1)))
    anew_answer (Err (EpochEnd n)) made only large spent =
        let is_spent = spent n refl in
        (store_ours, (is.header, (is.world, is_older, subst (λ lists. image_length lists < 2 ^ 32) is.durable is_spent.2, is_spent.0 ∙ is.store.epoch, omega (arith, is_spent.0, is_spent.1, is.store.epoch, is.store.fits.epoch))))
    anew_answer (Err (NotAStore side at)) made only large spent = absurd only
    anew_answer (Err (WrongGame at)) made only large spent = absurd only
    anew_answer (Err (Damaged side at)) made only large spent = absurd only

    pub anew_written : {P : Type 0} (r : Result Stood OpenFault) → IfErr r (λ fault. (fault ≡ DiskFault) ⊎ P) → IsUnwritten zero one r → P
    anew_written {P = P} (Ok stood) untouched current =
        let same = one_side zero one found.side current.0 is.header current.1.0 is.stands current.1.1 in
        absurd (omega (arith, older, current.1.2, ap (λ (h : StoreHeader). h.format) same.1))
    anew_written {P = P} (Err fault) untouched un = ⊎_elim
        (λ (faulty : fault ≡ DiskFault). absurd (subst (λ (f : OpenFault). IsUnwritten zero one (Err f)) faulty un))
        (λ (p : P). p)
        untouched

-- a refusal to recover is handed on
pub refused_answer : (zero one game : List ℕ) (past : DiskHistory) (was : RecoverFault) (fault : OpenFault) → IsFaultOf was fault → IsAnswer zero one game past (Err was) → IsOpenAnswer zero one game (Err fault)
refused_answer zero one game past recover.NoMemory fault same is = subst (λ (f : OpenFault). IsOpenAnswer zero one game (Err f)) (sym same) is
refused_answer zero one game past recover.DiskFault fault same is = subst (λ (f : OpenFault). IsOpenAnswer zero one game (Err f)) (sym same) tt
refused_answer zero one game past (recover.NotAStore side at) fault same is = subst (λ (f : OpenFault). IsOpenAnswer zero one game (Err f)) (sym same) is
refused_answer zero one game past (recover.WrongGame found) fault same is = subst (λ (f : OpenFault). IsOpenAnswer zero one game (Err f)) (sym same) is
refused_answer zero one game past (recover.Damaged side at) fault same is = subst (λ (f : OpenFault). IsOpenAnswer zero one game (Err f)) (sym same) is

-- files that hold a world are not refused by their bytes
module _ (zero one game : List ℕ) (past : DiskHistory) (d : DurableWorld) (has : HasDurable zero one d) (our : IsOurs zero one game) (may : MayBeAnew zero one d) where
  -- an older store that stands has this world
  same_world : (header : StoreHeader) (e : DurableWorld) → IsOlder zero one header e → IsOlder zero one header d
  same_world header e older = subst (IsOlder zero one header) (sym (one_durable zero one d e has (older.side, (header, older.stands, older.holds)))) older

  pub is_accepted : (r : Result Stood OpenFault) → IsOpenAnswer zero one game r → IsWorldOrDevice d r
  is_accepted (Ok stood) is = durable_once zero one (world_of stood.durable) d is.1 has
  is_accepted (Err NoMemory) is = tt
  is_accepted (Err DiskFault) is = tt
  is_accepted (Err (NotAStore side at)) is = accepts zero one d game past has our (Err (recover.NotAStore side at)) is
  is_accepted (Err (WrongGame found)) is = accepts zero one d game past has our (Err (recover.WrongGame found)) is
  is_accepted (Err (Damaged side at)) is = accepts zero one d game past has our (Err (recover.Damaged side at)) is
  is_accepted (Err (ImageTooLarge n)) is =
      let too = is.1.1.1 in
      let same = one_durable zero one d is.1.1.0 has (too.side, (is.1.0, too.stands, too.holds)) in
      let short = (may is.1.0 (same_world is.1.0 is.1.1.0 too)).0 in
      omega (arith, is.1.1.2, is.1.1.3, short, ap (λ (x : DurableWorld). image_length (world_lists x)) same)
  is_accepted (Err (EpochEnd n)) is =
      let room = (may is.1.0 (same_world is.1.0 is.1.1.0 is.1.1.1)).1 in
      omega (arith, is.1.1.3, is.1.1.4, room)

-- nothing was written where a refusal to recover is no fault of the disk
pub refused_reads : (zero one : List ℕ) (was : RecoverFault) (fault : OpenFault) → IsFaultOf was fault → IsUnwritten zero one (Err fault) → was ≡ recover.DiskFault → ⊥
refused_reads zero one was fault same un is =
    let told : fault ≡ DiskFault = subst (λ (w : RecoverFault). IsFaultOf w fault) is same in subst (λ (f : OpenFault). IsUnwritten zero one (Err f)) told un

-- what holds of the lists that were found holds of those that are given
pub given_on : (P : Durable → Type 0) (Q : Stood → Type 0) (lists : Durable) (r : Result Stood OpenFault) → IfOk r (λ stood. (stood.durable ≡ lists) × Q stood) → P lists → IfOk r (λ stood. P stood.durable)
given_on P Q lists (Ok stood) same has = subst P (sym same.0) has
given_on P Q lists (Err fault) same has = tt

pub given_both : (P : Durable → Type 0) (Q : Stood → Type 0) (lists : Durable) (r : Result Stood OpenFault) → IfOk r (λ stood. (stood.durable ≡ lists) × Q stood) → P lists → IfOk r (λ stood. P stood.durable × Q stood)
given_both P Q lists (Ok stood) same has = (subst P (sym same.0) has, same.1)
given_both P Q lists (Err fault) same has = tt
