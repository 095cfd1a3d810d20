-- What is held does not fall while a record is appended, nor while one world is written anew.
use Rattle.std.proofs.Common.{◌≡◌, ⊎_elim, inl, inr, ℕ, ◌<◌, ◌≤◌, List, [], ◌∷◌, ◌++◌, length, refl, sym, ◌∙◌, ap, subst, arith, length-append}
use Rattle.std.proofs.lemmas.Bool.{cases_lt}
use Rattle.std.proofs.lemmas.List.{append-nil}
use Rattle.dk_types.specs.declared.side.Side.{Side}
use Rattle.dk_types.specs.declared.side.Side.TheVariants.{Zero, One}
use Rattle.dk_types.specs.declared.durable.Entry.{Entry}
use Rattle.dk_disk.specs.Disk.{Disk, IsImage}
use Rattle.dk_disk.specs.DiskHistories.{DiskHistory, now, other_side, MayLeave}
use Rattle.dk_disk.proofs.Images.{settled_image}
use Rattle.dk_model.specs.DurableWorlds.{DurableWorld}
use Rattle.dk_model.specs.Effects.{after}
use Rattle.dk_model.specs.Stores.{StoreHeader, IsHeader, header_spelling, Reads, NoStore, StandsOn}
use Rattle.dk_model.specs.Recovered.{Follow, Takes, HasWorld, HoldsWorld, HasDurable, Recovers, Holding, file_on}
use Rattle.dk_journal.specs.Moments.{Runs, Holds, HasOrNot, NeverFalls}
use Rattle.dk_journal.specs.Ranks.{IsLesser, IsOutranked}
use Rattle.dk_journal.specs.Recoveries.{HeldNeverFalls, IsHeld, IsWorld, RecoverSince, HasImage}
use Rattle.dk_journal.proofs.Readings.{one_reading}
use Rattle.dk_journal.proofs.Standings.{holding, image_on, other_file}
use Rattle.dk_image.proofs.Worlds.{one_world}

-- a file has one world
pub one_held : (file : List ℕ) (header : StoreHeader) (d e : DurableWorld) → HoldsWorld file header d → HoldsWorld file header e → d ≡ e
one_held file header d e a b =
    one_world header b.payloads d e (subst (λ (ps : List (List ℕ)). HasWorld header ps d) (one_reading file (header_spelling header) a.payloads b.payloads a.reads b.reads) a.world) b.world

-- two files that hold a world have no other one
pub one_durable : (zero one : List ℕ) (a d : DurableWorld) → HasDurable zero one a → Recovers zero one (Holding d) → a ≡ d
one_durable zero one a d has it = ⊎_elim
    (λ (there : Recovers zero one (Holding a)).
    let both : StandsOn there.0 there.1.0 ≡ StandsOn it.0 it.1.0 = sym there.1.1 ∙ it.1.1 in
    let side : there.0 ≡ it.0 = cc in
    let header : there.1.0 ≡ it.1.0 = cc in
    one_held (file_on it.0 zero one) it.1.0 a d (subst (λ (k : StoreHeader). HoldsWorld (file_on it.0 zero one) k a) header (subst (λ (s : Side). HoldsWorld (file_on s zero one) there.1.0 a) side there.1.2)) it.1.2)
    (λ none. let both : NoStore ≡ StandsOn it.0 it.1.0 = sym none.0 ∙ it.1.1 in absurd cc)
    has

-- nor have two files that hold none yet
pub durable_once : (zero one : List ℕ) (a b : DurableWorld) → HasDurable zero one a → HasDurable zero one b → a ≡ b
durable_once zero one a b x y = ⊎_elim
    (λ (held_b : Recovers zero one (Holding b)). one_durable zero one a b x held_b)
    (λ none_b. ⊎_elim
    (λ (held_a : Recovers zero one (Holding a)). sym (one_durable zero one b a (inr none_b) held_a))
    (λ none_a. none_a.1 ∙ sym none_b.1)
    x)
    y

-- while each image recovers to one world
pub same_held : (world : DurableWorld) (start : ℕ) (past : DiskHistory) → RecoverSince (IsWorld world) start past → ((t : ℕ) → start ≤ t → t ≤ past.clock → HasImage past t) → HeldNeverFalls start past
same_held world start past all some t later n from le to held zero one left =
    let x = some t from (omega (arith, le, to)) in
    let it = held x.0 x.1 x.2 in
    let here = all t from (omega (arith, le, to)) x.0 x.1 x.2 in
    let same : it.0 ≡ world = durable_once x.0 x.1 it.0 here.0 it.1 here.1 ∙ here.2 in
    let end = all later (omega (arith, from, le)) to zero one left in
    (end.0, end.1, omega (arith, it.2, ap (λ (w : DurableWorld). w.commits) same, ap (λ (w : DurableWorld). w.commits) end.2))

-- while no time goes on
pub now_held : (past : DiskHistory) → HeldNeverFalls past.clock past
now_held past t later n from le to held = subst (λ k. IsHeld past k n) (omega (arith, from, le, to)) held

-- the two files, by the one on a side and the other
abbrev pub first_file : Side → List ℕ → List ℕ → List ℕ
first_file Zero mine other = mine
first_file One mine other = other

abbrev pub second_file : Side → List ℕ → List ℕ → List ℕ
second_file Zero mine other = other
second_file One mine other = mine

pub both_left : (side : Side) (past : DiskHistory) (t : ℕ) (mine other : List ℕ) → IsImage (past.disks t side) mine → IsImage (past.disks t (other_side side)) other → MayLeave past t (first_file side mine other) (second_file side mine other)
both_left Zero past t mine other a b = (a, b)
both_left One past t mine other a b = (b, a)

mine_is : (side : Side) (mine other : List ℕ) → file_on side (first_file side mine other) (second_file side mine other) ≡ mine
mine_is Zero mine other = refl
mine_is One mine other = refl

-- commits are counted up
follow_more : (d e : DurableWorld) (entries : List Entry) → Follow d entries e → d.commits ≤ e.commits
follow_more d e [] same = omega (arith, ap (λ (w : DurableWorld). w.commits) same)
follow_more d e (x ∷ xs) follow = omega (arith, follow.0.seq, follow_more (after x d) e xs follow.1)

pub takes_more : (format : ℕ) (d e : DurableWorld) (payload : List ℕ) → Takes format d payload e → d.commits ≤ e.commits
takes_more format d e payload takes = follow_more d e takes.entries takes.follow

module _ (side : Side) (h : StoreHeader) (payloads : List (List ℕ)) (payload : List ℕ) (d e : DurableWorld) (old new : DiskHistory) (is : IsHeader h) (rank : IsOutranked h old (other_side side)) (world : HasWorld h payloads d) (next : HasWorld h (payloads ++ payload ∷ []) e) (more : d.commits ≤ e.commits)
    (run : Runs side (HasOrNot (header_spelling h) payloads payload) old new) (falls : NeverFalls (header_spelling h) side old.clock new) where
  lesser_at : (t : ℕ) → old.clock ≤ t → t ≤ new.clock → (zero one : List ℕ) → MayLeave new t zero one → IsLesser h (file_on (other_side side) zero one)
  lesser_at t from to zero one left = subst (IsLesser h) (sym (other_file side _ old new rank.settled run t from to zero one left)) rank.lesser

  -- an image of this side that has a world, beside the other file
  counted : (t n : ℕ) → old.clock ≤ t → t ≤ new.clock → IsHeld new t n → (image : List ℕ) → IsImage (new.disks t side) image → (ps : List (List ℕ)) (w : DurableWorld) → Reads image (header_spelling h) ps → HasWorld h ps w → n ≤ w.commits
  counted t n from to held image left ps w reads has =
      let other = (now old (other_side side)).reads in
      let there : IsImage (new.disks t (other_side side)) other = subst (λ (x : Disk). IsImage x other) (sym (run.other t from to ∙ rank.settled)) (settled_image other) in
      let both = both_left side new t image other left there in
      let it = held (first_file side image other) (second_file side image other) both in
      let recovers : Recovers (first_file side image other) (second_file side image other) (Holding w) =
      holding side (first_file side image other) (second_file side image other) h ps w is (subst (λ (f : List ℕ). Reads f (header_spelling h) ps) (sym (mine_is side image other)) reads) has (lesser_at t from to _ _ both) in
      let same : it.0 ≡ w = one_durable _ _ it.0 w it.1 recovers in
      omega (arith, it.2, ap (λ (x : DurableWorld). x.commits) same)

  -- no image reads as these and more
  not_both : (image : List ℕ) (ps qs : List (List ℕ)) (p : List ℕ) → Reads image (header_spelling h) ps → Reads image (header_spelling h) ((ps ++ p ∷ []) ++ qs) → ⊥
  not_both image ps qs p a b =
      let same : ps ≡ (ps ++ p ∷ []) ++ qs = one_reading image (header_spelling h) ps ((ps ++ p ∷ []) ++ qs) a b in
      omega (arith, ap length same, length-append (ps ++ p ∷ []) qs, length-append ps (p ∷ []))

  module _ (t later n : ℕ) (from : old.clock ≤ t) (le : t ≤ later) (to : later ≤ new.clock) (held : IsHeld new t n) where
    t_to : t ≤ new.clock
    t_to = omega (arith, le, to)

    later_from : old.clock ≤ later
    later_from = omega (arith, from, le)

    -- where an image has the records from before, so had one at the earlier moment
    enough_before : (image : List ℕ) → IsImage (new.disks later side) image → Reads image (header_spelling h) payloads → n ≤ d.commits
    enough_before image left reads = ⊎_elim
        (λ (short : d.commits < n).
        let had : Holds (header_spelling h) (payloads ++ payload ∷ []) (new.disks t side) =
        λ x is_x. ⊎_elim
        (λ (r : Reads x (header_spelling h) payloads). absurd (omega (arith, short, counted t n from t_to held x is_x payloads d r world)))
        (λ (r : Reads x (header_spelling h) (payloads ++ payload ∷ [])). ([], subst (λ (ps : List (List ℕ)). Reads x (header_spelling h) ps) (sym (append-nil (payloads ++ payload ∷ []))) r))
        (run.each t from t_to x is_x) in
        let has = falls t later (payloads ++ payload ∷ []) from le to had image left in
        absurd (not_both image payloads has.0 payload reads has.1))
        (λ enough. enough)
        (cases_lt d.commits n)

    enough_after : (image : List ℕ) → IsImage (new.disks later side) image → Reads image (header_spelling h) (payloads ++ payload ∷ []) → n ≤ e.commits
    enough_after image left reads = ⊎_elim
        (λ (short : e.commits < n).
        let had : Holds (header_spelling h) ((payloads ++ payload ∷ []) ++ payload ∷ []) (new.disks t side) =
        λ x is_x. absurd (⊎_elim
        (λ (r : Reads x (header_spelling h) payloads). omega (arith, short, more, counted t n from t_to held x is_x payloads d r world))
        (λ (r : Reads x (header_spelling h) (payloads ++ payload ∷ [])). omega (arith, short, counted t n from t_to held x is_x (payloads ++ payload ∷ []) e r next))
        (run.each t from t_to x is_x)) in
        let has = falls t later ((payloads ++ payload ∷ []) ++ payload ∷ []) from le to had image left in
        absurd (not_both image (payloads ++ payload ∷ []) has.0 payload reads has.1))
        (λ enough. enough)
        (cases_lt e.commits n)

    held_later : IsHeld new later n
    held_later zero one left =
        let mine = image_on side new later zero one left in
        let lesser = lesser_at later later_from to zero one left in
        ⊎_elim
        (λ (r : Reads (file_on side zero one) (header_spelling h) payloads). (d, inl (holding side zero one h payloads d is r world lesser), enough_before _ mine r))
        (λ (r : Reads (file_on side zero one) (header_spelling h) (payloads ++ payload ∷ [])). (e, inl (holding side zero one h (payloads ++ payload ∷ []) e is r next lesser), enough_after _ mine r))
        (run.each later later_from to (file_on side zero one) mine)

  pub append_held : HeldNeverFalls old.clock new
  append_held t later n from le to held = held_later t later n from le to held
