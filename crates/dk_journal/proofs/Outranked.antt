-- The file that stands is live, and the other is blank or has a lesser epoch.
use Rattle.std.proofs.Common.{◌≡◌, ◌⊎◌, inl, inr, ℕ, ◌<◌, ltb, leb, true, false, if◌then◌else◌, List, length, refl, ap, subst}
use Rattle.std.proofs.lemmas.Bool.{ltb-true}
use Rattle.dk_types.specs.declared.side.Side.{Side}
use Rattle.dk_types.specs.declared.side.Side.TheVariants.{Zero, One}
use Rattle.dk_disk.specs.DiskHistories.{other_side}
use Rattle.dk_model.specs.Stores.{StoreHeader, Look, Blank, Live, Faulty, look, NoStore, StandsOn, NoneStands, standing, standing_of}
use Rattle.dk_model.specs.Recovered.{file_on}
use Rattle.dk_journal.specs.Ranks.{IsLesser}

abbrev look_on : Side → Look → Look → Look
look_on Zero a b = a
look_on One a b = b

abbrev Ranked : Side → StoreHeader → Look → Look → Type 0
Ranked side h a b = (look_on side a b ≡ Live h) × ((look_on (other_side side) a b ≡ Blank) ⊎ ((k : StoreHeader) × (look_on (other_side side) a b ≡ Live k) × (k.epoch < h.epoch)))

first : (x k : StoreHeader) (side : Side) (h : StoreHeader) → k.epoch < x.epoch → StandsOn Zero x ≡ StandsOn side h → Ranked side h (Live x) (Live k)
first x k Zero h less is = let same : x ≡ h = cc in (ap Live same, inr (k, refl, subst (λ (y : StoreHeader). k.epoch < y.epoch) same less))
first x k One h less is = absurd cc

second : (x k : StoreHeader) (side : Side) (h : StoreHeader) → x.epoch < k.epoch → StandsOn One k ≡ StandsOn side h → Ranked side h (Live x) (Live k)
second x k One h less is = let same : k ≡ h = cc in (ap Live same, inr (x, refl, subst (λ (y : StoreHeader). x.epoch < y.epoch) same less))
second x k Zero h less is = absurd cc

ranked : (n : ℕ) (a b : Look) (side : Side) (h : StoreHeader) → standing_of n a b ≡ StandsOn side h → Ranked side h a b
ranked n (Faulty at) b side h is = absurd cc
ranked n Blank (Faulty at) side h is = absurd cc
ranked n (Live x) (Faulty at) side h is = absurd cc
ranked n (Live x) Blank Zero h is = let same : x ≡ h = cc in (ap Live same, inl refl)
ranked n (Live x) Blank One h is = absurd cc
ranked n Blank (Live k) One h is = let same : k ≡ h = cc in (ap Live same, inl refl)
ranked n Blank (Live k) Zero h is = absurd cc
ranked n Blank Blank side h is = elim (leb n 65) as (λ c. (if c then NoStore else NoneStands Zero 0) ≡ StandsOn side h → Ranked side h Blank Blank) [ true ↦ λ no. absurd cc | false ↦ λ no. absurd cc ] is
ranked n (Live x) (Live k) side h is =
    elim (ltb k.epoch x.epoch) as (λ c. ltb k.epoch x.epoch ≡ c → (if c then StandsOn Zero x else if ltb x.epoch k.epoch then StandsOn One k else NoneStands One 11) ≡ StandsOn side h → Ranked side h (Live x) (Live k)) [
      | true ↦ λ less stands. first x k side h (ltb-true k.epoch x.epoch less) stands
      | false ↦ λ _ rest. elim (ltb x.epoch k.epoch) as (λ c. ltb x.epoch k.epoch ≡ c → (if c then StandsOn One k else NoneStands One 11) ≡ StandsOn side h → Ranked side h (Live x) (Live k)) [
        | true ↦ λ less stands. second x k side h (ltb-true x.epoch k.epoch less) stands
        | false ↦ λ _ no. absurd cc
      ] refl rest
    ] refl is

pub outranks : (side : Side) (h : StoreHeader) (zero one : List ℕ) → standing zero one ≡ StandsOn side h → (look (file_on side zero one) ≡ Live h) × IsLesser h (file_on (other_side side) zero one)
outranks Zero h zero one is = ranked (length zero) (look zero) (look one) Zero h is
outranks One h zero one is = ranked (length zero) (look zero) (look one) One h is
