-- Reads that stand, and the first that does not.
use Rattle.std.proofs.Common.{◌≡◌, ◌⊎◌, true, false, nat_eq, Option, None, Some, ℕ, List, [], ◌∷◌, ◌++◌, inl, inr, refl, sym, ap, subst, ◌∙◌}
use Rattle.std.specs.List.{AllByRecursion}
use Rattle.std.specs.Cmp.Lexicographic.{pointwise}
use Rattle.dk_types.specs.declared.item.Item.{Item}
use Rattle.dk_types.specs.declared.item.Read.{Read}
use Rattle.dk_types.specs.declared.item.Seen.{Seen}
use Rattle.dk_types.specs.declared.item.Seen.TheVariants as sight
use Rattle.dk_types.specs.declared.event.Event.{Event}
use Rattle.dk_model.specs.Effects.{same_value}
use Rattle.dk_model.specs.Worlds.{World}
use Rattle.dk_model.specs.Events.{Meaning}
use Rattle.dk_model.specs.Retries.{same_seen, StandAt, Stale, IsFirstStale}
use Rattle.dk_model.specs.Sights.{seen}
use Rattle.dk_laws.specs.RetriesLaw.{ReadsStandOrOneIsStale, NoneIsStaleWhereAllStand, TheFirstStaleReadIsOne, StaleReadsTellOfCommits}
use Rattle.dk_laws.proofs.Between.{changes_tell}
use Rattle.dk_laws.proofs.EffectsMade.{numbers_told, names_told}

same_next : (a b : Option (List ℕ)) → same_value (pointwise nat_eq) a b ≡ true → a ≡ b
same_next None None h = refl
same_next None (Some b) h = cc
same_next (Some a) None h = cc
same_next (Some a) (Some b) h = ap Some (names_told.equal a b h)

next_itself : (a : Option (List ℕ)) → same_value (pointwise nat_eq) a a ≡ true
next_itself None = refl
next_itself (Some a) = names_told.itself a

-- the test tells sights apart
pub seen_equal : (a b : Seen) → same_seen a b ≡ true → a ≡ b
seen_equal sight.Absent sight.Absent h = refl
seen_equal sight.Absent (sight.At m) h = cc
seen_equal sight.Absent (sight.Next b) h = cc
seen_equal (sight.At n) sight.Absent h = cc
seen_equal (sight.At n) (sight.At m) h = ap sight.At (numbers_told.equal n m h)
seen_equal (sight.At n) (sight.Next b) h = cc
seen_equal (sight.Next a) sight.Absent h = cc
seen_equal (sight.Next a) (sight.At m) h = cc
seen_equal (sight.Next a) (sight.Next b) h = ap sight.Next (same_next a b h)

pub seen_itself : (a : Seen) → same_seen a a ≡ true
seen_itself sight.Absent = refl
seen_itself (sight.At n) = numbers_told.itself n
seen_itself (sight.Next a) = next_itself a

seen_unlike : (a b : Seen) → same_seen a b ≡ false → a ≡ b → ⊥
seen_unlike a b h e = let alike : same_seen a b ≡ true = ap (same_seen a) (sym e) ∙ seen_itself a in cc

-- what is true of all is true of one in their midst
pub all_at : {A : Type 0} (P : A → Type 0) (before : List A) (x : A) (behind : List A) → AllByRecursion P (before ++ x ∷ behind) → P x
all_at P [] x behind h = h.0
all_at P (y ∷ before) x behind h = all_at P before x behind h.1

head_is : {A : Type 0} (x y : A) (xs ys : List A) → x ∷ xs ≡ y ∷ ys → x ≡ y
head_is x y xs ys e = cc

tail_is : {A : Type 0} (x y : A) (xs ys : List A) → x ∷ xs ≡ y ∷ ys → xs ≡ ys
tail_is x y xs ys e = cc

module _ (rules : Meaning) (w : World) (events : List Event) where
  abbrev Stands : Item × Read → Type 0
  Stands r = r.1.seen ≡ seen rules w events r.0

  first_of : (r : Item × Read) (reads : List (Item × Read)) → same_seen r.1.seen (seen rules w events r.0) ≡ false
      → IsFirstStale rules w events (r ∷ reads) (record { item = r.0; found = r.1.seen; now = seen rules w events r.0 })
  first_of r reads h = record {
    before = [];
    read = r.1;
    behind = reads;
    listed = refl;
    stand = tt;
    found = refl;
    now = refl;
    differ = seen_unlike r.1.seen (seen rules w events r.0) h;
  }

  one_more : (r : Item × Read) (reads : List (Item × Read)) (stale : Stale) → Stands r → IsFirstStale rules w events reads stale → IsFirstStale rules w events (r ∷ reads) stale
  one_more r reads stale h f = record {
    before = r ∷ f.before;
    read = f.read;
    behind = f.behind;
    listed = ap (λ rs. r ∷ rs) f.listed;
    stand = (h, f.stand);
    found = f.found;
    now = f.now;
    differ = f.differ;
  }

  abbrev Either : List (Item × Read) → Type 0
  Either reads = StandAt rules w events reads ⊎ ((stale : Stale) × IsFirstStale rules w events reads stale)

  with_one : (r : Item × Read) (reads : List (Item × Read)) → Stands r → Either reads → Either (r ∷ reads)
  with_one r reads h (inl all) = inl (h, all)
  with_one r reads h (inr f) = inr (f.0, one_more r reads f.0 h f.1)

  pub stand_or_stale : (reads : List (Item × Read)) → Either reads
  stand_or_stale [] = inl tt
  stand_or_stale (r ∷ reads) = elim (same_seen r.1.seen (seen rules w events r.0)) as (λ b. same_seen r.1.seen (seen rules w events r.0) ≡ b → Either (r ∷ reads)) [
    | true ↦ λ e. with_one r reads (seen_equal r.1.seen (seen rules w events r.0) e) (stand_or_stale reads)
    | false ↦ λ e. inr (record { item = r.0; found = r.1.seen; now = seen rules w events r.0 }, first_of r reads e)
  ] refl

  -- a stale read does not stand
  stands_not : (reads : List (Item × Read)) (stale : Stale) (f : IsFirstStale rules w events reads stale) → Stands (stale.item, f.read) → ⊥
  stands_not reads stale f h = f.differ (f.found ∙ h ∙ sym f.now)

  pub none_stale : (reads : List (Item × Read)) (stale : Stale) → StandAt rules w events reads → IsFirstStale rules w events reads stale → ⊥
  none_stale reads stale h f = stands_not reads stale f (all_at Stands f.before (stale.item, f.read) f.behind (subst (AllByRecursion Stands) f.listed h))

  -- of two lists that are one, each with a read that does not stand behind others that do, these reads are one
  one_read : (ps qs : List (Item × Read)) (x y : Item × Read) (cs ds : List (Item × Read)) → ps ++ x ∷ cs ≡ qs ++ y ∷ ds → AllByRecursion Stands ps → AllByRecursion Stands qs
      → (Stands x → ⊥) → (Stands y → ⊥) → x ≡ y
  one_read [] [] x y cs ds e p q none nor = head_is x y cs ds e
  one_read [] (b ∷ qs) x y cs ds e p q none nor = absurd (none (subst Stands (sym (head_is x b cs (qs ++ y ∷ ds) e)) q.0))
  one_read (a ∷ ps) [] x y cs ds e p q none nor = absurd (nor (subst Stands (head_is a y (ps ++ x ∷ cs) ds e) p.0))
  one_read (a ∷ ps) (b ∷ qs) x y cs ds e p q none nor = one_read ps qs x y cs ds (tail_is a b (ps ++ x ∷ cs) (qs ++ y ∷ ds) e) p.1 q.1 none nor

  told : (reads : List (Item × Read)) (stale : Stale) (f : IsFirstStale rules w events reads stale)
      → stale ≡ record { item = stale.item; found = f.read.seen; now = seen rules w events stale.item }
  told reads stale f = λ i. record { item = stale.item; found = f.found i; now = f.now i }

  pub one_stale : (reads : List (Item × Read)) (stale other : Stale) → IsFirstStale rules w events reads stale → IsFirstStale rules w events reads other → stale ≡ other
  one_stale reads stale other f g =
      let same : (stale.item, f.read) ≡ (other.item, g.read)
      = one_read f.before g.before (stale.item, f.read) (other.item, g.read) f.behind g.behind (sym f.listed ∙ g.listed) f.stand g.stand (stands_not reads stale f) (stands_not reads other g) in
      told reads stale f ∙ ap (λ (r : Item × Read). record { item = r.0; found = r.1.seen; now = seen rules w events r.0 }) same ∙ sym (told reads other g)

pub reads_stand : ReadsStandOrOneIsStale
reads_stand = stand_or_stale

pub stale_none : NoneIsStaleWhereAllStand
stale_none = none_stale

pub stale_one : TheFirstStaleReadIsOne
stale_one = one_stale

pub stale_tells : StaleReadsTellOfCommits
stale_tells rules w events run reads stale lawful honest f =
    let was = all_at _ f.before (stale.item, f.read) f.behind (subst (AllByRecursion _) f.listed honest) in
    changes_tell rules w events run stale.item f.read lawful was (stands_not rules w events reads stale f)
