-- What a view gives, and which views it becomes as it is asked.
use Rattle.std.specs.Prelude.{◌≡◌, refl}
use Rattle.std.proofs.Common.{sym, subst, ◌∙◌}
use Rattle.dk_types.specs.declared.item.Item.{Item}
use Rattle.dk_types.specs.declared.item.Read.{Read}

-- A view may have given certain reads, and calls make of it certain views: itself among them, and whatever calls make of those. What was given stays given.
-- Whoever asks it for an item makes of it one of these views.
pub record Sights (S : Type 0) : Type 1 where
  pub gave : S → Item → Read → Type 0
  pub asked : S → Item → S → Type 0
  pub becomes : S → S → Type 0
  pub asking : (u v : S) (item : Item) → asked u item v → becomes u v
  pub stays : (v : S) → becomes v v
  pub goes_on : (u v w : S) → becomes u v → becomes v w → becomes u w
  pub keeps : (u v : S) → becomes u v → (item : Item) (read : Read) → gave u item read → gave v item read

-- a view that no call changes
abbrev pub steady : {S : Type 0} → (S → Item → Read → Type 0) → Sights S
steady gave = record {
  gave = gave;
  asked = λ u item v. v ≡ u;
  becomes = λ u v. v ≡ u;
  asking = λ u v item same. same;
  stays = λ v. refl;
  goes_on = λ u v w a b. b ∙ a;
  keeps = λ u v same item read h. subst (λ x. gave x item read) (sym same) h;
}
