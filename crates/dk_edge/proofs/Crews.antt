-- Members that were joined one after another.
use Rattle.std.proofs.Common.{◌≡◌, List, [], ◌∷◌, ◌++◌, refl, sym, subst, ◌∙◌}
use Rattle.std.specs.List.{AllZip}
use Rattle.std.proofs.lemmas.List.{append_assoc, append-nil}

-- the first of all came to the dones in their order, and the rest is left
pub record Joined {A B : Type 0} (gives : A → B → Type 0) (all rest : List A) (dones : List B) : Type 0 where
  pub seen : List A
  pub parts : all ≡ seen ++ rest
  pub each : AllZip gives seen dones

-- one more at the end of each
all_zip_push : {A B : Type 0} (gives : A → B → Type 0) (xs : List A) (ys : List B) (x : A) (y : B) → AllZip gives xs ys → gives x y → AllZip gives (xs ++ x ∷ []) (ys ++ y ∷ [])
all_zip_push gives [] [] x y each one = (one, tt)
all_zip_push gives [] (b ∷ ys) x y each one = absurd each
all_zip_push gives (a ∷ xs) [] x y each one = absurd each
all_zip_push gives (a ∷ xs) (b ∷ ys) x y each one = (each.0, all_zip_push gives xs ys x y each.1 one)

-- none was joined
pub joined_none : {A B : Type 0} (gives : A → B → Type 0) (all : List A) → Joined gives all all []
joined_none gives all = record { seen = []; parts = refl; each = tt }

-- the next was joined
pub joined_more : {A B : Type 0} (gives : A → B → Type 0) (all rest : List A) (dones : List B) (x : A) (y : B) → Joined gives all (x ∷ rest) dones → gives x y → Joined gives all rest (dones ++ y ∷ [])
joined_more gives all rest dones x y joined one = record {
  seen = joined.seen ++ x ∷ [];
  parts = joined.parts ∙ sym (append_assoc joined.seen (x ∷ []) rest);
  each = all_zip_push gives joined.seen dones x y joined.each one;
}

-- all were joined
pub joined_all : {A B : Type 0} (gives : A → B → Type 0) (all : List A) (dones : List B) → Joined gives all [] dones → AllZip gives all dones
joined_all gives all dones joined = subst (λ l. AllZip gives l dones) (sym (joined.parts ∙ append-nil joined.seen)) joined.each
