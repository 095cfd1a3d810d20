-- The list of the names that the changes bind, after one more change.
use Rattle.std.proofs.Common.{◌≡◌, ℕ, Bool, true, false, cond, if◌then◌else◌, Some, None, is_some, List, refl, sym, ap, subst, ◌∙◌}
use Rattle.std.specs.Ordering.{eq_by_cmp}
use Rattle.dk_types.specs.declared.number.ObjectId.{ObjectId}
use Rattle.dk_types.specs.Names.{bytes_cmp}
use Rattle.dk_map.specs.Entries.{find, put, IsOrdered}
use Rattle.dk_overlay.specs.declared.change.Change.{Change}
use Rattle.dk_overlay.specs.Binding.{is_binding, HasBound, IsNoted}
use Rattle.dk_overlay.proofs.Keys.{names_total, names_same}
use Rattle.dk_overlay.proofs.Finding.{find_put}

listed : (b : Bool) → is_some (if b then Some (tt {0}) else None) ≡ b
listed true = refl
listed false = refl

has_here : (name : List ℕ) (c : Change ObjectId) (bound after : List (List ℕ × Unit {0})) (changes : List (List ℕ × Change ObjectId)) → IsOrdered bytes_cmp changes → HasBound bound changes
    → IsNoted name (is_some c.after) bound after → HasBound after (put bytes_cmp name c changes)
has_here name c bound after changes h has noted = λ q.
    ap is_some (noted q)
    ∙ elim (eq_by_cmp bytes_cmp q name) as (λ b. is_some (cond b (if is_some c.after then Some (tt {0}) else None) (find bytes_cmp q bound)) ≡ is_binding (cond b (Some c) (find bytes_cmp q changes))) [
      | true ↦ listed (is_some c.after)
      | false ↦ has q
    ]
    ∙ ap is_binding (sym (find_put names_total names_same changes h name c q))

pub has_noted : (name mark key : List ℕ) (flag : Bool) (c : Change ObjectId) (bound before after : List (List ℕ × Unit {0})) (changes old new : List (List ℕ × Change ObjectId))
    → IsOrdered bytes_cmp changes → HasBound bound changes → mark ≡ name → key ≡ name → flag ≡ is_some c.after → before ≡ bound → IsNoted mark flag before after
    → new ≡ put bytes_cmp key c old → old ≡ changes → HasBound after new
has_noted name mark key flag c bound before after changes old new h has m k f b noted added same =
    subst (HasBound after) (sym (added ∙ ap (λ n. put bytes_cmp n c old) k ∙ ap (put bytes_cmp name c) same))
    (has_here name c bound after changes h has
    (subst (λ l. IsNoted name (is_some c.after) l after) b (subst (λ t. IsNoted name t before after) f (subst (λ n. IsNoted n flag before after) m noted))))
