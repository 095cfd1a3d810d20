-- How the shifts of a worker that waits go together.
use Rattle.std.proofs.Common.{◌≡◌, ℕ, List, [], ◌∷◌, ◌++◌, refl, ap, subst, ◌∙◌}
use Rattle.std.proofs.lemmas.List.{append-nil}
use Rattle.std.proofs.lemmas.Grind.{flat_map-append}
use Rattle.dk_types.specs.declared.event.Event.{Event}
use Rattle.dk_model.specs.Legal.{Opened}
use Rattle.dk_turn.specs.Fronts.{Known}
use Rattle.dk_host.specs.Passes.{Enters}
use Rattle.dk_host.proofs.Entering.{enters_none, enters_then, enters_as}
use Rattle.dk_workers.specs.Serving.{HasServed, shift, shifts}
use Rattle.dk_workers.specs.Workers.{committed, Works}
use Rattle.dk_workers.specs.declared.working.Ran.{Ran}
use Rattle.dk_workers.specs.declared.worked.Worked.TheVariants as worked

shifts_then : (pass : ℕ) (each : List (List Ran)) (rans : List Ran) → shifts pass (each ++ rans ∷ []) ≡ shifts pass each ++ shift pass rans
shifts_then pass each rans = flat_map-append (shift pass) each (rans ∷ []) ∙ ap (λ es. shifts pass each ++ es) (append-nil (shift pass rans))

module _ (o : Opened) (count : ℕ) where
  -- no shift yet
  pub served_none : (p : Known Event) → HasServed o count p p
  served_none p = record { number = refl; each = []; enters = enters_none o count p.number p.front }

  -- one more shift, at whose end nothing could be run
  pub served_then : (p q r : Known Event) → HasServed o count p q → Works o count worked.Idle q r → HasServed o count p r
  served_then p q r a b =
      let same : committed q.number b.rans ++ b.tail ≡ shift q.number b.rans = ap (λ es. committed q.number b.rans ++ es) b.ends.claim in
      let last : Enters o count p.number (shift p.number b.rans) q.front r.front = subst (λ n. Enters o count n (shift n b.rans) q.front r.front) a.number (subst (λ es. Enters o count q.number es q.front r.front) same b.enters) in
      record {
        number = b.number ∙ a.number;
        each = a.each ++ b.rans ∷ [];
        enters = enters_as o count p.number (shifts p.number a.each ++ shift p.number b.rans) (shifts p.number (a.each ++ b.rans ∷ [])) p.front r.front (shifts_then p.number a.each b.rans)
            (enters_then o count p.number (shifts p.number a.each) (shift p.number b.rans) p.front q.front r.front a.enters last);
      }
