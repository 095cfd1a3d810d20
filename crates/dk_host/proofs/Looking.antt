-- What a look at a host owes.
use Rattle.std.proofs.Common.{◌≡◌, true, [], Result, Ok, Err, IfOk, refl, sym, subst, ◌∙◌}
use Rattle.std.specs.List.{list_any}
use Rattle.std.proofs.lemmas.List.{append-nil}
use Rattle.dk_types.specs.declared.event.Event.{Event}
use Rattle.dk_types.specs.declared.fault.NoMemory.{NoMemory}
use Rattle.dk_types.specs.declared.item.Item.{Item}
use Rattle.dk_types.specs.declared.item.Read.{Read}
use Rattle.dk_types.specs.declared.number.RunNo.{RunNo}
use Rattle.dk_model.specs.Legal.{Opened, opening_of, IsFront}
use Rattle.dk_model.specs.Sights.{grants}
use Rattle.dk_laws.proofs.LaterOn.{granted_there, granted_on, honest_here}
use Rattle.dk_core.specs.declared.claimed.Claimed.{Claimed}
use Rattle.dk_turn.specs.Fronts.{Known}
use Rattle.dk_host.specs.Calls.{Entered, IsClaimOf, ReadsAt}
use Rattle.dk_host.specs.Looks.{looking, LooksOn, IsGiven}

-- the run of a claim that stands was granted
pub claim_granted : (o : Opened) (p : Known Event) (c : Claimed) → IsClaimOf o p c → list_any (grants c.run) p.front ≡ true
claim_granted o p c claim = granted_there o p.front claim.legal c.run (record { pass = c.pass; job = c.job; at = c.at }) claim.stands

module _ (o : Opened) (run : RunNo) (old new : Known Event) (number : new.number ≡ old.number) (e : Entered o old.number [] old.front new.front) where
  goes : new.front ≡ e.before
  goes = e.front ∙ append-nil e.before

  -- the front went on
  pub front_goes : IsFront old.number old.front new.front
  front_goes = subst (IsFront old.number old.front) (sym goes) e.continues

  pub looks_on : LooksOn o (looking run old) (looking run new)
  looks_on = record { run = refl; number = number; front = front_goes; legal = λ h. e.legal }

  -- what was granted is granted still
  pub still_granted : list_any (grants run) old.front ≡ true → list_any (grants run) new.front ≡ true
  still_granted g = subst (λ es. list_any (grants run) es ≡ true) (sym front_goes.all) (granted_on run old.front front_goes.later g)

  -- what was read is honest
  pub gives : (item : Item) (r : Result Read NoMemory) → list_any (grants run) old.front ≡ true → ReadsAt o new.front item r → IfOk r (λ read. IsGiven o (looking run new) item read)
  gives item (Ok read) g at = honest_here o.rules (opening_of o) new.front run item read (still_granted g) at
  gives item (Err refused) g at = tt
