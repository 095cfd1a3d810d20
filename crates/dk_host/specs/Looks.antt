-- What a look at a host gives, and what reads make of it.
use Rattle.std.specs.Prelude.{◌≡◌, refl}
use Rattle.std.proofs.Common.{sym, subst, ◌∙◌}
use Rattle.dk_types.specs.declared.number.RunNo.{RunNo}
use Rattle.dk_types.specs.declared.item.Item.{Item}
use Rattle.dk_types.specs.declared.item.Read.{Read}
use Rattle.dk_types.specs.declared.event.Event.{Event}
use Rattle.dk_model.specs.Legal.{Opened, opening_of, IsLegal, IsFront}
use Rattle.dk_model.specs.Sights.{IsHonestRead}
use Rattle.dk_laws.proofs.LaterOn.{front_self, front_on, honest_read_on}
use Rattle.dk_turn.specs.Fronts.{Known}
use Rattle.dk_txn.specs.Sights.{Sights}

-- a run, and the pass that reads for it
pub record Looking : Type 0 where
  pub run : RunNo
  pub pass : Known Event

-- a look for this run, at this pass
abbrev pub looking : RunNo → Known Event → Looking
looking run pass = record { run = run; pass = pass }

-- it is the same run, and the same pass, whose front went on and stayed legal
pub record LooksOn (o : Opened) (a b : Looking) : Type 0 where
  pub run : b.run ≡ a.run
  pub number : b.pass.number ≡ a.pass.number
  pub front : IsFront a.pass.number a.pass.front b.pass.front
  pub legal : IsLegal o a.pass.front → IsLegal o b.pass.front

-- what was honest for the run at the pass's front
abbrev pub IsGiven : Opened → Looking → Item → Read → Type 0
IsGiven o l item read = IsHonestRead o.rules (opening_of o) l.pass.front l.run item read

-- a look goes on from itself
pub looks_still : (o : Opened) (l : Looking) → LooksOn o l l
looks_still o l = record { run = refl; number = refl; front = front_self l.pass.number l.pass.front; legal = λ h. h }

-- and from one that went on
pub looks_then : (o : Opened) (a b c : Looking) → LooksOn o a b → LooksOn o b c → LooksOn o a c
looks_then o a b c g h = record {
  run = h.run ∙ g.run;
  number = h.number ∙ g.number;
  front = front_on a.pass.number a.pass.front b.pass.front c.pass.front g.front (subst (λ n. IsFront n b.pass.front c.pass.front) g.number h.front);
  legal = λ l. h.legal (g.legal l);
}

-- what was given is given still
pub given_still : (o : Opened) (a b : Looking) → LooksOn o a b → (item : Item) (read : Read) → IsGiven o a item read → IsGiven o b item read
given_still o a b g item read h =
    subst (λ run. IsHonestRead o.rules (opening_of o) b.pass.front run item read) (sym g.run)
    (subst (λ front. IsHonestRead o.rules (opening_of o) front a.run item read) (sym g.front.all) (honest_read_on o.rules (opening_of o) a.pass.front g.front.later a.run item read h))

-- what a look gives is honest at its pass's front; reads leave the run and the pass, whose front they let go on
abbrev pub sights_by : {S : Type 0} {N : Type 0} → Opened → (S → Looking) → (S → N) → Sights S
sights_by o look name = record {
  gave = λ v item read. IsGiven o (look v) item read;
  asked = λ u item v. LooksOn o (look u) (look v) × (name v ≡ name u);
  becomes = λ u v. LooksOn o (look u) (look v) × (name v ≡ name u);
  asking = λ u v item on. on;
  stays = λ v. (looks_still o (look v), refl);
  goes_on = λ u v w a b. (looks_then o (look u) (look v) (look w) a.0 b.0, b.1 ∙ a.1);
  keeps = λ u v same item read h. given_still o (look u) (look v) same.0 item read h;
}
