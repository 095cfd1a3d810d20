-- Of a legal history and its tail: no once-task that was committed among its first events is pending behind them.
use Rattle.std.proofs.Common.{◌≡◌, ◌∙◌, true, List, [], ◌∷◌, ◌++◌, Some, refl, sym, ap, subst}
use Rattle.std.proofs.lemmas.List.{append-nil}
use Rattle.std.specs.List.{AllByRecursion}
use Rattle.std.specs.FinMap.{get}
use Rattle.dk_types.specs.declared.event.Event.{Event}
use Rattle.dk_types.specs.declared.event.Event.TheVariants as event
use Rattle.dk_model.specs.DurableWorlds.{DurableWorld}
use Rattle.dk_model.specs.Worlds.{World}
use Rattle.dk_model.specs.Histories.{Leads}
use Rattle.dk_model.specs.Lawful.{AreLawful, IsWithinLimits}
use Rattle.dk_model.specs.Legal.{Opened, IsLegal, opening_of, world_after, is_commit}
use Rattle.dk_model.specs.Tails.{IsAfterSome, IsTail}
use Rattle.dk_laws.proofs.OneWorld.{IsParted, events_lead, joined, parted}
use Rattle.dk_laws.proofs.SoundHistories.{keys_gone}
use Rattle.darkstar.specs.Runs.{AreEnded, IsAfterSomeEnded}

within_front : (front later : List Event) → AllByRecursion IsWithinLimits (front ++ later) → AllByRecursion IsWithinLimits front
within_front [] later h = tt
within_front (e ∷ front) later h = (h.0, within_front front later h.1)

within_more : (front later : List Event) → AllByRecursion IsWithinLimits front → AllByRecursion IsWithinLimits later → AllByRecursion IsWithinLimits (front ++ later)
within_more [] later a b = b
within_more (e ∷ front) later a b = (a.0, within_more front later a.1 b)

module _ (o : Opened) where
  parts_of : (events front later : List Event) (legal : IsLegal o events) → events ≡ front ++ later → IsParted o.rules (opening_of o) front later legal.history.last
  parts_of events front later legal parts = parted o.rules (opening_of o) front later legal.history.last (subst (λ (es : List Event). Leads o.rules (opening_of o) es legal.history.last) parts legal.history.leads)

  -- first events of a legal history are one
  pub legal_front : (events front later : List Event) → IsLegal o events → events ≡ front ++ later → IsLegal o front
  legal_front events front later legal parts =
      let p = parts_of events front later legal parts in
      record { valid = legal.valid; within = within_front front later (subst (AllByRecursion IsWithinLimits) parts legal.within); history = record { last = p.at; leads = p.first } }

  -- a commit is within its limits
  is_within : (e : Event) → is_commit e ≡ true → IsWithinLimits e
  is_within (event.Commit pass run seq outcome) is = tt
  is_within (event.Connect pass name reply) is = absurd cc
  is_within (event.Post pass conn input reply) is = absurd cc
  is_within (event.Claim pass reply) is = absurd cc
  is_within (event.Release pass run) is = absurd cc
  is_within (event.Hand pass conn most outs end) is = absurd cc
  is_within (event.Tick pass moment) is = absurd cc

  -- and so is a legal history with its tail
  pub legal_tail : (front tail : List Event) → IsLegal o front → IsTail o front tail → IsLegal o (front ++ tail)
  legal_tail front [] legal is = subst (IsLegal o) (sym (append-nil front)) legal
  legal_tail front (e ∷ []) legal may =
      let last = events_lead o.rules (opening_of o) front legal.history.last legal.history.leads in
      let to_front : Leads o.rules (opening_of o) front (world_after o front) = subst (Leads o.rules (opening_of o) front) last legal.history.leads in
      let one : Leads o.rules (world_after o front) (e ∷ []) may.1.0 = (may.1.0, may.1.1, refl) in
      record {
        valid = legal.valid;
        within = within_more front (e ∷ []) legal.within (is_within e may.0, tt);
        history = record { last = may.1.0; leads = joined o.rules (opening_of o) front (e ∷ []) (world_after o front) may.1.0 to_front one };
      }
  legal_tail front (e ∷ f ∷ more) legal is = absurd is

  module _ (lawful : AreLawful o.rules) where
    front_ended : (front : List Event) → IsLegal o front → AreEnded o front (world_after o front).durable
    front_ended front legal before later pass seq run outcome claim key is held once =
        let e = event.Commit pass run seq outcome in
        let p = parts_of front before (e ∷ later) legal is in
        let there = events_lead o.rules (opening_of o) before p.at p.first in
        let whole = events_lead o.rules (opening_of o) front legal.history.last legal.history.leads in
        let claimed : get p.at.claims run ≡ Some claim = ap (λ (w : World). get w.claims run) there ∙ held in
        let gone = keys_gone o.rules o.durable o.budget before later p.at legal.history.last pass seq run outcome claim key lawful legal.valid
        (subst (AllByRecursion IsWithinLimits) is legal.within) p.first claimed once
        (subst (λ (es : List Event). Leads o.rules (opening_of o) es legal.history.last) is legal.history.leads) in
        ap (λ (w : World). get w.durable.tasks key) (sym whole) ∙ gone

    -- what a stop leaves of a legal history has none of its ended once-tasks
    pub some_ended : (events : List Event) → IsLegal o events → (d : DurableWorld) → IsAfterSome o events d → IsAfterSomeEnded o events d
    some_ended events legal d s = record {
      front = s.front;
      later = s.later;
      parts = s.parts;
      world = s.world;
      ended = subst (AreEnded o s.front) (sym s.world) (front_ended s.front (legal_front events s.front s.later legal s.parts));
    }
