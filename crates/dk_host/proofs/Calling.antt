-- What a call by a pass tells, from what its turn tells.
use Rattle.std.proofs.Common.{◌≡◌, ◌≢◌, ℕ, ◌==◌, true, false, cond, List, [], ◌∷◌, ◌++◌, length, Bool, Option, Result, refl, sym, ap, subst, ◌∙◌, eq-eqb}
use Rattle.std.specs.List.{All, AllByRecursion}
use Rattle.std.specs.Result.{OnErr}
use Rattle.std.proofs.lemmas.List.{append-nil, append_cancel_left}
use Rattle.dk_types.specs.declared.event.Event.{Event}
use Rattle.dk_types.specs.declared.fault.NoMemory.{NoMemory}
use Rattle.dk_types.specs.declared.item.Item.{Item}
use Rattle.dk_types.specs.declared.item.Read.{Read}
use Rattle.dk_types.specs.declared.job.Input.{Input}
use Rattle.dk_types.specs.declared.number.ConnNo.{ConnNo}
use Rattle.dk_model.specs.Events.{is_open}
use Rattle.dk_model.specs.Legal.{Opened, opening_of, world_after, IsLegal, IsFront, pass_of}
use Rattle.dk_laws.proofs.LaterOn.{claims_stand, honest_on}
use Rattle.dk_txn.specs.declared.finished.Finished.{Finished}
use Rattle.dk_txn.specs.Finishes.{report}
use Rattle.dk_connections.specs.declared.answers.Handed.{Handed}
use Rattle.dk_connections.specs.declared.answers.PostRefused.{PostRefused}
use Rattle.dk_core.specs.declared.claimed.Claimed.{Claimed}
use Rattle.dk_core.specs.declared.answers.ClaimRefused.{ClaimRefused}
use Rattle.dk_turn.proofs.Beginnings.{own-append}
use Rattle.dk_turn.specs.Fronts.{Known, known, own, Continues, Called}
use Rattle.dk_host.specs.Calls.{Entered, Grants, ReadsAt, IsClaimOf, IsHonestAt, IsSpared, AreShort, claim_events, post_events, hand_events, tick_events}
use Rattle.dk_host.specs.Steps.{Adds, Posts, Ticks, CountsKept, Hands, Claims, Reads, MayEnd}

-- events of which none is the pass's are of others
others : (pass : ℕ) (events : List Event) → own pass_of pass events ≡ [] → AllByRecursion (λ e. pass_of e ≢ pass) events
others pass [] none = tt
others pass (e ∷ events) none = elim (pass_of e == pass) as (λ b. pass_of e == pass ≡ b → cond b (e ∷ own pass_of pass events) (own pass_of pass events) ≡ [] → AllByRecursion (λ e. pass_of e ≢ pass) (e ∷ events)) [
  | true ↦ λ is h. cc
  | false ↦ λ is h. ((λ same. let t : pass_of e == pass ≡ true = eq-eqb (pass_of e) pass same in let f : true ≡ false = sym t ∙ is in cc), others pass events h)
] refl none

-- beyond the front of a pass there is nothing of its own
none_beyond : (pass : ℕ) (front log : List Event) → (c : Continues pass_of pass front log) → own pass_of pass c.begins.0 ≡ []
none_beyond pass front log c =
    append_cancel_left (own pass_of pass front) (own pass_of pass c.begins.0) []
    (sym (own-append pass_of pass front c.begins.0) ∙ (ap (own pass_of pass) c.begins.1 ∙ (c.none_beyond ∙ sym (append-nil (own pass_of pass front)))))

-- what a turn says of a front
pub front_of : (pass : ℕ) (front log : List Event) → Continues pass_of pass front log → IsFront pass front log
front_of pass front log c = record { later = c.begins.0; all = sym c.begins.1; others = others pass c.begins.0 (none_beyond pass front log c) }

module _ (o : Opened) (pass : ℕ) (events old new : List Event) where
  pub entered_by : {gives : List Event → List Event → Type 0} → (c : Called pass_of pass gives old new) → Adds o events c.before c.added → Entered o pass events old new
  entered_by c adds = record {
    before = c.before;
    continues = front_of pass old c.before c.continues;
    front = c.front ∙ ap (λ es. c.before ++ es) adds.same;
    by = subst (All (λ e. pass_of e ≡ pass)) adds.same c.by;
    own_events = c.own_entries ∙ ap (λ es. own pass_of pass old ++ es) adds.same;
    legal = subst (IsLegal o) (sym c.front) adds.legal;
  }

  pub entered : Called pass_of pass (λ before added. Adds o events before added) old new → Entered o pass events old new
  entered c = entered_by c c.given

-- a claim that is a pass's may be ended wherever the history goes on from its front
pub may_end : (o : Opened) (p : Known Event) (c : Claimed) (log : List Event) → IsClaimOf o p c → Continues pass_of p.number p.front log → MayEnd o p.number log c
may_end o p c log claim goes =
    (claim.pass, λ legal. claims_stand o p.front log c.run (record { pass = c.pass; job = c.job; at = c.at }) (subst (λ n. IsFront n p.front log) (sym claim.pass) (front_of p.number p.front log goes)) legal claim.stands)

-- a run that is honest at its pass's front is honest wherever the history goes on from there
pub honest_later : (o : Opened) (p : Known Event) (c : Claimed) (f : Finished) (log : List Event) → IsHonestAt o p.front c f → Continues pass_of p.number p.front log → IsHonestAt o log c f
honest_later o p c f log honest goes =
    let front = front_of p.number p.front log goes in
    subst (λ es. IsHonestAt o es c f) (sym front.all) (honest_on o.rules (opening_of o) p.front front.later c.job c.run c.at f.reads.items (report f) honest)

module _ (o : Opened) (pass : ℕ) (r : Result (Option Claimed) ClaimRefused) (old : List Event) (new : Known Event) (c : Called pass_of pass (λ before added. Claims o pass before r added) old new.front) where
  pub claim_entered : Entered o pass (claim_events pass r) old new.front
  claim_entered = entered_by o pass (claim_events pass r) old new.front c c.given.adds

  pub claim_granted : new.number ≡ pass → Grants o new r
  claim_granted number = subst (λ n. Grants o (known n new.front) r) (sym number) (subst (λ es. Grants o (known pass es) r) (sym c.front) c.given.grants)

module _ (o : Opened) (keeps : Bool) (pass : ℕ) (conn : ConnNo) (input : Input) (r : Result (Unit {0}) PostRefused) (old new : List Event) (c : Called pass_of pass (λ before added. Posts o keeps pass conn input before r added) old new) where
  pub post_entered : Entered o pass (post_events pass conn input r) old new
  post_entered = entered_by o pass (post_events pass conn input r) old new c c.given.adds

  pub post_spared : IsSpared keeps (is_open (world_after o new) conn) input r
  post_spared = subst (λ es. IsSpared keeps (is_open (world_after o es) conn) input r) (sym c.front) c.given.spared

module _ (o : Opened) (keeps : Bool) (pass moment : ℕ) (r : Result (Unit {0}) NoMemory) (old new : List Event) (c : Called pass_of pass (λ before added. Ticks o keeps pass moment before r added) old new) where
  pub tick_entered : Entered o pass (tick_events pass moment r) old new
  tick_entered = entered_by o pass (tick_events pass moment r) old new c c.given.adds

  pub tick_only : OnErr r (keeps ≡ true)
  tick_only = c.given.only

module _ (o : Opened) (keeps : Bool) (pass count : ℕ) (old new : List Event) (c : Called pass_of pass (λ before added. CountsKept o keeps before count added) old new) where
  pub count_entered : Entered o pass [] old new
  count_entered = entered_by o pass [] old new c c.given.adds

  pub count_kept : keeps ≡ true → count ≡ length new
  count_kept on = c.given.counts on ∙ ap length (sym (c.front ∙ ap (λ es. c.before ++ es) c.given.adds.same ∙ append-nil c.before))

module _ (o : Opened) (pass : ℕ) (conn : ConnNo) (most : ℕ) (r : Result Handed NoMemory) (old new : List Event) (c : Called pass_of pass (λ before added. Hands o pass conn most before r added) old new) where
  pub hand_entered : Entered o pass (hand_events pass conn most r) old new
  hand_entered = entered_by o pass (hand_events pass conn most r) old new c c.given.adds

  pub hand_short : AreShort r
  hand_short = c.given.short

module _ (o : Opened) (pass : ℕ) (item : Item) (r : Result Read NoMemory) (old new : List Event) (c : Called pass_of pass (λ before added. Reads o item before r added) old new) where
  pub read_entered : Entered o pass [] old new
  read_entered = entered_by o pass [] old new c c.given.adds

  pub read_at_front : ReadsAt o new item r
  read_at_front = subst (λ es. ReadsAt o es item r) (sym c.front) c.given.read
