-- A step that had no memory enters nothing.
use Rattle.std.proofs.Common.{◌≡◌, ℕ, Bool, true, false, List, [], ◌∷◌, ◌++◌, Option, Result, Ok, Err, refl, sym, subst, ◌∙◌}
use Rattle.std.specs.List.{All}
use Rattle.std.specs.Result.{IsErr, IsErrAnd}
use Rattle.std.proofs.lemmas.List.{append-nil}
use Rattle.dk_types.specs.declared.event.Event.{Event}
use Rattle.dk_types.specs.declared.fault.NoMemory.{NoMemory}
use Rattle.dk_types.specs.declared.job.Input.{Input}
use Rattle.dk_types.specs.declared.number.ConnNo.{ConnNo}
use Rattle.dk_model.specs.declared.waiting.Waiting.TheVariants as waits
use Rattle.dk_model.specs.Deliveries.{is_disconnect}
use Rattle.dk_model.specs.Events.{is_open}
use Rattle.dk_model.specs.Legal.{Opened, world_after, IsLegal, pass_of}
use Rattle.dk_connections.specs.declared.answers.Handed.{Handed}
use Rattle.dk_connections.specs.declared.answers.PostRefused.{PostRefused}
use Rattle.dk_connections.specs.declared.answers.PostRefused.TheVariants as post_refused
use Rattle.dk_core.specs.declared.claimed.Claimed.{Claimed}
use Rattle.dk_core.specs.declared.world.Core.{Core}
use Rattle.dk_core.specs.declared.answers.ConnectRefused.{ConnectRefused}
use Rattle.dk_core.specs.declared.answers.ConnectRefused.TheVariants as connect_refused
use Rattle.dk_core.specs.declared.answers.ClaimRefused.{ClaimRefused}
use Rattle.dk_core.specs.declared.answers.ClaimRefused.TheVariants as claim_refused
use Rattle.dk_host.specs.Books.{IsKept}
use Rattle.dk_host.specs.Calls.{connect_events}
use Rattle.dk_host.specs.Steps.{Adds, Claims, Posts, Hands, Ticks}
use Rattle.dk_host.proofs.Stepping.{all_none, legal}

-- the history after the step is that before it with such events, which are the pass's and are given
abbrev pub Ended : ℕ → (List Event → Type 0) → List Event → List Event → Type 0
Ended pass gives now after = (x : List Event) × (after ≡ now ++ x) × All (λ e. pass_of e ≡ pass) x × gives x

module _ (o : Opened) (now after : List Event) (c : Core) (total places pass : ℕ) (k : IsKept o now c total places) (same : after ≡ now) where
  adds_none : Adds o [] now []
  adds_none = record { same = refl; legal = subst (IsLegal o) (sym (append-nil now)) (legal o now c k.1) }

  ended : (gives : List Event → Type 0) → gives [] → Ended pass gives now after
  ended gives given = ([], same ∙ sym (append-nil now), all_none pass, given)

  pub connect_unentered : (name : List ℕ) (r : Result ConnNo ConnectRefused) → IsErrAnd r (λ e. e ≡ connect_refused.NoMemory) → Ended pass (Adds o (connect_events pass name r) now) now after
  connect_unentered name (Ok conn) h = absurd h
  connect_unentered name (Err (connect_refused.Exhausted next)) h = absurd (cc h)
  connect_unentered name (Err connect_refused.NoMemory) h = ended (Adds o [] now) adds_none

  pub hand_unentered : (conn : ConnNo) (most : ℕ) (r : Result Handed NoMemory) → IsErr r → Ended pass (Hands o pass conn most now r) now after
  hand_unentered conn most (Ok handed) h = absurd (cc h)
  hand_unentered conn most (Err refused) h = ended (Hands o pass conn most now (Err refused)) (record { adds = adds_none; short = tt })

  pub claim_unentered : (r : Result (Option Claimed) ClaimRefused) → IsErrAnd r (λ e. e ≡ claim_refused.NoMemory) → Ended pass (Claims o pass now r) now after
  claim_unentered (Ok granted) h = absurd h
  claim_unentered (Err (claim_refused.Spent granted)) h = absurd (cc h)
  claim_unentered (Err (claim_refused.Exhausted next)) h = absurd (cc h)
  claim_unentered (Err claim_refused.NoMemory) h = ended (Claims o pass now (Err claim_refused.NoMemory)) (record { adds = adds_none; grants = tt })

  pub post_unentered : (keeps : Bool) (conn : ConnNo) (input : Input) (r : Result (Unit {0}) PostRefused) → IsErrAnd r (λ e. e ≡ post_refused.NoMemory)
      → (is_disconnect (waits.Input input) ≡ true → (keeps ≡ true) × (is_open (world_after o now) conn ≡ false)) → Ended pass (Posts o keeps pass conn input now r) now after
  post_unentered keeps conn input (Ok taken) h spared = absurd h
  post_unentered keeps conn input (Err post_refused.Closed) h spared = absurd (cc h)
  post_unentered keeps conn input (Err (post_refused.QueueFull waiting)) h spared = absurd (cc h)
  post_unentered keeps conn input (Err post_refused.NoMemory) h spared = ended (Posts o keeps pass conn input now (Err post_refused.NoMemory))
      (record { adds = adds_none; spared = subst (λ es. is_disconnect (waits.Input input) ≡ true → (keeps ≡ true) × (is_open (world_after o es) conn ≡ false)) (sym (append-nil now)) spared })

  pub tick_unentered : (keeps : Bool) (moment : ℕ) (r : Result (Unit {0}) NoMemory) → IsErr r → keeps ≡ true → Ended pass (Ticks o keeps pass moment now r) now after
  tick_unentered keeps moment (Ok done) h on = absurd (cc h)
  tick_unentered keeps moment (Err refused) h on = ended (Ticks o keeps pass moment now (Err refused)) (record { adds = adds_none; only = on })
