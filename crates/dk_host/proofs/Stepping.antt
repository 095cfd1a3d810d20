-- What the steps of a host owe.
use Rattle.std.proofs.Common.{◌≡◌, ℕ, Bool, zero, suc, List, [], ◌∷◌, ◌++◌, Option, Some, None, Result, Ok, Err, refl, sym, ap, subst, ◌∙◌, arith}
use Rattle.std.specs.List.{All}
use Rattle.std.specs.FinMap.{get}
use Rattle.std.proofs.lemmas.List.{append-nil}
use Rattle.dk_types.specs.declared.event.Event.{Event}
use Rattle.dk_types.specs.declared.event.Event.TheVariants as event
use Rattle.dk_types.specs.declared.fault.NoMemory.{NoMemory}
use Rattle.dk_types.specs.declared.job.Input.{Input}
use Rattle.dk_types.specs.declared.number.ConnNo.{ConnNo}
use Rattle.dk_model.specs.Legal.{Opened, opening_of, world_after, IsLegal, commits_of, pass_of}
use Rattle.dk_model.specs.Worlds.{World}
use Rattle.dk_laws.proofs.Between.{commits_of-append}
use Rattle.dk_laws.proofs.OneWorld.{events_lead}
use Rattle.dk_connections.specs.declared.answers.Handed.{Handed}
use Rattle.dk_connections.specs.declared.answers.PostRefused.{PostRefused}
use Rattle.dk_connections.specs.declared.answers.PostRefused.TheVariants as post_refused
use Rattle.dk_core.specs.declared.world.Core.{Core}
use Rattle.dk_core.specs.declared.claimed.Claimed.{Claimed}
use Rattle.dk_core.specs.declared.answers.ConnectRefused.{ConnectRefused}
use Rattle.dk_core.specs.declared.answers.ConnectRefused.TheVariants as connect_refused
use Rattle.dk_core.specs.declared.answers.ClaimRefused.{ClaimRefused}
use Rattle.dk_core.specs.declared.answers.ClaimRefused.TheVariants as claim_refused
use Rattle.dk_core.specs.Answers as core
use Rattle.dk_core.specs.Cores.{world_of, Adds as AddsEvents, IsGranted, KeepsReady}
use Rattle.dk_core.specs.Rooms.{HasPlaces}
use Rattle.dk_turn.specs.Fronts.{known}
use Rattle.dk_host.specs.Books.{IsAt, IsKept}
use Rattle.dk_host.specs.Calls.{connect_events, post_events, claim_events, hand_events, Stands, IsSpared, Grants}
use Rattle.dk_host.specs.Steps.{Adds, MayEnd}

-- the core stands for a legal history
pub legal : (o : Opened) (events : List Event) (c : Core) → IsAt o events c → IsLegal o events
legal o events c s = record { valid = s.valid; within = s.within; history = record { last = world_of c; leads = s.leads } }

-- the core's world is the one after its history
pub world_is : (o : Opened) (events : List Event) (c : Core) → IsAt o events c → world_of c ≡ world_after o events
world_is o events c s = events_lead o.rules (opening_of o) events (world_of c) s.leads

-- what the core granted stands in its history
pub granted_stands : (o : Opened) (events : List Event) (c : Core) (claimed : Claimed) → IsAt o events c → IsGranted c claimed → Stands o events claimed
granted_stands o events c claimed s g = ap (λ (x : World). get x.claims claimed.run) (sym (world_is o events c s)) ∙ g

-- and what stands in its history is granted
pub stands_granted : (o : Opened) (events : List Event) (c : Core) (claimed : Claimed) → IsAt o events c → Stands o events claimed → IsGranted c claimed
stands_granted o events c claimed s h = ap (λ (x : World). get x.claims claimed.run) (world_is o events c s) ∙ h

-- so a claim that may be ended is granted
pub may_granted : (o : Opened) (pass : ℕ) (events : List Event) (c : Core) (claimed : Claimed) → IsAt o events c → MayEnd o pass events claimed → IsGranted c claimed
may_granted o pass events c claimed s may = stands_granted o events c claimed s (may.1 (legal o events c s))

-- events of one pass, and none
pub all_one : (pass : ℕ) (e : Event) → pass_of e ≡ pass → All (λ x. pass_of x ≡ pass) (e ∷ [])
all_one pass e is zero d lt = is
all_one pass e is (suc k) d lt = absurd (omega (arith, lt))

pub all_none : (pass : ℕ) → All (λ x. pass_of x ≡ pass) []
all_none pass k d lt = absurd (omega (arith, lt))

-- events that a pass enters and that are no commits
pub record AreOf (pass : ℕ) (events : List Event) : Type 0 where
  pub by : All (λ e. pass_of e ≡ pass) events
  pub none : commits_of events ≡ 0

pub nothing_of : (pass : ℕ) → AreOf pass []
nothing_of pass = record { by = all_none pass; none = refl }

pub connect_of : (pass : ℕ) (name : List ℕ) (r : Result ConnNo ConnectRefused) → AreOf pass (connect_events pass name r)
connect_of pass name (Ok conn) = record { by = all_one pass _ refl; none = refl }
connect_of pass name (Err (connect_refused.Exhausted next)) = record { by = all_one pass _ refl; none = refl }
connect_of pass name (Err connect_refused.NoMemory) = nothing_of pass

pub post_of : (pass : ℕ) (conn : ConnNo) (input : Input) (r : Result (Unit {0}) PostRefused) → AreOf pass (post_events pass conn input r)
post_of pass conn input (Ok taken) = record { by = all_one pass _ refl; none = refl }
post_of pass conn input (Err post_refused.Closed) = record { by = all_one pass _ refl; none = refl }
post_of pass conn input (Err (post_refused.QueueFull waiting)) = record { by = all_one pass _ refl; none = refl }
post_of pass conn input (Err post_refused.NoMemory) = nothing_of pass

pub claim_of : (pass : ℕ) (r : Result (Option Claimed) ClaimRefused) → AreOf pass (claim_events pass r)
claim_of pass (Ok (Some c)) = record { by = all_one pass _ refl; none = refl }
claim_of pass (Ok None) = record { by = all_one pass _ refl; none = refl }
claim_of pass (Err (claim_refused.Spent granted)) = record { by = all_one pass _ refl; none = refl }
claim_of pass (Err (claim_refused.Exhausted next)) = record { by = all_one pass _ refl; none = refl }
claim_of pass (Err claim_refused.NoMemory) = nothing_of pass

pub hand_of : (pass : ℕ) (conn : ConnNo) (most : ℕ) (r : Result Handed NoMemory) → AreOf pass (hand_events pass conn most r)
hand_of pass conn most (Ok handed) = record { by = all_one pass _ refl; none = refl }
hand_of pass conn most (Err refused) = nothing_of pass

pub release_of : (pass : ℕ) (claimed : Claimed) → AreOf pass (event.Release pass claimed.run ∷ [])
release_of pass claimed = record { by = all_one pass _ refl; none = refl }

pub tick_of : (pass moment : ℕ) → AreOf pass (event.Tick pass moment ∷ [])
tick_of pass moment = record { by = all_one pass _ refl; none = refl }

-- a call of the core, from the history before it to the history after it
module _ (o : Opened) (before : List Event) (old new : Core) (total places : ℕ) (k : IsKept o before old total places) where
  pub more : (events : List Event) → AddsEvents old new events → IsAt o (before ++ events) new
  more events adds = adds o.rules o.durable o.budget before k.0 k.1

  pub none_at : new ≡ old → IsAt o (before ++ []) new
  none_at same = subst (λ es. IsAt o es new) (sym (append-nil before)) (subst (IsAt o before) (sym same) k.1)

  pub connect_at : (pass : ℕ) (name : List ℕ) (r : Result ConnNo ConnectRefused) → core.Connected old new name r → IsAt o (before ++ connect_events pass name r) new
  connect_at pass name (Ok conn) h = more _ (h pass)
  connect_at pass name (Err (connect_refused.Exhausted next)) h = more _ (h pass)
  connect_at pass name (Err connect_refused.NoMemory) h = none_at h

  pub post_at : (pass : ℕ) (conn : ConnNo) (input : Input) (r : Result (Unit {0}) PostRefused) → core.Posted old new conn input r → IsAt o (before ++ post_events pass conn input r) new
  post_at pass conn input (Ok taken) h = more _ (h pass)
  post_at pass conn input (Err post_refused.Closed) h = more _ (h pass)
  post_at pass conn input (Err (post_refused.QueueFull waiting)) h = more _ (h pass)
  post_at pass conn input (Err post_refused.NoMemory) h = none_at h.0

  pub post_spared : (keeps takes : Bool) (conn : ConnNo) (input : Input) (r : Result (Unit {0}) PostRefused) → core.Posted old new conn input r → IsSpared keeps takes input r
  post_spared keeps takes conn input (Ok taken) h = tt
  post_spared keeps takes conn input (Err post_refused.Closed) h = tt
  post_spared keeps takes conn input (Err (post_refused.QueueFull waiting)) h = tt
  post_spared keeps takes conn input (Err post_refused.NoMemory) h = λ is. absurd (let none = h.1 in cc (is, none))

  pub claim_at : (pass : ℕ) (r : Result (Option Claimed) ClaimRefused) → core.Claims old new pass r → IsAt o (before ++ claim_events pass r) new
  claim_at pass (Ok (Some c)) h = more _ h.0
  claim_at pass (Ok None) h = more _ h
  claim_at pass (Err (claim_refused.Spent granted)) h = more _ h
  claim_at pass (Err (claim_refused.Exhausted next)) h = more _ h
  claim_at pass (Err claim_refused.NoMemory) h = none_at h

  -- a claim is ended by the pass that it was granted to
  pub release_at : (pass : ℕ) (claimed : Claimed) → claimed.pass ≡ pass → AddsEvents old new (event.Release claimed.pass claimed.run ∷ []) → IsAt o (before ++ event.Release pass claimed.run ∷ []) new
  release_at pass claimed same h = subst (λ p. IsAt o (before ++ event.Release p claimed.run ∷ []) new) same (more _ h)

  pub hand_at : (pass : ℕ) (conn : ConnNo) (most : ℕ) (r : Result Handed NoMemory) → core.Hands old new conn most r → IsAt o (before ++ hand_events pass conn most r) new
  hand_at pass conn most (Ok handed) h = more _ (h pass)
  hand_at pass conn most (Err refused) h = none_at h

  -- what is granted is the pass's
  pub claim_grants : (pass : ℕ) (r : Result (Option Claimed) ClaimRefused) → core.Claims old new pass r → Grants o (known pass (before ++ claim_events pass r)) r
  claim_grants pass (Ok (Some c)) h =
      let at = claim_at pass (Ok (Some c)) h in record { pass = h.2; legal = legal o _ new at; stands = granted_stands o _ new c at h.1 }
  claim_grants pass (Ok None) h = tt
  claim_grants pass (Err refused) h = tt

  -- the book is kept
  pub kept : (pass : ℕ) (events after : List Event) → IsAt o (before ++ events) new → AreOf pass events → after ≡ before ++ events → KeepsReady old new → IsKept o after new total places
  kept pass events after at of noted ready = (
    k.0,
    subst (λ es. IsAt o es new) (sym noted) at,
    k.2 ∙ (let both = commits_of-append before events in let none = of.none in let same = ap commits_of noted in omega (arith, both, none, same)),
    subst (λ r. HasPlaces r places) (sym ready.room) k.3,
  )

  -- what is entered behind the events of before is legal
  pub entering : (events made : List Event) → made ≡ before → IsAt o (before ++ events) new → IsLegal o (made ++ events)
  entering events made same at = subst (λ es. IsLegal o (es ++ events)) (sym same) (legal o (before ++ events) new at)

  pub adds : (events : List Event) → IsAt o (before ++ events) new → Adds o events before events
  adds events at = record { same = refl; legal = legal o (before ++ events) new at }
