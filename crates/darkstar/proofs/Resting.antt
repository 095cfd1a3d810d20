-- A drain leaves nothing to run, and what the main pass reads then it reads of the world at the end.
use Rattle.std.proofs.Common.{◌≡◌, ℕ, ◌+◌, ◌<◌, false, Option, Some, None, inl, inr, List, [], ◌∷◌, ◌++◌, length, refl, sym, ap, subst, ◌∙◌, arith}
use Rattle.std.specs.List.{All, AllByRecursion}
use Rattle.std.proofs.lemmas.List.{append-nil, length-append}
use Rattle.std.proofs.lemmas.Bool.Decides.{eqb_tells}
use mathlib.Core.List.{IsPrefix}
use Rattle.dk_types.specs.declared.number.RunNo.{RunNo}
use Rattle.dk_types.specs.declared.event.Event.{Event}
use Rattle.dk_types.specs.declared.event.Event.TheVariants as event
use Rattle.dk_types.specs.declared.event.ClaimReply.TheVariants as claimed
use Rattle.dk_model.specs.DurableWorlds.{DurableWorld}
use Rattle.dk_model.specs.Legal.{Opened, IsLegal, opening_of, world_after, pass_of}
use Rattle.dk_model.specs.Picks.{runnable}
use Rattle.dk_model.specs.Worlds.{World}
use Rattle.dk_laws.proofs.OneWorld.{events_lead, parted}
use Rattle.dk_turn.specs.Fronts.{Known}
use Rattle.dk_host.specs.Calls.{Entered}
use Rattle.dk_host.specs.Passes.{Enters}
use Rattle.dk_host.proofs.Entering.{enters_none, enters_one, enters_then}
use Rattle.dk_play_laws.specs.PhasedLaw.{IsSeenBy}
use Rattle.dk_play_laws.specs.Seen.{AreNumbered, AreBehind}
use Rattle.dk_play_laws.specs.Worked.{Handles}
use Rattle.dk_play_laws.specs.WorkedLaw.{AllWork}
use Rattle.dk_play_laws.specs.Worked.{AreWorked}
use Rattle.dk_play_laws.proofs.Drained.{behind_more, drains_end}
use Rattle.dk_play_laws.proofs.Own.{of_pass, of_first, of_rest, alone}
use Rattle.dk_play_laws.proofs.Phasing.{seen_all}
use Rattle.dk_play_laws.proofs.Unclaimed.{opening_unclaimed}
use Rattle.dk_play_laws.proofs.Worked.{workers_leave}
use Rattle.dk_demos.specs.CountersTotals.{is_connect, AreUnconnected, IsAtRest}
use Rattle.dk_workers.specs.Drains.{HasDrained}
use Rattle.darkstar.specs.Tallies.{ReadsAlone, HasRested, IsRested, ReadsCounters, IsTally, IsTallied}
use Rattle.dk_workers.proofs.Playing.{named_up_to}

-- ---- what workers enter

-- a worker connects nobody
handles_unconnected : (hand : Option RunNo) (e : Event) (after : Option RunNo) → Handles hand e after → is_connect e ≡ false
handles_unconnected None (event.Connect pass name reply) after h = absurd h
handles_unconnected (Some run) (event.Connect pass name reply) after h = absurd h
handles_unconnected hand (event.Post pass conn input reply) after h = refl
handles_unconnected hand (event.Claim pass reply) after h = refl
handles_unconnected hand (event.Release pass run) after h = refl
handles_unconnected hand (event.Commit pass run seq outcome) after h = refl
handles_unconnected hand (event.Hand pass conn most outs end) after h = refl
handles_unconnected hand (event.Tick pass moment) after h = refl

worked_unconnected : (hand : Option RunNo) (events : List Event) (after : Option RunNo) → AreWorked hand events after → AreUnconnected events
worked_unconnected hand [] after w = tt
worked_unconnected hand (e ∷ events) after w = (handles_unconnected hand e w.0 w.1, worked_unconnected w.0 events after w.2)

-- what holds of each pass's own events holds of all
of_all_own : (Q : Event → Type 0) (events : List Event) → ((pass : ℕ) → AllByRecursion Q (of_pass pass events)) → AllByRecursion Q events
of_all_own Q [] h = tt
of_all_own Q (e ∷ events) h = (
  (subst (AllByRecursion Q) (of_first (pass_of e) e events refl) (h (pass_of e))).0,
  of_all_own Q events (λ pass. elim (eqb_tells (pass_of e) pass) [
    | inl t ↦ (subst (AllByRecursion Q) (of_first pass e events t.1) (h pass)).1
    | inr t ↦ subst (AllByRecursion Q) (of_rest pass e events t.1) (h pass)
  ]),
)

unconnected_work : (events : List Event) → AllWork events → AreUnconnected events
unconnected_work events work = of_all_own (λ e. is_connect e ≡ false) events (λ pass. worked_unconnected None (of_pass pass events) None (work pass))

-- work that ends with a claim that gave nothing is at rest
rests : (o : Opened) (pass : ℕ) (events : List Event) → IsLegal o (events ++ event.Claim pass claimed.Nothing ∷ []) → AllWork (events ++ event.Claim pass claimed.Nothing ∷ []) → HasRested o (events ++ event.Claim pass claimed.Nothing ∷ [])
rests o pass events legal work =
    let e : Event = event.Claim pass claimed.Nothing in
    let all : List Event = events ++ e ∷ [] in
    let at : World = legal.history.last in
    let same : at ≡ world_after o all = events_lead o.rules (opening_of o) all at legal.history.leads in
    let p = parted o.rules (opening_of o) events (e ∷ []) at legal.history.leads in
    let last : p.at ≡ at = sym (p.second.2 ∙ p.second.1.1) in
    let left = workers_leave o.rules (opening_of o) all at (opening_unclaimed o.durable o.budget) work legal.history.leads in
    record {
      unconnected = unconnected_work all work;
      rest = subst IsAtRest same record { nothing = subst (λ (w : World). runnable w ≡ []) last p.second.1.0; unclaimed = left.unclaimed };
    }

module _ (o : Opened) (passes : ℕ) (workers after : List (Known Event)) (old mid : Known Event) (size : passes ≡ length workers + 1) (numbered : AreNumbered 0 workers) (number : old.number ≡ length workers) (behind : AreBehind workers old.front) (fresh : old.front ≡ [])
    (d : HasDrained claimed.Nothing o passes workers after old mid) where
  -- what a drain leaves that begins a history
  rested_by : IsRested o after mid
  rested_by =
      let t = drains_end claimed.Nothing workers after old mid numbered number behind (named_up_to passes (length workers) mid.front size d.named) d.drain in
      record {
        numbered = t.numbered;
        number = d.drain.last.goes.number ∙ d.drain.second.main.number ∙ d.drain.first.main.number ∙ number ∙ sym t.count;
        behind = t.behind;
        rested = λ seen.
            let s = t.tells seen in
            let is : mid.front ≡ s.events ++ event.Claim mid.number claimed.Nothing ∷ [] = s.all ∙ ap (λ (es : List Event). es ++ (s.events ++ event.Claim mid.number claimed.Nothing ∷ [])) fresh in
            subst (HasRested o) (sym is) (rests o mid.number s.events (subst (IsLegal o) is d.legal) s.work);
      }

  -- and what the main pass reads then
  pub tallied_by : (new : Known Event) (counts : List ℕ) → ReadsCounters o passes 16 mid new counts → IsTallied o after new counts
  tallied_by new counts r =
      let q = rested_by in
      let count = (drains_end claimed.Nothing workers after old mid numbered number behind (named_up_to passes (length workers) mid.front size d.named) d.drain).count in
      let named = named_up_to passes (length after) new.front (size ∙ ap (λ (n : ℕ). n + 1) (sym count)) (r.enters.named d.named) in
      record {
        numbered = q.numbered;
        number = r.number ∙ q.number;
        behind = behind_more after mid.front new.front r.enters.begins q.behind;
        tally = λ seen.
            let entered : of_pass (length after) new.front ≡ of_pass (length after) mid.front ++ [] = subst (λ (k : ℕ). of_pass k new.front ≡ of_pass k mid.front ++ []) q.number r.enters.own_events in
            let still = alone after mid.front [] new.front q.numbered named q.behind seen r.enters.begins entered in
            let same : new.front ≡ mid.front = still.all ∙ append-nil mid.front in
            record { rested = subst (HasRested o) (sym same) (q.rested still.seen); read = r.tells same };
      }

-- once the history is closed it holds of the whole
pub tally_seen : (o : Opened) (workers : List (Known Event)) (main : Known Event) (counts : List ℕ) (log : List Event) → IsTallied o workers main counts → IsSeenBy workers main log → IsTally o log counts
tally_seen o workers main counts log t seen =
    let still = seen_all workers main log t.numbered t.number t.behind seen in
    subst (λ (es : List Event). IsTally o es counts) (sym (still.all ∙ append-nil main.front)) (t.tally still.seen)

-- ---- reads one behind another

no_items : {A : Type 0} (xs : List A) → length xs ≡ 0 → xs ≡ []
no_items [] e = refl
no_items (x ∷ xs) e = absurd (omega (arith, e))

-- a front between two that are one is the same
between_same : (a b c : List Event) → IsPrefix a b → IsPrefix b c → c ≡ a → b ≡ a
between_same a b c f g same =
    let first = length-append a f.0 in
    let second = length-append b g.0 in
    let to_b = ap (λ (xs : List Event). length xs) f.1 in
    let to_c = ap (λ (xs : List Event). length xs) (g.1 ∙ same) in
    let none : f.0 ≡ [] = no_items f.0 (omega (arith, first, second, to_b, to_c)) in
    sym f.1 ∙ ap (λ (xs : List Event). a ++ xs) none ∙ append-nil a

module _ (o : Opened) (passes : ℕ) where
  -- nothing was read
  pub reads_none : (P : DurableWorld → Type 0) (p : Known Event) → P (world_after o p.front).durable → ReadsAlone o passes P p p
  reads_none P p h = record { number = refl; enters = enters_none o passes p.number p.front; tells = λ same. h }

  -- one call
  pub reads_one : (P : DurableWorld → Type 0) (old new : Known Event) → new.number ≡ old.number → Entered o old.number [] old.front new.front → All (λ e. pass_of e < passes) new.front → P (world_after o new.front).durable → ReadsAlone o passes P old new
  reads_one P old new number entered named h = record { number = number; enters = enters_one o passes old.number [] old.front new.front entered named; tells = λ same. h }

  -- one and then another, of which this follows
  pub reads_then : (P Q S : DurableWorld → Type 0) (old mid new : Known Event) → ((d : DurableWorld) → P d → Q d → S d) → ReadsAlone o passes P old mid → ReadsAlone o passes Q mid new → ReadsAlone o passes S old new
  reads_then P Q S old mid new both a b = record {
    number = b.number ∙ a.number;
    enters = enters_then o passes old.number [] [] old.front mid.front new.front a.enters (subst (λ (k : ℕ). Enters o passes k [] mid.front new.front) a.number b.enters);
    tells = λ same.
        let here : mid.front ≡ old.front = between_same old.front mid.front new.front a.enters.begins b.enters.begins same in
        let there : new.front ≡ mid.front = same ∙ sym here in
        both (world_after o new.front).durable (subst (λ (es : List Event). P (world_after o es).durable) (sym there) (a.tells here)) (b.tells there);
  }
