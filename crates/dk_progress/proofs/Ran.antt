-- A claimed run that is committed leaves less to run than before its claim.
use Rattle.std.proofs.Common.{◌≡◌, ℕ, ◌+◌, ◌<◌, Bool, true, false, cond, not, nat_eq, ◌==◌, Some, None, option_map, List, ◌∷◌, inl, inr, refl, sym, ap, subst, ◌∙◌, arith}
use Rattle.std.specs.FinMap.{FinMap, get, insert, remove, empty, get-empty, same_map}
use Rattle.std.proofs.lemmas.Bool.{cases_Bool}
use Rattle.dk_types.specs.declared.number.RunNo.{RunNo}
use Rattle.dk_types.specs.declared.number.ConnNo.{ConnNo}
use Rattle.dk_types.specs.declared.job.Job.{Job}
use Rattle.dk_types.specs.declared.job.Out.{Out}
use Rattle.dk_types.specs.declared.fault.Outcome.{Outcome}
use Rattle.dk_types.specs.declared.event.Event.TheVariants as event
use Rattle.dk_model.specs.declared.waiting.Waiting.{Waiting}
use Rattle.dk_types.specs.declared.limits.TheConstants.{NUMBERS_END}
use Rattle.dk_model.specs.Keys.{run_cmp}
use Rattle.dk_model.specs.Worlds.{World, Connection, Claim}
use Rattle.dk_model.specs.Deliveries.{Connections, conn_of, for_conn, input_left, delivered, is_done, without_done}
use Rattle.dk_model.specs.Picks.{pick}
use Rattle.dk_model.specs.Steps.{Stepped}
use Rattle.dk_model.specs.Events.{Meaning, Happens, swept, lowered, with_claim, committed, step_of}
use Rattle.dk_model.specs.Lawful.{AreLawful}
use Rattle.dk_model.specs.Sendings.{SendsOneAtMost}
use Rattle.dk_model.proofs.Maps.{runs_total, exact_runs, get-insert_here, some_is}
use Rattle.dk_model.proofs.StepLaws.{step_goes_on}
use Rattle.dk_laws.proofs.NumberedMaps.{equal, unequal, run-insert, run-remove, get-change, get-without_done}
use Rattle.dk_progress.specs.Fitness.{left_of, left_at, left_in, left, HasNumbersLeft}
use Rattle.dk_progress.specs.ProgressLaws.{IsRun, RunsLeaveLess}
use Rattle.dk_progress.proofs.Kept.{IsDelivered, OfEach, Relation, AtEach, kept_next, kept_for_conn, kept_swept, kept_after_input, kept_delivered}
use Rattle.dk_progress.proofs.Lefts.{LeavesNoMore, StaysWithin, lefts_steady, lefts_delivered, boxes_delivered, input_less}
use Rattle.dk_progress.proofs.Sums.{first_left, sum_no_more, sum_less}
use Rattle.dk_progress.proofs.KeptTasks.{step_keeps}
use Rattle.dk_progress.proofs.Picks.{IsFirst, pick_first, pick_no_task}
use Rattle.dk_progress.proofs.Fits.{lefts_away, known_after}

-- what was put and removed is gone
none_where : (b : Bool) (claim : Claim) → cond b None (cond b (Some claim) None) ≡ None
none_where true claim = refl
none_where false claim = refl

-- a claim that goes was the only one
claim_gone : (claims : FinMap run_cmp Claim) (run : RunNo) (claim : Claim) → claims ≡ empty → remove (insert claims run claim) run ≡ empty
claim_gone claims run claim none =
    ap (λ m. remove (insert m run claim) run) none
    ∙ same_map runs_total exact_runs (remove (insert empty run claim) run) empty (λ q. run-remove (insert empty run claim) run q
    ∙ ap (λ o. cond (nat_eq q.0 run.0) None o) (run-insert empty run claim q ∙ ap (λ o. cond (nat_eq q.0 run.0) (Some claim) o) (get-empty run_cmp q))
    ∙ none_where (nat_eq q.0 run.0) claim ∙ sym (get-empty run_cmp q))

-- after a commit the first run is no longer left
first_gone : (n m : ℕ) → n ≡ m + 1 → first_left (n == 0) ≡ 0
first_gone n m e = ap first_left (unequal n 0 (λ none. omega (arith, e, none)))

module _ (turn : Connection → Connection) (j : Job) (outs : List (ConnNo × Out)) (all : Connections) where
  -- the connections after the claim
  abbrev turned : Connections
  turned = for_conn (conn_of j) turn all

  -- as the commit finds them
  abbrev claimed_all : Connections
  claimed_all = without_done turned

  -- as the commit leaves them
  abbrev delivered_all : Connections
  delivered_all = delivered j outs claimed_all

  -- without those that are done
  abbrev pub ran_all : Connections
  ran_all = without_done delivered_all

  -- what is so of each change is so of all
  ran_kept : (R : Relation) → IsDelivered R → OfEach R turn → AtEach R ran_all all
  ran_kept R is same =
      kept_next R is.steady ran_all delivered_all all (kept_swept R is.steady delivered_all)
      (kept_next R is.steady delivered_all claimed_all all (kept_delivered R is j outs claimed_all)
      (kept_next R is.steady claimed_all turned all (kept_swept R is.steady turned) (kept_for_conn R is.steady (conn_of j) turn all same)))

  module _ (conn : ConnNo) (c : Connection) (there : get all conn ≡ Some c) (of : conn_of j ≡ Some conn) where
    -- a connection that is changed
    changed_here : (change : Connection → Connection) (some : Connections) → get (for_conn (conn_of j) change some) conn ≡ option_map change (get some conn)
    changed_here change some =
        ap (λ o. get (for_conn o change some) conn) of ∙ get-change conn change some conn
        ∙ ap (λ b. cond b (option_map change (get some conn)) (get some conn)) (equal conn.0 conn.0 refl)

    -- as the input has left it
    input_here : get (for_conn (conn_of j) input_left claimed_all) conn ≡ option_map input_left (cond (not (is_done (get turned conn))) (Some (turn c)) None)
    input_here =
        changed_here input_left claimed_all
        ∙ ap (option_map input_left) (get-without_done turned conn
        ∙ ap (λ o. cond (not (is_done (get turned conn))) o None) (changed_here turn all ∙ ap (option_map turn) there))

    -- the connection of the input that was run leaves less
    pub input_ran : (x : Waiting) (queue : List Waiting) → (turn c).queue ≡ x ∷ queue → left_of (turn c) ≡ left_of c → left_at (get ran_all conn) < left_at (get all conn)
    input_ran x queue queued same =
        let swept_less = kept_swept LeavesNoMore lefts_steady delivered_all conn in
        let rest_less = kept_after_input LeavesNoMore lefts_delivered j outs claimed_all conn in
        let here = ap left_at input_here in
        let was = ap left_at there in
        let less = input_less (not (is_done (get turned conn))) (turn c) x queue queued in
        omega (arith, swept_less, rest_less, here, was, less, same)

module _ (rules : Meaning) (lawful : AreLawful rules) (terse : SendsOneAtMost rules) (w : World) (conns : List ConnNo) (more : ℕ) (fit : HasNumbersLeft w conns more) (pass : ℕ) (j : Job) (is_picked : pick w ≡ Some j) where
  -- the run's number
  abbrev run : RunNo
  run = record { 0 = w.next }

  -- its claim
  abbrev claim : Claim
  claim = record { pass = pass; job = j; at = w.moment }

  -- the world once it is claimed
  abbrev between : World
  between = swept (with_claim w pass j)

  -- what the run does
  abbrev stepped : Stepped
  stepped = step_of rules between run claim

  -- the world after its commit
  abbrev after : World
  after = swept (committed between run j stepped)

  -- the turn that the claim gives
  abbrev turn : Connection → Connection
  turn c = record c { turn = w.next }

  -- no connection leaves more
  less_each : AtEach LeavesNoMore after.connections w.connections
  less_each = ran_kept turn j stepped.outs w.connections LeavesNoMore lefts_delivered (λ c. omega arith)

  -- at none wait more messages than may wait
  within_each : AtEach StaysWithin after.connections w.connections
  within_each = ran_kept turn j stepped.outs w.connections StaysWithin boxes_delivered (λ c h. h)

  -- the first run is no longer left
  first_ran : first_left (after.durable.commits == 0) ≡ 0
  first_ran = first_gone after.durable.commits w.durable.commits ((step_goes_on rules lawful j run w.moment w.durable).commits)

  -- after the first run an input is
  input_gone : IsFirst w j → left_in after.connections conns < left_in w.connections conns
  input_gone i =
      let less = input_ran turn j stepped.outs w.connections i.conn i.c i.there i.of i.x i.queue i.queued refl in
      sum_less after.connections w.connections less_each i.conn less conns (fit.known i.conn i.c i.there)

  -- so less is left
  less_left : left after conns < left w conns
  less_left = elim (cases_Bool (w.durable.commits == 0)) [
    | inl first ↦
        let one = ap first_left first in
        omega (arith, one, first_ran, sum_no_more after.connections w.connections less_each conns)
    | inr later ↦
        let none = ap first_left later in
        omega (arith, none, first_ran, input_gone (pick_first w fit.tasks later j is_picked))
  ]

  -- the world after the commit is fit
  fit_ran : HasNumbersLeft after conns more
  fit_ran = record {
    unclaimed = claim_gone w.claims run claim fit.unclaimed;
    unlimited = ap lowered fit.unlimited;
    moment = fit.moment;
    tasks = step_keeps rules j run w.moment w.durable terse (pick_no_task w fit.tasks j is_picked) ∙ fit.tasks;
    known = known_after after.connections w.connections conns (lefts_away after.connections w.connections less_each) fit.known;
    drawn = λ conn there. omega (arith, fit.drawn conn there);
    distinct = fit.distinct;
    boxes = λ conn. within_each conn (fit.boxes conn);
    numbers = omega (arith, fit.numbers, less_left);
  }

  -- it is a run as it is to be
  pub is_run : w.next < NUMBERS_END → IsRun w conns more run w.moment after
  is_run few = record { fit = fit_ran; less = less_left; number = few; moment = fit.moment }

  -- and it is the one that is committed
  committed_after : (number : RunNo) (seq : ℕ) (outcome : Outcome) (last : World) → number ≡ run → Happens rules between (event.Commit pass number seq outcome) last → last ≡ after
  committed_after number seq outcome last is h =
      let mine : claim ≡ h.0 = some_is claim h.0 (sym (get-insert_here runs_total w.claims run claim) ∙ ap (get between.claims) (sym is) ∙ h.1) in
      h.5 ∙ (λ i. swept (committed between (is i) ((sym mine) i).job (step_of rules between (is i) ((sym mine) i))))

-- a claimed run that is committed
pub run_less : RunsLeaveLess
run_less rules w mid after conns more pass run at j seq outcome lawful terse fit claims commits =
    let now = subst (λ (m : World). Happens rules m (event.Commit pass run seq outcome) after) claims.5 commits in
    let last = committed_after rules lawful terse w conns more fit pass j claims.0 run seq outcome after claims.3 now in
    let is = is_run rules lawful terse w conns more fit pass j claims.0 claims.2 in
    let of_after = subst (λ (v : World). IsRun w conns more (record { 0 = w.next }) w.moment v) (sym last) is in
    let at_moment = subst (λ (n : ℕ). IsRun w conns more (record { 0 = w.next }) n after) (sym claims.4) of_after in
    subst (λ (n : RunNo). IsRun w conns more n at after) (sym claims.3) at_moment
