-- The laws of histories that rest on sound worlds.
use Rattle.std.proofs.Common.{◌≡◌, ℕ, ◌<◌, Bool, true, false, ◌||◌, nat_eq, Option, Some, None, List, [], ◌∷◌, ◌++◌, refl, sym, ap, subst, ◌∙◌, arith, inl, inr}
use Rattle.std.specs.List.{AllByRecursion, list_any}
use Rattle.std.specs.FinMap.{get}
use Rattle.std.proofs.lemmas.Bool.Decides.{eqb_tells}
use Rattle.dk_types.specs.declared.number.RunNo.{RunNo}
use Rattle.dk_types.specs.declared.number.ConnNo.{ConnNo}
use Rattle.dk_types.specs.declared.number.TaskKey.{TaskKey}
use Rattle.dk_types.specs.declared.job.Job.{Job}
use Rattle.dk_types.specs.declared.job.Session.{Session}
use Rattle.dk_types.specs.declared.event.Event.{Event}
use Rattle.dk_types.specs.declared.event.Event.TheVariants as event
use Rattle.dk_types.specs.declared.event.ConnectReply.TheVariants as connected
use Rattle.dk_types.specs.declared.event.PostReply.TheVariants as posted
use Rattle.dk_types.specs.declared.event.ClaimReply.TheVariants as claimed
use Rattle.dk_model.specs.DurableWorlds.{DurableWorld, Task}
use Rattle.dk_model.specs.Validity.{IsValid, next_of}
use Rattle.dk_model.specs.Worlds.{World, Claim}
use Rattle.dk_model.specs.Events.{Meaning, Happens, step_of}
use Rattle.dk_model.specs.Histories.{Leads}
use Rattle.dk_model.specs.Openings.{opening, counting}
use Rattle.dk_model.specs.Steps.{step}
use Rattle.dk_model.specs.Lawful.{AreLawful, IsWithinLimits}
use Rattle.dk_model.proofs.StepLaws.{step_goes_on}
use Rattle.dk_model.proofs.StepValid.{step_few}
use Rattle.dk_model.proofs.OnceTasks.{once_gone}
use Rattle.dk_model.proofs.Works.{IsOwnKey}
use Rattle.dk_laws.specs.MessagesLaw.{RunsSendFew}
use Rattle.dk_laws.specs.HistoryLaws.{WorldsStayValid, ClaimsStandReady, IsOnce, KeysDoNotReturn, Draws, Knows, NumbersAreNew}
use Rattle.dk_laws.proofs.OneWorld.{events_lead, parted}
use Rattle.dk_laws.proofs.Numbers.{leads_grow}
use Rattle.dk_laws.proofs.Sound.{IsSpent, IsSound}
use Rattle.dk_laws.proofs.SoundClaims.{spent_insert, spent_remove}
use Rattle.dk_laws.proofs.SoundCommits.{claim_ready}
use Rattle.dk_laws.proofs.SoundEvents.{spent_more, leads_sound}
use Rattle.dk_laws.proofs.SoundOpenings.{IsOfBefore, counting_before, opening_sound}

-- from an opening on, every world is sound
pub history_sound : (rules : Meaning) (d : DurableWorld) (budget : Option ℕ) (events : List Event) (w : World) → AreLawful rules → IsValid d → AllByRecursion IsWithinLimits events → Leads rules (opening d budget) events w → IsSound w
history_sound rules d budget events w lawful v within h = leads_sound rules lawful (opening d budget) events w (opening_sound d budget v) within h

pub worlds_valid : WorldsStayValid
worlds_valid rules d budget events w lawful v within h = (history_sound rules d budget events w lawful v within h).valid

pub claims_ready : ClaimsStandReady
claims_ready rules d budget events w run claim lawful v within h held =
    let s = history_sound rules d budget events w lawful v within h in
    let c = s.claims run claim held in
    let ready = claim_ready w run claim s held in
    (ready.new, c.job, c.own)

pub sends_few : RunsSendFew
sends_few rules d budget events w run claim lawful v within h held =
    let s = history_sound rules d budget events w lawful v within h in
    step_few rules lawful claim.job run claim.at w.durable s.valid (claim_ready w run claim s held)

-- ---- keys of once-tasks

-- a task that is not pending, under a key whose number is spent
pub record IsGone (w : World) (key : TaskKey) : Type 0 where
  pub none : get w.durable.tasks key ≡ None
  pub spent : IsSpent w.claims w.next key.run.0

none_after : (d after : DurableWorld) (key : TaskKey) → get d.tasks key ≡ None → ((task : Task) → get after.tasks key ≡ Some task → ⊥) → get after.tasks key ≡ None
none_after d after key none h = elim (get after.tasks key) as (λ o. get after.tasks key ≡ o → o ≡ None) [
  | None ↦ λ _. refl
  | Some task ↦ λ e. absurd (h task e)
] refl

-- it stays gone
gone_on : (rules : Meaning) → AreLawful rules → (key : TaskKey) (w : World) (e : Event) (after : World) → IsGone w key → Happens rules w e after → IsGone after key
gone_on rules lawful key w (event.Connect pass name (connected.Number conn)) after g h = subst (λ (x : World). IsGone x key) (sym h.2) record { none = g.none; spent = spent_more w.claims w.next key.run.0 g.spent }
gone_on rules lawful key w (event.Connect pass name (connected.Exhausted next)) after g h = subst (λ (x : World). IsGone x key) (sym h.2) g
gone_on rules lawful key w (event.Post pass conn x posted.Taken) after g h = subst (λ (x : World). IsGone x key) (sym h.2) record { none = g.none; spent = g.spent }
gone_on rules lawful key w (event.Post pass conn x posted.Closed) after g h = subst (λ (x : World). IsGone x key) (sym h.1) g
gone_on rules lawful key w (event.Post pass conn x (posted.QueueFull waiting)) after g h = subst (λ (x : World). IsGone x key) (sym h.3) g
gone_on rules lawful key w (event.Claim pass (claimed.Granted run at j)) after g h =
    subst (λ (x : World). IsGone x key) (sym h.5) record { none = g.none; spent = spent_insert w.claims w.next (record { pass = pass; job = j; at = w.moment }) key.run.0 g.spent }
gone_on rules lawful key w (event.Claim pass claimed.Nothing) after g h = subst (λ (x : World). IsGone x key) (sym h.1) g
gone_on rules lawful key w (event.Claim pass (claimed.Spent granted)) after g h = subst (λ (x : World). IsGone x key) (sym h.3) g
gone_on rules lawful key w (event.Claim pass (claimed.Exhausted next)) after g h = subst (λ (x : World). IsGone x key) (sym h.4) g
gone_on rules lawful key w (event.Release pass run) after g h = subst (λ (x : World). IsGone x key) (sym h.3) record { none = g.none; spent = spent_remove w.claims run w.next key.run.0 g.spent }
gone_on rules lawful key w (event.Commit pass run seq outcome) after g h =
    let goes = step_goes_on rules lawful h.0.job run h.0.at w.durable in
    subst (λ (x : World). IsGone x key) (sym h.5) record {
      none = none_after w.durable (step_of rules w run h.0).world key g.none (λ task e. g.spent.closed run h.0 h.1 (ap (λ (r : RunNo). r.0) (sym (goes.new_tasks key task g.none e))));
      spent = spent_remove w.claims run w.next key.run.0 g.spent;
    }
gone_on rules lawful key w (event.Hand pass conn most outs end) after g h = subst (λ (x : World). IsGone x key) (sym h.2) record { none = g.none; spent = g.spent }
gone_on rules lawful key w (event.Tick pass moment) after g h = subst (λ (x : World). IsGone x key) (sym h) record { none = g.none; spent = g.spent }

gone_for : (rules : Meaning) → AreLawful rules → (key : TaskKey) (w : World) (events : List Event) (after : World) → IsGone w key → Leads rules w events after → IsGone after key
gone_for rules lawful key w [] after g h = subst (λ (x : World). IsGone x key) (sym h) g
gone_for rules lawful key w (e ∷ events) after g h = gone_for rules lawful key h.0 events after (gone_on rules lawful key w e h.0 g h.1) h.2

once_key : (key : TaskKey) (j : Job) → IsOnce key j → IsOwnKey j key
once_key key j once = subst (λ (x : Job). IsOwnKey x key) (sym once.3) refl

front_within : (before later : List Event) → AllByRecursion IsWithinLimits (before ++ later) → AllByRecursion IsWithinLimits before
front_within [] later h = tt
front_within (e ∷ before) later h = (h.0, front_within before later h.1)

-- at its commit a once-task goes
committed_gone : (rules : Meaning) → AreLawful rules → (w : World) (run : RunNo) (claim : Claim) (key : TaskKey) → IsSound w → get w.claims run ≡ Some claim → IsOnce key claim.job → get (step_of rules w run claim).world.tasks key ≡ None
committed_gone rules lawful w run claim key s held once =
    let spent = (s.claims run claim held).spent key (once_key key claim.job once) in
    ap (λ (j : Job). get (step rules j run claim.at w.durable).world.tasks key) once.3
    ∙ once_gone rules lawful key once.0 once.1 once.2 run claim.at w.durable (λ same. spent.closed run claim held (ap (λ (r : RunNo). r.0) (sym same)))

same_claim : (o : Option Claim) (a b : Claim) → o ≡ Some a → o ≡ Some b → a ≡ b
same_claim o a b e f = cc

pub keys_gone : KeysDoNotReturn
keys_gone rules d budget before later at w pass seq run outcome claim key lawful v within first held once whole =
    let e = event.Commit pass run seq outcome in
    let p = parted rules (opening d budget) before (e ∷ later) w whole in
    let same : p.at ≡ at = events_lead rules (opening d budget) before p.at p.first ∙ sym (events_lead rules (opening d budget) before at first) in
    let s : IsSound p.at = history_sound rules d budget before p.at lawful v (front_within before (e ∷ later) within) p.first in
    let commit = p.second.1 in
    let is : claim ≡ commit.0 = same_claim (get at.claims run) claim commit.0 held (ap (λ (x : World). get x.claims run) (sym same) ∙ commit.1) in
    let own : IsOnce key commit.0.job = subst (λ (c : Claim). IsOnce key c.job) is once in
    let spent = (s.claims run commit.0 commit.1).spent key (once_key key commit.0.job own) in
    let gone : IsGone p.second.0 key = subst (λ (x : World). IsGone x key) (sym commit.5) record {
      none = committed_gone rules lawful p.at run commit.0 key s commit.1 own;
      spent = spent_remove p.at.claims run p.at.next key.run.0 spent;
    } in
    (gone_for rules lawful key p.second.0 later w gone p.second.2).none

-- ---- numbers

rest_any : (a b : Bool) → a ≡ false → (a || b) ≡ true → b ≡ true
rest_any true b f e = cc
rest_any false b f e = e

any_below : (n bound : ℕ) (sessions : List Session) → AllByRecursion (λ s. s.conn.0 < bound) sessions → list_any (λ s. nat_eq s.conn.0 n) sessions ≡ true → n < bound
any_below n bound [] h e = cc
any_below n bound (s ∷ sessions) h e =
    let first : s.conn.0 < bound = h.0 in
    elim (eqb_tells s.conn.0 n) [
      | inl t ↦ omega (arith, t.1, first)
      | inr t ↦ any_below n bound sessions h.1 (rest_any (nat_eq s.conn.0 n) _ t.0 e)
    ]

all_below : (d : DurableWorld) (sessions : List Session) → AllByRecursion (IsOfBefore d) sessions → AllByRecursion (λ s. s.conn.0 < next_of d.last) sessions
all_below d [] h = tt
all_below d (s ∷ sessions) h = (h.0.below, all_below d sessions h.1)

-- a number that the durable world knows was drawn
known_below : (w : World) (n : ℕ) → IsSound w → Knows w.durable n → n < w.next
known_below w n s (inl k) = let drawn = (s.objects k.0 k.1 k.2).drawn in let is = k.3 in omega arith
known_below w n s (inr (inl k)) = let drawn = (s.tasks k.0 k.1 k.2).drawn in let is = k.3 in omega arith
known_below w n s (inr (inr k)) =
    let last = s.last in
    let below = any_below n (next_of w.durable.last) (counting w.durable) (all_below w.durable (counting w.durable) (counting_before w.durable s.valid)) k in omega arith

-- a number that is drawn is the next one
drawn_next : (rules : Meaning) (w : World) (e : Event) (after : World) (n : ℕ) → Happens rules w e after → Draws e n → n ≡ w.next
drawn_next rules w (event.Connect pass name (connected.Number conn)) after n h is = is ∙ ap (λ (c : ConnNo). c.0) h.1
drawn_next rules w (event.Connect pass name (connected.Exhausted next)) after n h is = absurd is
drawn_next rules w (event.Post pass conn x reply) after n h is = absurd is
drawn_next rules w (event.Claim pass (claimed.Granted run at j)) after n h is = is ∙ ap (λ (r : RunNo). r.0) h.3
drawn_next rules w (event.Claim pass claimed.Nothing) after n h is = absurd is
drawn_next rules w (event.Claim pass (claimed.Spent granted)) after n h is = absurd is
drawn_next rules w (event.Claim pass (claimed.Exhausted next)) after n h is = absurd is
drawn_next rules w (event.Release pass run) after n h is = absurd is
drawn_next rules w (event.Commit pass run seq outcome) after n h is = absurd is
drawn_next rules w (event.Hand pass conn most outs end) after n h is = absurd is
drawn_next rules w (event.Tick pass moment) after n h is = absurd is

pub numbers_new : NumbersAreNew
numbers_new rules d budget before later at w e after n lawful v within first second happens knows draws =
    let s = history_sound rules d budget before at lawful v (front_within before later within) first in
    let below = known_below at n s knows in
    let grown = leads_grow rules at later w second in
    let next = drawn_next rules w e after n happens draws in
    omega arith
