-- A core that was opened stands for the history of no events, and its reads are those of its history.
use Rattle.std.proofs.Common.{◌≡◌, ℕ, Bool, false, List, [], Option, None, Some, is_some, sym, ap, ◌∙◌, arith}
use Rattle.std.specs.FinMap.{FinMap, get, get-empty, empty, contains_key, len, len-empty}
use Rattle.dk_types.specs.declared.number.ConnNo.{ConnNo}
use Rattle.dk_types.specs.declared.number.TaskKey.{TaskKey}
use Rattle.dk_types.specs.declared.item.Item.{Item}
use Rattle.dk_types.specs.declared.item.Read.{Read}
use Rattle.dk_types.specs.declared.job.Job.{Job}
use Rattle.dk_types.specs.declared.event.Event.{Event}
use Rattle.dk_types.specs.Keys.{run_cmp, conn_cmp}
use Rattle.dk_model.specs.DurableWorlds.{DurableWorld, answer}
use Rattle.dk_model.specs.Validity.{IsValid, next_of}
use Rattle.dk_model.specs.Worlds.{World, Claim}
use Rattle.dk_model.specs.Events.{Meaning}
use Rattle.dk_model.specs.Openings.{opening, counting, with_sessions, budget_of}
use Rattle.dk_model.specs.Sights.{stamp, seen_in, IsReadAt}
use Rattle.dk_model.proofs.Maps.{not_both}
use Rattle.dk_laws.proofs.Numbers.{opening_below}
use Rattle.dk_laws.proofs.OneWorld.{events_lead}
use Rattle.dk_laws.proofs.OpenClaims.{TheClaims}
use Rattle.dk_tasks.specs.Tasks.{Kept}
use Rattle.dk_connections.specs.MarkedConnections.{MarkedConnection, all_of, IsSwept}
use Rattle.dk_connections.proofs.Kept.{some_in}
use Rattle.dk_core.specs.StampedWorlds.{durable_of, read_now, HasStamps}
use Rattle.dk_core.specs.declared.world.Core.{Core}
use Rattle.dk_core.specs.Claiming.{Claiming}
use Rattle.dk_core.specs.Numbers.{HasNumbers}
use Rattle.dk_core.specs.Cores.{world_of, Represents}
use Rattle.dk_core.proofs.Having.{has, never, has_which}

has_none : (p : Job → Bool) (claims : TheClaims) → claims ≡ empty → has p claims ≡ false
has_none p claims is = never (has p claims) (λ h. let x = has_which p claims h in not_both (get claims x.run) x.claim x.there (ap (λ m. get m x.run) is ∙ get-empty run_cmp x.run))

no_claim : (claims : TheClaims) → claims ≡ empty → (run : _) (claim : _) → get claims run ≡ Some claim → ⊥
no_claim claims is run claim e = not_both (get claims run) claim e (ap (λ m. get m run) is ∙ get-empty run_cmp run)

pub opened : (rules : Meaning) (d : DurableWorld) (budget : Option ℕ) (c : Core) → IsValid d → durable_of c.world ≡ d → HasStamps (λ _. d.commits) c.world
    → ((key : TaskKey) (t : Kept) → get c.world.tasks key ≡ Some t → t.claimed ≡ false)
    → all_of c.connections.connections ≡ with_sessions (counting (durable_of c.world)) empty
    → ((conn : ConnNo) (l : MarkedConnection) → get c.connections.connections conn ≡ Some l → l.claimed ≡ false) → IsSwept c.connections.connections
    → c.claims ≡ record { claims = empty; next = next_of d.last; budget = budget_of budget } → c.moment ≡ 0 → c.after_task ≡ false → Represents rules d budget [] c
unfolding opening
opened rules d budget c valid is stamps tasks connected inputs swept claims moment after =
    let none : c.claims.claims ≡ empty = ap (λ (n : Claiming). n.claims) claims in record {
      valid = valid;
      within = tt;
      leads = λ i. record {
        durable = is i;
        moment = moment i;
        next = (claims i).next;
        budget = (claims i).budget;
        after_task = after i;
        claims = (claims i).claims;
        connections = (connected ∙ ap (λ x. with_sessions (counting x) empty) is) i;
      };
      stamps = stamps;
      tracked = record {
        swept = swept;
        inputs = λ conn l e. has_none _ c.claims.claims none ∙ sym (inputs conn l e);
        tasks = λ key t e. has_none _ c.claims.claims none ∙ sym (tasks key t e);
        first = λ zero run claim e. absurd (no_claim c.claims.claims none run claim e);
        alone = λ conn run other a b e f own its. absurd (no_claim c.claims.claims none run a e);
        below = λ run claim conn e own. absurd (no_claim c.claims.claims none run claim e);
      };
    }

-- a read of the core is what its history answers and sees
pub read_at : (c : Core) (item : Item) (read : Read) → read ≡ read_now c.world item → (rules : Meaning) (d : DurableWorld) (budget : Option ℕ) (events : List Event) → Represents rules d budget events c
    → IsReadAt rules (opening d budget) events item read
read_at c item read is rules d budget events s =
    let at = events_lead rules (opening d budget) events (world_of c) s.leads in record {
      answered = ap (λ r. r.answer) is ∙ ap (λ (w : World). answer w.durable item) at;
      saw = ap (λ r. r.seen) is ∙ s.stamps item ∙ ap (λ (w : World). seen_in w.durable (stamp rules (opening d budget) events item) item) at;
    }

-- and its numbers are drawn
pub numbers_first : (d : DurableWorld) (commits : ℕ) (claims : Claiming) (all : FinMap conn_cmp MarkedConnection) → IsValid d → commits ≡ d.commits → claims.claims ≡ empty → claims.next ≡ next_of d.last
    → all_of all ≡ with_sessions (counting d) empty → HasNumbers commits claims all
unfolding opening
numbers_first d commits claims all valid number none next is =
    let zero : len claims.claims ≡ 0 = ap len none ∙ len-empty run_cmp Claim in
    let few = valid.commits in
    let last = valid.last in (
      λ conn le. some_in all conn ∙ ap (λ m. contains_key m conn) is ∙ ap is_some ((opening_below d None).connections conn (omega (arith, next, le))),
      (omega (arith, number, zero, next, few), omega (arith, next, last)),
    )
