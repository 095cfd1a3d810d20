-- One worker, who commits each run before the next is claimed: then the script alone decides the transcript.
use Rattle.std.proofs.Common.{◌≡◌, ℕ, ◌+◌, ◌≤◌, Bool, true, false, cond, eqb, codes, Option, Some, None, List, [], ◌∷◌, ◌++◌, length, map, take, drop, refl, sym, ap, ◌∙◌, subst, arith}
use Rattle.std.specs.FinMap as maps
use Rattle.std.specs.FinMap.{FinMap, get, insert, remove, get-insert, get-remove, same_map}
use Rattle.std.specs.Fmt.{decimal}
use Rattle.std.specs.Ordering.{eq_by_cmp}
use Rattle.std.specs.List.{AllByRecursion}
use Rattle.std.proofs.lemmas.List.{length-take, length-drop}
use Rattle.dk_types.specs.declared.number.ConnNo.{ConnNo}
use Rattle.dk_types.specs.declared.number.RunNo.{RunNo}
use Rattle.dk_types.specs.declared.number.TaskKey.{TaskKey}
use Rattle.dk_types.specs.declared.job.Job.{Job}
use Rattle.dk_types.specs.declared.job.Input.{Input}
use Rattle.dk_types.specs.declared.job.Input.TheVariants as input
use Rattle.dk_types.specs.declared.fault.Outcome.{Outcome}
use Rattle.dk_types.specs.declared.event.Event.{Event}
use Rattle.dk_types.specs.declared.event.Event.TheVariants as event
use Rattle.dk_types.specs.declared.event.ConnectReply.TheVariants as connected
use Rattle.dk_types.specs.declared.event.PostReply.{PostReply}
use Rattle.dk_types.specs.declared.event.PostReply.TheVariants as posted
use Rattle.dk_types.specs.declared.event.ClaimReply.TheVariants as claimed
use Rattle.dk_types.specs.Names.{bytes_cmp}
use Rattle.dk_types.specs.Keys.{run_cmp}
use Rattle.dk_model.specs.declared.script.Line.{Line}
use Rattle.dk_model.specs.declared.script.Line.TheVariants as line
use Rattle.dk_model.specs.DurableWorlds.{Task}
use Rattle.dk_model.specs.Worlds.{World, Connection, Claim}
use Rattle.dk_model.specs.Picks.{Turn, runnable, pick, first_runs, due_tasks, inputs, task_job, least, is_earlier, is_sooner, mapped, or_else, first_of_list}
use Rattle.dk_model.specs.Deliveries.{Connections, changed_at}
use Rattle.dk_model.specs.Lines.{text_of}
use Rattle.dk_model.specs.Steps.{Stepped, step}
use Rattle.dk_model.specs.Events.{Meaning, Happens, Posts, swept, with_claim, committed, outbox, outbox_at, step_of}
use Rattle.dk_model.specs.Orders.{OrderItem, Claimed, Committed, AreInTurn, item_of}
use Rattle.dk_model.specs.Transcripts.{Known, name_at, named, event_lines, connect_lines, post_lines, claim_lines, lines_of_events, known_after, lines_of_phases, nothing_known, transcript_text, done_line, Playing, PostsTo, PlaysLine, PlaysLines, Follows, Hands, PlaysPhase, Plays, playing, DecidesOneTranscript}
use Rattle.dk_script.proofs.SameTold.{SameTold, SameLines, same_by, same_none, same_more, same_both}
use Rattle.dk_model.proofs.Maps.{runs_total, exact_runs, some_is, get-insert_here}

-- a play is its three parts
playing_is : (a b : Playing) → a.world ≡ b.world → a.means ≡ b.means → a.opened ≡ b.opened → a ≡ b
playing_is a b p q r = λ i. record { world = p i; means = q i; opened = r i }

-- a post has one answer and leads to one world
post_once : (w a b : World) (conn : ConnNo) (x : Input) (r s : PostReply) → Posts w conn x r a → Posts w conn x s b → (r ≡ s) × (a ≡ b)
post_once w a b conn x posted.Closed posted.Closed g h = (refl, g.1 ∙ sym h.1)
post_once w a b conn x (posted.QueueFull m) (posted.QueueFull n) g h = (ap (λ (k : ℕ). posted.QueueFull k) (g.2 ∙ sym h.2), g.3 ∙ sym h.3)
post_once w a b conn x posted.Taken posted.Taken g h = (refl, g.2 ∙ sym h.2)
post_once w a b conn x posted.Closed (posted.QueueFull n) g h = absurd (let no : false ≡ true = sym g.0 ∙ h.0 in cc)
post_once w a b conn x posted.Closed posted.Taken g h = absurd (let no : false ≡ true = sym g.0 ∙ h.0 in cc)
post_once w a b conn x (posted.QueueFull m) posted.Closed g h = absurd (let no : true ≡ false = sym g.0 ∙ h.0 in cc)
post_once w a b conn x (posted.QueueFull m) posted.Taken g h = absurd (let no : true ≡ false = sym g.1 ∙ h.1 in cc)
post_once w a b conn x posted.Taken posted.Closed g h = absurd (let no : true ≡ false = sym g.0 ∙ h.0 in cc)
post_once w a b conn x posted.Taken (posted.QueueFull n) g h = absurd (let no : false ≡ true = sym g.1 ∙ h.1 in cc)

-- two plays that go on alike
pub record GoAlike (a b : Playing) (e f : Event) : Type 0 where
  pub same : a ≡ b
  pub told : SameTold e f

posts_alike : (rules : Meaning) (p a b : Playing) (name : List ℕ) (x : Input) (e f : Event) (means : FinMap bytes_cmp ConnNo) → PostsTo rules p name x e a means → PostsTo rules p name x f b means → GoAlike a b e f
posts_alike rules p a b name x e f means g h =
    let conns : g.1 ≡ h.1 = some_is g.1 h.1 (sym g.3 ∙ h.3) in
    let one : Posts p.world g.1 x g.2 a.world = subst (λ v. Happens rules p.world v a.world) g.4 g.5 in
    let two : Posts p.world g.1 x h.2 b.world = subst (λ c. Posts p.world c x h.2 b.world) (sym conns) (subst (λ v. Happens rules p.world v b.world) h.4 h.5) in
    let once = post_once p.world a.world b.world g.1 x g.2 h.2 one two in
    record {
      same = playing_is a b once.1 (g.6 ∙ sym h.6) (g.7 ∙ sym h.7);
      told = same_by e f (event.Post g.0 g.1 x g.2) (event.Post h.0 h.1 x h.2) g.4 h.4 (record {
        lines = λ known. ap (λ c. post_lines (name_at known c) c g.2) conns ∙ ap (λ r. post_lines (name_at known h.1) h.1 r) once.0;
        known = λ known. refl;
      });
    }

-- a line is entered in one way
line_alike : (rules : Meaning) (p a b : Playing) (l : Line) (e f : Event) → PlaysLine rules p l e a → PlaysLine rules p l f b → GoAlike a b e f
line_alike rules p a b (line.Login name) e f g h =
    let one = subst (λ v. Happens rules p.world v a.world) g.2 g.3 in
    let two = subst (λ v. Happens rules p.world v b.world) h.2 h.3 in
    let conns : g.1 ≡ h.1 = one.1 ∙ sym two.1 in
    record {
      same = playing_is a b (one.2 ∙ sym two.2) (g.4 ∙ ap (λ c. maps.insert p.means name c) conns ∙ sym h.4) (g.5 ∙ ap (λ c. p.opened ++ c ∷ []) conns ∙ sym h.5);
      told = same_by e f (event.Connect g.0 name (connected.Number g.1)) (event.Connect h.0 name (connected.Number h.1)) g.2 h.2 (record {
        lines = λ known. ap (λ c. connect_lines name (connected.Number c)) conns;
        known = λ known. ap (λ c. named known name (connected.Number c)) conns;
      });
    }
line_alike rules p a b (line.Send name text) e f g h = posts_alike rules p a b name (input.Message text) e f p.means g h
line_alike rules p a b (line.Channel name channel text) e f g h = posts_alike rules p a b name (input.Channel channel text) e f p.means g h
line_alike rules p a b (line.Logout name) e f g h = posts_alike rules p a b name (input.Disconnect true) e f (maps.remove p.means name) g h
line_alike rules p a b (line.Drop name) e f g h = posts_alike rules p a b name (input.Disconnect false) e f (maps.remove p.means name) g h
line_alike rules p a b (line.Tick moment) e f g h =
    let one = subst (λ v. Happens rules p.world v a.world) g.1 g.2 in
    let two = subst (λ v. Happens rules p.world v b.world) h.1 h.2 in
    record {
      same = playing_is a b (one ∙ sym two) (g.3 ∙ sym h.3) (g.4 ∙ sym h.4);
      told = same_by e f (event.Tick g.0 moment) (event.Tick h.0 moment) g.1 h.1 (record { lines = λ known. refl; known = λ known. refl });
    }

-- and so are all lines
lines_alike : (rules : Meaning) (p a b : Playing) (ls : List Line) (es fs : List Event) → PlaysLines rules p ls es a → PlaysLines rules p ls fs b → (a ≡ b) × SameLines es fs
lines_alike rules p a b [] [] [] g h = (g ∙ sym h, same_none)
lines_alike rules p a b (l ∷ ls) (e ∷ es) (f ∷ fs) g h =
    let first = line_alike rules p g.0 h.0 l e f g.1 h.1 in
    let rest = lines_alike rules h.0 a b ls es fs (subst (λ q. PlaysLines rules q ls es a) first.same g.2) h.2 in
    (rest.0, same_more e f es fs first.told rest.1)
lines_alike rules p a b [] (e ∷ es) fs g h = absurd g
lines_alike rules p a b [] [] (f ∷ fs) g h = absurd h
lines_alike rules p a b (l ∷ ls) [] fs g h = absurd g
lines_alike rules p a b (l ∷ ls) (e ∷ es) [] g h = absurd h

-- where nothing is runnable, nothing is picked
none_of : (first after : Bool) (firsts : List Job) (tasks : List (TaskKey × Task)) (turns : List Turn) → cond first firsts (map task_job tasks ++ map (λ t. t.job) turns) ≡ []
    → cond first (first_of_list firsts) (cond after (or_else (mapped (λ t. t.job) (least is_earlier turns)) (mapped task_job (least is_sooner tasks))) (or_else (mapped task_job (least is_sooner tasks)) (mapped (λ t. t.job) (least is_earlier turns)))) ≡ None
none_of true after firsts tasks turns e = ap first_of_list e
none_of false true firsts [] [] e = refl
none_of false false firsts [] [] e = refl
none_of false after firsts (t ∷ tasks) turns e = absurd cc
none_of false after firsts [] (t ∷ turns) e = absurd cc

quiet_picks : (w : World) → runnable w ≡ [] → pick w ≡ None
quiet_picks w e = none_of (eqb w.durable.commits 0) w.after_task (first_runs w) (due_tasks w) (inputs w) e

-- a claim as an order tells it
record IsClaim (e : Event) (run at : ℕ) : Type 0 where
  pass : ℕ
  number : RunNo
  job : Job
  is : e ≡ event.Claim pass (claimed.Granted number at job)
  run_is : number.0 ≡ run

claim_told : (e : Event) (run at : ℕ) (job : List ℕ) → item_of e ≡ Some (Claimed run at job) → IsClaim e run at
claim_told (event.Claim pass (claimed.Granted r m j)) run at job h =
    let moment : m ≡ at = cc in
    record { pass = pass; number = r; job = j; is = ap (λ n. event.Claim pass (claimed.Granted r n j)) moment; run_is = cc }
claim_told (event.Claim pass claimed.Nothing) run at job h = absurd cc
claim_told (event.Claim pass (claimed.Spent granted)) run at job h = absurd cc
claim_told (event.Claim pass (claimed.Exhausted next)) run at job h = absurd cc
claim_told (event.Commit pass r seq outcome) run at job h = absurd cc
claim_told (event.Connect pass name reply) run at job h = absurd cc
claim_told (event.Post pass conn x reply) run at job h = absurd cc
claim_told (event.Release pass r) run at job h = absurd cc
claim_told (event.Hand pass conn most outs end) run at job h = absurd cc
claim_told (event.Tick pass moment) run at job h = absurd cc

-- a commit as an order tells it
record IsCommit (e : Event) (run : ℕ) : Type 0 where
  pass : ℕ
  number : RunNo
  seq : ℕ
  outcome : Outcome
  is : e ≡ event.Commit pass number seq outcome
  run_is : number.0 ≡ run

commit_told : (e : Event) (run : ℕ) (outcome : List ℕ) → item_of e ≡ Some (Committed run outcome) → IsCommit e run
commit_told (event.Commit pass r seq o) run outcome h = record { pass = pass; number = r; seq = seq; outcome = o; is = refl; run_is = cc }
commit_told (event.Claim pass (claimed.Granted r m j)) run outcome h = absurd cc
commit_told (event.Claim pass claimed.Nothing) run outcome h = absurd cc
commit_told (event.Claim pass (claimed.Spent granted)) run outcome h = absurd cc
commit_told (event.Claim pass (claimed.Exhausted next)) run outcome h = absurd cc
commit_told (event.Connect pass name reply) run outcome h = absurd cc
commit_told (event.Post pass conn x reply) run outcome h = absurd cc
commit_told (event.Release pass r) run outcome h = absurd cc
commit_told (event.Hand pass conn most outs end) run outcome h = absurd cc
commit_told (event.Tick pass moment) run outcome h = absurd cc

-- a claim that is gone again is gone, whoever had it
gone : (m : FinMap run_cmp Claim) (k : RunNo) (c d : Claim) → remove (insert m k c) k ≡ remove (insert m k d) k
gone m k c d = same_map runs_total exact_runs _ _ (λ q.
    get-remove runs_total (insert m k c) k q ∙ by q (eq_by_cmp run_cmp q k) (get-insert runs_total m k c q) (get-insert runs_total m k d q) ∙ sym (get-remove runs_total (insert m k d) k q)) where
      by : (q : RunNo) (b : Bool) → get (insert m k c) q ≡ cond b (Some c) (get m q) → get (insert m k d) q ≡ cond b (Some d) (get m q) → cond b None (get (insert m k c) q) ≡ cond b None (get (insert m k d) q)
      by q true e f = refl
      by q false e f = e ∙ sym f

module _ (rules : Meaning) (w : World) where
  -- the number that is drawn next
  abbrev next_run : RunNo
  next_run = record { 0 = w.next }

  -- the world once a run of this job was claimed by this pass and committed
  abbrev ran_world : Job → ℕ → World
  ran_world j pass = swept (committed (swept (with_claim w pass j)) next_run j (step rules j next_run w.moment w.durable))

  -- the pass leaves nothing
  ran_alike : (j : Job) (p q : ℕ) → ran_world j p ≡ ran_world j q
  ran_alike j p q = ap (λ m. record (ran_world j p) { claims = m }) (gone w.claims next_run (record { pass = p; job = j; at = w.moment }) (record { pass = q; job = j; at = w.moment }))

  -- what a claim and its commit come to
  record IsRan (e f : Event) (after : World) : Type 0 where
    pass : ℕ
    other : ℕ
    job : Job
    picked : pick w ≡ Some job
    claim_is : e ≡ event.Claim pass (claimed.Granted next_run w.moment job)
    commit_is : f ≡ event.Commit other next_run (w.durable.commits + 1) (step rules job next_run w.moment w.durable).outcome
    after_is : after ≡ ran_world job pass

  pair_ran : (e f : Event) (mid after : World) (run at done : ℕ) (job outcome : List ℕ) → item_of e ≡ Some (Claimed run at job) → Happens rules w e mid → item_of f ≡ Some (Committed done outcome) → Happens rules mid f after → done ≡ run → IsRan e f after
  pair_ran e f mid after run at done job outcome told h ended k same =
      let c = claim_told e run at job told in
      let d = commit_told f done outcome ended in
      let one = subst (λ v. Happens rules w v mid) c.is h in
      let number : c.number ≡ next_run = one.3 in
      let two = subst (λ v. Happens rules mid v after) d.is k in
      let drawn : d.number ≡ next_run = ap (λ n. record { 0 = n }) (d.run_is ∙ same ∙ sym c.run_is) ∙ number in
      let claim : Claim = record { pass = c.pass; job = c.job; at = w.moment } in
      let held : two.0 ≡ claim = some_is two.0 claim (sym two.1 ∙ ap (λ v. get v.claims d.number) one.5 ∙ ap (λ n. get (insert w.claims next_run claim) n) drawn ∙ get-insert_here runs_total w.claims next_run claim) in
      let started : World = swept (with_claim w c.pass c.job) in
      let ended_by : (x : Claim) (n : RunNo) (v : World) → Stepped = λ x n v. step_of rules v n x in
      let stepped : step_of rules mid d.number two.0 ≡ step rules c.job next_run w.moment w.durable =
      ap (λ v. step_of rules v d.number two.0) one.5 ∙ ap (λ n. step_of rules started n two.0) drawn ∙ ap (step_of rules started next_run) held in
      record {
        pass = c.pass;
        other = d.pass;
        job = c.job;
        picked = one.0;
        claim_is = c.is ∙ ap (λ n. event.Claim c.pass (claimed.Granted n at c.job)) number ∙ ap (λ m. event.Claim c.pass (claimed.Granted next_run m c.job)) one.4;
        commit_is = d.is ∙ ap (λ n. event.Commit d.pass n d.seq d.outcome) drawn ∙ ap (λ s. event.Commit d.pass next_run s d.outcome) (two.3 ∙ ap (λ v. v.durable.commits + 1) one.5)
            ∙ ap (λ o. event.Commit d.pass next_run (w.durable.commits + 1) o) (two.4 ∙ ap (λ s. s.outcome) stepped);
        after_is = two.5 ∙ ap (λ v. swept (committed v d.number two.0.job (step_of rules mid d.number two.0))) one.5 ∙ ap (λ n. swept (committed started n two.0.job (step_of rules mid d.number two.0))) drawn
            ∙ ap (λ x. swept (committed started next_run x.job (step_of rules mid d.number two.0))) held ∙ ap (λ s. swept (committed started next_run c.job s)) stepped;
      }

  -- two runs that come next are one
  ran_once : (e f g h : Event) (a b : World) → IsRan e f a → IsRan g h b → (a ≡ b) × SameTold e g × SameTold f h
  ran_once e f g h a b r s =
      let jobs : r.job ≡ s.job = some_is r.job s.job (sym r.picked ∙ s.picked) in (
        r.after_is ∙ ap (λ j. ran_world j r.pass) jobs ∙ ran_alike s.job r.pass s.pass ∙ sym s.after_is,
        same_by e g (event.Claim r.pass (claimed.Granted next_run w.moment r.job)) (event.Claim s.pass (claimed.Granted next_run w.moment s.job)) r.claim_is s.claim_is
            (record { lines = λ known. ap (λ j. claim_lines (claimed.Granted next_run w.moment j)) jobs; known = λ known. refl }),
        same_by f h (event.Commit r.other next_run (w.durable.commits + 1) (step rules r.job next_run w.moment w.durable).outcome) (event.Commit s.other next_run (w.durable.commits + 1) (step rules s.job next_run w.moment w.durable).outcome) r.commit_is s.commit_is
            (record { lines = λ known. ap (λ j. event_lines known (event.Commit 0 next_run (w.durable.commits + 1) (step rules j next_run w.moment w.durable).outcome)) jobs; known = λ known. refl }),
      )

-- events that are runs in turn, from the one world to the other
abbrev RunsTo : Meaning → World → List Event → World → Type 0
RunsTo rules w [] after = after ≡ w
RunsTo rules w (e ∷ []) after = ⊥
RunsTo rules w (e ∷ f ∷ es) after = (mid : World) × IsRan rules w e f mid × RunsTo rules mid es after

-- what follows an order in turn is runs in turn
in_turn : (rules : Meaning) (w a : World) (is : List OrderItem) (es : List Event) → AreInTurn is → Follows rules w is es a → RunsTo rules w es a
in_turn rules w a [] [] t g = g
in_turn rules w a [] (e ∷ es) t g = absurd g
in_turn rules w a (Claimed run at job ∷ Committed done outcome ∷ is) (e ∷ f ∷ es) t g =
    (g.3.0, pair_ran rules w e f g.0 g.3.0 run at done job outcome g.1 g.2 g.3.1 g.3.2 t.0, in_turn rules g.3.0 a is es t.1 g.3.3)
in_turn rules w a (Claimed run at job ∷ Committed done outcome ∷ is) (e ∷ []) t g = absurd g.3
in_turn rules w a (Claimed run at job ∷ Committed done outcome ∷ is) [] t g = absurd g
in_turn rules w a (Claimed run at job ∷ Claimed other moment task ∷ is) es t g = absurd t
in_turn rules w a (Claimed run at job ∷ []) es t g = absurd t
in_turn rules w a (Committed run outcome ∷ is) es t g = absurd t

-- nothing runs where nothing is runnable
never_ran : (rules : Meaning) (w after : World) (e f : Event) → runnable w ≡ [] → IsRan rules w e f after → ⊥
never_ran rules w after e f quiet ran = none ran.job (sym ran.picked ∙ quiet_picks w quiet) where
  none : (j : Job) → Some j ≡ None → ⊥
  none j e = cc

-- runs in turn until nothing is left go in one way
runs_alike : (rules : Meaning) (w a b : World) (es fs : List Event) → RunsTo rules w es a → RunsTo rules w fs b → runnable a ≡ [] → runnable b ≡ [] → (a ≡ b) × SameLines es fs
runs_alike rules w a b [] [] g h q r = (g ∙ sym h, same_none)
runs_alike rules w a b [] (f ∷ []) g h q r = absurd h
runs_alike rules w a b [] (f ∷ f' ∷ fs) g h q r = absurd (never_ran rules w h.0 f f' (subst (λ v. runnable v ≡ []) g q) h.1)
runs_alike rules w a b (e ∷ []) fs g h q r = absurd g
runs_alike rules w a b (e ∷ e' ∷ es) [] g h q r = absurd (never_ran rules w g.0 e e' (subst (λ v. runnable v ≡ []) h r) g.1)
runs_alike rules w a b (e ∷ e' ∷ es) (f ∷ []) g h q r = absurd h
runs_alike rules w a b (e ∷ e' ∷ es) (f ∷ f' ∷ fs) g h q r =
    let once = ran_once rules w e e' f f' g.0 h.0 g.1 h.1 in
    let rest = runs_alike rules h.0 a b es fs (subst (λ v. RunsTo rules v es a) once.0 g.2) h.2 q r in
    (rest.0, same_more e f (e' ∷ es) (f' ∷ fs) once.1 (same_more e' f' es fs once.2 rest.1))

-- all that waits is no more than was asked for
all_taken : {A : Type 0} (xs : List A) (n : ℕ) → xs ≡ take n xs → length xs ≤ n
all_taken xs n e = omega (arith, ap length e, length-take n xs)

none_left : {A : Type 0} (n : ℕ) (xs : List A) → length xs ≤ n → drop n xs ≡ []
none_left n xs few = by (drop n xs) (omega (arith, length-drop n xs, few)) where
  by : {A : Type 0} (ys : List A) → length ys ≡ 0 → ys ≡ []
  by [] e = refl
  by (y ∷ ys) e = absurd (omega (arith, e))

-- a change that is one where the connection is
change_alike : (o : Option Connection) (conn : ConnNo) (f g : Connection → Connection) (all : Connections) → ((c : Connection) → o ≡ Some c → f c ≡ g c) → changed_at o conn f all ≡ changed_at o conn g all
change_alike None conn f g all same = refl
change_alike (Some c) conn f g all same = ap (insert all conn) (same c refl)

-- what is left of messages that were all taken
left_alike : (w : World) (conn : ConnNo) (m n : ℕ) → outbox w conn ≡ take m (outbox w conn) → outbox w conn ≡ take n (outbox w conn) → (c : Connection) → get w.connections conn ≡ Some c → drop m c.outbox ≡ drop n c.outbox
left_alike w conn m n p q c there =
    let box : outbox w conn ≡ c.outbox = ap outbox_at there in
    let few = all_taken (outbox w conn) m p in
    let less = all_taken (outbox w conn) n q in
    ap (drop m) (sym box) ∙ none_left m (outbox w conn) few ∙ sym (none_left n (outbox w conn) less) ∙ ap (drop n) box

-- each connection is handed all, in one way
hands_alike : (rules : Meaning) (w a b : World) (conns : List ConnNo) (es fs : List Event) → Hands rules w conns es a → Hands rules w conns fs b → (a ≡ b) × SameLines es fs
hands_alike rules w a b [] [] [] g h = (g ∙ sym h, same_none)
hands_alike rules w a b (conn ∷ conns) (e ∷ es) (f ∷ fs) g h =
    let one = subst (λ v. Happens rules w v g.0) g.4 g.5 in
    let two = subst (λ v. Happens rules w v h.0) h.4 h.5 in
    let boxes = change_alike (get w.connections conn) conn (λ c. record c { outbox = drop g.2 c.outbox }) (λ c. record c { outbox = drop h.2 c.outbox }) w.connections
    (λ c there. ap (λ os. record c { outbox = os }) (left_alike w conn g.2 h.2 one.0 two.0 c there)) in
    let mids : g.0 ≡ h.0 = one.2 ∙ ap (λ cs. swept (record w { connections = cs })) boxes ∙ sym two.2 in
    let rest = hands_alike rules h.0 a b conns es fs (subst (λ v. Hands rules v conns es a) mids g.6) h.6 in
    (rest.0, same_more e f es fs (same_by e f (event.Hand g.1 conn g.2 (outbox w conn) g.3) (event.Hand h.1 conn h.2 (outbox w conn) h.3) g.4 h.4 (record { lines = λ known. refl; known = λ known. refl })) rest.1)
hands_alike rules w a b [] (e ∷ es) fs g h = absurd g
hands_alike rules w a b [] [] (f ∷ fs) g h = absurd h
hands_alike rules w a b (conn ∷ conns) [] fs g h = absurd g
hands_alike rules w a b (conn ∷ conns) (e ∷ es) [] g h = absurd h

-- a phase goes in one way
phase_alike : (rules : Meaning) (p a b : Playing) (ls : List Line) (is js : List OrderItem) (es fs : List Event) → AreInTurn is → AreInTurn js → PlaysPhase rules p ls is es a → PlaysPhase rules p ls js fs b → (a ≡ b) × SameLines es fs
phase_alike rules p a b ls is js es fs t u g h =
    let lines = lines_alike rules p g.at_lines h.at_lines ls g.entered h.entered g.enters h.enters in
    let start : g.at_lines.world ≡ h.at_lines.world = ap (λ (q : Playing). q.world) lines.0 in
    let runs = runs_alike rules h.at_lines.world g.at_items h.at_items g.followed h.followed (subst (λ v. RunsTo rules v g.followed g.at_items) start (in_turn rules g.at_lines.world g.at_items is g.followed t g.follows))
    (in_turn rules h.at_lines.world h.at_items js h.followed u h.follows) g.quiet.idle h.quiet.idle in
    let opened : g.at_lines.opened ≡ h.at_lines.opened = ap (λ (q : Playing). q.opened) lines.0 in
    let hands = hands_alike rules h.at_items a.world b.world h.at_lines.opened g.handed h.handed
    (subst (λ v. Hands rules v h.at_lines.opened g.handed a.world) runs.0 (subst (λ cs. Hands rules g.at_items cs g.handed a.world) opened g.hands)) h.hands in
    let told = same_both g.entered h.entered (g.followed ++ g.handed) (h.followed ++ h.handed) lines.1 (same_both g.followed h.followed g.handed h.handed runs.1 hands.1) in (
      playing_is a b hands.0 (g.same_means ∙ ap (λ (q : Playing). q.means) lines.0 ∙ sym h.same_means) (g.same_opened ∙ opened ∙ sym h.same_opened),
      subst (λ x. SameLines x fs) (sym g.all) (subst (λ x. SameLines (g.entered ++ (g.followed ++ g.handed)) x) (sym h.all) told),
    )

-- phases that tell the same
abbrev SamePhases : List (List Event) → List (List Event) → Type 0
SamePhases ps qs = (number : ℕ) (known : Known) → lines_of_phases number known ps ≡ lines_of_phases number known qs

phases_more : (es fs : List Event) (ps qs : List (List Event)) → SameLines es fs → SamePhases ps qs → SamePhases (es ∷ ps) (fs ∷ qs)
phases_more es fs ps qs s t number known =
    ap (λ ls. ((codes "phase " ++ decimal number) ∷ ls) ++ lines_of_phases (number + 1) (known_after known es) ps) (s.lines known)
    ∙ ap (λ k. ((codes "phase " ++ decimal number) ∷ lines_of_events known fs) ++ lines_of_phases (number + 1) k ps) (s.known known)
    ∙ ap (λ ls. ((codes "phase " ++ decimal number) ∷ lines_of_events known fs) ++ ls) (t (number + 1) (known_after known fs))

-- and so does a whole script
script_alike : (rules : Meaning) (p a b : Playing) (script : List (List Line)) (order other : List (List OrderItem)) (ps qs : List (List Event)) → AllByRecursion AreInTurn order → AllByRecursion AreInTurn other
    → Plays rules p script order ps a → Plays rules p script other qs b → (a ≡ b) × SamePhases ps qs
script_alike rules p a b [] [] [] [] [] t u g h = (g ∙ sym h, λ number known. refl)
script_alike rules p a b (ls ∷ script) (is ∷ order) (js ∷ other) (es ∷ ps) (fs ∷ qs) t u g h =
    let first = phase_alike rules p g.0 h.0 ls is js es fs t.0 u.0 g.1 h.1 in
    let rest = script_alike rules h.0 a b script order other ps qs t.1 u.1 (subst (λ q. Plays rules q script order ps a) first.0 g.2) h.2 in
    (rest.0, phases_more es fs ps qs first.1 rest.1)
script_alike rules p a b [] (is ∷ order) other [] qs t u g h = absurd g
script_alike rules p a b [] (is ∷ order) other (es ∷ ps) qs t u g h = absurd g
script_alike rules p a b [] [] other (es ∷ ps) qs t u g h = absurd g
script_alike rules p a b [] [] (js ∷ other) [] [] t u g h = absurd h
script_alike rules p a b [] [] (js ∷ other) [] (fs ∷ qs) t u g h = absurd h
script_alike rules p a b [] [] [] [] (fs ∷ qs) t u g h = absurd h
script_alike rules p a b (ls ∷ script) [] other [] qs t u g h = absurd g
script_alike rules p a b (ls ∷ script) [] other (es ∷ ps) qs t u g h = absurd g
script_alike rules p a b (ls ∷ script) (is ∷ order) other [] qs t u g h = absurd g
script_alike rules p a b (ls ∷ script) (is ∷ order) [] (es ∷ ps) [] t u g h = absurd h
script_alike rules p a b (ls ∷ script) (is ∷ order) [] (es ∷ ps) (fs ∷ qs) t u g h = absurd h
script_alike rules p a b (ls ∷ script) (is ∷ order) (js ∷ other) (es ∷ ps) [] t u g h = absurd h

-- so the transcript is one text
pub one-worker_decides : (rules : Meaning) (opening : World) (script : List (List Line)) → DecidesOneTranscript rules opening script
unfolding transcript_text
one-worker_decides rules opening script order other text told t u g h =
    let one = script_alike rules (playing opening) g.end h.end ([] ∷ script) order other g.phases h.phases t u g.plays h.plays in
    let done : Playing → List ℕ = λ q. done_line q.world.durable.commits (maps.len q.world.durable.tasks) in
    g.told ∙ ap (λ (ls : List (List ℕ)). text_of (ls ++ done g.end ∷ [])) (one.1 0 nothing_known) ∙ ap (λ (q : Playing). text_of (lines_of_phases 0 nothing_known h.phases ++ done q ∷ [])) one.0 ∙ sym h.told
