-- The platform's part of a job round a game that keeps the sessions, and the step of the whole run.
use Rattle.std.proofs.Common.{◌≡◌, ◌⊎◌, ℕ, ◌<◌, ◌≤◌, Bool, true, false, cond, ◌==◌, Option, Some, None, List, [], ◌∷◌, Result, Ok, Err, refl, sym, subst, inl, inr, arith}
use Rattle.std.specs.FinMap as maps
use Rattle.dk_types.specs.declared.fault.AppFault.{AppFault}
use Rattle.dk_types.specs.declared.fault.AppFault.TheVariants.{TooLarge}
use Rattle.dk_types.specs.declared.fault.Outcome.TheVariants as outcome
use Rattle.dk_types.specs.declared.number.RunNo.{RunNo}
use Rattle.dk_types.specs.declared.number.ConnNo.{ConnNo}
use Rattle.dk_types.specs.declared.number.ObjectId.{ObjectId}
use Rattle.dk_types.specs.declared.number.TaskKey.{TaskKey}
use Rattle.dk_types.specs.declared.job.Session.{Session}
use Rattle.dk_types.specs.declared.job.Job.{Job}
use Rattle.dk_types.specs.declared.job.Job.TheVariants as job
use Rattle.dk_types.specs.declared.job.Out.TheVariants as out
use Rattle.dk_types.specs.declared.mode.Mode.TheVariants.{Game}
use Rattle.dk_types.specs.Names.{IsName}
use Rattle.dk_model.specs.declared.records.SessionRecord.{SessionRecord}
use Rattle.dk_model.specs.declared.records.ChannelRecord.{ChannelRecord}
use Rattle.dk_model.specs.DurableWorlds.{DurableWorld, Task, last_with}
use Rattle.dk_model.specs.Validity.{next_of}
use Rattle.dk_model.specs.Events.{Meaning}
use Rattle.dk_model.specs.Finishes.{IsNew}
use Rattle.dk_model.specs.Lawful.{IsJob, IsForGame}
use Rattle.dk_model.specs.Records.{session_name, channel_name, CHANNEL_KIND, channel_of}
use Rattle.dk_model.specs.Runs.{Run, Act, begun, and_then, with_task}
use Rattle.dk_model.specs.Platforms.{platform_bound, is_member}
use Rattle.dk_model.specs.Steps.{Stepped, next_due, own_found, own_task, of_session, leave_channels, end_session, lost, displace, displace_found, displace_recorded, admit, for_session, heard, channel_found, channel_message, work, kept_by, failed, is_too_large, ended, game_part, step}
use Rattle.dk_model.proofs.Maps.{not_both}
use Rattle.dk_model.proofs.Works.{for_game}
use Rattle.dk_session_laws.specs.Sessions.{IsRecord, SessionsStand, IsStanding, IsKept, EndsBy, Ends, KeepsAt, KeepSessions}
use Rattle.dk_session_laws.specs.Numbers.{HasNumber, NoNumber, IsLed, MayOpen, Opens, MayBegin, LeadsTo}
use Rattle.dk_session_laws.proofs.Ends.{ends_then, ends_weaker, ends_if, ends_give, reads_then, reads_own}
use Rattle.dk_session_laws.proofs.Kept.{record_on, record_there, kept_itself}
use Rattle.dk_session_laws.proofs.Keeps.{keeps_on, keeps_inside, stands_in, kept_aside, keeps_send, keeps_get_as}
use Rattle.dk_session_laws.proofs.Calls.{keeps_is_connected, reads_find_session, keeps_leave, keeps_channel_send}
use Rattle.dk_session_laws.proofs.Led.{led_kept, led_then, closes}
use Rattle.dk_session_laws.proofs.Opened.{opens}

-- acts of a game that keep the sessions, whatever the mode before
abbrev pub KeepActs : (Job → Act (Unit {0})) → Type 0
KeepActs game = (j : Job) → IsForGame j → (s : Run) → IsStanding s → KeepsAt s (game j)

-- the parts of a game whose rules keep the sessions
pub parts_keep : (rules : Meaning) → KeepSessions rules → KeepActs (game_part rules)
parts_keep rules keep j is s st = keeps_inside Game ((keep j is).at (record s { mode = Game }) refl (stands_in {s = s} Game st))

-- the run leads so, whatever came before
pub leads_on : {A B : Type 0} {New : ℕ → Type 0} {s : Run} {f : Act A} {g : A → Act B} → Ends (λ x t. IsLed New s t) s f → ((x : A) (t : Run) → IsLed New s t → Ends (λ y u. IsLed New t u) t (g x)) → Ends (λ y u. IsLed New s u) s (and_then f g)
leads_on p h = ends_then p (λ x t led. ends_weaker (h x t led) (λ y u more. led_then led more))

-- what keeps the sessions leads so
pub leads_kept : {A : Type 0} {New : ℕ → Type 0} {s : Run} {f : Act A} → IsStanding s → KeepsAt s f → Ends (λ x t. IsLed New s t) s f
leads_kept st p = ends_weaker p (λ x t k. led_kept st k)

keeps_leave_channels : (session : Session) (channels : List (List ℕ)) (s : Run) → IsStanding s → KeepsAt s (leave_channels session channels)
keeps_leave_channels session [] s st = ends_give tt (kept_itself s st.fresh)
keeps_leave_channels session (c ∷ channels) s st = keeps_on st ((keeps_leave {mode = s.mode} c session).at s refl st) (λ _ t stands kept. keeps_leave_channels session channels t stands)

-- the end of a session
pub ends_session : {New : ℕ → Type 0} (session : Session) (game : Act (Unit {0})) (s : Run) → IsStanding s → KeepsAt s game → Ends (λ x t. IsLed New s t) s (end_session session game)
ends_session session game s st keep =
    leads_on (leads_kept st keep) (λ _ t led. reads_then (reads_own t session) (λ r own.
    leads_on (leads_kept led.stands (keeps_leave_channels session r.1.channels t led.stands)) (λ _ u more. closes u session more.stands)))

displaces : {New : ℕ → Type 0} (old : Session) (game : Job → Act (Unit {0})) (s : Run) → IsStanding s → IsName old.name → KeepActs game → Ends (λ x t. IsLed New s t) s (displace old game)
displaces old game s st named keep =
    leads_on (ends_session old (game (lost old)) s st (keep (lost old) named s st)) (λ _ t led. leads_kept led.stands ((keeps_send {mode = t.mode} old.conn out.Close).at t refl led.stands))

displaces_found : {New : ℕ → Type 0} (o : Option ObjectId) (name : List ℕ) (game : Job → Act (Unit {0})) (s : Run) → IsStanding s → IsName name → KeepActs game → Ends (λ x t. IsLed New s t) s (displace_found o name game)
displaces_found None name game s st named keep = ends_give tt (led_kept st (kept_itself s st.fresh))
displaces_found (Some id) name game s st named keep = reads_then (reads_find_session s name) (λ old is. displaces old game s st (subst IsName (sym is) named) keep)

-- the end of the session that a login displaces
pub displaces_recorded : {New : ℕ → Type 0} (name : List ℕ) (game : Job → Act (Unit {0})) (s : Run) → IsStanding s → IsName name → KeepActs game → Ends (λ x t. IsLed New s t) s (displace_recorded name game)
displaces_recorded name game s st named keep = record { so = (displaces_found (platform_bound s (session_name name)) name game s st named keep).so }

admits : (session : Session) (game : Act (Unit {0})) (s : Run) → IsStanding s → MayOpen s session → ((t : Run) → IsStanding t → KeepsAt t game) → Ends (λ x t. IsLed (λ n. n ≡ session.conn.0) s t) s (admit session game)
admits session game s st may keep =
    leads_on (opens s session st may) (λ _ t led.
    leads_on (leads_kept led.stands ((keeps_send {mode = t.mode} session.conn out.Accepted).at t refl led.stands)) (λ _ u more. leads_kept more.stands (keep u more.stands)))

for_sessions : {New : ℕ → Type 0} (session : Session) (act : Act (Unit {0})) (s : Run) → IsStanding s → ((t : Run) → IsStanding t → Ends (λ x u. IsLed New t u) t act) → Ends (λ x t. IsLed New s t) s (for_session session act)
for_sessions session act s st p =
    leads_on (leads_kept st ((keeps_is_connected {mode = s.mode} session).at s refl st)) (λ connected t led. ends_if connected (λ _. p t led.stands) (λ _. ends_give tt (led_kept led.stands (kept_itself t led.stands.fresh))))

keeps_heard : (session : Session) (channel body : List ℕ) (game : Act (Unit {0})) (r : ChannelRecord) (s : Run) → IsStanding s → KeepsAt s game → KeepsAt s (heard session channel body game r)
keeps_heard session channel body game r s st keep =
    ends_if (is_member session r.members) (λ _. ends_if r.listener (λ _. keep) (λ _. (keeps_channel_send {mode = s.mode} channel None body).at s refl st)) (λ _. ends_give tt (kept_itself s st.fresh))

keeps_channel_found : (o : Option ObjectId) (session : Session) (channel body : List ℕ) (game : Act (Unit {0})) (s : Run) → IsStanding s → ((t : Run) → IsStanding t → KeepsAt t game) → KeepsAt s (channel_found o session channel body game)
keeps_channel_found None session channel body game s st keep = ends_give tt (kept_itself s st.fresh)
keeps_channel_found (Some id) session channel body game s st keep =
    keeps_on st ((keeps_get_as {mode = s.mode} CHANNEL_KIND channel_of id).at s refl st) (λ r t stands kept. keeps_heard session channel body game r t stands (keep t stands))

keeps_channel_message : (session : Session) (channel body : List ℕ) (game : Act (Unit {0})) (s : Run) → IsStanding s → ((t : Run) → IsStanding t → KeepsAt t game) → KeepsAt s (channel_message session channel body game)
keeps_channel_message session channel body game s st keep = record { so = (keeps_channel_found (platform_bound s (channel_name channel)) session channel body game s st keep).so }

-- what is done to a run's own task leaves the sessions, whatever it answers
own_kept : (o : Option Task) (key : TaskKey) (due period : ℕ) (s : Run) → IsStanding s → IsKept s ((own_found o key due period s).1)
own_kept None key due period s st = kept_itself s st.fresh
own_kept (Some task) key due period s st =
    let moved : Run = record s { world = record (s.world) { tasks = maps.insert s.world.tasks key (record task { due = next_due due period s.at }) } } in
    elim (period == 0) as (λ b. IsKept s ((cond {A = Result Bool AppFault × Run} b (Ok true, with_task s key None) (Ok true, moved)).1)) [
      | true ↦ kept_aside s (with_task s key None) st refl refl refl refl refl refl
      | false ↦ kept_aside s moved st refl refl refl refl refl refl
    ]

kept_ends : {A : Type 0} (s : Run) (r : Result A AppFault) (t : Run) → IsKept s t → EndsBy (λ x u. IsKept s u) r t
kept_ends s (Ok x) t k = k
kept_ends s (Err fault) t k = tt

keeps_own_task : (key : TaskKey) (due period : ℕ) (s : Run) → IsStanding s → KeepsAt s (own_task key due period)
unfolding own_task
keeps_own_task key due period s st = let p = own_found (maps.get s.world.tasks key) key due period s in record { so = kept_ends s p.0 p.1 (own_kept (maps.get s.world.tasks key) key due period s st) }

-- ---- a job

led_wider : {New More : ℕ → Type 0} {s t : Run} → ((n : ℕ) → New n → More n) → IsLed New s t → IsLed More s t
led_wider h p = record {
  stands = p.stands;
  last = p.last;
  numbers = λ n is. elim (p.numbers n is) [
    | inl was ↦ inl was
    | inr new ↦ inr (h n new)
  ];
}

none_new : {A : Type 0} (a : A ⊎ ⊥) → A
none_new (inl a) = a
none_new (inr never) = absurd never

login_led : (game : Job → Act (Unit {0})) → KeepActs game → (conn : ConnNo) (name : List ℕ) (s : Run) → IsJob (job.Login conn name) → IsStanding s → MayBegin s.world (next_of s.world.last) (job.Login conn name)
    → Ends (λ x t. IsLed (λ n. n ≡ conn.0) s t) s (work game (job.Login conn name))
login_led game keep conn name s is st may = ends_then (displaces_recorded {New = NoNumber} name game s st is.1 keep) (λ _ t led.
    let number = is.0 in
    let opening : MayOpen t (of_session conn name) = record {
      long = is.1.some;
      number = omega arith;
      below = subst (λ (o : Option RunNo). conn.0 < next_of o) (sym led.last) may.0;
      new = λ h. may.1 (none_new (led.numbers conn.0 h));
    } in
    ends_weaker (admits (of_session conn name) (game (job.Login conn name)) t led.stands opening (λ u stands. keep (job.Login conn name) is.1 u stands)) (λ y u more. led_then (led_wider (λ n never. absurd never) led) more))

-- the platform's part of a job round the game's
pub work_led : (game : Job → Act (Unit {0})) → KeepActs game → (j : Job) (s : Run) → IsJob j → IsStanding s → MayBegin s.world (next_of s.world.last) j → Ends (λ x t. IsLed (Opens j) s t) s (work game j)
work_led game keep job.Initialize s is st may = leads_kept st (keep job.Initialize is s st)
work_led game keep (job.Login conn name) s is st may = login_led game keep conn name s is st may
work_led game keep (job.Message conn name body) s is st may =
    let j = job.Message conn name body in
    for_sessions (of_session conn name) (game j) s st (λ t stands. leads_kept stands (keep j (for_game j is) t stands))
work_led game keep (job.Channel conn name channel body) s is st may =
    let j = job.Channel conn name channel body in
    let session = of_session conn name in
    for_sessions session (channel_message session channel body (game j)) s st (λ t stands. leads_kept stands (keeps_channel_message session channel body (game j) t stands (λ u there. keep j (for_game j is) u there)))
work_led game keep (job.Disconnect conn name graceful) s is st may =
    let j = job.Disconnect conn name graceful in
    let session = of_session conn name in
    for_sessions session (end_session session (game j)) s st (λ t stands. ends_session session (game j) t stands (keep j (for_game j is) t stands))
work_led game keep (job.Task key due period kind arg) s is st may =
    let j = job.Task key due period kind arg in
    leads_on (leads_kept st (keeps_own_task key due period s st)) (λ pending t led.
    ends_if pending (λ _. leads_kept led.stands (keep j (for_game j is) t led.stands)) (λ _. ends_give tt (led_kept led.stands (kept_itself t led.stands.fresh))))

-- ---- a step

next_grows : (o : Option RunNo) (run : RunNo) → next_of o ≤ next_of (last_with o run)
next_grows None run = omega arith
next_grows (Some last) run = omega arith

module _ (d : DurableWorld) (st : SessionsStand d) (run : RunNo) (at : ℕ) where
  begun_back : (id : ObjectId) (r : SessionRecord) → IsRecord (begun run at d).world id r → IsRecord d id r
  begun_back id r is = record_there d st id is.object r is.there is.kind is.read

  -- the sessions stand in a run that begins
  begun_stands : SessionsStand (begun run at d).world
  begun_stands = record {
    bound = λ name id e. let was = st.bound name id e in (was.0, (was.1.0, record_on d (begun run at d).world id was.1.0 was.1.1 refl (next_grows d.last run)));
    held = st.held;
    apart = λ one other i j x y e f p q n. st.apart one other i j x y e f (begun_back i x p) (begun_back j y q) n;
  }

  begun_numbers : (n : ℕ) → HasNumber (begun run at d).world n → HasNumber d n
  begun_numbers n h = (h.0, h.1, begun_back h.0 h.1 h.2, h.3)

  begun_standing : IsNew d run → IsStanding (begun run at d)
  begun_standing new = record { sessions = begun_stands; fresh = λ id object e own. not_both _ object e (new.objects id own) }

-- what a run leaves of its own task
kept_kept : (j : Job) (s : Run) → IsStanding s → IsKept s (kept_by j s)
unfolding own_task
kept_kept (job.Task key due period kind arg) s st = own_kept (maps.get s.world.tasks key) key due period s st
kept_kept job.Initialize s st = kept_itself s st.fresh
kept_kept (job.Login conn name) s st = kept_itself s st.fresh
kept_kept (job.Message conn name body) s st = kept_itself s st.fresh
kept_kept (job.Channel conn name channel body) s st = kept_itself s st.fresh
kept_kept (job.Disconnect conn name graceful) s st = kept_itself s st.fresh

ended_by : (Says : DurableWorld → Type 0) (j : Job) (d : DurableWorld) (start : Run) (r : Result (Unit {0}) AppFault) (t : Run) → Says (kept_by j start).world → EndsBy (λ x u. Says u.world) r t → Says (ended j d start (r, t)).world
ended_by Says j d start (Ok x) t kept done =
    elim (is_too_large d t.world) as (λ b. Says (cond {A = Stepped} b (failed j start TooLarge) (record { outcome = outcome.Ok; world = t.world; touched = t.touched; outs = t.outs })).world) [
      | true ↦ kept
      | false ↦ done
    ]
ended_by Says j d start (Err fault) t kept done = kept

may_start : (d : DurableWorld) (st : SessionsStand d) (run : RunNo) (at : ℕ) (j : Job) → MayBegin d (next_of (last_with d.last run)) j → MayBegin (begun run at d).world (next_of (last_with d.last run)) j
may_start d st run at (job.Login conn name) may = (may.0, λ h. may.1 (begun_numbers d st run at conn.0 h))
may_start d st run at job.Initialize may = tt
may_start d st run at (job.Message conn name body) may = tt
may_start d st run at (job.Channel conn name channel body) may = tt
may_start d st run at (job.Disconnect conn name graceful) may = tt
may_start d st run at (job.Task key due period kind arg) may = tt

pub step_led : (rules : Meaning) → KeepSessions rules → (j : Job) (run : RunNo) (at : ℕ) (d : DurableWorld) → SessionsStand d → IsJob j → IsNew d run → MayBegin d (next_of (last_with d.last run)) j → LeadsTo d j (step rules j run at d).world
step_led rules keep j run at d st is new may =
    let start = begun run at d in
    let stands = begun_standing d st run at new in
    let end = work (game_part rules) j start in
    let leads : (t : Run) → IsLed (Opens j) start t → LeadsTo d j t.world = λ t led. record {
      stands = led.stands.sessions;
      numbers = λ n h. elim (led.numbers n h) [
        | inl was ↦ inl (begun_numbers d st run at n was)
        | inr opened ↦ inr opened
      ];
    } in
    let work = ends_weaker {Q = λ x t. LeadsTo d j t.world} (work_led (game_part rules) (parts_keep rules keep) j start is stands (may_start d st run at j may)) (λ x t led. leads t led) in
    ended_by (LeadsTo d j) j d start end.0 end.1 (leads (kept_by j start) (led_kept stands (kept_kept j start stands))) work.so
