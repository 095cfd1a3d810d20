-- A login's connection is told how its run ended.
use Rattle.std.proofs.Common.{◌≡◌, ℕ, Bool, true, false, cond, if◌then◌else◌, ◌==◌, nat_le, Option, Some, None, List, [], ◌∷◌, ◌++◌, length, Contains, Result, Ok, Err, refl, sym, ap, subst, arith}
use Rattle.std.proofs.lemmas.List.Elements.{Contains-append_left, Contains-append_right}
use Rattle.std.specs.FinMap as maps
use Rattle.dk_types.specs.declared.number.RunNo.{RunNo}
use Rattle.dk_types.specs.declared.object.Object.{Object}
use Rattle.dk_types.specs.declared.number.ConnNo.{ConnNo}
use Rattle.dk_types.specs.declared.job.Job.{Job}
use Rattle.dk_types.specs.declared.job.Job.TheVariants as job
use Rattle.dk_types.specs.declared.job.Out.{Out}
use Rattle.dk_types.specs.declared.job.Out.TheVariants as out
use Rattle.dk_types.specs.declared.job.Session.{Session}
use Rattle.dk_types.specs.declared.fault.AppFault.{AppFault}
use Rattle.dk_types.specs.declared.fault.AppFault.TheVariants.{TooLarge}
use Rattle.dk_types.specs.declared.fault.Outcome.TheVariants as outcome
use Rattle.dk_types.specs.declared.limits.TheConstants.{MESSAGES_MOST_COUNT}
use Rattle.dk_model.specs.DurableWorlds.{DurableWorld}
use Rattle.dk_model.specs.Runs.{Run, Act, begun, give, and_then, carry_on, refuse, found, get, send, is_too_long, body_of, OBJECT_NOT_FOUND, WRONG_KIND, TOO_LONG, TOO_MANY, BAD_BYTES}
use Rattle.dk_model.specs.References.{get_as}
use Rattle.dk_model.specs.Records.{SESSION_KIND, session_of}
use Rattle.dk_model.specs.declared.records.SessionRecord.{SessionRecord}
use Rattle.dk_model.specs.Openings.{record_in}
use Rattle.dk_model.specs.Platforms.{find_session, open_record}
use Rattle.dk_model.specs.Steps.{Stepped, of_session, end_session, lost, displace, displace_recorded, admit, work, game_part, failed, ended, is_too_large}
use Rattle.dk_model.specs.Lawful.{GoesOn, AlwaysGoesOn, IsForGame}
use Rattle.dk_model.proofs.Acts.{goes_on_of}
use Rattle.dk_model.proofs.Works.{parts_lawful, lawful_admit}
use Rattle.dk_laws.specs.MessagesLaw.{IsAnswered, LoginsAreAnswered, IsRecordedAs, TheDisplacedAreClosed}

module _ (message : ConnNo × Out) where
  -- where an act was not refused, the message is among those that were sent by then
  abbrev TellsIf : Result (Unit {0}) AppFault → List (ConnNo × Out) → Type 0
  TellsIf (Ok x) outs = Contains outs message
  TellsIf (Err fault) outs = Unit {0}

  abbrev Tells : Result (Unit {0}) AppFault × Run → Type 0
  Tells p = TellsIf p.0 p.1.outs

  tells_so : (r : Result (Unit {0}) AppFault) (outs : List (ConnNo × Out)) → Contains outs message → TellsIf r outs
  tells_so (Ok x) outs there = there
  tells_so (Err fault) outs there = tt

  -- what was sent is sent still once the run has gone on
  tells_still : (game : Act (Unit {0})) → AlwaysGoesOn game → (s : Run) → Contains s.outs message → Tells (game s)
  tells_still game goes s there =
      let on : GoesOn s (game s).1 = goes s in
      tells_so (game s).0 (game s).1.outs (subst (λ outs. Contains outs message) (sym on.behind) (Contains-append_left s.outs on.sent message there))

  carried_tells : {A : Type 0} (r : Result A AppFault) (next : A → Act (Unit {0})) → ((x : A) (s : Run) → Tells (next x s)) → (s : Run) → Tells (carry_on r next s)
  carried_tells (Ok x) next tells s = tells x s
  carried_tells (Err fault) next tells s = tt

  -- what comes before the telling does not matter
  then_tells : {A : Type 0} (first : Act A) (next : A → Act (Unit {0})) → ((x : A) (s : Run) → Tells (next x s)) → (s : Run) → Tells (and_then first next s)
  unfolding and_then
  then_tells first next tells s = carried_tells (first s).0 next tells (first s).1

  -- what was told is told still after what goes on
  through_tells : (r : Result (Unit {0}) AppFault) (s : Run) (next : Act (Unit {0})) → AlwaysGoesOn next → TellsIf r s.outs → Tells (carry_on r (λ _. next) s)
  through_tells (Ok x) s next goes there = tells_still next goes s there
  through_tells (Err fault) s next goes there = tt

  sent_tells : (game : Act (Unit {0})) → AlwaysGoesOn game → (s : Run) (long many : Bool)
      → Tells (let p : Result (Unit {0}) AppFault × Run = (if long then refuse TOO_LONG s else if many then refuse TOO_MANY s else (Ok tt, record s { outs = s.outs ++ message ∷ [] })) in carry_on p.0 (λ _. game) p.1)
  sent_tells game goes s true many = tt
  sent_tells game goes s false true = tt
  sent_tells game goes s false false = tells_still game goes (record s { outs = s.outs ++ message ∷ [] }) (Contains-append_right s.outs (message ∷ []) message (0, omega arith, refl))

  sent_alone : (s : Run) (long many : Bool) → Tells (if long then refuse TOO_LONG s else if many then refuse TOO_MANY s else (Ok tt, record s { outs = s.outs ++ message ∷ [] }))
  sent_alone s true many = tt
  sent_alone s false true = tt
  sent_alone s false false = Contains-append_right s.outs (message ∷ []) message (0, omega arith, refl)

-- a new session is told that it is accepted
admit_tells : (session : Session) (game : Act (Unit {0})) → AlwaysGoesOn game → (s : Run) → Tells (session.conn, out.Accepted) (admit session game s)
unfolding and_then send
admit_tells session game goes = then_tells (session.conn, out.Accepted) (open_record session) (λ _. and_then (send session.conn out.Accepted) (λ _. game)) (λ x s.
    sent_tells (session.conn, out.Accepted) game goes s (is_too_long (body_of out.Accepted)) (nat_le MESSAGES_MOST_COUNT (length s.outs)))

-- who is displaced is closed
displace_tells : (old : Session) (game : Job → Act (Unit {0})) (s : Run) → Tells (old.conn, out.Close) (displace old game s)
unfolding and_then send give
displace_tells old game = then_tells (old.conn, out.Close) (end_session old (game (lost old))) (λ _. send old.conn out.Close) (λ x s.
    sent_alone (old.conn, out.Close) s (is_too_long (body_of out.Close)) (nat_le MESSAGES_MOST_COUNT (length s.outs)))

-- a record is read where it stands
read_so : (r : SessionRecord) (o : Option Object) (s : Run) → record_in o ≡ Some r
    → carry_on (found OBJECT_NOT_FOUND o) (λ object s. if object.kind == SESSION_KIND then (found BAD_BYTES (session_of object.bytes), s) else refuse WRONG_KIND s) s ≡ (Ok r, s)
read_so r None s e = cc
read_so r (Some object) s e =
    elim (object.kind == SESSION_KIND) as (λ b. cond b (session_of object.bytes) None ≡ Some r → cond {A = Result SessionRecord AppFault × Run} b (found BAD_BYTES (session_of object.bytes), s) (refuse WRONG_KIND s) ≡ (Ok r, s)) [
      | true ↦ λ f. ap (λ o. (found BAD_BYTES o, s)) f
      | false ↦ λ f. cc
    ] e

-- so the session of a name that is recorded is found
found_so : (run : RunNo) (at : ℕ) (d : DurableWorld) (name : List ℕ) (r : SessionRecord) → IsRecordedAs d name r → find_session name (begun run at d) ≡ (Ok (record { name = name; conn = r.conn }), begun run at d)
unfolding find_session and_then give get get_as
found_so run at d name r there = rw (there.0, there.1.1, read_so r (maps.get d.objects there.1.0) (begun run at d) there.1.2) refl

module _ (conn : ConnNo) (name : List ℕ) (d : DurableWorld) (start : Run) where
  login_ended : (r : Result (Unit {0}) AppFault) (t : Run) → Tells (conn, out.Accepted) (r, t) → (let s = ended (job.Login conn name) d start (r, t) in IsAnswered conn s.outcome s.outs)
  login_ended (Ok x) t told =
      elim (is_too_large d t.world) as (λ b. let s = cond {A = Stepped} b (failed (job.Login conn name) start TooLarge) (record { outcome = outcome.Ok; world = t.world; touched = t.touched; outs = t.outs }) in IsAnswered conn s.outcome s.outs) [
        | true ↦ refl
        | false ↦ told
      ]
  login_ended (Err fault) t told = refl

pub logins_answered : LoginsAreAnswered
logins_answered rules conn name run at d lawful =
    let j : Job = job.Login conn name in
    let start = begun run at d in
    let session = of_session conn name in
    let goes : AlwaysGoesOn (game_part rules j) = goes_on_of (parts_lawful rules lawful j) in
    let end = work (game_part rules) j start in
    login_ended conn name d start end.0 end.1 (then_tells (conn, out.Accepted) (displace_recorded name (game_part rules)) (λ _. admit session (game_part rules j)) (λ _ s. admit_tells session (game_part rules j) goes s) start)

ended_ok : (j : Job) (d : DurableWorld) (start : Run) (message : ConnNo × Out) (r : Result (Unit {0}) AppFault) (t : Run) → Tells message (r, t) → (ended j d start (r, t)).outcome ≡ outcome.Ok → Contains (ended j d start (r, t)).outs message
ended_ok j d start message (Ok x) t told =
    elim (is_too_large d t.world) as (λ b. let s = cond {A = Stepped} b (failed j start TooLarge) (record { outcome = outcome.Ok; world = t.world; touched = t.touched; outs = t.outs }) in s.outcome ≡ outcome.Ok → Contains s.outs message) [
      | true ↦ λ e. absurd cc
      | false ↦ λ e. told
    ]
ended_ok j d start message (Err fault) t told = λ e. absurd cc

displaced_tells : (run : RunNo) (at : ℕ) (d : DurableWorld) (name : List ℕ) (r : SessionRecord) (game : Job → Act (Unit {0})) → IsRecordedAs d name r → Tells (r.conn, out.Close) (displace_recorded name game (begun run at d))
unfolding and_then
displaced_tells run at d name r game there =
    let start = begun run at d in
    let old : Session = record { name = name; conn = r.conn } in
    rw (there.0, there.1.1, found_so run at d name r there) (displace_tells old game start)

pub displaced_closed : TheDisplacedAreClosed
unfolding and_then
displaced_closed rules conn name run at d r lawful there =
    let j : Job = job.Login conn name in
    let start = begun run at d in
    let session = of_session conn name in
    let game = game_part rules in
    let goes : AlwaysGoesOn (admit session (game j)) = goes_on_of (lawful_admit {Needs = IsForGame j} session (game j) (λ n. n) (parts_lawful rules lawful j)) in
    let first = displace_recorded name game start in
    let end = work game j start in
    ended_ok j d start (r.conn, out.Close) end.0 end.1 (through_tells (r.conn, out.Close) first.0 first.1 (admit session (game j)) goes (displaced_tells run at d name r game there))
