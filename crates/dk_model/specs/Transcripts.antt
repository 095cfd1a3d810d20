-- Transcripts: the text of a history, and the play of a script by phases.
use Rattle.std.specs.Prelude.{◌≡◌, ℕ, ◌+◌, Bool, true, false, Option, Some, None, List, [], ◌∷◌, ◌++◌, map, max, min, codes}
use Rattle.std.specs.List.{AllByRecursion}
use Rattle.std.specs.FinMap as maps
use Rattle.std.specs.Fmt.{decimal}
use Rattle.dk_types.specs.declared.number.ConnNo.{ConnNo}
use Rattle.dk_types.specs.declared.job.Input.{Input}
use Rattle.dk_types.specs.declared.job.Input.TheVariants as input
use Rattle.dk_types.specs.declared.job.Out.{Out}
use Rattle.dk_types.specs.declared.job.Out.TheVariants as out
use Rattle.dk_types.specs.declared.event.Event.{Event}
use Rattle.dk_types.specs.declared.event.Event.TheVariants as event
use Rattle.dk_types.specs.declared.event.ConnectReply.{ConnectReply}
use Rattle.dk_types.specs.declared.event.ConnectReply.TheVariants as connected
use Rattle.dk_types.specs.declared.event.PostReply.{PostReply}
use Rattle.dk_types.specs.declared.event.PostReply.TheVariants as posted
use Rattle.dk_types.specs.declared.event.ClaimReply.{ClaimReply}
use Rattle.dk_types.specs.declared.event.ClaimReply.TheVariants as claimed
use Rattle.dk_types.specs.declared.limits.TheConstants.{MOMENT_MOST_MS}
use Rattle.dk_types.specs.Names.{bytes_cmp}
use Rattle.dk_model.specs.declared.script.Line.{Line}
use Rattle.dk_model.specs.declared.script.Line.TheVariants as line
use Rattle.dk_model.specs.Keys.{conn_cmp}
use Rattle.dk_model.specs.Worlds.{World}
use Rattle.dk_model.specs.Picks.{runnable}
use Rattle.dk_model.specs.Events.{Meaning, Happens, outbox}
use Rattle.dk_model.specs.Lines.{text_of, escaped}
use Rattle.dk_model.specs.Phases.{AreSmall}
use Rattle.dk_model.specs.Orders.{OrderItem, AreInTurn, item_of, job_text, outcome_text}

-- what a reader of events knows so far: the login names of connections, and the moment
pub record Known : Type 0 where
  pub names : maps.FinMap conn_cmp (List ℕ)
  pub moment : ℕ

-- what is known before the first event
abbrev pub nothing_known : Known
nothing_known = record { names = maps.empty; moment = 0 }

-- a name that was found, or the empty one
abbrev pub name_or_none : Option (List ℕ) → List ℕ
name_or_none None = []
name_or_none (Some name) = name

-- the login name under which a connection connected
abbrev pub name_at : Known → ConnNo → List ℕ
name_at known conn = name_or_none (maps.get known.names conn)

-- `WORD CONN NAME`
abbrev pub conn_line : List ℕ → ConnNo → List ℕ → List ℕ
conn_line word conn name = word ++ 32 ∷ decimal conn.0 ++ 32 ∷ escaped name

-- a message as its line tells it
abbrev pub out_text : Out → List ℕ
out_text out.Accepted = codes "accepted"
out_text out.Refused = codes "refused"
out_text (out.Message body) = codes "message " ++ escaped body
out_text (out.Channel channel body) = codes "channel " ++ escaped channel ++ 32 ∷ escaped body
out_text out.Close = codes "close"

-- `to CONN NAME OUT`
abbrev pub to_line : ConnNo → List ℕ → Out → List ℕ
to_line conn name message = conn_line (codes "to") conn name ++ 32 ∷ out_text message

-- the line of a Connect
abbrev pub connect_lines : List ℕ → ConnectReply → List (List ℕ)
connect_lines name (connected.Number conn) = conn_line (codes "open") conn name ∷ []
connect_lines name (connected.Exhausted next) = []

-- the line of a Post that was not taken
abbrev pub post_lines : List ℕ → ConnNo → PostReply → List (List ℕ)
post_lines name conn posted.Taken = []
post_lines name conn posted.Closed = conn_line (codes "closed") conn name ∷ []
post_lines name conn (posted.QueueFull waiting) = conn_line (codes "full") conn name ∷ []

-- the line of a Claim that was granted
abbrev pub claim_lines : ClaimReply → List (List ℕ)
claim_lines (claimed.Granted run at job) = (codes "claim " ++ decimal run.0 ++ codes " at " ++ decimal at ++ 32 ∷ job_text job) ∷ []
claim_lines claimed.Nothing = []
claim_lines (claimed.Spent granted) = []
claim_lines (claimed.Exhausted next) = []

-- the lines of an event
abbrev pub event_lines : Known → Event → List (List ℕ)
event_lines known (event.Connect pass name reply) = connect_lines name reply
event_lines known (event.Post pass conn input reply) = post_lines (name_at known conn) conn reply
event_lines known (event.Claim pass reply) = claim_lines reply
event_lines known (event.Release pass run) = []
event_lines known (event.Commit pass run seq outcome) = (codes "commit " ++ decimal seq ++ codes " run " ++ decimal run.0 ++ 32 ∷ outcome_text outcome) ∷ []
event_lines known (event.Hand pass conn most outs end) = map (to_line conn (name_at known conn)) outs
event_lines known (event.Tick pass moment) = (codes "tick " ++ decimal (max known.moment (min moment MOMENT_MOST_MS))) ∷ []

-- what is known after a Connect
abbrev pub named : Known → List ℕ → ConnectReply → Known
named known name (connected.Number conn) = record known { names = maps.insert known.names conn name }
named known name (connected.Exhausted next) = known

-- what is known after an event
abbrev pub knowing : Known → Event → Known
knowing known (event.Connect pass name reply) = named known name reply
knowing known (event.Tick pass moment) = record known { moment = max known.moment (min moment MOMENT_MOST_MS) }
knowing known (event.Post pass conn input reply) = known
knowing known (event.Claim pass reply) = known
knowing known (event.Release pass run) = known
knowing known (event.Commit pass run seq outcome) = known
knowing known (event.Hand pass conn most outs end) = known

-- the lines of these events, in order
abbrev pub lines_of_events : Known → List Event → List (List ℕ)
lines_of_events known [] = []
lines_of_events known (e ∷ events) = event_lines known e ++ lines_of_events (knowing known e) events

-- what is known after these events
abbrev pub known_after : Known → List Event → Known
known_after known [] = known
known_after known (e ∷ events) = known_after (knowing known e) events

-- `phase P`, and the lines of the phase's events; phases are numbered on
abbrev pub lines_of_phases : ℕ → Known → List (List Event) → List (List ℕ)
lines_of_phases number known [] = []
lines_of_phases number known (events ∷ phases) =
    ((codes "phase " ++ decimal number) ∷ lines_of_events known events) ++ lines_of_phases (number + 1) (known_after known events) phases

-- the last line
abbrev pub done_line : ℕ → ℕ → List ℕ
done_line commits tasks = codes "done commits " ++ decimal commits ++ codes " tasks " ++ decimal tasks

-- the text of a history by phases, ended by the durable world's numbers
unfoldable pub transcript_text : List (List Event) → ℕ → ℕ → List ℕ
transcript_text phases commits tasks = text_of (lines_of_phases 0 nothing_known phases ++ done_line commits tasks ∷ [])

-- a play of a script: the world, which connection each name means, and the connections so far in their order
pub record Playing : Type 0 where
  pub world : World
  pub means : maps.FinMap bytes_cmp ConnNo
  pub opened : List ConnNo

-- an input is posted to the connection that a name means; afterwards names mean this
abbrev pub PostsTo : Meaning → Playing → List ℕ → Input → Event → Playing → maps.FinMap bytes_cmp ConnNo → Type 0
PostsTo rules p name input e after means =
    (pass : ℕ) × (conn : ConnNo) × (reply : PostReply) × (maps.get p.means name ≡ Some conn) × (e ≡ event.Post pass conn input reply) × Happens rules p.world e after.world
    × (after.means ≡ means) × (after.opened ≡ p.opened)

-- a line is entered as a Connect, a Post or a Tick, and the play goes on; a name means nothing once its connection is posted a Disconnect
abbrev pub PlaysLine : Meaning → Playing → Line → Event → Playing → Type 0
PlaysLine rules p (line.Login name) e after =
    (pass : ℕ) × (conn : ConnNo) × (e ≡ event.Connect pass name (connected.Number conn)) × Happens rules p.world e after.world
    × (after.means ≡ maps.insert p.means name conn) × (after.opened ≡ p.opened ++ conn ∷ [])
PlaysLine rules p (line.Send name text) e after = PostsTo rules p name (input.Message text) e after p.means
PlaysLine rules p (line.Channel name channel text) e after = PostsTo rules p name (input.Channel channel text) e after p.means
PlaysLine rules p (line.Logout name) e after = PostsTo rules p name (input.Disconnect true) e after (maps.remove p.means name)
PlaysLine rules p (line.Drop name) e after = PostsTo rules p name (input.Disconnect false) e after (maps.remove p.means name)
PlaysLine rules p (line.Tick moment) e after = (pass : ℕ) × (e ≡ event.Tick pass moment) × Happens rules p.world e after.world × (after.means ≡ p.means) × (after.opened ≡ p.opened)

-- each line of a phase is entered by one event, in order
abbrev pub PlaysLines : Meaning → Playing → List Line → List Event → Playing → Type 0
PlaysLines rules p [] [] after = after ≡ p
PlaysLines rules p (l ∷ lines) (e ∷ events) after = (mid : Playing) × PlaysLine rules p l e mid × PlaysLines rules mid lines events after
PlaysLines rules p [] (e ∷ events) after = ⊥
PlaysLines rules p (l ∷ lines) [] after = ⊥

-- the order's items are entered as granted claims and as commits, one after another
abbrev pub Follows : Meaning → World → List OrderItem → List Event → World → Type 0
Follows rules w [] [] after = after ≡ w
Follows rules w (i ∷ items) (e ∷ events) after = (mid : World) × (item_of e ≡ Some i) × Happens rules w e mid × Follows rules mid items events after
Follows rules w [] (e ∷ events) after = ⊥
Follows rules w (i ∷ items) [] after = ⊥

-- nothing is runnable and nothing is claimed
pub record IsQuiet (w : World) : Type 0 where
  pub idle : runnable w ≡ []
  pub unclaimed : maps.values w.claims ≡ []

-- each connection is handed all that waits for it
abbrev pub Hands : Meaning → World → List ConnNo → List Event → World → Type 0
Hands rules w [] [] after = after ≡ w
Hands rules w (conn ∷ conns) (e ∷ events) after =
    (mid : World) × (pass : ℕ) × (most : ℕ) × (end : Bool) × (e ≡ event.Hand pass conn most (outbox w conn) end) × Happens rules w e mid × Hands rules mid conns events after
Hands rules w [] (e ∷ events) after = ⊥
Hands rules w (conn ∷ conns) [] after = ⊥

-- one phase: its lines are entered, the order's items follow until nothing is left to run, and every connection opened so far is handed its messages
pub record PlaysPhase (rules : Meaning) (p : Playing) (lines : List Line) (items : List OrderItem) (events : List Event) (after : Playing) : Type 0 where
  pub entered : List Event
  pub followed : List Event
  pub handed : List Event
  pub all : events ≡ entered ++ (followed ++ handed)
  pub at_lines : Playing
  pub at_items : World
  pub enters : PlaysLines rules p lines entered at_lines
  pub follows : Follows rules at_lines.world items followed at_items
  pub quiet : IsQuiet at_items
  pub hands : Hands rules at_items at_lines.opened handed after.world
  pub same_means : after.means ≡ at_lines.means
  pub same_opened : after.opened ≡ at_lines.opened

-- phase after phase, each with its part of the order
abbrev pub Plays : Meaning → Playing → List (List Line) → List (List OrderItem) → List (List Event) → Playing → Type 0
Plays rules p [] [] [] after = after ≡ p
Plays rules p (lines ∷ script) (items ∷ order) (events ∷ phases) after = (mid : Playing) × PlaysPhase rules p lines items events mid × Plays rules mid script order phases after
Plays rules p _ _ _ after = ⊥

-- a play that begins in this world
abbrev pub playing : World → Playing
playing w = record { world = w; means = maps.empty; opened = [] }

-- the text is the transcript of the script in this order, from the opening world on; phase 0 has no lines
pub record IsTranscript (rules : Meaning) (opening : World) (script : List (List Line)) (order : List (List OrderItem)) (text : List ℕ) : Type 0 where
  pub phases : List (List Event)
  pub end : Playing
  pub plays : Plays rules (playing opening) ([] ∷ script) order phases end
  pub told : text ≡ transcript_text phases end.world.durable.commits (maps.len end.world.durable.tasks)

-- a whole play of a script from the opening world on: these are its phases, and these the durable world's numbers at its end
pub record IsPlayed (rules : Meaning) (opening : World) (script : List (List Line)) (phases : List (List Event)) (commits tasks : ℕ) : Type 0 where
  pub order : List (List OrderItem)
  pub end : Playing
  pub plays : Plays rules (playing opening) ([] ∷ script) order phases end
  pub commits_are : commits ≡ end.world.durable.commits
  pub tasks_are : tasks ≡ maps.len end.world.durable.tasks
  pub small : AreSmall phases
  -- by one worker, who commits each run before the next is claimed
  pub turns : AllByRecursion AreInTurn order

-- two plays of one script have one transcript, where each tells every run's claim and commit one behind the other
abbrev pub DecidesOneTranscript : Meaning → World → List (List Line) → Type 0
DecidesOneTranscript rules opening script =
    (order other : List (List OrderItem)) (text told : List ℕ) → AllByRecursion AreInTurn order → AllByRecursion AreInTurn other
    → IsTranscript rules opening script order text → IsTranscript rules opening script other told → text ≡ told
