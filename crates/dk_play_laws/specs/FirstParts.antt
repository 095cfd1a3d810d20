-- What the main pass of a play enters for a script, and a first part of it.
use Rattle.std.specs.Prelude.{◌≡◌, ◌⊎◌, ℕ, Bool, true, false, List, [], ◌∷◌, ◌++◌}
use Rattle.std.specs.List.{filter}
use Rattle.dk_types.specs.declared.number.ConnNo.{ConnNo}
use Rattle.dk_types.specs.declared.event.Event.{Event}
use Rattle.dk_types.specs.declared.event.Event.TheVariants as event
use Rattle.dk_types.specs.declared.event.ConnectReply.TheVariants as connected
use Rattle.dk_model.specs.declared.script.Line.{Line}
use Rattle.dk_model.specs.declared.script.Line.TheVariants as line
use Rattle.dk_play_laws.specs.LineEvents.{Said, nothing_said, AreLineEvents, AreHandEvents}

-- whether an event is one that a script makes: no claim, no commit and no release
abbrev pub is_scripted : Event → Bool
is_scripted (event.Connect pass name reply) = true
is_scripted (event.Post pass conn input reply) = true
is_scripted (event.Hand pass conn most outs end) = true
is_scripted (event.Tick pass moment) = true
is_scripted (event.Claim pass reply) = false
is_scripted (event.Commit pass run seq outcome) = false
is_scripted (event.Release pass run) = false

-- the events that are no claims, commits and releases
abbrev pub scripted_of : List Event → List Event
scripted_of events = filter is_scripted events

-- the events of a phase: those of its lines one after another, and then a Hand for each connection opened so far
pub record ArePhaseEvents (pass : ℕ) (s : Said) (lines : List Line) (events : List Event) (t : Said) : Type 0 where
  pub entered : List Event
  pub handed : List Event
  pub all : events ≡ entered ++ handed
  pub are_lines : AreLineEvents pass s lines entered t
  pub are_hands : AreHandEvents pass t.opened handed

-- those of a script, phase after phase
abbrev pub AreScriptEvents : ℕ → Said → List (List Line) → List Event → Said → Type 0
AreScriptEvents pass s [] events t = (events ≡ []) × (t ≡ s)
AreScriptEvents pass s (lines ∷ script) events t =
    (mid : Said) × (first : List Event) × (rest : List Event) × (events ≡ first ++ rest) × ArePhaseEvents pass s lines first mid × AreScriptEvents pass mid script rest t

-- the next line is a login, and its Connect was answered that no number is left
pub record IsRefusedLogin (pass : ℕ) (left : List Line) (events : List Event) : Type 0 where
  pub name : List ℕ
  pub next : ℕ
  pub later : List Line
  pub is_next : left ≡ line.Login name ∷ later
  pub refused : events ≡ event.Connect pass name (connected.Exhausted next) ∷ []

-- the events of some first lines, and perhaps a Connect to which no number was left
pub record AreFirstLines (pass : ℕ) (s : Said) (lines : List Line) (events : List Event) : Type 0 where
  pub done : List Line
  pub left : List Line
  pub parts : lines ≡ done ++ left
  pub said : Said
  pub entered : List Event
  pub refused : List Event
  pub all : events ≡ entered ++ refused
  pub are_lines : AreLineEvents pass s done entered said
  pub is_refused : (refused ≡ []) ⊎ IsRefusedLogin pass left refused

-- a Hand for each of some first connections
pub record AreFirstHands (pass : ℕ) (conns : List ConnNo) (events : List Event) : Type 0 where
  pub done : List ConnNo
  pub left : List ConnNo
  pub parts : conns ≡ done ++ left
  pub are_hands : AreHandEvents pass done events

-- the events of all lines, and then some first hands
pub record AreLinesAndHands (pass : ℕ) (s : Said) (lines : List Line) (events : List Event) : Type 0 where
  pub said : Said
  pub entered : List Event
  pub handed : List Event
  pub all : events ≡ entered ++ handed
  pub are_lines : AreLineEvents pass s lines entered said
  pub are_hands : AreFirstHands pass said.opened handed

-- a phase up to some moment
abbrev pub IsPhaseBegun : ℕ → Said → List Line → List Event → Type 0
IsPhaseBegun pass s lines events = AreFirstLines pass s lines events ⊎ AreLinesAndHands pass s lines events

-- the first of these phases up to some moment, if there is one
abbrev pub IsNextBegun : ℕ → Said → List (List Line) → List Event → Type 0
IsNextBegun pass s [] events = events ≡ []
IsNextBegun pass s (lines ∷ left) events = IsPhaseBegun pass s lines events

-- A FIRST PART OF A SCRIPT: the pass entered the events of some first phases, and of the next one those up to some moment
pub record IsFirstPart (pass : ℕ) (script : List (List Line)) (events : List Event) : Type 0 where
  pub done : List (List Line)
  pub left : List (List Line)
  pub parts : script ≡ done ++ left
  pub said : Said
  pub whole : List Event
  pub begun : List Event
  pub all : events ≡ whole ++ begun
  pub are_whole : AreScriptEvents pass nothing_said done whole said
  pub is_begun : IsNextBegun pass said left begun
