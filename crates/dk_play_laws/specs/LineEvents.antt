-- What one pass enters for the lines of a script, and what it hands.
use Rattle.std.specs.Prelude.{◌≡◌, ℕ, Bool, true, false, Some, List, [], ◌∷◌, ◌++◌}
use Rattle.std.specs.FinMap as maps
use Rattle.dk_types.specs.declared.number.ConnNo.{ConnNo}
use Rattle.dk_types.specs.declared.job.Input.{Input}
use Rattle.dk_types.specs.declared.job.Input.TheVariants as input
use Rattle.dk_types.specs.declared.job.Out.{Out}
use Rattle.dk_types.specs.declared.event.Event.{Event}
use Rattle.dk_types.specs.declared.event.Event.TheVariants as event
use Rattle.dk_types.specs.declared.event.ConnectReply.TheVariants as connected
use Rattle.dk_types.specs.declared.event.PostReply.{PostReply}
use Rattle.dk_types.specs.declared.limits.TheConstants.{OUTS_MOST_COUNT}
use Rattle.dk_types.specs.Names.{bytes_cmp}
use Rattle.dk_model.specs.declared.script.Line.{Line}
use Rattle.dk_model.specs.declared.script.Line.TheVariants as line
use Rattle.dk_model.specs.Worlds.{World}
use Rattle.dk_model.specs.Transcripts.{Playing}

-- what a player keeps beside the world: which connection each name means, and the connections so far in their order
pub record Said : Type 0 where
  pub means : maps.FinMap bytes_cmp ConnNo
  pub opened : List ConnNo

-- at the beginning no name means anything
abbrev pub nothing_said : Said
nothing_said = record { means = maps.empty; opened = [] }

-- a play in this world
abbrev pub playing_at : World → Said → Playing
playing_at w s = record { world = w; means = s.means; opened = s.opened }

-- the pass posts the input to the connection that the name means; afterwards names mean this
abbrev pub IsPostFor : ℕ → Said → List ℕ → Input → Event → Said → maps.FinMap bytes_cmp ConnNo → Type 0
IsPostFor pass s name input e after means =
    (conn : ConnNo) × (reply : PostReply) × (maps.get s.means name ≡ Some conn) × (e ≡ event.Post pass conn input reply) × (after.means ≡ means) × (after.opened ≡ s.opened)

-- the event that the pass enters for a line, and what is kept afterwards
abbrev pub IsLineEvent : ℕ → Said → Line → Event → Said → Type 0
IsLineEvent pass s (line.Login name) e after =
    (conn : ConnNo) × (e ≡ event.Connect pass name (connected.Number conn)) × (after.means ≡ maps.insert s.means name conn) × (after.opened ≡ s.opened ++ conn ∷ [])
IsLineEvent pass s (line.Send name text) e after = IsPostFor pass s name (input.Message text) e after s.means
IsLineEvent pass s (line.Channel name channel text) e after = IsPostFor pass s name (input.Channel channel text) e after s.means
IsLineEvent pass s (line.Logout name) e after = IsPostFor pass s name (input.Disconnect true) e after (maps.remove s.means name)
IsLineEvent pass s (line.Drop name) e after = IsPostFor pass s name (input.Disconnect false) e after (maps.remove s.means name)
IsLineEvent pass s (line.Tick moment) e after = (e ≡ event.Tick pass moment) × (after.means ≡ s.means) × (after.opened ≡ s.opened)

-- one event for each line, in order
abbrev pub AreLineEvents : ℕ → Said → List Line → List Event → Said → Type 0
AreLineEvents pass s [] [] after = after ≡ s
AreLineEvents pass s (l ∷ lines) (e ∷ events) after = (mid : Said) × IsLineEvent pass s l e mid × AreLineEvents pass mid lines events after
AreLineEvents pass s [] (e ∷ events) after = ⊥
AreLineEvents pass s (l ∷ lines) [] after = ⊥

-- the pass hands each connection as many messages as may wait, in order
abbrev pub AreHandEvents : ℕ → List ConnNo → List Event → Type 0
AreHandEvents pass [] [] = Unit {0}
AreHandEvents pass (conn ∷ conns) (e ∷ events) = (outs : List Out) × (end : Bool) × (e ≡ event.Hand pass conn OUTS_MOST_COUNT outs end) × AreHandEvents pass conns events
AreHandEvents pass [] (e ∷ events) = ⊥
AreHandEvents pass (conn ∷ conns) [] = ⊥
