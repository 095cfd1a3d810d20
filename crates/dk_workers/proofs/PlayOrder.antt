-- The order of a play is that of its events: each phase's part of the order is the claims and commits among the phase's events.
use Rattle.std.proofs.Common.{◌≡◌, Option, None, List, [], ◌∷◌, ◌++◌, map, refl, sym, ap, ◌∙◌}
use Rattle.std.specs.List.{cons_option, filter_map}
use Rattle.std.proofs.lemmas.List.{append-nil}
use Rattle.std.proofs.lemmas.List.Elements.{filter_map-append}
use Rattle.dk_types.specs.declared.event.Event.{Event}
use Rattle.dk_types.specs.declared.number.ConnNo.{ConnNo}
use Rattle.dk_model.specs.declared.script.Line.{Line}
use Rattle.dk_model.specs.declared.script.Line.TheVariants as line
use Rattle.dk_model.specs.Worlds.{World}
use Rattle.dk_model.specs.Events.{Meaning}
use Rattle.dk_model.specs.Orders.{OrderItem, item_of}
use Rattle.dk_model.specs.Transcripts.{Playing, PlaysLine, PlaysLines, Follows, Hands, PlaysPhase, Plays}

-- an event that tells no item adds none
without_item : (e : Event) (events : List Event) → item_of e ≡ None → filter_map item_of events ≡ [] → filter_map item_of (e ∷ events) ≡ []
without_item e events none rest = ap (λ (o : Option OrderItem). cons_option o (filter_map item_of events)) none ∙ rest

-- entering a line tells no item
item_of-PlaysLine : (rules : Meaning) (p : Playing) (l : Line) (e : Event) (after : Playing) → PlaysLine rules p l e after → item_of e ≡ None
item_of-PlaysLine rules p (line.Login name) e after h = ap item_of h.2
item_of-PlaysLine rules p (line.Send name text) e after h = ap item_of h.4
item_of-PlaysLine rules p (line.Channel name channel text) e after h = ap item_of h.4
item_of-PlaysLine rules p (line.Logout name) e after h = ap item_of h.4
item_of-PlaysLine rules p (line.Drop name) e after h = ap item_of h.4
item_of-PlaysLine rules p (line.Tick moment) e after h = ap item_of h.1

items_of-PlaysLines : (rules : Meaning) (p : Playing) (lines : List Line) (events : List Event) (after : Playing) → PlaysLines rules p lines events after → filter_map item_of events ≡ []
items_of-PlaysLines rules p [] [] after h = refl
items_of-PlaysLines rules p (l ∷ lines) (e ∷ events) after h = without_item e events (item_of-PlaysLine rules p l e h.0 h.1) (items_of-PlaysLines rules h.0 lines events after h.2)
items_of-PlaysLines rules p [] (e ∷ events) after h = absurd h
items_of-PlaysLines rules p (l ∷ lines) [] after h = absurd h

-- the events that follow an order tell exactly its items
items_of-Follows : (rules : Meaning) (w : World) (items : List OrderItem) (events : List Event) (after : World) → Follows rules w items events after → filter_map item_of events ≡ items
items_of-Follows rules w [] [] after h = refl
items_of-Follows rules w (i ∷ items) (e ∷ events) after h =
    ap (λ (o : Option OrderItem). cons_option o (filter_map item_of events)) h.1 ∙ ap (λ (rest : List OrderItem). i ∷ rest) (items_of-Follows rules h.0 items events after h.3)
items_of-Follows rules w [] (e ∷ events) after h = absurd h
items_of-Follows rules w (i ∷ items) [] after h = absurd h

-- handing messages tells no item
items_of-Hands : (rules : Meaning) (w : World) (conns : List ConnNo) (events : List Event) (after : World) → Hands rules w conns events after → filter_map item_of events ≡ []
items_of-Hands rules w [] [] after h = refl
items_of-Hands rules w (conn ∷ conns) (e ∷ events) after h = without_item e events (ap item_of h.4) (items_of-Hands rules h.0 conns events after h.6)
items_of-Hands rules w [] (e ∷ events) after h = absurd h
items_of-Hands rules w (conn ∷ conns) [] after h = absurd h

-- the items of a phase are those of its events
items_of-PlaysPhase : (rules : Meaning) (p : Playing) (lines : List Line) (items : List OrderItem) (events : List Event) (after : Playing) → PlaysPhase rules p lines items events after → items ≡ filter_map item_of events
items_of-PlaysPhase rules p lines items events after h =
    let told : List Event → List OrderItem = filter_map item_of in
    let entered = items_of-PlaysLines rules p lines h.entered h.at_lines h.enters in
    let followed = items_of-Follows rules h.at_lines.world items h.followed h.at_items h.follows in
    let handed = items_of-Hands rules h.at_items h.at_lines.opened h.handed after.world h.hands in
    sym (ap told h.all ∙ filter_map-append item_of h.entered (h.followed ++ h.handed) ∙ ap (λ (xs : List OrderItem). xs ++ told (h.followed ++ h.handed)) entered
    ∙ filter_map-append item_of h.followed h.handed ∙ ap (λ (xs : List OrderItem). told h.followed ++ xs) handed ∙ append-nil (told h.followed) ∙ followed)

-- the order of a play is, phase by phase, the list of the claims and commits among its events
pub order_of-Plays : (rules : Meaning) (p : Playing) (script : List (List Line)) (order : List (List OrderItem)) (phases : List (List Event)) (after : Playing) → Plays rules p script order phases after → order ≡ map (filter_map item_of) phases
order_of-Plays rules p [] [] [] after h = refl
order_of-Plays rules p (lines ∷ script) (items ∷ order) (events ∷ phases) after h =
    ap (λ (i : List OrderItem). i ∷ order) (items_of-PlaysPhase rules p lines items events h.0 h.1) ∙ ap (λ (rest : List (List OrderItem)). filter_map item_of events ∷ rest) (order_of-Plays rules h.0 script order phases after h.2)
order_of-Plays rules p [] [] (events ∷ phases) after h = absurd h
order_of-Plays rules p [] (items ∷ order) [] after h = absurd h
order_of-Plays rules p [] (items ∷ order) (events ∷ phases) after h = absurd h
order_of-Plays rules p (lines ∷ script) [] [] after h = absurd h
order_of-Plays rules p (lines ∷ script) [] (events ∷ phases) after h = absurd h
order_of-Plays rules p (lines ∷ script) (items ∷ order) [] after h = absurd h
