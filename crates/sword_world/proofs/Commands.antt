-- What a command comes to, by what the player carries and what lies in the room.
use Rattle.std.proofs.Common.{◌≡◌, ℕ, Option, Some, None, List, [], ◌∷◌, Ok, drop as list_drop, refl, ap, ◌∙◌}
use Rattle.std.specs.Prelude.{slice_get}
use Rattle.dk_types.specs.declared.number.ConnNo.{ConnNo}
use Rattle.dk_types.specs.declared.number.ObjectId.{ObjectId}
use Rattle.dk_model.specs.Runs.{Run, Act, give, and_then}
use Rattle.dk_overlay.proofs.Tests.{Some_injective}
use Rattle.sword_world.specs.declared.command.Command.{Command}
use Rattle.sword_world.specs.declared.scene.Scene.{Scene}
use Rattle.sword_world.specs.Texts.{already_text, bare_text, empty_text}
use Rattle.sword_world.specs.Rules.{thing_at, pick_up, take_from, take, put_down, drop_what, drop, command_of, answer_if, message}

-- the first thing is picked up
first_taken : (scene : Scene) (items : List ObjectId) (id : ObjectId) → slice_get items 0 ≡ Some id → take_from scene None items ≡ pick_up scene id (list_drop 1 items)
first_taken scene [] id e = cc
first_taken scene (x ∷ xs) id e = ap (λ y. pick_up scene y xs) (Some_injective _ _ e)

-- there is none
none_taken : (scene : Scene) (items : List ObjectId) → slice_get items 0 ≡ None → take_from scene None items ≡ give (Ok bare_text)
none_taken scene [] e = refl
none_taken scene (x ∷ xs) e = cc

-- take, by who carries nothing
pub taken_first : (scene : Scene) (id : ObjectId) → scene.player.carried ≡ None → slice_get scene.room.items 0 ≡ Some id → (s : Run) → take scene s ≡ pick_up scene id (list_drop 1 scene.room.items) s
unfolding take
taken_first scene id bare first s = ap (λ carried. take_from scene carried scene.room.items s) bare ∙ ap (λ (f : Act (List ℕ)). f s) (first_taken scene scene.room.items id first)

-- the same where nothing lies in the room
pub taken_none : (scene : Scene) → scene.player.carried ≡ None → slice_get scene.room.items 0 ≡ None → (s : Run) → take scene s ≡ give (Ok bare_text) s
unfolding take
taken_none scene bare first s = ap (λ carried. take_from scene carried scene.room.items s) bare ∙ ap (λ (f : Act (List ℕ)). f s) (none_taken scene scene.room.items first)

-- take, by who carries a thing
pub already : (scene : Scene) (item : ObjectId) → scene.player.carried ≡ Some item → (s : Run) → take scene s ≡ and_then (thing_at item) (λ thing. give (Ok (already_text thing.description))) s
unfolding take
already scene item full s = ap (λ carried. take_from scene carried scene.room.items s) full

-- drop, by who carries a thing
pub dropped : (scene : Scene) (item : ObjectId) → scene.player.carried ≡ Some item → (s : Run) → drop scene s ≡ put_down scene item s
unfolding drop
dropped scene item full s = ap (λ carried. drop_what scene carried s) full

-- drop, by who carries nothing
pub dropped_none : (scene : Scene) → scene.player.carried ≡ None → (s : Run) → drop scene s ≡ give (Ok empty_text) s
unfolding drop
dropped_none scene bare s = ap (λ carried. drop_what scene carried s) bare

-- a message, by the command that it is
pub messaged : (conn : ConnNo) (name body : List ℕ) (o : Option Command) → command_of body ≡ o → (s : Run) → message conn name body s ≡ answer_if conn name o s
unfolding message
messaged conn name body o is s = ap (λ o. answer_if conn name o s) is
