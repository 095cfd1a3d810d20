-- What a room, a thing and a player have to be to be spelled, and that they are read exactly.
use Rattle.std.proofs.Common.{◌≡◌, ℕ, zero, suc, ◌+◌, true, Option, Some, None, List, [], ◌++◌, length, Ok, nat_lt, ltb-true, refl, ap, subst, arith}
use Rattle.dk_types.specs.declared.number.ObjectId.{ObjectId}
use Rattle.dk_types.specs.Names.{IsName}
use Rattle.dk_types.specs.Rest.{Rest, Takes}
use Rattle.dk_types.specs.Fields.{IsU8, IsId, u8_spelling, id_spelling}
use Rattle.dk_types.specs.Exact.{IsExact}
use Rattle.dk_types.specs.Lists.{IsList}
use Rattle.dk_types.specs.Reading.{◌>>=◌}
use Rattle.dk_types.specs.Payload.{next_id}
use Rattle.dk_types.proofs.Composing.{then_exact, last_exact, none_exact, alike_exact, checked_exact}
use Rattle.dk_types.proofs.Steps.{bind_ok, ok_is}
use Rattle.dk_types.proofs.NextLaws.{next_u8_exact, next_name_exact, next_id_exact}
use Rattle.dk_types.proofs.ListLaws.{list_exact}
use Rattle.dk_records.specs.FieldLaws.{each_id_exact}
use Rattle.dk_refs.specs.Managing.{ReadsExactly, reads_exactly}
use Rattle.sword_world.specs.declared.things.Room.{Room}
use Rattle.sword_world.specs.declared.things.Thing.{Thing}
use Rattle.sword_world.specs.declared.things.Player.{Player}
use Rattle.sword_world.specs.Things.{room_bytes, next_room, room_of, thing_bytes, next_thing, thing_of, carried_bytes, next_item, next_carried, player_bytes, next_player, player_of}

-- fewer than 2^32 players, and as many things
pub record IsRoom (r : Room) : Type 0 where
  pub players : IsList (λ _. IsId) r.players
  pub items : IsList (λ _. IsId) r.items

-- a description is a name
pub record IsThing (t : Thing) : Type 0 where
  pub description : IsName t.description

-- an id, where there is one
abbrev pub IsCarried : Option ObjectId → Type 0
IsCarried None = Unit {0}
IsCarried (Some id) = IsId id

-- a name, and what is carried has an id
pub record IsPlayer (p : Player) : Type 0 where
  pub name : IsName p.name
  pub carried : IsCarried p.carried

-- reading a room takes back what its bytes say, and nothing else
pub each_room_exact : (before : Option Room) → IsExact IsRoom room_bytes next_room
unfolding next_room
each_room_exact before =
    then_exact (λ (r : Room). r.players) _ (list_exact each_id_exact) (λ r is. is.players) (λ players are.
    last_exact (λ (r : Room). r.items) (λ items. record { players = players; items = items }) (list_exact each_id_exact) (λ r is. is.0.items)
    (λ items all. (record { players = are; items = all }, refl)) (λ items. refl) (λ r is i. record { players = is.1 i; items = r.items }))

-- reading a thing takes back what its bytes say, and nothing else
pub each_thing_exact : (before : Option Thing) → IsExact IsThing thing_bytes next_thing
unfolding next_thing
each_thing_exact before =
    last_exact (λ (t : Thing). t.description) (λ description. record { description = description }) next_name_exact (λ t is. is.description)
    (λ description is. record { description = is }) (λ description. refl) (λ t is. refl)

-- the first byte of what is carried
abbrev flag_of : Option ObjectId → ℕ
flag_of None = 0
flag_of (Some id) = 1

-- what follows it
abbrev item_bytes : Option ObjectId → List ℕ
item_bytes None = []
item_bytes (Some id) = id_spelling id

flag_small : (c : Option ObjectId) → IsU8 (flag_of c) × (nat_lt (flag_of c) 2 ≡ true)
flag_small None = (omega arith, refl)
flag_small (Some id) = (omega arith, refl)

-- what has this first byte
abbrev Flagged : ℕ → Option ObjectId → Type 0
Flagged flag c = IsCarried c × (flag_of c ≡ flag)

-- an id follows a first byte of 1
some_exact : IsExact (Flagged 1) item_bytes (next_item 1)
some_exact = record {
  takes = λ old c new each e.
      let s = bind_ok (next_id old) (λ id. Ok (Some id.0, id.1)) (c, new) e in
      let first = next_id_exact.takes old s.0.0 s.0.1 each s.1 in
      subst (λ (p : Option ObjectId × Rest). Flagged 1 p.0 × Takes old (item_bytes p.0) p.1) (ok_is {F = ℕ} (Some s.0.0, s.0.1) (c, new) s.2) ((first.0, refl), first.1);
  again = again;
}
  where
    again : (at : ℕ) (c : Option ObjectId) (behind : List ℕ) → Flagged 1 c → next_item 1 (record { at = at; bytes = item_bytes c ++ behind }) ≡ Ok (c, record { at = at + length (item_bytes c); bytes = behind })
    again at None behind is = absurd cc
    again at (Some id) behind is = ap (λ read. read >>= λ x. Ok (Some x.0, x.1)) (next_id_exact.again at id behind is.0)

-- nothing follows a first byte of 0
none_carried : IsExact (Flagged 0) item_bytes (next_item 0)
none_carried = alike_exact (none_exact {F = ℕ} {All = Flagged 0} None (tt, refl) is_none) (λ c is. is) (λ c is. is) empty
  where
    is_none : (c : Option ObjectId) → Flagged 0 c → c ≡ None
    is_none None is = refl
    is_none (Some id) is = absurd cc

    empty : (c : Option ObjectId) → Flagged 0 c → [] ≡ item_bytes c
    empty None is = refl
    empty (Some id) is = absurd cc

-- what follows each first byte that may stand there
item_exact : (flag : ℕ) → IsU8 flag × (nat_lt flag 2 ≡ true) → IsExact (Flagged flag) item_bytes (next_item flag)
item_exact zero is = none_carried
item_exact (suc zero) is = some_exact
item_exact (suc (suc n)) is = absurd (omega (arith, ltb-true (suc (suc n)) 2 is.1))

carried_exact : IsExact IsCarried carried_bytes next_carried
unfolding next_carried u8_spelling
carried_exact =
    alike_exact (then_exact flag_of (λ flag. next_item flag.0 flag.1) (checked_exact (λ b. nat_lt b 2) next_u8_exact) (λ c is. flag_small c) (λ flag is. item_exact flag is)) (λ c is. is) (λ c is. is) spelled
  where
    spelled : (c : Option ObjectId) → IsCarried c → u8_spelling (flag_of c) ++ item_bytes c ≡ carried_bytes c
    spelled None is = refl
    spelled (Some id) is = refl

-- reading a player takes back what its bytes say, and nothing else
pub each_player_exact : (before : Option Player) → IsExact IsPlayer player_bytes next_player
unfolding next_player
each_player_exact before =
    then_exact (λ (p : Player). p.name) _ next_name_exact (λ p is. is.name) (λ name fits.
    last_exact (λ (p : Player). p.carried) (λ carried. record { name = name; carried = carried }) carried_exact (λ p is. is.0.carried)
    (λ carried is. (record { name = fits; carried = is }, refl)) (λ carried. refl) (λ p is i. record { name = is.1 i; carried = p.carried }))

-- the same for an object's whole bytes
pub room_reads : ReadsExactly IsRoom room_bytes room_of
unfolding room_of
room_reads = reads_exactly IsRoom room_bytes next_room (each_room_exact None)

-- the same for an object's whole bytes
pub thing_reads : ReadsExactly IsThing thing_bytes thing_of
unfolding thing_of
thing_reads = reads_exactly IsThing thing_bytes next_thing (each_thing_exact None)

-- the same for an object's whole bytes
pub player_reads : ReadsExactly IsPlayer player_bytes player_of
unfolding player_of
player_reads = reads_exactly IsPlayer player_bytes next_player (each_player_exact None)
