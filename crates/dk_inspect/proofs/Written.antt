-- The text of the world's JSON value is the text that `inspect` writes.
use Rattle.std.proofs.Common.{◌≡◌, ℕ, ◌<◌, ◌==◌, true, false, List, [], ◌∷◌, ◌++◌, map, codes, decimal, refl, sym, ap, ap₂, ◌∙◌, arith, eqb-true, append_assoc, IsUtf8}
use Rattle.std.specs.List.{flat_map}
use Rattle.std.proofs.lemmas.List.Elements.{All-weaker}
use Rattle.std.proofs.lemmas.Str.{IsUtf8-from_ascii}
use Rattle.std.proofs.lemmas.Str.Ascii.{IsAscii-from_all}
use Rattle.json.specs.Print.{escape_byte, quoted}
use Rattle.hex.specs.Hex.{encode_lower}
use Rattle.serde_json.specs.Data.{Data, string, number, unsigned, array}
use Rattle.serde_json.specs.View.{items_of}
use Rattle.serde_json.specs.Written.{compact_text, items_text}
use Rattle.dk_types.specs.GameIds.{IsGameId, IsVisible}
use Rattle.dk_types.specs.declared.number.ObjectId.{ObjectId}
use Rattle.dk_types.specs.declared.object.Object.{Object}
use Rattle.dk_types.specs.declared.durable.Pending.{Pending}
use Rattle.dk_types.specs.declared.durable.Durable.{Durable}
use Rattle.dk_inspect.specs.Texts.{byte_text, quote, place_text, in_commas, array_text, name_text, object_text, task_text, last_text, member_text, world_text}
use Rattle.dk_inspect.specs.Items.{name_data, object_data, task_data, later_text, list_text}

-- a byte is escaped as the definition says
escape_same : (b : ℕ) → escape_byte b ≡ byte_text b
unfolding escape_byte
escape_same b =
    elim (b == 34) as (λ t. (b == 34) ≡ t → escape_byte b ≡ byte_text b) [
      | true ↦ λ e. let is : b ≡ 34 = eqb-true b 34 e in rw is refl
      | false ↦ λ e34. elim (b == 92) as (λ t. (b == 92) ≡ t → escape_byte b ≡ byte_text b) [
        | true ↦ λ e. let is : b ≡ 92 = eqb-true b 92 e in rw is refl
        | false ↦ λ e92. elim (b == 8) as (λ t. (b == 8) ≡ t → escape_byte b ≡ byte_text b) [
          | true ↦ λ e. let is : b ≡ 8 = eqb-true b 8 e in rw is refl
          | false ↦ λ e8. elim (b == 9) as (λ t. (b == 9) ≡ t → escape_byte b ≡ byte_text b) [
            | true ↦ λ e. let is : b ≡ 9 = eqb-true b 9 e in rw is refl
            | false ↦ λ e9. elim (b == 10) as (λ t. (b == 10) ≡ t → escape_byte b ≡ byte_text b) [
              | true ↦ λ e. let is : b ≡ 10 = eqb-true b 10 e in rw is refl
              | false ↦ λ e10. elim (b == 12) as (λ t. (b == 12) ≡ t → escape_byte b ≡ byte_text b) [
                | true ↦ λ e. let is : b ≡ 12 = eqb-true b 12 e in rw is refl
                | false ↦ λ e12. elim (b == 13) as (λ t. (b == 13) ≡ t → escape_byte b ≡ byte_text b) [
                  | true ↦ λ e. let is : b ≡ 13 = eqb-true b 13 e in rw is refl
                  | false ↦ λ e13. rw (e34, e92, e8, e9, e10, e12, e13) refl
                ] refl
              ] refl
            ] refl
          ] refl
        ] refl
      ] refl
    ] refl

escapes_same : (bytes : List ℕ) → flat_map escape_byte bytes ≡ flat_map byte_text bytes
escapes_same [] = refl
escapes_same (b ∷ bytes) = ap₂ (λ (x : List ℕ) (y : List ℕ). x ++ y) (escape_same b) (escapes_same bytes)

-- a text in quotation marks
pub quote_same : (bytes : List ℕ) → quoted bytes ≡ quote bytes
quote_same bytes = ap (λ (x : List ℕ). 34 ∷ (x ++ 34 ∷ [])) (escapes_same bytes)

-- the text of a JSON array, by those of its items
later_items : (ds : List Data) → items_text true (items_of ds) ≡ flat_map (λ later. 44 ∷ later) (map compact_text ds) ++ 93 ∷ []
later_items [] = refl
later_items (d ∷ ds) =
    ap (λ (z : List ℕ). 44 ∷ (compact_text d ++ z)) (later_items ds) ∙ ap (λ (z : List ℕ). 44 ∷ z) (sym (append_assoc (compact_text d) (flat_map (λ later. 44 ∷ later) (map compact_text ds)) (93 ∷ [])))

values_same : (ds : List Data) → compact_text (array (items_of ds)) ≡ array_text (map compact_text ds)
values_same [] = refl
values_same (d ∷ ds) =
    ap (λ (z : List ℕ). 91 ∷ (compact_text d ++ z)) (later_items ds) ∙ ap (λ (z : List ℕ). 91 ∷ z) (sym (append_assoc (compact_text d) (flat_map (λ later. 44 ∷ later) (map compact_text ds)) (93 ∷ [])))

-- the texts of the three kinds of items
name_same : (e : List ℕ × ObjectId) → compact_text (name_data e) ≡ name_text e
name_same e =
    let place = place_text e.1.run.0 e.1.k in
    values_same (string e.0 ∷ string place ∷ []) ∙ ap₂ (λ (x : List ℕ) (y : List ℕ). array_text (x ∷ y ∷ [])) (quote_same e.0) (quote_same place)

object_same : (e : ObjectId × Object) → compact_text (object_data e) ≡ object_text e
object_same e =
    let place = place_text e.0.run.0 e.0.k in
    values_same (string place ∷ number (unsigned e.1.kind) ∷ string (encode_lower e.1.bytes) ∷ [])
    ∙ ap₂ (λ (x : List ℕ) (y : List ℕ). array_text (x ∷ decimal e.1.kind ∷ y ∷ [])) (quote_same place) (quote_same (encode_lower e.1.bytes))

task_same : (p : Pending) → compact_text (task_data p) ≡ task_text p
task_same p =
    let place = place_text p.key.run.0 p.key.k in
    values_same (string place ∷ number (unsigned p.due) ∷ number (unsigned p.period) ∷ number (unsigned p.kind) ∷ string (encode_lower p.arg) ∷ [])
    ∙ ap₂ (λ (x : List ℕ) (y : List ℕ). array_text (x ∷ decimal p.due ∷ decimal p.period ∷ decimal p.kind ∷ y ∷ [])) (quote_same place) (quote_same (encode_lower p.arg))

module _ {A : Type 0} (told : A → Data) (text : A → List ℕ) (same : (x : A) → compact_text (told x) ≡ text x) where
  laters_same : (xs : List A) → flat_map (later_text told) xs ≡ flat_map (λ later. 44 ∷ later) (map text xs)
  laters_same [] = refl
  laters_same (x ∷ xs) = ap₂ (λ (y : List ℕ) (z : List ℕ). 44 ∷ (y ++ z)) (same x) (laters_same xs)

  -- a list whose items have these texts
  list_same : (xs : List A) → list_text told xs ≡ array_text (map text xs)
  list_same [] = refl
  list_same (x ∷ xs) =
      ap₂ (λ (y : List ℕ) (z : List ℕ). 91 ∷ (y ++ (z ++ 93 ∷ []))) (same x) (laters_same xs)
      ∙ ap (λ (z : List ℕ). 91 ∷ z) (sym (append_assoc (text x) (flat_map (λ later. 44 ∷ later) (map text xs)) (93 ∷ [])))

-- parts joined one after another, and the same from the right
join_parts : (a c b g d l e n h o k t z : List ℕ)
    → (((((((((((a ++ c) ++ b) ++ g) ++ d) ++ l) ++ e) ++ n) ++ h) ++ o) ++ k) ++ t) ++ z ≡ a ++ (c ++ (b ++ (g ++ (d ++ (l ++ (e ++ (n ++ (h ++ (o ++ (k ++ (t ++ z)))))))))))
join_parts a c b g d l e n h o k t z = simp append_assoc

-- six members with commas between them, from the right
spread : (p c q g r l u n v o w t end : List ℕ)
    → in_commas ((p ++ 58 ∷ c) ∷ (q ++ 58 ∷ g) ∷ (r ++ 58 ∷ l) ∷ (u ++ 58 ∷ n) ∷ (v ++ 58 ∷ o) ∷ (w ++ 58 ∷ t) ∷ []) ++ end
    ≡ p ++ 58 ∷ (c ++ 44 ∷ (q ++ 58 ∷ (g ++ 44 ∷ (r ++ 58 ∷ (l ++ 44 ∷ (u ++ 58 ∷ (n ++ 44 ∷ (v ++ 58 ∷ (o ++ 44 ∷ (w ++ 58 ∷ (t ++ end)))))))))))
spread p c q g r l u n v o w t end = simp append_assoc

joined : (c g l n o t : List ℕ)
    → (((((((((((codes "{\"commits\":" ++ c) ++ codes ",\"game\":") ++ g) ++ codes ",\"last_run\":") ++ l) ++ codes ",\"names\":") ++ n) ++ codes ",\"objects\":") ++ o) ++ codes ",\"tasks\":") ++ t) ++ codes "}\n"
    ≡ 123 ∷ (in_commas (
    member_text (codes "commits") c
    ∷ member_text (codes "game") g
    ∷ member_text (codes "last_run") l
    ∷ member_text (codes "names") n
    ∷ member_text (codes "objects") o
    ∷ member_text (codes "tasks") t
    ∷ []) ++ 125 ∷ 10 ∷ [])
joined c g l n o t =
    join_parts (codes "{\"commits\":") c (codes ",\"game\":") g (codes ",\"last_run\":") l (codes ",\"names\":") n (codes ",\"objects\":") o (codes ",\"tasks\":") t (codes "}\n")
    ∙ ap (λ (x : List ℕ). 123 ∷ x) (sym (spread (quote (codes "commits")) c (quote (codes "game")) g (quote (codes "last_run")) l (quote (codes "names")) n (quote (codes "objects")) o (quote (codes "tasks")) t (125 ∷ 10 ∷ [])))

-- one part more
after_part : {a b d x y : List ℕ} → a ≡ b ++ x → b ≡ d → x ≡ y → a ≡ d ++ y
after_part p q e = p ∙ ap₂ (λ (s : List ℕ) (t : List ℕ). s ++ t) q e

-- the parts of the text of a world, written one after another
pub built : (game : List ℕ) (w : Durable) {s0 s1 s2 s3 s4 s5 s6 s7 s8 s9 s10 s11 s12 s13 names objects tasks : List ℕ}
    → s0 ≡ []
    → s1 ≡ s0 ++ codes "{\"commits\":"
    → s2 ≡ s1 ++ decimal w.commits
    → s3 ≡ s2 ++ codes ",\"game\":"
    → s4 ≡ s3 ++ quoted game
    → s5 ≡ s4 ++ codes ",\"last_run\":"
    → s6 ≡ s5 ++ last_text w.last
    → s7 ≡ s6 ++ codes ",\"names\":"
    → s8 ≡ s7 ++ names
    → s9 ≡ s8 ++ codes ",\"objects\":"
    → s10 ≡ s9 ++ objects
    → s11 ≡ s10 ++ codes ",\"tasks\":"
    → s12 ≡ s11 ++ tasks
    → s13 ≡ s12 ++ codes "}\n"
    → names ≡ list_text name_data w.names
    → objects ≡ list_text object_data w.objects
    → tasks ≡ list_text task_data w.tasks
    → s13 ≡ world_text game w
built game w p0 p1 p2 p3 p4 p5 p6 p7 p8 p9 p10 p11 p12 p13 names_are objects_are tasks_are =
    let a = after_part p1 p0 refl in
    let b = after_part p3 (after_part p2 a refl) refl in
    let d = after_part p5 (after_part p4 b (quote_same game)) refl in
    let e = after_part p7 (after_part p6 d refl) refl in
    let h = after_part p9 (after_part p8 e (names_are ∙ list_same name_data name_text name_same w.names)) refl in
    let k = after_part p11 (after_part p10 h (objects_are ∙ list_same object_data object_text object_same w.objects)) refl in
    after_part p13 (after_part p12 k (tasks_are ∙ list_same task_data task_text task_same w.tasks)) refl
    ∙ joined (decimal w.commits) (quote game) (last_text w.last) (array_text (map name_text w.names)) (array_text (map object_text w.objects)) (array_text (map task_text w.tasks))

-- a game's id is text
pub id_text_is : (bytes : List ℕ) → IsGameId bytes → IsUtf8 bytes
id_text_is bytes is = IsUtf8-from_ascii bytes (IsAscii-from_all bytes (All-weaker IsVisible (λ b. b < 128) (λ b v. omega (arith, v.1)) bytes is.visible))
