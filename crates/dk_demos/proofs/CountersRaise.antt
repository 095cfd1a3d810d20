-- A task of the counters, run alone: it is gone, and its counter is raised by one.
use Rattle.std.proofs.Common.{◌≡◌, ℕ, ◌<◌, false, cond, Some, None, List, [], ◌∷◌, Ok, refl, ap, ◌∙◌, arith}
use Rattle.std.specs.FinMap.{get}
use Rattle.std.proofs.lemmas.Bool.{lt-ltb, le-ltb}
use Rattle.dk_types.specs.Fields.{IsU64}
use Rattle.dk_types.specs.declared.number.ObjectId.{ObjectId}
use Rattle.dk_types.specs.declared.limits.TheConstants.{BODY_MOST_BYTES}
use Rattle.dk_wire.proofs.LengthLaws.{length-u64}
use Rattle.dk_refs.specs.Managing.{reads_again}
use Rattle.dk_model.specs.References.{get_as, get_for_update_as, save_as}
use Rattle.dk_model.specs.Runs as run
use Rattle.dk_model.specs.Runs.{Run, give, and_then, is_game, is_too_long, bound, mark, save, with_object}
use Rattle.dk_model.proofs.Maps.{ids_total, get-with_value_here}
use Rattle.dk_demos.specs.declared.counter.Counter.{Counter}
use Rattle.dk_demos.specs.Counting.{COUNTER, IsCounter, counter_bytes, next_counter, counter_of, raised}
use Rattle.dk_demos.specs.CounterLaws.{each_counter_exact}
use Rattle.dk_demos.specs.Raising.{raise_under}
use Rattle.dk_demos.specs.CountersRules.{counter_name, raise_at, raise}
use Rattle.dk_demos.proofs.CountersBegin.{counter_object, and_false, then_ok}

-- what was read of a counter's bytes
pub counter_again : (count : ℕ) → IsU64 count → counter_of (counter_bytes (record { count = count })) ≡ Some (record { count = count })
unfolding counter_of
counter_again count fits = reads_again IsCounter counter_bytes next_counter (each_counter_exact None) (counter_bytes (record { count = count })) (record { count = count }) (record { count = fits }) refl

short : (count : ℕ) → is_too_long (counter_bytes (record { count = count })) ≡ false
short count = le-ltb BODY_MOST_BYTES _ (omega (arith, length-u64 count))

-- the run once the counter under this id was written as it was, and then raised
abbrev pub with_raised : ObjectId → ℕ → Run → Run
with_raised id count s = with_object (with_object s id (Some (counter_object count))) id (Some (record { kind = COUNTER; bytes = counter_bytes (raised (record { count = count })) }))

module _ (id : ObjectId) (count : ℕ) (fits : IsU64 count) (s : Run) where
  abbrev marked : Run
  marked = with_object s id (Some (counter_object count))

  got_as : (t : Run) → get t.world.objects id ≡ Some (counter_object count) → get_as COUNTER counter_of id t ≡ (Ok (record { count = count }), t)
  unfolding get_as run.get and_then
  got_as t there = rw (there, counter_again count fits) refl

  marks : get s.world.objects id ≡ Some (counter_object count) → mark id s ≡ (Ok tt, marked)
  unfolding mark
  marks there = rw (there, and_false (is_game s.mode)) refl

  got_marked : get marked.world.objects id ≡ Some (counter_object count)
  got_marked = get-with_value_here ids_total s.world.objects id (Some (counter_object count))

  updates : get s.world.objects id ≡ Some (counter_object count) → get_for_update_as COUNTER counter_of id s ≡ (Ok (record { count = count }), marked)
  unfolding get_for_update_as give
  updates there =
      then_ok (get_as COUNTER counter_of id) (λ x. and_then (mark id) (λ _. give (Ok x))) s s (record { count = count }) (got_as s there)
      ∙ then_ok (mark id) (λ _. give (Ok (record { count = count }))) s marked tt (marks there)

  saves : save_as COUNTER id (counter_bytes (raised (record { count = count }))) marked ≡ (Ok tt, with_raised id count s)
  unfolding save_as run.get save and_then
  saves = rw (got_marked, short (raised (record { count = count })).count, got_marked, and_false (is_game s.mode)) refl

-- the counter under a name is raised
raises_under : (name : List ℕ) (id : ObjectId) (count : ℕ) (s : Run) → IsU64 count → get s.world.names name ≡ Some id → get s.world.objects id ≡ Some (counter_object count)
    → raise_under name s ≡ (Ok (raised (record { count = count })), with_raised id count s)
unfolding raise_under bound give
raises_under name id count s fits named there =
    let counter : Counter = record { count = count } in
    let finds : bound name s ≡ (Ok id, s) = rw named refl in
    then_ok (bound name) (λ id. and_then (get_for_update_as COUNTER counter_of id) (λ counter. and_then (save_as COUNTER id (counter_bytes (raised counter))) (λ _. give (Ok (raised counter))))) s s id finds
    ∙ then_ok (get_for_update_as COUNTER counter_of id) (λ counter. and_then (save_as COUNTER id (counter_bytes (raised counter))) (λ _. give (Ok (raised counter)))) s (marked id count fits s) counter (updates id count fits s there)
    ∙ then_ok (save_as COUNTER id (counter_bytes (raised counter))) (λ _. give (Ok (raised counter))) (marked id count fits s) (with_raised id count s) tt (saves id count fits s)

-- the counter whose number an argument has is raised
pub raises : (number : ℕ) (id : ObjectId) (count : ℕ) (s : Run) → number < 16 → IsU64 count → get s.world.names (counter_name number) ≡ Some id → get s.world.objects id ≡ Some (counter_object count)
    → raise (number ∷ []) s ≡ (Ok tt, with_raised id count s)
unfolding raise_at give
raises number id count s lt fits named there =
    ap (λ b. cond b (raise_at number) (give (Ok tt)) s) (lt-ltb number 16 lt)
    ∙ then_ok (raise_under (counter_name number)) (λ _. give (Ok tt)) s (with_raised id count s) (raised (record { count = count })) (raises_under (counter_name number) id count s fits named there)
