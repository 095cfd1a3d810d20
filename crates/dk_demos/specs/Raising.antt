-- What games do with a counter under a name.
use Rattle.std.specs.Prelude.{List, ℕ, Ok}
use Rattle.dk_model.specs.Runs.{Act, give, and_then, create, bind, bound}
use Rattle.dk_model.specs.References.{get_for_update_as, save_as}
use Rattle.dk_demos.specs.declared.counter.Counter.{Counter}
use Rattle.dk_demos.specs.Counting.{COUNTER, counter_bytes, counter_of, raised}

-- a counter at 0, under the name
unfoldable pub make_under : List ℕ → Act (Unit {0})
make_under name = and_then (create COUNTER (counter_bytes (record { count = 0 }))) (λ id. bind name id)

-- the counter under the name is raised by one; the answer is the counter as it is then
unfoldable pub raise_under : List ℕ → Act Counter
raise_under name =
    and_then (bound name) (λ id.
    and_then (get_for_update_as COUNTER counter_of id) (λ counter.
    and_then (save_as COUNTER id (counter_bytes (raised counter))) (λ _.
    give (Ok (raised counter)))))
