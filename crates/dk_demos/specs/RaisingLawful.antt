-- What games do with a counter is lawful.
use Rattle.std.proofs.Common.{ℕ, List, lit<}
use Rattle.dk_types.specs.Names.{IsName}
use Rattle.dk_model.proofs.Acts.{Anything, IsLawful, lawful_then, lawful_done}
use Rattle.dk_model.proofs.Operations.{lawful_create, lawful_bind, lawful_bound}
use Rattle.dk_model.proofs.ReferenceActs.{lawful_get_for_update_as, lawful_save_as}
use Rattle.dk_model.proofs.Bytes.{bytes_of_u64}
use Rattle.dk_demos.specs.Counting.{COUNTER, counter_bytes, counter_of, raised}
use Rattle.dk_demos.specs.Raising.{make_under, raise_under}

-- `make_under` needs a name
pub lawful_make_under : {Needs : Type 0} (name : List ℕ) → (Needs → IsName name) → IsLawful Needs Anything (make_under name)
unfolding make_under
lawful_make_under name why =
    lawful_then (lawful_create COUNTER (counter_bytes (record { count = 0 })) (λ _. (lit< tt, bytes_of_u64 0))) (λ id. lawful_bind name id (λ n. (why n.0, n.1)))

-- `raise_under` needs nothing
pub lawful_raise_under : {Needs : Type 0} (name : List ℕ) → IsLawful Needs Anything (raise_under name)
unfolding raise_under
lawful_raise_under name =
    lawful_then (lawful_bound name) (λ id.
    lawful_then (lawful_get_for_update_as {Has = Anything} COUNTER counter_of id (λ bytes counter are is. tt)) (λ counter.
    lawful_then (lawful_save_as COUNTER id (counter_bytes (raised counter)) (λ _. bytes_of_u64 (raised counter).count)) (λ _.
    lawful_done (raised counter))))
