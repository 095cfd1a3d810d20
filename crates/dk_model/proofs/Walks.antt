-- The walk over the messages of a commit, by one message.
use Rattle.std.proofs.Common.{◌≡◌, Bool, true, false, cond, ◌&&◌, if◌then◌else◌, map, filter, List, ◌∷◌, refl}
use Rattle.std.specs.FinMap.{get}
use Rattle.dk_types.specs.declared.number.ConnNo.{ConnNo}
use Rattle.dk_types.specs.declared.job.Out.{Out}
use Rattle.dk_model.specs.Deliveries.{Connections, change_connection, with_out, takes, sent, is_close, closed_by}
use Rattle.dk_model.specs.Messages.{same_conn, appended}

-- what is read of those that pass a test, where one more may be among them
read_more : {A B : Type 0} (f : A → B) (p : A → Bool) (x : A) (xs : List A) (is : Bool)
    → map f (filter p (if is then x ∷ xs else xs)) ≡ (if p x && is then f x ∷ map f (filter p xs) else map f (filter p xs))
read_more f p x xs true = elim (p x) as (λ b. map f (cond b (x ∷ filter p xs) (filter p xs)) ≡ (if b && true then f x ∷ map f (filter p xs) else map f (filter p xs))) [ true ↦ refl | false ↦ refl ]
read_more f p x xs false = elim (p x) as (λ b. map f (filter p xs) ≡ (if b && false then f x ∷ map f (filter p xs) else map f (filter p xs))) [ true ↦ refl | false ↦ refl ]

-- a Close that is appended, and those behind it
pub closed_more : (o : ConnNo × Out) (outs : List (ConnNo × Out)) (all : Connections)
    → (let later = closed_by outs (change_connection o.0 (with_out o.1) all) in closed_by (o ∷ outs) all ≡ (if is_close o.1 && takes (get all o.0) then o.0 ∷ later else later))
closed_more o outs all = read_more (λ (x : ConnNo × Out). x.0) (λ x. is_close x.1) o (sent outs (change_connection o.0 (with_out o.1) all)).appended (takes (get all o.0))

-- a message that is appended to this outbox, and those behind it
pub appended_more : (conn : ConnNo) (o : ConnNo × Out) (outs : List (ConnNo × Out)) (all : Connections)
    → (let later = appended conn outs (change_connection o.0 (with_out o.1) all) in appended conn (o ∷ outs) all ≡ (if same_conn o.0 conn && takes (get all o.0) then o.1 ∷ later else later))
appended_more conn o outs all = read_more (λ (x : ConnNo × Out). x.1) (λ x. same_conn x.0 conn) o (sent outs (change_connection o.0 (with_out o.1) all)).appended (takes (get all o.0))
