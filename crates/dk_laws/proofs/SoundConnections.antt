-- What events do to connections leaves them sound.
use Rattle.std.proofs.Common.{◌≡◌, ℕ, ◌<◌, Bool, true, false, cond, ◌||◌, not, if◌then◌else◌, drop, All, Option, Some, None, List, [], ◌∷◌, ◌++◌, refl, sym, subst, ◌∙◌, inl, inr}
use Rattle.std.specs.FinMap.{get, insert}
use Rattle.std.specs.List.{AllByRecursion, list_any}
use Rattle.std.proofs.lemmas.List.Elements.{All-nil, All-head, All-tail, All-push}
use Rattle.dk_types.specs.declared.number.ConnNo.{ConnNo}
use Rattle.dk_types.specs.declared.job.Job.{Job}
use Rattle.dk_types.specs.declared.job.Out.{Out}
use Rattle.dk_types.specs.declared.job.Input.TheVariants as input
use Rattle.dk_types.specs.declared.limits.TheConstants.{NUMBERS_END}
use Rattle.dk_types.specs.Names.{IsName}
use Rattle.dk_model.specs.declared.waiting.Waiting.{Waiting}
use Rattle.dk_model.specs.declared.waiting.Waiting.TheVariants as waits
use Rattle.dk_model.specs.Worlds.{Connection, new_connection}
use Rattle.dk_model.specs.Deliveries.{Connections, changed_at, change_connection, conn_of, for_conn, input_left, is_disconnect, with_disconnect, cut_off, is_full, with_out, with_outs, closed_by, close_off, with_closed, ended_by, delivered, is_done, without_done}
use Rattle.dk_model.specs.Events.{put_last}
use Rattle.dk_model.specs.Lawful.{HasShortBody, HaveShortBodies}
use Rattle.dk_model.proofs.Maps.{conns_total, exact_conns, get-insert_cases}
use Rattle.dk_laws.proofs.NumberedMaps.{get-without_done}
use Rattle.dk_laws.proofs.Sound.{IsWaiting, IsSoundConnection, AreSound}

pub all_append : {A : Type 0} (P : A → Type 0) (xs ys : List A) → AllByRecursion P xs → AllByRecursion P ys → AllByRecursion P (xs ++ ys)
all_append P [] ys p q = q
all_append P (x ∷ xs) ys p q = (p.0, all_append P xs ys p.1 q)

-- a sound connection put under its number
pub insert_sound : (all : Connections) (conn : ConnNo) (c : Connection) → AreSound all → IsSoundConnection conn c → AreSound (insert all conn c)
insert_sound all conn c sound is q x e = elim (get-insert_cases conns_total exact_conns all conn c q x e) [
  | inl p ↦ subst (λ (k : ConnNo). IsSoundConnection k x) (sym p.0) (subst (IsSoundConnection conn) p.1 is)
  | inr there ↦ sound q x there
]

changed_sound : (o : Option Connection) (conn : ConnNo) (change : Connection → Connection) (all : Connections) → get all conn ≡ o → AreSound all → ((c : Connection) → IsSoundConnection conn c → IsSoundConnection conn (change c))
    → AreSound (changed_at o conn change all)
changed_sound None conn change all e sound h = sound
changed_sound (Some c) conn change all e sound h = insert_sound all conn (change c) sound (h c (sound conn c e))

pub change_sound : (conn : ConnNo) (change : Connection → Connection) (all : Connections) → AreSound all → ((c : Connection) → IsSoundConnection conn c → IsSoundConnection conn (change c)) → AreSound (change_connection conn change all)
change_sound conn change all sound h = changed_sound (get all conn) conn change all refl sound h

pub for_conn_sound : (o : Option ConnNo) (change : Connection → Connection) (all : Connections) → AreSound all → ((conn : ConnNo) (c : Connection) → IsSoundConnection conn c → IsSoundConnection conn (change c)) → AreSound (for_conn o change all)
for_conn_sound None change all sound h = sound
for_conn_sound (Some conn) change all sound h = change_sound conn change all sound (h conn)

-- the same name, queue and outbox
pub same_sound : {conn : ConnNo} {c : Connection} (changed : Connection) → changed.name ≡ c.name → changed.queue ≡ c.queue → changed.outbox ≡ c.outbox → IsSoundConnection conn c → IsSoundConnection conn changed
same_sound changed n q b s =
    record { number = s.number; name = subst IsName (sym n) s.name; queue = subst (AllByRecursion IsWaiting) (sym q) s.queue; outbox = subst (All HasShortBody) (sym b) s.outbox }

-- another queue
pub queue_sound : {conn : ConnNo} {c : Connection} (changed : Connection) → changed.name ≡ c.name → AllByRecursion IsWaiting changed.queue → changed.outbox ≡ c.outbox → IsSoundConnection conn c → IsSoundConnection conn changed
queue_sound changed n q b s = record { number = s.number; name = subst IsName (sym n) s.name; queue = q; outbox = subst (All HasShortBody) (sym b) s.outbox }

-- another outbox
pub outbox_sound : {conn : ConnNo} {c : Connection} (changed : Connection) → changed.name ≡ c.name → changed.queue ≡ c.queue → All HasShortBody changed.outbox → IsSoundConnection conn c → IsSoundConnection conn changed
outbox_sound changed n q b s = record { number = s.number; name = subst IsName (sym n) s.name; queue = subst (AllByRecursion IsWaiting) (sym q) s.queue; outbox = b }

rest_waits : (queue : List Waiting) → AllByRecursion IsWaiting queue → AllByRecursion IsWaiting (drop 1 queue)
rest_waits [] h = tt
rest_waits (x ∷ queue) h = h.1

end_waits : (queue : List Waiting) → AllByRecursion IsWaiting queue → AllByRecursion IsWaiting (with_disconnect queue)
end_waits queue h = elim (list_any is_disconnect queue) as (λ b. AllByRecursion IsWaiting (if b then queue else queue ++ waits.Input (input.Disconnect false) ∷ [])) [
  | true ↦ h
  | false ↦ all_append IsWaiting queue (waits.Input (input.Disconnect false) ∷ []) h (tt, tt)
]

left_sound : (conn : ConnNo) (c : Connection) → IsSoundConnection conn c → IsSoundConnection conn (input_left c)
left_sound conn c s = queue_sound (input_left c) refl (rest_waits c.queue s.queue) refl s

one_of_three : (P : Connection → Type 0) (a b : Bool) (x y z : Connection) → P x → P y → P z → P (if a then x else if b then y else z)
one_of_three P true b x y z p q r = p
one_of_three P false true x y z p q r = q
one_of_three P false false x y z p q r = r

out_sound : (message : Out) → HasShortBody message → (conn : ConnNo) (c : Connection) → IsSoundConnection conn c → IsSoundConnection conn (with_out message c)
out_sound message short conn c s =
    one_of_three (IsSoundConnection conn) (c.cut || c.over) (is_full c) c (cut_off c) (record c { outbox = c.outbox ++ message ∷ [] }) s (queue_sound (cut_off c) refl (end_waits c.queue s.queue) refl s)
    (outbox_sound (record c { outbox = c.outbox ++ message ∷ [] }) refl refl (All-push HasShortBody c.outbox message s.outbox short) s)

outs_sound : (outs : List (ConnNo × Out)) (all : Connections) → HaveShortBodies outs → AreSound all → AreSound (with_outs outs all)
outs_sound [] all short sound = sound
outs_sound (o ∷ outs) all short sound =
    outs_sound outs (change_connection o.0 (with_out o.1) all) (All-tail (λ o. HasShortBody o.1) o outs short) (change_sound o.0 (with_out o.1) all sound (out_sound o.1 (All-head (λ o. HasShortBody o.1) o outs short) o.0))

closed_sound : (conns : List ConnNo) (all : Connections) → AreSound all → AreSound (with_closed conns all)
closed_sound [] all sound = sound
closed_sound (conn ∷ conns) all sound = closed_sound conns (change_connection conn close_off all) (change_sound conn close_off all sound (λ c s. queue_sound (close_off c) refl tt refl s))

-- all that a commit does
pub delivered_sound : (j : Job) (outs : List (ConnNo × Out)) (all : Connections) → HaveShortBodies outs → AreSound all → AreSound (delivered j outs all)
delivered_sound j outs all short sound =
    let left = for_conn (conn_of j) input_left all in
    let first = for_conn_sound (conn_of j) input_left all sound left_sound in
    for_conn_sound (ended_by j) (λ c. record c { over = true }) (with_closed (closed_by outs left) (with_outs outs left)) (closed_sound (closed_by outs left) (with_outs outs left) (outs_sound outs left short first))
    (λ conn c s. same_sound (record c { over = true }) refl refl refl s)

there_still : (b : Bool) (o : Option Connection) (c : Connection) → cond b o None ≡ Some c → o ≡ Some c
there_still true o c e = e
there_still false o c e = cc

-- connections that are done go
pub swept_sound : (all : Connections) → AreSound all → AreSound (without_done all)
swept_sound all sound conn c e = sound conn c (there_still (not (is_done (get all conn))) (get all conn) c (sym (get-without_done all conn) ∙ e))

-- an input is put last
pub put_sound : (x : Waiting) → IsWaiting x → (conn : ConnNo) (c : Connection) → IsSoundConnection conn c → IsSoundConnection conn (put_last x c)
put_sound x is conn c s = queue_sound (put_last x c) refl (all_append IsWaiting c.queue (x ∷ []) s.queue (is, tt)) refl s

-- a new connection
pub new_sound : (name : List ℕ) (turn : ℕ) (conn : ConnNo) → conn.0 < NUMBERS_END → IsName name → IsSoundConnection conn (new_connection name turn)
new_sound name turn conn number is = record { number = number; name = is; queue = (tt, tt); outbox = All-nil HasShortBody }
