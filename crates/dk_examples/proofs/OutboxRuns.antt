-- Outboxes that fill, and are cut.
use Rattle.std.proofs.Common.{◌≡◌, ◌+◌, ◌<◌, ◌≤◌, Bool, true, false, ◌&&◌, ◌||◌, if◌then◌else◌, Option, Some, List, [], ◌∷◌, ◌++◌, inl, inr, length, take, refl, sym, ap, ◌∙◌, arith, append_assoc, length-append}
use Rattle.std.specs.List.{list_any}
use Rattle.std.specs.FinMap.{get}
use Rattle.std.proofs.Math.Seq.{take-length}
use Rattle.std.proofs.lemmas.List.{append-nil}
use Rattle.std.proofs.lemmas.Bool.Decides.{leb_tells}
use Rattle.dk_types.specs.declared.number.ConnNo.{ConnNo}
use Rattle.dk_types.specs.declared.job.Out.{Out}
use Rattle.dk_types.specs.declared.job.Input.TheVariants as input
use Rattle.dk_model.specs.declared.waiting.Waiting.{Waiting}
use Rattle.dk_model.specs.declared.waiting.Waiting.TheVariants as waits
use Rattle.dk_model.specs.Worlds.{Connection}
use Rattle.dk_model.specs.Deliveries.{Connections, changed_at, change_connection, with_disconnect, cut_off, is_full, with_out, with_outs, is_close, takes, closed_by, with_closed}
use Rattle.dk_model.specs.Events.{outbox}
use Rattle.dk_model.proofs.Maps.{conns_total, get-with_value_here}
use Rattle.dk_model.proofs.Walks.{closed_more}
use Rattle.dk_examples.specs.OutboxRows.{to_one, IsLive, AsManyWait, OneMoreCuts, OneMoreInTheRunCuts, CutGetsNoMore, HandGivesAll}

or_left : (a b : Bool) → (a || b) ≡ false → a ≡ false
or_left true b h = cc
or_left false b h = refl

or_right : (a b : Bool) → (a || b) ≡ false → b ≡ false
or_right true b h = cc
or_right false b h = h

-- a change of the connection that stands there
set_here : (k : ConnNo) (f : Connection → Connection) (all : Connections) (c : Connection) → get all k ≡ Some c → get (change_connection k f all) k ≡ Some (f c)
set_here k f all c e = ap (λ o. get (changed_at o k f all) k) e ∙ get-with_value_here conns_total all k (Some (f c))

-- fewer than 4,096 leave room
has_room : (c : Connection) → length c.outbox < 4096 → is_full c ≡ false
has_room c lt = elim (leb_tells 4096 (length c.outbox)) [ inl w ↦ absurd (omega (arith, w.1)) | inr w ↦ w.0 ]

has_none : (c : Connection) → length c.outbox ≡ 4096 → is_full c ≡ true
has_none c e = elim (leb_tells 4096 (length c.outbox)) [ inl w ↦ w.0 | inr w ↦ absurd (omega (arith, w.1)) ]

-- what a message does to a connection, by the tests
sent : (m : Out) (c : Connection) (cut over full : Bool) → Connection
sent m c cut over full = if cut || over then c else if full then cut_off c else record c { outbox = c.outbox ++ m ∷ [] }

with_out-sent : (m : Out) (c : Connection) (cut over full : Bool) → c.cut ≡ cut → c.over ≡ over → is_full c ≡ full → with_out m c ≡ sent m c cut over full
unfolding sent
with_out-sent m c cut over full e f g = λ i. if e i || f i then c else if g i then cut_off c else record c { outbox = c.outbox ++ m ∷ [] }

took : (m : Out) (c : Connection) → IsLive c → length c.outbox < 4096 → with_out m c ≡ record c { outbox = c.outbox ++ m ∷ [] }
unfolding sent
took m c live lt = with_out-sent m c false false false live.uncut live.goes_on (has_room c lt)

cuts : (m : Out) (c : Connection) → IsLive c → length c.outbox ≡ 4096 → with_out m c ≡ cut_off c
unfolding sent
cuts m c live e = with_out-sent m c false false true live.uncut live.goes_on (has_none c e)

-- messages wait one after another, while there is room
fill : (ms : List Out) (all : Connections) (conn : ConnNo) (c : Connection) → get all conn ≡ Some c → IsLive c → length c.outbox + length ms ≤ 4096
    → get (with_outs (to_one conn ms) all) conn ≡ Some (record c { outbox = c.outbox ++ ms })
fill [] all conn c e live le = e ∙ ap (λ (o : List Out). Some (record c { outbox = o })) (sym (append-nil c.outbox))
fill (m ∷ ms) all conn c e live le =
    let c1 : Connection = record c { outbox = c.outbox ++ m ∷ [] } in
    let longer : length c1.outbox ≡ length c.outbox + 1 = length-append c.outbox (m ∷ []) in
    fill ms (change_connection conn (with_out m) all) conn c1 (set_here conn (with_out m) all c e ∙ ap Some (took m c live (omega arith)))
    record { uncut = live.uncut; goes_on = live.goes_on } (omega arith)
    ∙ ap (λ (o : List Out). Some (record c { outbox = o })) (append_assoc c.outbox (m ∷ []) ms)

none_closed : (ms : List Out) (all : Connections) (conn : ConnNo) → list_any is_close ms ≡ false → closed_by (to_one conn ms) all ≡ []
none_closed [] all conn h = refl
none_closed (m ∷ ms) all conn h =
    let next = change_connection conn (with_out m) all in
    closed_more (conn, m) (to_one conn ms) all
    ∙ ap (λ b. if b && takes (get all conn) then conn ∷ closed_by (to_one conn ms) next else closed_by (to_one conn ms) next) (or_left (is_close m) (list_any is_close ms) h)
    ∙ none_closed ms next conn (or_right (is_close m) (list_any is_close ms) h)

pub as_many_wait : AsManyWait
as_many_wait all conn c messages e live none many unclosed =
    ap (λ ks. get (with_closed ks (with_outs (to_one conn messages) all)) conn) (none_closed messages all conn unclosed)
    ∙ fill messages all conn c e live (let empty = ap length none in omega (arith, empty))
    ∙ ap (λ (o : List Out). Some (record c { outbox = o ++ messages })) none

-- a full connection takes nothing
full_takes : (o : Option Connection) (c : Connection) → o ≡ Some c → IsLive c → length c.outbox ≡ 4096 → takes o ≡ false
full_takes o c e live many = ap takes e ∙ rw (live.uncut, live.goes_on, has_none c many) refl

one_closed : (b t : Bool) (conn : ConnNo) → t ≡ false → (if b && t then conn ∷ [] else []) ≡ []
one_closed true t conn e = rw e refl
one_closed false t conn e = refl

cut_is : (c : Connection) → c.queue ≡ [] → cut_off c ≡ record c { queue = waits.Input (input.Disconnect false) ∷ []; closed = true; cut = true }
cut_is c e = ap (λ (q : List Waiting). record c { queue = with_disconnect q; closed = true; cut = true }) e

pub one_more_cuts : OneMoreCuts
one_more_cuts all conn c message e live many idle =
    ap (λ ks. get (with_closed ks (change_connection conn (with_out message) all)) conn) (closed_more (conn, message) [] all ∙ one_closed (is_close message) (takes (get all conn)) conn (full_takes (get all conn) c e live many))
    ∙ set_here conn (with_out message) all c e ∙ ap Some (cuts message c live many ∙ cut_is c idle)

cut_takes : (c : Connection) → c.cut ≡ true → takes (Some c) ≡ false
cut_takes c e = rw e refl

cut_stays : (m : Out) (c : Connection) → c.cut ≡ true → with_out m c ≡ c
cut_stays m c e = ap (λ b. if b || c.over then c else if is_full c then cut_off c else record c { outbox = c.outbox ++ m ∷ [] }) e

pub cut_gets_no_more : CutGetsNoMore
cut_gets_no_more all conn c message e cut =
    ap (λ ks. get (with_closed ks (change_connection conn (with_out message) all)) conn) (closed_more (conn, message) [] all ∙ one_closed (is_close message) (takes (get all conn)) conn (ap takes e ∙ cut_takes c cut))
    ∙ set_here conn (with_out message) all c e ∙ ap Some (cut_stays message c cut)

with_outs-append : (xs ys : List (ConnNo × Out)) (all : Connections) → with_outs (xs ++ ys) all ≡ with_outs ys (with_outs xs all)
with_outs-append [] ys all = refl
with_outs-append (x ∷ xs) ys all = with_outs-append xs ys (change_connection x.0 (with_out x.1) all)

to_one-append : (conn : ConnNo) (xs ys : List Out) → to_one conn (xs ++ ys) ≡ to_one conn xs ++ to_one conn ys
to_one-append conn [] ys = refl
to_one-append conn (x ∷ xs) ys = ap (λ (l : List (ConnNo × Out)). (conn, x) ∷ l) (to_one-append conn xs ys)

closed_by-append : (conn : ConnNo) (ms : List Out) (ys : List (ConnNo × Out)) (all : Connections) → list_any is_close ms ≡ false
    → closed_by (to_one conn ms ++ ys) all ≡ closed_by ys (with_outs (to_one conn ms) all)
closed_by-append conn [] ys all h = refl
closed_by-append conn (m ∷ ms) ys all h =
    let next = change_connection conn (with_out m) all in
    let rest = closed_by (to_one conn ms ++ ys) next in
    closed_more (conn, m) (to_one conn ms ++ ys) all
    ∙ ap (λ b. if b && takes (get all conn) then conn ∷ rest else rest) (or_left (is_close m) (list_any is_close ms) h)
    ∙ closed_by-append conn ms ys next (or_right (is_close m) (list_any is_close ms) h)

pub one_more_in_the_run_cuts : OneMoreInTheRunCuts
one_more_in_the_run_cuts all conn c messages message e live none idle many unclosed =
    let c1 : Connection = record c { outbox = messages } in
    let next = with_outs (to_one conn messages) all in
    let filled : get next conn ≡ Some c1 = fill messages all conn c e live (let empty = ap length none in omega (arith, empty)) ∙ ap (λ (o : List Out). Some (record c { outbox = o ++ messages })) none in
    ap (λ outs. get (with_closed (closed_by outs all) (with_outs outs all)) conn) (to_one-append conn messages (message ∷ []))
    ∙ (λ i. get (with_closed (closed_by-append conn messages ((conn, message) ∷ []) all unclosed i) (with_outs-append (to_one conn messages) ((conn, message) ∷ []) all i)) conn)
    ∙ one_more_cuts next conn c1 message filled record { uncut = live.uncut; goes_on = live.goes_on } many idle

pub hand_gives_all : HandGivesAll
hand_gives_all rules w after pass conn outs end many h = h.0 ∙ ap (λ n. take n (outbox w conn)) (sym many) ∙ take-length (outbox w conn)
