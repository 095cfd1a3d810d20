-- Messages put into outboxes one after another, and connections closed one after another.
use Rattle.std.proofs.Common.{◌≡◌, refl, sym, ap, subst, ◌∙◌, Bool, true, false, ◌&&◌, if◌then◌else◌, List, [], ◌∷◌, ◌++◌, append_assoc}
use Rattle.std.specs.FinMap.{FinMap, get}
use Rattle.dk_types.specs.declared.number.ConnNo.{ConnNo}
use Rattle.dk_types.specs.declared.job.Out.{Out}
use Rattle.dk_model.specs.Keys.{conn_cmp}
use Rattle.dk_model.specs.Deliveries.{change_connection, close_off, closed_by, is_close, takes, with_closed, with_out, with_outs, without_done}
use Rattle.dk_model.proofs.Walks.{closed_more}
use Rattle.dk_connections.specs.MarkedConnections.{MarkedConnection, all_of, change, left, linked, IsAlive, KeepsMarks}
use Rattle.dk_connections.proofs.Changes.{all_of-change, all_of-left, swept_alive}
use Rattle.dk_connections.proofs.Closings.{without-closed}
use Rattle.dk_connections.proofs.Marks.{keeps_change, keeps_left, marks_then}

-- some of the messages are in their outboxes, and the rest are to come
pub record Sending (before now : FinMap conn_cmp MarkedConnection) (outs rest : List (ConnNo × Out)) (shut : List ConnNo) : Type 0 where
  pub world : with_outs rest (all_of now) ≡ with_outs outs (all_of before)
  pub closed : shut ++ closed_by rest (all_of now) ≡ closed_by outs (all_of before)
  pub marks : KeepsMarks before now
  pub alive : IsAlive now

-- a connection that was closed comes next
closed_next : (a b : Bool) (closed later : List ConnNo) (conn : ConnNo)
    → (if a && b then closed ++ conn ∷ [] else closed) ++ later ≡ closed ++ (if b && a then conn ∷ later else later)
closed_next true true closed later conn = append_assoc closed (conn ∷ []) later
closed_next true false closed later conn = refl
closed_next false true closed later conn = refl
closed_next false false closed later conn = refl

-- one message more
pub sending_next : (before now after : FinMap conn_cmp MarkedConnection) (outs rest : List (ConnNo × Out)) (closed : List ConnNo) (o : ConnNo × Out) (took : Bool)
    → Sending before now outs (o ∷ rest) closed → after ≡ change o.0 (linked (with_out o.1)) now → took ≡ takes (get (all_of now) o.0) → IsAlive after
    → Sending before after outs rest (if took && is_close o.1 then closed ++ o.0 ∷ [] else closed)
sending_next before now after outs rest closed o took s e t a =
    let sent : all_of after ≡ change_connection o.0 (with_out o.1) (all_of now) = ap all_of e ∙ all_of-change now o.0 (linked (with_out o.1)) (with_out o.1) (λ l. refl) in
    record {
      world = ap (with_outs rest) sent ∙ s.world;
      closed =
          (λ i. (if t i && is_close o.1 then closed ++ o.0 ∷ [] else closed) ++ closed_by rest (sent i))
          ∙ closed_next (takes (get (all_of now) o.0)) (is_close o.1) closed (closed_by rest (change_connection o.0 (with_out o.1) (all_of now))) o.0
          ∙ ap (λ cs. closed ++ cs) (sym (closed_more o rest (all_of now)))
          ∙ s.closed;
      marks = marks_then _ before now after s.marks (subst (KeepsMarks now) (sym e) (keeps_change now o.0 (linked (with_out o.1)) (λ l. refl)));
      alive = a;
    }

-- the same by the parts of its letter
pub sending_step : (before now after : FinMap conn_cmp MarkedConnection) (outs rest items : List (ConnNo × Out)) (shut : List ConnNo) (letter : ConnNo × Out) (conn : ConnNo) (ready : Out) (closes took : Bool)
    → conn ≡ letter.0 → ready ≡ letter.1 → closes ≡ is_close letter.1 → items ≡ letter ∷ rest → Sending before now outs items shut → after ≡ change conn (linked (with_out ready)) now
    → took ≡ takes (get (all_of now) conn) → IsAlive after → Sending before after outs rest (if took && closes then shut ++ conn ∷ [] else shut)
sending_step before now after outs rest items shut letter conn ready closes took p q r steps s e t a =
    subst (Sending before after outs rest) (λ i. if took && sym r i then shut ++ sym p i ∷ [] else shut)
    (sending_next before now after outs rest shut letter took (subst (λ xs. Sending before now outs xs shut) steps s) (e ∙ (λ i. change (p i) (linked (with_out (q i))) now))
    (t ∙ ap (λ k. takes (get (all_of now) k)) p) a)

-- some of the connections are closed off, and the rest are to come
pub record Closing (before now : FinMap conn_cmp MarkedConnection) (conns rest : List ConnNo) : Type 0 where
  pub world : without_done (with_closed rest (all_of now)) ≡ without_done (with_closed conns (all_of before))
  pub marks : KeepsMarks before now
  pub alive : IsAlive now

-- one more
pub closing_next : (before now after : FinMap conn_cmp MarkedConnection) (conns rest : List ConnNo) (k : ConnNo)
    → Closing before now conns (k ∷ rest) → after ≡ left (change k (linked close_off) now) → IsAlive after → Closing before after conns rest
closing_next before now after conns rest k s e a =
    let closed : all_of after ≡ without_done (change_connection k close_off (all_of now)) =
    ap all_of e ∙ all_of-left (change k (linked close_off) now) ∙ ap without_done (all_of-change now k (linked close_off) close_off (λ l. refl))
    in
    record {
      world = ap (λ m. without_done (with_closed rest m)) closed ∙ without-closed rest (change_connection k close_off (all_of now)) ∙ s.world;
      marks =
          marks_then _ before now after s.marks (subst (KeepsMarks now) (sym e)
          (marks_then _ now (change k (linked close_off) now) (left (change k (linked close_off) now)) (keeps_change now k (linked close_off) (λ l. refl)) (keeps_left (change k (linked close_off) now))));
      alive = a;
    }

-- none is to come
pub closing_ends : (before now : FinMap conn_cmp MarkedConnection) (conns rest : List ConnNo) → Closing before now conns rest → rest ≡ [] → all_of now ≡ without_done (with_closed conns (all_of before))
closing_ends before now conns rest s e = sym (swept_alive now s.alive) ∙ ap (λ cs. without_done (with_closed cs (all_of now))) (sym e) ∙ s.world
