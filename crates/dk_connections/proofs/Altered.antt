-- What a call leaves that changes a connection where it stands, by the clauses of `alter`.
use Rattle.std.proofs.Common.{◌≡◌, ap, ◌∙◌, Option, None, Some}
use Rattle.std.specs.FinMap.{FinMap, insert}
use Rattle.dk_types.specs.declared.number.ConnNo.{ConnNo}
use Rattle.dk_model.specs.Keys.{conn_cmp}
use Rattle.dk_connections.specs.Altered.{IsAltered}
use Rattle.dk_connections.specs.MarkedConnections.{MarkedConnection, change, changed_at}

-- where the change is a function of the connection
pub altered_by : {A : Type 0} (k : ConnNo) (P : MarkedConnection → MarkedConnection → A → Type 0) (old new : FinMap conn_cmp MarkedConnection) (f : MarkedConnection → MarkedConnection) → ((l x : MarkedConnection) (a : A) → P l x a → x ≡ f l)
    → (r : Option A) → IsAltered k P old new r → new ≡ change k f old
altered_by k P old new f is (Some a) h = h.4 ∙ ap (insert old k) (is h.0 h.1 a h.3) ∙ ap (λ r. changed_at r k f old) h.2
altered_by k P old new f is None h = h.1 ∙ ap (λ r. changed_at r k f old) h.0
