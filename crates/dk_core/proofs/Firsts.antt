-- What is opened has no claimed input.
use Rattle.std.proofs.Common.{◌≡◌, sym, ap, ◌∙◌, Bool, true, false, cond, Option, Some, Result, Ok, Err, OnOk}
use Rattle.std.specs.Ordering.{eq_by_cmp}
use Rattle.std.specs.FinMap.{FinMap, get, insert, get-insert, get-empty, empty}
use Rattle.dk_types.specs.declared.number.ConnNo.{ConnNo}
use Rattle.dk_types.specs.Keys.{conn_cmp}
use Rattle.dk_model.specs.Worlds.{Connection}
use Rattle.dk_model.proofs.Maps.{conns_total, some_is, not_both}
use Rattle.dk_connections.specs.MarkedConnections.{MarkedConnection, unclaimed, IsSwept}
use Rattle.dk_core.specs.Firsts.{IsFresh}

marked_in : (b : Bool) (c : Connection) (r : Option MarkedConnection) (l : MarkedConnection) → ((k : MarkedConnection) → r ≡ Some k → k.claimed ≡ false) → cond b (Some (unclaimed c)) r ≡ Some l → l.claimed ≡ false
marked_in true c r l before e = sym (ap (λ (k : MarkedConnection). k.claimed) (some_is (unclaimed c) l e))
marked_in false c r l before e = before l e

pub fresh_none : (all : FinMap conn_cmp MarkedConnection) → all ≡ empty → IsSwept all → IsFresh all
fresh_none all none swept = record {
  unclaimed = λ conn l e. not_both _ l e (ap (λ m. get m conn) none ∙ get-empty conn_cmp conn);
  swept = swept;
}

fresh_with : (old new : FinMap conn_cmp MarkedConnection) (conn : ConnNo) (c : Connection) → new ≡ insert old conn (unclaimed c) → IsSwept new → IsFresh old → IsFresh new
fresh_with old new conn c is swept fresh = record {
  unclaimed = λ q l e. marked_in (eq_by_cmp conn_cmp q conn) c (get old q) l (fresh.unclaimed q) (sym (ap (λ m. get m q) is ∙ get-insert conns_total old conn (unclaimed c) q) ∙ e);
  swept = swept;
}

-- so it is after a call that opens one more
pub fresh_after : {A E : Type 0} (r : Result A E) (old new : FinMap conn_cmp MarkedConnection) (conn : ConnNo) (c : Connection) → OnOk r (new ≡ insert old conn (unclaimed c)) → IsSwept new
    → OnOk r (IsFresh old → IsFresh new)
fresh_after (Ok a) old new conn c is swept = fresh_with old new conn c is swept
fresh_after (Err e) old new conn c is swept = tt
