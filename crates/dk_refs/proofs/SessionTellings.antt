-- What refusals tell of a session's record.
use Rattle.std.proofs.Common.{◌≡◌, ℕ, Bool, true, false, if◌then◌else◌, nat_le, length, Option, Some, None, List, Result, Ok, Err}
use Rattle.std.specs.Result.{IsErrAnd, IfErr}
use Rattle.dk_types.specs.declared.number.ConnNo.{ConnNo}
use Rattle.dk_types.specs.declared.number.ObjectId.{ObjectId}
use Rattle.dk_types.specs.declared.job.Session.{Session}
use Rattle.dk_types.specs.declared.job.Out.{Out}
use Rattle.dk_types.specs.declared.fault.AppFault.{AppFault}
use Rattle.dk_types.specs.declared.fault.AppFault.TheVariants.{Refused}
use Rattle.dk_model.specs.Runs as act
use Rattle.dk_model.specs.Runs.{Run, Act}
use Rattle.dk_model.specs.Records.{SESSION_KIND, session_of, session_name}
use Rattle.dk_model.specs.Platforms.{platform_bound, numbered, session_under, is_connected}
use Rattle.dk_overlay.specs.ReadsAndWrites.{ReadsAndWrites}
use Rattle.dk_txn.specs.declared.refusal.Refusal.{Refusal}
use Rattle.dk_txn.specs.declared.txn.Txn.{Txn}
use Rattle.dk_txn.specs.Refusals.{refusal_fault}
use Rattle.dk_txn.specs.Does.{Does, SameChanges}
use Rattle.dk_refs.specs.Telling.{TellsKind, TellsKindOf, kind_under}
use Rattle.dk_refs.proofs.Tellings.{Avoids, answers, refuses, give_avoids, then_avoids, get_as_avoids, found_as_avoids, kind_found}
use Rattle.dk_refs.specs.Lookups.{recorded}
use Rattle.dk_txn.specs.Sights.{Sights}

pub recorded_avoids : (name : List ℕ) (n : ℕ) → Avoids n (recorded name)
unfolding recorded
recorded_avoids name n s t e = answers (platform_bound s (session_name name)) n s t e

pub under_avoids : (name : List ℕ) → Avoids 4 (session_under name)
under_avoids name s t e = found_as_avoids (platform_bound s (session_name name)) SESSION_KIND session_of s t e

numbered_avoids : (o : Option ObjectId) (conn : ConnNo) → Avoids 4 (numbered o conn)
numbered_avoids None conn s t e = answers false 4 s t e
numbered_avoids (Some id) conn s t e = then_avoids (get_as_avoids SESSION_KIND session_of id) (λ r. give_avoids 4 _) s t e

pub connected_avoids : (session : Session) → Avoids 4 (is_connected session)
unfolding is_connected
connected_avoids session s t e = numbered_avoids (platform_bound s (session_name session.name)) session.conn s t e

-- a message is refused over no kind
pub send_avoids : (to : ConnNo) (message : Out) → Avoids 3 (act.send to message)
unfolding act.send
send_avoids to message s t e = by _ (act.is_too_long (act.body_of message)) (nat_le 65536 (length s.outs)) e
  where
    by : (new : Run) (long full : Bool) → ◌≡◌ {A = Result (Unit {0}) AppFault × Run} (if long then act.refuse 4 s else if full then act.refuse 8 s else (Ok tt, new)) (Err (Refused 3), t) → ⊥
    by new true full e = refuses 4 3 s t (λ e. cc) e
    by new false true e = refuses 8 3 s t (λ e. cc) e
    by new false false e = answers tt 3 new t e

module _ {S : Type 0} {sights : Sights S} where
  -- the record is of another kind
  pub record_kind : {a b c : Txn S ReadsAndWrites} {id : ObjectId} {A B : Type 0} {f : Act A} {e : Refusal} (r : Result B Refusal) (name : List ℕ) → Does sights refusal_fault a b (recorded name) (Ok (Some id))
      → Does sights refusal_fault b c f (Err e) → SameChanges b.set c.set → TellsKind c.set id e → IsErrAnd r (λ h. h ≡ e) → IfErr r (TellsKindOf c.set (kind_under (session_name name)))
  unfolding recorded
  record_kind r name p q same told is = kind_found r (session_name name) p q same told is
