-- A Disconnect has always a place in its queue.
use Rattle.std.proofs.Common.{◌≡◌, ◌&&◌, ℕ, ◌<◌, Bool, true, false, List, [], ◌∷◌, Result, Ok, Err, inl, inr, refl, subst}
use Rattle.std.specs.List.{All}
use Rattle.dk_types.specs.declared.number.ConnNo.{ConnNo}
use Rattle.dk_types.specs.declared.job.Input.TheVariants as input
use Rattle.dk_types.specs.declared.event.Event.{Event}
use Rattle.dk_types.specs.declared.event.Event.TheVariants as event
use Rattle.dk_types.specs.declared.event.PostReply.TheVariants as posted
use Rattle.dk_model.specs.Histories.{Leads}
use Rattle.dk_model.specs.Events.{is_open}
use Rattle.dk_model.specs.Legal.{Opened, opening_of, world_after, pass_of}
use Rattle.dk_laws.proofs.OneWorld.{parted}
use Rattle.dk_connections.specs.declared.answers.PostRefused.{PostRefused}
use Rattle.dk_connections.specs.declared.answers.PostRefused.TheVariants as refused
use Rattle.dk_turn.proofs.Beginnings.{prefix_self}
use Rattle.dk_host.specs.Calls.{Entered, IsSpared, post_events}
use Rattle.dk_pump.specs.Reading.{Disconnects}
use Rattle.dk_pump.proofs.Entering.{enters_one}

and_false : (x : Bool) → (x && false) ≡ true → ⊥
and_false true is = absurd (cc is)
and_false false is = absurd (cc is)

-- no queue is too full for it
module _ (o : Opened) (keeps : Bool) (pass : ℕ) (conn : ConnNo) (graceful : Bool) (old new : List Event) where
  placed : (waiting : ℕ) → Entered o pass (event.Post pass conn (input.Disconnect graceful) (posted.QueueFull waiting) ∷ []) old new → ⊥
  placed waiting e =
      let last = e.legal.history.last in
      let p = parted o.rules (opening_of o) e.before (event.Post pass conn (input.Disconnect graceful) (posted.QueueFull waiting) ∷ []) last (subst (λ es. Leads o.rules (opening_of o) es last) e.front e.legal.history.leads) in
      and_false _ p.second.1.1

  pub disconnected : (count : ℕ) (r : Result (Unit {0}) PostRefused) → Entered o pass (post_events pass conn (input.Disconnect graceful) r) old new → IsSpared keeps (is_open (world_after o new) conn) (input.Disconnect graceful) r
      → All (λ e. pass_of e < count) new → Disconnects o keeps count pass conn graceful old new
  disconnected count (Ok done) e spared named = record { events = _; ends = inl (_, refl, record { reply = posted.Taken; place = tt; is = refl }); enters = enters_one o count pass _ old new e named }
  disconnected count (Err refused.Closed) e spared named = record { events = _; ends = inl (_, refl, record { reply = posted.Closed; place = tt; is = refl }); enters = enters_one o count pass _ old new e named }
  disconnected count (Err (refused.QueueFull waiting)) e spared named = absurd (placed waiting e)
  disconnected count (Err refused.NoMemory) e spared named =
      let why = spared refl in record { events = []; ends = inr (refl, (why.0, record { at = new; seen = prefix_self new; shut = why.1 })); enters = enters_one o count pass [] old new e named }
