-- What a Hand that hands nothing found: a connection with an empty outbox.
use Rattle.std.proofs.Common.{◌≡◌, ℕ, zero, suc, ◌≤◌, Bool, false, List, [], ◌∷◌, ◌++◌, take, Option, Some, None, is_none, refl, sym, ap, subst, ◌∙◌, arith}
use Rattle.std.proofs.lemmas.List.{append-nil, append_cancel_left}
use Rattle.std.specs.FinMap.{get}
use Rattle.dk_types.specs.declared.number.ConnNo.{ConnNo}
use Rattle.dk_types.specs.declared.job.Out.{Out}
use Rattle.dk_types.specs.declared.event.Event.{Event}
use Rattle.dk_types.specs.declared.event.Event.TheVariants as event
use Rattle.dk_model.specs.Worlds.{World, Connection}
use Rattle.dk_model.specs.Events.{Meaning, outbox, outbox_at}
use Rattle.dk_model.specs.Histories.{Leads}
use Rattle.dk_model.specs.Legal.{Opened, opening_of}
use Rattle.dk_model.specs.Messages.{messages, appended_by, handed}
use Rattle.dk_model.specs.Successors.{after_event}
use Rattle.dk_laws.proofs.Handed.{messages_handed}
use Rattle.dk_laws.proofs.OneWorld.{parted, events_lead}
use Rattle.dk_host.specs.Calls.{Entered}
use Rattle.dk_pump.specs.Waiting.{FindsNothing}
use Rattle.dk_pump.proofs.WrittenOn.{handed-append, handed_one}

-- a Hand sends nothing
hand_sends : (rules : Meaning) (w : World) (before : List Event) (pass : ℕ) (to : ConnNo) (most : ℕ) (outs : List Out) (end : Bool) (conn : ConnNo) → messages rules w (before ++ event.Hand pass to most outs end ∷ []) conn ≡ messages rules w before conn
hand_sends rules w [] pass to most outs end conn = refl
hand_sends rules w (e ∷ before) pass to most outs end conn = ap (λ os. appended_by rules w conn e ++ os) (hand_sends rules (after_event rules w e) before pass to most outs end conn)

none_taken : (most : ℕ) (outs : List Out) → 1 ≤ most → [] ≡ take most outs → outs ≡ []
none_taken most [] some is = refl
none_taken zero (x ∷ outs) some is = absurd (omega (arith, some))
none_taken (suc most) (x ∷ outs) some is = absurd (cc is)

there : (found : Option Connection) → false ≡ is_none found → outbox_at found ≡ [] → (c : Connection) × (found ≡ Some c) × (c.outbox ≡ [])
there None is empty = absurd (cc is)
there (Some c) is empty = (c, refl, empty)

pub finds_nothing : (o : Opened) (pass : ℕ) (conn : ConnNo) (most : ℕ) (outs : List Out) (end : Bool) (old new : List Event) → 1 ≤ most → outs ≡ [] → end ≡ false → Entered o pass (event.Hand pass conn most outs end ∷ []) old new → FindsNothing o pass conn old new
finds_nothing o pass conn most outs end old new some none not called =
    let e : Entered o pass (event.Hand pass conn most [] false ∷ []) old new = subst (λ os. Entered o pass (event.Hand pass conn most os false ∷ []) old new) none (subst (λ b. Entered o pass (event.Hand pass conn most outs b ∷ []) old new) not called) in
    let w = opening_of o in
    let hand = event.Hand pass conn most [] false in
    let last = e.legal.history.last in
    let leads : Leads o.rules w (e.before ++ hand ∷ []) last = subst (λ es. Leads o.rules w es last) e.front e.legal.history.leads in
    let p = parted o.rules w e.before (hand ∷ []) last leads in
    let sent = messages_handed o.rules o.durable o.budget e.before p.at p.first conn in
    let sent' = messages_handed o.rules o.durable o.budget (e.before ++ hand ∷ []) last leads conn in
    let same : handed e.before conn ++ outbox last conn ≡ handed e.before conn ++ outbox p.at conn =
    ap (λ os. os ++ outbox last conn) (sym (handed-append e.before (hand ∷ []) conn ∙ ap (λ os. handed e.before conn ++ os) (handed_one pass conn most [] false) ∙ append-nil (handed e.before conn)))
    ∙ sym sent' ∙ hand_sends o.rules w e.before pass conn most [] false conn ∙ sent in
    let is_last : last ≡ p.second.0 = p.second.2 in
    let empty : outbox last conn ≡ [] = append_cancel_left (handed e.before conn) (outbox last conn) (outbox p.at conn) same ∙ none_taken most (outbox p.at conn) some p.second.1.0 in
    let found = there (get last.connections conn) (p.second.1.1 ∙ ap (λ (x : World). is_none (get x.connections conn)) (sym is_last)) empty in
    record {
      before = e.before;
      most = most;
      begins = (e.continues.later, sym e.continues.all);
      seen = ([], append-nil (e.before ++ hand ∷ []) ∙ sym e.front);
      nothing = record { connection = found.0; there = subst (λ (x : World). get x.connections conn ≡ Some found.0) (events_lead o.rules w (e.before ++ hand ∷ []) last leads) found.1; empty = found.2 };
    }
