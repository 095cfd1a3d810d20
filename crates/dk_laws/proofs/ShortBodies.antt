-- What is handed and what waits has bodies within their limit.
use Rattle.std.proofs.Common.{◌≡◌, All, true, false, if◌then◌else◌, Some, None, List, [], ◌∷◌, refl, sym, subst}
use Rattle.std.specs.List.{AllByRecursion}
use Rattle.std.specs.FinMap.{get}
use Rattle.std.proofs.lemmas.List.Elements.{All-nil, All-append, All-take}
use Rattle.dk_types.specs.declared.number.ConnNo.{ConnNo}
use Rattle.dk_types.specs.declared.event.Event.{Event}
use Rattle.dk_types.specs.declared.event.Event.TheVariants as event
use Rattle.dk_model.specs.Worlds.{World}
use Rattle.dk_model.specs.Events.{Meaning, Happens, outbox_at, outbox}
use Rattle.dk_model.specs.Histories.{Leads}
use Rattle.dk_model.specs.Openings.{opening}
use Rattle.dk_model.specs.Messages.{same_conn, handed_by, handed}
use Rattle.dk_model.specs.Lawful.{HasShortBody, AreLawful, IsWithinLimits}
use Rattle.dk_laws.specs.MessagesLaw.{BodiesAreShort}
use Rattle.dk_laws.proofs.Sound.{IsSound}
use Rattle.dk_laws.proofs.SoundEvents.{happens_sound}
use Rattle.dk_laws.proofs.SoundOpenings.{opening_sound}
use Rattle.dk_laws.proofs.SoundHistories.{history_sound}

waiting_short : (w : World) → IsSound w → (conn : ConnNo) → All HasShortBody (outbox w conn)
waiting_short w s conn = elim (get w.connections conn) as (λ o. get w.connections conn ≡ o → All HasShortBody (outbox_at o)) [
  | None ↦ λ _. All-nil HasShortBody
  | Some c ↦ λ e. (s.connections conn c e).outbox
] refl

-- what an event hands
handed_short : (rules : Meaning) (w : World) (e : Event) (after : World) → IsSound w → Happens rules w e after → (conn : ConnNo) → All HasShortBody (handed_by conn e)
handed_short rules w (event.Hand pass to most outs end) after s h conn = elim (same_conn to conn) as (λ b. All HasShortBody (if b then outs else [])) [
  | true ↦ subst (All HasShortBody) (sym h.0) (All-take HasShortBody most (outbox w to) (waiting_short w s to))
  | false ↦ All-nil HasShortBody
]
handed_short rules w (event.Connect pass name reply) after s h conn = All-nil HasShortBody
handed_short rules w (event.Post pass to input reply) after s h conn = All-nil HasShortBody
handed_short rules w (event.Claim pass reply) after s h conn = All-nil HasShortBody
handed_short rules w (event.Release pass run) after s h conn = All-nil HasShortBody
handed_short rules w (event.Commit pass run seq outcome) after s h conn = All-nil HasShortBody
handed_short rules w (event.Tick pass moment) after s h conn = All-nil HasShortBody

-- what events hand
all_handed_short : (rules : Meaning) → AreLawful rules → (w : World) (events : List Event) (after : World) → IsSound w → AllByRecursion IsWithinLimits events → Leads rules w events after → (conn : ConnNo) → All HasShortBody (handed events conn)
all_handed_short rules lawful w [] after s is h conn = All-nil HasShortBody
all_handed_short rules lawful w (e ∷ events) after s is h conn =
    let rest = all_handed_short rules lawful h.0 events after (happens_sound rules lawful w e h.0 s is.0 h.1) is.1 h.2 conn in
    All-append HasShortBody (handed_by conn e) (handed events conn) (handed_short rules w e h.0 s h.1 conn) rest

pub bodies_short : BodiesAreShort
bodies_short rules d budget events w lawful v within h conn = (
  all_handed_short rules lawful (opening d budget) events w (opening_sound d budget v) within h conn,
  waiting_short w (history_sound rules d budget events w lawful v within h) conn,
)
