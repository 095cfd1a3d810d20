-- What stays the same while no commit comes, and what commits add.
use Rattle.std.proofs.Common.{◌≡◌, ℕ, ◌+◌, true, false, cond, zero, suc, None, List, [], ◌∷◌, ◌++◌, refl, sym, ap, ◌∙◌, arith}
use Rattle.std.specs.List.{AllByRecursion}
use Rattle.std.proofs.lemmas.List.Sums.{sum_by-append}
use Rattle.dk_types.specs.declared.item.Item.{Item}
use Rattle.dk_types.specs.declared.item.Read.{Read}
use Rattle.dk_types.specs.declared.event.Event.{Event}
use Rattle.dk_types.specs.declared.event.Event.TheVariants as event
use Rattle.dk_model.specs.Worlds.{World}
use Rattle.dk_model.specs.Events.{Meaning, Happens}
use Rattle.dk_model.specs.Histories.{Leads}
use Rattle.dk_model.specs.Lawful.{AreLawful}
use Rattle.dk_model.specs.Legal.{opening_of, is_commit, commits_of}
use Rattle.dk_model.specs.Openings.{opening}
use Rattle.dk_model.specs.Sights.{stamped_by, stamp_from, stamp, seen, seen_in}
use Rattle.dk_model.specs.Successors.{after_event, after_events, step_by}
use Rattle.dk_model.proofs.StepLaws.{step_goes_on}
use Rattle.dk_laws.specs.FrontsLaw.{CommitsAreCounted, IsReadAlike, CommitsAloneChange, StandAt, ValidRunsStayValid, HasCommitSince, ChangesTellOfCommits}
use Rattle.dk_laws.proofs.Numbers.{left_by, event_durable}
use Rattle.dk_laws.proofs.OneWorld.{event_leads, events_lead, after_events-append}
use Rattle.dk_laws.proofs.Stamps.{stamp_from-append}

-- none of these events is a commit
abbrev LackCommits : List Event → Type 0
LackCommits events = AllByRecursion (λ e. is_commit e ≡ false) events

pub commits_of-append : (before more : List Event) → commits_of (before ++ more) ≡ commits_of before + commits_of more
commits_of-append before more = sum_by-append (λ e. cond (is_commit e) 1 0) before more

lack_commits : (more : List Event) → commits_of more ≡ 0 → LackCommits more
lack_commits [] none = tt
lack_commits (e ∷ more) none =
    let both = commits_of-append (e ∷ []) more in elim (is_commit e) as (λ b. is_commit e ≡ b → (is_commit e ≡ false) × LackCommits more) [
      | true ↦ λ is. let n : commits_of (e ∷ []) ≡ 1 = rw is refl in absurd (omega (arith, none, n, both))
      | false ↦ λ is. (is, lack_commits more (let n : commits_of (e ∷ []) ≡ 0 = rw is refl in omega (arith, none, n, both)))
    ] refl

-- such an event steps nothing
steps_none : (rules : Meaning) (w : World) (e : Event) → is_commit e ≡ false → step_by rules w e ≡ None
steps_none rules w (event.Commit pass run seq outcome) is = cc
steps_none rules w (event.Connect pass name reply) is = refl
steps_none rules w (event.Post pass conn input reply) is = refl
steps_none rules w (event.Claim pass reply) is = refl
steps_none rules w (event.Release pass run) is = refl
steps_none rules w (event.Hand pass conn most outs end) is = refl
steps_none rules w (event.Tick pass moment) is = refl

-- so the durable world and the stamps are as they were
durable_stays : (rules : Meaning) (w : World) (more : List Event) → LackCommits more → (after_events rules w more).durable ≡ w.durable
durable_stays rules w [] lack = refl
durable_stays rules w (e ∷ more) lack = durable_stays rules (after_event rules w e) more lack.1 ∙ event_durable rules w e ∙ ap (left_by w.durable) (steps_none rules w e lack.0)

stamp_stays : (rules : Meaning) (w : World) (n : ℕ) (more : List Event) (item : Item) → LackCommits more → stamp_from rules w n more item ≡ n
stamp_stays rules w n [] item lack = refl
stamp_stays rules w n (e ∷ more) item lack =
    ap (λ o. stamp_from rules (after_event rules w e) (stamped_by item n o) more item) (steps_none rules w e lack.0) ∙ stamp_stays rules (after_event rules w e) n more item lack.1

pub commits_change : CommitsAloneChange
commits_change rules w before more lawful none =
    let lack = lack_commits more none in
    let mid = after_events rules w before in
    let durable = ap (λ (x : World). x.durable) (after_events-append rules w before more) ∙ durable_stays rules mid more lack in
    record {
      durable = durable;
      seen = λ item. ap (λ d. seen_in d (stamp rules w (before ++ more) item) item) durable
          ∙ ap (λ n. seen_in mid.durable n item) (stamp_from-append rules lawful w w.durable.commits before more item ∙ stamp_stays rules mid (stamp rules w before item) more item lack);
    }

stand_on : (rules : Meaning) (w : World) (before after : List Event) (reads : List (Item × Read)) → IsReadAlike rules w before after → StandAt rules w before reads → StandAt rules w after reads
stand_on rules w before after [] alike h = tt
stand_on rules w before after (r ∷ reads) alike h = (h.0 ∙ sym (alike.seen r.0), stand_on rules w before after reads alike h.1)

pub valid_on : ValidRunsStayValid
valid_on rules w before more reads lawful none h =
    let alike = commits_change rules w before more lawful none in (stand_on rules w before (before ++ more) reads alike h, ap (λ d. d.commits) alike.durable)

pub changes_tell : ChangesTellOfCommits
changes_tell rules w events run item read lawful h differs = elim (commits_of h.later) as (λ n. commits_of h.later ≡ n → HasCommitSince run events) [
  | zero ↦ λ none. absurd (differs (h.was.saw ∙ sym (ap (λ es. seen rules w es item) h.all ∙ (commits_change rules w h.earlier h.later lawful none).seen item)))
  | suc n ↦ λ some. record { earlier = h.earlier; later = h.later; all = h.all; granted = h.granted; commit = omega (arith, some) }
] refl

-- an event that is no commit leaves their number
uncounted : (rules : Meaning) (w : World) (e : Event) (after : World) → is_commit e ≡ false → Happens rules w e after → after.durable.commits ≡ w.durable.commits + 0
uncounted rules w e after is h =
    let same : after.durable ≡ w.durable = ap (λ (x : World). x.durable) (event_leads rules w e after h) ∙ event_durable rules w e ∙ ap (left_by w.durable) (steps_none rules w e is) in
    ap (λ d. d.commits) same ∙ omega arith

-- an event is as many commits as the durable world has more
event_counted : (rules : Meaning) (w : World) (e : Event) (after : World) → AreLawful rules → Happens rules w e after → after.durable.commits ≡ w.durable.commits + commits_of (e ∷ [])
event_counted rules w (event.Commit pass run seq outcome) after lawful h =
    let claim = h.0 in
    let s = step_goes_on rules lawful claim.job run claim.at w.durable in
    ap (λ (x : World). x.durable.commits) h.5 ∙ s.commits
event_counted rules w (event.Connect pass name reply) after lawful h = uncounted rules w (event.Connect pass name reply) after refl h
event_counted rules w (event.Post pass conn input reply) after lawful h = uncounted rules w (event.Post pass conn input reply) after refl h
event_counted rules w (event.Claim pass reply) after lawful h = uncounted rules w (event.Claim pass reply) after refl h
event_counted rules w (event.Release pass run) after lawful h = uncounted rules w (event.Release pass run) after refl h
event_counted rules w (event.Hand pass conn most outs end) after lawful h = uncounted rules w (event.Hand pass conn most outs end) after refl h
event_counted rules w (event.Tick pass moment) after lawful h = uncounted rules w (event.Tick pass moment) after refl h

events_counted : (rules : Meaning) (w : World) (events : List Event) (after : World) → AreLawful rules → Leads rules w events after → after.durable.commits ≡ w.durable.commits + commits_of events
events_counted rules w [] after lawful h = ap (λ (x : World). x.durable.commits) h ∙ omega arith
events_counted rules w (e ∷ events) after lawful h =
    let first = event_counted rules w e h.0 lawful h.1 in
    let rest = events_counted rules h.0 events after lawful h.2 in
    let both = commits_of-append (e ∷ []) events in omega (arith, first, rest, both)

pub commits_counted : CommitsAreCounted
unfolding opening
commits_counted o events lawful legal =
    ap (λ (x : World). x.durable.commits) (sym (events_lead o.rules (opening_of o) events legal.history.last legal.history.leads))
    ∙ events_counted o.rules (opening_of o) events legal.history.last lawful legal.history.leads
