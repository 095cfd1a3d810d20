-- The log of a store's file, as commits come.
use Rattle.std.proofs.Common.{◌≡◌, ◌⊎◌, ⊎_elim, inl, inr, ℕ, ◌+◌, ◌<◌, ◌≤◌, List, [], ◌∷◌, ◌++◌, length, Option, Some, refl, sym, ap, subst, ◌∙◌, arith, append_assoc}
use Rattle.std.proofs.lemmas.List.{append-nil}
use Rattle.dk_types.specs.declared.durable.Entry.{Entry}
use Rattle.dk_types.specs.declared.event.Event.{Event}
use Rattle.dk_types.specs.declared.event.Event.TheVariants as event
use Rattle.dk_types.specs.declared.fault.Outcome.{Outcome}
use Rattle.dk_types.specs.declared.number.RunNo.{RunNo}
use Rattle.dk_disk.specs.DiskHistories.{DiskHistory}
use Rattle.dk_model.specs.DurableWorlds.{DurableWorld, empty_world}
use Rattle.dk_model.specs.Effects.{effects, after}
use Rattle.dk_model.specs.Entries.{SpellsEntries}
use Rattle.dk_model.specs.Images.{SpellsImage}
use Rattle.dk_model.specs.Legal.{Opened, world_after}
use Rattle.dk_model.specs.Recovered.{IsNext, Follow, TakeAll, HasWorld, BeginsWithImage}
use Rattle.dk_model.specs.Stores.{StoreHeader}
use Rattle.dk_journal.specs.Stores.{HasStore}
use Rattle.dk_journal.specs.declared.journal.Journal.{Journal}
use Rattle.dk_commit_log.specs.Logs.{HasImage, HasLog, Spell}
use Rattle.dk_commit_log.specs.Ranges.{AreNumbered}
use Rattle.dk_commit_log.proofs.Numbers.{follow_numbered}
use Rattle.dk_host.specs.Logs.{IsOfCommit, AreOfCommits}
use Rattle.dk_host.specs.Stores.{HoldsNow, HoldsLog}

follow_append : (a m b : DurableWorld) (es fs : List Entry) → Follow a es m → Follow m fs b → Follow a (es ++ fs) b
follow_append a m b [] fs first second = subst (λ (d : DurableWorld). Follow d fs b) (sym first) second
follow_append a m b (e ∷ es) fs first second = (first.0, follow_append (after e a) m b es fs first.1 second)

-- what payloads of entries spell, one after another
log_from : (format : ℕ) (a b : DurableWorld) (payloads : List (List ℕ)) → TakeAll format a payloads b → (entries : List Entry) × Spell format payloads entries × Follow a entries b
log_from format a b [] all = ([], refl, all)
log_from format a b (p ∷ ps) all =
    let rest = log_from format all.0 b ps all.2 in
    (all.1.entries ++ rest.0, (all.1.entries, (rest.0, (refl, all.1.spelled, rest.1))), follow_append a all.0 b all.1.entries rest.0 all.1.follow rest.2)

-- a file with a world has a log
pub log_of : (header : StoreHeader) (payloads : List (List ℕ)) (d : DurableWorld) → HasWorld header payloads d → (first : DurableWorld) × ((entries : List Entry) × HasLog header payloads d first entries)
log_of header payloads d world = ⊎_elim
    (λ (zero : (header.epoch ≡ 0) × TakeAll header.format empty_world payloads d).
    let all = log_from header.format empty_world d payloads zero.1 in
    (empty_world, (all.0, record { others = payloads; begins = inl (zero.0, refl, refl); spelled = all.1; follow = all.2 })))
    (λ (more : (0 < header.epoch) × BeginsWithImage header.format payloads d).
    let b = more.1 in
    let all = log_from header.format b.first d b.others b.rest in
    (b.first, (all.0, record { others = b.others; begins = inr (more.0, record { image = b.image; parts = b.parts; spelled = b.spelled }); spelled = all.1; follow = all.2 })))
    world

-- where it has nothing but an image it has no entries
pub log_of_image : (header : StoreHeader) (image : List ℕ) (d : DurableWorld) → 0 < header.epoch → HasWorld header (image ∷ []) d → HasLog header (image ∷ []) d d []
log_of_image header image d later world = ⊎_elim
    (λ (zero : (header.epoch ≡ 0) × TakeAll header.format empty_world (image ∷ []) d). absurd (omega (arith, later, zero.0)))
    (λ (more : (0 < header.epoch) × BeginsWithImage header.format (image ∷ []) d).
    let b = more.1 in
    let parts : image ∷ [] ≡ b.image ∷ b.others = b.parts in
    let none : b.others ≡ [] = cc in
    let same : b.first ≡ d = subst (λ (ps : List (List ℕ)). TakeAll header.format b.first ps d) none b.rest in
    record {
      others = [];
      begins = inr (more.0, record { image = b.image; parts = b.parts ∙ ap (λ (ps : List (List ℕ)). b.image ∷ ps) none; spelled = subst (λ (x : DurableWorld). SpellsImage header.format x b.image) same b.spelled });
      spelled = refl;
      follow = refl;
    })
    world

spell_push : (format : ℕ) (payloads : List (List ℕ)) (payload : List ℕ) (entries here : List Entry) → Spell format payloads entries → SpellsEntries format here payload → Spell format (payloads ++ payload ∷ []) (entries ++ here)
spell_push format [] payload entries here none spelled = (here, ([], (ap (λ (es : List Entry). es ++ here) none ∙ sym (append-nil here), spelled, refl)))
spell_push format (p ∷ ps) payload entries here all spelled =
    (all.0, (all.1.0 ++ here, (ap (λ (es : List Entry). es ++ here) all.1.1.0 ∙ append_assoc all.0 all.1.0 here, all.1.1.1, spell_push format ps payload all.1.0 here all.1.1.2 spelled)))

-- one more record
pub log_push : (header : StoreHeader) (payloads : List (List ℕ)) (payload : List ℕ) (d w first : DurableWorld) (entries : List Entry) (e : Entry) → HasLog header payloads d first entries → SpellsEntries header.format (e ∷ []) payload → IsNext d e → w ≡ after e d
    → HasLog header (payloads ++ payload ∷ []) w first (entries ++ e ∷ [])
log_push header payloads payload d w first entries e log spelled next same = record {
  others = log.others ++ payload ∷ [];
  begins = ⊎_elim
      (λ (zero : (header.epoch ≡ 0) × (first ≡ empty_world) × (log.others ≡ payloads)). inl (zero.0, zero.1, ap (λ (ps : List (List ℕ)). ps ++ payload ∷ []) zero.2))
      (λ (more : (0 < header.epoch) × HasImage header.format payloads first log.others). inr (more.0, record { image = more.1.image; parts = ap (λ (ps : List (List ℕ)). ps ++ payload ∷ []) more.1.parts; spelled = more.1.spelled }))
      log.begins;
  spelled = spell_push header.format log.others payload entries (e ∷ []) log.spelled spelled;
  follow = follow_append first d w entries (e ∷ []) log.follow (next, sym same);
}

-- a commit is one of more events
of_commit_on : (o : Opened) (events more : List Event) (e : Entry) → IsOfCommit o events e → IsOfCommit o (events ++ more) e
of_commit_on o events more e is = record {
  before = is.before;
  pass = is.pass;
  outcome = is.outcome;
  later = is.later ++ more;
  parts = ap (λ (es : List Event). es ++ more) is.parts ∙ append_assoc is.before (event.Commit is.pass e.run e.seq is.outcome ∷ is.later) more;
  changed = is.changed;
}

pub of_commits_by : (o : Opened) (events others : List Event) (entries : List Entry) → ((e : Entry) → IsOfCommit o events e → IsOfCommit o others e) → AreOfCommits o events entries → AreOfCommits o others entries
of_commits_by o events others [] to all = tt
of_commits_by o events others (e ∷ es) to all = ((λ later. to e (all.0 later)), of_commits_by o events others es to all.1)

pub of_commits_on : (o : Opened) (events more : List Event) (entries : List Entry) → AreOfCommits o events entries → AreOfCommits o (events ++ more) entries
of_commits_on o events more entries all = of_commits_by o events (events ++ more) entries (of_commit_on o events more) all

pub of_commits_push : (o : Opened) (events : List Event) (entries : List Entry) (e : Entry) → AreOfCommits o events entries → IsOfCommit o events e → AreOfCommits o events (entries ++ e ∷ [])
of_commits_push o events [] e all is = ((λ later. is), tt)
of_commits_push o events (x ∷ xs) e all is = (all.0, of_commits_push o events xs e all.1 is)

-- none is numbered behind the opened world's commits
pub of_no_commits : (o : Opened) (events : List Event) (n : ℕ) (entries : List Entry) → AreNumbered n entries → n + length entries ≤ o.durable.commits + 1 → AreOfCommits o events entries
of_no_commits o events n [] all within = tt
of_no_commits o events n (e ∷ es) all within = ((λ later. absurd (omega (arith, later, all.0, within))), of_no_commits o events (n + 1) es all.1 (omega (arith, within)))

-- which event of a list with one more at its end it is
last_split : (front : List Event) (c : Event) (b : List Event) (y : Event) (later : List Event) → front ++ c ∷ [] ≡ b ++ y ∷ later → ((m : List Event) × (front ≡ b ++ y ∷ m)) ⊎ ((b ≡ front) × (c ≡ y))
last_split [] c [] y later same = let head : c ≡ y = cc in inr (refl, head)
last_split [] c (z ∷ b) y later same = let none : [] ≡ b ++ y ∷ later = cc in absurd (nothing b none)
  where
    nothing : (b : List Event) → [] ≡ b ++ y ∷ later → ⊥
    nothing [] is = absurd cc
    nothing (w ∷ b) is = absurd cc
last_split (z ∷ front) c [] y later same = let head : z ≡ y = cc in inl (front, (λ i. head i ∷ front))
last_split (z ∷ front) c (w ∷ b) y later same =
    let head : z ≡ w = cc in
    let rest : front ++ c ∷ [] ≡ b ++ y ∷ later = cc in
    ⊎_elim
    (λ (h : (m : List Event) × (front ≡ b ++ y ∷ m)). inl (h.0, (λ i. head i ∷ h.1 i)))
    (λ (h : (b ≡ front) × (c ≡ y)). inr ((λ i. sym head i ∷ h.0 i), h.1))
    (last_split front c b y later rest)

-- the commit that was to come last came after others that changed nothing
pub of_commit_later : (o : Opened) (front more : List Event) (pass other seq : ℕ) (run : RunNo) (outcome told : Outcome) (e : Entry) → (world_after o (front ++ more)).durable ≡ (world_after o front).durable
    → (world_after o ((front ++ more) ++ event.Commit pass run seq outcome ∷ [])).durable ≡ (world_after o (front ++ event.Commit other run seq told ∷ [])).durable
    → IsOfCommit o (front ++ event.Commit other run seq told ∷ []) e → IsOfCommit o ((front ++ more) ++ event.Commit pass run seq outcome ∷ []) e
of_commit_later o front more pass other seq run outcome told e before_same after_same is = ⊎_elim
    (λ (within : (m : List Event) × (front ≡ is.before ++ event.Commit is.pass e.run e.seq is.outcome ∷ m)).
    of_commit_on o (front ++ more) (event.Commit pass run seq outcome ∷ []) e (of_commit_on o front more e (record { before = is.before; pass = is.pass; outcome = is.outcome; later = within.0; parts = within.1; changed = is.changed })))
    (λ (last : (is.before ≡ front) × (event.Commit other run seq told ≡ event.Commit is.pass e.run e.seq is.outcome)).
    let runs : run ≡ e.run = (let c = last.1 in cc) in
    let numbers : seq ≡ e.seq = (let c = last.1 in cc) in
    let same : event.Commit pass run seq outcome ≡ event.Commit pass e.run e.seq outcome = λ i. event.Commit pass (runs i) (numbers i) outcome in
    record {
      before = front ++ more;
      pass = pass;
      outcome = outcome;
      later = [];
      parts = ap (λ (x : Event). (front ++ more) ++ x ∷ []) same;
      changed = is.changed
          ∙ ap (λ (es : List Event). effects (world_after o es).durable (world_after o (es ++ event.Commit is.pass e.run e.seq is.outcome ∷ [])).durable) last.0
          ∙ (λ i. effects (sym before_same i) ((ap (λ (x : Event). (world_after o (front ++ x ∷ [])).durable) (sym last.1) ∙ sym after_same ∙ ap (λ (x : Event). (world_after o ((front ++ more) ++ x ∷ [])).durable) same) i));
    })
    (last_split front (event.Commit other run seq told) is.before (event.Commit is.pass e.run e.seq is.outcome) is.later is.parts)

-- the same store, of a longer history with the same world
pub log_on : (o : Opened) (events others : List Event) (past : DiskHistory) (game : List ℕ) (journal : Journal) (base : Option ℕ) (l : HoldsLog o events past game journal base) → (world_after o events).durable ≡ (world_after o others).durable → AreOfCommits o others l.entries → HoldsLog o others past game journal base
log_on o events others past game journal base l same all = record {
  stands = record { header = l.stands.header; payloads = l.stands.payloads; ours = l.stands.ours; store = subst (λ (d : DurableWorld). HasStore past journal.side journal l.stands.header l.stands.payloads d) same l.stands.store };
  first = l.first;
  entries = l.entries;
  log = subst (λ (d : DurableWorld). HasLog l.stands.header l.stands.payloads d l.first l.entries) same l.log;
  known = l.known;
  of_commits = all;
}

-- a store as it is opened
pub log_begins : (o : Opened) (past : DiskHistory) (game : List ℕ) (journal : Journal) (base : Option ℕ) (events : List Event) → HoldsNow past game journal (world_after o events).durable → (world_after o events).durable ≡ o.durable → ((n : ℕ) → base ≡ Some n → (n ≡ 0) × (journal.epoch ≡ 0)) → HoldsLog o events past game journal base
log_begins o past game journal base events holds opened told =
    let log = log_of holds.header holds.payloads (world_after o events).durable holds.store.world in
    let numbered = follow_numbered log.0 (world_after o events).durable log.1.0 log.1.1.follow in record {
      stands = holds;
      first = log.0;
      entries = log.1.0;
      log = log.1.1;
      known = λ n is.
          ⊎_elim
          (λ (zero : (holds.header.epoch ≡ 0) × (log.0 ≡ empty_world) × (log.1.1.others ≡ holds.payloads)). ap (λ (d : DurableWorld). d.commits) zero.1 ∙ sym (told n is).0)
          (λ (more : (0 < holds.header.epoch) × HasImage holds.header.format holds.payloads log.0 log.1.1.others). absurd (omega (arith, more.0, holds.store.epoch, (told n is).1)))
          log.1.1.begins;
      of_commits = of_no_commits o events (log.0.commits + 1) log.1.0 numbered.0 (let same = ap (λ (d : DurableWorld). d.commits) opened in omega (arith, numbered.1, same));
    }
