-- One phase more is played.
use Rattle.std.proofs.Common.{◌≡◌, ℕ, false, ◌-◌, ◌≤◌, None, Some, List, [], ◌∷◌, ◌++◌, length, take, drop, map, refl, sym, ap, ◌∙◌, subst, arith, append_assoc}
use Rattle.std.proofs.lemmas.List.{append-nil, length-append, length-drop, take_all, map-append}
use Rattle.std.proofs.lemmas.List.{take-append-le, drop-append-le}
use Rattle.std.proofs.lemmas.List.Elements.{All-nil, All-push}
use Rattle.std.proofs.lemmas.List.Sorted.{IsNonDecreasingBy-push}
use Rattle.std.proofs.Math.Seq.{drop-append_seam}
use Rattle.std.specs.List.{AllByRecursion, slice_range, filter_map}
use mathlib.Core.List.{IsPrefix}
use Rattle.dk_types.specs.declared.event.Event.{Event}
use Rattle.dk_types.specs.declared.event.Event.TheVariants as event
use Rattle.dk_types.specs.declared.event.ClaimReply.{ClaimReply}
use Rattle.dk_types.specs.declared.event.ClaimReply.TheVariants as claimed
use Rattle.dk_model.specs.declared.script.Line.{Line}
use Rattle.dk_model.specs.Worlds.{World}
use Rattle.dk_model.specs.Picks.{runnable}
use Rattle.dk_model.specs.Events.{Meaning}
use Rattle.dk_model.specs.Histories.{Leads}
use Rattle.dk_model.specs.Lawful.{AreLawful, IsWithinLimits}
use Rattle.dk_model.specs.Legal.{Opened, opening_of, world_after, IsLegal}
use Rattle.dk_model.specs.Orders.{OrderItem, AreInTurn, item_of}
use Rattle.dk_model.specs.Phases.{IsSmall, AreSmall, phase_end, phases_of}
use Rattle.dk_model.specs.Transcripts.{Playing, IsQuiet, PlaysPhase, Plays, playing}
use Rattle.dk_turn.specs.Fronts.{Known}
use Rattle.dk_laws.proofs.OneWorld.{IsParted, events_lead, parted}
use Rattle.dk_laws.proofs.SoundHistories.{history_sound}
use Rattle.dk_progress.proofs.Fits.{AreWithin}
use Rattle.dk_play_laws.specs.AloneLaw.{AreNamed, IsAlone}
use Rattle.dk_play_laws.specs.LineEvents.{Said, nothing_said, playing_at, AreLineEvents, AreHandEvents}
use Rattle.dk_play_laws.specs.Phased.{HavePlayed, IsBetween, GoesOn, IsDrained, IsPhase, IsPhaseTo, IsSpentAt}
use Rattle.dk_play_laws.specs.PhasedLaw.{DrainTells, PhasesFollow, NothingIsPlayed, SpentPhasesEnd, PlaysStandOn, IsSeenBy, PlaysAreSeen, SpentIsSeen}
use Rattle.dk_play_laws.specs.BudgetLaw.{IsBudgetSpent}
use Rattle.dk_play_laws.proofs.Budgets.{spent_committed}
use Rattle.dk_play_laws.specs.Seen.{AreNumbered, AreBehind, HaveSeen}
use Rattle.dk_play_laws.specs.Reported.{reported_of, is_release, AreKept}
use Rattle.dk_play_laws.specs.WorkedLaw.{IsUnclaimed, AllWork, HasWorked}
use Rattle.dk_play_laws.specs.Worked.{AreWorked}
use Rattle.dk_play_laws.proofs.Boxes.{opening_within, within_leads}
use Rattle.dk_play_laws.proofs.Drained.{behind_more, drains_end}
use Rattle.dk_play_laws.proofs.Entered.{entered_all, handed_all, lines_told, hands_told}
use Rattle.dk_play_laws.proofs.Own.{of_pass, named_first, alone}
use Rattle.dk_play_laws.proofs.Small.{small_events}
use Rattle.dk_play_laws.proofs.Reported.{told_append}
use Rattle.dk_play_laws.proofs.Unclaimed.{unclaimed_after, lines_grant, hands_grant, no_values, opening_unclaimed}
use Rattle.dk_play_laws.proofs.Worked.{workers_leave, one_in_turn}

-- ---- marks and phases

-- what holds of two lists holds of both together, and of each
all-append : {X : Type 0} (P : X → Type 0) (xs ys : List X) → AllByRecursion P xs → AllByRecursion P ys → AllByRecursion P (xs ++ ys)
all-append P [] ys p q = q
all-append P (x ∷ xs) ys p q = (p.0, all-append P xs ys p.1 q)

all_first : {X : Type 0} (P : X → Type 0) (xs ys : List X) → AllByRecursion P (xs ++ ys) → AllByRecursion P xs
all_first P [] ys h = tt
all_first P (x ∷ xs) ys h = (h.0, all_first P xs ys h.1)

all_last : {X : Type 0} (P : X → Type 0) (xs ys : List X) → AllByRecursion P (xs ++ ys) → AllByRecursion P ys
all_last P [] ys h = h
all_last P (x ∷ xs) ys h = all_last P xs ys h.1

-- a slice of a front
range-front : (events more : List Event) (a b : ℕ) → a ≤ length events → b ≤ length events → slice_range (events ++ more) a b ≡ slice_range events a b
range-front events more a b begins ends =
    ap (take (b - a)) (drop-append-le a events more begins) ∙ take-append-le (b - a) (drop a events) more (omega (arith, ends, length-drop a events))

-- a slice of what is behind it
range-back : (events more : List Event) → slice_range (events ++ more) (length events) (length (events ++ more)) ≡ more
range-back events more =
    take_all (length (events ++ more) - length events) (drop (length events) (events ++ more)) (omega (arith, length-append events more, ap length (drop-append_seam events more)))
    ∙ drop-append_seam events more

-- each mark is within so many events
abbrev AreMarks : ℕ → List ℕ → Type 0
AreMarks n marks = AllByRecursion (λ mark. mark ≤ n) marks

-- and so within more
within-more : (n m : ℕ) (marks : List ℕ) → n ≤ m → AreMarks n marks → AreMarks m marks
within-more n m [] le h = tt
within-more n m (mark ∷ marks) le h = (omega (arith, le, h.0), within-more n m marks le h.1)

-- a phase ends where the next one begins, which may be the one behind them
end-push : (events more : List Event) (marks : List ℕ) → phase_end (events ++ more) (marks ++ length events ∷ []) ≡ phase_end events marks
end-push events more [] = refl
end-push events more (mark ∷ marks) = refl

end-within : (events : List Event) (marks : List ℕ) → AreMarks (length events) marks → phase_end events marks ≤ length events
end-within events [] h = omega arith
end-within events (mark ∷ marks) h = h.0

-- one mark more cuts off the events that follow
cut-push : (events more : List Event) (marks : List ℕ) → AreMarks (length events) marks → phases_of (events ++ more) (marks ++ length events ∷ []) ≡ phases_of events marks ++ more ∷ []
cut-push events more [] h = ap (λ (es : List Event). es ∷ []) (range-back events more)
cut-push events more (mark ∷ marks) h =
    let end = end-within events marks h.1 in
    ap (λ (n : ℕ). slice_range (events ++ more) mark n ∷ phases_of (events ++ more) (marks ++ length events ∷ [])) (end-push events more marks)
    ∙ ap (λ (es : List Event). es ∷ phases_of (events ++ more) (marks ++ length events ∷ [])) (range-front events more mark (phase_end events marks) h.0 end)
    ∙ ap (λ (ps : List (List Event)). slice_range events mark (phase_end events marks) ∷ ps) (cut-push events more marks h.1)

-- one phase more is played
plays-push : (rules : Meaning) (p mid after : Playing) (script : List (List Line)) (order : List (List OrderItem)) (phases : List (List Event)) (lines : List Line) (items : List OrderItem) (events : List Event)
    → Plays rules p script order phases mid → PlaysPhase rules mid lines items events after → Plays rules p (script ++ lines ∷ []) (order ++ items ∷ []) (phases ++ events ∷ []) after
plays-push rules p mid after [] [] [] lines items events h one = (after, subst (λ (q : Playing). PlaysPhase rules q lines items events after) h one, refl)
plays-push rules p mid after (l ∷ script) (i ∷ order) (e ∷ phases) lines items events h one = (h.0, h.1, plays-push rules h.0 mid after script order phases lines items events h.2 one)
plays-push rules p mid after [] [] (e ∷ phases) lines items events h one = absurd h
plays-push rules p mid after [] (i ∷ order) [] lines items events h one = absurd h
plays-push rules p mid after [] (i ∷ order) (e ∷ phases) lines items events h one = absurd h
plays-push rules p mid after (l ∷ script) [] [] lines items events h one = absurd h
plays-push rules p mid after (l ∷ script) [] (e ∷ phases) lines items events h one = absurd h
plays-push rules p mid after (l ∷ script) (i ∷ order) [] lines items events h one = absurd h

-- ---- a phase by its events

-- the events of a phase: those of its lines, of its drain with the last claim, and its hands
module _ (o : Opened) (n : ℕ) (done : List (List Line)) (front : List Event) (marks : List ℕ) (s t : Said) (lines : List Line) (pass : ℕ) (entered worked handed : List Event) (lawful : AreLawful o.rules) where
  abbrev drain : List Event
  drain = worked ++ event.Claim pass claimed.Nothing ∷ []

  abbrev events : List Event
  events = entered ++ (drain ++ handed)

  -- what is known of these events
  pub record IsPhaseBy : Type 0 where
    pub before : HavePlayed o n done front marks s
    pub legal : IsLegal o (front ++ events)
    pub are_lines : AreLineEvents pass s lines entered t
    pub work : AllWork drain
    pub turns : n ≡ 1 → AreWorked None drain None
    pub are_hands : AreHandEvents pass t.opened handed

  module _ (h : IsPhaseBy) where
    abbrev w : World
    w = opening_of o

    -- the worlds between the parts
    p : IsParted o.rules w front events h.legal.history.last
    p = parted o.rules w front events h.legal.history.last h.legal.history.leads

    q : IsParted o.rules p.at entered (drain ++ handed) h.legal.history.last
    q = parted o.rules p.at entered (drain ++ handed) h.legal.history.last p.second

    r : IsParted o.rules q.at drain handed h.legal.history.last
    r = parted o.rules q.at drain handed h.legal.history.last q.second

    at_first : p.at ≡ world_after o front
    at_first = events_lead o.rules w front p.at p.first

    at_last : h.legal.history.last ≡ world_after o (front ++ events)
    at_last = events_lead o.rules w (front ++ events) h.legal.history.last h.legal.history.leads

    -- nothing is claimed before the drain, nor after it
    unclaimed_first : IsUnclaimed p.at
    unclaimed_first = subst IsUnclaimed (sym at_first) h.before.unclaimed

    unclaimed_lines : IsUnclaimed q.at
    unclaimed_lines = unclaimed_after o.rules p.at entered q.at (lines_grant pass s lines entered t h.are_lines) unclaimed_first q.first

    has_worked : HasWorked o.rules q.at drain r.at
    has_worked = workers_leave o.rules q.at drain r.at unclaimed_lines h.work r.first

    unclaimed_last : IsUnclaimed h.legal.history.last
    unclaimed_last = unclaimed_after o.rules r.at handed h.legal.history.last (hands_grant pass t.opened handed h.are_hands) has_worked.unclaimed r.second

    -- nothing is left to run
    quiet : IsQuiet r.at
    quiet =
        let last = parted o.rules q.at worked (event.Claim pass claimed.Nothing ∷ []) r.at r.first in
        let same : r.at ≡ last.at = last.second.2 ∙ last.second.1.1 in
        record { idle = ap runnable same ∙ last.second.1.0; unclaimed = no_values r.at.claims has_worked.unclaimed }

    -- no more waits than may wait
    boxes : AreWithin r.at.connections
    boxes =
        within_leads o.rules q.at drain r.at
        (within_leads o.rules p.at entered q.at (within_leads o.rules w front p.at (opening_within o.durable o.budget) p.first) q.first) r.first

    -- what is told of these events
    told : reported_of events ≡ entered ++ (reported_of drain ++ handed)
    told =
        told_append entered (drain ++ handed) ∙ ap (λ (es : List Event). es ++ reported_of (drain ++ handed)) (lines_told pass s lines entered t h.are_lines)
        ∙ ap (λ (es : List Event). entered ++ es) (told_append drain handed ∙ ap (λ (es : List Event). reported_of drain ++ es) (hands_told pass t.opened handed h.are_hands))

    -- the phase is the model's
    plays : AreKept drain → PlaysPhase o.rules (playing_at (world_after o front) s) lines (filter_map item_of drain) (reported_of events) (playing_at (world_after o (front ++ events)) t)
    plays kept = record {
      entered = entered;
      followed = reported_of drain;
      handed = handed;
      all = told;
      at_lines = playing_at q.at t;
      at_items = r.at;
      enters = entered_all o.rules pass (world_after o front) s lines entered q.at t h.are_lines (subst (λ (x : World). Leads o.rules x entered q.at) at_first q.first);
      follows = has_worked.follows kept;
      quiet = quiet;
      hands = handed_all o.rules pass r.at t.opened handed (world_after o (front ++ events)) h.are_hands boxes (subst (λ (x : World). Leads o.rules r.at handed x) at_last r.second);
      same_means = refl;
      same_opened = refl;
    }

    -- its marks and phases
    cut : phases_of (front ++ events) (marks ++ length front ∷ []) ≡ phases_of front marks ++ events ∷ []
    cut = cut-push front events marks h.before.places

    small : AllByRecursion IsSmall events
    small =
        let within = all_first IsWithinLimits front events h.legal.within in
        small_events o.rules lawful p.at events h.legal.history.last (history_sound o.rules o.durable o.budget front p.at lawful h.legal.valid within p.first)
        (all_last IsWithinLimits front events h.legal.within) p.second

    kept_drain : AreKept (front ++ events) → AreKept drain
    kept_drain kept = all_first (λ e. is_release e ≡ false) drain handed (all_last (λ e. is_release e ≡ false) entered (drain ++ handed) (all_last (λ e. is_release e ≡ false) front events kept))

    pub played : HavePlayed o n (done ++ lines ∷ []) (front ++ events) (marks ++ length front ∷ []) t
    played =
        let longer : length front ≤ length (front ++ events) = omega (arith, length-append front events) in
        record {
          unclaimed = subst IsUnclaimed at_last unclaimed_last;
          places = all-append (λ mark. mark ≤ length (front ++ events)) marks (length front ∷ []) (within-more (length front) (length (front ++ events)) marks longer h.before.places) (longer, tt);
          ordered = IsNonDecreasingBy-push (λ m. m) marks (length front) h.before.ordered (λ d some. h.before.within (length marks - 1) d (omega (arith, some)));
          within = All-push (λ mark. mark ≤ length (front ++ events)) marks (length front) (λ k d l. let below = h.before.within k d l in omega (arith, below, longer)) longer;
          small = subst AreSmall (sym cut) (all-append (AllByRecursion IsSmall) (phases_of front marks) (events ∷ []) h.before.small (small, tt));
          played = λ kept.
              let before = h.before.played (all_first (λ e. is_release e ≡ false) front events kept) in
              record {
                order = before.order ++ filter_map item_of drain ∷ [];
                plays = subst (λ (ps : List (List Event)). Plays o.rules (playing w) (done ++ lines ∷ []) (before.order ++ filter_map item_of drain ∷ []) ps (playing_at (world_after o (front ++ events)) t))
                    (sym (ap (map reported_of) cut ∙ map-append reported_of (phases_of front marks) (events ∷ [])))
                    (plays-push o.rules (playing w) (playing_at (world_after o front) s) (playing_at (world_after o (front ++ events)) t) done before.order (map reported_of (phases_of front marks)) lines (filter_map item_of drain) (reported_of events)
                    before.plays (plays (kept_drain kept)));
                turns = λ one. all-append AreInTurn before.order (filter_map item_of drain ∷ []) (before.turns one) (one_in_turn drain (h.turns one) (kept_drain kept), tt);
              };
        }

-- ---- a phase by its passes

-- a front begins a log, so its events are named too
named_by : (n : ℕ) (front log : List Event) → IsPrefix front log → AreNamed n log → AreNamed n front
named_by n front log begins all = named_first n front begins.0 (subst (AreNamed n) (sym begins.1) all)

-- what a step of the main pass entered, by its number
own_at : (k : ℕ) (events : List Event) (a b : Known Event) → GoesOn events a b → a.number ≡ k → of_pass k b.front ≡ of_pass k a.front ++ events
own_at k events a b goes is = subst (λ (j : ℕ). of_pass j b.front ≡ of_pass j a.front ++ events) is goes.own_events

module _ (reply : ClaimReply) (o : Opened) (done : List (List Line)) (marks : List ℕ) (lines : List Line) (s t : Said) (mark : ℕ) (workers after : List (Known Event)) (old new : Known Event)
    (between : IsBetween o done marks s workers old) (to : IsPhaseTo reply lines s t mark workers after old new) (named : AreNamed (length workers) new.front) where
  abbrev n : ℕ
  n = length workers

  entered_number : to.entered.number ≡ n
  entered_number = to.to_lines.number ∙ to.to_mark.number ∙ between.number

  pub drained_number : new.number ≡ n
  drained_number = to.drain.last.goes.number ∙ to.drain.second.main.number ∙ to.drain.first.main.number ∙ entered_number

  behind_mark : AreBehind workers to.marked.front
  behind_mark = behind_more workers old.front to.marked.front to.to_mark.begins between.behind

  behind_lines : AreBehind workers to.entered.front
  behind_lines = behind_more workers to.marked.front to.entered.front to.to_lines.begins behind_mark

  pub tells : DrainTells reply workers after to.entered new
  tells = drains_end reply workers after to.entered new between.numbered entered_number behind_lines named to.drain

  -- what is known of the phase up to its drain, where the workers have entered nothing since
  pub record IsKnown : Type 0 where
    pub worked : List Event
    pub all : new.front ≡ old.front ++ (to.line_events ++ (worked ++ event.Claim old.number reply ∷ []))
    pub at_mark : mark ≡ length old.front
    pub before : HavePlayed o n done old.front marks s
    pub work : AllWork (worked ++ event.Claim old.number reply ∷ [])
    pub turns : n ≡ 1 → AreWorked None (worked ++ event.Claim old.number reply ∷ []) None

  module _ (now : HaveSeen after new.front) where
    drained : IsDrained reply workers to.entered new
    drained = tells.tells now

    named_lines : AreNamed n to.entered.front
    named_lines = named_first n to.entered.front (drained.events ++ event.Claim new.number reply ∷ []) (subst (AreNamed n) drained.all named)

    lines_alone : IsAlone workers to.marked.front to.line_events to.entered.front
    lines_alone =
        alone workers to.marked.front to.line_events to.entered.front between.numbered named_lines behind_mark drained.seen to.to_lines.begins
        (own_at n to.line_events to.marked to.entered to.to_lines (to.to_mark.number ∙ between.number))

    mark_alone : IsAlone workers old.front [] to.marked.front
    mark_alone =
        alone workers old.front [] to.marked.front between.numbered (named_by n to.marked.front to.entered.front to.to_lines.begins named_lines) between.behind lines_alone.seen to.to_mark.begins
        (own_at n [] old to.marked to.to_mark between.number)

    claim_is : drained.events ++ event.Claim new.number reply ∷ [] ≡ drained.events ++ event.Claim old.number reply ∷ []
    claim_is = ap (λ (k : ℕ). drained.events ++ event.Claim k reply ∷ []) (drained_number ∙ sym between.number)

    pub known_to : IsKnown
    known_to =
        let at_mark : to.marked.front ≡ old.front = mark_alone.all ∙ append-nil old.front in
        let c : List Event = drained.events ++ event.Claim new.number reply ∷ [] in
        record {
          worked = drained.events;
          all = drained.all ∙ ap (λ (es : List Event). es ++ c) (lines_alone.all ∙ ap (λ (es : List Event). es ++ to.line_events) at_mark)
              ∙ append_assoc old.front to.line_events c ∙ ap (λ (d : List Event). old.front ++ (to.line_events ++ d)) claim_is;
          at_mark = to.at_mark ∙ ap length at_mark;
          before = between.played mark_alone.seen;
          work = subst AllWork claim_is drained.work;
          turns = λ one. subst (λ es. AreWorked None es None) claim_is (drained.turns one);
        }

module _ (o : Opened) (done : List (List Line)) (marks : List ℕ) (lines : List Line) (s t : Said) (mark : ℕ) (workers after : List (Known Event)) (old new : Known Event) (lawful : AreLawful o.rules)
    (between : IsBetween o done marks s workers old) (ph : IsPhase lines s t mark workers after old new) (legal : IsLegal o new.front) (named : AreNamed (length workers) new.front) where
  abbrev size : ℕ
  size = length workers

  named_drained : AreNamed size ph.drained.front
  named_drained = named_by size ph.drained.front new.front ph.to_hands.begins named

  phase_tells : DrainTells claimed.Nothing workers after ph.to_drain.entered ph.drained
  phase_tells = tells claimed.Nothing o done marks lines s t mark workers after old ph.drained between ph.to_drain named_drained

  number_then : ph.drained.number ≡ size
  number_then = drained_number claimed.Nothing o done marks lines s t mark workers after old ph.drained between ph.to_drain named_drained

  module _ (now : HaveSeen after new.front) where
    hands_alone : IsAlone after ph.drained.front ph.hand_events new.front
    hands_alone =
        alone after ph.drained.front ph.hand_events new.front phase_tells.numbered (subst (λ (k : ℕ). AreNamed k new.front) (sym phase_tells.count) named) phase_tells.behind now ph.to_hands.begins
        (own_at (length after) ph.hand_events ph.drained new ph.to_hands (number_then ∙ sym phase_tells.count))

    known : IsKnown claimed.Nothing o done marks lines s t mark workers after old ph.drained between ph.to_drain named_drained
    known = known_to claimed.Nothing o done marks lines s t mark workers after old ph.drained between ph.to_drain named_drained hands_alone.seen

    abbrev c : List Event
    c = known.worked ++ event.Claim old.number claimed.Nothing ∷ []

    -- the front is these parts
    all : new.front ≡ old.front ++ (ph.to_drain.line_events ++ (c ++ ph.hand_events))
    all =
        hands_alone.all ∙ ap (λ (es : List Event). es ++ ph.hand_events) known.all ∙ append_assoc old.front (ph.to_drain.line_events ++ c) ph.hand_events
        ∙ ap (λ (es : List Event). old.front ++ es) (append_assoc ph.to_drain.line_events c ph.hand_events)

    by : IsPhaseBy o size done old.front marks s t lines old.number ph.to_drain.line_events known.worked ph.hand_events lawful
    by = record { before = known.before; legal = subst (IsLegal o) all legal; are_lines = ph.to_drain.are_lines; work = known.work; turns = known.turns; are_hands = ph.are_hands }

    phase_played : HavePlayed o (length after) (done ++ lines ∷ []) new.front (marks ++ mark ∷ []) t
    phase_played =
        subst (λ (k : ℕ). HavePlayed o k (done ++ lines ∷ []) new.front (marks ++ mark ∷ []) t) (sym phase_tells.count)
        (subst (λ (m : ℕ). HavePlayed o size (done ++ lines ∷ []) new.front (marks ++ m ∷ []) t) (sym known.at_mark)
        (subst (λ (es : List Event). HavePlayed o size (done ++ lines ∷ []) es (marks ++ length old.front ∷ []) t) (sym all)
        (played o size done old.front marks s t lines old.number ph.to_drain.line_events known.worked ph.hand_events lawful by)))

  pub next_between : IsBetween o (done ++ lines ∷ []) (marks ++ mark ∷ []) t after new
  next_between = record {
    numbered = phase_tells.numbered;
    number = ph.to_hands.number ∙ number_then ∙ sym phase_tells.count;
    behind = behind_more after ph.drained.front new.front ph.to_hands.begins phase_tells.behind;
    played = phase_played;
  }

-- ---- a budget that is spent in a phase

module _ (o : Opened) (most granted : ℕ) (done : List (List Line)) (marks : List ℕ) (lines : List Line) (s t : Said) (mark : ℕ) (workers after : List (Known Event)) (old new : Known Event) (budget : o.budget ≡ Some most)
    (between : IsBetween o done marks s workers old) (to : IsPhaseTo (claimed.Spent granted) lines s t mark workers after old new) (legal : IsLegal o new.front) (named : AreNamed (length workers) new.front) where
  spent_tells : DrainTells (claimed.Spent granted) workers after to.entered new
  spent_tells = tells (claimed.Spent granted) o done marks lines s t mark workers after old new between to named

  module _ (now : HaveSeen after new.front) where
    spent_known : IsKnown (claimed.Spent granted) o done marks lines s t mark workers after old new between to named
    spent_known = known_to (claimed.Spent granted) o done marks lines s t mark workers after old new between to named now

    abbrev e : Event
    e = event.Claim old.number (claimed.Spent granted)

    abbrev d : List Event
    d = spent_known.worked ++ e ∷ []

    -- nothing is claimed at the end
    spent_unclaimed : IsUnclaimed (world_after o new.front)
    spent_unclaimed =
        let w = opening_of o in
        let whole = subst (λ (es : List Event). Leads o.rules w es legal.history.last) spent_known.all legal.history.leads in
        let p = parted o.rules w old.front (to.line_events ++ d) legal.history.last whole in
        let q = parted o.rules p.at to.line_events d legal.history.last p.second in
        let first : IsUnclaimed p.at = subst IsUnclaimed (sym (events_lead o.rules w old.front p.at p.first)) spent_known.before.unclaimed in
        let entered = unclaimed_after o.rules p.at to.line_events q.at (lines_grant old.number s lines to.line_events t to.are_lines) first q.first in
        subst IsUnclaimed (events_lead o.rules w new.front legal.history.last legal.history.leads) (workers_leave o.rules q.at d legal.history.last entered spent_known.work q.second).unclaimed

    spent_last : new.front ≡ (old.front ++ (to.line_events ++ spent_known.worked)) ++ e ∷ []
    spent_last =
        spent_known.all ∙ ap (λ (es : List Event). old.front ++ es) (sym (append_assoc to.line_events spent_known.worked (e ∷ []))) ∙ sym (append_assoc old.front (to.line_events ++ spent_known.worked) (e ∷ []))

    spent_then : IsBudgetSpent o new.front granted
    spent_then =
        let events : List Event = old.front ++ (to.line_events ++ spent_known.worked) in
        subst (λ (es : List Event). IsBudgetSpent o es granted) (sym spent_last)
        (spent_committed o most old.number granted events budget (subst (IsLegal o) spent_last legal) (subst (λ (es : List Event). IsUnclaimed (world_after o es)) spent_last spent_unclaimed))

  pub spent_at : IsSpentAt o granted after new
  spent_at = record {
    numbered = spent_tells.numbered;
    number = drained_number (claimed.Spent granted) o done marks lines s t mark workers after old new between to named ∙ sym spent_tells.count;
    behind = spent_tells.behind;
    spent = spent_then;
  }

pub spent_phases : SpentPhasesEnd
spent_phases = spent_at

-- ---- the main pass goes on, or the history is closed

pub stand_on : PlaysStandOn
stand_on o done marks s workers old new between goes named = record {
  numbered = between.numbered;
  number = goes.number ∙ between.number;
  behind = behind_more workers old.front new.front goes.begins between.behind;
  played = λ seen.
      let still = alone workers old.front [] new.front between.numbered named between.behind seen goes.begins (own_at (length workers) [] old new goes between.number) in
      subst (λ (es : List Event). HavePlayed o (length workers) done es marks s) (sym (still.all ∙ append-nil old.front)) (between.played still.seen);
}

-- the history is what the main pass has seen
pub seen_all : (workers : List (Known Event)) (main : Known Event) (log : List Event) → AreNumbered 0 workers → main.number ≡ length workers → AreBehind workers main.front → IsSeenBy workers main log → IsAlone workers main.front [] log
seen_all workers main log numbered number behind seen =
    let n : ℕ = length workers in
    alone workers main.front [] log numbered seen.named behind seen.of_workers seen.of_main.begins
    (subst (λ (k : ℕ). of_pass k log ≡ of_pass k main.front) number seen.of_main.none_beyond ∙ sym (append-nil (of_pass n main.front)))

pub plays_seen : PlaysAreSeen
plays_seen o done marks s workers main log between seen =
    let still = seen_all workers main log between.numbered between.number between.behind seen in
    subst (λ (es : List Event). HavePlayed o (length workers) done es marks s) (sym (still.all ∙ append-nil main.front)) (between.played still.seen)

pub spent_seen : SpentIsSeen
spent_seen o granted workers main log spent seen =
    let still = seen_all workers main log spent.numbered spent.number spent.behind seen in
    subst (λ (es : List Event). IsBudgetSpent o es granted) (sym (still.all ∙ append-nil main.front)) (spent.spent still.seen)

pub phases_follow : PhasesFollow
phases_follow = next_between

pub nothing_played : NothingIsPlayed
nothing_played o workers main numbered number behind none = record {
  numbered = numbered;
  number = number;
  behind = behind;
  played = λ seen. record {
    unclaimed = subst (λ (es : List Event). IsUnclaimed (world_after o es)) (sym none) (opening_unclaimed o.durable o.budget);
    places = tt;
    ordered = λ i j d le inside. absurd (omega (arith, inside));
    within = All-nil (λ mark. mark ≤ length main.front);
    small = tt;
    played = λ kept. record { order = []; plays = ap (λ (es : List Event). playing_at (world_after o es) nothing_said) none; turns = λ one. tt };
  };
}
