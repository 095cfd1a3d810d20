-- A session goes on: its pass has seen more, its counts have not fallen, and for what it waits.
use Rattle.std.proofs.Common.{◌≡◌, ◌⊎◌, ℕ, ◌<◌, ◌≤◌, Bool, List, ◌++◌, Option, Some, None, IsSome, inl, inr, refl, sym, ap, subst, ◌∙◌, append_assoc, arith}
use Rattle.std.proofs.lemmas.Bool.Decides.{eqb_tells}
use mathlib.Core.List.{IsPrefix}
use Rattle.futures.specs.Task.{IsArmed, Keeps, Lasting}
use Rattle.futures.specs.declared.task.context.Context.{Context}
use Rattle.dk_types.specs.Faults.{HasRisen}
use Rattle.dk_types.specs.declared.number.ConnNo.{ConnNo}
use Rattle.dk_types.specs.declared.event.Event.{Event}
use Rattle.dk_model.specs.Legal.{Opened}
use Rattle.dk_host.specs.Calls.{Entered}
use Rattle.dk_turn.specs.Fronts.{Known}
use Rattle.dk_turn.proofs.Beginnings.{prefix_self}
use Rattle.dk_pump.specs.declared.ends.SessionEnd.{SessionEnd}
use Rattle.dk_pump.specs.declared.course.Course.{Course}
use Rattle.dk_pump.specs.Sessions.{LinkState, KeepsPut, EndsReading}
use Rattle.dk_pump.specs.Waiting.{FindsNothing, HasNothing, WaitsToRead, WaitsToWrite, MayWait, IsLater, IsStill}

-- ---- counts

less_or_same : (a b : ℕ) → a ≤ b → (a < b) ⊎ (a ≡ b)
less_or_same a b le = elim (eqb_tells a b) [ inl same ↦ inr same.1 | inr other ↦ inl (let not = other.1 in omega (arith, le, not)) ]

pub risen_on : (a b c : ℕ) → HasRisen a b → b ≤ c → HasRisen a c
risen_on a b c h le = elim h [
  | inl less ↦ inl (omega (arith, less, le))
  | inr full ↦ elim (less_or_same b c le) [
    | inl more ↦ inl (let is = full.0 in let at = full.1 in omega (arith, is, at, more))
    | inr same ↦ inr (full.0, sym same ∙ full.1)
  ]
]

pub risen_since : (a b c : ℕ) → a ≤ b → HasRisen b c → HasRisen a c
risen_since a b c le h = elim h [
  | inl less ↦ inl (omega (arith, less, le))
  | inr full ↦ elim (less_or_same a b le) [
    | inl more ↦ inl (let is = full.0 in let at = full.1 in omega (arith, is, at, more))
    | inr same ↦ inr (same ∙ full.0, full.1)
  ]
]

pub risen_most : (a b : ℕ) → HasRisen a b → a ≤ b
risen_most a b h = elim h [ inl less ↦ omega (arith, less) | inr full ↦ let is = full.0 in let at = full.1 in omega (arith, is, at) ]

-- ---- what the pass has seen

pub prefix_then : (a b c : List Event) → IsPrefix a b → IsPrefix b c → IsPrefix a c
prefix_then a b c first second = (first.0 ++ second.0, sym (append_assoc a first.0 second.0) ∙ ap (λ es. es ++ second.0) first.1 ∙ second.1)

pub entered_begins : (o : Opened) (pass : ℕ) (events old new : List Event) → Entered o pass events old new → IsPrefix old new
entered_begins o pass events old new e = (e.continues.later ++ events, sym (append_assoc old e.continues.later events) ∙ ap (λ es. es ++ events) (sym e.continues.all) ∙ sym e.front)

-- ---- a session later on

pub later_self : (pass : Known Event) (link : LinkState) → IsLater pass link pass link
later_self pass link = record { number = refl; front = prefix_self pass.front; takes = omega arith; puts = omega arith }

pub later_then : (pass mid pass' : Known Event) (link at link' : LinkState) → IsLater pass link mid at → IsLater mid at pass' link' → IsLater pass link pass' link'
later_then pass mid pass' link at link' a b = record {
  number = b.number ∙ a.number;
  front = prefix_then pass.front mid.front pass'.front a.front b.front;
  takes = let one = a.takes in let two = b.takes in omega (arith, one, two);
  puts = let one = a.puts in let two = b.puts in omega (arith, one, two);
}

-- by a call, with the link as it was
pub later_by : (pass pass' : Known Event) (link : LinkState) → pass'.number ≡ pass.number → IsPrefix pass.front pass'.front → IsLater pass link pass' link
later_by pass pass' link same begins = record { number = same; front = begins; takes = omega arith; puts = omega arith }

-- by a poll of taking
pub later_on_link : (pass : Known Event) (link link' : LinkState) → link.take_waits ≤ link'.take_waits → KeepsPut link link' → IsLater pass link pass link'
later_on_link pass link link' more kept = record { number = refl; front = prefix_self pass.front; takes = more; puts = let same = kept.waits in omega (arith, same) }

-- by the end of reading
pub later_by_end : (o : Opened) (keeps : Bool) (count : ℕ) (conn : Option ConnNo) (end : SessionEnd) (pass pass' : Known Event) (c c' : Course) (link : LinkState) → EndsReading o keeps count conn end pass c pass' c' → IsLater pass link pass' link
later_by_end o keeps count None end pass pass' c c' link e = subst (λ p. IsLater pass link p link) (sym e.0) (later_self pass link)
later_by_end o keeps count (Some conn) end pass pass' c c' link e = later_by pass pass' link e.1 e.2.enters.begins

-- ---- waiting

found_wider : (o : Opened) (n n' : ℕ) (conn : Option ConnNo) (first old new last : List Event) → n' ≡ n → IsPrefix first old → IsPrefix new last → HasNothing o n conn old new → HasNothing o n' conn first last
found_wider o n n' None first old new last same begins seen h = tt
found_wider o n n' (Some conn) first old new last same begins seen h = subst (λ m. FindsNothing o m conn first last) (sym same) (record {
  before = h.before;
  most = h.most;
  begins = prefix_then first old h.before begins h.begins;
  seen = prefix_then _ new last h.seen seen;
  nothing = h.nothing;
})

-- neither direction can go on
pub may_wait : (o : Opened) (pass at mid pass' : Known Event) (link l₁ l₂ link' : LinkState) (c c' : Course) → IsLater pass link at l₁ → IsLater at l₁ mid l₂ → IsLater mid l₂ pass' link' → WaitsToWrite o at l₁ mid l₂ c → WaitsToRead l₂ link' c' → IsStill c c'
    → (IsSome c'.end → IsSome c'.conn) → MayWait o pass link pass' link' c'
may_wait o pass at mid pass' link l₁ l₂ link' c c' a b d writing reading still there = record {
  reading = elim reading [
    | inl risen ↦ inl (risen_since link.take_waits l₂.take_waits link'.take_waits (let one = a.takes in let two = b.takes in omega (arith, one, two)) risen)
    | inr ended ↦ inr (ended, there ended)
  ];
  writing = elim writing [
    | inl risen ↦ inl (risen_on link.put_waits l₂.put_waits link'.put_waits (risen_since link.put_waits l₁.put_waits l₂.put_waits a.puts risen) d.puts)
    | inr none ↦ inr (subst (λ k. HasNothing o pass'.number k pass.front pass'.front) (sym still.conn) (found_wider o mid.number pass'.number c.conn pass.front at.front mid.front pass'.front d.number a.front d.front none))
  ];
}

-- ---- counts of one poll

-- ---- a context of a poll that is pending

-- whichever direction it waits for, it has registered or asked for another poll
pub armed_of : (end : Option SessionEnd) (conn : Option ConnNo) (at last : Context) → (end ≡ None → IsArmed last) → (IsSome conn → IsArmed at) → Keeps at last → (IsSome end → IsSome conn) → IsArmed last
armed_of None conn at last reads writes kept there = reads refl
armed_of (Some end) conn at last reads writes kept there = kept Lasting.armed (writes (there refl))
