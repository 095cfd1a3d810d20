-- Claims that were granted nothing print nothing, and change nothing.
use Rattle.std.proofs.Common.{◌≡◌, ℕ, ◌+◌, Bool, true, false, cond, List, [], ◌∷◌, ◌++◌, map, codes, refl, sym, ap, subst, ◌∙◌}
use Rattle.std.specs.Fmt.{decimal}
use Rattle.std.specs.List.{AllByRecursion}
use Rattle.std.proofs.lemmas.List.Elements.{filter-append}
use Rattle.dk_types.specs.declared.event.Event.{Event}
use Rattle.dk_types.specs.declared.event.Event.TheVariants as event
use Rattle.dk_types.specs.declared.event.ClaimReply.{ClaimReply}
use Rattle.dk_types.specs.declared.event.ClaimReply.TheVariants as claimed
use Rattle.dk_model.specs.Lines.{text_of}
use Rattle.dk_model.specs.Transcripts.{Known, nothing_known, event_lines, knowing, lines_of_events, known_after, lines_of_phases, done_line, transcript_text}
use Rattle.dk_play_laws.specs.Reported.{is_granted, is_reported, reported_of, SilentClaimsPrintNothing}

-- of a claim that was granted nothing there is no line
silent_lines : (reply : ClaimReply) (known : Known) (pass : ℕ) → is_granted reply ≡ false → event_lines known (event.Claim pass reply) ≡ []
silent_lines (claimed.Granted run at job) known pass off = absurd cc
silent_lines claimed.Nothing known pass off = refl
silent_lines (claimed.Spent granted) known pass off = refl
silent_lines (claimed.Exhausted next) known pass off = refl

-- what is told of an event, and what is known after it: nothing of one that is not told
record IsSilent (known : Known) (e : Event) : Type 0 where
  lines : event_lines known e ≡ []
  same : knowing known e ≡ known

silent : (known : Known) (e : Event) → is_reported e ≡ false → IsSilent known e
silent known (event.Claim pass reply) off = record { lines = silent_lines reply known pass off; same = refl }
silent known (event.Connect pass name reply) off = absurd cc
silent known (event.Post pass conn input reply) off = absurd cc
silent known (event.Release pass run) off = absurd cc
silent known (event.Commit pass run seq outcome) off = absurd cc
silent known (event.Hand pass conn most outs end) off = absurd cc
silent known (event.Tick pass moment) off = absurd cc

-- by whether the first event is told
told_cons : (e : Event) (events : List Event) (b : Bool) → is_reported e ≡ b → reported_of (e ∷ events) ≡ cond b (e ∷ reported_of events) (reported_of events)
told_cons e events b is = ap (λ t. cond t (e ∷ reported_of events) (reported_of events)) is

pub told_first : (e : Event) (events : List Event) → is_reported e ≡ true → reported_of (e ∷ events) ≡ e ∷ reported_of events
told_first e events is = told_cons e events true is

pub told_rest : (e : Event) (events : List Event) → is_reported e ≡ false → reported_of (e ∷ events) ≡ reported_of events
told_rest e events is = told_cons e events false is

-- the same lines are told without them
pub told_lines : (known : Known) (events : List Event) → lines_of_events known (reported_of events) ≡ lines_of_events known events
told_lines known [] = refl
told_lines known (e ∷ events) = elim (is_reported e) as (λ b. is_reported e ≡ b → lines_of_events known (reported_of (e ∷ events)) ≡ lines_of_events known (e ∷ events)) [
  | true ↦ λ is. ap (lines_of_events known) (told_first e events is) ∙ ap (λ (ls : List (List ℕ)). event_lines known e ++ ls) (told_lines (knowing known e) events)
  | false ↦ λ is.
      let s = silent known e is in
      ap (lines_of_events known) (told_rest e events is) ∙ told_lines known events ∙ ap (λ (k : Known). lines_of_events k events) (sym s.same)
      ∙ ap (λ (ls : List (List ℕ)). ls ++ lines_of_events (knowing known e) events) (sym s.lines)
] refl

-- and the same is known
pub told_known : (known : Known) (events : List Event) → known_after known (reported_of events) ≡ known_after known events
told_known known [] = refl
told_known known (e ∷ events) = elim (is_reported e) as (λ b. is_reported e ≡ b → known_after known (reported_of (e ∷ events)) ≡ known_after known (e ∷ events)) [
  | true ↦ λ is. ap (known_after known) (told_first e events is) ∙ told_known (knowing known e) events
  | false ↦ λ is.
      let s = silent known e is in
      ap (known_after known) (told_rest e events is) ∙ told_known known events ∙ ap (λ (k : Known). known_after k events) (sym s.same)
] refl

told_phases : (number : ℕ) (known : Known) (phases : List (List Event)) → lines_of_phases number known (map reported_of phases) ≡ lines_of_phases number known phases
told_phases number known [] = refl
told_phases number known (events ∷ phases) =
    let head : List ℕ = codes "phase " ++ decimal number in
    ap (λ (ls : List (List ℕ)). (head ∷ ls) ++ lines_of_phases (number + 1) (known_after known (reported_of events)) (map reported_of phases)) (told_lines known events)
    ∙ ap (λ (k : Known). (head ∷ lines_of_events known events) ++ lines_of_phases (number + 1) k (map reported_of phases)) (told_known known events)
    ∙ ap (λ (ls : List (List ℕ)). (head ∷ lines_of_events known events) ++ ls) (told_phases (number + 1) (known_after known events) phases)

pub silent_told : SilentClaimsPrintNothing
unfolding transcript_text
silent_told phases commits tasks = ap (λ (ls : List (List ℕ)). text_of (ls ++ done_line commits tasks ∷ [])) (told_phases 0 nothing_known phases)

-- what holds of all events holds of those that are told
pub told_all : (P : Event → Type 0) (events : List Event) → AllByRecursion P events → AllByRecursion P (reported_of events)
told_all P [] h = tt
told_all P (e ∷ events) h = elim (is_reported e) as (λ b. is_reported e ≡ b → AllByRecursion P (reported_of (e ∷ events))) [
  | true ↦ λ is. subst (AllByRecursion P) (sym (told_first e events is)) (h.0, told_all P events h.1)
  | false ↦ λ is. subst (AllByRecursion P) (sym (told_rest e events is)) (told_all P events h.1)
] refl

pub told_append : (xs ys : List Event) → reported_of (xs ++ ys) ≡ reported_of xs ++ reported_of ys
told_append xs ys = filter-append is_reported xs ys
