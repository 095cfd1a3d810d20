-- An answer for a subcommand is an answer for the whole line.
use Rattle.std.proofs.Common.{◌≡◌, ◌∙◌, ◌≢◌, List, Option, Some, None, refl, sym, ap, subst, codes, Bool, true, false, arith}
use Rattle.std.specs.Prelude.{◌↔◌, Result, Ok, Err, IfOk, option_and_then, slice_get, length}
use Rattle.std.specs.Option.{IsSomeAnd}
use Rattle.std.specs.Str.{bytes_eq}
use Rattle.std.proofs.lemmas.Slice.Eq.{bytes_eq-Decides}
use Rattle.std.proofs.lemmas.Option.{slice_get_past}
use Rattle.clap.specs.Words.{App, Text}
use Rattle.dk_command.specs.declared.command.Command.{Command}
use Rattle.dk_command.specs.declared.parse.CommandRefused.{CommandRefused}
use Rattle.dk_command.specs.declared.parse.CommandRefused.TheVariants.{Usage, NoMemory}
use Rattle.dk_command.specs.Commands.{HasValues, IsAnswerOf, IsCommandLine, IsCommandOf, IsTaken, app_of_words}
use Rattle.clap.specs.Words.{matches_of}
use Rattle.dk_command.specs.Grammar.{app_named, check_app, inspect_app, play_app, serve_app, stress_app}

-- a line with this subcommand is taken exactly where the subcommand takes it
line_of : (words : List Text) (app : App) → app_of_words words ≡ Some app → IsTaken words app → IsCommandLine words
unfolding IsCommandLine
line_of words app is taken = subst (λ (o : Option App). IsSomeAnd o (IsTaken words)) (sym is) taken

taken_of : (words : List Text) (app : App) → app_of_words words ≡ Some app → IsCommandLine words → IsTaken words app
unfolding IsCommandLine
taken_of words app is line = subst (λ (o : Option App). IsSomeAnd o (IsTaken words)) is line

pub answers_ok : (words : List Text) (app : App) → app_of_words words ≡ Some app → (r : Result Command CommandRefused) → IsAnswerOf app words r
    → IfOk r (IsCommandOf words)
unfolding IsAnswerOf IsCommandOf
answers_ok words app is (Ok command) h = (
  line_of words app is h.0,
  is ∙ ap (λ (a : App). Some a) (sym h.1),
  subst (λ (a : App). HasValues (matches_of a words) command) (sym h.1) h.2,
)
answers_ok words app is (Err e) h = tt

pub answers_usage : (words : List Text) (app : App) → app_of_words words ≡ Some app → (r : Result Command CommandRefused) → IsAnswerOf app words r
    → r ≢ Err NoMemory → (r ≡ Err Usage) ↔ (¬ IsCommandLine words)
unfolding IsAnswerOf
answers_usage words app is (Ok command) h memory = ((λ e. cc), (λ no. absurd (no (line_of words app is h.0))))
answers_usage words app is (Err Usage) h memory = ((λ e line. h (taken_of words app is line)), (λ no. refl))
answers_usage words app is (Err NoMemory) h memory = absurd (memory refl)

-- where the first word names no subcommand, there is no line
pub no_line : (words : List Text) → app_of_words words ≡ None → IsCommandLine words → ⊥
unfolding IsCommandLine
no_line words is line = subst (λ (o : Option App). IsSomeAnd o (IsTaken words)) is line

-- what the first word names
pub line_app : (words : List Text) (word : Text) (o : Option App) → slice_get words 0 ≡ Some word → app_named word ≡ o → app_of_words words ≡ o
line_app words word o first named = ap (λ (w : Option Text). option_and_then app_named w) first ∙ named

-- where it names a subcommand, it is not unknown
pub known : (words : List Text) (app : App) → app_of_words words ≡ Some app → app_of_words words ≡ None → ⊥
known words app is none =
    let bad : Some app ≡ None = sym is ∙ none in
    cc

pub named_play : (word : Text) → word ≡ codes "play" → app_named word ≡ Some play_app
unfolding app_named
named_play word e = subst (λ (w : Text). app_named w ≡ Some play_app) (sym e) refl

pub named_serve : (word : Text) → word ≡ codes "serve" → app_named word ≡ Some serve_app
unfolding app_named
named_serve word e = subst (λ (w : Text). app_named w ≡ Some serve_app) (sym e) refl

pub named_check : (word : Text) → word ≡ codes "check" → app_named word ≡ Some check_app
unfolding app_named
named_check word e = subst (λ (w : Text). app_named w ≡ Some check_app) (sym e) refl

pub named_inspect : (word : Text) → word ≡ codes "inspect" → app_named word ≡ Some inspect_app
unfolding app_named
named_inspect word e = subst (λ (w : Text). app_named w ≡ Some inspect_app) (sym e) refl

pub named_stress : (word : Text) → word ≡ codes "stress" → app_named word ≡ Some stress_app
unfolding app_named
named_stress word e = subst (λ (w : Text). app_named w ≡ Some stress_app) (sym e) refl

other_word : (word name : Text) → (word ≡ name → ⊥) → bytes_eq word name ≡ false
other_word word name differs = go (bytes_eq word name) refl
  where
    go : (b : Bool) → bytes_eq word name ≡ b → bytes_eq word name ≡ false
    go true e = absurd (differs ((bytes_eq-Decides word name).0 e))
    go false e = e

pub named_none : (word : Text) → (word ≡ codes "play" → ⊥) → (word ≡ codes "serve" → ⊥) → (word ≡ codes "check" → ⊥) → (word ≡ codes "inspect" → ⊥)
    → (word ≡ codes "stress" → ⊥) → app_named word ≡ None
unfolding app_named
named_none word play serve check inspect stress =
    rw (
      other_word word (codes "play") play,
      other_word word (codes "serve") serve,
      other_word word (codes "check") check,
      other_word word (codes "inspect") inspect,
      other_word word (codes "stress") stress,
    ) refl

-- where there is no first word, none is named
pub no_words : (words : List Text) → length words ≡ 0 → app_of_words words ≡ None
no_words words e = ap (λ (w : Option Text). option_and_then app_named w) (slice_get_past words 0 (omega arith))
