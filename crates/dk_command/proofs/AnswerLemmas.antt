-- The answer for a subcommand, by what `clap` found.
use Rattle.std.proofs.Common.{◌≡◌, ◌∙◌, ◌≤◌, ◌<◌, ℕ, true, List, [], Option, Some, None, codes, refl, sym, ap, subst, arith}
use Rattle.std.specs.Prelude.{Result, Ok, Err, IfOk, IsErrAnd, IsSome}
use Rattle.std.specs.Option.{IfSome, option_map_or}
use Rattle.clap.specs.Words.{App, IsUnsignedIn, Row, Text, fault_of, first_of, found_of, matches_of, one_of, rows_of}
use Rattle.clap.specs.declared.parser.matches.ArgMatches.{ArgMatches}
use Rattle.dk_command.specs.declared.command.Command.{Command}
use Rattle.dk_command.specs.declared.parse.CommandRefused.{CommandRefused}
use Rattle.dk_command.specs.declared.parse.CommandRefused.TheVariants.{Usage, NoMemory}
use Rattle.dk_command.specs.Commands.{HasValues, IsAnswerOf, IsTaken, app_of_command, has_game}
use Rattle.dk_command.specs.Found.{IsBetween, IsFlag, IsReadAs, is_plain, takes_flag, takes_number, wants_value}
use Rattle.dk_command.proofs.GetterLemmas.{none_not_some}
use Rattle.dk_command.specs.Matches.{game_in, number_or, spelled_number}
use Rattle.dk_command.specs.Requests.{AreFew}
use Rattle.dk_types.specs.declared.limits.TheConstants.{TASKS_MOST_COUNT}

-- the matches, by the grammar's own name and by the words that were passed
pub read_here : (a app : App) (xs words : List Text) (m : ArgMatches) → a ≡ app → xs ≡ words → IsReadAs a xs m → IsReadAs app words m
read_here a app xs words m same list h = subst (λ (b : App). IsReadAs b words m) same (subst (λ (ys : List Text). IsReadAs a ys m) list h)

-- what the grammar says of an argument, of the matches
pub plain_here : (a app : App) → a ≡ app → is_plain app ≡ true → is_plain a ≡ true
plain_here a app same plain = subst (λ (b : App). is_plain b ≡ true) (sym same) plain

pub given_here : (a app : App) (xs : List Text) (m : ArgMatches) → a ≡ app → IsReadAs a xs m → (name : Text) → wants_value name app ≡ true
    → IsSome (first_of name (rows_of (found_of m)))
given_here a app xs m same h name wants = h.given name (subst (λ (b : App). wants_value name b ≡ true) (sym same) wants)

pub between_here : (a app : App) (xs : List Text) (m : ArgMatches) → a ≡ app → IsReadAs a xs m → (name : Text) (least most : ℕ)
    → takes_number name least most app ≡ true → IsBetween least most name (rows_of (found_of m))
between_here a app xs m same h name least most takes =
    h.numbers name least most (subst (λ (b : App). takes_number name least most b ≡ true) (sym same) takes)

pub flag_here : (a app : App) (xs : List Text) (m : ArgMatches) → a ≡ app → IsReadAs a xs m → (name : Text) → takes_flag name app ≡ true
    → IsFlag name (rows_of (found_of m))
flag_here a app xs m same h name takes = h.flags name (subst (λ (b : App). takes_flag name b ≡ true) (sym same) takes)

-- a fault there is a fault here
pub fault_here : (a app : App) (xs words : List Text) (e : CommandRefused) → a ≡ app → xs ≡ words
    → (◌≡◌ {A = Result ArgMatches CommandRefused} (Err e) (Err Usage) → fault_of a xs ≡ [] → ⊥) → IsAnswerOf app words (Err e)
unfolding IsAnswerOf IsTaken
fault_here a app xs words Usage same list h = λ taken.
    h refl (subst (λ (b : App). fault_of b xs ≡ []) (sym same) (subst (λ (ys : List Text). fault_of app ys ≡ []) (sym list) taken.0))
fault_here a app xs words NoMemory same list h = tt

-- want of memory is an answer for all words
pub memory_here : (app : App) (words : List Text) (e : CommandRefused) → e ≡ NoMemory → IsAnswerOf app words (Err e)
unfolding IsAnswerOf
memory_here app words e is = subst (λ (x : CommandRefused). IsAnswerOf app words (Err x)) (sym is) tt

-- an answer that is not `Usage` is want of memory
pub other_here : (app : App) (words : List Text) (e : CommandRefused) → (e ≡ Usage → ⊥) → IsAnswerOf app words (Err e)
unfolding IsAnswerOf
other_here app words Usage h = absurd (h refl)
other_here app words NoMemory h = tt

-- what `?` hands on: want of memory, an answer of `read`, and one that is not `Usage`
pub memory_up : (app : App) (words : List Text) (r : Result Command CommandRefused) → IsErrAnd r (λ e. e ≡ NoMemory) → IsAnswerOf app words r
memory_up app words (Ok command) h = absurd h
memory_up app words (Err e) h = memory_here app words e h

pub fault_up : (a app : App) (xs words : List Text) (e : CommandRefused) → a ≡ app → xs ≡ words
    → (◌≡◌ {A = Result ArgMatches CommandRefused} (Err e) (Err Usage) → fault_of a xs ≡ [] → ⊥) → (r : Result Command CommandRefused) → IsErrAnd r (λ f. f ≡ e)
    → IsAnswerOf app words r
fault_up a app xs words e same list h (Ok command) is = absurd is
fault_up a app xs words e same list h (Err f) is =
    subst (λ (x : CommandRefused). IsAnswerOf app words (Err x)) (sym is) (fault_here a app xs words e same list h)

pub other_up : (app : App) (words : List Text) (e : CommandRefused) → (e ≡ Usage → ⊥) → (r : Result Command CommandRefused) → IsErrAnd r (λ f. f ≡ e)
    → IsAnswerOf app words r
other_up app words e h (Ok command) is = absurd is
other_up app words e h (Err f) is = subst (λ (x : CommandRefused). IsAnswerOf app words (Err x)) (sym is) (other_here app words e h)

-- a game that is none
pub no_game_here : (app : App) (words : List Text) (m : ArgMatches) → IsReadAs app words m → has_game app ≡ true → None ≡ game_in (rows_of (found_of m))
    → IsAnswerOf app words (Err Usage)
unfolding IsAnswerOf IsTaken
no_game_here app words m read has none = λ taken. none_not_some (game_in (matches_of app words)) (none ∙ ap game_in read.rows) (taken.1 has)

-- a command with the values that were found
pub values_here : (app : App) (words : List Text) (m : ArgMatches) (command : Command) → IsReadAs app words m
    → (has_game app ≡ true → IsSome (game_in (rows_of (found_of m)))) → app_of_command command ≡ app
    → HasValues (rows_of (found_of m)) command → IsAnswerOf app words (Ok command)
unfolding IsAnswerOf IsTaken
values_here app words m command read game same values = (
  (read.taken, λ has. subst (λ (rows : List Row). IsSome (game_in rows)) read.rows (game has)),
  same,
  subst (λ (rows : List Row). HasValues rows command) read.rows values,
)

-- the number of an option is at most what the option and the default are at most
pub number_most : (least most other : ℕ) (name : Text) (rows : List Row) → IsBetween least most name rows → other ≤ most → number_or other name rows ≤ most
unfolding IsBetween number_or
number_most least most other name rows h fits = go (one_of name rows) h
  where
    go : (o : Option Text) → IfSome o (IsUnsignedIn least most) → option_map_or spelled_number o other ≤ most
    go None k = fits
    go (Some t) k = k.3

-- so it fits a type that holds what the option is at most
pub number_fits : (least most other bound : ℕ) (name : Text) (rows : List Row) (n : ℕ) → n ≡ number_or other name rows → IsBetween least most name rows
    → other ≤ most → most < bound → n < bound
number_fits least most other bound name rows n is h fits wide =
    let at_most : n ≤ most = rw is (number_most least most other name rows h fits) in
    omega arith

-- a command that was found asks for as few tasks as its option allows
pub few_here : (rows : List Row) (n : ℕ) → n ≡ number_or 1000 (codes "tasks") rows → IsBetween 1 65536 (codes "tasks") rows → n ≤ TASKS_MOST_COUNT
few_here rows n is h = rw is (number_most 1 65536 1000 (codes "tasks") rows h (omega arith))

-- and a server for as few workers and clients as its options allow
pub few_served : (rows : List Row) (n m : ℕ) → n ≡ number_or 2 (codes "workers") rows → IsBetween 1 64 (codes "workers") rows
    → m ≡ number_or 16 (codes "clients") rows → IsBetween 1 256 (codes "clients") rows → (n ≤ 64) × (m ≤ 256)
few_served rows n m is h also k = (rw is (number_most 1 64 2 (codes "workers") rows h (omega arith)), rw also (number_most 1 256 16 (codes "clients") rows k (omega arith)))

-- what is an error asks for nothing
pub few_up : (E : CommandRefused → Type 0) (r : Result Command CommandRefused) → IsErrAnd r E → IfOk r AreFew
few_up E (Ok command) h = absurd h
few_up E (Err e) h = tt
