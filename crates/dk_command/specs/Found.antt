-- What is known of the values that `clap` found, by the grammar.
use Rattle.std.specs.Prelude.{◌≡◌, ◌==◌, ◌&&◌, ◌||◌, ℕ, Bool, true, false, not, List, []}
use Rattle.std.specs.Prelude.{Option, Some, IsSome, is_some, codes}
use Rattle.std.specs.List.{list_all, list_any}
use Rattle.std.specs.Option.{IfSome}
use Rattle.std.specs.Str.{bytes_eq}
use Rattle.clap.specs.Words.{App, IsUnsignedIn, Row, Rule, Text, fault_of, first_of, found_of}
use Rattle.clap.specs.Words.{is_simple_and_free, matches_of, one_of, rows_of}
use Rattle.clap.specs.Values.{Accepts}
use Rattle.clap.specs.Walk.{is_empty}
use Rattle.clap.specs.declared.builder.action.ArgAction.{ArgAction}
use Rattle.clap.specs.declared.builder.action.ArgAction.TheVariants.{Set}
use Rattle.clap.specs.declared.builder.value_parser.ValueParser.{ValueParser}
use Rattle.clap.specs.declared.builder.value_parser.ValueParser.TheVariants as vp
use Rattle.clap.specs.declared.parser.matches.ArgMatches.{ArgMatches}

-- no argument has a rule on another, and no subcommand lifts what is required
abbrev pub is_plain : App → Bool
is_plain app = is_simple_and_free app
    && (list_all (λ r. r.is_free) app.top.rules && not app.top.subcommand_negates_reqs)

-- a name of an argument of ours, and of neither of the two flags that `clap` adds by itself
abbrev pub is_own : Text → Bool
is_own name = not (is_empty name)
    && (not (bytes_eq (codes "help") name) && not (bytes_eq (codes "version") name))

-- the arguments of this name pass the test
abbrev pub all_named : Text → (Rule → Bool) → App → Bool
all_named name test app = list_all (λ r. not (bytes_eq r.id name) || test r) app.top.rules

-- whether the parser takes the numbers of this range
abbrev pub is_between : ℕ → ℕ → Option ValueParser → Bool
is_between least most (Some (vp.Unsigned a b)) = a == least && b == most
is_between least most _ = false

-- the option of this name takes a number from `least` to `most`
unfoldable pub takes_number : Text → ℕ → ℕ → App → Bool
takes_number name least most app =
    is_own name && all_named name (λ r. is_between least most r.parser) app

-- whether the parser takes a flag
abbrev pub is_bool : Option ValueParser → Bool
is_bool (Some vp.Bool) = true
is_bool _ = false

-- the argument of this name is a flag
unfoldable pub takes_flag : Text → App → Bool
takes_flag name app = is_own name && all_named name (λ r. is_bool r.parser) app

-- whether the argument takes one value
abbrev pub is_set_action : Option ArgAction → Bool
is_set_action (Some Set) = true
is_set_action _ = false

-- each use of the argument has one value
abbrev pub takes_one : Rule → Bool
takes_one r = is_set_action r.action && (not (is_some r.range) && r.is_simple)

-- the argument of this name has to be there, with a value
unfoldable pub wants_value : Text → App → Bool
wants_value name app = is_own name && (list_any (λ r. bytes_eq r.id name && r.required) app.top.rules
    && all_named name takes_one app)

-- where the option is given, its text is a number from `least` to `most`
unfoldable pub IsBetween : ℕ → ℕ → Text → List Row → Type 0
IsBetween least most name rows = IfSome (one_of name rows) (IsUnsignedIn least most)

-- where the flag has a value, that is `true` or `false`
unfoldable pub IsFlag : Text → List Row → Type 0
IsFlag name rows = IfSome (one_of name rows) (Accepts false vp.Bool)

-- the matches are those of words in which `clap` finds no fault, and each value is as the grammar wants it
pub record IsReadAs (app : App) (words : List Text) (m : ArgMatches) : Type 0 where
  pub taken : fault_of app words ≡ []
  pub rows : rows_of (found_of m) ≡ matches_of app words
  pub numbers : (name : Text) (least most : ℕ) → takes_number name least most app ≡ true
      → IsBetween least most name (rows_of (found_of m))
  pub flags : (name : Text) → takes_flag name app ≡ true → IsFlag name (rows_of (found_of m))
  pub given : (name : Text) → wants_value name app ≡ true
      → IsSome (first_of name (rows_of (found_of m)))
