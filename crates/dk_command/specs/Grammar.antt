-- What each subcommand takes: the arguments of its `clap` command, as `clap` reads them.
use Rattle.std.specs.Prelude.{ℕ, List, [], ◌∷◌, Option, Some, None, true, codes}
use Rattle.std.specs.Prelude.{if◌then◌else◌}
use Rattle.std.specs.Str.{bytes_eq}
use Rattle.clap.specs.Words.{App, Rule, Text, new_rule}
use Rattle.clap.specs.Simple.{new_shape}
use Rattle.clap.specs.declared.builder.action.ArgAction.TheVariants.{Set, SetTrue}
use Rattle.clap.specs.declared.builder.value_parser.ValueParser.TheVariants as vp

-- `DIR`: one word, which has to be there
abbrev pub dir_rule : Rule
dir_rule = record (new_rule (codes "DIR")) { required = true; action = Some Set }

-- `--NAME TEXT`
abbrev pub text_rule : Text → Rule
text_rule name = record (new_rule name) { long = Some name; action = Some Set }

-- `--NAME N`, where N is a number from `least` to `most`
abbrev pub number_rule : Text → ℕ → ℕ → Rule
number_rule name least most = record (text_rule name) { parser = Some (vp.Unsigned least most) }

-- the same, which has to be there
abbrev pub required_number_rule : Text → ℕ → ℕ → Rule
required_number_rule name least most = record (number_rule name least most) { required = true }

-- `--NAME`
abbrev pub flag_rule : Text → Rule
flag_rule name =
    record (new_rule name) { long = Some name; action = Some SetTrue; parser = Some vp.Bool }

-- the `clap` command of a subcommand: its name, its arguments, no help flag and no version flag
abbrev pub grammar : Text → List Rule → App
grammar name rules = record {
  top = record (new_shape name) { rules = rules; disable_help_flag = true };
  subs = [];
}

-- play DIR [--game G] [--workers W] [--budget N] [--checkpoint]
unfoldable pub play_app : App
play_app = grammar (codes "play") (dir_rule ∷ text_rule (codes "game")
    ∷ number_rule (codes "workers") 1 64 ∷ number_rule (codes "budget") 1 1000000000
    ∷ flag_rule (codes "checkpoint") ∷ [])

-- serve DIR --port P [--game G] [--workers W] [--clients C] [--sessions N]
unfoldable pub serve_app : App
serve_app = grammar (codes "serve") (dir_rule ∷ required_number_rule (codes "port") 1 65535
    ∷ text_rule (codes "game") ∷ number_rule (codes "workers") 1 64
    ∷ number_rule (codes "clients") 1 256 ∷ number_rule (codes "sessions") 0 1000000 ∷ [])

-- check DIR [--game G]
unfoldable pub check_app : App
check_app = grammar (codes "check") (dir_rule ∷ text_rule (codes "game") ∷ [])

-- inspect DIR [--game G]
unfoldable pub inspect_app : App
inspect_app = grammar (codes "inspect") (dir_rule ∷ text_rule (codes "game") ∷ [])

-- stress [--seed S] [--tasks N] [--workers W]
unfoldable pub stress_app : App
stress_app = grammar (codes "stress") (number_rule (codes "seed") 0 65536
    ∷ number_rule (codes "tasks") 1 65536 ∷ number_rule (codes "workers") 1 64 ∷ [])

-- what the subcommand of this name takes
unfoldable pub app_named : Text → Option App
app_named name = if bytes_eq name (codes "play") then Some play_app
    else (if bytes_eq name (codes "serve") then Some serve_app
    else (if bytes_eq name (codes "check") then Some check_app
    else (if bytes_eq name (codes "inspect") then Some inspect_app
    else (if bytes_eq name (codes "stress") then Some stress_app else None))))
