-- What the grammars of the subcommands want, by computation.
use Rattle.std.proofs.Common.{◌≡◌, true, refl, codes}
use Rattle.clap.proofs.OnLiterals.{clap_on_literals}
use Rattle.dk_command.specs.Commands.{has_game}
use Rattle.dk_command.specs.Found.{is_plain, takes_flag, takes_number, wants_value}
use Rattle.dk_command.specs.Grammar.{check_app, inspect_app, play_app, serve_app, stress_app}

pub play_is_plain : is_plain play_app ≡ true
unfolding play_app clap_on_literals
play_is_plain = refl

pub serve_is_plain : is_plain serve_app ≡ true
unfolding serve_app clap_on_literals
serve_is_plain = refl

pub check_is_plain : is_plain check_app ≡ true
unfolding check_app clap_on_literals
check_is_plain = refl

pub inspect_is_plain : is_plain inspect_app ≡ true
unfolding inspect_app clap_on_literals
inspect_is_plain = refl

pub stress_is_plain : is_plain stress_app ≡ true
unfolding stress_app clap_on_literals
stress_is_plain = refl

pub play_wants_dir : wants_value (codes "DIR") play_app ≡ true
unfolding play_app wants_value
play_wants_dir = refl

pub serve_wants_dir : wants_value (codes "DIR") serve_app ≡ true
unfolding serve_app wants_value
serve_wants_dir = refl

pub check_wants_dir : wants_value (codes "DIR") check_app ≡ true
unfolding check_app wants_value
check_wants_dir = refl

pub inspect_wants_dir : wants_value (codes "DIR") inspect_app ≡ true
unfolding inspect_app wants_value
inspect_wants_dir = refl

pub play_workers : takes_number (codes "workers") 1 64 play_app ≡ true
unfolding play_app takes_number
play_workers = refl

pub play_budget : takes_number (codes "budget") 1 1000000000 play_app ≡ true
unfolding play_app takes_number
play_budget = refl

pub play_checkpoint : takes_flag (codes "checkpoint") play_app ≡ true
unfolding play_app takes_flag
play_checkpoint = refl

pub serve_port : takes_number (codes "port") 1 65535 serve_app ≡ true
unfolding serve_app takes_number
serve_port = refl

pub serve_workers : takes_number (codes "workers") 1 64 serve_app ≡ true
unfolding serve_app takes_number
serve_workers = refl

pub serve_clients : takes_number (codes "clients") 1 256 serve_app ≡ true
unfolding serve_app takes_number
serve_clients = refl

pub serve_sessions : takes_number (codes "sessions") 0 1000000 serve_app ≡ true
unfolding serve_app takes_number
serve_sessions = refl

pub stress_seed : takes_number (codes "seed") 0 65536 stress_app ≡ true
unfolding stress_app takes_number
stress_seed = refl

pub stress_tasks : takes_number (codes "tasks") 1 65536 stress_app ≡ true
unfolding stress_app takes_number
stress_tasks = refl

pub stress_workers : takes_number (codes "workers") 1 64 stress_app ≡ true
unfolding stress_app takes_number
stress_workers = refl

pub play_has_game : has_game play_app ≡ true
unfolding play_app
play_has_game = refl

pub serve_has_game : has_game serve_app ≡ true
unfolding serve_app
serve_has_game = refl

pub check_has_game : has_game check_app ≡ true
unfolding check_app
check_has_game = refl

pub inspect_has_game : has_game inspect_app ≡ true
unfolding inspect_app
inspect_has_game = refl

pub stress_has_no_game : has_game stress_app ≡ true → ⊥
unfolding stress_app
stress_has_no_game h = cc
