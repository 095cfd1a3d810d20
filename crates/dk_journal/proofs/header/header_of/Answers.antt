use Rattle.std.proofs.Common.{◌≡◌, ℕ, ◌+◌, ◌-◌, ◌==◌, rules, true, take, drop, ap, sym, ◌∙◌, subst, arith}
use Rattle.std.proofs.lemmas.List.{take_all, length-drop}
use Rattle.std.specs.List.{list_all}
use Rattle.dk_types.specs.GameIds.{IsGameId}
use Rattle.dk_model.specs.Stores.{format_in, epoch_in, is_visible, game_in, game_length_in}
use Rattle.dk_journal.proofs.HeaderBytes.{IsBegun, unfilled_fault, read_as}
use Rattle.dk_journal.proofs.header.header_of.Goals as goal

pub returns-then-not-are_zeros : goal.returns-then-not-are_zeros
returns-then-not-are_zeros c =
    let bytes = c.args.bytes.now in
    let f : c.read_u16-format.result ≡ format_in c.args.bytes.now = c.read_u16-format.ensures ∙ omega arith in
    let e : c.read_u64-epoch.result ≡ epoch_in c.args.bytes.now = c.read_u64-epoch.ensures ∙ omega arith in
    let begun : IsBegun c.args.bytes.now = record { are_letters = search rules; known = search rules; epoch = omega arith; least = omega arith; most = omega (arith, c.from.ensures) } in
    let many : 20 + game_length_in c.args.bytes.now - 20 ≡ game_length_in c.args.bytes.now = omega arith in
    let id : take (20 + game_length_in c.args.bytes.now - 20) (drop 20 c.args.bytes.now) ≡ game_in c.args.bytes.now = ap (λ (k : ℕ). take k (drop 20 c.args.bytes.now)) many in
    let seen : list_all is_visible (game_in c.args.bytes.now) ≡ true = ap (list_all is_visible) (sym id) ∙ c.in-Some.ensures.2 in
    unfilled_fault c.args.bytes.now begun seen (ap (list_all (λ byte. byte == 0)) (sym (take_all (64 - (20 + game_length_in c.args.bytes.now)) (drop (20 + game_length_in c.args.bytes.now) c.args.bytes.now) (omega (arith, length-drop (20 + game_length_in c.args.bytes.now) c.args.bytes.now, c.told-bytes)))) ∙ sym c.are_zeros.ensures ∙ c.if-not-are_zeros.true)

pub returns : goal.returns
returns c =
    let bytes = c.args.bytes.now in
    let f : c.read_u16-format.result ≡ format_in c.args.bytes.now = c.read_u16-format.ensures ∙ omega arith in
    let e : c.read_u64-epoch.result ≡ epoch_in c.args.bytes.now = c.read_u64-epoch.ensures ∙ omega arith in
    let begun : IsBegun c.args.bytes.now = record { are_letters = search rules; known = search rules; epoch = omega arith; least = omega arith; most = omega (arith, c.from.ensures) } in
    let many : 20 + game_length_in c.args.bytes.now - 20 ≡ game_length_in c.args.bytes.now = omega arith in
    let id : take (20 + game_length_in c.args.bytes.now - 20) (drop 20 c.args.bytes.now) ≡ game_in c.args.bytes.now = ap (λ (k : ℕ). take k (drop 20 c.args.bytes.now)) many in
    let seen : list_all is_visible (game_in c.args.bytes.now) ≡ true = ap (list_all is_visible) (sym id) ∙ c.in-Some.ensures.2 in
    read_as c.args.bytes.now _ c.told-bytes c.fits-bytes begun (λ i. record { game = (sym id ∙ sym c.in-Some.ensures.0) i; epoch = sym e i; format = sym f i }) (subst IsGameId id c.in-Some.ensures.1) seen (ap (list_all (λ byte. byte == 0)) (sym (take_all (64 - (20 + game_length_in c.args.bytes.now)) (drop (20 + game_length_in c.args.bytes.now) c.args.bytes.now) (omega (arith, length-drop (20 + game_length_in c.args.bytes.now) c.args.bytes.now, c.told-bytes)))) ∙ sym c.are_zeros.ensures ∙ c.if-not-are_zeros.false)
