use Rattle.std.proofs.Common.{◌∙◌, arith}
use Rattle.dk_model.specs.Stores.{StoreHeader}
use Rattle.dk_journal.proofs.Blanks.{making, made_stands, made_rests, behind_length, some_while}
use Rattle.dk_journal.proofs.making.create.Goals as goal

pub returns-clause-run : goal.returns-clause-run
returns-clause-run g c tells =
    let header : StoreHeader = record { game = c.args.game.now; epoch = c.args.epoch; format = 2 } in
    let spelled = c.as_slice.ensures ∙ c.in-Ok.ensures.0 in
    making header _ spelled c.in-Ok.ensures.1 c.args.side _ _ (c.write_anew.ensures.run tells 65 (c.requires.short tells) (omega (arith, behind_length header _ spelled c.in-Ok.ensures.1 c.args.side)))

pub returns-in-Ok-write_anew-clause-run : goal.returns-in-Ok-write_anew-clause-run
returns-in-Ok-write_anew-clause-run g c tells =
    let header : StoreHeader = record { game = c.args.game.now; epoch = c.args.epoch; format = 2 } in
    let spelled = c.as_slice.ensures ∙ c.in-Ok.ensures.0 in
    making header _ spelled c.in-Ok.ensures.1 c.args.side _ _ (c.write_anew.ensures.run tells 65 (c.requires.short tells) (omega (arith, behind_length header _ spelled c.in-Ok.ensures.1 c.args.side)))

pub returns-in-Ok-write_anew-clause-stands : goal.returns-in-Ok-write_anew-clause-stands
returns-in-Ok-write_anew-clause-stands g c tells =
    let header : StoreHeader = record { game = c.args.game.now; epoch = c.args.epoch; format = 2 } in
    let spelled = c.as_slice.ensures ∙ c.in-Ok.ensures.0 in
    rw c.standing.ensures.length (made_stands header _ spelled c.in-Ok.ensures.1 c.args.side _ (c.in-Ok-write_anew.ensures.done tells))

pub returns-in-Ok-write_anew-clause-rests : goal.returns-in-Ok-write_anew-clause-rests
returns-in-Ok-write_anew-clause-rests g c tells =
    let header : StoreHeader = record { game = c.args.game.now; epoch = c.args.epoch; format = 2 } in
    let spelled = c.as_slice.ensures ∙ c.in-Ok.ensures.0 in
    rw c.standing.ensures.length (made_rests header _ spelled c.in-Ok.ensures.1 c.args.side _ (c.in-Ok-write_anew.ensures.done tells))

pub returns-clause-some : goal.returns-clause-some
returns-clause-some g c tells =
    let header : StoreHeader = record { game = c.args.game.now; epoch = c.args.epoch; format = 2 } in
    let spelled = c.as_slice.ensures ∙ c.in-Ok.ensures.0 in
    some_while c.args.side 65 _ _ _ (c.write_anew.ensures.run tells 65 (c.requires.short tells) (omega (arith, behind_length header _ spelled c.in-Ok.ensures.1 c.args.side)))

pub returns-in-Ok-write_anew-clause-some : goal.returns-in-Ok-write_anew-clause-some
returns-in-Ok-write_anew-clause-some g c tells =
    let header : StoreHeader = record { game = c.args.game.now; epoch = c.args.epoch; format = 2 } in
    let spelled = c.as_slice.ensures ∙ c.in-Ok.ensures.0 in
    some_while c.args.side 65 _ _ _ (c.write_anew.ensures.run tells 65 (c.requires.short tells) (omega (arith, behind_length header _ spelled c.in-Ok.ensures.1 c.args.side)))
