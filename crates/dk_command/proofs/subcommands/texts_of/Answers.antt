use Rattle.std.proofs.Common.{◌∙◌, ap}
use Rattle.clap.specs.Walk.{texts}
use Rattle.dk_command.proofs.TextsLemmas.{texts_more, texts_whole}
use Rattle.dk_command.proofs.subcommands.texts_of.Goals as goal

pub loop-at-preserved : goal.loop-at-preserved
loop-at-preserved c = ap texts c.in_ok-push.ensures.items
    ∙ texts_more c.loop-at.list.items c.args.words.now c.loop-at.at c.word.result c.loop-at.invariant c.word.ensures

pub returns : goal.returns
returns c = texts_whole c.loop-at.list.items c.args.words.now c.loop-at.at c.loop-at.invariant (rw (← c.count-at-end.ensures) c.loop-at-test.false)
