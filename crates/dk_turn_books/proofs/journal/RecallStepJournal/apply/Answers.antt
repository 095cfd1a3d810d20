use Rattle.std.proofs.Common.{◌≡◌, [], Some, refl, sym, ap, ◌∙◌}
use Rattle.std.proofs.lemmas.List.{append-nil}
use Rattle.std.proofs.lemmas.List.Elements.{All-nil}
use Rattle.std.proofs.lemmas.Option.{slice_get-get_or}
use Rattle.dk_turn_books.proofs.journal.RecallStepJournal.apply.Goals as goal

pub returns : goal.returns
returns c = (
  [],
  sym (append-nil c.args.book.now.lines.items),
  All-nil (λ e. e.by ≡ c.args._pass),
  (refl, slice_get-get_or c.args.book.now.lines.items c.args.self.place c.index.result.now c.requires ∙ ap Some (sym c.index.ensures)),
)
