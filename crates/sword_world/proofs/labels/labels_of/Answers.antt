use Rattle.std.proofs.Common.{subst, Ok, sym, ◌∙◌, ap, ◌++◌, ◌∷◌, [], List, ℕ}
use Rattle.dk_types.specs.declared.number.ObjectId.{ObjectId}
use Rattle.dk_txn.specs.Does.{Does}
use Rattle.dk_game.specs.Halted.{halt_fault}
use Rattle.sword_world.specs.Labels.{labels}
use Rattle.sword_world.proofs.Parts.{labels_more, labels_halt, labels_starve, labels_done}
use Rattle.sword_world.proofs.labels.labels_of.Goals as goal

abbrev no_id : ObjectId
no_id = record { run = record { 0 = 0 }; k = 0 }

pub returns-in_err-found : goal.returns-in_err-found
returns-in_err-found g c =
    labels_halt g.T.Managed.KIND g.T.Managed.of g.T.Labelled.label c.args.ids.now c.loop-id.id-index no_id c.loop-id.labels.items c.loop-id-test.true
    (rw c.of-object.ensures at c.in_err-found.ensures.does) c.from_residual.ensures.1 c.loop-id.invariant

pub returns-in_err-push_label : goal.returns-in_err-push_label
returns-in_err-push_label g c =
    labels_starve g.T.Managed.KIND g.T.Managed.of g.T.Labelled.label c.args.ids.now c.loop-id.id-index no_id c.loop-id.labels.items c.in_ok-found.found c.loop-id-test.true
    (rw c.of-object.ensures at c.in_ok-found.ensures.does) c.from_residual-in_err-push_label.ensures.1 c.loop-id.invariant

pub loop-id-preserved : goal.loop-id-preserved
loop-id-preserved g c =
    labels_more g.T.Managed.KIND g.T.Managed.of g.T.Labelled.label c.args.ids.now c.loop-id.id-index no_id c.loop-id.labels.items c.push_label.new.labels.items c.in_ok-found.found c.loop-id-test.true
    (rw c.of-object.ensures at c.in_ok-found.ensures.does) (c.in_ok-push_label.ensures ∙ ap (λ (y : List ℕ). c.loop-id.labels.items ++ y ∷ []) c.into_label.ensures) c.loop-id.invariant

pub returns : goal.returns
returns g c =
    subst (λ (ls : List (List ℕ)). Does g.V.View.sights halt_fault c.args.txn.now c.loop-id.txn (labels g.T.Managed.KIND g.T.Managed.of g.T.Labelled.label c.args.ids.now) (Ok ls)) (sym c.from_vec.ensures)
    (labels_done g.T.Managed.KIND g.T.Managed.of g.T.Labelled.label c.args.ids.now c.loop-id.id-index no_id c.loop-id.labels.items c.loop-id-test.false c.loop-id.invariant)
