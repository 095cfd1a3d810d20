use Rattle.std.proofs.Common.{◌≡◌, ℕ, ◌+◌, List, drop, get_or, ap, sym, ◌∙◌, rules}
use Rattle.std.proofs.lemmas.List.{drop_more}
use Rattle.dk_types.specs.declared.number.TaskKey.{TaskKey}
use Rattle.dk_map.specs.AsMap.{map_of}
use Rattle.dk_model.specs.Keys.{key_cmp}
use Rattle.dk_model.specs.Effects.{with_moved}
use Rattle.dk_recover.proofs.TaskChanges.{moved_one}
use Rattle.dk_recover.proofs.tasks.move_all.Goals as goal

pub loop-key-preserved : goal.loop-key-preserved
loop-key-preserved c =
    let i = c.loop-key.key-index in
    let moved = c.args.moved.now in
    let e : TaskKey × ℕ = get_or moved i (record { run = record { 0 = 0 }; k = 0 }, 0) in
    let step = moved_one _ e.1 (λ x y a p. search rules) c.loop-key.tasks.entries c.change.new.self.entries c.loop-key.invariant.1 e.0 c.change.result c.change.ensures.changed in
    let m = map_of key_cmp c.loop-key.tasks.entries in (
      ap (with_moved (drop (i + 1) moved)) step ∙ sym (ap (λ (l : List (TaskKey × ℕ)). with_moved l m) (drop_more moved i (record { run = record { 0 = 0 }; k = 0 }, 0) c.loop-key-test.true)) ∙ c.loop-key.invariant.0,
      c.change.ensures.ordered,
    )
