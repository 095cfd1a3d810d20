-- The entry of a step has a spelling.
use Rattle.std.proofs.Common.{◌+◌, refl, arith}
use Rattle.std.proofs.lemmas.Bool.{le-leb, lt-ltb}
use Rattle.dk_model.specs.Steps.{step}
use Rattle.dk_model.proofs.StepValid.{step_valid}
use Rattle.dk_commit_laws.specs.EntryOfStep.{entry_of, EntriesAreSpelled}
use Rattle.dk_commit_laws.proofs.Lengths.{payload_is}
use Rattle.dk_commit_laws.proofs.Short.{step_short}
use Rattle.dk_commit_laws.proofs.Spelled.{effects_fit}

pub entries_spelled : EntriesAreSpelled
entries_spelled rules j run at d lawful v ready =
    let s = step rules j run at d in
    let short = step_short rules j run at d in
    let long = payload_is (entry_of d run s) in (
      (
        record {
          count = omega arith;
          each = (
            record {
              seq = omega (arith, v.commits, v.last);
              counted = le-leb 1 (d.commits + 1) (omega arith);
              run = lt-ltb _ _ ready.number;
              effects = effects_fit d s.world v (step_valid rules lawful j run at d v ready) short;
            },
            tt,
          );
        },
        refl,
      ),
      omega (arith, long, short),
    )
