use Rattle.std.proofs.Common.{◌≡◌, inr, Ok, Err, sym, ap, subst, ◌∙◌}
use Rattle.dk_types.specs.declared.side.Side.TheVariants.{Zero, One}
use Rattle.dk_disk.specs.DiskHistories.{DiskHistory, now}
use Rattle.dk_model.specs.Recovered.{HasDurable}
use Rattle.dk_model.specs.Validity.{IsValid}
use Rattle.dk_recover.specs.Files.{OnlyReads, Settles}
use Rattle.dk_recover.specs.Recovery.{IsAnswer}
use Rattle.dk_recover.specs.declared.fault.OpenFault.TheVariants as recover
use Rattle.dk_recover.proofs.Recoveries.{backward, onward}
use Rattle.dk_core.specs.Listings.{world_of}
use Rattle.dk_host.specs.OpenedStores.{IsOpenAnswer, IsPlaced, IsUnwritten, KeepsWorld}
use Rattle.dk_host.proofs.Answered.{given_both, given_on, refused_answer, refused_reads}
use Rattle.dk_host.proofs.Settling.{keeps, lists_valid, world_back}
use Rattle.dk_host.proofs.standing.stand.Goals as goal

pub stand_on-requires-clause-found : goal.stand_on-requires-clause-found
stand_on-requires-clause-found g c tells =
    let old = g.M.Home.past c.args.home.now in
    let mid = g.M.Home.past c.recover.new.home in
    onward (λ z o. IsAnswer z o c.args.game.now mid (Ok c.in-Ok.found)) old mid (c.in-Ok.ensures.settles tells (λ err. cc)) (c.in-Ok.ensures.answer tells)

pub returns-in-Ok-clause-answer : goal.returns-in-Ok-clause-answer
returns-in-Ok-clause-answer g c tells =
    let old = g.M.Home.past c.args.home.now in
    let mid = g.M.Home.past c.recover.new.home in
    let new = g.M.Home.past c.stand_on.new.home in
    let z = (now old Zero).reads in
    let o = (now old One).reads in
    let settles = c.in-Ok.ensures.settles tells (λ err. cc) in
    backward (λ a b. IsOpenAnswer a b c.args.game.now c.stand_on.result) old mid settles (c.stand_on.ensures.answer tells)

pub returns-in-Ok-clause-keeps : goal.returns-in-Ok-clause-keeps
returns-in-Ok-clause-keeps g c tells =
    let old = g.M.Home.past c.args.home.now in
    let mid = g.M.Home.past c.recover.new.home in
    let new = g.M.Home.past c.stand_on.new.home in
    let z = (now old Zero).reads in
    let o = (now old One).reads in
    let settles = c.in-Ok.ensures.settles tells (λ err. cc) in
    let found = c.in-Ok.found in
    let h = c.in-Ok.ensures.holds tells in
    let has = subst (HasDurable z o) (sym (ap world_of h.3 ∙ world_back h.0)) h.1 in
    let run = c.stand_on.ensures.keeps tells in
    let kept = keeps old mid settles.0 settles.1 (world_of found.durable) has new (c.in-Ok.ensures.reads tells) run.0 run.1 in
    given_on (λ lists. KeepsWorld (world_of lists) old new) IsPlaced found.durable c.stand_on.result c.stand_on.ensures.stood kept

pub returns-in-Ok-clause-valid : goal.returns-in-Ok-clause-valid
returns-in-Ok-clause-valid g c = given_both (λ lists. IsValid (world_of lists)) IsPlaced c.in-Ok.found.durable c.stand_on.result c.stand_on.ensures.stood (lists_valid c.in-Ok.found.durable c.in-Ok.ensures.valid)

pub returns-in-Ok-clause-reads : goal.returns-in-Ok-clause-reads
returns-in-Ok-clause-reads g c tells un =
    let old = g.M.Home.past c.args.home.now in
    let mid = g.M.Home.past c.recover.new.home in
    let new = g.M.Home.past c.stand_on.new.home in
    let z = (now old Zero).reads in
    let o = (now old One).reads in
    let settles = c.in-Ok.ensures.settles tells (λ err. cc) in
    let same = c.stand_on.ensures.untouched tells (onward (λ a b. IsUnwritten a b c.stand_on.result) old mid settles un) in
    (subst (λ (p : DiskHistory). OnlyReads old p) (sym (ap g.M.Home.past same)) (c.in-Ok.ensures.reads tells), subst (λ (p : DiskHistory). Settles old p) (sym (ap g.M.Home.past same)) settles)

pub returns-in-Ok-clause-faulty : goal.returns-in-Ok-clause-faulty
returns-in-Ok-clause-faulty g c tells faulty =
    let old = g.M.Home.past c.args.home.now in
    let mid = g.M.Home.past c.recover.new.home in
    let new = g.M.Home.past c.stand_on.new.home in
    let z = (now old Zero).reads in
    let o = (now old One).reads in
    let settles = c.in-Ok.ensures.settles tells (λ err. cc) in
    let found = c.in-Ok.found in
    let h = c.in-Ok.ensures.holds tells in
    let has = subst (HasDurable z o) (sym (ap world_of h.3 ∙ world_back h.0)) h.1 in
    let run = c.stand_on.ensures.keeps tells in
    let kept = keeps old mid settles.0 settles.1 (world_of found.durable) has new (c.in-Ok.ensures.reads tells) run.0 run.1 in
    inr (world_of found.durable, (has, kept))

pub returns-in-Err-clause-answer : goal.returns-in-Err-clause-answer
returns-in-Err-clause-answer g c tells =
    let old = g.M.Home.past c.args.home.now in
    refused_answer (now old Zero).reads (now old One).reads c.args.game.now (g.M.Home.past c.recover.new.home) c.in-Err.fault c.fault_of.result c.fault_of.ensures (c.in-Err.ensures.answer tells)

pub returns-in-Err-clause-reads : goal.returns-in-Err-clause-reads
returns-in-Err-clause-reads g c tells un =
    let old = g.M.Home.past c.args.home.now in (
      c.in-Err.ensures.reads tells,
      c.in-Err.ensures.settles tells (λ err.
          let is : c.in-Err.fault ≡ recover.DiskFault = cc in
          refused_reads (now old Zero).reads (now old One).reads c.in-Err.fault c.fault_of.result c.fault_of.ensures un is),
    )
