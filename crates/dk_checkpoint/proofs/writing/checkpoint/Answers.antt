use Rattle.std.proofs.Common.{◌+◌, length, sym, ap, ◌∙◌}
use Rattle.dk_journal.proofs.Stores.{store_recovers}
use Rattle.dk_checkpoint.proofs.Given.{not_yet, run_recovers, made_stands, left_alone, no_time, run_held}
use Rattle.dk_checkpoint.proofs.Held.{now_held}
use Rattle.dk_checkpoint.proofs.writing.checkpoint.Goals as goal

pub returns-in_err-behind-clause-run : goal.returns-in_err-behind-clause-run
returns-in_err-behind-clause-run g c tells header payloads before given is = not_yet _ _ _ _ _ _ _ _ is

pub returns-in_err-replace-clause-run : goal.returns-in_err-replace-clause-run
returns-in_err-replace-clause-run g c tells header payloads before given is =
    run_recovers _ _ _ _ _ _ _ _ is _ c.in_ok-behind.ensures.game _ (c.epoch.ensures ∙ is.store.epoch) c.in_ok-behind.ensures.within.1 c.in_ok-behind.ensures.within.0 _ c.other_of-other.ensures _ (c.as_slice.ensures ∙ c.in_ok-behind.ensures.ok.0) _ (c.replace.ensures.run tells)

pub returns-clause-run : goal.returns-clause-run
returns-clause-run g c tells header payloads before given is =
    run_recovers _ _ _ _ _ _ _ _ is _ c.in_ok-behind.ensures.game _ (c.epoch.ensures ∙ is.store.epoch) c.in_ok-behind.ensures.within.1 c.in_ok-behind.ensures.within.0 _ c.other_of-other.ensures _ (c.as_slice.ensures ∙ c.in_ok-behind.ensures.ok.0) _ (c.replace.ensures.run tells)

pub returns-clause-stands : goal.returns-clause-stands
returns-clause-stands g c tells header payloads before given is =
    made_stands _ _ _ _ _ _ _ _ is _ c.in_ok-behind.ensures.game _ (c.epoch.ensures ∙ is.store.epoch) c.in_ok-behind.ensures.within.1 c.in_ok-behind.ensures.within.0 _ c.other_of-other.ensures _ (c.as_slice.ensures ∙ c.in_ok-behind.ensures.ok.0) _ c.standing.result
    (c.replace.ensures.run tells) (c.in_ok-replace.ensures.done tells) c.standing.ensures.side (c.standing.ensures.header.0 ∙ ap (λ n. n + 1) (c.epoch-2.ensures ∙ sym c.epoch.ensures)) c.standing.ensures.header.1
    (c.standing.ensures.length ∙ ap (λ n. 1 + n) (ap length (c.as_slice-2.ensures ∙ sym c.as_slice.ensures))) (ap length c.as_slice.ensures ∙ c.in_ok-behind.ensures.ok.1)

pub returns-clause-recovers : goal.returns-clause-recovers
returns-clause-recovers g c tells header payloads before given is =
    store_recovers _ _ _ _ _ _ (returns-clause-stands g c tells header payloads before given is)

pub returns-in_err-behind-clause-leaves : goal.returns-in_err-behind-clause-leaves
returns-in_err-behind-clause-leaves g c tells = no_time c.args.side (g.M.Home.past c.args.home.now)

pub returns-in_err-replace-clause-leaves : goal.returns-in_err-replace-clause-leaves
returns-in_err-replace-clause-leaves g c tells = left_alone _ _ _ _ _ c.other_of-other.ensures (c.replace.ensures.run tells)

pub returns-clause-leaves : goal.returns-clause-leaves
returns-clause-leaves g c tells = left_alone _ _ _ _ _ c.other_of-other.ensures (c.replace.ensures.run tells)

pub returns-in_err-behind-clause-falls : goal.returns-in_err-behind-clause-falls
returns-in_err-behind-clause-falls g c tells header payloads before given is same = now_held (g.M.Home.past c.args.home.now)

pub returns-in_err-replace-clause-falls : goal.returns-in_err-replace-clause-falls
returns-in_err-replace-clause-falls g c tells header payloads before given is same =
    run_held _ _ _ _ _ _ _ _ is _ c.in_ok-behind.ensures.game _ (c.epoch.ensures ∙ is.store.epoch) c.in_ok-behind.ensures.within.1 c.in_ok-behind.ensures.within.0 _ c.other_of-other.ensures _ (c.as_slice.ensures ∙ c.in_ok-behind.ensures.ok.0) _ same (c.replace.ensures.run tells)

pub returns-clause-falls : goal.returns-clause-falls
returns-clause-falls g c tells header payloads before given is same =
    run_held _ _ _ _ _ _ _ _ is _ c.in_ok-behind.ensures.game _ (c.epoch.ensures ∙ is.store.epoch) c.in_ok-behind.ensures.within.1 c.in_ok-behind.ensures.within.0 _ c.other_of-other.ensures _ (c.as_slice.ensures ∙ c.in_ok-behind.ensures.ok.0) _ same (c.replace.ensures.run tells)
