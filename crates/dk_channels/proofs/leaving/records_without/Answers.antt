use Rattle.std.proofs.Common.{◌+◌, ◌++◌, option_to_list, drop, refl, sym, ap, subst, ◌∙◌}
use Rattle.std.specs.List.{AllByRecursion}
use Rattle.dk_model.specs.Platforms.{records_without}
use Rattle.dk_overlay.specs.ReadsAndWrites.{ReadsAndWrites}
use Rattle.dk_txn.specs.Does.{Resumes}
use Rattle.dk_txn.specs.declared.refusal.Refusal.TheVariants as refusal
use Rattle.dk_txn.proofs.Asking.{asks_nothing}
use Rattle.dk_txn.proofs.Kit.{stops, give_does, keeps_then, leads_then, leads_does}
use Rattle.dk_txn.proofs.Together.{starves}
use Rattle.dk_channels.specs.AllMembers.{wrong_kind_of, long_record_of, IsFoundAmong}
use Rattle.dk_channels.proofs.Drops.{with_rest, at_start, at_member, at_end}
use Rattle.dk_channels.proofs.AllAsking.{asks_next, found_next}
use Rattle.dk_channels.proofs.Findings.{later_start, later_kinds, later_lengths, later_tells}
use Rattle.dk_channels.proofs.leaving.records_without.Goals as goal

pub loop-member-init : goal.loop-member-init
loop-member-init g c = record {
  leads = at_start c.args.name.now c.args.members.now c.new-found.result.items c.new-found.ensures.items;
  asks = asks_nothing (record { same_view = refl; same_reads = refl });
  same = refl;
  found = subst (λ l. AllByRecursion (IsFoundAmong c.args.txn.now.set c.args.txn.now.set c.args.members.now) l) (sym c.new-found.ensures.items) tt;
  kinds = later_start wrong_kind_of c.args.txn.now.set c.args.members.now;
  lengths = later_start (long_record_of c.args.name.now) c.args.txn.now.set c.args.members.now;
}

pub returns-in_err-one-clause-does : goal.returns-in_err-one-clause-does
returns-in_err-one-clause-does g c =
    leads_does (at_member c.args.name.now c.args.members.now c.loop-member.member-index c.loop-member.found.items c.member-item.result c.loop-member-test.true c.member-item.is c.loop-member.invariant.leads)
    (stops _ c.in_err-one.ensures.does c.from_residual.ensures.1)

pub returns-in_err-one-clause-asks : goal.returns-in_err-one-clause-asks
returns-in_err-one-clause-asks g c =
    asks_next c.args.txn.now c.record_without.ensures.does.keeps c.loop-member.invariant.same c.record_without.ensures.same_changes c.args.members.now c.loop-member.member-index c.member-item.result c.loop-member-test.true c.member-item.is c.loop-member.invariant.asks c.record_without.ensures.asks

pub returns-in_err-one-clause-kind : goal.returns-in_err-one-clause-kind
returns-in_err-one-clause-kind g c =
    later_tells c.args.name.now c.args.txn.now.set c.args.members.now c.loop-member.member-index c.member-item.result c.loop-member-test.true c.member-item.is _ wrong_kind_of refusal.WrongKind
    c.loop-member.invariant.kinds c.in_err-one.ensures.does c.in_err-one.ensures.kind c.from_residual.ensures.1

pub returns-in_err-one-clause-length : goal.returns-in_err-one-clause-length
returns-in_err-one-clause-length g c =
    later_tells c.args.name.now c.args.txn.now.set c.args.members.now c.loop-member.member-index c.member-item.result c.loop-member-test.true c.member-item.is _ (long_record_of c.args.name.now) refusal.TooLong
    c.loop-member.invariant.lengths c.in_err-one.ensures.does c.in_err-one.ensures.length c.from_residual.ensures.1

pub returns-in_err-put_last-clause-does : goal.returns-in_err-put_last-clause-does
returns-in_err-put_last-clause-does g c = starves (keeps_then c.loop-member.invariant.leads.keeps c.record_without.ensures.does.keeps) refl c.from_residual-in_err-put_last.ensures.1

pub returns-in_err-put_last-clause-asks : goal.returns-in_err-put_last-clause-asks
returns-in_err-put_last-clause-asks g c =
    asks_next c.args.txn.now c.record_without.ensures.does.keeps c.loop-member.invariant.same c.record_without.ensures.same_changes c.args.members.now c.loop-member.member-index c.member-item.result c.loop-member-test.true c.member-item.is c.loop-member.invariant.asks c.record_without.ensures.asks

pub loop-member-preserved : goal.loop-member-preserved
loop-member-preserved g c =
    let k = c.record_without.ensures.does.keeps in
    let more = c.loop-member-test.true in
    let at = c.member-item.is in
    let put = sym c.in_ok-put_last.ensures in
    record {
      leads = subst (λ l. Resumes g.V.View.sights c.args.txn.now c.record_without.new.txn (records_without c.args.name.now c.args.members.now) (with_rest c.args.name.now l (drop (c.loop-member.member-index + 1) c.args.members.now))) put
          (leads_then (λ one. with_rest c.args.name.now (c.loop-member.found.items ++ option_to_list one) (drop (c.loop-member.member-index + 1) c.args.members.now))
          (at_member c.args.name.now c.args.members.now c.loop-member.member-index c.loop-member.found.items c.member-item.result more at c.loop-member.invariant.leads) c.in_ok-one.ensures.does);
      asks = asks_next c.args.txn.now k c.loop-member.invariant.same c.record_without.ensures.same_changes c.args.members.now c.loop-member.member-index c.member-item.result more at c.loop-member.invariant.asks c.record_without.ensures.asks;
      same = c.record_without.ensures.same_changes ∙ ap (λ (t : ReadsAndWrites). record t { reads = c.record_without.new.txn.set.reads }) c.loop-member.invariant.same;
      found = subst (λ l. AllByRecursion (IsFoundAmong c.args.txn.now.set c.record_without.new.txn.set c.args.members.now) l) put
          (found_next c.args.txn.now k c.loop-member.invariant.same c.record_without.ensures.same_changes c.args.members.now c.loop-member.member-index c.member-item.result more at c.loop-member.found.items c.in_ok-one.one c.loop-member.invariant.found c.in_ok-one.ensures.found);
      kinds = later_kinds c.args.name.now c.args.txn.now.set c.args.members.now c.loop-member.member-index c.member-item.result more at c.in_ok-one.one c.loop-member.invariant.kinds c.in_ok-one.ensures.does;
      lengths = later_lengths c.args.name.now c.args.txn.now.set c.args.members.now c.loop-member.member-index c.member-item.result more at c.in_ok-one.one c.loop-member.invariant.lengths c.in_ok-one.ensures.does;
    }

pub returns-clause-does : goal.returns-clause-does
returns-clause-does g c =
    leads_does (at_end c.args.name.now c.args.members.now c.loop-member.member-index c.loop-member.found.items c.loop-member-test.false c.loop-member.invariant.leads) (rw c.from_vec.ensures give_does)
