use Rattle.std.proofs.Common.{◌≡◌, ◌+◌, true, false, Some, ap, sym, ◌∙◌, leb, nat_eq}
use Rattle.std.proofs.lemmas.Bool.{eqb-true}
use Rattle.dk_laws.proofs.EffectsMade.{and_left}
use Rattle.dk_recover.specs.Worlds.{is_next, are_made, are_scheduled}
use Rattle.dk_recover.proofs.Made.{clean_fit}
use Rattle.dk_recover.proofs.Valid.{valid_after, next_after, committed_after}
use Rattle.dk_recover.proofs.world.World.commit.Goals as goal
use Rattle.dk_recover.proofs.world.World.commit.Goals.{then-not-is_next-via-then-not-is_next, then-not-is_next-via-else-not-is_next+then-not-are_made, then-not-is_next-via-else-not-is_next+else-not-are_made+then-not-are_scheduled}

pub returns-then-not-is_next-clause-unfit : goal.returns-then-not-is_next-clause-unfit
returns-then-not-is_next-clause-unfit c _ fit =
    let d = c.args.self.now in
    let entry = c.args.entry in
    let last = c.last_with-last.result in
    let greater = c.last_with-last.ensures in
    let clean = clean_fit d entry.effects c.requires.entry.effects fit.effects in
    let needed : is_next d.commits entry.seq last ≡ true = next_after d entry last c.requires.entry greater fit.valid fit.seq in
    let made = committed_after d entry last c.requires.entry greater fit.valid clean.objects clean.tasks in
    elim c.then-not-is_next.branch [
      | then-not-is_next-via-then-not-is_next w ↦ let wrong : true ≡ false = sym needed ∙ sym c.is_next.ensures ∙ w.if-not-is_next.true in cc
      | then-not-is_next-via-else-not-is_next+then-not-are_made w ↦ let wrong : true ≡ false = sym made.0 ∙ ap (are_made (Some last)) (sym w.as_slice.ensures) ∙ sym w.are_made.ensures ∙ w.if-not-are_made.true in cc
      | then-not-is_next-via-else-not-is_next+else-not-are_made+then-not-are_scheduled w ↦
          let wrong : true ≡ false = sym made.1 ∙ ap (are_scheduled (Some last)) (sym w.as_slice-else-not-are_made.ensures) ∙ sym w.are_scheduled.ensures ∙ w.if-not-are_scheduled.true in cc
    ]

pub returns-clause-fits : goal.returns-clause-fits
returns-clause-fits c =
    let d = c.args.self.now in
    let entry = c.args.entry in
    let last = c.last_with-last.result in
    let next : is_next d.commits entry.seq last ≡ true = sym c.is_next.ensures ∙ c.if-not-is_next.false in
    let made : are_made (Some last) entry.effects.written ≡ true = ap (are_made (Some last)) (sym c.as_slice.ensures) ∙ sym c.are_made.ensures ∙ c.if-not-are_made.false in
    let scheduled : are_scheduled (Some last) entry.effects.added ≡ true = ap (are_scheduled (Some last)) (sym c.as_slice-else-not-are_made.ensures) ∙ sym c.are_scheduled.ensures ∙ c.if-not-are_scheduled.false in
    let world = c.self.view_is ∙ c.in_ok-make.ensures.fits.1 in (
      record {
        seq = eqb-true entry.seq (d.commits + 1) (and_left (nat_eq entry.seq (d.commits + 1)) (leb entry.seq (last.0 + 1)) next);
        effects = c.in_ok-make.ensures.fits.0;
        valid = valid_after d entry last c.requires.entry c.last_with-last.ensures c.requires.valid c.requires.bytes made scheduled next;
      },
      λ i. record { objects = (world i).objects; names = (world i).names; tasks = (world i).tasks; commits = entry.seq; last = c.last_with-last.ensures i },
    )
