use Rattle.std.proofs.Common.{None, arith}
use Rattle.dk_wire.proofs.WholeLaws.{decodes}
use Rattle.dk_wire.proofs.form.decode.Goals as goal

pub returns : goal.returns
returns g c =
    decodes (g.F.Form.fits None) g.F.Form.spelling (g.F.Form.reading None) (g.met.F.Form.exact None) c.args.payload.now c.decode_any.result (λ i. omega (arith, c.type_inv.payload i)) c.decode_any.ensures
