use Rattle.std.proofs.Common.{None, sym}
use Rattle.dk_refs.specs.Managing.{reads_again}
use Rattle.dk_refs.proofs.managed.decode_as.Goals as goal

pub returns-in-Ok : goal.returns-in-Ok
returns-in-Ok g c =
    let read = rw c.in-Ok.is at c.decode.ensures in
    sym (reads_again (g.F.Form.fits None) g.F.Form.spelling (g.F.Form.reading None) (g.met.F.Form.exact None) c.args.payload.now c.in-Ok.value read.0 read.1)
