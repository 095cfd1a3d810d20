use Rattle.std.proofs.Common.{rules, arith, refl}
use Rattle.dk_streams.proofs.SinkPieces.{put_more, put_part, puts_part}
use Rattle.dk_streams.proofs.writing.put_all.Goals as goal

pub returns-in_err-put-clause-bytes : goal.returns-in_err-put-clause-bytes
returns-in_err-put-clause-bytes g c =
    puts_part c.from_residual.result _ _ _ c.from_residual.ensures.0 (put_part (g.K.Sink.contents c.args.out.now) (g.K.Sink.contents c.pieces.out) (g.K.Sink.contents c.put.new.self) c.args.text.now c.pieces.rest.now _ c.min-count.result c.pieces.invariant.put c.in_err-put.ensures.bytes refl)

pub pieces-preserved : goal.pieces-preserved
pieces-preserved g c =
    record {
      count = search rules;
      put = put_more (g.K.Sink.contents c.args.out.now) (g.K.Sink.contents c.pieces.out) (g.K.Sink.contents c.put.new.self) c.args.text.now c.pieces.rest.now _ _ c.min-count.result c.pieces.invariant.put c.in_ok-put.ensures.bytes refl (omega arith) refl;
    }
