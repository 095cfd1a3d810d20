use Rattle.std.proofs.Common.{◌≡◌, ◌∷◌, [], map, Err, refl, rules, sym, subst, ◌∙◌}
use Rattle.std.specs.Vec.Iter.{into_iter_items}
use Rattle.dk_types.specs.declared.event.Event.TheVariants as event
use Rattle.dk_types.specs.declared.event.PostReply.TheVariants as posted
use Rattle.dk_connections.specs.declared.answers.PostRefused.TheVariants as refused
use Rattle.dk_frame.specs.Meanings.{frame_of}
use Rattle.dk_host.specs.Calls.{Entered, post_events}
use Rattle.dk_pump.specs.Reading.{PostsFrames}
use Rattle.dk_pump.proofs.Ended.{err_is}
use Rattle.dk_pump.proofs.Entering.{enters_one}
use Rattle.dk_pump.proofs.PostedFrames.{IsPosting, posting_first, posting_more, posted_to_logout, posted_without_memory, posted_refused}
use Rattle.dk_pump.proofs.posting.post_frames.Goals as goal

pub loop-frame-init : goal.loop-frame-init
loop-frame-init g c = let same : into_iter_items c.into_iter-frame-iterator.result ≡ c.args.frames.items = search rules in record {
  number = refl;
  posting = subst (λ items. IsPosting g.W.Hosting.opened g.J.Naming.name.passes c.args.pass.now.number c.args.conn (map frame_of c.args.frames.items) (map frame_of items) c.args.pass.now.front c.args.pass.now.front) (sym same) (posting_first g.W.Hosting.opened g.J.Naming.name.passes c.args.pass.now.number c.args.conn (map frame_of c.args.frames.items) c.args.pass.now.front c.requires.in_turn);
}

pub returns-in_default-clause-posts : goal.returns-in_default-clause-posts
returns-in_default-clause-posts g c =
    posted_to_logout g.W.Hosting.opened g.J.Naming.name.passes c.args.pass.now.number c.args.conn (map frame_of c.args.frames.items) (map frame_of (into_iter_items c.next.new.self)) (frame_of c.in-Some.frame) c.args.pass.now.front c.loop-frame.pass.front (rw c.in_default.is at c.in_ok-input.ensures) (subst (λ items. IsPosting g.W.Hosting.opened g.J.Naming.name.passes c.args.pass.now.number c.args.conn (map frame_of c.args.frames.items) (map frame_of items) c.args.pass.now.front c.loop-frame.pass.front) c.in-Some.ensures.steps.0 c.loop-frame.invariant.posting)

pub loop-frame-preserved : goal.loop-frame-preserved
loop-frame-preserved g c = record {
  number = c.in_ok-post.ensures.number ∙ c.loop-frame.invariant.number;
  posting = posting_more g.W.Hosting.opened g.J.Naming.name.passes c.args.pass.now.number c.args.conn (map frame_of c.args.frames.items) (map frame_of (into_iter_items c.next.new.self)) (frame_of c.in-Some.frame) c.in-Some-2.input c.args.pass.now.front c.loop-frame.pass.front c.post.new.pass.front (subst (λ items. IsPosting g.W.Hosting.opened g.J.Naming.name.passes c.args.pass.now.number c.args.conn (map frame_of c.args.frames.items) (map frame_of items) c.args.pass.now.front c.loop-frame.pass.front) c.in-Some.ensures.steps.0 c.loop-frame.invariant.posting) (rw c.in-Some-2.is at c.in_ok-input.ensures)
      (enters_one g.W.Hosting.opened g.J.Naming.name.passes c.args.pass.now.number _ c.loop-frame.pass.front c.post.new.pass.front
      (subst (λ n. Entered g.W.Hosting.opened n (event.Post n c.args.conn c.in-Some-2.input posted.Taken ∷ []) c.loop-frame.pass.front c.post.new.pass.front) c.loop-frame.invariant.number c.in_ok-post.ensures.entered) c.in_ok-post.ensures.named);
}

pub returns-in_err-post-clause-posts : goal.returns-in_err-post-clause-posts
returns-in_err-post-clause-posts g c =
    subst (λ r. PostsFrames g.W.Hosting.opened g.J.Naming.name.passes c.args.pass.now.number c.args.conn (map frame_of c.args.frames.items) r c.args.pass.now.front c.post.new.pass.front) (sym (err_is c.from_residual-in_err-post.result c.in_err-post.field-0.0 c.from_residual-in_err-post.ensures.1))
    (posted_refused g.W.Hosting.opened g.J.Naming.name.passes c.args.pass.now.number c.args.conn (map frame_of c.args.frames.items) (map frame_of (into_iter_items c.next.new.self)) (frame_of c.in-Some.frame) c.in-Some-2.input c.in_err-post.field-0.0 c.args.pass.now.front c.loop-frame.pass.front c.post.new.pass.front (subst (λ items. IsPosting g.W.Hosting.opened g.J.Naming.name.passes c.args.pass.now.number c.args.conn (map frame_of c.args.frames.items) (map frame_of items) c.args.pass.now.front c.loop-frame.pass.front) c.in-Some.ensures.steps.0 c.loop-frame.invariant.posting) (rw c.in-Some-2.is at c.in_ok-input.ensures)
    (enters_one g.W.Hosting.opened g.J.Naming.name.passes c.args.pass.now.number _ c.loop-frame.pass.front c.post.new.pass.front
    (subst (λ n. Entered g.W.Hosting.opened n (post_events n c.args.conn c.in-Some-2.input (Err c.in_err-post.field-0.0)) c.loop-frame.pass.front c.post.new.pass.front) c.loop-frame.invariant.number c.in_err-post.ensures.entered) c.in_err-post.ensures.named))

pub returns-in_err-input-clause-posts : goal.returns-in_err-input-clause-posts
returns-in_err-input-clause-posts g c =
    subst (λ r. PostsFrames g.W.Hosting.opened g.J.Naming.name.passes c.args.pass.now.number c.args.conn (map frame_of c.args.frames.items) r c.args.pass.now.front c.loop-frame.pass.front) (sym (err_is c.from_residual.result refused.NoMemory c.from_residual.ensures.1))
    (posted_without_memory g.W.Hosting.opened g.J.Naming.name.passes c.args.pass.now.number c.args.conn (map frame_of c.args.frames.items) (map frame_of (into_iter_items c.next.new.self)) (frame_of c.in-Some.frame) c.args.pass.now.front c.loop-frame.pass.front (subst (λ items. IsPosting g.W.Hosting.opened g.J.Naming.name.passes c.args.pass.now.number c.args.conn (map frame_of c.args.frames.items) (map frame_of items) c.args.pass.now.front c.loop-frame.pass.front) c.in-Some.ensures.steps.0 c.loop-frame.invariant.posting))
