-- A commit's four steps are what the model delivers.
use Rattle.std.proofs.Common.{◌≡◌, refl, sym, ap, subst, ◌∙◌, List, Option}
use Rattle.std.specs.FinMap.{FinMap}
use Rattle.dk_types.specs.declared.number.ConnNo.{ConnNo}
use Rattle.dk_types.specs.declared.job.Job.{Job}
use Rattle.dk_types.specs.declared.job.Out.{Out}
use Rattle.dk_model.specs.Keys.{conn_cmp}
use Rattle.dk_model.specs.Deliveries.{closed_by, conn_of, delivered, ended_by, for_conn, input_left, with_closed, with_outs, without_done}
use Rattle.dk_connections.specs.MarkedConnections.{MarkedConnection, all_of, change_some, left, linked, over_now, run_ended, KeepsMarks, KeepsMarksBut}
use Rattle.dk_connections.proofs.Changes.{all_of-change_some, all_of-left}
use Rattle.dk_connections.proofs.Closings.{without-ended}
use Rattle.dk_connections.proofs.Marks.{keeps_change_some, keeps_left, marks_ended, marks_then}

-- the connections at first, without the input, with the messages, without those that a Close closed, and at last
module _ (j : Job) (outs : List (ConnNo × Out)) (first ran sent shut last : FinMap conn_cmp MarkedConnection) (conn end : Option ConnNo) (closed : List ConnNo)
    (conn_is : conn ≡ conn_of j) (runs : ran ≡ change_some conn run_ended first) (ends : last ≡ left (change_some end (linked over_now) shut)) where
  pub delivered_is : all_of sent ≡ with_outs outs (all_of ran) → closed ≡ closed_by outs (all_of ran) → all_of shut ≡ without_done (with_closed closed (all_of sent))
      → end ≡ ended_by j → all_of last ≡ without_done (delivered j outs (all_of first))
  delivered_is sends closes shuts end_is =
      let out : all_of ran ≡ for_conn (conn_of j) input_left (all_of first) =
      ap all_of runs ∙ all_of-change_some first conn run_ended input_left (λ l. refl) ∙ ap (λ c. for_conn c input_left (all_of first)) conn_is
      in
      let names = closes ∙ ap (closed_by outs) out in
      let boxes = sends ∙ ap (with_outs outs) out in
      ap all_of ends ∙ all_of-left (change_some end (linked over_now) shut)
      ∙ ap without_done (all_of-change_some shut end (linked over_now) over_now (λ l. refl))
      ∙ ap (λ m. without_done (for_conn end over_now m)) shuts
      ∙ without-ended end (with_closed closed (all_of sent))
      ∙ (λ i. without_done (for_conn (end_is i) over_now (with_closed (names i) (boxes i))))

  pub marks_are : KeepsMarks ran sent → KeepsMarks sent shut → KeepsMarksBut j first last
  marks_are a b =
      let start : KeepsMarksBut j first ran = subst (KeepsMarksBut j first) (sym (runs ∙ ap (λ c. change_some c run_ended first) conn_is)) (marks_ended j first) in
      let ended = change_some end (linked over_now) shut in
      subst (KeepsMarksBut j first) (sym ends)
      (marks_then _ first ended (left ended)
      (marks_then _ first shut ended (marks_then _ first sent shut (marks_then _ first ran sent start a) b) (keeps_change_some shut end (linked over_now) (λ l. refl))) (keeps_left ended))
