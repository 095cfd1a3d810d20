use Rattle.std.proofs.Common.{ap, ◌∙◌}
use Rattle.dk_inspect.specs.Items.{name_data, object_data, task_data, list_text}
use Rattle.dk_inspect.proofs.Written.{built}
use Rattle.dk_inspect.proofs.text.inspect_text.Goals as goal

pub returns : goal.returns
returns c =
    c.from_vec.ensures ∙ ap (λ v. v.items) c.into_bytes.ensures.value ∙ built c.args.game.now c.args.durable.now
    c.new-out.ensures.bytes
    c.in_ok-push_str.ensures.bytes
    c.in_ok-push_number.ensures
    c.in_ok-push_str-2.ensures.bytes
    c.in_ok-push_game.ensures
    c.in_ok-push_str-3.ensures.bytes
    c.in_ok-push_last.ensures
    c.in_ok-push_str-4.ensures.bytes
    c.in_ok-push_list.ensures
    c.in_ok-push_str-5.ensures.bytes
    c.in_ok-push_list-2.ensures
    c.in_ok-push_str-6.ensures.bytes
    c.in_ok-push_list-3.ensures
    c.in_ok-push_str-7.ensures.bytes
    (ap (list_text name_data) c.as_slice.ensures)
    (ap (list_text object_data) c.as_slice-2.ensures)
    (ap (list_text task_data) c.as_slice-3.ensures)
