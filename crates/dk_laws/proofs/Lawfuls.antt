-- Each operation and each call is lawful, as the laws state it.
use Rattle.std.proofs.Common.{refl}
use Rattle.dk_types.specs.declared.mode.Mode.{Mode}
use Rattle.dk_model.specs.Runs.{Act, within}
use Rattle.dk_model.specs.Platforms.{open_record, close_record, create_channel, join, leave, leave_all}
use Rattle.dk_model.proofs.Acts.{IsLawful, goes_on_of, keeps_of}
use Rattle.dk_model.proofs.Operations.{lawful_get, lawful_create, lawful_save, lawful_mark, lawful_remove, lawful_bound, lawful_bind, lawful_unbind, lawful_next_bound, lawful_schedule, lawful_schedule_periodic, lawful_cancel, lawful_send}
use Rattle.dk_model.proofs.PlatformActs.{lawful_is_connected, lawful_find_session, lawful_session_send, lawful_open_record, lawful_close_record, lawful_create_channel, lawful_get_channel, lawful_join, lawful_leave, lawful_leave_all, lawful_members, lawful_channel_send}
use Rattle.dk_laws.specs.OperationsLaw.{IsLawfulAct, IsLawfulWhere, KeepsMode, OperationsAreLawful, CallsAreLawful, ModesArePutBack}

where_met : {A Needs : Type 0} {Has : A → Type 0} {act : Act A} → IsLawful Needs Has act → IsLawfulWhere Needs act
where_met p = (goes_on_of p, λ n. keeps_of p n)

always : {A : Type 0} {Has : A → Type 0} {act : Act A} → IsLawful (Unit {0}) Has act → IsLawfulAct act
always p = (goes_on_of p, keeps_of p tt)

pub operations_lawful : OperationsAreLawful
operations_lawful = record {
  get = λ id. always (lawful_get id);
  create = λ kind bytes. where_met (lawful_create kind bytes (λ n. n));
  save = λ id bytes. where_met (lawful_save id bytes (λ n. n));
  mark = λ id. always (lawful_mark id);
  remove = λ id. always (lawful_remove id);
  bound = λ name. always (lawful_bound name);
  bind = λ name id. where_met (lawful_bind name id (λ n. n));
  unbind = λ name. always (lawful_unbind name);
  next_bound = λ after. always (lawful_next_bound after);
  schedule = λ kind arg delay. where_met (lawful_schedule kind arg delay (λ n. n));
  schedule_periodic = λ kind arg delay period. where_met (lawful_schedule_periodic kind arg delay period (λ n. n));
  cancel = λ key. always (lawful_cancel key);
  send = λ to message. always (lawful_send to message);
}

pub calls_lawful : CallsAreLawful
calls_lawful = record {
  is_connected = λ session. always (lawful_is_connected session);
  find_session = λ name. always (lawful_find_session name);
  session_send = λ session body. always (lawful_session_send session body);
  open_record = λ session. where_met (lawful_open_record session (λ n. n));
  close_record = λ session. always (lawful_close_record session);
  create_channel = λ name listener delivery. where_met (lawful_create_channel name listener delivery (λ n. n));
  get_channel = λ name. always (lawful_get_channel name);
  join = λ name session. where_met (lawful_join name session (λ n. n));
  leave = λ name session. always (lawful_leave name session);
  leave_all = λ name. always (lawful_leave_all name);
  members = λ name. always (lawful_members name);
  channel_send = λ name sender body. always (lawful_channel_send name sender body);
}

within_keeps : {A : Type 0} (mode : Mode) (act : Act A) → KeepsMode (within mode act)
unfolding within
within_keeps mode act s = refl

pub modes_put_back : ModesArePutBack
unfolding open_record close_record create_channel join leave leave_all
modes_put_back = record {
  open_record = λ session. within_keeps _ _;
  close_record = λ session. within_keeps _ _;
  create_channel = λ name listener delivery. within_keeps _ _;
  join = λ name session. within_keeps _ _;
  leave = λ name session. within_keeps _ _;
  leave_all = λ name. within_keeps _ _;
}
