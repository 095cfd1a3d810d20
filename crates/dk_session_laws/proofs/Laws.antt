-- The laws of operations, calls and steps, put together.
use Rattle.dk_session_laws.specs.KeepingLaw.{OperationsKeepSessions, CallsKeepSessions, RecordsOpenAndClose, StepsLead}
use Rattle.dk_session_laws.proofs.Keeps as keeps
use Rattle.dk_session_laws.proofs.Calls as calls
use Rattle.dk_session_laws.proofs.LeaveAll.{keeps_leave_all}
use Rattle.dk_session_laws.proofs.Led.{closes}
use Rattle.dk_session_laws.proofs.Opened.{opens}
use Rattle.dk_session_laws.proofs.Works.{step_led}

pub operations_keep : OperationsKeepSessions
operations_keep = record {
  get = λ id. keeps.keeps_get id;
  create = keeps.keeps_create;
  save = keeps.keeps_save;
  mark = keeps.keeps_mark;
  remove = keeps.keeps_remove;
  bound = λ name. keeps.keeps_bound name;
  bind = keeps.keeps_bind;
  unbind = keeps.keeps_unbind;
  next_bound = λ after. keeps.keeps_next_bound after;
  schedule = λ kind arg delay. keeps.keeps_schedule kind arg delay;
  schedule_periodic = λ kind arg delay period. keeps.keeps_schedule_periodic kind arg delay period;
  cancel = λ key. keeps.keeps_cancel key;
  send = λ to message. keeps.keeps_send to message;
}

pub calls_keep : CallsKeepSessions
calls_keep = record {
  is_connected = λ mode session. calls.keeps_is_connected session;
  find_session = λ mode name. calls.keeps_find_session name;
  session_send = λ mode session body. calls.keeps_session_send session body;
  create_channel = λ mode name listener delivery. calls.keeps_create_channel name listener delivery;
  get_channel = λ mode name. calls.keeps_get_channel name;
  join = λ mode name session named. calls.keeps_join name session named;
  leave = λ mode name session. calls.keeps_leave name session;
  leave_all = λ mode name. keeps_leave_all name;
  members = λ mode name. calls.keeps_members name;
  channel_send = λ mode name sender body. calls.keeps_channel_send name sender body;
}

pub open_and_close : RecordsOpenAndClose
open_and_close = record { open_record = opens; close_record = λ s session st. closes s session st }

pub steps_lead : StepsLead
steps_lead rules j run at d keep st is new may = step_led rules keep j run at d st is new may
