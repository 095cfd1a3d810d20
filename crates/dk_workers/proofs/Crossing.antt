-- A host may be shared by threads, and a pass may go to one.
use denote.Param.Send.{IsSend, IsSync, sendable, view_send}
use denote.Param.SendFields.{as_row_send, as_row_sync, declared_send, declared_sync}
use Rattle.std.proofs.Crossing.{crosses}
use Rattle.std.proofs.option.Option.TheSendSync as options
use Rattle.dk_map.proofs.tree.Tree.TheLaws.TheKnot as knot
use Rattle.dk_hashed.proofs.hashed.HashedMap.TheSendSync as hashed
use Rattle.dk_objects.proofs.objects.Objects.TheSendSync as stored_objects
use Rattle.dk_types.proofs.number.ObjectId.TheSendSync as ids
use Rattle.dk_types.proofs.number.ConnNo.TheSendSync as conns
use Rattle.dk_types.proofs.number.RunNo.TheSendSync as runs
use Rattle.dk_types.proofs.number.TaskKey.TheSendSync as keys
use Rattle.dk_types.proofs.name.Name.TheSendSync as name
use Rattle.dk_tasks.proofs.stored.Stored.TheSendSync as task
use Rattle.dk_tasks.proofs.stored.TaskRank.TheSendSync as task_rank
use Rattle.dk_connections.proofs.stored_connection.StoredConnection.TheSendSync as connection
use Rattle.dk_connections.proofs.place.ConnectionRank.TheSendSync as connection_rank
use Rattle.dk_objects.specs.contracts.objects.Objects as objects
use Rattle.dk_names.specs.contracts.names.Names as names
use Rattle.dk_tasks.specs.contracts.tasks.Tasks as tasks
use Rattle.dk_connections.specs.contracts.connections.Connections as connections
use Rattle.dk_core.specs.contracts.claims.Claims as claims
use Rattle.dk_core.specs.contracts.durable.world.StampedWorld as stamped
use Rattle.dk_core.specs.contracts.world.Core as core
use denote.RattleType.{RattleType}
use denote.Ref.{NamedLft}
use Rattle.std.proofs.alloc.Global.TheSendSync as global
use Rattle.std.proofs.sync.ledger.Book.TheSendSync as ledger
use Rattle.dk_types.specs.contracts.event.Event as events
use Rattle.dk_host.specs.declared.hosting.Hosting as hosting
use Rattle.dk_host.specs.contracts.book.WorldBook as book
use Rattle.dk_turn.specs.declared.naming.Naming as naming
use Rattle.dk_turn.proofs.pass.Pass.TheSendSync as pass
use Rattle.dk_turn.specs.contracts.pass.Pass as passes
use Rattle.dk_model.specs.Legal.{pass_of}
use Rattle.dk_turn.proofs.turn.Turn.TheSendSync as turn
use Rattle.dk_turn.proofs.watcher.Watcher.TheSendSync as watcher
use Rattle.dk_turn.specs.contracts.watcher.Watcher as watchers
use Rattle.dk_types.proofs.game_id.GameId.TheSendSync as game_id
use Rattle.dk_types.proofs.side.Side.TheSendSync as side
use Rattle.dk_host.proofs.history.History.TheSendSync as history
use Rattle.dk_turn.specs.contracts.turn.Turn as turns
use Rattle.dk_disk.specs.declared.home.Home as home
use Rattle.dk_journal.proofs.journal.Journal.TheSendSync as journal
use Rattle.dk_connections.proofs.deliveries.Deliveries.TheSendSync as deliveries
use Rattle.dk_core.specs.contracts.prepared.Prepared as prepared
use Rattle.dk_host.proofs.right.CommitRight.TheSendSync as right
use Rattle.dk_host.specs.contracts.store.CommitStore as store
use Rattle.dk_host.specs.contracts.store.CommitStore.TheInside as store_inside
use Rattle.dk_notice.proofs.board.NoticeBoard.TheSendSync as board
use Rattle.dk_host.specs.contracts.free.FreeStore as free
use Rattle.dk_host.specs.contracts.free.FreeStore.TheInside as free_inside
use Rattle.dk_host.specs.contracts.host.Host as host
use Rattle.dk_workers.specs.contracts.team.Team as team
use Rattle.dk_host.specs.contracts.book.WorldBook.TheInside as inside

pub objects_send : IsSend objects.the_row
objects_send = stored_objects.the_send

pub names_send : IsSend names.the_row
names_send = search (sendable, crosses, knot.crosses, options.the_send, ids.the_send, name.the_send) depth 40 fits 20000

pub tasks_send : IsSend tasks.the_row
tasks_send = search (sendable, crosses, hashed.the_send, knot.crosses, options.the_send, keys.the_send, task.the_send, task_rank.the_send) depth 20

pub connections_send : IsSend connections.the_row
connections_send = search (sendable, crosses, knot.crosses, options.the_send, conns.the_send, connection.the_send, connection_rank.the_send) depth 20

pub claims_send : IsSend claims.the_row
claims_send = search (sendable, crosses, knot.crosses, options.the_send, options.the_field_send, runs.the_send) depth 40 fits 20000

pub stamped_send : IsSend stamped.the_row
stamped_send = search (sendable, crosses, runs.the_send, objects_send, names_send, tasks_send) depth 20

pub core_send : IsSend core.the_row
core_send = search (sendable, crosses, stamped_send, connections_send, claims_send) depth 20

-- the effects in it are for contracts alone
pub prepared_send : IsSend prepared.the_row
prepared_send = search (sendable, crosses, deliveries.the_send) depth 20

pub inside_send : (W : RattleType) (h : hosting.Ghosts W.Denot) → IsSend W → IsSend (inside.the_row W h)
inside_send W h s = declared_send (inside.the_type W h) (search (sendable, core_send), (search (sendable, history.the_send), (search (sendable, crosses, ledger.the_send) depth 20, (search (sendable, crosses, ledger.the_send) depth 20, tt))))

pub book_send : (W : RattleType) (h : hosting.Ghosts W.Denot) → IsSend W → IsSend (book.the_row W h)
book_send W h s = view_send (inside.the_row W h) _ _ _ _ (inside_send W h s)

module _ (W J : RattleType) (w : hosting.Ghosts W.Denot) (j : naming.Ghosts J.Denot) (a : IsSend W) (b : IsSend J) where
  abbrev pub pass_row : RattleType
  pass_row = passes.the_row (book.the_row W w) J events.the_row record { history = λ b. b; number = pass_of } j

  pub pass_send : IsSend pass_row
  pass_send = pass.the_send (book.the_row W w) J events.the_row record { history = λ b. b; number = pass_of } j (book_send W w a)

  -- who only looks may go to a thread too
  pub watcher_send : IsSend (watchers.the_row (book.the_row W w) J events.the_row record { history = λ b. b; number = pass_of } j)
  watcher_send = watcher.the_send (book.the_row W w) J events.the_row record { history = λ b. b; number = pass_of } j (book_send W w a)

  pub turn_sync : IsSync (turns.the_row (book.the_row W w) J events.the_row record { history = λ b. b; number = pass_of } j)
  turn_sync = turn.the_sync (book.the_row W w) J events.the_row record { history = λ b. b; number = pass_of } j (book_send W w a)

module _ (W J M : RattleType) (w : hosting.Ghosts W.Denot) (j : naming.Ghosts J.Denot) (m : home.Ghosts M.Denot) (a : IsSend W) (b : IsSend J) (c : IsSend M) where
  pub store_send : IsSend (store.the_row W J M w j m)
  store_send = view_send (store_inside.the_row W J M w j m) _ _ _ _ (declared_send (store_inside.the_type W J M w j m)
      (search (sendable, crosses, as_row_send, c, watcher_send W J w j a b, game_id.the_send, side.the_send, journal.the_send, right.the_send, prepared_send) depth 20))

  pub free_send : IsSend (free.the_row W J M w j m)
  free_send = view_send (free_inside.the_row W J M w j m) _ _ _ _ (declared_send (free_inside.the_type W J M w j m) (search (sendable, crosses, store_send, board.the_send) depth 20))

  pub host_sync : IsSync (host.the_row W J M w j m)
  host_sync = declared_sync (host.the_type W J M w j m) (search (sendable, crosses, as_row_sync, turn_sync W J w j a b, free_send) depth 20)

-- what the workers share
pub team_sync : (ℓ : NamedLft) (G W J M T R : RattleType) (j : naming.Ghosts J.Denot) (m : home.Ghosts M.Denot) (w : hosting.Ghosts W.Denot)
    → IsSync G → IsSend W → IsSend J → IsSend M → IsSync T → IsSync R → IsSync (team.the_row ℓ G W J M T R w j m)
team_sync ℓ G W J M T R j m w g a b c t r =
    declared_sync (team.the_type ℓ G W J M T R w j m) (search (sendable, crosses, host_sync W J M w j m a b c, global.the_sync, g, t, r) depth 20)
