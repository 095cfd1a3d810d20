-- The members of a server's crew may go to threads of their own, and share what they are lent.
use denote.RattleType.{RattleType}
use denote.Ref.{NamedLft}
use denote.Param.Send.{IsSend, IsSync, sendable, view_send, view_sync}
use denote.Param.SendFields.{as_row_send, as_row_sync, declared_send, declared_sync}
use Rattle.std.proofs.Crossing.{crosses}
use Rattle.std.proofs.alloc.Global.TheSendSync as global
use Rattle.std.proofs.sync.ledger.Book.TheSendSync as book
use Rattle.std.proofs.sync.ledger.Share.TheSendSync as share
use Rattle.std.specs.declared.sync.ledger.Ledger as ledger
use Rattle.dk_disk.specs.declared.home.Home as home
use Rattle.dk_edge.specs.declared.link.Link as link
use Rattle.dk_edge.specs.declared.listener.Listener as listener
use Rattle.dk_edge.specs.declared.sink.Sink as sink
use Rattle.dk_edge.specs.declared.source.Source as source
use Rattle.dk_game.specs.declared.game.Game as game
use Rattle.dk_model.specs.declared.rules.Rules as rules
use Rattle.dk_turn.specs.declared.naming.Naming as naming
use Rattle.dk_host.specs.declared.hosting.Hosting as hosting
use Rattle.dk_workers.proofs.Crossing.{host_sync, pass_send}
use Rattle.dk_pump.specs.declared.arrivals.Doorway as doorway
use Rattle.dk_pump.specs.contracts.arrivals.Arrivals as arrivals
use Rattle.dk_pump.specs.contracts.door.Door as door
use Rattle.dk_pump.specs.contracts.place.Place as place
use Rattle.dk_pump.specs.contracts.link_count.LinkCount as count
use Rattle.dk_pump.specs.contracts.tally.Tally as tally
use Rattle.dk_pump.specs.contracts.tally.Tally.TheInside as tally_inside
use Rattle.darkstar.specs.contracts.serve.server.Server as server
use Rattle.darkstar.specs.contracts.serve.server.Server.TheInside as server_inside
use Rattle.darkstar.specs.contracts.serve.crew.Member as member
use Rattle.darkstar.proofs.serve.crew.Role.TheSendSync as role
use Rattle.darkstar.proofs.serve.helping.Helping.TheSendSync as helping

module _ (L D I O K : RattleType) (l : listener.Ghosts L.Denot I.Denot O.Denot K.Denot) (i : source.Ghosts I.Denot) (o : sink.Ghosts O.Denot) (k : link.Ghosts K.Denot) (d : doorway.Ghosts D.Denot) (b : ledger.Ghosts D.Denot) where
  pub arrivals_send : (ℓ : NamedLft) → IsSend L → IsSend (arrivals.the_row ℓ L D I O K l i o k d b)
  arrivals_send ℓ s = declared_send (arrivals.the_type ℓ L D I O K l i o k d b) (search (sendable, crosses, as_row_send, book.the_send, s) depth 20)

  pub door_sync : (ℓ : NamedLft) → IsSend L → IsSync (door.the_row ℓ L D I O K l i o k d b)
  door_sync ℓ s = declared_sync (door.the_type ℓ L D I O K l i o k d b) (search (sendable, crosses, as_row_sync, arrivals_send ℓ s) depth 20)

pub tally_send : (K : RattleType) → IsSend (tally.the_row K)
tally_send K = view_send (tally_inside.the_row K) _ _ _ _ (declared_send (tally_inside.the_type K) (search (sendable, crosses) depth 20))

module _ (D K : RattleType) (d : doorway.Ghosts D.Denot) (b : ledger.Ghosts D.Denot) (s : IsSend D) where
  pub count_send : IsSend (count.the_row D K d b)
  count_send = declared_send (count.the_type D K d b) (search (sendable, crosses, as_row_send, share.the_send, tally_send) depth 20)

  pub place_send : (W J : RattleType) (w : hosting.Ghosts W.Denot) (j : naming.Ghosts J.Denot) → IsSend W → IsSend J → IsSend (place.the_row W J D K j d w b)
  place_send W J w j v u = declared_send (place.the_type W J D K j d w b) (search (sendable, crosses, pass_send W J w j v u, count_send) depth 20)

module _ (W J M K L D C G T R I O : RattleType) (j : naming.Ghosts J.Denot) (d : doorway.Ghosts D.Denot) (w : hosting.Ghosts W.Denot) (m : home.Ghosts M.Denot) (k : link.Ghosts K.Denot) (l : listener.Ghosts L.Denot I.Denot O.Denot K.Denot) (i : source.Ghosts I.Denot) (o : sink.Ghosts O.Denot) (b : ledger.Ghosts D.Denot) (g : game.Ghosts G.Denot) (r : rules.Ghosts G.Denot)
    (sw : IsSend W) (sj : IsSend J) (sm : IsSend M) (sl : IsSend L) (sd : IsSend D) (sc : IsSync C) (sg : IsSync G) (st : IsSync T) (sr : IsSync R) where
  -- what the members are lent
  pub server_sync : (ℓ ℓ' : NamedLft) → IsSync (server.the_row ℓ ℓ' W J M L D C G T R I O K l i o k d w j m b g r)
  server_sync ℓ ℓ' = view_sync (server_inside.the_row ℓ ℓ' W J M L D C G T R I O K l i o k d w j m b g r) _ _ _ _
      (declared_sync (server_inside.the_type ℓ ℓ' W J M L D C G T R I O K l i o k d w j m b g r)
      (search (sendable, crosses, host_sync W J M w j m sw sj sm, door_sync L D I O K l i o k d b ℓ' sl, global.the_sync, helping.the_sync, sc, sg, st, sr) depth 20))

  -- a member
  pub member_send : (ℓ ℓ' ℓ'' : NamedLft) → IsSend (member.the_row ℓ ℓ' ℓ'' W J M K L D C G T R I O j d w m k l i o b g r)
  member_send ℓ ℓ' ℓ'' = declared_send (member.the_type ℓ ℓ' ℓ'' W J M K L D C G T R I O j d w m k l i o b g r)
      (search (sendable, crosses, as_row_send, role.the_send, server_sync, pass_send W J w j sw sj, place_send D K d b sd W J w j sw sj) depth 20)
