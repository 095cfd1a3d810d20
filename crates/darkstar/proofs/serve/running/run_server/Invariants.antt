use Rattle.darkstar.specs.Served.{links_of}
use Rattle.darkstar.proofs.serve.running.run_server.Given as goal

-- the door of this listener, as it is lent
abbrev pub ghosts-serve_at_door-D-Doorway : goal.ghosts-serve_at_door-D-Doorway
ghosts-serve_at_door-D-Doorway g a = record {
  lent = a.net.ghost_name;
  port = a.terms.port;
  first = (g.L.Listener.listening a.net.now).given;
  most = links_of a.terms.sessions;
  counted = g.L.Listener.counted a.net.now;
}

-- the ledger of its links
abbrev pub ghosts-serve_at_door-D-Ledger : goal.ghosts-serve_at_door-D-Ledger
ghosts-serve_at_door-D-Ledger g a = record { name = a.links.name; parts = a.links.parts }
