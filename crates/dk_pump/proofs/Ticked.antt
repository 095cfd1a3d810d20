-- How the ticks of a ticker go together.
use Rattle.std.proofs.Common.{ℕ, ◌<◌, List, [], ◌∷◌, ◌++◌, Result, Ok, Err, sym}
use Rattle.std.specs.List.{All}
use Rattle.std.proofs.lemmas.List.{append-nil, map-append}
use Rattle.dk_types.specs.declared.event.Event.{Event}
use Rattle.dk_types.specs.declared.event.Event.TheVariants as event
use Rattle.dk_types.specs.declared.fault.NoMemory.{NoMemory}
use Rattle.dk_model.specs.Legal.{Opened, pass_of}
use Rattle.dk_host.specs.Calls.{Entered, tick_events}
use Rattle.dk_pump.specs.Ticking.{Ticks, ticks}
use Rattle.dk_pump.proofs.Entering.{enters_none, enters_one, enters_then, enters_as}

module _ (o : Opened) (count pass : ℕ) where
  -- none yet
  pub ticked_none : (front : List Event) → Ticks o count pass front front
  ticked_none front = record { moments = []; enters = enters_none o count pass front }

  -- one more, if there was memory for it
  pub ticked_then : (moment : ℕ) (r : Result (Unit {0}) NoMemory) (old mid new : List Event) → Ticks o count pass old mid → Entered o pass (tick_events pass moment r) mid new → All (λ e. pass_of e < count) new → Ticks o count pass old new
  ticked_then moment (Ok done) old mid new a e named = record {
    moments = a.moments ++ moment ∷ [];
    enters = enters_as o count pass (ticks pass a.moments ++ event.Tick pass moment ∷ []) (ticks pass (a.moments ++ moment ∷ [])) old new (map-append (λ m. event.Tick pass m) a.moments (moment ∷ []))
        (enters_then o count pass (ticks pass a.moments) (event.Tick pass moment ∷ []) old mid new a.enters (enters_one o count pass (event.Tick pass moment ∷ []) mid new e named));
  }
  ticked_then moment (Err refused) old mid new a e named = record {
    moments = a.moments;
    enters = enters_as o count pass (ticks pass a.moments ++ []) (ticks pass a.moments) old new (sym (append-nil (ticks pass a.moments)))
        (enters_then o count pass (ticks pass a.moments) [] old mid new a.enters (enters_one o count pass [] mid new e named));
  }
