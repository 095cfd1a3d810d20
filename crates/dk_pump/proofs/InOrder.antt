-- Two orders in one: more of either goes behind.
use Rattle.std.proofs.Common.{List, [], ◌∷◌, ◌++◌, inl, inr, refl, sym, ap, subst}
use Rattle.dk_types.specs.declared.event.Event.{Event}
use Rattle.dk_pump.specs.Sessions.{AreOfBoth}

all_reads : (events : List Event) → AreOfBoth events [] events
all_reads [] = (refl, refl)
all_reads (e ∷ events) = inl (events, refl, all_reads events)

all_writes : (events : List Event) → AreOfBoth [] events events
all_writes [] = (refl, refl)
all_writes (e ∷ events) = inr (events, refl, all_writes events)

module _ (more : List Event) where
  pub reads_behind : (reads writes events : List Event) → AreOfBoth reads writes events → AreOfBoth (reads ++ more) writes (events ++ more)
  reads_behind reads writes [] b = subst (λ r. AreOfBoth (r ++ more) writes more) (sym b.0) (subst (λ w. AreOfBoth more w more) (sym b.1) (all_reads more))
  reads_behind reads writes (e ∷ events) b = elim b [
    | inl h ↦ inl (h.0 ++ more, ap (λ l. l ++ more) h.1, reads_behind h.0 writes events h.2)
    | inr h ↦ inr (h.0, h.1, reads_behind reads h.0 events h.2)
  ]

  pub writes_behind : (reads writes events : List Event) → AreOfBoth reads writes events → AreOfBoth reads (writes ++ more) (events ++ more)
  writes_behind reads writes [] b = subst (λ w. AreOfBoth reads (w ++ more) more) (sym b.1) (subst (λ r. AreOfBoth r more more) (sym b.0) (all_writes more))
  writes_behind reads writes (e ∷ events) b = elim b [
    | inl h ↦ inl (h.0, h.1, writes_behind h.0 writes events h.2)
    | inr h ↦ inr (h.0 ++ more, ap (λ l. l ++ more) h.1, writes_behind reads h.0 events h.2)
  ]
