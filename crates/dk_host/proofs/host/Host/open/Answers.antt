use Rattle.std.proofs.Common.{[], ap, subst, ◌∙◌}
use Rattle.dk_disk.specs.DiskHistories.{DiskHistory}
use Rattle.dk_core.specs.Listings.{world_of}
use Rattle.dk_host.specs.OpenedStores.{StoreOpened}
use Rattle.dk_host.specs.Stores.{HasRecovered}
use Rattle.dk_host.proofs.Begun.{holds_now, recovered_now}
use Rattle.dk_host.proofs.Opening.{opens}
use Rattle.dk_host.proofs.host.Host.open.Goals as goal

pub open-requires : goal.open-requires
open-requires g c = record { valid = c.store.invariant.valid }

pub invariant_of-book : goal.invariant_of-book
invariant_of-book g c =
    let same = ap (λ (s : StoreOpened _). world_of s.durable) c.store.view_is ∙ c.requires.durable in
    opens g.W.Hosting.opened _ _ _ _ _ _ c.requires.lawful same c.requires.budget c.in-Ok.ensures.stands c.in-Ok-new.ensures c.open-commits.ensures.total c.open-places.ensures.total

pub new-store-requires-clause-since : goal.new-store-requires-clause-since
new-store-requires-clause-since g c tells =
    let s = c.store.inside in
    let same = ap (λ (x : StoreOpened _). world_of x.durable) c.store.view_is ∙ c.requires.durable in
    subst (λ (began : DiskHistory). HasRecovered g.W.Hosting.opened began (g.M.Home.past s.home) [] []) (ap (λ (x : StoreOpened _). g.M.Home.past x.home) c.store.view_is ∙ c.requires.began)
    (recovered_now g.W.Hosting.opened (g.M.Home.past s.home) s.stood.journal s.stood.side s.game (world_of s.stood.durable) (c.store.invariant.holds tells) same)

pub new-store-requires-clause-holds : goal.new-store-requires-clause-holds
new-store-requires-clause-holds g c tells =
    let s = c.store.inside in
    let same = ap (λ (x : StoreOpened _). world_of x.durable) c.store.view_is ∙ c.requires.durable in
    holds_now g.W.Hosting.opened (g.M.Home.past s.home) s.stood.journal s.stood.side s.game (world_of s.stood.durable) (c.store.invariant.holds tells) same

pub new-store-requires-clause-first : goal.new-store-requires-clause-first
new-store-requires-clause-first g c = ap (λ (x : StoreOpened _). x.journal.epoch) c.store.view_is ∙ c.requires.first

pub new-store-requires-clause-opening : goal.new-store-requires-clause-opening
new-store-requires-clause-opening g c = ap (λ (x : StoreOpened _). g.M.Home.opening x.home) c.store.view_is ∙ c.requires.opening

pub new-store-requires-clause-counted : goal.new-store-requires-clause-counted
new-store-requires-clause-counted g c = ap (λ (x : StoreOpened _). g.M.Home.counted x.home) c.store.view_is ∙ c.requires.counted
