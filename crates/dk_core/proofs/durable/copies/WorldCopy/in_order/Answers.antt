use Rattle.std.proofs.Common.{rules, ◌≡◌, ◌∙◌, sym, subst, map, IsPermutation}
use Rattle.std.proofs.lemmas.List.{map-id}
use Rattle.std.proofs.lemmas.List.Sorted.{answers_always}
use Rattle.dk_hashed.specs.InOrder.{in_order}
use Rattle.dk_hashed.proofs.InOrder.{ordered-in_order}
use Rattle.dk_hashed.proofs.Listed.{sorted}
use Rattle.dk_model.specs.Keys.{id_cmp}
use Rattle.dk_objects.proofs.Ids.{id_total, id_same}
use Rattle.dk_core.proofs.durable.copies.WorldCopy.in_order.Goals as goal

pub returns : goal.returns
returns c =
    let items = c.self.inside.objects.items in
    let ordered = in_order id_cmp items in
    let all : IsPermutation (map (λ e. e) items) ordered = subst (λ es. IsPermutation es ordered) (sym (map-id items)) c.self.invariant in
    let up = c.in_ok-sort_by_key.ensures.sorted (λ e. e.0) (answers_always _ _ _ (λ f a r f' k. search rules)) in
    let same = sorted id_total ordered (ordered-in_order id_cmp items) id_same (λ e. e) items c.sort_by_key.new.self.items all c.in_ok-sort_by_key.ensures.permutation up in
    let listed : c.from_vec.result ≡ ordered = c.from_vec.ensures ∙ sym (map-id c.sort_by_key.new.self.items) ∙ same in
    (λ i. record { commits = c.self.inside.commits; last = c.self.inside.last; objects = listed i; names = c.from_vec-2.ensures i; tasks = c.from_vec-3.ensures i }) ∙ c.self.view_is
