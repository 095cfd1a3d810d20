use Rattle.std.proofs.Common.{◌==◌, ap, ◌∙◌}
use Rattle.dk_map.proofs.Seen.{len_seen}
use Rattle.dk_core.proofs.claims.Claims.is_empty.Goals as goal

pub returns : goal.returns
returns c = ap (λ n. n == 0) (c.len.ensures.len ∙ len_seen _ (ap (λ s. s.claims) c.self.view_is) c.self.invariant.0)
