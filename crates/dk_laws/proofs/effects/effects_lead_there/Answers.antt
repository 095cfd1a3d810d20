use Rattle.dk_laws.proofs.EffectsMade.{apply-effects}
use Rattle.dk_laws.proofs.effects.effects_lead_there.Goals as goal

pub returns : goal.returns
returns c = apply-effects
