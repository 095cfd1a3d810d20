use Rattle.dk_laws.proofs.OneWorld.{event_leads}
use Rattle.dk_laws.proofs.histories.events_lead_to_one_world.Goals as goal

pub returns : goal.returns
returns c = event_leads
