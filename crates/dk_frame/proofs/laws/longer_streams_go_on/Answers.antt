use Rattle.dk_frame.proofs.Apart.{longer_stream, faults_last}
use Rattle.dk_frame.proofs.laws.longer_streams_go_on.Goals as goal

pub returns : goal.returns
returns c = record { frames = longer_stream; fault = faults_last }
