use Rattle.dk_image.proofs.Limits.{image_more}
use Rattle.dk_image.proofs.laws.first_format_is_in_the_second.Goals as goal

pub returns : goal.returns
returns c = image_more
