use Rattle.dk_types.proofs.ExactLaws.{prefix_free}
use Rattle.dk_model.specs.Images.{IsImageValue, image_spelling, image_at}
use Rattle.dk_image.specs.ImageLaws.{image_exact}
use Rattle.dk_image.proofs.laws.no_image_begins_another.Goals as goal

pub returns : goal.returns
returns c format = prefix_free (IsImageValue format) image_spelling (image_at format) (image_exact format)
