use Rattle.driver_line.proofs.OneContents.{one_content}
use Rattle.driver_line.proofs.laws.a_path_gets_one_content.Goals as goal

pub returns : goal.returns
returns c = one_content
