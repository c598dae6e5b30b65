use Rattle.goal_text.proofs.ReadableLaws.{readable_of_file}
use Rattle.goal_text.proofs.file.readable.Goals as goal

pub returns : goal.returns
returns c = readable_of_file
