use Rattle.goal_text.proofs.FileLaws.{one_file}
use Rattle.goal_text.proofs.file.one_reading.Goals as goal

pub returns : goal.returns
returns c bytes ss others first second = one_file first second
