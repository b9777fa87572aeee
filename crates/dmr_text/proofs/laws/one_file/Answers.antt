use Rattle.dmr_text.proofs.OneFile.{file_one}
use Rattle.dmr_text.proofs.laws.one_file.Goals as goal

pub returns : goal.returns
returns c = record { one = file_one }
