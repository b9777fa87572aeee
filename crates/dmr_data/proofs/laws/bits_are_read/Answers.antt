use Rattle.dmr_data.proofs.Existing.{read_header_or_not, read_block_or_not}
use Rattle.dmr_data.proofs.laws.bits_are_read.Goals as goal

pub returns : goal.returns
returns c = record { header = read_header_or_not; block = read_block_or_not }
