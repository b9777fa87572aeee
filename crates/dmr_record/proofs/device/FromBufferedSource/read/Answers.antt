use Rattle.std.proofs.Common.{rules, length, take, ap, ◌∙◌}
use Rattle.std.proofs.lemmas.List.{take_all}
use Rattle.std.specs.Io.Buffered.{reader_buffer}
use Rattle.dmr_record.proofs.Buffered.{buffer_first}
use Rattle.dmr_record.proofs.device.FromBufferedSource.read.Goals as goal

pub returns-then-buffer-held-clause-octets : goal.returns-then-buffer-held-clause-octets
returns-then-buffer-held-clause-octets g c =
    let count = length c.args.buffer.now in (
      buffer_first _ (reader_buffer c.args.self.now.reader) _ _ count _ (rw c.buffer-held.ensures at c.if-buffer-held.true)
          (take_all count c.copy_from_slice.new.self (search rules) ∙ c.copy_from_slice.ensures.after
          ∙ ap (take count) c.buffer-held.ensures)
          c.consume.ensures.bytes,
      search rules,
    )
