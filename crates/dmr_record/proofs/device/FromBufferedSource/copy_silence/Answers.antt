use Rattle.std.proofs.Common.{ℕ, List, ◌≡◌, ◌≤◌, ◌*◌, arith, ◌∙◌, sym, ap, take, replicate, length}
use Rattle.std.specs.Io.Buffered.{reader_buffer}
use Rattle.std.specs.Cmp.Lexicographic.{same_text}
use Rattle.dmr_record.proofs.Buffered.{buffer_first}
use Rattle.dmr_record.proofs.Silences.{at_front}
use Rattle.dmr_record.proofs.device.FromBufferedSource.copy_silence.Goals as goal

pub returns-clause-passed : goal.returns-clause-passed
returns-clause-passed g c =
    let frames = c.write_silence-copied.result.frames in
    let few = c.write_silence-copied.ensures.few in
    let held : List ℕ = reader_buffer c.args.self.now.reader in
    let same : c.buffer.result.now ≡ held = c.buffer.ensures in
    let room : 64 ≤ length c.buffer.result.now = c.starts_with.ensures.bound c.if-not-starts_with.false in
    let front : replicate 64 0 ≡ take 64 c.buffer.result.now =
    same_text _ _ (sym c.if-not-starts_with.false ∙ c.starts_with.ensures.value) in
    let all = ap length same in
    buffer_first _ held _ _ (2 * frames) _ (omega arith) (at_front frames held few (front ∙ ap (take 64) same))
    c.consume.ensures.bytes
