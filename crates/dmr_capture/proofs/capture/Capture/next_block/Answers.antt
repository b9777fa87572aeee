use Rattle.std.proofs.Common.{◌≡◌, List, ℕ, ◌++◌, take, subst}
use Rattle.std.specs.Io.KnownBytes.{Consumes}
use Rattle.std.proofs.KnownBytes.{Consumes-trans}
use Rattle.dmr_capture.specs.Blocks.{IsCaptureBlock, IsBlockHead, ShowsFaultInBlock}
use Rattle.dmr_capture.specs.Rests.{ShowsRestFault}
use Rattle.dmr_capture.specs.State.{CapturedPacket}
use Rattle.dmr_capture.proofs.Blocks.{as_packet, as_passed, is_block, rest_fault}
use Rattle.dmr_capture.proofs.capture.Capture.next_block.Goals as goal

pub returns-in-Err-read_head-clause-fault : goal.returns-in-Err-read_head-clause-fault
returns-in-Err-read_head-clause-fault g c =
    let (first, took, stands, count) = c.in-Ok-eq8.ensures.octets in
    let eight : take 8 c.fill.new.buffer ≡ first =
    subst (λ n. take n c.fill.new.buffer ≡ first) c.in-Ok-eq8.field-0-test stands in
    let (more, next, shown) = c.in-Err-read_head.ensures.fault in (
      first ++ more,
      Consumes-trans _ _ _ first more took next,
      subst (λ l. ShowsFaultInBlock c.args.self.now c.in-Err-read_head.fault (l ++ more)) eight shown,
    )

pub returns-in-Err-read_rest-clause-fault : goal.returns-in-Err-read_rest-clause-fault
returns-in-Err-read_rest-clause-fault g c =
    let (first, took, stands, count) = c.in-Ok-eq8.ensures.octets in
    let eight : take 8 c.fill.new.buffer ≡ first =
    subst (λ n. take n c.fill.new.buffer ≡ first) c.in-Ok-eq8.field-0-test stands in
    let (more, next, begins) = c.in-Ok-read_head.ensures.head in
    let (rest, end, shown) = c.in-Err-read_rest.ensures.fault in (
      first ++ more ++ rest,
      Consumes-trans _ _ _ (first ++ more) rest (Consumes-trans _ _ _ first more took next) end,
      rest_fault c.args.self.now c.in-Err-read_rest.fault (first ++ more) rest c.in-Ok-read_head.block
          (subst (λ l. IsBlockHead c.args.self.now (l ++ more) c.in-Ok-read_head.block) eight begins)
          (subst (λ s. ShowsRestFault s.octet c.in-Ok-read_head.block c.in-Err-read_rest.fault rest) c.self.view_is shown),
    )

pub returns-clause-packet : goal.returns-clause-packet
returns-clause-packet g c =
    let (first, took, stands, count) = c.in-Ok-eq8.ensures.octets in
    let eight : take 8 c.fill.new.buffer ≡ first =
    subst (λ n. take n c.fill.new.buffer ≡ first) c.in-Ok-eq8.field-0-test stands in
    let (more, next, begins) = c.in-Ok-read_head.ensures.head in
    let (rest, end, whole) = c.in_default.ensures.rest in
    let b = c.in-Ok-read_head.block in
    let all = Consumes-trans _ _ _ (first ++ more) rest (Consumes-trans _ _ _ first more took next) end in
    let head = subst (λ l. IsBlockHead c.args.self.now (l ++ more) b) eight begins in
    let Holds : List CapturedPacket → Type 0 = λ packets. (octets : List ℕ)
    × Consumes (g.S.Source.left c.args.source.now) (g.S.Source.left c.read_rest.new.source) octets
    × IsCaptureBlock c.args.self.now octets c.pass.new.self packets in
    as_packet c.pass.result c.read_rest.new.room b.kept Holds c.pass.ensures.whole (
      first ++ more ++ rest,
      all,
      is_block c.args.self.now c.pass.new.self (first ++ more) rest _ b _ head whole c.pass.ensures.behind c.pass.ensures.found,
    )

pub returns-clause-passed : goal.returns-clause-passed
returns-clause-passed g c =
    let (first, took, stands, count) = c.in-Ok-eq8.ensures.octets in
    let eight : take 8 c.fill.new.buffer ≡ first =
    subst (λ n. take n c.fill.new.buffer ≡ first) c.in-Ok-eq8.field-0-test stands in
    let (more, next, begins) = c.in-Ok-read_head.ensures.head in
    let (rest, end, whole) = c.in_default.ensures.rest in
    let b = c.in-Ok-read_head.block in
    let all = Consumes-trans _ _ _ (first ++ more) rest (Consumes-trans _ _ _ first more took next) end in
    let head = subst (λ l. IsBlockHead c.args.self.now (l ++ more) b) eight begins in
    let Holds : List CapturedPacket → Type 0 = λ packets. (octets : List ℕ)
    × Consumes (g.S.Source.left c.args.source.now) (g.S.Source.left c.read_rest.new.source) octets
    × IsCaptureBlock c.args.self.now octets c.pass.new.self packets in
    as_passed c.pass.result (take b.kept c.read_rest.new.room) Holds (
      first ++ more ++ rest,
      all,
      is_block c.args.self.now c.pass.new.self (first ++ more) rest _ b _ head whole c.pass.ensures.behind c.pass.ensures.found,
    )
