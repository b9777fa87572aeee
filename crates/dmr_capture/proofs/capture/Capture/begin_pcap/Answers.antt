use Rattle.std.proofs.Common.{◌≡◌, length, take, arith, sym, subst, ◌∙◌}
use Rattle.std.proofs.lemmas.List.{length-take-le}
use Rattle.dmr_capture.specs.Records.{HasPcapMagic}
use Rattle.dmr_capture.proofs.Fronts.{number_front}
use Rattle.dmr_capture.proofs.capture.Capture.begin_pcap.Goals as goal

pub link_said-requires-clause-magic : goal.link_said-requires-clause-magic
link_said-requires-clause-magic g c =
    let (more, took, stands, whole) = c.in_default.ensures.octets in
    let front = take 4 c.args.head.now in
    let four : length front ≡ 4 = let room = c.requires.room in length-take-le 4 c.args.head.now (omega arith) in
    subst (λ l. HasPcapMagic l c.args.order c.args.fraction) (sym stands)
    (number_front c.args.order 4 front more (omega (arith, four)) ∙ c.requires.magic)
