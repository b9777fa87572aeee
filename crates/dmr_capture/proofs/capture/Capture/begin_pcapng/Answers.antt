use Rattle.std.proofs.Common.{◌≡◌, [], ◌++◌, take, refl, sym, subst}
use Rattle.std.proofs.KnownBytes.{Consumes-trans}
use Rattle.dmr_capture.specs.Blocks.{IsBehindBlock, IsCaptureBlock, IsBlockHead, IsBlockRest, ShowsFaultInBlock, packets_in}
use Rattle.dmr_capture.specs.Blocks.{section_type}
use Rattle.dmr_capture.specs.State.{fresh_pcapng}
use Rattle.dmr_capture.proofs.Blocks.{is_block, rest_fault, section_holds_none}
use Rattle.dmr_capture.proofs.Fronts.{joined, joined_more, taken_of_none}
use Rattle.dmr_capture.proofs.capture.Capture.begin_pcapng.Goals as goal

pub returns-in-Err-read_head-clause-fault : goal.returns-in-Err-read_head-clause-fault
returns-in-Err-read_head-clause-fault g c =
    let front = take 4 c.args.head.now in
    let (four, took, stands, count) = c.in_default.ensures.octets in
    let (more, next, shown) = c.in-Err-read_head.ensures.fault in
    let e = c.in-Err-read_head.fault in (
      four ++ more,
      Consumes-trans _ _ _ four more took next,
      subst (λ l. ShowsFaultInBlock fresh_pcapng e l) (joined front four more)
          (subst (λ s. ShowsFaultInBlock s e (front ++ four ++ more)) c.at-capture.ensures.value
          (subst (λ l. ShowsFaultInBlock c.at-capture.result e (l ++ more)) stands shown)),
    )

pub returns-in-Err-read_rest-clause-fault : goal.returns-in-Err-read_rest-clause-fault
returns-in-Err-read_rest-clause-fault g c =
    let front = take 4 c.args.head.now in
    let (four, took, stands, count) = c.in_default.ensures.octets in
    let (more, next, begins) = c.in-Ok.ensures.head in
    let (rest, end, shown) = c.in-Err-read_rest.ensures.fault in
    let head : IsBlockHead fresh_pcapng (front ++ four ++ more) c.in-Ok.block =
    subst (λ s. IsBlockHead s (front ++ four ++ more) c.in-Ok.block) c.at-capture.ensures.value
    (subst (λ l. IsBlockHead c.at-capture.result (l ++ more) c.in-Ok.block) stands begins) in (
      four ++ more ++ rest,
      Consumes-trans _ _ _ (four ++ more) rest (Consumes-trans _ _ _ four more took next) end,
      subst (λ l. ShowsFaultInBlock fresh_pcapng c.in-Err-read_rest.fault l) (joined_more front four more rest)
          (rest_fault fresh_pcapng c.in-Err-read_rest.fault (front ++ four ++ more) rest c.in-Ok.block head shown),
    )

pub returns-clause-head : goal.returns-clause-head
returns-clause-head g c =
    let front = take 4 c.args.head.now in
    let b = c.in-Ok.block in
    let (four, took, stands, count) = c.in_default.ensures.octets in
    let (more, next, begins) = c.in-Ok.ensures.head in
    let (rest, end, whole) = c.in_default-read_rest.ensures.rest in
    let head : IsBlockHead fresh_pcapng (front ++ four ++ more) b =
    subst (λ s. IsBlockHead s (front ++ four ++ more) b) c.at-capture.ensures.value
    (subst (λ l. IsBlockHead c.at-capture.result (l ++ more) b) stands begins) in
    let section : take 4 (front ++ four ++ more) ≡ section_type =
    subst (λ f. take 4 (f ++ four ++ more) ≡ section_type) (sym c.requires.magic) refl in
    let none : packets_in b.block 0 [] ≡ [] = section_holds_none fresh_pcapng (front ++ four ++ more) b 0 [] head section in
    let keeps : IsBlockRest b [] rest =
    subst (λ l. IsBlockRest b l rest) (taken_of_none b.kept c.read_rest.new.room c.read_rest.auto.room) whole in
    let behind = subst (λ s. IsBehindBlock b.block s b [] c.pass.new.self) c.at-capture.ensures.value c.pass.ensures.behind in (
      four ++ more ++ rest,
      Consumes-trans _ _ _ (four ++ more) rest (Consumes-trans _ _ _ four more took next) end,
      subst (λ l. IsCaptureBlock fresh_pcapng l c.pass.new.self []) (joined_more front four more rest)
          (is_block fresh_pcapng c.pass.new.self (front ++ four ++ more) rest [] b [] head keeps behind (sym none)),
    )
