use Rattle.std.proofs.Common.{◌≡◌, ◌++◌, length, take, arith, refl, inl, inr, sym, subst}
use Rattle.std.proofs.lemmas.List.{length-append, length-take-le}
use Rattle.std.proofs.lemmas.Result.{IfErr-weaker}
use Rattle.dmr_capture.specs.Blocks.{HasHeadLength, IsPartOfBlockHead, ShowsFaultInBlock}
use Rattle.dmr_capture.specs.CutFaults.{cut_block_fault}
use Rattle.dmr_capture.specs.contracts.capture.Capture.{the_view}
use Rattle.dmr_capture.proofs.Blocks.{cut_front, head_fault}
use Rattle.dmr_capture.proofs.Fronts.{head_length_more, some_octets}
use Rattle.dmr_capture.proofs.capture.Capture.read_head.Goals as goal

pub returns-in-Err-clause-fault : goal.returns-in-Err-clause-fault
returns-in-Err-clause-fault g c =
    let (more, fewer, took) = c.in-Err.ensures.part in
    let first = take 8 c.args.head.now in
    let eight : length first ≡ 8 = let room = c.requires.room in length-take-le 8 c.args.head.now (omega arith) in
    let less : IsPartOfBlockHead (the_view c.self.inside) (first ++ more) = record {
      first = first;
      more = more;
      count = c.head_length-count.result;
      parts = refl;
      eight = eight;
      says = c.head_length-count.ensures.count;
      less = omega (arith, length-append first more, eight, fewer);
    } in (
      more,
      took,
      subst (λ e. ShowsFaultInBlock c.args.self.now e (first ++ more)) (sym c.cut_block.ensures.fault)
          (subst (λ s. ShowsFaultInBlock s (cut_block_fault c.in-Err.cut c.self.inside.octet) (first ++ more)) c.self.view_is
          (cut_front (the_view c.self.inside) c.in-Err.cut (first ++ more)
          (some_octets (first ++ more) (omega (arith, length-append first more, eight))) (inr (inl less)))),
    )

pub block_head-requires : goal.block_head-requires
block_head-requires g c =
    let (more, took, stands, whole) = c.in_default.ensures.octets in
    let first = take 8 c.args.head.now in
    let eight : length first ≡ 8 = let room = c.requires.room in length-take-le 8 c.args.head.now (omega arith) in
    let long : c.head_length-count.result ≡ length (first ++ more) = omega (arith, length-append first more, eight, whole) in
    let says = head_length_more _ first more _ (omega (arith, eight)) c.head_length-count.ensures.count in
    record {
      count = rw stands (rw (sym long) (subst
          (λ s. HasHeadLength s.order (first ++ more) c.head_length-count.result) c.self.view_is says));
    }

pub returns-clause-fault : goal.returns-clause-fault
returns-clause-fault g c =
    let (more, took, stands, whole) = c.in_default.ensures.octets in
    IfErr-weaker c.block_head.result _ _ (λ e shown. (
      more,
      took,
      subst (λ l. ShowsFaultInBlock c.args.self.now e l) stands
          (head_fault c.args.self.now e _ shown),
    )) c.block_head.ensures.fault
