use Rattle.std.proofs.Common.{refl, ◌++◌, arith, ◌∙◌, sym, subst}
use Rattle.std.proofs.lemmas.List.{length-append}
use Rattle.std.proofs.KnownBytes.{Consumes-trans}
use Rattle.dmr_capture.specs.Blocks.{IsBlockRest}
use Rattle.dmr_capture.specs.Rests.{ShowsRestFault}
use Rattle.dmr_capture.proofs.Rests.{bad_rest, cut_rest, whole_rest}
use Rattle.dmr_capture.proofs.block.read_rest.Goals as goal

pub returns-in-Err-skip-clause-fault : goal.returns-in-Err-skip-clause-fault
returns-in-Err-skip-clause-fault g c =
    let (kept, took, stands, whole) = c.in_default.ensures.octets in
    let (passed, fewer, next) = c.in-Err-skip.ensures.part in (
      kept ++ passed,
      Consumes-trans _ _ _ kept passed took next,
      subst (λ e. ShowsRestFault c.args.octet c.args.head e (kept ++ passed)) (sym c.cut_block-in-Err-skip.ensures.fault)
          (cut_rest c.in-Err-skip.cut c.args.octet c.args.head (kept ++ passed)
          (let fits = c.requires.fits in omega (arith, length-append kept passed, whole))),
    )

pub returns-in-Err-fill_whole-clause-fault : goal.returns-in-Err-fill_whole-clause-fault
returns-in-Err-fill_whole-clause-fault g c =
    let (kept, took, stands, whole) = c.in_default.ensures.octets in
    let (passed, next, passes) = c.in_default-skip.ensures.octets in
    let (last, fewer, end) = c.in-Err-fill_whole.ensures.part in
    let all = kept ++ passed ++ last in (
      all,
      Consumes-trans _ _ _ (kept ++ passed) last (Consumes-trans _ _ _ kept passed took next) end,
      subst (λ e. ShowsRestFault c.args.octet c.args.head e all) (sym c.cut_block-in-Err-fill_whole.ensures.fault)
          (cut_rest c.in-Err-fill_whole.cut c.args.octet c.args.head all
          (let fits = c.requires.fits in
          omega (arith, length-append (kept ++ passed) last, length-append kept passed, whole, passes))),
    )

pub returns-then-u32_at-head-clause-fault : goal.returns-then-u32_at-head-clause-fault
returns-then-u32_at-head-clause-fault g c =
    let (kept, took, stands, whole) = c.in_default.ensures.octets in
    let (passed, next, passes) = c.in_default-skip.ensures.octets in
    let (last, end, filled, four) = c.in_default-fill_whole.ensures.octets in (
      kept ++ passed ++ last,
      Consumes-trans _ _ _ (kept ++ passed) last (Consumes-trans _ _ _ kept passed took next) end,
      (
        refl,
        bad_rest c.args.head kept passed last _ (omega (arith, whole)) passes c.requires.fits (omega (arith, four))
            c.fill_whole-2.auto.buffer filled
            (λ same. c.if-u32_at-head.true (c.u32_at.ensures.number ∙ same)),
      ),
    )

pub returns-clause-rest : goal.returns-clause-rest
returns-clause-rest g c =
    let (kept, took, stands, whole) = c.in_default.ensures.octets in
    let (passed, next, passes) = c.in_default-skip.ensures.octets in
    let (last, end, filled, four) = c.in_default-fill_whole.ensures.octets in (
      kept ++ passed ++ last,
      Consumes-trans _ _ _ (kept ++ passed) last (Consumes-trans _ _ _ kept passed took next) end,
      subst (λ l. IsBlockRest c.args.head l (kept ++ passed ++ last)) (sym stands)
          (whole_rest c.args.head kept passed last _ (omega (arith, whole)) passes c.requires.fits (omega (arith, four))
          c.fill_whole-2.auto.buffer filled
          (sym c.u32_at.ensures.number ∙ c.if-u32_at-head.false)),
    )
