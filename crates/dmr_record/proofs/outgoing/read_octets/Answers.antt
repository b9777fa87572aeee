use Rattle.std.proofs.Common.{rules, arith, ◌≡◌, ◌++◌, List, ℕ, length, take, ap, ◌∙◌}
use Rattle.std.proofs.lemmas.List.{length-append, length-take-le}
use Rattle.std.proofs.KnownBytes.{Consumes-trans}
use Rattle.dmr_record.proofs.Kept.{kept_more}
use Rattle.dmr_record.proofs.outgoing.read_octets.Goals as goal

pub returns-in-Err-clause-part : goal.returns-in-Err-clause-part
returns-in-Err-clause-part g c =
    let (all, count, kept, read) = c.loop-left.invariant.octets in
    let (taken, fewer, took) = c.in-Err.ensures.part in
    (all ++ taken, omega (arith, length-append all taken, c.min-most.ensures), Consumes-trans _ _ _ all taken read took)

pub loop-left-preserved : goal.loop-left-preserved
loop-left-preserved g c =
    let (all, count, kept, read) = c.loop-left.invariant.octets in
    let most = c.min-most.result in
    let taken = take most c.fill_whole.new.buffer in
    let long : length taken ≡ most = length-take-le most c.fill_whole.new.buffer (omega arith) in
    record {
      well = search rules;
      chunk = search rules;
      octets = (
        all ++ taken,
        omega (arith, length-append all taken, c.min-most.ensures),
        c.keep.ensures.value ∙ ap (λ (l : List ℕ). take 1400 (l ++ taken)) kept ∙ kept_more 1400 all taken,
        Consumes-trans _ _ _ all taken read c.in_default.ensures.octets,
      );
    }
