use native.Mathlib.Omega.{arith}
use Rattle.std.proofs.Common.{◌≡◌, ◌∙◌, drop, take, slice_set, ap, sym}
use Rattle.dmr_slot.specs.LineRules.{moved}
use Rattle.dmr_slot.proofs.Sliding.{slides, slides_back}
use Rattle.dmr_slot.proofs.window.hear_next.Goals as goal

pub returns-then-from-lt-ROOM-clause-heard : goal.returns-then-from-lt-ROOM-clause-heard
returns-then-from-lt-ROOM-clause-heard c = record {
  heard = c.hear_into.new.heard;
  hears = c.hear_into.ensures.heard;
  fit = c.hear_into.ensures.fit;
  moves = slides c.args.places.now c.args.from c.hear_into.new.heard (rw c.told-places c.if-from-lt-ROOM.true);
}

pub returns-clause-heard : goal.returns-clause-heard
returns-clause-heard c =
    let last : c.args.from ≡ 30 = omega (arith, c.requires.inside, c.if-from-lt-ROOM.false) in
    let heard = c.hear_into-2.new.heard in
    record {
      heard = heard;
      hears = c.hear_into-2.ensures.heard;
      fit = c.hear_into-2.ensures.fit;
      moves = ap (λ places. take 6 (slice_set places 5 heard)) c.copy_within.ensures.after
          ∙ slides_back c.args.places.now 30 heard (rw c.told-places (omega arith))
          ∙ ap (λ from. moved (take 6 (drop from c.args.places.now)) heard) (sym last);
    }
