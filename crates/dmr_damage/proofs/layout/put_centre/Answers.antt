use Rattle.std.proofs.Common.{ℕ, ◌≡◌, ◌≤◌, arith}
use Rattle.dmr_bits.specs.Bits.{part}
use Rattle.dmr_damage.proofs.Written.{two, put_same, put_before, put_behind}
use Rattle.dmr_damage.proofs.layout.put_centre.Goals as goal

pub returns : goal.returns
returns c =
    let before : (from to : ℕ) → from ≤ to → to ≤ 108 → part c.put.new.self from to ≡ part c.args.bits.now from to =
    λ from to order inside. put_before c.args.bits.now c.put.new.self c.args.centre.now 108 from to c.put.ensures.value
    c.put.ensures.length (omega (arith, c.put.ensures.count)) order inside in
    let behind : (from to : ℕ) → 156 ≤ from → from ≤ to → to ≤ 264 → part c.put.new.self from to ≡ part c.args.bits.now from to =
    λ from to after order inside. put_behind c.args.bits.now c.put.new.self c.args.centre.now 108 from to c.put.ensures.value
    c.put.ensures.length (omega (arith, c.put.ensures.count)) order inside in
    record {
      written = put_same c.args.bits.now c.put.new.self c.args.centre.now 108 156 c.put.ensures.value c.put.ensures.length
          (omega (arith, c.put.ensures.count)) (omega arith);
      vocoder = two _ _ _ _ (before 0 108 (omega arith) (omega arith)) (behind 156 264 (omega arith) (omega arith) (omega arith));
      information = two _ _ _ _
          (before 0 98 (omega arith) (omega arith)) (behind 166 264 (omega arith) (omega arith) (omega arith));
      slot_type = two _ _ _ _
          (before 98 108 (omega arith) (omega arith)) (behind 156 166 (omega arith) (omega arith) (omega arith));
    }
