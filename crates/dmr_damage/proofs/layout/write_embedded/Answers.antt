use Rattle.std.proofs.Common.{ℕ, ◌≡◌, ◌≤◌, ◌∙◌, ap, arith}
use Rattle.dmr_bits.specs.Bits.{number_of, part}
use Rattle.dmr_damage.proofs.Written.{two, put_same, put_before, put_behind}
use Rattle.dmr_damage.proofs.layout.write_embedded.Goals as goal

pub returns : goal.returns
returns c =
    let before : (from to : ℕ) → from ≤ to → to ≤ 116 → part c.put.new.self from to ≡ part c.args.bits.now from to =
    λ from to order inside. put_before c.args.bits.now c.put.new.self c.embedded_bits.result 116 from to c.put.ensures.value
    c.put.ensures.length (omega (arith, c.put.ensures.count)) order inside in
    let behind : (from to : ℕ) → 148 ≤ from → from ≤ to → to ≤ 264 → part c.put.new.self from to ≡ part c.args.bits.now from to =
    λ from to after order inside. put_behind c.args.bits.now c.put.new.self c.embedded_bits.result 116 from to c.put.ensures.value
    c.put.ensures.length (omega (arith, c.put.ensures.count)) order inside in
    record {
      written = ap number_of (put_same c.args.bits.now c.put.new.self c.embedded_bits.result 116 148 c.put.ensures.value
          c.put.ensures.length (omega (arith, c.put.ensures.count)) (omega arith)) ∙ c.embedded_bits.ensures.says;
      emb = two _ _ _ _ (before 108 116 (omega arith) (omega arith)) (behind 148 156 (omega arith) (omega arith) (omega arith));
      vocoder = two _ _ _ _ (before 0 108 (omega arith) (omega arith)) (behind 156 264 (omega arith) (omega arith) (omega arith));
    }
