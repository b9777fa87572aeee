use Rattle.std.proofs.Common.{ℕ, ◌-◌, ◌≤◌, ◌<◌, ◌^◌, arith, subst, sym}
use Rattle.std.proofs.Math.Pow.{pow_mono}
use Rattle.dmr_making.proofs.Flags.{flags_below}
use Rattle.dmr_making.proofs.packets.flags_of.Goals as goal
use Rattle.dmr_making.proofs.packets.flags_of.Goals.{then-is_among, else-is_among}

pub overflow_mul-flags : goal.overflow_mul-flags
overflow_mul-flags c =
    let left : ℕ = c.args.blocks - c.loop-serial.serial in
    let below : c.loop-serial.flags < 2 ^ left =
    subst (λ (x : ℕ). x < 2 ^ left) (sym c.loop-serial.invariant.value) (flags_below c.args.serials.now c.loop-serial.serial left)
    in
    let few : left ≤ 126 = omega (arith, c.requires.most, c.loop-serial-test.true) in
    let power : 2 ^ left ≤ 2 ^ 126 = pow_mono few in
    omega (arith, below, power)

pub overflow_add-flags : goal.overflow_add-flags
overflow_add-flags c =
    let left : ℕ = c.args.blocks - c.loop-serial.serial in
    let below : c.loop-serial.flags < 2 ^ left =
    subst (λ (x : ℕ). x < 2 ^ left) (sym c.loop-serial.invariant.value) (flags_below c.args.serials.now c.loop-serial.serial left)
    in
    let few : left ≤ 126 = omega (arith, c.requires.most, c.loop-serial-test.true) in
    let power : 2 ^ left ≤ 2 ^ 126 = pow_mono few in
    elim c.if-is_among.branch [
      | then-is_among w ↦ omega (arith, below, power, w.flag-is)
      | else-is_among w ↦ omega (arith, below, power, w.flag-is)
    ]
