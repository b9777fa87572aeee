use Rattle.std.proofs.Common.{◌≡◌, ℕ, ◌+◌, ◌*◌, ◌≤◌, List, length, ap, ◌∙◌, arith}
use Rattle.std.proofs.Math.Nat.{mul-le-mul_right}
use Rattle.dmr_data.specs.Block.{payload}
use Rattle.dmr_making.proofs.Bodies.{body_length}
use Rattle.dmr_script.specs.Fits.{body_octets}
use Rattle.dmr_making.proofs.packets.packet_of.Goals as goal

pub split_packet-requires : goal.split_packet-requires
split_packet-requires c =
    let p = c.args.p.now in
    let size : ℕ = payload p.rate p.confirmed in
    let blocks : ℕ = length p.shape.blocks.items in
    let long : length c.as_slice.result.now ≡ body_octets p.sap p.body =
    ap (λ (l : List ℕ). length l) (c.as_slice.ensures.value ∙ c.packet_octets.ensures.value) ∙ body_length p in
    let most : blocks * size ≤ 127 * size = mul-le-mul_right size c.requires.fit.shape.most in
    let enough : body_octets p.sap p.body + 4 ≤ blocks * size = c.requires.fit.holds.enough in
    record { fits = omega (arith, long, most, enough) }
