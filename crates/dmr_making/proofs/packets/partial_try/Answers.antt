use Rattle.std.proofs.Common.{◌≡◌, ℕ, ◌<◌, List, All, length, ap, sym, ◌∙◌, subst}
use Rattle.dmr_data.specs.declared.block.Block.{Block}
use Rattle.dmr_making.proofs.Bodies.{packet_count}
use Rattle.dmr_making.proofs.packets.partial_try.Goals as goal

pub picked-requires-clause-inside : goal.picked-requires-clause-inside
picked-requires-clause-inside c =
    let p = c.args.p.now in
    let count : length p.shape.blocks.items ≡ length c.as_slice.result.now =
    sym (ap (λ (l : List Block). length l) c.as_slice.ensures.value
    ∙ packet_count p c.packet_of-packet.result c.requires.fit c.packet_of-packet.ensures.packet) in
    subst (λ (l : List ℕ). All (λ serial. serial < length c.as_slice.result.now) l) (sym c.deref.ensures.value)
    (subst (λ (n : ℕ). All (λ serial. serial < n) c.args.partial.now.serials.items) count c.requires.inside)
