-- The tries of a script fit their fields, and there is one of each.
use Rattle.std.proofs.Common.{◌≡◌, ℕ, ◌+◌, ◌/◌, ◌%◌, ◌^◌, ◌<◌, ◌≤◌, Bool, true, false, All, List, [], ◌∷◌}
use Rattle.std.proofs.Common.{length}
use Rattle.std.proofs.Common.{arith, refl, ap, sym, ◌∙◌, subst, Some, slice_get}
use Rattle.std.proofs.lemmas.List.Elements.{All-cons}
use Rattle.std.proofs.lemmas.Slice.Zip.{AllZip-long}
use Rattle.dmr_data.proofs.Packets.{written_is_packet}
use Rattle.dmr_data.proofs.WrittenPackets.{packet_fits, one_packet}
use Rattle.dmr_data.specs.Block.{FitsBlock, payload}
use Rattle.dmr_data.specs.Header.{IsFitHeader}
use Rattle.dmr_data.specs.declared.block.Block.{Block}
use Rattle.dmr_data.specs.declared.packet.Packet.{Packet}
use Rattle.dmr_data.specs.declared.rate.Rate.{Rate}
use Rattle.dmr_data.specs.declared.rate.Rate.TheVariants.{Half, Full}
use Rattle.dmr_making.proofs.Bodies.{packet_count}
use Rattle.dmr_making.proofs.TrySlots.{fit_at}
use Rattle.dmr_making.specs.Packets.{packet_octets, IsPacketIn, packet_header, IsFullTry, IsPartialTry, ArePicked, try_with}
use Rattle.dmr_making.specs.Tries.{IsFitTry}
use Rattle.dmr_making.specs.declared.tries.SentTry.{SentTry}
use Rattle.dmr_script.specs.Fits.{FitsPacket, FitsPartial}
use Rattle.dmr_script.specs.declared.packet.PacketTry.{PacketTry}
use Rattle.dmr_script.specs.declared.packet.PartialTry.{PartialTry}

-- 1. Packets.

-- a packet of a script is one
pub one_packet_in : (p : PacketTry) (a b : Packet) → IsPacketIn p a → IsPacketIn p b → a ≡ b
one_packet_in p a b u v = one_packet (packet_octets p) a b (u.rate ∙ sym v.rate) (u.confirmed ∙ sym v.confirmed) u.written v.written

-- its blocks fit their bursts
blocks_fit : (p : PacketTry) (packet : Packet) → IsPacketIn p packet
    → All (λ block. FitsBlock p.rate block.serial block.octets) packet.blocks
blocks_fit p packet is =
    subst (λ (r : Rate). All (λ block. FitsBlock r block.serial block.octets) packet.blocks) is.rate
    (packet_fits (packet_octets p) packet (written_is_packet (packet_octets p) packet is.written))

-- a payload has at most 24 octets
small_payload : (rate : Rate) (confirmed : Bool) → payload rate confirmed ≤ 24
small_payload Half true = omega arith
small_payload Half false = omega arith
small_payload Full true = omega arith
small_payload Full false = omega arith

-- there are few pad octets
small_pad : (p : PacketTry) (packet : Packet) → IsPacketIn p packet → packet.pad < 24
small_pad p packet is =
    let few : packet.pad < payload packet.rate packet.confirmed = is.written.fewest in
    let most = small_payload packet.rate packet.confirmed in
    omega (arith, few, most)

-- a header fits its fields
header_by : (p : PacketTry) (pad blocks : ℕ) (full confirmed : Bool) → p.confirmed ≡ confirmed → FitsPacket p → pad < 24
    → blocks < 128 → IsFitHeader (packet_header p pad full blocks)
header_by p pad blocks full true e fit few less =
    let high : pad / 16 < 2 ^ 1 = omega arith in
    let low : pad % 16 < 2 ^ 4 = omega arith in
    rw e (high, (omega arith, (fit.sap, (low, (fit.destination, (fit.source, (less, (fit.number, (omega arith, tt)))))))))
header_by p pad blocks full false e fit few less =
    let high : pad / 16 < 2 ^ 1 = omega arith in
    let low : pad % 16 < 2 ^ 4 = omega arith in
    rw e (high, (omega arith, (fit.sap, (low, (fit.destination, (fit.source, (less, (omega arith, tt))))))))

-- 2. Full tries.

-- A packet has one full try.
pub one_full_try : (p : PacketTry) (a b : SentTry) → IsFullTry p a → IsFullTry p b → a ≡ b
one_full_try p a b u v =
    u.is ∙ ap (λ (packet : Packet). try_with p (packet_header p packet.pad true (length packet.blocks)) packet.blocks)
    (one_packet_in p u.packet v.packet u.packet_is v.packet_is) ∙ sym v.is

-- A full try that fits its statement fits the channel.
pub full_try_fits : (p : PacketTry) (t : SentTry) (preambles : ℕ) (presence : List Bool) → FitsPacket p → IsFullTry p t
    → length presence ≡ length p.shape.blocks.items → preambles + length presence ≤ 255 → IsFitTry t preambles presence
full_try_fits p t preambles presence fit u count room =
    let blocks = u.packet.blocks in
    let same : length blocks ≡ length p.shape.blocks.items = packet_count p u.packet fit u.packet_is in
    let less : length blocks < 128 = omega (arith, same, fit.shape.most) in
    subst (λ (x : SentTry). IsFitTry x preambles presence) (sym u.is) (record {
      source = fit.source;
      destination = fit.destination;
      header = header_by p u.packet.pad (length blocks) true p.confirmed refl fit (small_pad p u.packet u.packet_is) less;
      blocks = blocks_fit p u.packet u.packet_is;
      count = same ∙ sym count;
      room = room;
    })

-- 3. Tries of some blocks.

-- what is picked is one list
one_picking : (blocks : List Block) (serials : List ℕ) (a b : List Block) → ArePicked blocks serials a → ArePicked blocks serials b
    → a ≡ b
one_picking blocks [] [] [] p q = refl
one_picking blocks [] [] (y ∷ b) p q = absurd q
one_picking blocks [] (x ∷ a) b p q = absurd p
one_picking blocks (s ∷ serials) [] b p q = absurd p
one_picking blocks (s ∷ serials) (x ∷ a) [] p q = absurd q
one_picking blocks (s ∷ serials) (x ∷ a) (y ∷ b) p q =
    let same : x ≡ y = cc (p.0, q.0) in
    let rest : a ≡ b = one_picking blocks serials a b p.1 q.1 in
    cc

-- each block that is picked is as the others
pub picked_fit : (P : Block → Type 0) (blocks : List Block) (serials : List ℕ) (some : List Block) → All P blocks
    → ArePicked blocks serials some → All P some
picked_fit P blocks [] [] all p = λ k d lt. absurd (omega arith)
picked_fit P blocks [] (x ∷ some) all p = absurd p
picked_fit P blocks (s ∷ serials) [] all p = absurd p
picked_fit P blocks (s ∷ serials) (x ∷ some) all p =
    All-cons P x some (fit_at P blocks s x all p.0) (picked_fit P blocks serials some all p.1)

-- A packet has one partial try of these blocks.
pub one_partial_try : (p : PacketTry) (partial : PartialTry) (a b : SentTry) → IsPartialTry p partial a → IsPartialTry p partial b
    → a ≡ b
one_partial_try p partial a b u v =
    let packet : u.packet ≡ v.packet = one_packet_in p u.packet v.packet u.packet_is v.packet_is in
    let blocks : u.blocks ≡ v.blocks =
    one_picking v.packet.blocks partial.serials.items u.blocks v.blocks
    (subst (λ (x : Packet). ArePicked x.blocks partial.serials.items u.blocks) packet u.picked) v.picked in
    u.is
    ∙ ap (λ (x : Packet). try_with p (packet_header p x.pad false (length partial.serials.items)) u.blocks) packet
    ∙ ap (λ (l : List Block). try_with p (packet_header p v.packet.pad false (length partial.serials.items)) l) blocks
    ∙ sym v.is

-- A partial try that fits its statement fits the channel.
pub partial_try_fits : (p : PacketTry) (partial : PartialTry) (t : SentTry) → FitsPacket p → FitsPartial partial
    → IsPartialTry p partial t → IsFitTry t partial.shape.preambles partial.shape.blocks.items
partial_try_fits p partial t fit shape u =
    let long : length u.blocks ≡ length partial.serials.items =
    AllZip-long (λ serial block. slice_get u.packet.blocks serial ≡ Some block) partial.serials.items u.blocks u.picked in
    let less : length partial.serials.items < 128 = omega (arith, shape.shape.most) in
    subst (λ (x : SentTry). IsFitTry x partial.shape.preambles partial.shape.blocks.items) (sym u.is) (record {
      source = fit.source;
      destination = fit.destination;
      header = header_by p u.packet.pad (length partial.serials.items) false p.confirmed refl fit
          (small_pad p u.packet u.packet_is) less;
      blocks = picked_fit (λ block. FitsBlock p.rate block.serial block.octets) u.packet.blocks partial.serials.items u.blocks
          (blocks_fit p u.packet u.packet_is) u.picked;
      count = long ∙ sym shape.shape.count;
      room = shape.shape.counted;
    })
