-- How many octets packets carry, and how many blocks they have.
use Rattle.std.proofs.Common.{◌≡◌, ℕ, ◌+◌, ◌*◌, ◌<◌, ◌≤◌, ◌==◌, ◌||◌, true, false, Bool, List, [], ◌∷◌, ◌++◌, length, replicate}
use Rattle.std.proofs.Common.{arith, refl, ap, sym, ◌∙◌, subst, inl, inr}
use Rattle.std.specs.Bool.{if◌then◌else◌}
use Rattle.std.proofs.lemmas.List.Elements.{All-head, All-tail}
use Rattle.std.proofs.lemmas.List.{length-append, length-replicate}
use Rattle.std.proofs.Math.Nat.{mul-le-mul_right, suc-mul, zero-mul}
use Rattle.std.proofs.lemmas.Bool.{cases_order}
use Rattle.dmr_data.specs.Block.{payload}
use Rattle.dmr_data.specs.Packet.{octets_of_blocks, HaveOctets, IsWrittenPacket}
use Rattle.dmr_data.specs.declared.block.Block.{Block}
use Rattle.dmr_data.specs.declared.packet.Packet.{Packet}
use Rattle.dmr_ip.specs.Contents.{datagram_between}
use Rattle.dmr_ip.specs.Spelling.{written_form, identifier_of, port_octets as spelled_port}
use Rattle.dmr_making.specs.Packets.{contents_of, datagram_in, body_with, packet_octets, IsPacketIn}
use Rattle.dmr_script.specs.Fits.{compressed_port_octets, body_octets, FitsPacket}
use Rattle.dmr_script.specs.declared.packet.Body.{Body}
use Rattle.dmr_script.specs.declared.packet.Body.TheVariants as body
use Rattle.dmr_script.specs.declared.packet.PacketTry.{PacketTry}
use Rattle.dmr_script.specs.declared.packet.UdpMessage.{UdpMessage}

-- a port in a compressed form, by whether it is one of the two that have identifiers
port_by_tests : (a b : Bool) (port : ℕ)
    → length (spelled_port (if a then 1 else if b then 2 else 0) port) ≡ (if a || b then 0 else 2)
port_by_tests true b port = refl
port_by_tests false true port = refl
port_by_tests false false port = refl

port_length : (port : ℕ) → length (spelled_port (identifier_of port) port) ≡ compressed_port_octets port
port_length port = port_by_tests (port == 5016) (port == 5017) port

-- a compressed form
form_length : (group : Bool) (m : UdpMessage) → length (written_form group (contents_of m))
    ≡ 5 + compressed_port_octets m.source_port + compressed_port_octets m.destination_port + length m.data.items
form_length group m =
    let a = length-append (spelled_port (identifier_of m.source_port) m.source_port)
    (spelled_port (identifier_of m.destination_port) m.destination_port ++ m.data.items) in
    let b = length-append (spelled_port (identifier_of m.destination_port) m.destination_port) m.data.items in
    let c = port_length m.source_port in
    let d = port_length m.destination_port in
    omega (arith, a, b, c, d)

-- a datagram
datagram_length : (p : PacketTry) (m : UdpMessage) → length (datagram_in p m) ≡ 28 + length m.data.items
unfolding datagram_between
datagram_length p m = omega arith

-- what a packet carries
body_length_by : (p : PacketTry) (b : Body) (compressed : Bool) → (p.sap == 3) ≡ compressed
    → length (body_with p b) ≡ body_octets p.sap b
body_length_by p (body.Octets octets) compressed e = refl
body_length_by p (body.Udp m) true e =
    ap (λ (b : Bool). length (if b then written_form p.group (contents_of m) else datagram_in p m)) e ∙ form_length p.group m
    ∙ ap (λ (b : Bool). if b
    then 5 + compressed_port_octets m.source_port + compressed_port_octets m.destination_port + length m.data.items
    else 28 + length m.data.items) (sym e)
body_length_by p (body.Udp m) false e =
    ap (λ (b : Bool). length (if b then written_form p.group (contents_of m) else datagram_in p m)) e ∙ datagram_length p m
    ∙ ap (λ (b : Bool). if b
    then 5 + compressed_port_octets m.source_port + compressed_port_octets m.destination_port + length m.data.items
    else 28 + length m.data.items) (sym e)

-- The octets of a packet are as many as its body says.
pub body_length : (p : PacketTry) → length (packet_octets p) ≡ body_octets p.sap p.body
body_length p = body_length_by p p.body (p.sap == 3) refl

-- two numbers of blocks of which one holds a body and the other is just enough for it
same_count : (m n size body pad : ℕ) → m * size ≡ body + pad + 4 → pad < size → body + 4 ≤ n * size → n * size < body + 4 + size
    → m ≡ n
same_count m n size body pad whole few enough fewest =
    elim (cases_order m n) [
      | inl e ↦ e
      | inr (inl lt) ↦ let k = mul-le-mul_right size lt in absurd (omega (arith, k, whole, few, enough, fewest, suc-mul m size))
      | inr (inr gt) ↦ let k = mul-le-mul_right size gt in absurd (omega (arith, k, whole, few, enough, fewest, suc-mul n size))
    ]

-- how many octets blocks have that have so many each
length_octets : (size : ℕ) (blocks : List Block) → HaveOctets size blocks → length (octets_of_blocks blocks) ≡ length blocks * size
length_octets size [] have = sym (zero-mul size)
length_octets size (b ∷ blocks) have =
    let one : length b.octets ≡ size = All-head (λ (block : Block). length block.octets ≡ size) b blocks have in
    let rest = length_octets size blocks (All-tail (λ (block : Block). length block.octets ≡ size) b blocks have) in
    let more = suc-mul (length blocks) size in
    let long = length-append b.octets (octets_of_blocks blocks) in
    omega (arith, one, rest, more, long)

-- a written packet has as many blocks as hold its body
pub count_of_blocks : (octets : List ℕ) (packet : Packet) (size blocks : ℕ) → payload packet.rate packet.confirmed ≡ size
    → IsWrittenPacket octets packet → length octets + 4 ≤ blocks * size → blocks * size < length octets + 4 + size
    → length packet.blocks ≡ blocks
count_of_blocks octets packet size blocks same w enough fewest =
    let all : length (octets_of_blocks packet.blocks) ≡ length packet.blocks * payload packet.rate packet.confirmed =
    length_octets (payload packet.rate packet.confirmed) packet.blocks w.sizes in
    let whole = ap (λ (l : List ℕ). length l) w.octets.whole in
    let a = length-append (octets ++ replicate packet.pad 0) w.octets.check in
    let b = length-append octets (replicate packet.pad 0) in
    let pads = length-replicate {A = ℕ} packet.pad 0 in
    let check : length w.octets.check ≡ 4 = w.octets.four in
    let sum : length packet.blocks * size ≡ length octets + packet.pad + 4 =
    ap (λ (k : ℕ). length packet.blocks * k) (sym same) ∙ sym all ∙ whole ∙ omega (arith, a, b, pads, check) in
    let few : packet.pad < size = subst (λ (k : ℕ). packet.pad < k) same w.fewest in
    same_count (length packet.blocks) blocks size (length octets) packet.pad sum few enough fewest

-- a packet of a script has as many blocks as its shape
pub packet_count : (p : PacketTry) (packet : Packet) → FitsPacket p → IsPacketIn p packet
    → length packet.blocks ≡ length p.shape.blocks.items
packet_count p packet fit is =
    let size : ℕ = payload p.rate p.confirmed in
    let same : payload packet.rate packet.confirmed ≡ size = cc (is.rate, is.confirmed) in
    let long = body_length p in
    let blocks : ℕ = length p.shape.blocks.items in
    count_of_blocks (packet_octets p) packet size blocks same is.written
    (subst (λ (k : ℕ). k + 4 ≤ blocks * size) (sym long) fit.holds.enough)
    (subst (λ (k : ℕ). blocks * size < k + 4 + size) (sym long) fit.holds.fewest)
