-- What packets carry are octets, each of eight bits.
use Rattle.std.proofs.Common.{ℕ, zero, suc, ◌+◌, ◌/◌, ◌^◌, ◌<◌, ◌==◌, Bool, true, false, List, [], ◌∷◌, ◌++◌, take}
use Rattle.std.proofs.Common.{replicate, length, nat_lt, arith, lit<}
use Rattle.std.proofs.Math.Nat.{mod-lt}
use Rattle.std.proofs.lemmas.List.Elements.{All-append, All-cons, All-nil, All-replicate, All-take}
use Rattle.std.specs.Bool.{if◌then◌else◌}
use Rattle.std.specs.Int.{byte_at, bytes_high_first, bytes_low_first, to_be_bytes, to_le_bytes, w16, w32, w128}
use Rattle.dmr_ip.specs.Contents.{Contents, address, datagram_between, ip_checksum, ip_header, radio_address, udp_checksum}
use Rattle.dmr_ip.specs.Contents.{udp_header}
use Rattle.dmr_ip.specs.Spelling.{address_identifiers, identifier_of, port_octets, written_form}
use Rattle.dmr_making.specs.Packets.{body_with, contents_of, datagram_in, flags_from, octets_of_flags, packet_octets}
use Rattle.dmr_script.specs.Fits.{AreEightBits, FitsBody}
use Rattle.dmr_script.specs.declared.packet.Body.{Body}
use Rattle.dmr_script.specs.declared.packet.Body.TheVariants as body
use Rattle.dmr_script.specs.declared.packet.PacketTry.{PacketTry}
use Rattle.dmr_script.specs.declared.packet.Wanted.{Wanted}

abbrev Small : ℕ → Type 0
Small octet = octet < 256

-- what holds of both holds of the one that is chosen
if_each : {A : Type 0} (P : A → Type 0) (b : Bool) (x y : A) → P x → P y → P (if b then x else y)
if_each P true x y p q = p
if_each P false x y p q = q

-- 1. Numbers, octet by octet.

byte_small : (k n : ℕ) → byte_at k n < 256
byte_small zero n = omega arith
byte_small (suc k) n = mod-lt (n / 256 ^ suc k) (lit< tt)

low_small : (first count n : ℕ) → AreEightBits (bytes_low_first first count n)
low_small first zero n = All-nil Small
low_small first (suc count) n =
    All-cons Small (byte_at first n) (bytes_low_first (suc first) count n) (byte_small first n) (low_small (suc first) count n)

high_small : (count n : ℕ) → AreEightBits (bytes_high_first count n)
high_small zero n = All-nil Small
high_small (suc count) n = All-cons Small (byte_at count n) (bytes_high_first count n) (byte_small count n) (high_small count n)

word_small : (n : ℕ) → AreEightBits (to_be_bytes w16 n)
word_small n = high_small 2 n

double_small : (n : ℕ) → AreEightBits (to_be_bytes w32 n)
double_small n = high_small 4 n

-- 2. Datagrams.

ip_small : (sum total identification source destination : ℕ)
    → AreEightBits (ip_header sum total identification source destination)
ip_small sum total identification source destination =
    let addresses : List ℕ = to_be_bytes w32 source ++ to_be_bytes w32 destination in
    let back : List ℕ = to_be_bytes w16 sum ++ addresses in
    let middle : List ℕ = 0 ∷ 0 ∷ 64 ∷ 17 ∷ back in
    let front : List ℕ = to_be_bytes w16 total ++ (to_be_bytes w16 identification ++ middle) in
    let back_small : AreEightBits back =
    All-append Small (to_be_bytes w16 sum) addresses (word_small sum)
    (All-append Small (to_be_bytes w32 source) (to_be_bytes w32 destination) (double_small source) (double_small destination)) in
    let middle_small : AreEightBits middle =
    All-cons Small 0 (0 ∷ 64 ∷ 17 ∷ back) (lit< tt)
    (All-cons Small 0 (64 ∷ 17 ∷ back) (lit< tt)
    (All-cons Small 64 (17 ∷ back) (lit< tt) (All-cons Small 17 back (lit< tt) back_small))) in
    All-cons Small 0x45 (0 ∷ front) (lit< tt)
    (All-cons Small 0 front (lit< tt)
    (All-append Small (to_be_bytes w16 total) (to_be_bytes w16 identification ++ middle) (word_small total)
    (All-append Small (to_be_bytes w16 identification) middle (word_small identification) middle_small)))

udp_small : (sum total source_port destination_port : ℕ) → AreEightBits (udp_header sum total source_port destination_port)
udp_small sum total source destination =
    let back : List ℕ = to_be_bytes w16 total ++ to_be_bytes w16 sum in
    All-append Small (to_be_bytes w16 source) (to_be_bytes w16 destination ++ back) (word_small source)
    (All-append Small (to_be_bytes w16 destination) back (word_small destination)
    (All-append Small (to_be_bytes w16 total) (to_be_bytes w16 sum) (word_small total) (word_small sum)))

-- A datagram whose payload is of octets is.
datagram_small : (source destination : ℕ) (c : Contents) → AreEightBits c.payload
    → AreEightBits (datagram_between source destination c)
unfolding datagram_between
datagram_small source destination c small =
    let total : ℕ = 8 + length c.payload in
    let ip_sum : ℕ = ip_checksum (20 + total) c.identification source destination in
    let udp_sum : ℕ = udp_checksum total source destination c.source_port c.destination_port c.payload in
    let ip : List ℕ = ip_header ip_sum (20 + total) c.identification source destination in
    let udp : List ℕ = udp_header udp_sum total c.source_port c.destination_port in
    All-append Small ip (udp ++ c.payload) (ip_small ip_sum (20 + total) c.identification source destination)
    (All-append Small udp c.payload (udp_small udp_sum total c.source_port c.destination_port) small)

-- 3. Compressed forms.

port_small : (identifier port : ℕ) → AreEightBits (port_octets identifier port)
port_small identifier port = if_each AreEightBits (identifier == 0) (to_be_bytes w16 port) [] (word_small port) (All-nil Small)

identifier_small : (port : ℕ) → identifier_of port < 256
identifier_small port =
    if_each Small (port == 5016) 1 (if port == 5017 then 2 else 0) (lit< tt) (if_each Small (port == 5017) 2 0 (lit< tt) (lit< tt))

form_small : (group : Bool) (c : Contents) → AreEightBits c.payload → AreEightBits (written_form group c)
form_small group c small =
    let first : ℕ = identifier_of c.source_port in
    let second : ℕ = identifier_of c.destination_port in
    let last : List ℕ = port_octets second c.destination_port ++ c.payload in
    let ports : List ℕ = port_octets first c.source_port ++ last in
    All-append Small (to_be_bytes w16 c.identification) (address_identifiers group ∷ first ∷ second ∷ ports)
    (word_small c.identification)
    (All-cons Small (address_identifiers group) (first ∷ second ∷ ports) (if_each Small group 2 0 (lit< tt) (lit< tt))
    (All-cons Small first (second ∷ ports) (identifier_small c.source_port)
    (All-cons Small second ports (identifier_small c.destination_port)
    (All-append Small (port_octets first c.source_port) last (port_small first c.source_port)
    (All-append Small (port_octets second c.destination_port) c.payload (port_small second c.destination_port) small)))))

-- 4. Bodies, and flags.

body_small : (p : PacketTry) (b : Body) → FitsBody b → AreEightBits (body_with p b)
body_small p (body.Octets octets) fit = fit
body_small p (body.Udp m) fit =
    if_each AreEightBits (p.sap == 3) (written_form p.group (contents_of m)) (datagram_in p m)
    (form_small p.group (contents_of m) fit.octets)
    (datagram_small (radio_address p.source) (address p.group p.destination) (contents_of m) fit.octets)

-- What a packet of a script carries is of octets.
pub packet_small : (p : PacketTry) → FitsBody p.body → AreEightBits (packet_octets p)
packet_small p fit = body_small p p.body fit

-- The flags of an answer are.
pub flags_small : (w : Wanted) → AreEightBits (octets_of_flags w)
flags_small w =
    let octets : List ℕ = to_le_bytes w128 (flags_from w.serials.items 0 w.blocks) in
    let small : AreEightBits octets = low_small 0 16 (flags_from w.serials.items 0 w.blocks) in
    if_each AreEightBits (nat_lt 64 w.blocks) (octets ++ replicate 4 0) (take 8 octets)
    (All-append Small octets (replicate 4 0) small (All-replicate Small 4 0 (lit< tt)))
    (All-take Small 8 octets small)
