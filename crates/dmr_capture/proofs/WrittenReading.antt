-- A capture that was written, as it is read.
use Rattle.std.proofs.Common.{◌≡◌, ℕ, ◌+◌, ◌*◌, ◌/◌, ◌%◌, ◌^◌, ◌<◌, ◌≤◌, List, [], ◌∷◌, ◌++◌, length, refl, sym, ap}
use Rattle.std.proofs.Common.{inl, arith}
use Rattle.std.proofs.lemmas.List.{length-append}
use Rattle.std.specs.List.{AllByRecursion, flat_map}
use Rattle.byteorder.specs.Endian.{little_bytes}
use Rattle.byteorder.specs.Numbers.{little_number-reads_back}
use Rattle.dmr_capture.specs.Orders.{ordered_number}
use Rattle.dmr_capture.specs.Reading.{AreRead, IsCapture, IsPiece}
use Rattle.dmr_capture.specs.Records.{IsPcapHead, IsRecordHead, behind_pcap_head, record_time}
use Rattle.dmr_capture.specs.State.{CaptureState, octet_limit}
use Rattle.dmr_capture.specs.Written.{IsWritable, WrittenPacket, packet_record, packets_at, written_capture, written_head}
use Rattle.dmr_capture.specs.Written.{written_record_head}
use Rattle.dmr_capture.specs.declared.link.Link.TheVariants.{Ipv4}
use Rattle.dmr_capture.specs.declared.order.Order.TheVariants.{Little}
use Rattle.dmr_capture.specs.declared.pcap.Fraction.TheVariants.{Micro}
use Rattle.dmr_capture.proofs.InARow.{read_first, read_none}

-- the state of a reader of such a capture, behind so many octets
abbrev state_at : ℕ → CaptureState
state_at octet = record (behind_pcap_head Little Micro Ipv4) { octet = octet }

-- the time of a record that was written is that of its packet
read_time : (time count : ℕ) → time < 2 ^ 32 * 1000000
    → record_time Micro Little (written_record_head (time / 1000000) (time % 1000000) count) ≡ time * 1000
read_time time count fits =
    let head = written_record_head (time / 1000000) (time % 1000000) count in
    let second : ordered_number Little 4 0 head ≡ time / 1000000 =
    little_number-reads_back 4 (time / 1000000)
    (little_bytes 4 (time % 1000000) ++ little_bytes 4 count ++ little_bytes 4 count) (omega arith) in
    let part : ordered_number Little 4 4 head ≡ time % 1000000 =
    little_number-reads_back 4 (time % 1000000) (little_bytes 4 count ++ little_bytes 4 count) (omega arith) in
    omega (arith, second, part)

-- the head of a record that was written
read_head : (time : ℕ) (octets : List ℕ) → length octets < 2 ^ 16
    → IsRecordHead Little (written_record_head (time / 1000000) (time % 1000000) (length octets)) (length octets)
read_head time octets short = record {
  whole = refl;
  says = sym (little_number-reads_back 4 (length octets) (little_bytes 4 (length octets)) (omega arith));
  short = omega arith;
}

-- a record that was written
read_record : (octet : ℕ) (p : WrittenPacket) → IsWritable p → octet ≤ octet_limit
    → IsPiece (state_at octet) (packet_record p) (state_at (octet + (16 + length p.octets)))
    (record { octet = octet; link = Ipv4; time = p.time * 1000; octets = p.octets } ∷ [])
read_record octet p fits near =
    let head = written_record_head (p.time / 1000000) (p.time % 1000000) (length p.octets) in
    let all : octet + (16 + length p.octets) ≡ octet + length (head ++ p.octets) = omega (arith, length-append head p.octets) in
    record {
      near = near;
      piece = record {
        head = head;
        packet = p.octets;
        parts = refl;
        says = read_head p.time p.octets fits.octets;
        behind = ap state_at all;
        held = ap (λ time. record { octet = octet; link = Ipv4; time = time; octets = p.octets } ∷ [])
            (sym (read_time p.time (length p.octets) fits.time));
      };
    }

-- all records that were written
read_records : (octet : ℕ) (packets : List WrittenPacket) → AllByRecursion IsWritable packets
    → octet + length (flat_map packet_record packets) ≤ octet_limit
    → (last : CaptureState) × AreRead (state_at octet) (flat_map packet_record packets) last (packets_at octet packets)
read_records octet [] all near = (state_at octet, read_none (state_at octet))
read_records octet (p ∷ packets) (fits, all) near =
    let count = length-append (packet_record p) (flat_map packet_record packets) in
    let whole : length (packet_record p) ≡ 16 + length p.octets =
    let head = written_record_head (p.time / 1000000) (p.time % 1000000) (length p.octets) in
    omega (arith, length-append head p.octets) in
    let (last, read) = read_records (octet + (16 + length p.octets)) packets all (omega (arith, count, whole)) in
    (last, read_first _ _ _ _ _ _ _ (read_record octet p fits (omega arith)) read)

-- a capture that was written is one of these packets
pub read_capture : (packets : List WrittenPacket) → AllByRecursion IsWritable packets
    → length (written_capture packets) ≤ octet_limit → IsCapture (written_capture packets) (packets_at 24 packets)
read_capture packets all near =
    let (last, read) = read_records 24 packets all (omega (arith, length-append written_head (flat_map packet_record packets))) in
    let is : IsPcapHead written_head Little Micro Ipv4 =
    record { whole = refl; magic = refl; version = record { major = refl; minor = refl }; linked = refl } in
    record {
      head = written_head;
      rest = flat_map packet_record packets;
      first = behind_pcap_head Little Micro Ipv4;
      last = last;
      parts = refl;
      begins = inl (record { order = Little; fraction = Micro; link = Ipv4; head = is; behind = refl });
      read = read;
    }
