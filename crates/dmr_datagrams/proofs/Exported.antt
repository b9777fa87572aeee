-- The capture of a received list goes on, record by record.
use Rattle.std.proofs.Common.{◌≡◌, ◌≤◌, ℕ, ◌+◌, List, [], ◌∷◌, ◌++◌, length, Bool, true, false, if◌then◌else◌, Option, None}
use Rattle.std.proofs.Common.{Some, refl, sym, ap, ◌∙◌, subst}
use Rattle.std.proofs.Common.{append-nil, append_assoc, arith}
use Rattle.std.proofs.ByRecursion.{All-push, All-append}
use Rattle.std.proofs.lemmas.List.{length-append}
use Rattle.std.proofs.lemmas.List.Concat.{flat_map-append}
use Rattle.std.specs.Io.KnownBytes.{Appends, Consumes}
use Rattle.std.specs.List.{AllByRecursion, flat_map}
use Rattle.std.proofs.KnownBytes.{Appends-trans, Consumes-trans}
use Rattle.dmr_record.specs.Devices.{Tears}
use Rattle.dmr_record.proofs.Torn.{Tears_after}
use Rattle.dmr_record.specs.Head.{head_octets, received_magic}
use Rattle.dmr_record.specs.Received.{FollowEachOther, Follows, IsReadable, Receipt, ReceivedFields, last_fields, received_fields}
use Rattle.dmr_record.specs.Received.{receipt_octets, received_file, receipts_octets}
use Rattle.dmr_capture.specs.Written.{IsWritable, WrittenPacket, packet_record, written_capture, written_head}
use Rattle.dmr_datagrams.specs.Exports.{AreExported, AreReceipts, IsCaptureTorn}
use Rattle.dmr_datagrams.specs.Packets.{exported, is_wanted, exported_packet, exported_packets}
use Rattle.dmr_datagrams.specs.declared.wanted.ExportSettings.{ExportSettings}

-- a record that may follow the last one keeps the list in its order
order_more : (last : Option ReceivedFields) (receipts : List Receipt) (next : Receipt) → FollowEachOther last receipts
    → Follows (last_fields last receipts) (received_fields next) → FollowEachOther last (receipts ++ next ∷ [])
order_more last [] next order follows = (follows, tt)
order_more last (r ∷ rs) next (first, rest) follows = (first, order_more (Some (received_fields r)) rs next rest follows)

pub receipts_more : (receipts : List Receipt) (next : Receipt) → AreReceipts receipts → IsReadable next
    → Follows (last_fields None receipts) (received_fields next) → AreReceipts (receipts ++ next ∷ [])
receipts_more receipts next are readable follows = record {
  readable = All-push IsReadable receipts next are.readable readable;
  order = order_more None receipts next are.order follows;
}

-- the fields of the last record
pub last_more : (last : Option ReceivedFields) (receipts : List Receipt) (next : Receipt)
    → last_fields last (receipts ++ next ∷ []) ≡ Some (received_fields next)
last_more last [] next = refl
last_more last (r ∷ rs) next = last_more (Some (received_fields r)) rs next

-- a list with one record more
file_more : (receipts : List Receipt) (next : Receipt)
    → received_file (receipts ++ next ∷ []) ≡ received_file receipts ++ receipt_octets next
file_more receipts next =
    let records = flat_map-append receipt_octets receipts (next ∷ [])
    ∙ ap (λ l. receipts_octets receipts ++ l) (append-nil (receipt_octets next)) in
    ap (λ l. head_octets received_magic ++ l) records
    ∙ sym (append_assoc (head_octets received_magic) (receipts_octets receipts) (receipt_octets next))

-- the tag and the fields have twelve octets
receipt_long : (r : Receipt) → length (receipt_octets r) ≡ 12 + length r.octets
receipt_long r = omega arith

-- where the next record begins
pub octet_more : (receipts : List Receipt) (next : Receipt) (octet : ℕ) → octet ≡ length (received_file receipts)
    → octet + (12 + length next.octets) ≡ length (received_file (receipts ++ next ∷ []))
octet_more receipts next octet e =
    let whole = ap length (file_more receipts next) in
    omega (arith, e, whole, length-append (received_file receipts) (receipt_octets next), receipt_long next)

-- the packets of a list with one record more
pub packets_more : (settings : ExportSettings) (receipts : List Receipt) (next : Receipt)
    → exported settings (receipts ++ next ∷ []) ≡ exported settings receipts ++ exported_packets settings next
packets_more settings receipts next =
    flat_map-append (exported_packets settings) receipts (next ∷ [])
    ∙ ap (λ l. exported settings receipts ++ l) (append-nil (exported_packets settings next))

-- The packets of one more receipt are counted.
pub count_more : (settings : ExportSettings) (receipts : List Receipt) (next : Receipt) (written more : ℕ)
    → written ≡ length (exported settings receipts) → more ≡ length (exported_packets settings next)
    → written + more ≡ length (exported settings (receipts ++ next ∷ []))
count_more settings receipts next written more before new =
    let all = ap length (packets_more settings receipts next) in
    omega (arith, before, new, all, length-append (exported settings receipts) (exported_packets settings next))

-- a record is one packet at most
few_packets : (settings : ExportSettings) (r : Receipt) (wanted : Bool)
    → length (if wanted then exported_packet settings r ∷ [] else []) ≤ 1
few_packets settings r true = omega arith
few_packets settings r false = omega arith

-- A receipt is one packet at most.
pub one_packet : (settings : ExportSettings) (r : Receipt) → length (exported_packets settings r) ≤ 1
one_packet settings r = few_packets settings r (is_wanted settings r.kind r.slot)

-- a capture with some packets more
capture_more : (packets more : List WrittenPacket)
    → written_capture (packets ++ more) ≡ written_capture packets ++ flat_map packet_record more
capture_more packets more =
    ap (λ l. written_head ++ l) (flat_map-append packet_record packets more)
    ∙ sym (append_assoc written_head (flat_map packet_record packets) (flat_map packet_record more))

written_more : (settings : ExportSettings) (receipts : List Receipt) (next : Receipt)
    → written_capture (exported settings (receipts ++ next ∷ []))
    ≡ written_capture (exported settings receipts) ++ flat_map packet_record (exported_packets settings next)
written_more settings receipts next =
    ap written_capture (packets_more settings receipts next)
    ∙ capture_more (exported settings receipts) (exported_packets settings next)

-- in front of the records
pub exported_none : (settings : ExportSettings) (a b d e : Option (List ℕ)) → Consumes a b (head_octets received_magic)
    → Appends d e written_head → AreExported settings [] a b d e
exported_none settings a b d e took put = record {
  are = record { readable = tt; order = tt };
  read = subst (Consumes a b) (sym (append-nil (head_octets received_magic))) took;
  fit = tt;
  written = subst (Appends d e) (sym (append-nil written_head)) put;
}

-- one record more, and its packets
pub exported_more : (settings : ExportSettings) (receipts : List Receipt) (next : Receipt) (a b c d e f : Option (List ℕ))
    → AreExported settings receipts a b d e → IsReadable next → Follows (last_fields None receipts) (received_fields next)
    → Consumes b c (receipt_octets next) → AllByRecursion IsWritable (exported_packets settings next)
    → Appends e f (flat_map packet_record (exported_packets settings next))
    → AreExported settings (receipts ++ next ∷ []) a c d f
exported_more settings receipts next a b c d e f before readable follows took fit put = record {
  are = receipts_more receipts next before.are readable follows;
  read = subst (Consumes a c) (sym (file_more receipts next)) (Consumes-trans a b c _ _ before.read took);
  fit = subst (AllByRecursion IsWritable) (sym (packets_more settings receipts next))
      (All-append IsWritable (exported settings receipts) (exported_packets settings next) before.fit fit);
  written = subst (Appends d f) (sym (written_more settings receipts next)) (Appends-trans d e f _ _ before.written put);
}

-- the same, where its packets were torn
pub exported_torn : (settings : ExportSettings) (receipts : List Receipt) (next : Receipt) (a b c d e f : Option (List ℕ))
    → AreExported settings receipts a b d e → IsReadable next → Follows (last_fields None receipts) (received_fields next)
    → Consumes b c (receipt_octets next) → Tears e f (flat_map packet_record (exported_packets settings next))
    → IsCaptureTorn settings a c d f
exported_torn settings receipts next a b c d e f before readable follows took torn = record {
  list = receipts ++ next ∷ [];
  receipts = receipts_more receipts next before.are readable follows;
  read = subst (Consumes a c) (sym (file_more receipts next)) (Consumes-trans a b c _ _ before.read took);
  written = subst (Tears d f) (sym (written_more settings receipts next)) (Tears_after d e f _ _ before.written torn);
}

-- a head that was torn is a front of the capture of no records
pub head_torn : (settings : ExportSettings) (a b d e : Option (List ℕ)) → Consumes a b (head_octets received_magic)
    → Tears d e written_head → IsCaptureTorn settings a b d e
head_torn settings a b d e took torn = record {
  list = [];
  receipts = record { readable = tt; order = tt };
  read = subst (Consumes a b) (sym (append-nil (head_octets received_magic))) took;
  written = subst (Tears d e) (sym (append-nil written_head)) torn;
}
