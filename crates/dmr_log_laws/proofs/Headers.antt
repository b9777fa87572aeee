-- A data header that was sent is told.
use Rattle.std.proofs.Common.{◌≡◌, ℕ, List, Bool, true, false, length, take, Option, Some, None, refl, sym, ap, ◌∙◌, subst}
use Rattle.std.proofs.Common.{arith, lit≤}
use Rattle.dmr_bits.proofs.OctetFronts.{length-bits_of_octets}
use Rattle.dmr_bits.proofs.Parts.{length-part}
use Rattle.dmr_bits.specs.Bits.{bits_of_octets}
use Rattle.dmr_bptc.proofs.Decoded.{one_decoded}
use Rattle.dmr_bptc.specs.Decoding.{IsDecoded}
use Rattle.dmr_burst.proofs.Syncs.{first_is}
use Rattle.dmr_burst.specs.Layout.{information_field, sync_field}
use Rattle.dmr_burst.specs.SlotType.{HasSlotType}
use Rattle.dmr_burst.specs.Sync.{HasSync}
use Rattle.dmr_burst.specs.declared.slot_type.SlotType.{SlotType}
use Rattle.dmr_burst.specs.declared.sync.Side.{Side}
use Rattle.dmr_burst.specs.declared.sync.Side.TheVariants.{Ms}
use Rattle.dmr_burst.specs.declared.sync.Sync.{Sync}
use Rattle.dmr_data.proofs.HeaderForms.{same_reading}
use Rattle.dmr_data.specs.Header.{SpellsPieces, layout}
use Rattle.dmr_data.specs.HeaderForms.{IsReadForm, IsSealedHeader}
use Rattle.dmr_data.specs.declared.header.Header.{Header}
use Rattle.dmr_hearing.proofs.OneField.{one_slot_type}
use Rattle.dmr_hearing.proofs.Payloads.{sent_is_read}
use Rattle.dmr_hearing.specs.Damage.{IsDamagedData, IsRecordedAs}
use Rattle.dmr_hearing.specs.DataTypes.{payload_of}
use Rattle.dmr_hearing.specs.Slots.{Data}
use Rattle.dmr_listing.specs.Contents.{HoldsDataHeader}
use Rattle.dmr_listing.specs.Lines.{IsHeld}
use Rattle.dmr_listing.specs.declared.contents.Contents.{Contents}
use Rattle.dmr_listing.specs.declared.contents.Contents.TheVariants.{LinkControl, ControlBlock, DataHeader, OtherFormat}
use Rattle.dmr_listing.specs.declared.contents.Contents.TheVariants.{Unsealed, Octets, Idle, AsReceived, Unreadable}
use Rattle.dmr_log.specs.Repeated.{header_told}
use Rattle.dmr_log.specs.SlotTracks.{Arrives}
use Rattle.dmr_log.specs.declared.arrived.Arrived.{Arrived}
use Rattle.dmr_log.specs.declared.repeated.PacketHead.TheVariants.{Known}
use Rattle.dmr_log.specs.declared.repeated.Repeated.{Repeated}
use Rattle.dmr_log.specs.declared.repeated.Repeated.TheVariants as repeated
use Rattle.dmr_log_laws.proofs.Decided.{Shows}
use Rattle.dmr_log_laws.proofs.Shapes.{data_shown}
use Rattle.dmr_log_laws.specs.TryEntries.{HoldsHeader}
use Rattle.dmr_reading.specs.Reading.{IsReadAs}
use Rattle.dmr_reading.specs.declared.reading.Reading.{Reading}
use Rattle.dmr_reading.specs.declared.reading.Reading.TheVariants as reading
use Rattle.dmr_voice.specs.CallMeaning.{data_cell}
use Rattle.dmr_voice.specs.declared.said.Role.TheVariants.{Other}

-- 1. What its burst is read as.

same_sync : (a b : Sync) → Some a ≡ Some b → a ≡ b
same_sync a b e = cc

no_voice : (bits : List Bool) (side : Side) → length bits ≡ 264 → HasSync (record { side = Ms; voice = false }) bits
    → HasSync (record { side = side; voice = true }) bits → ⊥
no_voice bits side long p q =
    let centre : length (sync_field bits) ≡ 48 = length-part bits 108 156 (lit≤ tt) (omega arith) in
    let found = sym (first_is Ms false (sync_field bits) centre p) ∙ first_is side true (sync_field bits) centre q in
    let same : false ≡ true = ap (λ (s : Sync). s.voice) (same_sync _ _ found) in cc

-- what a listing shows of it
record ShowsHeader (bits : List Bool) (contents : Option Contents) : Type 0 where
  some : Contents
  is : contents ≡ Some some
  holds : HoldsDataHeader (information_field bits) some

shows_header : (colour : ℕ) (bits : List Bool) (read : Reading) (contents : Option Contents) → length bits ≡ 264
    → HasSync (record { side = Ms; voice = false }) bits → HasSlotType (record { colour = colour; kind = 6 }) bits
    → IsReadAs bits read → IsHeld read bits contents → ShowsHeader bits contents
shows_header colour bits (reading.Data side slot_type information) None long sync typed is held = absurd held
shows_header colour bits (reading.Data side slot_type information) (Some c) long sync typed is held =
    let same : slot_type.kind ≡ 6 =
    ap (λ (s : SlotType). s.kind) (one_slot_type bits slot_type (record { colour = colour; kind = 6 }) long is.1 typed) in
    record { some = c; is = refl; holds = held.data_header same }
shows_header colour bits (reading.Untyped side) contents long sync typed is held =
    absurd (is.1 (record { colour = colour; kind = 6 }) typed)
shows_header colour bits (reading.VoiceSync side) contents long sync typed is held = absurd (no_voice bits side long sync is)
shows_header colour bits (reading.Voice emb) contents long sync typed is held =
    absurd (is.0 (record { side = Ms; voice = false }) sync)
shows_header colour bits reading.Unreadable contents long sync typed is held =
    absurd (is.0 (record { side = Ms; voice = false }) sync)

-- 2. What it holds.

one_message : (received a b : List Bool) → IsDecoded received (Some a) → IsDecoded received (Some b) → a ≡ b
one_message received a b p q = let same = one_decoded received (Some a) (Some b) p q in cc

is_that_header : (bits message : List Bool) (h : Header) (c : Contents) → IsDecoded bits (Some message) → IsReadForm h message
    → HoldsDataHeader bits c → c ≡ DataHeader h
is_that_header bits message h (DataHeader other) decoded form holds =
    let same : holds.message ≡ message = one_message bits holds.message message holds.decoded decoded in
    ap (λ (x : Header). DataHeader x) (same_reading other h message (subst (IsReadForm other) same holds.form) form)
is_that_header bits message h (OtherFormat octets) decoded form (here, (other, decoded', sealed, none)) =
    absurd (none h (subst (λ (m : List Bool). SpellsPieces (layout h) (take 80 m))
    (one_message bits message other decoded decoded') form.fields))
is_that_header bits message h (Unsealed octets) decoded form (here, (other, decoded', unsealed)) =
    absurd (unsealed (subst IsSealedHeader (one_message bits message other decoded decoded') form.sealed))
is_that_header bits message h Unreadable decoded form holds =
    let same = one_decoded bits (Some message) None decoded holds in cc
is_that_header bits message h (LinkControl lc) decoded form holds = absurd holds
is_that_header bits message h (ControlBlock block) decoded form holds = absurd holds
is_that_header bits message h (Octets octets) decoded form holds = absurd holds
is_that_header bits message h Idle decoded form holds = absurd holds
is_that_header bits message h AsReceived decoded form holds = absurd holds

header_arrives : (colour : ℕ) (header : List Bool) (h : Header) (slot : Option (List ℕ)) (arrived : Arrived)
    → HoldsHeader header h → IsRecordedAs colour (Data 6 header None) slot → Arrives colour slot arrived
    → arrived.contents ≡ Some (DataHeader h)
header_arrives colour header h None arrived holds recorded arrives = let silent = recorded.damaged in cc
header_arrives colour header h (Some octets) arrived (message, written, form) recorded arrives =
    let bits = bits_of_octets octets in
    let long : length bits ≡ 264 = omega (arith, length-bits_of_octets octets, arrives.hears.0) in
    let damaged : IsDamagedData colour 6 header bits = recorded.damaged in
    let shows = shows_header colour bits arrives.line.reading arrives.line.contents long damaged.sync damaged.slot_type
    arrives.listed.reading arrives.listed.contents in
    let (read, decoded, sealed, written', none) = sent_is_read (payload_of 6) header (information_field bits) None recorded.sent
    damaged.payload in
    let same : read ≡ message = sym written'.holds ∙ written.holds in
    ap (λ (a : Arrived). a.contents) arrives.value ∙ shows.is
    ∙ ap (λ (c : Contents). Some c) (is_that_header (information_field bits) message h shows.some
    (subst (λ (m : List Bool). IsDecoded (information_field bits) (Some m)) same decoded) form shows.holds)

-- what a log is told of the slot of a data header
pub header_shown : (colour : ℕ) (header : List Bool) (h : Header) (r : Repeated) → HoldsHeader header h
    → Shows colour (data_cell 6 header None Other) r → r ≡ repeated.DataHeader (Known h)
header_shown colour header h r holds s =
    data_shown colour 6 header Other (data_cell 6 header None Other).sent r s
    ∙ ap header_told (header_arrives colour header h s.slot s.arrived holds s.recorded s.arrives)
