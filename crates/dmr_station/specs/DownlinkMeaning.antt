-- What goes out for recordings of well-formed transmissions in both slots: what they mean.
use Rattle.std.specs.Prelude.{ℕ, ◌≡◌, List, [], ◌∷◌, ◌++◌, length, replicate, take}
use Rattle.dmr_gateway.specs.Heard.{IsReadByGateway, nothing_said}
use Rattle.dmr_gateway.specs.RecordMeaning.{received_now}
use Rattle.dmr_gateway.specs.declared.heard.Heard.{Heard}
use Rattle.dmr_gateway.specs.declared.received.Received.{Received}
use Rattle.dmr_record.specs.Outgoing.{Sending}
use Rattle.dmr_record.specs.Received.{Receipt}
use Rattle.dmr_record.specs.Uplink.{UplinkSlots}
use Rattle.std.specs.List.{AllZip}
use Rattle.dmr_slot.specs.Bursts.{IsSlotOut}
use Rattle.dmr_slot.specs.LineMeaning.{LineOut, lines}
use Rattle.dmr_slot.specs.declared.line.SlotOut.{SlotOut}
use Rattle.dmr_voice.specs.DamagedRecordings.{IsDamagedRecordingOf, meant}
use Rattle.dmr_voice.specs.CallMeaning.{Transmission, Cell, sent_list}
use Rattle.dmr_voice.specs.WellFormed.{IsWellFormed}
use Rattle.dmr_voice.specs.Said.{Data, Said, Nothing, Repeat}
use Rattle.dmr_station.specs.Sent.{DownlinkSlots, SlotBursts}
use Rattle.dmr_station.specs.DownlinkRules.{slots_in, handed_frames, IsDownlinkOf, Makes}
use Rattle.dmr_station.specs.StationRules.{Settings, Counts}
use Rattle.dmr_station.specs.GatewayMeaning.{IsGatewayOf}

-- 1. What both slots mean.

-- The line of a slot in which this was sent: six frames later what it means, with the vocoder bits of the recording, or else the
-- call hang.
abbrev pub line_of_meaning : Settings → List Cell → UplinkSlots → List LineOut
line_of_meaning s cells slots = lines s.call_hang [] (replicate 6 Nothing ++ meant cells slots)

-- What goes out where this was sent in both slots, of which these frames are a recording, and these datagrams are offered in each
-- frame of the downlink; what is received; and what is counted of the gateway. The line of each slot gives what was sent in it, as
-- bursts of the own colour code.
pub record IsDownlinkOfWhatIsMeant (s : Settings) (first second : List Cell) (frames : List UplinkSlots)
    (offers : List (List Sending)) (sending : List DownlinkSlots) (receipts : List Receipt)
    (counts : Counts) : Type 0 where
  pub first_outs : List SlotOut
  pub second_outs : List SlotOut
  pub first_line : AllZip (IsSlotOut s.colour) (line_of_meaning s first (slots_in 0 frames)) first_outs
  pub second_line : AllZip (IsSlotOut s.colour) (line_of_meaning s second (slots_in 1 frames)) second_outs
  pub gates : List SlotBursts
  pub gateway : IsGatewayOf s offers first_outs second_outs gates receipts counts
  pub downlink : IsDownlinkOf s first_outs second_outs gates sending

-- The first so many frames of it.
pub record IsFrontOfTheDownlink (s : Settings) (first second : List Cell) (frames : List UplinkSlots) (count : ℕ)
    (offers : List (List Sending)) (sending : List DownlinkSlots) (receipts : List Receipt)
    (counts : Counts) : Type 0 where
  pub first_outs : List SlotOut
  pub second_outs : List SlotOut
  pub first_line : AllZip (IsSlotOut s.colour) (take count (line_of_meaning s first (slots_in 0 frames))) first_outs
  pub second_line : AllZip (IsSlotOut s.colour) (take count (line_of_meaning s second (slots_in 1 frames))) second_outs
  pub gates : List SlotBursts
  pub gateway : IsGatewayOf s offers first_outs second_outs gates receipts counts
  pub downlink : IsDownlinkOf s first_outs second_outs gates sending

-- 2. The rules send what is meant.

-- Frames that are a recording of what was sent in both slots, damaged within the limits.
pub record IsRecordingOf (colour : ℕ) (first second : List Cell) (frames : List UplinkSlots) : Type 0 where
  pub first_slot : IsDamagedRecordingOf colour first (slots_in 0 frames)
  pub second_slot : IsDamagedRecordingOf colour second (slots_in 1 frames)

-- This holds of whatever well-formed transmissions were sent in both slots, and of every recording of them.
abbrev pub ForWhatWasRecorded : ℕ → (List Cell → List Cell → List UplinkSlots → Type 0) → Type 0
ForWhatWasRecorded colour Holds =
    (lead_1 lead_2 : ℕ) (first second : List (Transmission × ℕ)) (frames : List UplinkSlots) →
    IsWellFormed colour first → IsWellFormed colour second →
    IsRecordingOf colour (sent_list colour lead_1 first) (sent_list colour lead_2 second) frames →
    Holds (sent_list colour lead_1 first) (sent_list colour lead_2 second) frames

-- What the rules make of a recording that is handed over whole is what the transmissions mean,
abbrev pub SendsWhatIsMeant : Type 0
SendsWhatIsMeant = (s : Settings) → ForWhatWasRecorded s.colour (λ first second frames.
    (offers : List (List Sending)) (sending : List DownlinkSlots) (receipts : List Receipt) (counts : Counts)
    → Makes s offers (handed_frames frames) sending receipts counts
    → IsDownlinkOfWhatIsMeant s first second frames offers sending receipts counts)

-- and what they make of a front of it is a front of that.
abbrev pub SendsFrontOfWhatIsMeant : Type 0
SendsFrontOfWhatIsMeant = (s : Settings) → ForWhatWasRecorded s.colour (λ first second frames.
    (front rest : List UplinkSlots) (offers : List (List Sending)) (sending : List DownlinkSlots)
    (receipts : List Receipt) (counts : Counts) → handed_frames frames ≡ front ++ rest
    → Makes s offers front sending receipts counts
    → IsFrontOfTheDownlink s first second frames (length front) offers sending receipts counts)

-- 3. What a gateway receives of what is meant.

-- What a slot means to a gateway: data is heard as what its information reads as, and anything else as nothing.
abbrev pub IsHeardOf : Said → Heard → Type 0
IsHeardOf (Repeat (Data kind information) role) h = IsReadByGateway kind information h
IsHeardOf said h = h ≡ nothing_said

-- The records of a slot whose places mean this: of each place what is received in it, after those heard before, newest first.
abbrev pub AreRecordsOf : ℕ → ℕ → List Heard → List Said → List (List Received) → Type 0
AreRecordsOf llid slot back [] [] = Unit {0}
AreRecordsOf llid slot back (said ∷ more) (received ∷ rest) =
    (h : Heard) × IsHeardOf said h × (received ≡ received_now llid slot (h ∷ back)) × AreRecordsOf llid slot (h ∷ back) more rest
AreRecordsOf llid slot back saids records = ⊥

-- What transmissions mean, and what a gateway receives of them.
pub record IsSameMeaning (a b : List Said) : Type 0 where
  pub said : a ≡ b
  pub records : (llid slot : ℕ) (x y : List (List Received)) → AreRecordsOf llid slot [] a x → AreRecordsOf llid slot [] b y → x ≡ y
