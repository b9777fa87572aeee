-- What a log has to tell of the data tries that were sent in a slot, by what they mean.
use Rattle.std.specs.Prelude.{◌≡◌, ℕ, ◌+◌, ◌<◌, ◌≤◌, Bool, List, [], ◌∷◌, length, count_by, is_some, Contains, Option}
use Rattle.dmr_bptc.specs.ProductWord.{IsWritten}
use Rattle.dmr_data.specs.HeaderForms.{IsReadForm}
use Rattle.dmr_data.specs.declared.header.Header.{Header}
use Rattle.dmr_gateway.specs.GatewayRules.{Gate}
use Rattle.dmr_log.specs.RecordingLogs.{RecordedFrames}
use Rattle.dmr_log.specs.Repeated.{counted_blocks}
use Rattle.dmr_log.specs.declared.log.FrameTold.{FrameTold}
use Rattle.dmr_log.specs.declared.log.LogState.{LogState}
use Rattle.dmr_log.specs.declared.repeated.PacketHead.TheVariants.{Known}
use Rattle.dmr_log.specs.declared.slot_log.SlotTold.{SlotTold}
use Rattle.dmr_log.specs.declared.transmission.Packet.{Packet}
use Rattle.dmr_log.specs.declared.transmission.Subject.TheVariants as subject
use Rattle.dmr_log.specs.declared.transmission.Transmission.{Transmission as Entry}
use Rattle.dmr_log_laws.specs.WholeLogs.{IsWholeLog, entries_told, recorded_in_slot_1, recorded_in_slot_2, told_of_slot_1}
use Rattle.dmr_log_laws.specs.WholeLogs.{told_of_slot_2}
use Rattle.dmr_record.specs.Head.{frame_limit}
use Rattle.dmr_voice.specs.CallMeaning.{Block, Transmission, DataTry, cells, sent_list}
use Rattle.dmr_voice.specs.DamagedRecordings.{IsDamagedRecordingOf}
use Rattle.dmr_voice.specs.WellFormed.{IsWellFormed}

-- 1. The try that is due.

-- the information of a data header holds this header
abbrev pub HoldsHeader : List Bool → Header → Type 0
HoldsHeader information h = (message : List Bool) × IsWritten message information × IsReadForm h message

-- how many blocks are there
abbrev pub there_count : List (Option Block) → ℕ
there_count blocks = count_by is_some blocks

-- 2. The entries.

-- One of these entries tells a packet of this header, of which so many blocks are there, and it has this frame.
pub record TellsPacket (told : List Entry) (frame : ℕ) (h : Header) (blocks : ℕ) : Type 0 where
  pub entry : Entry
  pub among : Contains told entry
  pub begins : entry.span.first ≤ frame
  pub goes_on : frame < entry.span.first + entry.span.frames
  pub packet : Packet
  pub tells : entry.subject ≡ subject.Packet packet
  pub head : packet.head ≡ Known h
  pub there : packet.there ≡ blocks

-- A data try that begins in this frame is told where its header counts its blocks: with the frame of its header, and with as many
-- blocks as are there.
abbrev pub IsTryTold : ℕ → Transmission → List Entry → Type 0
IsTryTold frame (DataTry csbks header blocks) told =
    (h : Header) → HoldsHeader header h → counted_blocks (Known h) ≡ length blocks →
    TellsPacket told (frame + length csbks) h (there_count blocks)
IsTryTold frame t told = Unit {0}

-- So is each try of these transmissions, where the first of them begins in this frame.
abbrev pub AreTriesTold : ℕ → ℕ → List (Transmission × ℕ) → List Entry → Type 0
AreTriesTold colour frame [] told = Unit {0}
AreTriesTold colour frame (t ∷ ts) told =
    IsTryTold frame t.0 told × AreTriesTold colour (frame + length (cells colour t.0) + t.1) ts told

-- 3. The law.

-- Whatever well-formed transmissions are sent in a slot, and however they are damaged within the limits, each data try is told
-- whose header counts its blocks.
abbrev pub TriesOfSlotAreTold : ℕ → List (Option (List ℕ)) → List SlotTold → Type 0
TriesOfSlotAreTold colour slots told =
    (lead : ℕ) (ts : List (Transmission × ℕ)) → IsWellFormed colour ts →
    IsDamagedRecordingOf colour (sent_list colour lead ts) slots → AreTriesTold colour lead ts (entries_told told)

-- So it is in both slots of a recording.
abbrev pub TriesAreTold : Type 0
TriesAreTold =
    (colour : ℕ) (gateway : Option Gate) (frames : RecordedFrames) (told : List FrameTold) (log : LogState) →
    length frames ≤ frame_limit → IsWholeLog colour gateway frames told log →
    TriesOfSlotAreTold colour (recorded_in_slot_1 frames) (told_of_slot_1 told)
    × TriesOfSlotAreTold colour (recorded_in_slot_2 frames) (told_of_slot_2 told)
