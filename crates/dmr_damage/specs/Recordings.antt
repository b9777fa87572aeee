-- What is read of a recording, written and counted.
use Rattle.std.specs.Prelude.{◌≡◌, ◌≢◌, ◌⊎◌, ℕ, ◌+◌, ◌*◌, ◌<◌, List, ◌++◌, Option, Some, None, length}
use Rattle.std.specs.List.{AllByRecursion, flat_map}
use Rattle.std.specs.Io.KnownBytes.{Appends, Consumes, IsAtEnd}
use Rattle.dmr_record.specs.Devices.{Tears}
use Rattle.dmr_record.specs.Head.{ShowsAnyHeadFault, head_octets, magic_of}
use Rattle.dmr_record.specs.Uplink.{IsFrame, IsSilenceOrBurst, ShowsUplinkSlotFault, UplinkSlot, UplinkSlots}
use Rattle.dmr_record.specs.Uplink.{slot_octets, uplink_file, uplink_slot_limit}
use Rattle.dmr_record.specs.declared.head.FileFormat.{FileFormat}
use Rattle.dmr_record.specs.declared.head.FileFormat.TheVariants.{Uplink}
use Rattle.dmr_recording.specs.Places.{place_by_number}
use Rattle.dmr_recording.specs.declared.fault_line.FaultLine.{FaultLine}
use Rattle.dmr_damage.specs.Counts.{damage_counts}
use Rattle.dmr_damage.specs.Frames.{AreDamagedBy}
use Rattle.dmr_damage.specs.Settings.{Settled}
use Rattle.dmr_damage.specs.declared.counts.Damaged.{Damaged}
use Rattle.dmr_damage.specs.declared.recording.DamageEnd.{DamageEnd}
use Rattle.dmr_damage.specs.declared.recording.DamageEnd.TheVariants as why

-- Behind so many frames these octets show a fault, in slot 1 of the next frame or behind it in slot 2. The frame begins at this
-- octet.
pub record IsFrameFault (frames begin : ℕ) (fault : FaultLine) (octets : List ℕ) : Type 0 where
  pub slots : List UplinkSlot
  pub few : length slots < 2
  pub whole : AllByRecursion IsSilenceOrBurst slots
  pub part : List ℕ
  pub split : octets ≡ flat_map slot_octets slots ++ part
  pub shown : ShowsUplinkSlotFault uplink_slot_limit (2 * frames + length slots) fault.fault part
  pub octet : fault.octet ≡ begin + length (flat_map slot_octets slots)
  pub place : fault.place ≡ Some (place_by_number (2 * frames + length slots))

-- These frames were written, as a recording of these others is damaged.
pub record AreWritten (settled : Settled) (frames outs : List UplinkSlots) (held_old held_new : Option (List ℕ)) : Type 0 where
  pub damaged : AreDamagedBy settled.damage frames outs
  pub as_many : length outs ≡ length frames
  pub whole : AllByRecursion IsFrame outs
  pub written : Appends held_old held_new (uplink_file outs)

-- A recording was read to its end, damaged, written and counted.
pub record IsDamagedWhole (settled : Settled) (counts : Damaged) (left_old left_new held_old held_new : Option (List ℕ))
    : Type 0 where
  pub frames : List UplinkSlots
  pub outs : List UplinkSlots
  pub whole : AllByRecursion IsFrame frames
  pub read : Consumes left_old left_new (uplink_file frames)
  pub end : IsAtEnd left_new
  pub written : AreWritten settled frames outs held_old held_new
  pub counted : counts ≡ damage_counts frames outs

-- The head shows this fault, and nothing was written.
pub record HasFaultInHead (fault : FaultLine) (left_old left_new held_old held_new : Option (List ℕ)) : Type 0 where
  pub taken : List ℕ
  pub read : Consumes left_old left_new taken
  pub shown : ShowsAnyHeadFault fault.fault taken
  pub octet : fault.octet ≡ 0
  pub place : fault.place ≡ None
  pub written : held_new ≡ held_old

-- A frame behind these shows this fault, and these were written.
pub record IsAtFrameFault (settled : Settled) (fault : FaultLine) (left_old left_new held_old held_new : Option (List ℕ)) : Type 0
  where
    pub frames : List UplinkSlots
    pub outs : List UplinkSlots
    pub whole : AllByRecursion IsFrame frames
    pub part : List ℕ
    pub read : Consumes left_old left_new (uplink_file frames ++ part)
    pub shown : IsFrameFault (length frames) (length (uplink_file frames)) fault part
    pub written : AreWritten settled frames outs held_old held_new

-- A recording is at fault: in its head, or behind it.
abbrev pub IsFaultOfRecording : Settled → FaultLine → (left_old left_new held_old held_new : Option (List ℕ)) → Type 0
IsFaultOfRecording settled fault left_old left_new held_old held_new =
    HasFaultInHead fault left_old left_new held_old held_new ⊎ IsAtFrameFault settled fault left_old left_new held_old held_new

-- The head is that of a file of another format, and nothing was written.
pub record IsOfOtherFormat (left_old left_new held_old held_new : Option (List ℕ)) : Type 0 where
  pub format : FileFormat
  pub other : format ≢ Uplink
  pub read : Consumes left_old left_new (head_octets (magic_of format))
  pub written : held_new ≡ held_old

-- Of what these frames are written as, a front was written, and not all of it.
pub record IsTorn (settled : Settled) (left_old left_new held_old held_new : Option (List ℕ)) : Type 0 where
  pub frames : List UplinkSlots
  pub outs : List UplinkSlots
  pub whole : AllByRecursion IsFrame frames
  pub part : List ℕ
  pub read : Consumes left_old left_new (uplink_file frames ++ part)
  pub damaged : AreDamagedBy settled.damage frames outs
  pub written : Tears held_old held_new (uplink_file outs)

-- something holds of the fault, where the recording is at fault
abbrev pub IfRecording : DamageEnd → (FaultLine → Type 0) → Type 0
IfRecording (why.File fault) Holds = Holds fault
IfRecording _ Holds = Unit {0}

-- something holds where the file is of another format
abbrev pub IfOther : DamageEnd → Type 0 → Type 0
IfOther why.NotUplink holds = holds
IfOther _ holds = Unit {0}

-- something holds where the recording could not be written
abbrev pub IfRecordingUnwritten : DamageEnd → Type 0 → Type 0
IfRecordingUnwritten why.Output holds = holds
IfRecordingUnwritten _ holds = Unit {0}
