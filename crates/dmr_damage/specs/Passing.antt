-- How far a recording has been passed, behind its head.
use Rattle.std.specs.Prelude.{◌≡◌, ℕ, ◌+◌, ◌≤◌, List, [], ◌∷◌, ◌++◌, Option, None, length}
use Rattle.std.specs.Io.KnownBytes.{Appends, Consumes, IsAtEnd}
use Rattle.std.specs.List.{AllByRecursion}
use Rattle.dmr_record.specs.Devices.{Tears}
use Rattle.dmr_record.specs.Head.{head_octets, uplink_magic}
use Rattle.dmr_record.specs.Uplink.{IsFrame, UplinkSlots, frames_octets, uplink_file}
use Rattle.dmr_recording.specs.declared.fault_line.FaultLine.{FaultLine}
use Rattle.dmr_damage.specs.Counts.{damage_counts}
use Rattle.dmr_damage.specs.Frames.{AreDamagedBy, WasGiven}
use Rattle.dmr_damage.specs.Recordings.{AreWritten, IsFrameFault}
use Rattle.dmr_damage.specs.Settings.{Settled}
use Rattle.dmr_damage.specs.declared.counts.Damaged.{Damaged}
use Rattle.dmr_damage.specs.declared.frames.Damager.{Damager}
use Rattle.dmr_damage.specs.declared.recording.PassEnd.{PassEnd}
use Rattle.dmr_damage.specs.declared.recording.PassEnd.TheVariants.{End, Fault}
use Rattle.dmr_damage.specs.declared.settings.Damage.{Damage}

-- a frame in which nothing is received
abbrev pub silence_in_both : UplinkSlots
silence_in_both = None ∷ None ∷ []

-- These frames were given to what damages them, and these others were decided, written behind a head, and counted.
pub record ArePassed (damage : Damage) (damager : Damager) (counts : Damaged) (frames outs : List UplinkSlots)
    (held_old held_new : Option (List ℕ)) : Type 0 where
  pub behind : WasGiven damage damager frames outs
  pub whole : AllByRecursion IsFrame outs
  pub fewer : length outs ≤ length frames
  pub counted : counts ≡ damage_counts frames outs
  pub as_many : counts.frames ≡ length outs
  pub written : Appends held_old held_new (uplink_file outs)

-- These frames were given to what damages them, and of those that were decided a front was written, and not all of it.
pub record IsPassedTorn (damage : Damage) (damager : Damager) (frames : List UplinkSlots) (held_old held_new : Option (List ℕ))
    : Type 0 where
  pub outs : List UplinkSlots
  pub behind : WasGiven damage damager frames outs
  pub written : Tears held_old held_new (uplink_file outs)

-- These frames were read, and behind them the end, or octets that show a fault.
abbrev pub IsReached : PassEnd → List UplinkSlots → (left_old left_new : Option (List ℕ)) → Type 0
IsReached End frames left_old left_new = Consumes left_old left_new (frames_octets frames) × IsAtEnd left_new
IsReached (Fault fault) frames left_old left_new =
    (part : List ℕ) × Consumes left_old left_new (frames_octets frames ++ part)
    × IsFrameFault (length frames) (8 + length (frames_octets frames)) fault part

-- something holds of the fault, where one was reached
abbrev pub IfPassFault : PassEnd → (FaultLine → Type 0) → Type 0
IfPassFault End Holds = Unit {0}
IfPassFault (Fault fault) Holds = Holds fault

-- Of the frames that were read, a front of what they are written as was written.
pub record IsFrontTorn (damage : Damage) (damager : Damager) (held_old held_new left_old left_new : Option (List ℕ)) : Type 0 where
  pub frames : List UplinkSlots
  pub whole : AllByRecursion IsFrame frames
  pub read : Consumes left_old left_new (frames_octets frames)
  pub torn : IsPassedTorn damage damager frames held_old held_new

-- The head of a recording was written.
abbrev pub IsBehindHead : (held_old held_new : Option (List ℕ)) → Type 0
IsBehindHead held_old held_new = Appends held_old held_new (head_octets uplink_magic)

-- Behind its head a recording was read to its end, damaged, written and counted.
pub record IsWholeBehind (settled : Settled) (counts : Damaged) (left_old left_new held_old held_new : Option (List ℕ))
    : Type 0 where
  pub frames : List UplinkSlots
  pub outs : List UplinkSlots
  pub whole : AllByRecursion IsFrame frames
  pub read : Consumes left_old left_new (frames_octets frames)
  pub end : IsAtEnd left_new
  pub written : AreWritten settled frames outs held_old held_new
  pub counted : counts ≡ damage_counts frames outs

-- Behind its head a frame shows this fault, and those before it were written.
pub record IsFaultInFrames (settled : Settled) (fault : FaultLine) (left_old left_new held_old held_new : Option (List ℕ))
    : Type 0 where
  pub frames : List UplinkSlots
  pub outs : List UplinkSlots
  pub whole : AllByRecursion IsFrame frames
  pub part : List ℕ
  pub read : Consumes left_old left_new (frames_octets frames ++ part)
  pub shown : IsFrameFault (length frames) (8 + length (frames_octets frames)) fault part
  pub written : AreWritten settled frames outs held_old held_new

-- Of what these frames are written as, a front was written.
pub record IsTornBehind (settled : Settled) (left_old left_new held_old held_new : Option (List ℕ)) : Type 0 where
  pub frames : List UplinkSlots
  pub outs : List UplinkSlots
  pub whole : AllByRecursion IsFrame frames
  pub part : List ℕ
  pub read : Consumes left_old left_new (frames_octets frames ++ part)
  pub damaged : AreDamagedBy settled.damage frames outs
  pub written : Tears held_old held_new (uplink_file outs)
