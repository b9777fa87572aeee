-- The log of a whole recording: what is told of it, and what a run over the same file counts.
use Rattle.std.specs.Prelude.{◌≡◌, ℕ, ◌+◌, ◌≤◌, Option, List, [], ◌∷◌, ◌++◌, map, take, drop, length, sum_by, option_map}
use Rattle.std.specs.Prelude.{option_to_list}
use Rattle.std.specs.List.{flat_map, AllByRecursion}
use Rattle.dmr_gateway.specs.GatewayRules.{Gate}
use Rattle.dmr_log.specs.LogRules.{IsEndLogged, new_log, recorded_burst}
use Rattle.dmr_log.specs.Pieces.{AreSharedOut}
use Rattle.dmr_log.specs.RecordingLogs.{AreFramesTaken, IsRestTold, Logs, RecordedFrames, silent_frames, slots_of_frames}
use Rattle.dmr_log.specs.declared.log.FrameTold.{FrameTold}
use Rattle.dmr_log.specs.declared.log.LogState.{LogState}
use Rattle.dmr_log.specs.declared.repeated.Repeated.{Repeated}
use Rattle.dmr_log.specs.declared.slot_log.SlotTold.{SlotTold}
use Rattle.dmr_log.specs.declared.transmission.Ended.{Ended}
use Rattle.dmr_log.specs.declared.transmission.Transmission.{Transmission}
use Rattle.dmr_listing.specs.ListingRules.{GivenInTurn}
use Rattle.dmr_record.specs.Head.{frame_limit, head_octets, uplink_magic}
use Rattle.dmr_record.specs.Outgoing.{Sending}
use Rattle.dmr_record.specs.Uplink.{UplinkSlots, IsFrame, uplink_file}
use Rattle.dmr_recording.specs.Recordings.{IsSlotOf, spelling}
use Rattle.dmr_recording.specs.declared.recording.Recording.TheVariants.{Uplink}
use Rattle.dmr_repeater.specs.Files.{Files}
use Rattle.dmr_repeater.specs.Runs.{WritesFiles}
use Rattle.dmr_station.specs.StationRules.{Settings, Counts}

-- 1. What is told.

-- The log of a whole recording, for a repeater with this colour code: its frames were taken, and five silent frames behind them.
-- Then it ended. This was told, of each frame that was taken and of the end.
pub record IsWholeLog (colour : ℕ) (gateway : Option Gate) (frames : RecordedFrames) (told : List FrameTold) (log : LogState)
    : Type 0 where
  pub of_frames : List FrameTold
  pub decided : LogState
  pub logged : Logs (new_log colour gateway) (frames ++ silent_frames 5) of_frames decided
  pub ended : IsEndLogged decided log
  pub all : told ≡ of_frames ++ log.told ∷ []

-- the bursts that a recording has in slot 1, and in slot 2
abbrev pub recorded_in_slot_1 : RecordedFrames → List (Option (List ℕ))
recorded_in_slot_1 frames = map (λ frame. recorded_burst frame.0) frames

abbrev pub recorded_in_slot_2 : RecordedFrames → List (Option (List ℕ))
recorded_in_slot_2 frames = map (λ frame. recorded_burst frame.1) frames

-- what is told of slot 1, and of slot 2
abbrev pub told_of_slot_1 : List FrameTold → List SlotTold
told_of_slot_1 told = map (λ (t : FrameTold). t.slot_1) told

abbrev pub told_of_slot_2 : List FrameTold → List SlotTold
told_of_slot_2 told = map (λ (t : FrameTold). t.slot_2) told

-- The entries of a slot: the transmissions that are told to have ended, in that order.
abbrev pub entries_told : List SlotTold → List Transmission
entries_told [] = []
entries_told (t ∷ told) = option_to_list (option_map (λ (e : Ended). e.transmission) t.ended) ++ entries_told told

-- What a slot repeats in each frame of a recording of so many frames. The first five frames that are taken decide on none.
abbrev pub repeated_in : ℕ → List SlotTold → List Repeated
repeated_in count told = map (λ (t : SlotTold). t.repeated) (take count (drop 5 told))

-- Where `log_recording` of dmr_log has logged a whole recording with a new log, it was told so, and what was told was given to the
-- taker in turn.
abbrev pub TellsWholeLogs : (L : Type 0) → (L → FrameTold → L → Type 0) → Type 0
TellsWholeLogs L Takes =
    (colour : ℕ) (gateway : Option Gate) (frames : RecordedFrames) (read log : LogState) (left_old left_new : Option (List ℕ))
    (old between new : L) →
    AreFramesTaken Takes (new_log colour gateway) frames [] [] read left_old left_new old between →
    IsRestTold Takes read log between new →
    (told : List FrameTold) × IsWholeLog colour gateway frames told log × GivenInTurn Takes old told new

-- 2. Each burst is in one entry.

-- The entries of a slot share out its frames: each frame that repeats a burst is in exactly one, and each entry tells its own.
abbrev pub EachBurstIsInOneEntry : Type 0
EachBurstIsInOneEntry =
    (colour : ℕ) (gateway : Option Gate) (frames : RecordedFrames) (told : List FrameTold) (log : LogState) →
    length frames ≤ frame_limit → IsWholeLog colour gateway frames told log →
    AreSharedOut 0 (repeated_in (length frames) (told_of_slot_1 told)) (entries_told (told_of_slot_1 told))
    × AreSharedOut 0 (repeated_in (length frames) (told_of_slot_2 told)) (entries_told (told_of_slot_2 told))

-- 3. A run over the same file.

-- The file of these frames, as a log takes them, is that of those frames, as a run takes them.
pub record IsSameFile (frames : RecordedFrames) (uplink : List UplinkSlots) : Type 0 where
  pub each_slot : AllByRecursion (IsSlotOf Uplink) (slots_of_frames frames)
  pub each_frame : AllByRecursion IsFrame uplink
  pub octets : head_octets uplink_magic ++ flat_map (spelling Uplink) (slots_of_frames frames) ≡ uplink_file uplink

-- how many bursts these entries tell
abbrev pub burst_total : List Transmission → ℕ
burst_total transmissions = sum_by (λ (t : Transmission). t.span.bursts) transmissions

-- A log and a run for the same colour code, over the same file: the bursts of all entries are as many as the run counts as
-- repeated, and the log counts as many.
abbrev pub AgreesWithRuns : Type 0
AgreesWithRuns =
    (gateway : Option Gate) (frames : RecordedFrames) (told : List FrameTold) (log : LogState) (s : Settings)
    (uplink : List UplinkSlots) (sendings : List Sending) (repeated : ℕ) (counts : Counts) (old new : Files) →
    length frames ≤ frame_limit → IsWholeLog s.colour gateway frames told log → IsSameFile frames uplink →
    WritesFiles s sendings uplink repeated counts old new →
    (burst_total (entries_told (told_of_slot_1 told)) + burst_total (entries_told (told_of_slot_2 told)) ≡ repeated)
    × (log.counts.repeated ≡ repeated)
