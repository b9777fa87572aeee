-- What a log has to tell of the calls that were sent in a slot, by what they mean.
use Rattle.std.specs.Prelude.{◌≡◌, ℕ, ◌+◌, ◌-◌, ◌≤◌, not, true, false, List, [], ◌∷◌, length, count_by, Contains, Option, Some}
use Rattle.std.specs.Prelude.{None}
use Rattle.std.specs.Prelude.{IfSome}
use Rattle.std.specs.Option.{option_or}
use Rattle.dmr_gateway.specs.GatewayRules.{Gate}
use Rattle.dmr_link.specs.declared.full_lc.FullLc.{FullLc}
use Rattle.dmr_log.specs.RecordingLogs.{RecordedFrames}
use Rattle.dmr_log.specs.declared.log.FrameTold.{FrameTold}
use Rattle.dmr_log.specs.declared.log.LogState.{LogState}
use Rattle.dmr_log.specs.declared.slot_log.SlotTold.{SlotTold}
use Rattle.dmr_log.specs.declared.transmission.Call.{Call}
use Rattle.dmr_log.specs.declared.transmission.CallStage.{CallStage}
use Rattle.dmr_log.specs.declared.transmission.CallStage.TheVariants as stage
use Rattle.dmr_log.specs.declared.transmission.Subject.TheVariants as subject
use Rattle.dmr_log.specs.declared.transmission.Transmission.{Transmission as Entry}
use Rattle.dmr_log_laws.specs.WholeLogs.{IsWholeLog, entries_told, recorded_in_slot_1, recorded_in_slot_2, told_of_slot_1}
use Rattle.dmr_log_laws.specs.WholeLogs.{told_of_slot_2}
use Rattle.dmr_record.specs.Head.{frame_limit}
use Rattle.dmr_voice.specs.CallMeaning.{Cell, Ending, Silenced, Superframe, Terminated, Transmission, VoiceCall, HeadersAlone}
use Rattle.dmr_voice.specs.CallMeaning.{LateCall}
use Rattle.dmr_voice.specs.CallMeaning.{cells, sent_list}
use Rattle.dmr_voice.specs.DamagedRecordings.{IsDamagedRecordingOf}
use Rattle.dmr_voice.specs.WellFormed.{IsWellFormed, presence}
use Rattle.dmr_voice.specs.declared.said.Role.TheVariants as role
use Rattle.dmr_voice.specs.Said.{Said, Repeat}

-- 1. The call that is due.

-- the link control of the call that a slot is of, where it is known
abbrev pub link_control_meant : Said → Option FullLc
link_control_meant (Repeat content (role.Call lc)) = lc
link_control_meant said = None

-- The first link control that is known in what cells mean, whatever their vocoder bits.
abbrev pub first_meant : List Cell → Option FullLc
first_meant [] = None
first_meant (c ∷ cs) = option_or (link_control_meant (c.means [])) (first_meant cs)

-- how many places of these superframes there are, and how many of them are absent
abbrev pub place_count : List Superframe → ℕ
place_count superframes = length (presence superframes)

abbrev pub absent_count : List Superframe → ℕ
absent_count superframes = count_by not (presence superframes)

-- where a call ends: at a terminator of its link control, or where it was before
abbrev pub last_stage : FullLc → Ending → CallStage → CallStage
last_stage lc Silenced before = before
last_stage lc (Terminated information more) before = stage.Terminated (Some lc)

-- The call that an entry has to tell of a transmission, where it is a call: with its header's link control, or of a late call the
-- first that is known in what it means; with its places, those of them that are absent, and its terminator.
abbrev pub call_due : ℕ → Transmission → Option Call
call_due colour (VoiceCall lc header leads gap superframes ending) = Some (record {
  stage = last_stage lc ending stage.Places;
  link_control = Some lc;
  is_late = false;
  places = place_count superframes;
  filled = absent_count superframes;
})
call_due colour (HeadersAlone lc header leads ending) = Some (record {
  stage = last_stage lc ending stage.Headers;
  link_control = Some lc;
  is_late = false;
  places = 0;
  filled = 0;
})
call_due colour (LateCall lc tail superframes ending) = Some (record {
  stage = last_stage lc ending stage.Places;
  link_control = first_meant (cells colour (LateCall lc tail superframes ending));
  is_late = true;
  places = place_count superframes;
  filled = absent_count superframes;
})
call_due colour t = None

-- How many slots of a call stand in front of the first that means something: of a late call those in front of its first A.
abbrev pub slots_before : Transmission → ℕ
slots_before (LateCall lc tail superframes ending) = length tail
slots_before t = 0

-- 2. The entries.

-- One of these entries tells this call: it begins in this frame and has so many frames, each of which repeats a burst.
pub record TellsCall (told : List Entry) (first count : ℕ) (call : Call) : Type 0 where
  pub entry : Entry
  pub among : Contains told entry
  pub begins : entry.span.first ≡ first
  pub frames : entry.span.frames ≡ count
  pub bursts : entry.span.bursts ≡ count
  pub tells : entry.subject ≡ subject.Call call

-- Each call of these transmissions is told, where the first of them begins in this frame.
abbrev pub AreCallsTold : ℕ → ℕ → List (Transmission × ℕ) → List Entry → Type 0
AreCallsTold colour frame [] told = Unit {0}
AreCallsTold colour frame (t ∷ ts) told =
    let slots = length (cells colour t.0) in
    IfSome (call_due colour t.0) (λ call. TellsCall told (frame + slots_before t.0) (slots - slots_before t.0) call)
    × AreCallsTold colour (frame + slots + t.1) ts told

-- 3. The law.

-- Whatever well-formed transmissions are sent in a slot, and however they are damaged within the limits, each call is told.
abbrev pub CallsOfSlotAreTold : ℕ → List (Option (List ℕ)) → List SlotTold → Type 0
CallsOfSlotAreTold colour slots told =
    (lead : ℕ) (ts : List (Transmission × ℕ)) → IsWellFormed colour ts →
    IsDamagedRecordingOf colour (sent_list colour lead ts) slots → AreCallsTold colour lead ts (entries_told told)

-- So it is in both slots of a recording.
abbrev pub CallsAreTold : Type 0
CallsAreTold =
    (colour : ℕ) (gateway : Option Gate) (frames : RecordedFrames) (told : List FrameTold) (log : LogState) →
    length frames ≤ frame_limit → IsWholeLog colour gateway frames told log →
    CallsOfSlotAreTold colour (recorded_in_slot_1 frames) (told_of_slot_1 told)
    × CallsOfSlotAreTold colour (recorded_in_slot_2 frames) (told_of_slot_2 told)
