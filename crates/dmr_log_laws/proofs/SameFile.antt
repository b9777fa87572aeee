-- A log and a run that read the same file take the same frames.
use Rattle.std.proofs.Common.{◌≡◌, ℕ, List, [], ◌∷◌, ◌++◌, map, replicate, Some, None, refl, sym, ap, ◌∙◌}
use Rattle.std.proofs.Common.{append_assoc, append-nil}
use Rattle.std.proofs.lemmas.List.Concat.{flat_map-cons}
use Rattle.std.specs.List.{AllByRecursion, flat_map}
use Rattle.dmr_log.specs.LogRules.{recorded_burst}
use Rattle.dmr_log.specs.RecordingLogs.{RecordedFrames, slots_of_frames}
use Rattle.dmr_record.proofs.Spellings.{one_file}
use Rattle.dmr_record.proofs.UplinkReading.{frame_code}
use Rattle.dmr_record.specs.Head.{head_octets, uplink_magic}
use Rattle.dmr_record.specs.Uplink.{IsFrame, IsSilenceOrBurst, UplinkSlot, UplinkSlots, frame_octets, frames_octets, slot_octets}
use Rattle.dmr_recording.specs.Recordings.{IsSlotOf, RecordedSlot, spelling}
use Rattle.dmr_recording.specs.declared.recording.Recording.TheVariants.{Uplink}
use Rattle.dmr_station.specs.DownlinkRules.{handed_frames, silent_frame, slots_in}
use Rattle.dmr_log_laws.specs.WholeLogs.{IsSameFile, recorded_in_slot_1, recorded_in_slot_2}

-- a frame as a run takes it
abbrev pub uplink_frame : RecordedSlot × RecordedSlot → UplinkSlots
uplink_frame frame = recorded_burst frame.0 ∷ recorded_burst frame.1 ∷ []

abbrev pub uplink_frames : RecordedFrames → List UplinkSlots
uplink_frames frames = map uplink_frame frames

-- 1. Octets.

spelled_slot : (slot : RecordedSlot) → spelling Uplink slot ≡ slot_octets (recorded_burst slot)
spelled_slot None = refl
spelled_slot (Some b) = refl

spelled_frames : (frames : RecordedFrames)
    → flat_map (spelling Uplink) (slots_of_frames frames) ≡ frames_octets (uplink_frames frames)
spelled_frames [] = refl
spelled_frames ((a, b) ∷ frames) =
    let one = flat_map-cons (spelling Uplink) a (b ∷ slots_of_frames frames) in
    let two = flat_map-cons (spelling Uplink) b (slots_of_frames frames) in
    let frame = flat_map-cons frame_octets (uplink_frame (a, b)) (uplink_frames frames) in
    let first = flat_map-cons slot_octets (recorded_burst a) (recorded_burst b ∷ []) in
    let second = flat_map-cons slot_octets (recorded_burst b) [] in
    let rest = spelled_frames frames in
    let spelled_a = spelled_slot a in
    let spelled_b = spelled_slot b in
    one ∙ ap (λ (l : List ℕ). spelling Uplink a ++ l) (two ∙ ap (λ (l : List ℕ). spelling Uplink b ++ l) rest)
    ∙ ap (λ (l : List ℕ). l ++ (spelling Uplink b ++ frames_octets (uplink_frames frames))) spelled_a
    ∙ ap (λ (l : List ℕ). slot_octets (recorded_burst a) ++ (l ++ frames_octets (uplink_frames frames))) spelled_b
    ∙ sym (frame ∙ ap (λ (l : List ℕ). l ++ frames_octets (uplink_frames frames)) (first
    ∙ ap (λ (l : List ℕ). slot_octets (recorded_burst a) ++ l) (second ∙ append-nil (slot_octets (recorded_burst b))))
    ∙ append_assoc (slot_octets (recorded_burst a)) (slot_octets (recorded_burst b)) (frames_octets (uplink_frames frames)))

slot_of_uplink : (slot : RecordedSlot) → IsSlotOf Uplink slot → IsSilenceOrBurst (recorded_burst slot)
slot_of_uplink None is = tt
slot_of_uplink (Some b) is = is.1

frames_of_uplink : (frames : RecordedFrames) → AllByRecursion (IsSlotOf Uplink) (slots_of_frames frames)
    → AllByRecursion IsFrame (uplink_frames frames)
frames_of_uplink [] is = tt
frames_of_uplink ((a, b) ∷ frames) is =
    ((refl, (slot_of_uplink a is.0, (slot_of_uplink b is.1.0, tt))), frames_of_uplink frames is.1.1)

-- the frames of one file are the same
pub same_frames : (frames : RecordedFrames) (uplink : List UplinkSlots) → IsSameFile frames uplink → uplink_frames frames ≡ uplink
same_frames frames uplink same =
    one_file IsFrame frame_octets frame_code (head_octets uplink_magic) (uplink_frames frames) uplink
    (frames_of_uplink frames same.each_slot) same.each_frame
    (ap (λ (l : List ℕ). head_octets uplink_magic ++ l) (sym (spelled_frames frames)) ∙ same.octets)

-- 2. Slots.

slots_1 : (frames : RecordedFrames)
    → slots_in 0 (uplink_frames frames ++ replicate 5 silent_frame) ≡ recorded_in_slot_1 frames ++ replicate 5 None
slots_1 [] = refl
slots_1 ((a, b) ∷ frames) = ap (λ (l : List UplinkSlot). recorded_burst a ∷ l) (slots_1 frames)

slots_2 : (frames : RecordedFrames)
    → slots_in 1 (uplink_frames frames ++ replicate 5 silent_frame) ≡ recorded_in_slot_2 frames ++ replicate 5 None
slots_2 [] = refl
slots_2 ((a, b) ∷ frames) = ap (λ (l : List UplinkSlot). recorded_burst b ∷ l) (slots_2 frames)

-- what is handed to the line of a slot in a run is what a log takes, behind one silent slot
pub handed_1 : (frames : RecordedFrames) (uplink : List UplinkSlots) → IsSameFile frames uplink
    → slots_in 0 (handed_frames uplink) ≡ None ∷ (recorded_in_slot_1 frames ++ replicate 5 None)
handed_1 frames uplink same =
    ap (λ (l : List UplinkSlots). slots_in 0 (handed_frames l)) (sym (same_frames frames uplink same))
    ∙ ap (λ (l : List UplinkSlot). None ∷ l) (slots_1 frames)

-- What is handed in slot 2 is what slot 2 recorded, behind one silence and before five.
pub handed_2 : (frames : RecordedFrames) (uplink : List UplinkSlots) → IsSameFile frames uplink
    → slots_in 1 (handed_frames uplink) ≡ None ∷ (recorded_in_slot_2 frames ++ replicate 5 None)
handed_2 frames uplink same =
    ap (λ (l : List UplinkSlots). slots_in 1 (handed_frames l)) (sym (same_frames frames uplink same))
    ∙ ap (λ (l : List UplinkSlot). None ∷ l) (slots_2 frames)
