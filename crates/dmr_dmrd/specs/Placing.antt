-- In which frame of a recording a packet is placed. Times are in nanoseconds.
use Rattle.std.specs.Prelude.{ℕ, ◌+◌, ◌-◌, ◌*◌, ◌/◌, ◌%◌, ◌≤◌, ◌==◌, ◌||◌, max, nat_le, if◌then◌else◌, Bool, Option, Some, None}
use Rattle.dmr_dmrd.specs.declared.packet.BurstKind.{BurstKind}
use Rattle.dmr_dmrd.specs.declared.packet.BurstKind.TheVariants.{Data, Voice}
use Rattle.dmr_dmrd.specs.declared.packet.HotspotPacket.{HotspotPacket}
use Rattle.dmr_dmrd.specs.declared.packet.Slot.{Slot}
use Rattle.dmr_dmrd.specs.declared.packet.Slot.TheVariants.{One, Two}
use Rattle.dmr_dmrd.specs.declared.placing.Asked.{Asked}
use Rattle.dmr_dmrd.specs.declared.placing.Asked.TheVariants.{Late, Begins, GoesOn}
use Rattle.dmr_dmrd.specs.declared.placing.LastPlaced.{LastPlaced}
use Rattle.dmr_dmrd.specs.declared.placing.SlotPlaces.{SlotPlaces}
use Rattle.dmr_dmrd.specs.declared.placing.Start.{Start}

-- 1. By time.

-- So many whole frames of 60 milliseconds a time is behind another one, where the first is counted so much later.
abbrev pub frames_since : ℕ → ℕ → ℕ → ℕ
frames_since reference later time = (time + later - reference) / 60000000

-- How much later the time of a packet is counted than that of the first one, by the slots of both. Half a frame makes frames
-- rounded to the nearest. Slot 2 of a frame begins 30 milliseconds behind slot 1.
abbrev pub later_than_start : Slot → Slot → ℕ
later_than_start One One = 30000000
later_than_start One Two = 0
later_than_start Two One = 60000000
later_than_start Two Two = 30000000

-- the frame of a packet by its time, counted from the first packet that is taken
abbrev pub frame_from_start : Start → Slot → ℕ → ℕ
frame_from_start start slot time = frames_since start.time (later_than_start start.slot slot) time

-- the frame of a packet by its time, counted from the frame and the time of the first one of its stream
abbrev pub frame_in_stream : LastPlaced → ℕ → ℕ
frame_in_stream last time = frames_since last.first_time (last.first_frame * 60000000 + 30000000) time

-- 2. By numbers.

-- how many numbers a packet is behind the last one, modulo 256
abbrev pub numbers_on : ℕ → ℕ → ℕ
numbers_on last number = (number + 256 - last) % 256

-- How many frames a voice burst is at least behind another one, where it is at least so many, and as many modulo 6 as their voice
-- numbers say. 600 is a multiple of 6 that no two of these numbers reach together.
abbrev pub voice_frames_on : ℕ → ℕ → ℕ → ℕ
voice_frames_on last voice on = on + (voice + 600 - (last + on)) % 6

-- the frame nearest to one that is asked for, among this one and those that are a multiple of 6 behind it; the earlier of two
abbrev pub nearest_by_six : ℕ → ℕ → ℕ
nearest_by_six least asked = least + (asked - least + 2) / 6 * 6

-- 3. The rule.

-- The frame of a packet that is so many numbers behind the last one, by what both are and the frame that its time asks for.
--
-- Voice behind voice is the nearest frame that agrees with both numbers. Voice behind data is where its time asks for, and at least
-- as many frames on as numbers. Data is as many frames on as numbers, but where its time asks for more than one frame beyond that.
abbrev pub frame_on : BurstKind → BurstKind → ℕ → ℕ → ℕ → ℕ
frame_on (Voice before) (Voice voice) last on asked = nearest_by_six (last + voice_frames_on before voice on) asked
frame_on Data (Voice voice) last on asked = max asked (last + on)
frame_on kind Data last on asked = if nat_le asked (last + on + 1) then last + on else asked

-- the frame of the first packet of a stream: by its time, and none before this one
abbrev pub frame_of_first : Start → Slot → ℕ → ℕ → ℕ
frame_of_first start slot least time = max (frame_from_start start slot time) least

-- whether a packet came 64 frames or more behind the last one
abbrev pub is_much_later : LastPlaced → ℕ → Bool
is_much_later last time = nat_le 3840000000 (time - last.time)

-- Behind a packet of the same stream, by how many numbers a packet is behind that. With none, or 128 and more, it is late, and
-- dropped; but much later it begins a stream.
abbrev pub asked_in_stream : LastPlaced → Start → HotspotPacket → ℕ → ℕ → Asked
asked_in_stream last start p time on = if (on == 0) || nat_le 128 on
    then if is_much_later last time then Begins (frame_of_first start p.slot (last.frame + 1) time) else Late
    else GoesOn (frame_on last.kind p.kind last.frame on (frame_in_stream last time)) (on - 1)

-- What a packet asks for that came at this time, behind the last one that was placed in its slot, if one was. The first one of a
-- stream is placed by its time. Others go on in their stream, and leave numbers out in front.
abbrev pub asked_behind : Option LastPlaced → Start → HotspotPacket → ℕ → Asked
asked_behind None start p time = Begins (frame_of_first start p.slot 0 time)
asked_behind (Some last) start p time = if last.stream == p.stream
    then asked_in_stream last start p time (numbers_on last.number p.number)
    else Begins (frame_of_first start p.slot (last.frame + 1) time)

-- 4. What is remembered of a slot.

-- the packet as the last one, in this frame, as the first of its stream
abbrev pub first_placed : HotspotPacket → ℕ → ℕ → LastPlaced
first_placed p time frame = record {
  stream = p.stream;
  number = p.number;
  kind = p.kind;
  frame = frame;
  time = time;
  first_frame = frame;
  first_time = time;
}

-- the packet as the last one, behind another one of its stream
abbrev pub next_placed : Option LastPlaced → HotspotPacket → ℕ → ℕ → LastPlaced
next_placed None p time frame = first_placed p time frame
next_placed (Some last) p time frame =
    record (first_placed p time frame) { first_frame = last.first_frame; first_time = last.first_time }

-- what is remembered of a slot behind a packet that asks for this
abbrev pub places_behind : SlotPlaces → HotspotPacket → ℕ → Asked → SlotPlaces
places_behind places p time Late = record places { late = places.late + 1 }
places_behind places p time (Begins frame) =
    record places { last = Some (first_placed p time frame); bursts = places.bursts + 1 }
places_behind places p time (GoesOn frame lost) = record places {
  last = Some (next_placed places.last p time frame);
  bursts = places.bursts + 1;
  lost = places.lost + lost;
}

-- how many frames a slot has: one more than the frame of its last packet
abbrev pub frames_up_to : Option LastPlaced → ℕ
frames_up_to None = 0
frames_up_to (Some last) = last.frame + 1

-- in front of a recording
abbrev pub no_places : SlotPlaces
no_places = record { last = None; bursts = 0; lost = 0; late = 0 }

-- the frame that is asked for, where one is
abbrev pub frame_asked : Asked → Option ℕ
frame_asked Late = None
frame_asked (Begins frame) = Some frame
frame_asked (GoesOn frame lost) = Some frame

-- What is asked for is a frame from this one on, and so many more as numbers are left out.
abbrev pub IsFromOn : ℕ → Asked → Type 0
IsFromOn least Late = Unit {0}
IsFromOn least (Begins frame) = least ≤ frame
IsFromOn least (GoesOn frame lost) = least + lost ≤ frame
