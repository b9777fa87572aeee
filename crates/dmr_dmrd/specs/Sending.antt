-- Packets as a hotspot sends them, whose delays on the way differ little.
use Rattle.std.specs.Prelude.{◌≡◌, ◌≢◌, ℕ, ◌+◌, ◌-◌, ◌*◌, ◌%◌, ◌<◌, ◌≤◌, List, [], ◌∷◌, Option, Some, None}
use Rattle.dmr_dmrd.specs.Holding.{asked_of, hold_with_taken}
use Rattle.dmr_dmrd.specs.Placing.{frame_asked}
use Rattle.dmr_dmrd.specs.declared.hold.Hold.{Hold}
use Rattle.dmr_dmrd.specs.declared.hold.ImportSettings.{ImportSettings}
use Rattle.dmr_dmrd.specs.declared.packet.BurstKind.{BurstKind}
use Rattle.dmr_dmrd.specs.declared.packet.BurstKind.TheVariants.{Data, Voice}
use Rattle.dmr_dmrd.specs.declared.packet.HotspotPacket.{HotspotPacket}
use Rattle.dmr_dmrd.specs.declared.packet.Slot.{Slot}
use Rattle.dmr_dmrd.specs.declared.packet.Slot.TheVariants.{One, Two}

-- A packet that was sent: itself, the frame of its burst, and when it was captured, in nanoseconds.
pub record SentPacket : Type 0 where
  pub p : HotspotPacket
  pub frame : ℕ
  pub time : ℕ

-- when a burst is on the air, in nanoseconds behind the begin of frame 0
abbrev pub time_in_frame : Slot → ℕ
time_in_frame One = 0
time_in_frame Two = 30000000

abbrev pub time_on_air : SentPacket → ℕ
time_on_air s = s.frame * 60000000 + time_in_frame s.p.slot

-- a voice number is one of six
abbrev pub IsKind : BurstKind → Type 0
IsKind (Voice number) = number < 6
IsKind Data = Unit {0}

-- A packet was captured at least so long behind the time of its burst, and less than 30 milliseconds later than that. Its numbers
-- are such.
pub record IsCaptured (least : ℕ) (s : SentPacket) : Type 0 where
  pub early : time_on_air s + least ≤ s.time
  pub late : s.time < time_on_air s + least + 30000000
  pub number : s.p.number < 256
  pub kind : IsKind s.p.kind

-- What the kinds of two packets of a stream have to say of frames between them, and of numbers: two voice numbers differ by as many
-- as frames, modulo 6. In front of data, no single frame alone was left out in which nothing was sent.
abbrev pub AgreeInKind : BurstKind → BurstKind → ℕ → ℕ → Type 0
AgreeInKind (Voice last) (Voice next) frames numbers = next ≡ (last + frames) % 6
AgreeInKind Data (Voice next) frames numbers = Unit {0}
AgreeInKind last Data frames numbers = frames ≢ numbers + 1

-- Two packets of a stream follow one another, so many frames apart: as many numbers apart at most, and one at least.
pub record GoesOnBy (last next : HotspotPacket) (frames : ℕ) : Type 0 where
  pub numbers : ℕ
  pub some : 1 ≤ numbers
  pub few : numbers ≤ frames
  pub number : next.number ≡ (last.number + numbers) % 256
  pub kinds : AgreeInKind last.kind next.kind frames numbers

-- Two packets follow one another in a slot, in later frames. Where they are of one stream, they go on in it.
pub record FollowsInSlot (last next : SentPacket) : Type 0 where
  pub frames : ℕ
  pub later : next.frame ≡ last.frame + frames
  pub apart : 1 ≤ frames
  pub stream : last.p.stream ≡ next.p.stream → GoesOnBy last.p next.p frames

-- the same, where there is one before
abbrev pub MayBeNext : Option SentPacket → SentPacket → Type 0
MayBeNext None next = Unit {0}
MayBeNext (Some last) next = FollowsInSlot last next

-- the last packet of a slot, behind this one
abbrev pub last_of_one : Slot → SentPacket → Option SentPacket → Option SentPacket
last_of_one One s last = Some s
last_of_one Two s last = last

abbrev pub last_of_two : Slot → SentPacket → Option SentPacket → Option SentPacket
last_of_two One s last = last
last_of_two Two s last = Some s

-- of the last packets of both slots, the one of this slot
abbrev pub last_in : Slot → Option SentPacket → Option SentPacket → Option SentPacket
last_in One one two = one
last_in Two one two = two

-- Packets stand in the order of sending, behind these last ones of both slots. Their delays differ by less than 30 milliseconds,
-- and none is of a frame before this one.
abbrev pub AreSentFrom : ℕ → ℕ → (one two : Option SentPacket) → List SentPacket → Type 0
AreSentFrom least first one two [] = Unit {0}
AreSentFrom least first one two (s ∷ rest) = IsCaptured least s × (first ≤ s.frame) × MayBeNext (last_in s.p.slot one two) s
    × AreSentFrom least first (last_of_one s.p.slot s one) (last_of_two s.p.slot s two) rest

-- in which frames packets are placed that are taken
abbrev pub frames_placed : ImportSettings → Hold → List SentPacket → List (Option ℕ)
frames_placed settings hold [] = []
frames_placed settings hold (s ∷ rest) =
    frame_asked (asked_of hold s.p s.time) ∷ frames_placed settings (hold_with_taken settings hold s.time (Some s.p)) rest

-- in which they were sent, counted from this one
abbrev pub frames_sent : ℕ → List SentPacket → List (Option ℕ)
frames_sent first [] = []
frames_sent first (s ∷ rest) = Some (s.frame - first) ∷ frames_sent first rest
