-- Where a slot stands, and which silences stand in front of a transmission.
use Rattle.std.specs.Prelude.{◌≡◌, ◌≤◌, ◌⊎◌, ℕ, ◌+◌, ◌-◌, nat_lt, ◌==◌, Bool, true, false, List, [], ◌∷◌, Option, Some, None}
use Rattle.std.specs.Prelude.{Result, Ok, Err}
use Rattle.std.specs.Prelude.{if◌then◌else◌}
use Rattle.dmr_making.specs.Senders.{colour_of}
use Rattle.dmr_planning.specs.declared.slot_state.Before.{Before}
use Rattle.dmr_planning.specs.declared.slot_state.Before.TheVariants as before
use Rattle.dmr_planning.specs.declared.slot_state.SlotState.{SlotState}
use Rattle.dmr_script.specs.declared.fault.Refusal.{Refusal}
use Rattle.dmr_script.specs.declared.fault.Refusal.TheVariants as refusal
use Rattle.dmr_script.specs.declared.shape.CallShape.{CallShape}
use Rattle.dmr_script.specs.declared.shape.CallStart.{CallStart}
use Rattle.dmr_script.specs.declared.shape.CallStart.TheVariants as start
use Rattle.dmr_script.specs.declared.statement.Sender.{Sender}
use Rattle.dmr_script.specs.declared.statement.Sender.TheVariants as sender
use Rattle.dmr_script.specs.declared.statement.Transmission.{Transmission}
use Rattle.dmr_script.specs.declared.statement.Transmission.TheVariants as said
use Rattle.dmr_script.specs.declared.statement.Transmit.{Transmit}

-- 1. Where a slot stands.

-- how many silences are named, none where none are
abbrev pub named_silences : Option ℕ → ℕ
named_silences None = 0
named_silences (Some count) = count

-- the frame at which a slot stands: behind its last transmission, and the silences that are named behind that
abbrev pub stands : SlotState → ℕ
stands s = s.end + named_silences s.silences

-- a slot with nothing in it
abbrev pub empty_slot : SlotState
empty_slot = record { end = 0; silences = None; before = before.Nothing; line = 0; packet = None }

-- So many silences more, up to 1,048,576 frames.
abbrev pub silenced : SlotState → ℕ → Result SlotState Refusal
silenced s count =
    if nat_lt (1048576 - stands s) count
    then Err refusal.TooLong
    else Ok (record s { silences = Some (named_silences s.silences + count) })

-- Silences up to a frame, which hasn't passed.
abbrev pub silenced_to : SlotState → ℕ → Result SlotState Refusal
silenced_to s frame =
    if nat_lt frame (stands s)
    then Err (refusal.FramePassed frame (stands s))
    else silenced s (frame - stands s)

-- 2. The fewest silences in front of a transmission.

-- what headers with these places behind them, and no terminator, are to what stands behind them
abbrev pub before_behind_places : List Bool → Before
before_behind_places [] = before.SilencedHeaders
before_behind_places (place ∷ places) = before.SilencedCall

-- what an own call that begins so and has no terminator is to what stands behind it
abbrev pub before_behind_start : CallStart → List Bool → Before
before_behind_start (start.Headers h) places = before_behind_places places
before_behind_start (start.Late tail) places = before.SilencedCall

-- what an own call is to what stands behind it
abbrev pub before_behind_call : CallShape → Before
before_behind_call s = if nat_lt 0 s.terminators then before.Other else before_behind_start s.start s.places.items

-- what a call is to what stands behind it: where it has another colour code, it may end in any way
abbrev pub before_behind_sent : Sender → CallShape → Before
before_behind_sent sender.Own s = before_behind_call s
before_behind_sent (sender.Foreign colour) s = before.Other

-- What a transmission is to what stands behind it. Data bursts by themselves are a row.
abbrev pub before_behind_said : ℕ → Sender → Transmission → Before
before_behind_said own sender (said.Control csbk) = before.Row (colour_of own sender)
before_behind_said own sender (said.Burst lone) = before.Row (colour_of own sender)
before_behind_said own sender (said.Call call) = before_behind_sent sender call.shape
before_behind_said own sender _ = before.Other

abbrev pub before_behind : ℕ → Transmit → Before
before_behind own t = before_behind_said own t.sender t.transmission

-- a call begins with a data burst where it begins with its headers
abbrev pub starts_with_data : CallStart → Bool
starts_with_data (start.Headers h) = true
starts_with_data (start.Late tail) = false

-- a transmission of the own colour code begins with a data burst, but for a late call
abbrev pub says_data : Transmission → Bool
says_data (said.Call call) = starts_with_data call.shape.start
says_data _ = true

abbrev pub sends_data : Sender → Transmission → Bool
sends_data sender.Own t = says_data t
sends_data (sender.Foreign colour) t = false

-- A transmission begins with a data burst of the own colour code.
abbrev pub begins_with_data : Transmit → Bool
begins_with_data t = sends_data t.sender t.transmission

-- a transmission goes on with a row of this colour code: it is a data burst by itself with that colour code
abbrev pub is_row : ℕ → Before → Bool
is_row colour (before.Row next) = colour == next
is_row colour _ = false

-- how many silences stand at least in front of a transmission behind a row, by the silences that are named between them
abbrev pub needed_in_row : ℕ → Option ℕ → Before → ℕ
needed_in_row colour None next = if is_row colour next then 0 else 1
needed_in_row colour (Some named) next = 1

-- How many silences stand at least between what is in front and a transmission.
abbrev pub needed_behind : Before → Option ℕ → (begins_with_data : Bool) → (itself : Before) → ℕ
needed_behind before.Nothing silences begins itself = 0
needed_behind before.SilencedCall silences begins itself = 6
needed_behind before.SilencedHeaders silences begins itself = if begins then 1 else 6
needed_behind (before.Row colour) silences begins itself = needed_in_row colour silences itself
needed_behind before.Other silences begins itself = 1

abbrev pub needed : SlotState → ℕ → Transmit → ℕ
needed s own t = needed_behind s.before s.silences (begins_with_data t) (before_behind own t)

-- A slot with as many silences as are named, which may not be fewer than are needed, or with those where none are.
abbrev pub paused_with : SlotState → Option ℕ → ℕ → Result SlotState Refusal
paused_with s None need = silenced s need
paused_with s (Some found) need = if nat_lt found need then Err (refusal.FewSilences found need s.line) else Ok s

abbrev pub paused : SlotState → ℕ → Result SlotState Refusal
paused s need = paused_with s s.silences need

-- 3. What stands between two transmissions.

-- So many silences are enough between what is in front and a transmission: six behind a call that ends in silence, and behind
-- headers alone that do, where no data burst follows; one behind anything else; and none within a row.
abbrev pub IsEnough : Before → (begins_with_data : Bool) → (itself : Before) → ℕ → Type 0
IsEnough before.Nothing begins itself silences = Unit {0}
IsEnough before.SilencedCall begins itself silences = 6 ≤ silences
IsEnough before.SilencedHeaders true itself silences = 1 ≤ silences
IsEnough before.SilencedHeaders false itself silences = 6 ≤ silences
IsEnough (before.Row colour) begins itself silences = (1 ≤ silences) ⊎ ((silences ≡ 0) × (is_row colour itself ≡ true))
IsEnough before.Other begins itself silences = 1 ≤ silences

-- So many silences are enough between two transmissions.
abbrev pub IsEnoughBetween : ℕ → Transmit → Transmit → ℕ → Type 0
IsEnoughBetween own t next silences = IsEnough (before_behind own t) (begins_with_data next) (before_behind own next) silences
