-- Which frames of a slot are one transmission, and what is told of it. These are this project's own rules.
use Rattle.std.specs.Prelude.{◌≡◌, ℕ, ◌+◌, ◌-◌, ◌^◌, ◌↔◌, ◌||◌, not, nat_lt, min, Bool, true, false, Option, Some, None}
use Rattle.std.specs.Prelude.{IsTrue, if◌then◌else◌}
use Rattle.std.specs.Option.{option_or}
use Rattle.dmr_log.specs.Checks.{both}
use Rattle.dmr_log.specs.Repeated.{announcing, counted_blocks}
use Rattle.dmr_log.specs.declared.checks.Checks.{Checks}
use Rattle.dmr_log.specs.declared.repeated.ControlKind.{ControlKind}
use Rattle.dmr_log.specs.declared.repeated.ControlKind.TheVariants.{DataType}
use Rattle.dmr_log.specs.declared.repeated.PacketHead.{PacketHead}
use Rattle.dmr_log.specs.declared.repeated.Repeated.{Repeated}
use Rattle.dmr_log.specs.declared.repeated.Repeated.TheVariants as repeated
use Rattle.dmr_log.specs.declared.repeated.Repeated.TheVariants.{CallHeader, Place, Terminator, DataHeader, Block, Control}
use Rattle.dmr_log.specs.declared.transmission.Call.{Call}
use Rattle.dmr_log.specs.declared.transmission.CallStage.{CallStage}
use Rattle.dmr_log.specs.declared.transmission.CallStage.TheVariants.{Headers, Places, Terminated}
use Rattle.dmr_log.specs.declared.transmission.Ended.{Ended}
use Rattle.dmr_log.specs.declared.transmission.EndedBy.{EndedBy}
use Rattle.dmr_log.specs.declared.transmission.EndedBy.TheVariants as by
use Rattle.dmr_log.specs.declared.transmission.Packet.{Packet}
use Rattle.dmr_log.specs.declared.transmission.Span.{Span}
use Rattle.dmr_log.specs.declared.transmission.Subject.{Subject}
use Rattle.dmr_log.specs.declared.transmission.Subject.TheVariants as subject
use Rattle.dmr_log.specs.declared.transmission.Transmission.{Transmission}

-- 1. What begins.

-- one more where something holds, as far as 32 bits go
abbrev pub plus_one : Bool → ℕ → ℕ
plus_one holds count = min (count + (if holds then 1 else 0)) (2 ^ 32 - 1)

-- a burst is repeated
abbrev pub is_burst : Repeated → Bool
is_burst repeated.Nothing = false
is_burst r = true

-- a packet of which the header came: as many frames follow as it counts blocks
abbrev pub packet_of : PacketHead → Subject
packet_of head = subject.Packet (record { head = head; left = counted_blocks head; there = 0 })

-- What a transmission is that begins with this. One that begins with a place is a late call, and one that begins with a terminator
-- is a call without voice. A block by itself is a control block of its data type.
abbrev pub begun_subject : Repeated → Option Subject
begun_subject repeated.Nothing = None
begun_subject (CallHeader lc) =
    Some (subject.Call (record { stage = Headers; link_control = lc; is_late = false; places = 0; filled = 0 }))
begun_subject (Place lc is_filled) =
    Some (subject.Call (record { stage = Places; link_control = lc; is_late = true; places = 1; filled = plus_one is_filled 0 }))
begun_subject (Terminator lc) =
    Some (subject.Call (record { stage = Terminated lc; link_control = lc; is_late = false; places = 0; filled = 0 }))
begun_subject (DataHeader head) = Some (packet_of head)
begun_subject (Block type) = Some (subject.Controls (DataType type))
begun_subject (Control kind) = Some (subject.Controls kind)

-- 2. What is of a transmission.

-- no place of the call came yet
abbrev pub is_before_voice : CallStage → Bool
is_before_voice Headers = true
is_before_voice stage = false

-- a terminator of the call came
abbrev pub is_terminated : CallStage → Bool
is_terminated (Terminated lc) = true
is_terminated stage = false

-- The next frame has what the transmission has in common: a terminator the link control of those before it, a control block what
-- those before it have in common, and a data header the source and the destination that the preambles before it announce.
abbrev pub HasInCommon : Subject → Repeated → Type 0
HasInCommon (subject.Call call) (Terminator lc) = call.stage ≡ Terminated lc
HasInCommon (subject.Controls kind) (Control next) = kind ≡ next
HasInCommon (subject.Controls kind) (Block type) = kind ≡ DataType type
HasInCommon (subject.Controls kind) (DataHeader head) = kind ≡ announcing head
HasInCommon s r = ⊥

-- The next frame is of the transmission. A call goes on from headers to places and from these to terminators, and never back, and
-- its terminators have one link control. A packet goes on for as many frames as it counts blocks, as far as these repeat a block or
-- nothing. Control blocks go on as long as they have the same in common. Preambles go on with the data header that they announce.
abbrev pub belongs : (same : Bool) → Subject → Repeated → Bool
belongs same (subject.Call call) (CallHeader lc) = is_before_voice call.stage
belongs same (subject.Call call) (Place lc is_filled) = not (is_terminated call.stage)
belongs same (subject.Call call) (Terminator lc) = not (is_terminated call.stage) || same
belongs same (subject.Packet packet) repeated.Nothing = nat_lt 0 packet.left
belongs same (subject.Packet packet) (Block type) = nat_lt 0 packet.left
belongs same (subject.Controls kind) (Control next) = same
belongs same (subject.Controls kind) (Block type) = same
belongs same (subject.Controls kind) (DataHeader head) = same
belongs same s r = false

-- 3. A transmission with a frame more.

-- A call: its link control is the first that is known of it.
abbrev pub call_with : Call → Repeated → Call
call_with call (CallHeader lc) = record call { link_control = option_or call.link_control lc }
call_with call (Place lc is_filled) = record call {
  stage = Places;
  link_control = option_or call.link_control lc;
  places = plus_one true call.places;
  filled = plus_one is_filled call.filled;
}
call_with call (Terminator lc) = record call { stage = Terminated lc; link_control = option_or call.link_control lc }
call_with call r = call

-- one more where something holds, as far as 8 bits go
abbrev pub more_blocks : Bool → ℕ → ℕ
more_blocks holds count = min (count + (if holds then 1 else 0)) 255

-- a packet: one frame of blocks less may come, and a block more came, or none
abbrev pub packet_with : Packet → Repeated → Packet
packet_with packet r = record packet { left = packet.left - 1; there = more_blocks (is_burst r) packet.there }

-- control blocks: a data header makes a packet of the preambles that announce it
abbrev pub controls_with : ControlKind → Repeated → Subject
controls_with kind (DataHeader head) = packet_of head
controls_with kind r = subject.Controls kind

abbrev pub with : Subject → Repeated → Subject
with (subject.Call call) r = subject.Call (call_with call r)
with (subject.Packet packet) r = subject.Packet (packet_with packet r)
with (subject.Controls kind) r = controls_with kind r

-- 4. Its frames.

-- one frame, with these bits of its burst
abbrev pub one_frame : ℕ → Checks → Span
one_frame first checks = record { first = first; frames = 1; bursts = 1; checks = checks }

-- these frames and the next one
abbrev pub span_with : Span → Repeated → Checks → Span
span_with span r checks = record {
  first = span.first;
  frames = plus_one true span.frames;
  bursts = plus_one (is_burst r) span.bursts;
  checks = both span.checks checks;
}

-- 5. From frame to frame.

-- the transmission that is begun_subject with this as its subject, where there is one
abbrev pub in_frame : ℕ → Checks → Option Subject → Option Transmission
in_frame frame checks None = None
in_frame frame checks (Some s) = Some (record { span = one_frame frame checks; subject = s })

-- the transmission that begins in a frame
abbrev pub begun_in : ℕ → Repeated → Checks → Option Transmission
begun_in frame r checks = in_frame frame checks (begun_subject r)

-- a transmission with a frame more, which is of it
abbrev pub transmission_with : Transmission → Repeated → Checks → Transmission
transmission_with t r checks = record { span = span_with t.span r checks; subject = with t.subject r }

-- what ends a transmission behind which this comes
abbrev pub ended_by : Repeated → EndedBy
ended_by r = if is_burst r then by.Burst else by.Nothing

-- A frame behind an open transmission, where this says whether it has what that has in common: it is of the transmission, or that
-- has ended, and the frame begins another or none.
abbrev pub frame_step : (same : Bool) → Transmission → ℕ → Repeated → Checks → Option Ended × Option Transmission
frame_step same t frame r checks =
    if belongs same t.subject r then (None, Some (transmission_with t r checks))
    else (Some (record { transmission = t; by = ended_by r }), begun_in frame r checks)

-- A frame that repeats this: what ended in front of it, and what is open behind it.
abbrev pub IsStep : Option Transmission → ℕ → Repeated → Checks → Option Ended → Option Transmission → Type 0
IsStep None frame r checks ended after = (ended ≡ None) × (after ≡ begun_in frame r checks)
IsStep (Some t) frame r checks ended after =
    (same : Bool) × (IsTrue same ↔ HasInCommon t.subject r) × ((ended, after) ≡ frame_step same t frame r checks)
