-- What the columns of a log hold.
use Rattle.std.specs.Prelude.{ℕ, ◌-◌, ◌*◌, ◌==◌, ◌||◌, false, List, Option, Some, None, if◌then◌else◌}
use Rattle.dmr_bits.specs.Bits.{bits_of_octets, number_of, part}
use Rattle.dmr_link.specs.declared.full_lc.FullLc.{FullLc}
use Rattle.dmr_listing.specs.declared.way.Way.{Way}
use Rattle.dmr_log.specs.Repeated.{counted_blocks, way_of}
use Rattle.dmr_log.specs.declared.repeated.ControlKind.{ControlKind}
use Rattle.dmr_log.specs.declared.repeated.ControlKind.TheVariants as control
use Rattle.dmr_log.specs.declared.transmission.Call.{Call}
use Rattle.dmr_log.specs.declared.transmission.CallStage.{CallStage}
use Rattle.dmr_log.specs.declared.transmission.CallStage.TheVariants.{Terminated}
use Rattle.dmr_log.specs.declared.transmission.Ended.{Ended}
use Rattle.dmr_log.specs.declared.transmission.EndedBy.{EndedBy}
use Rattle.dmr_log.specs.declared.transmission.EndedBy.TheVariants as by
use Rattle.dmr_log.specs.declared.transmission.Packet.{Packet}
use Rattle.dmr_log.specs.declared.transmission.Span.{Span}
use Rattle.dmr_log.specs.declared.transmission.Subject.{Subject}
use Rattle.dmr_log.specs.declared.transmission.Subject.TheVariants as subject
use Rattle.dmr_log_forms.specs.Kinds.{subject_kind}
use Rattle.dmr_log_forms.specs.declared.columns.CallEnd.{CallEnd}
use Rattle.dmr_log_forms.specs.declared.columns.CallEnd.TheVariants as end
use Rattle.dmr_log_forms.specs.declared.columns.EntryColumns.{EntryColumns}
use Rattle.dmr_log_forms.specs.declared.kind.EntryKind.{EntryKind}
use Rattle.dmr_log_forms.specs.declared.kind.EntryKind.TheVariants.{Received}
use Rattle.dmr_record.specs.declared.received.ReceivedKind.{ReceivedKind}
use Rattle.dmr_recording.specs.declared.place.Place.{Place}

-- 1. Link controls of calls. ETSI TS 102 361-2, clause 7.1.1.

-- the number that these bits of a body spell
abbrev pub lc_field : List ℕ → ℕ → ℕ → ℕ
lc_field body first behind = number_of (part (bits_of_octets body) first behind)

-- who calls whom: the source is behind 32 bits, the target behind 8
abbrev pub caller : FullLc → Way
caller lc = record { source = lc_field lc.body 32 56; to_group = lc.flco == 0; destination = lc_field lc.body 8 32 }

-- that of a link control of a call, to a talk group by opcode 0 or to a radio by opcode 3
abbrev pub way_of_call : FullLc → Option Way
way_of_call lc = if (lc.flco == 0) || (lc.flco == 3) then Some (caller lc) else None

-- and its service options, which are the first octet
abbrev pub options_of_call : FullLc → Option ℕ
options_of_call lc = if (lc.flco == 0) || (lc.flco == 3) then Some (lc_field lc.body 0 8) else None

-- the same of a link control that may not be known
abbrev pub way_of_known : Option FullLc → Option Way
way_of_known None = None
way_of_known (Some lc) = way_of_call lc

abbrev pub options_of_known : Option FullLc → Option ℕ
options_of_known None = None
options_of_known (Some lc) = options_of_call lc

-- 2. What a line has, whatever it is of.

-- A frame takes 60 milliseconds.
abbrev pub of_kind : Place → ℕ → EntryKind → Option Way → EntryColumns
of_kind place frames kind way = record {
  place = place;
  milliseconds = 60 * frames;
  kind = kind;
  way = way;
  options = None;
  is_late = None;
  bursts = None;
  places = None;
  filled = None;
  blocks = None;
  missing = None;
  checks = None;
  end = None;
}

-- a transmission has its bursts, and how many of their bits are wrong
abbrev pub of_span : ℕ → Span → EntryKind → Option Way → EntryColumns
of_span slot span kind way = record (of_kind (record { frame = span.first; slot = slot }) span.frames kind way) {
  bursts = Some span.bursts;
  checks = Some span.checks;
}

-- 3. Calls.

-- How a call ended: with a terminator where one came, and else by what ended it.
abbrev pub call_end : CallStage → EndedBy → CallEnd
call_end (Terminated lc) ended_by = end.Terminator
call_end stage by.Nothing = end.Lost
call_end stage by.Burst = end.Cut
call_end stage by.Recording = end.End

abbrev pub of_call : ℕ → Span → EntryKind → Call → EndedBy → EntryColumns
of_call slot span kind call ended_by = record (of_span slot span kind (way_of_known call.link_control)) {
  options = options_of_known call.link_control;
  is_late = Some call.is_late;
  places = Some call.places;
  filled = Some call.filled;
  end = Some (call_end call.stage ended_by);
}

-- 4. Packets and control blocks.

-- the blocks that came, and those that didn't of as many as the header counts
abbrev pub of_packet : ℕ → Span → EntryKind → Packet → EntryColumns
of_packet slot span kind packet = record (of_span slot span kind (Some (way_of packet.head))) {
  blocks = Some packet.there;
  missing = Some (counted_blocks packet.head - packet.there);
}

-- who sends preambles to whom, and which base station a radio asks to transmit
abbrev pub way_of_controls : ControlKind → Option Way
way_of_controls (control.Preamble source to_group destination) =
    Some (record { source = source; to_group = to_group; destination = destination })
way_of_controls (control.Activation source base_station) =
    Some (record { source = source; to_group = false; destination = base_station })
way_of_controls (control.Csbk opcode feature_set) = None
way_of_controls (control.DataType type) = None

-- 5. A transmission that has ended in a slot, and a record that was received at an address.

abbrev pub of_subject : ℕ → Span → EndedBy → Subject → EntryColumns
of_subject slot span ended_by (subject.Call call) = of_call slot span (subject_kind (subject.Call call)) call ended_by
of_subject slot span ended_by (subject.Packet packet) = of_packet slot span (subject_kind (subject.Packet packet)) packet
of_subject slot span ended_by (subject.Controls controls) =
    of_span slot span (subject_kind (subject.Controls controls)) (way_of_controls controls)

abbrev pub columns_of : ℕ → Ended → EntryColumns
columns_of slot ended = of_subject slot ended.transmission.span ended.by ended.transmission.subject

abbrev pub of_received : Place → ReceivedKind → ℕ → ℕ → EntryColumns
of_received place kind source address =
    of_kind place 1 (Received kind) (Some (record { source = source; to_group = false; destination = address }))
