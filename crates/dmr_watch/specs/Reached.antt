-- Where the octets of a file have got to.
use Rattle.std.specs.Prelude.{◌==◌, ◌&&◌, ◌+◌, ◌-◌, ◌*◌, ◌%◌, ◌^◌, ℕ, Bool, true, false, not, if◌then◌else◌, min, List, fold}
use Rattle.std.specs.Prelude.{Option, Some, None, option_and_then}
use Rattle.dmr_record.specs.declared.fault.RecordFault.{RecordFault}
use Rattle.dmr_record.specs.declared.fault.RecordFault.TheVariants.{HalfFrame, Read, Write}
use Rattle.dmr_record.specs.declared.head.FileFormat.{FileFormat}
use Rattle.dmr_record.specs.declared.head.FileFormat.TheVariants.{Uplink, Downlink, Outgoing, Received}
use Rattle.dmr_recording.specs.Places.{place_by_number}
use Rattle.dmr_recording.specs.declared.fault_line.FaultLine.{FaultLine}
use Rattle.dmr_recording.specs.declared.place.Place.{Place}
use Rattle.dmr_watch.specs.declared.reached.Reached.{Reached}

-- no octet so far: the eight of the head are to come
abbrev pub nothing : Reached
nothing = record { octets = 0; records = 0; begin = 0; left = 8; is_in_fields = false; spelled = 0 }

-- How many octets stand behind the tag of a record, as far as the tag tells. A burst of the uplink has 33, one of the downlink 36
-- with its CACH, and silence none. The fields of a record have eight in the outgoing file, and eleven in the received one.
abbrev pub behind_tag : FileFormat → ℕ → ℕ
behind_tag Uplink tag = if tag == 1 then 33 else 0
behind_tag Downlink tag = if tag == 1 then 36 else 0
behind_tag Outgoing tag = 8
behind_tag Received tag = 11

-- the records of a list have fields, the last two octets of which say how many octets stand behind them
abbrev pub has_fields : FileFormat → Bool
has_fields Uplink = false
has_fields Downlink = false
has_fields Outgoing = true
has_fields Received = true

-- the number that the last two octets spell, with one octet more
abbrev pub spelled_with : ℕ → ℕ → ℕ
spelled_with spelled octet = (spelled * 256 + octet) % 65536

-- one octet more, as far as 64 bits go
abbrev pub octet_more : ℕ → ℕ
octet_more octets = min (octets + 1) (2 ^ 64 - 1)

-- behind the tag of a record
abbrev pub tag_passed : FileFormat → Reached → ℕ → Reached
tag_passed format r tag = record {
  octets = octet_more r.octets;
  records = min (r.records + 1) (2 ^ 32 - 1);
  begin = r.octets;
  left = behind_tag format tag;
  is_in_fields = has_fields format;
  spelled = 0;
}

-- behind an octet of what was begun: behind the last one of the fields of a record, as many are to come as these say
abbrev pub continued : Reached → ℕ → Reached
continued r octet = record {
  octets = octet_more r.octets;
  records = r.records;
  begin = r.begin;
  left = if are_fields_whole then spelled_with r.spelled octet else (r.left - 1);
  is_in_fields = r.is_in_fields && not are_fields_whole;
  spelled = spelled_with r.spelled octet;
}
  where
    -- the octet is the last one of the fields
    are_fields_whole : Bool
    are_fields_whole = r.is_in_fields && r.left == 1

-- behind one octet more, which is a tag where all that was begun is whole
abbrev pub reached_with : FileFormat → Reached → ℕ → Reached
reached_with format r octet = if r.left == 0 then tag_passed format r octet else continued r octet

-- behind more octets
abbrev pub reached_by : FileFormat → Reached → List ℕ → Reached
reached_by format r octets = fold (reached_with format) r octets

-- The end of a file, a read and a write are at fault behind the octets, where no record has begun there. Any other fault is shown
-- by an octet of the record that was begun last, or of the head.
abbrev pub is_told_behind : RecordFault → Bool
is_told_behind HalfFrame = true
is_told_behind Read = true
is_told_behind Write = true
is_told_behind fault = false

-- the number of the record that was begun last, from 0 on
abbrev pub last_record : Reached → Option ℕ
last_record r = if r.records == 0 then None else Some (r.records - 1)

-- the slot of a recording by its number, and none of a list
abbrev pub place_of : FileFormat → ℕ → Option Place
place_of Uplink number = Some (place_by_number number)
place_of Downlink number = Some (place_by_number number)
place_of Outgoing number = None
place_of Received number = None

-- A fault with its place: that of the record that comes next, or of the one that was begun last, or the head.
abbrev pub fault_line_of : FileFormat → Reached → RecordFault → FaultLine
fault_line_of format r fault =
    if is_told_behind fault && r.left == 0
    then record { fault = fault; octet = r.octets; place = place_of format r.records }
    else record { fault = fault; octet = r.begin; place = option_and_then (place_of format) (last_record r) }
