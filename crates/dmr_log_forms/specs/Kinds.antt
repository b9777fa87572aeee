-- What a transmission is called.
use Rattle.std.specs.Prelude.{ℕ, ◌==◌, ◌&&◌, List, Option, Some, None, codes, if◌then◌else◌}
use Rattle.dmr_data.specs.declared.header.Header.TheVariants as header
use Rattle.dmr_data.specs.declared.header.Response.{Response}
use Rattle.dmr_link.specs.declared.full_lc.FullLc.{FullLc}
use Rattle.dmr_log.specs.declared.repeated.ControlKind.{ControlKind}
use Rattle.dmr_log.specs.declared.repeated.ControlKind.TheVariants as control
use Rattle.dmr_log.specs.declared.repeated.PacketHead.{PacketHead}
use Rattle.dmr_log.specs.declared.repeated.PacketHead.TheVariants.{Known, Other}
use Rattle.dmr_log.specs.declared.transmission.Subject.{Subject}
use Rattle.dmr_log.specs.declared.transmission.Subject.TheVariants as subject
use Rattle.dmr_log_forms.specs.declared.kind.EntryKind.{EntryKind}
use Rattle.dmr_log_forms.specs.declared.kind.EntryKind.TheVariants as kind
use Rattle.dmr_record.specs.declared.received.ReceivedKind.{ReceivedKind}
use Rattle.dmr_record.specs.declared.received.ReceivedKind.TheVariants as received

-- 1. By what was sent.

-- A call by its link control: opcode 0 is of a call to a talk group, and 3 of one to a radio.
abbrev pub kind_of_call : Option FullLc → EntryKind
kind_of_call None = kind.UnknownCall
kind_of_call (Some lc) =
    if lc.flco == 0 then kind.GroupCall else if lc.flco == 3 then kind.UnitCall else kind.OtherCall lc.flco

-- An answer: class 0 of type 1 acknowledges, by class 1 a packet failed, and class 2 of type 0 asks for some blocks again.
abbrev pub kind_of_response : Response → EntryKind
kind_of_response r =
    if (r.class == 0) && (r.kind == 1) then kind.Ack
    else if r.class == 1 then kind.Failed
    else if (r.class == 2) && (r.kind == 0) then kind.SelectiveRepeat
    else kind.Response

-- A packet by its header. A confirmed one of which not all blocks follow is a partial try.
abbrev pub kind_of_packet : PacketHead → EntryKind
kind_of_packet (Known (header.Response r)) = kind_of_response r
kind_of_packet (Known (header.Unconfirmed h)) = kind.UnconfirmedData
kind_of_packet (Known (header.Confirmed h)) = if h.full then kind.ConfirmedData else kind.PartialTry
kind_of_packet (Known (header.ShortData h)) = kind.ShortData
kind_of_packet (Known (header.Status h)) = kind.Status
kind_of_packet (Other octets) = kind.OtherData

-- control blocks by what they have in common
abbrev pub kind_of_controls : ControlKind → EntryKind
kind_of_controls (control.Preamble source to_group destination) = kind.Preamble
kind_of_controls (control.Activation source base_station) = kind.Activation
kind_of_controls (control.Csbk opcode feature_set) = kind.Csbk
kind_of_controls (control.DataType type) = kind.DataType type

abbrev pub subject_kind : Subject → EntryKind
subject_kind (subject.Call call) = kind_of_call call.link_control
subject_kind (subject.Packet packet) = kind_of_packet packet.head
subject_kind (subject.Controls controls) = kind_of_controls controls

-- what a table calls it, where each control signalling block is a CSBK
abbrev pub in_table : EntryKind → EntryKind
in_table kind.Preamble = kind.Csbk
in_table kind.Activation = kind.Csbk
in_table k = k

-- 2. Names.

abbrev pub received_name : ReceivedKind → List ℕ
received_name received.Datagram = codes "received datagram"
received_name received.ShortData = codes "received short data"
received_name received.Status = codes "received status"

-- The name of each. Two have a number behind it or a name of their own, which are left open here.
abbrev pub kind_name : EntryKind → Option (List ℕ)
kind_name kind.GroupCall = Some (codes "group call")
kind_name kind.UnitCall = Some (codes "unit call")
kind_name kind.UnknownCall = Some (codes "call")
kind_name kind.UnconfirmedData = Some (codes "unconfirmed data")
kind_name kind.ConfirmedData = Some (codes "confirmed data")
kind_name kind.PartialTry = Some (codes "partial try")
kind_name kind.ShortData = Some (codes "short data")
kind_name kind.Status = Some (codes "status")
kind_name kind.Ack = Some (codes "ACK")
kind_name kind.Failed = Some (codes "failed")
kind_name kind.SelectiveRepeat = Some (codes "selective repeat")
kind_name kind.Response = Some (codes "response")
kind_name kind.OtherData = Some (codes "data")
kind_name kind.Preamble = Some (codes "preamble")
kind_name kind.Activation = Some (codes "BS activation")
kind_name kind.Csbk = Some (codes "CSBK")
kind_name (kind.Received k) = Some (received_name k)
kind_name (kind.OtherCall opcode) = None
kind_name (kind.DataType type) = None
