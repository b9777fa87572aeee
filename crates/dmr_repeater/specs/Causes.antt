-- Why a run ended early, and which device that blames.
use Rattle.std.specs.Prelude.{◌≡◌, Bool, true, false, Result, Ok, Err}
use Rattle.dmr_record.specs.declared.fault.RecordFault.{RecordFault}
use Rattle.dmr_record.specs.declared.fault.RecordFault.TheVariants.{FrameOrder, HalfFrame, Write}
use Rattle.dmr_record.specs.Faults.{is_device_fault}
use Rattle.dmr_repeater.specs.declared.fault.RunFault.{RunFault}
use Rattle.dmr_repeater.specs.declared.fault.RunFault.TheVariants.{File, Memory}
use Rattle.dmr_repeater.specs.declared.fault.Stream.{Stream}
use Rattle.dmr_repeater.specs.declared.fault.Stream.TheVariants.{Uplink, Outgoing, Downlink, Received}

-- 1. By cause.

-- What holds where a run ended early, by its cause. The first holds where room was refused, the second of a fault of the uplink,
-- and the third of one of the outgoing file. The last holds of the output whose write failed, since an output has no other fault.
abbrev pub ByCause : Type 0 → (RecordFault → Type 0) → (RecordFault → Type 0) → (Stream → Type 0) → RunFault → Type 0
ByCause Refused OfUplink OfOutgoing OfOutput Memory = Refused
ByCause Refused OfUplink OfOutgoing OfOutput (File Uplink fault) = OfUplink fault
ByCause Refused OfUplink OfOutgoing OfOutput (File Outgoing fault) = OfOutgoing fault
ByCause Refused OfUplink OfOutgoing OfOutput (File Downlink fault) = (fault ≡ Write) × OfOutput Downlink
ByCause Refused OfUplink OfOutgoing OfOutput (File Received fault) = (fault ≡ Write) × OfOutput Received

-- one thing where room was refused, and nothing of any other cause
abbrev pub IfRefused : RunFault → Type 0 → Type 0
IfRefused Memory Refused = Refused
IfRefused e Refused = Unit {0}

-- one thing of a fault of the outgoing file, and nothing of any other
abbrev pub IfOutgoing : RunFault → (RecordFault → Type 0) → Type 0
IfOutgoing (File Outgoing fault) Found = Found fault
IfOutgoing e Found = Unit {0}

-- one thing of a fault of the uplink, and nothing of any other
abbrev pub IfUplink : RunFault → (RecordFault → Type 0) → Type 0
IfUplink (File Uplink fault) Found = Found fault
IfUplink e Found = Unit {0}

-- one thing of a fault of an output, and nothing of any other
abbrev pub IfOutput : RunFault → (Stream → Type 0) → Type 0
IfOutput (File Downlink fault) Fails = Fails Downlink
IfOutput (File Received fault) Fails = Fails Received
IfOutput e Fails = Unit {0}

-- 2. Which device it blames.

-- the device of the uplink failed
abbrev pub is_uplink_failure : RunFault → Bool
is_uplink_failure (File Uplink e) = is_device_fault e
is_uplink_failure e = false

-- that of the outgoing file
abbrev pub is_outgoing_failure : RunFault → Bool
is_outgoing_failure (File Outgoing e) = is_device_fault e
is_outgoing_failure e = false

-- that of the downlink, which is only written
abbrev pub is_downlink_failure : RunFault → Bool
is_downlink_failure (File Downlink Write) = true
is_downlink_failure e = false

-- and that of the received file, which is only written too
abbrev pub is_received_failure : RunFault → Bool
is_received_failure (File Received Write) = true
is_received_failure e = false

-- Whether each of the four devices has failed, by how a run or a part of it ended: none where it ended well, or else the one that
-- is blamed, and no other.
abbrev pub AreBlamed : {T : Type 0} → Result T RunFault → (uplink outgoing downlink received : Bool) → Type 0
AreBlamed (Ok x) uplink outgoing downlink received =
    (uplink ≡ false) × (outgoing ≡ false) × (downlink ≡ false) × (received ≡ false)
AreBlamed (Err e) uplink outgoing downlink received =
    (uplink ≡ is_uplink_failure e) × (outgoing ≡ is_outgoing_failure e)
    × (downlink ≡ is_downlink_failure e) × (received ≡ is_received_failure e)

-- a fault that no file shows: a device failed, or there was no room
abbrev pub is_failure : RunFault → Bool
is_failure Memory = true
is_failure (File Uplink e) = is_device_fault e
is_failure (File Outgoing e) = is_device_fault e
is_failure (File Downlink e) = is_downlink_failure (File Downlink e)
is_failure (File Received e) = is_received_failure (File Received e)

-- A file that a fault names can have it: Write alone where it is written; where it is read, what a reader of it shows, and so no
-- frame order of the uplink and no half frame of the outgoing file.
abbrev pub is_of_its_stream : RunFault → Bool
is_of_its_stream (File Uplink FrameOrder) = false
is_of_its_stream (File Uplink Write) = false
is_of_its_stream (File Uplink e) = true
is_of_its_stream (File Outgoing HalfFrame) = false
is_of_its_stream (File Outgoing Write) = false
is_of_its_stream (File Outgoing e) = true
is_of_its_stream (File Downlink e) = is_downlink_failure (File Downlink e)
is_of_its_stream (File Received e) = is_received_failure (File Received e)
is_of_its_stream Memory = true
