-- Which faults a reader of a file shows, and which file a fault is of.
use Rattle.std.proofs.Common.{◌≡◌, ℕ, true, List, refl, subst, sym}
use Rattle.dmr_record.specs.declared.fault.RecordFault.{RecordFault}
use Rattle.dmr_record.specs.declared.fault.RecordFault.TheVariants.{Magic, Version, CutRecord, BadTag, HalfFrame}
use Rattle.dmr_record.specs.declared.fault.RecordFault.TheVariants.{FrameOrder, TooLong, Read, Write}
use Rattle.dmr_record.specs.Head.{ShowsHeadFault}
use Rattle.dmr_record.specs.Outgoing.{ShowsOutgoingFault}
use Rattle.dmr_record.specs.Uplink.{UplinkSlots, ShowsUplinkFault}
use Rattle.dmr_repeater.specs.declared.fault.RunFault.{RunFault}
use Rattle.dmr_repeater.specs.declared.fault.RunFault.TheVariants.{File, Memory}
use Rattle.dmr_repeater.specs.declared.fault.Stream.TheVariants.{Uplink, Outgoing, Downlink, Received}
use Rattle.dmr_repeater.specs.declared.fault.Stream.{Stream}
use Rattle.dmr_station.specs.Station.{State}
use Rattle.dmr_repeater.specs.Files.{Files, KnownOctets}
use Rattle.dmr_repeater.specs.Frames.{LeavesPastUplink, LeavesWithUplink, Moment, TearsOne, TearsPastUplink, TearsWithUplink}
use Rattle.dmr_repeater.specs.Causes.{ByCause, is_of_its_stream}

-- a fault that the head of a file shows is one that the uplink can have
pub uplink_head : (magic : List ℕ) (e : RecordFault) (octets : List ℕ)
    → ShowsHeadFault magic e octets → is_of_its_stream (File Uplink e) ≡ true
uplink_head magic Magic octets shown = refl
uplink_head magic Version octets shown = refl
uplink_head magic CutRecord octets shown = refl
uplink_head magic BadTag octets shown = absurd shown
uplink_head magic HalfFrame octets shown = absurd shown
uplink_head magic FrameOrder octets shown = absurd shown
uplink_head magic TooLong octets shown = absurd shown
uplink_head magic Read octets shown = refl
uplink_head magic Write octets shown = absurd shown

-- the same, of the outgoing file
pub outgoing_head : (magic : List ℕ) (e : RecordFault) (octets : List ℕ)
    → ShowsHeadFault magic e octets → is_of_its_stream (File Outgoing e) ≡ true
outgoing_head magic Magic octets shown = refl
outgoing_head magic Version octets shown = refl
outgoing_head magic CutRecord octets shown = refl
outgoing_head magic BadTag octets shown = absurd shown
outgoing_head magic HalfFrame octets shown = absurd shown
outgoing_head magic FrameOrder octets shown = absurd shown
outgoing_head magic TooLong octets shown = absurd shown
outgoing_head magic Read octets shown = refl
outgoing_head magic Write octets shown = absurd shown

-- a fault that frames of the uplink show is one that the uplink can have
pub uplink_frames : (limit before : ℕ) (e : RecordFault) (octets : List ℕ)
    → ShowsUplinkFault limit before e octets → is_of_its_stream (File Uplink e) ≡ true
uplink_frames limit before Magic octets shown = refl
uplink_frames limit before Version octets shown = refl
uplink_frames limit before CutRecord octets shown = refl
uplink_frames limit before BadTag octets shown = refl
uplink_frames limit before HalfFrame octets shown = refl
uplink_frames limit before FrameOrder octets shown = let (below, (slots, part, few, each, shows, is)) = shown in absurd shows
uplink_frames limit before TooLong octets shown = refl
uplink_frames limit before Read octets shown = refl
uplink_frames limit before Write octets shown = let (below, (slots, part, few, each, shows, is)) = shown in absurd shows

-- a fault that records of the outgoing file show is one that it can have
pub outgoing_records : (limit before last : ℕ) (e : RecordFault) (octets : List ℕ)
    → ShowsOutgoingFault limit before last e octets → is_of_its_stream (File Outgoing e) ≡ true
outgoing_records limit before last Magic octets shown = refl
outgoing_records limit before last Version octets shown = refl
outgoing_records limit before last CutRecord octets shown = refl
outgoing_records limit before last BadTag octets shown = refl
outgoing_records limit before last HalfFrame octets shown = absurd shown
outgoing_records limit before last FrameOrder octets shown = refl
outgoing_records limit before last TooLong octets shown = refl
outgoing_records limit before last Read octets shown = refl
outgoing_records limit before last Write octets shown = absurd shown

-- ---- by cause
-- a frame that fails is where the run ends
pub torn_with_uplink : (e : RunFault) (m : Moment) (uplink : KnownOctets) (z : Files) (ready : State) (frame : UplinkSlots)
    (a b c d : KnownOctets) → ByCause ⊥ (λ _. ⊥) (λ _. ⊥) (λ output. TearsOne output ready frame a b c d) e
    → ((output : Stream) → TearsOne output ready frame a b c d → TearsWithUplink output m uplink z)
    → LeavesWithUplink e m uplink z
torn_with_uplink Memory m uplink z ready frame a b c d u tears = absurd u
torn_with_uplink (File Uplink fault) m uplink z ready frame a b c d u tears = absurd u
torn_with_uplink (File Outgoing fault) m uplink z ready frame a b c d u tears = absurd u
torn_with_uplink (File Downlink fault) m uplink z ready frame a b c d (write, u) tears = (write, tears Downlink u)
torn_with_uplink (File Received fault) m uplink z ready frame a b c d (write, u) tears = (write, tears Received u)

-- a silent frame among others is such a frame
pub torn_in_silence : (e : RunFault) (m : Moment) (uplink : KnownOctets) (z : Files) → e ≡ File Downlink Write
    → TearsWithUplink Downlink m uplink z → LeavesWithUplink e m uplink z
torn_in_silence e m uplink z is tears = subst (λ (e : RunFault). LeavesWithUplink e m uplink z) (sym is) (refl, tears)

-- the same, past the end of the uplink
pub torn_past_uplink : (e : RunFault) (m : Moment) (x y z : KnownOctets) (ready : State) (frame : UplinkSlots)
    (a b c d : KnownOctets) → ByCause ⊥ (λ _. ⊥) (λ _. ⊥) (λ output. TearsOne output ready frame a b c d) e
    → ((output : Stream) → TearsOne output ready frame a b c d → TearsPastUplink output m x y z)
    → LeavesPastUplink e m x y z
torn_past_uplink Memory m x y z ready frame a b c d u tears = absurd u
torn_past_uplink (File Uplink fault) m x y z ready frame a b c d u tears = absurd u
torn_past_uplink (File Outgoing fault) m x y z ready frame a b c d u tears = absurd u
torn_past_uplink (File Downlink fault) m x y z ready frame a b c d (write, u) tears = (write, tears Downlink u)
torn_past_uplink (File Received fault) m x y z ready frame a b c d (write, u) tears = (write, tears Received u)
