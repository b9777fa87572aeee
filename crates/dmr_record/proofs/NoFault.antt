-- A text of records has no fault, no more of them than may be.
use Rattle.std.proofs.Common.{◌≡◌, ℕ, ◌+◌, ◌≤◌, List, [], ◌∷◌, ◌++◌, length, None, Some, true, ap, arith}
use Rattle.std.specs.List.{AllByRecursion}
use Rattle.dmr_record.specs.declared.fault.RecordFault.{RecordFault}
use Rattle.dmr_record.specs.declared.fault.RecordFault.TheVariants.{Read}
use Rattle.dmr_record.specs.Faults.{is_of_end, is_device_fault, HasFault}
use Rattle.dmr_record.specs.Outgoing.{Sending, IsSending, AreInFrameOrder, sendings_octets, ShowsOutgoingFault}
use Rattle.dmr_record.specs.Uplink.{IsFrame, frames_octets, ShowsUplinkFault, UplinkSlots}
use Rattle.dmr_record.proofs.OutgoingReading.{sending_at, sending_at-spelled, sending_at-shown, sending_at-end}
use Rattle.dmr_record.proofs.Readings.{no_fault_read}
use Rattle.dmr_record.proofs.UplinkReading.{frame_at, frame_at-spelled, frame_at-shown, frame_at-end}

-- frames within the limit of their file have no fault but the device's
pub frames_no_fault : (limit before : ℕ) (frames : List UplinkSlots) (e : RecordFault) → AllByRecursion IsFrame frames
    → before + length frames ≤ limit → HasFault (ShowsUplinkFault limit before) (frames_octets frames) e → e ≡ Read
frames_no_fault limit before [] e p few has =
    no_fault_read (ShowsUplinkFault limit before) (frame_at limit before) (frame_at-shown limit before) [] None e (frame_at-end
    limit
    before) has
frames_no_fault limit before (f ∷ fs) e p few has =
    no_fault_read (ShowsUplinkFault limit before) (frame_at limit before) (frame_at-shown limit before) (frames_octets (f
    ∷ fs)) (Some
    (f, frames_octets fs)) e
    (frame_at-spelled limit before f (frames_octets fs) (omega arith) p.0) has

-- the same of outgoing records in their order
pub sendings_no_fault : (limit before last : ℕ) (sendings : List Sending) (e : RecordFault) → AllByRecursion IsSending sendings →
    AreInFrameOrder last sendings
    → before + length sendings ≤ limit → HasFault (ShowsOutgoingFault limit before last) (sendings_octets sendings) e → e ≡ Read
sendings_no_fault limit before last [] e p order few has =
    no_fault_read (ShowsOutgoingFault limit before last) (sending_at limit before last) (sending_at-shown limit before last) []
    None e (sending_at-end limit before last) has
sendings_no_fault limit before last (s ∷ ss) e p order few has =
    no_fault_read (ShowsOutgoingFault limit before last) (sending_at limit before last) (sending_at-shown limit before last)
    (sendings_octets (s ∷ ss))
    (Some (s, sendings_octets ss)) e (sending_at-spelled limit before last s (sendings_octets ss) (omega arith) order.0 p.0) has

-- the same of what was taken and of what is left
pub no_fault : (limit before : ℕ) (e : RecordFault) (taken rest : List ℕ) (frames : List UplinkSlots) → AllByRecursion
    IsFrame frames
    → before + length frames ≤ limit → ShowsUplinkFault limit before e taken → (is_of_end e ≡ true → rest ≡ [])
    → taken ++ rest ≡ frames_octets frames → is_device_fault e ≡ true
no_fault limit before e taken rest frames p few shows end same =
    ap is_device_fault (frames_no_fault limit before frames e p few (record {
      taken = taken;
      rest = rest;
      split = same;
      shown =
          shows;
      end = end;
    }))

-- the same of outgoing records in their order
pub no_outgoing_fault : (limit before last : ℕ) (e : RecordFault) (taken rest : List ℕ) (sendings : List Sending) → AllByRecursion
    IsSending sendings
    → AreInFrameOrder last sendings → before + length sendings ≤ limit → ShowsOutgoingFault limit before last e taken
    → (is_of_end e ≡
    true → rest ≡ [])
    → taken ++ rest ≡ sendings_octets sendings → is_device_fault e ≡ true
no_outgoing_fault limit before last e taken rest sendings p order few shows end same =
    ap is_device_fault (sendings_no_fault limit before last sendings e p order few (record {
      taken = taken;
      rest = rest;
      split =
          same;
      shown = shows;
      end = end;
    }))
