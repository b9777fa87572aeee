-- There is a result.
use Rattle.std.proofs.Common.{ℕ, List, [], ◌∷◌, ◌++◌, Some, None, refl}
use Rattle.std.specs.Io.KnownBytes.{Appends}
use Rattle.std.specs.List.{AllByRecursion}
use Rattle.dmr_record.specs.Downlink.{downlink_file}
use Rattle.dmr_record.specs.Outgoing.{Sending, IsSending}
use Rattle.dmr_record.specs.Received.{received_file}
use Rattle.dmr_station.specs.GatewayMeaning.{AreForSlots}
use Rattle.dmr_station.proofs.Existing.{recording_is_sent}
use Rattle.dmr_station.proofs.FramesBySlot.{sends_what_is_meant}
use Rattle.dmr_repeater.specs.Files.{KnownOctets}
use Rattle.dmr_repeater.specs.Headline.{HasResult, HasResultOfFrames}

-- What an output holds once octets are appended to it, where it is known what it held.
held_after : KnownOctets → List ℕ → KnownOctets
held_after None octets = None
held_after (Some held) octets = Some (held ++ octets)

appended : (old : KnownOctets) (octets : List ℕ) → Appends old (held_after old octets) octets
unfolding held_after
appended None octets = tt
appended (Some held) octets = refl

slots_of_file : (sendings : List Sending) → AllByRecursion IsSending sendings → AreForSlots sendings
slots_of_file [] each = tt
slots_of_file (s ∷ sendings) each = (each.0.slot, slots_of_file sendings each.1)

-- of any frames and any datagrams there is a result
pub frames_have_a_result : HasResultOfFrames
frames_have_a_result s frames sendings old fit are slots small =
    let (repeated, counts, receipts, sent, is) = recording_is_sent s sendings frames fit small slots are in (
      repeated,
      counts,
      record {
        uplink = old.uplink;
        outgoing = old.outgoing;
        downlink = held_after old.downlink (downlink_file sent);
        received = held_after old.received (received_file receipts);
      },
      record {
        sent = sent;
        receipts = receipts;
        rules = is;
        written = appended old.downlink (downlink_file sent);
        records = appended old.received (received_file receipts);
      },
    )

-- of every recording of well-formed transmissions and every list of datagrams there is a result
pub what_is_meant_has_a_result : HasResult
what_is_meant_has_a_result s old fit lead_1 lead_2 first second frames sendings well_1 well_2 recording outgoing small =
    let (repeated, counts, receipts, sent, is) = recording_is_sent s sendings frames fit small
    (slots_of_file sendings outgoing.each) recording.each in (
      repeated,
      counts,
      record {
        uplink = old.uplink;
        outgoing = old.outgoing;
        downlink = held_after old.downlink (downlink_file sent);
        received = held_after old.received (received_file receipts);
      },
      record {
        sending = is.sending;
        receipts = receipts;
        downlink = sends_what_is_meant s lead_1 lead_2 first second frames well_1 well_2 recording.recording _ is.sending receipts
            counts is.makes;
        repeats = is.repeats;
        sent = sent;
        encoded = is.encoded;
        written = appended old.downlink (downlink_file sent);
        records = appended old.received (received_file receipts);
      },
    )
