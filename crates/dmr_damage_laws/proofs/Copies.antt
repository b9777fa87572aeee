-- Whole recordings that were damaged within the limits, and runs over them.
use Rattle.std.proofs.Common.{◌≡◌, ℕ, List, [], ◌++◌, length, Some, None, refl, sym, ap, ◌∙◌, subst, append-nil}
use Rattle.std.proofs.Common.{◌+◌, arith, replicate}
use Rattle.std.proofs.lemmas.List.{length-append, length-map}
use Rattle.std.specs.Io.KnownBytes.{Appends, Consumes, IsAtEnd}
use Rattle.std.specs.List.{AllByRecursion, AllZip}
use Rattle.dmr_damage.specs.Frames.{AreDamagedBy}
use Rattle.dmr_damage.specs.declared.settings.Damage.TheVariants.{WithinLimits}
use Rattle.dmr_record.specs.Downlink.{downlink_file}
use Rattle.dmr_record.specs.Outgoing.{Sending}
use Rattle.dmr_record.specs.Received.{received_file}
use Rattle.dmr_record.specs.Uplink.{UplinkSlots, IsFrame, uplink_file}
use Rattle.dmr_repeater.proofs.Files.{read_front}
use Rattle.dmr_repeater.specs.Files.{Files, KnownOctets}
use Rattle.dmr_repeater.specs.Headline.{HasOneResult, WritesWhatIsMeant}
use Rattle.dmr_repeater.specs.Runs.{from_frame}
use Rattle.dmr_repeater.specs.Summaries.{counts_in}
use Rattle.dmr_repeater.specs.declared.summary.Summary.{Summary}
use Rattle.dmr_slot.specs.Bursts.{IsSlotOut}
use Rattle.dmr_slot.specs.LineMeaning.{lines}
use Rattle.dmr_station.specs.DownlinkMeaning.{IsDownlinkOfWhatIsMeant, IsRecordingOf}
use Rattle.dmr_station.specs.DownlinkRules.{handed_frames, silent_frame, slots_in}
use Rattle.dmr_station.specs.GatewayMeaning.{by_frame}
use Rattle.dmr_station.specs.StationRules.{Counts, Settings}
use Rattle.dmr_voice.specs.CallMeaning.{Cell, Transmission, sent_list}
use Rattle.dmr_voice.specs.DamagedRecordings.{meant}
use Rattle.dmr_voice.specs.WellFormed.{IsWellFormed}
use Rattle.dmr_voice.specs.Said.{Said, Nothing}
use Rattle.dmr_damage_laws.proofs.Slots.{damaged_slots_mean_the_same}
use Rattle.dmr_damage_laws.specs.DamagedCopies.{CopiesMeanTheSame, IsCopyOfTheSame}
use Rattle.dmr_damage_laws.specs.DamagedCopies.{RunsWriteTheSame}

-- 1. Copies.

-- what was read to the end of a file is all of it
all_read : (frames others : List UplinkSlots) (old new : KnownOctets) → AllByRecursion IsFrame others
    → AllByRecursion IsFrame frames → old ≡ Some (uplink_file frames) → Consumes old new (uplink_file others) → IsAtEnd new
    → frames ≡ others
all_read frames others old new each all has read end =
    let (more, split, none) = read_front old new others frames [] each all has
    (subst (Consumes old new) (sym (append-nil (uplink_file others))) read) in
    split ∙ ap (λ l. others ++ l) (none end refl) ∙ append-nil others

-- what was written into an empty file is all that it has
all_written : (held : KnownOctets) (octets : List ℕ) → Appends (Some []) held octets → held ≡ Some octets
all_written None octets written = absurd written
all_written (Some now) octets written = ap Some written

-- so many frames have as many slots
as_many_slots : (number : ℕ) (frames outs : List UplinkSlots) → length outs ≡ length frames
    → length (slots_in number outs) ≡ length (slots_in number frames)
as_many_slots number frames outs same = length-map outs _ ∙ same ∙ sym (length-map frames _)

-- frames that were damaged within the limits
damaged_frames : (colour lead_1 lead_2 : ℕ) (first second : List (Transmission × ℕ)) (frames outs : List UplinkSlots)
    (copy : KnownOctets) → IsWellFormed colour first → IsWellFormed colour second
    → IsRecordingOf colour (sent_list colour lead_1 first) (sent_list colour lead_2 second) frames
    → AreDamagedBy (WithinLimits colour) frames outs → length outs ≡ length frames → AllByRecursion IsFrame outs
    → copy ≡ Some (uplink_file outs) → IsCopyOfTheSame colour lead_1 lead_2 first second frames copy
damaged_frames colour lead_1 lead_2 first second frames outs copy well_1 well_2 recording damaged same each has =
    let one = damaged_slots_mean_the_same colour lead_1 first (slots_in 0 frames) (slots_in 0 outs) well_1 recording.first_slot
    damaged.0 (as_many_slots 0 frames outs same) in
    let two = damaged_slots_mean_the_same colour lead_2 second (slots_in 1 frames) (slots_in 1 outs) well_2 recording.second_slot
    damaged.1 (as_many_slots 1 frames outs same) in
    record {
      outs = outs;
      as_many = same;
      first_slot = one;
      second_slot = two;
      has = record {
        each = each;
        recording = record { first_slot = one.recording; second_slot = two.recording };
        has = has;
      };
    }

-- what a damaged copy is a recording of means the same
pub copies_mean_the_same : CopiesMeanTheSame
copies_mean_the_same colour lead_1 lead_2 first second frames original copy well_1 well_2 c =
    let d = c.damaged in
    let same : frames ≡ d.frames = all_read frames d.frames original c.left d.whole c.has.each c.has.has d.read d.end in
    let damaged : AreDamagedBy (WithinLimits colour) d.frames d.outs =
    subst (λ x. AreDamagedBy x d.frames d.outs) c.within d.written.damaged in
    subst (λ l. IsCopyOfTheSame colour lead_1 lead_2 first second l copy) (sym same)
    (damaged_frames colour lead_1 lead_2 first second d.frames d.outs copy well_1 well_2
    (subst (IsRecordingOf colour (sent_list colour lead_1 first) (sent_list colour lead_2 second)) same c.has.recording)
    damaged d.written.as_many d.written.whole (all_written copy (uplink_file d.outs) d.written.written))

-- 2. Runs.

-- what is handed over for as many frames is as long
handed_alike : (frames outs : List UplinkSlots) → length outs ≡ length frames
    → length (handed_frames outs) ≡ length (handed_frames frames)
handed_alike frames outs same =
    omega (arith, same, length-append outs (replicate 5 silent_frame), length-append frames (replicate 5 silent_frame))

-- What is meant of one recording is meant of another with as many frames, where both mean the same; and it is written into the same
-- outputs.
meant_as : (s : Settings) (first second others_1 others_2 : List Cell) (frames outs : List UplinkSlots) (sendings : List Sending)
    (repeated : ℕ) (counts : Counts) (old other new : Files) → length outs ≡ length frames
    → meant others_1 (slots_in 0 outs) ≡ meant first (slots_in 0 frames)
    → meant others_2 (slots_in 1 outs) ≡ meant second (slots_in 1 frames)
    → other.downlink ≡ old.downlink → other.received ≡ old.received
    → WritesWhatIsMeant s others_1 others_2 outs sendings repeated counts other new
    → WritesWhatIsMeant s first second frames sendings repeated counts old new
meant_as s first second others_1 others_2 frames outs sendings repeated counts old other new long same_1 same_2 downlink received w
    = record {
      sending = w.sending;
      receipts = w.receipts;
      downlink = subst (λ n. IsDownlinkOfWhatIsMeant s first second frames (by_frame 0 n sendings) w.sending w.receipts counts)
          (handed_alike frames outs long) (record {
            first_outs = w.downlink.first_outs;
            second_outs = w.downlink.second_outs;
            first_line = subst (λ (l : List Said). AllZip (IsSlotOut s.colour) (lines s.call_hang [] (replicate 6 Nothing ++ l))
                w.downlink.first_outs) same_1 w.downlink.first_line;
            second_line = subst (λ (l : List Said). AllZip (IsSlotOut s.colour) (lines s.call_hang [] (replicate 6 Nothing ++ l))
                w.downlink.second_outs) same_2 w.downlink.second_line;
            gates = w.downlink.gates;
            gateway = w.downlink.gateway;
            downlink = w.downlink.downlink;
          });
      repeats = w.repeats;
      sent = w.sent;
      encoded = w.encoded;
      written = subst (λ held. Appends held new.downlink (downlink_file w.sent)) downlink w.written;
      records = subst (λ held. Appends held new.received (received_file w.receipts)) received w.records;
    }

of_fields : (f f' r r' v v' d d' t t' g g' e e' u u' : ℕ) → f ≡ f' → r ≡ r' → v ≡ v' → d ≡ d' → t ≡ t' → g ≡ g' → e ≡ e' → u ≡ u'
    → ◌≡◌ {A = Summary}
    (record { frames = f; repeated = r; received = v; delivered = d; sent = t; given_up = g; refused = e; unoffered = u })
    (record { frames = f'; repeated = r'; received = v'; delivered = d'; sent = t'; given_up = g'; refused = e'; unoffered = u' })
of_fields f f' r r' v v' d d' t t' g g' e e' u u' a b c h i j k l = cc

summary_alike : (a b : Summary) → a.frames ≡ b.frames → a.repeated ≡ b.repeated → counts_in a ≡ counts_in b
    → a.unoffered ≡ b.unoffered → a ≡ b
summary_alike a b frames repeated counts unoffered =
    of_fields a.frames b.frames a.repeated b.repeated a.received b.received a.delivered b.delivered a.sent b.sent a.given_up
    b.given_up a.refused b.refused a.unoffered b.unoffered frames repeated (ap (λ (c : Counts). c.received) counts)
    (ap (λ (c : Counts). c.delivered) counts) (ap (λ (c : Counts). c.sent) counts) (ap (λ (c : Counts). c.given_up) counts)
    (ap (λ (c : Counts). c.refused) counts) unoffered

-- a run over a recording and a run over its damaged copy write the same
pub runs_write_the_same : HasOneResult → RunsWriteTheSame
runs_write_the_same one_result s lead_1 lead_2 first second frames sendings summary other_summary old new other other_new well_1
    well_2 copy begin runs other_runs =
    let c = copies_mean_the_same s.colour lead_1 lead_2 first second frames old.uplink other.uplink well_1 well_2 copy in
    let left = runs lead_1 lead_2 first second frames sendings well_1 well_2 copy.has begin.outgoing in
    let right = other_runs lead_1 lead_2 c.first_slot.sent c.second_slot.sent c.outs sendings c.first_slot.well_formed
    c.second_slot.well_formed c.has begin.other_outgoing in
    let meant_alike = meant_as s (sent_list s.colour lead_1 first) (sent_list s.colour lead_2 second)
    (sent_list s.colour lead_1 c.first_slot.sent) (sent_list s.colour lead_2 c.second_slot.sent) frames c.outs sendings
    other_summary.repeated (counts_in other_summary) old other other_new c.as_many c.first_slot.meaning c.second_slot.meaning
    begin.downlink begin.received right.0 in
    let same = one_result s (sent_list s.colour lead_1 first) (sent_list s.colour lead_2 second) frames sendings summary.repeated
    other_summary.repeated (counts_in summary) (counts_in other_summary) old new other_new left.0 meant_alike in
    let long : summary.frames ≡ other_summary.frames = left.1 ∙ ap (λ n. n + 6) (sym c.as_many) ∙ sym right.1 in
    record {
      summary_is = summary_alike summary other_summary long same.repeats same.counts_are
          (left.2 ∙ ap (λ n. length (from_frame n sendings)) long ∙ sym right.2);
      downlink = same.downlink;
      received = same.received;
    }
