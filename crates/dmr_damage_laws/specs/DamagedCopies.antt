-- The laws of whole recordings that were damaged within the limits, and of runs over them.
use Rattle.std.specs.Prelude.{◌≡◌, ℕ, List, [], length, Some, IsSome, Ok}
use Rattle.dmr_damage.specs.Recordings.{IsDamagedWhole}
use Rattle.dmr_damage.specs.Settings.{Settled}
use Rattle.dmr_damage.specs.declared.counts.Damaged.{Damaged}
use Rattle.dmr_damage.specs.declared.settings.Damage.TheVariants.{WithinLimits}
use Rattle.dmr_record.specs.Outgoing.{Sending}
use Rattle.dmr_record.specs.Uplink.{UplinkSlots}
use Rattle.dmr_repeater.specs.Files.{Files, KnownOctets}
use Rattle.dmr_repeater.specs.Headline.{ForWhatWasSent, HasRecording, LeavesAsMeant}
use Rattle.dmr_repeater.specs.Runs.{HasOutgoing}
use Rattle.dmr_repeater.specs.declared.summary.Summary.{Summary}
use Rattle.dmr_station.specs.DownlinkRules.{slots_in}
use Rattle.dmr_station.specs.StationRules.{Settings}
use Rattle.dmr_voice.specs.CallMeaning.{Cell, Transmission, sent_list}
use Rattle.dmr_voice.specs.WellFormed.{IsWellFormed}
use Rattle.dmr_damage_laws.specs.DamagedSlots.{MeansTheSame}

-- 1. A copy that is damaged.

-- A source has a recording of what was sent in both slots, damaged within the limits. The copy is what `damage_recording` wrote of
-- it within the limits into an empty file, for a repeater of this colour code.
pub record IsDamagedCopy (colour : ℕ) (first second : List Cell) (frames : List UplinkSlots) (original copy : KnownOctets) : Type 0
  where
    pub has : HasRecording colour first second frames original
    pub settled : Settled
    pub within : settled.damage ≡ WithinLimits colour
    pub counts : Damaged
    pub left : KnownOctets
    pub damaged : IsDamagedWhole settled counts original left (Some []) copy

-- The copy has as many frames, and is a recording, damaged within the limits, of transmissions in both slots that mean the same.
pub record IsCopyOfTheSame (colour lead_1 lead_2 : ℕ) (first second : List (Transmission × ℕ)) (frames : List UplinkSlots)
    (copy : KnownOctets) : Type 0 where
  pub outs : List UplinkSlots
  pub as_many : length outs ≡ length frames
  pub first_slot : MeansTheSame colour lead_1 first (slots_in 0 frames) (slots_in 0 outs)
  pub second_slot : MeansTheSame colour lead_2 second (slots_in 1 frames) (slots_in 1 outs)
  pub has : HasRecording colour (sent_list colour lead_1 first_slot.sent) (sent_list colour lead_2 second_slot.sent) outs copy

-- So is each damaged copy of a recording of well-formed transmissions.
abbrev pub CopiesMeanTheSame : Type 0
CopiesMeanTheSame =
    (colour lead_1 lead_2 : ℕ) (first second : List (Transmission × ℕ)) (frames : List UplinkSlots) (original copy : KnownOctets) →
    IsWellFormed colour first → IsWellFormed colour second →
    IsDamagedCopy colour (sent_list colour lead_1 first) (sent_list colour lead_2 second) frames original copy →
    IsCopyOfTheSame colour lead_1 lead_2 first second frames copy

-- 2. Runs over a recording and over its damaged copy.

-- What `run` of dmr_repeater promises where it ends well with this summary: whatever well-formed transmissions the uplink is a
-- recording of, it wrote what they mean.
abbrev pub EndsAsMeant : Settings → Summary → Files → Files → Type 0
EndsAsMeant s summary old new =
    ForWhatWasSent s.colour old (λ first second frames sendings. LeavesAsMeant s first second frames sendings (Ok summary) old new)

-- Two runs with the same datagrams, whose outputs held the same before.
pub record BeginAlike (sendings : List Sending) (old other : Files) : Type 0 where
  pub outgoing : HasOutgoing sendings old.outgoing
  pub other_outgoing : HasOutgoing sendings other.outgoing
  pub downlink : other.downlink ≡ old.downlink
  pub received : other.received ≡ old.received

-- They have the same summary, and where it is known what an output held before, it holds the same now.
pub record EndAlike (summary other_summary : Summary) (old new other_new : Files) : Type 0 where
  pub summary_is : summary ≡ other_summary
  pub downlink : IsSome old.downlink → new.downlink ≡ other_new.downlink
  pub received : IsSome old.received → new.received ≡ other_new.received

-- A run over a recording of well-formed transmissions and a run over its damaged copy write the same.
abbrev pub RunsWriteTheSame : Type 0
RunsWriteTheSame =
    (s : Settings) (lead_1 lead_2 : ℕ) (first second : List (Transmission × ℕ)) (frames : List UplinkSlots) →
    (sendings : List Sending) (summary other_summary : Summary) (old new other other_new : Files) →
    IsWellFormed s.colour first → IsWellFormed s.colour second →
    IsDamagedCopy s.colour (sent_list s.colour lead_1 first) (sent_list s.colour lead_2 second) frames old.uplink other.uplink →
    BeginAlike sendings old other → EndsAsMeant s summary old new → EndsAsMeant s other_summary other other_new →
    EndAlike summary other_summary old new other_new
