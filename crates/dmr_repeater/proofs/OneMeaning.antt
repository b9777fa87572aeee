-- What a recording means.
use Rattle.std.proofs.Common.{List, [], ◌∷◌, arith}
use Rattle.std.specs.List.{AllByRecursion}
use Rattle.std.proofs.lemmas.List.Elements.{All-from_recursion}
use Rattle.dmr_hearing.specs.Recorded.{IsSilenceOr33Octets}
use Rattle.dmr_record.specs.Uplink.{UplinkSlots, IsFrame}
use Rattle.dmr_station.specs.DownlinkRules.{slots_in}
use Rattle.dmr_voice.proofs.Law.{repeats_what_is_meant}
use Rattle.dmr_voice.proofs.OneMeaning.{one_meaning as one_meaning_of_slots}
use Rattle.dmr_voice.specs.DamagedRecordings.{meant}
use Rattle.dmr_voice.specs.CallMeaning.{sent_list}
use Rattle.dmr_station.proofs.OneReception.{same_meaning}
use Rattle.dmr_repeater.specs.Headline.{HasOneMeaning}

first_slots_are : (frames : List UplinkSlots) → AllByRecursion IsFrame frames
    → AllByRecursion IsSilenceOr33Octets (slots_in 0 frames)
first_slots_are [] each = tt
first_slots_are ([] ∷ frames) each = absurd (omega (arith, each.0.0))
first_slots_are ((a ∷ rest) ∷ frames) each = (each.0.1.0, first_slots_are frames each.1)

second_slots_are : (frames : List UplinkSlots) → AllByRecursion IsFrame frames
    → AllByRecursion IsSilenceOr33Octets (slots_in 1 frames)
second_slots_are [] each = tt
second_slots_are ([] ∷ frames) each = absurd (omega (arith, each.0.0))
second_slots_are ((a ∷ []) ∷ frames) each = absurd (omega (arith, each.0.0))
second_slots_are ((a ∷ b ∷ rest) ∷ frames) each = (each.0.1.1.0, second_slots_are frames each.1)

-- Well-formed transmissions that have a recording in common mean the same, and a gateway receives the same of them.
pub one_meaning : HasOneMeaning
one_meaning colour lead_a lead_b lead_c lead_d a b c d frames left well_a well_b well_c well_d u v = (
  same_meaning (meant (sent_list colour lead_a a) (slots_in 0 frames)) (meant (sent_list colour lead_c c) (slots_in 0 frames))
      (one_meaning_of_slots repeats_what_is_meant colour lead_a lead_c a c (slots_in 0 frames) (All-from_recursion
      IsSilenceOr33Octets
      (slots_in 0 frames) (first_slots_are frames u.each)) well_a well_c u.recording.first_slot v.recording.first_slot),
  same_meaning (meant (sent_list colour lead_b b) (slots_in 1 frames)) (meant (sent_list colour lead_d d) (slots_in 1 frames))
      (one_meaning_of_slots repeats_what_is_meant colour lead_b lead_d b d (slots_in 1 frames) (All-from_recursion
      IsSilenceOr33Octets
      (slots_in 1 frames) (second_slots_are frames u.each)) well_b well_d u.recording.second_slot v.recording.second_slot),
)
