-- How much of a recording was damaged.
use Rattle.std.specs.Prelude.{ℕ, ◌+◌, ◌*◌, ◌≤◌, List, [], ◌∷◌, Some, None, nat_lt, if◌then◌else◌, slice_index_or}
use Rattle.dmr_bits.specs.Bits.{bits_of_octets, distance}
use Rattle.dmr_record.specs.Uplink.{UplinkSlot, UplinkSlots}
use Rattle.dmr_damage.specs.declared.counts.Damaged.{Damaged}

-- before the first frame
abbrev pub none_damaged_yet : Damaged
none_damaged_yet = record { frames = 0; bursts = 0; changed = 0; silenced = 0; bits = 0 }

-- a burst that differs in so many bits from what it was
abbrev pub counted_turned : Damaged → ℕ → Damaged
counted_turned counts turned =
    record counts {
      bursts = counts.bursts + 1;
      changed = counts.changed + (if nat_lt 0 turned then 1 else 0);
      bits = counts.bits + turned;
    }

-- a slot: a burst that was left out, or one that differs in so many bits
abbrev pub counted_slot : Damaged → UplinkSlot → UplinkSlot → Damaged
counted_slot counts None is = counts
counted_slot counts (Some was) None = record counts { bursts = counts.bursts + 1; silenced = counts.silenced + 1 }
counted_slot counts (Some was) (Some is) = counted_turned counts (distance (bits_of_octets was) (bits_of_octets is))

-- a frame: both slots
abbrev pub counted_frame : Damaged → UplinkSlots → UplinkSlots → Damaged
counted_frame counts was is =
    let first =
    counted_slot (record counts { frames = counts.frames + 1 }) (slice_index_or was 0 None) (slice_index_or is 0 None) in
    counted_slot first (slice_index_or was 1 None) (slice_index_or is 1 None)

-- frame by frame, as far as there are both
abbrev pub counted_frames : Damaged → (frames outs : List UplinkSlots) → Damaged
counted_frames counts [] outs = counts
counted_frames counts (was ∷ frames) [] = counts
counted_frames counts (was ∷ frames) (is ∷ outs) = counted_frames (counted_frame counts was is) frames outs

-- the counts of two recordings
abbrev pub damage_counts : (frames outs : List UplinkSlots) → Damaged
damage_counts frames outs = counted_frames none_damaged_yet frames outs

-- In so many slots no more can be counted.
pub record IsFew (slots : ℕ) (counts : Damaged) : Type 0 where
  pub bursts : counts.bursts ≤ slots
  pub changed : counts.changed ≤ slots
  pub silenced : counts.silenced ≤ slots
  pub bits : counts.bits ≤ 264 * slots
