-- What the slots that a host passes, and is given, stand for.
use Rattle.std.specs.Prelude.{◌≡◌, ℕ, false, List, Option, None, Some, map, replicate, if◌then◌else◌}
use Rattle.std.specs.List.{AllByRecursion}
use Rattle.dmr_c.specs.declared.values.UplinkSlot.{UplinkSlot}
use Rattle.dmr_c.specs.declared.values.DownlinkSlot.{DownlinkSlot}

-- The burst of a slot of the uplink, or nothing.
abbrev pub burst_passed : UplinkSlot → Option (List ℕ)
burst_passed slot = if slot.heard then Some slot.burst else None

-- The frame of the uplink in both slots.
abbrev pub uplink_passed : List UplinkSlot → List (Option (List ℕ))
uplink_passed slots = map burst_passed slots

-- The CACH and the burst of a slot of the downlink, or nothing.
abbrev pub record_given_in : DownlinkSlot → Option (List ℕ × List ℕ)
record_given_in slot = if slot.sent then Some (slot.cach, slot.burst) else None

-- The frame of the downlink in both slots.
abbrev pub downlink_given : List DownlinkSlot → List (Option (List ℕ × List ℕ))
downlink_given slots = map record_given_in slots

-- A slot of the downlink that sends nothing has zeros.
pub record IsZeroWhereSilent (slot : DownlinkSlot) : Type 0 where
  pub cach : slot.sent ≡ false → slot.cach ≡ replicate 3 0
  pub burst : slot.sent ≡ false → slot.burst ≡ replicate 33 0

-- each slot of a frame does
abbrev pub AreZeroWhereSilent : List DownlinkSlot → Type 0
AreZeroWhereSilent slots = AllByRecursion IsZeroWhereSilent slots
