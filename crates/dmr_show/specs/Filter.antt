-- Which bursts and records have a line.
use Rattle.std.specs.Prelude.{◌≡◌, ◌==◌, ◌&&◌, ℕ, ◌≤◌, Bool, true, Option, Some, None, IfSome, nat_le}
use Rattle.dmr_recording.specs.declared.place.Place.{Place}
use Rattle.dmr_show.specs.declared.filter.Filter.{Filter}

-- a slot is among those that are asked for
abbrev pub IsInSlot : Filter → ℕ → Type 0
IsInSlot filter number = IfSome filter.slot (λ slot. number ≡ slot)

-- A place is among those that are asked for: it has their slot, and lies between their first frame and their last.
pub record Passes (filter : Filter) (place : Place) : Type 0 where
  pub slot : IfSome filter.slot (λ slot. place.slot ≡ slot)
  pub from : IfSome filter.from (λ from. from ≤ place.frame)
  pub to : IfSome filter.to (λ to. place.frame ≤ to)

-- whether a slot is among those that are asked for
abbrev pub is_slot : Option ℕ → ℕ → Bool
is_slot None number = true
is_slot (Some slot) number = number == slot

-- whether a slot is among those that the filter asks for
abbrev pub is_in_slot : Filter → ℕ → Bool
is_in_slot filter number = is_slot filter.slot number

-- whether a frame lies not before the first that is asked for
abbrev pub has_begun : Option ℕ → ℕ → Bool
has_begun None frame = true
has_begun (Some from) frame = nat_le from frame

-- whether a frame lies not behind the last that is asked for
abbrev pub is_before_end : Option ℕ → ℕ → Bool
is_before_end None frame = true
is_before_end (Some to) frame = nat_le frame to

-- whether a place is among those that are asked for
abbrev pub lets_pass : Filter → Place → Bool
lets_pass filter place =
    is_in_slot filter place.slot && has_begun filter.from place.frame && is_before_end filter.to place.frame
