-- What the CACHs announce: one message in the four records of two frames, decided from both slots of the first of the two.
use Rattle.std.specs.Prelude.{◌≡◌, ℕ, ◌%◌, ◌^◌, ◌<◌, List, [], ◌∷◌, Option, Some, None, length, map}
use Rattle.std.specs.Prelude.{slice_index_or}
use Rattle.dmr_link.specs.declared.full_lc.FullLc.{FullLc}
use Rattle.dmr_slot.specs.Activity.{IsMessage}
use Rattle.dmr_slot.specs.declared.line.SlotOut.{SlotOut}
use Rattle.dmr_station.specs.declared.announcing.Message.{Message}

-- Opcode and body fit their bits.
pub record IsFitMessage (m : Message) : Type 0 where
  pub slco : m.slco < 2 ^ 4
  pub body : m.body < 2 ^ 24

-- The message for what the lines of both slots give in a frame.
abbrev pub IsMessageFor : List SlotOut → Message → Type 0
IsMessageFor outs m = IsMessage (known_lc outs 0) (known_lc outs 1) m.slco m.body
  where
    -- The known link control of the call of a slot, where it sends a repeated burst of a call or a terminator of the call hang: in
    -- every other case, data and the gateway's bursts among them, the line gives none.
    known_lc : List SlotOut → ℕ → Option FullLc
    known_lc outs slot = slice_index_or (map (λ (out : SlotOut). out.lc) outs) slot None

-- The lines of both slots give nothing.
abbrev pub nothing_given : List SlotOut
nothing_given =
    record { repeated = None; hang = None; lc = None } ∷ record { repeated = None; hang = None; lc = None } ∷ []

-- 1. By the rules: what is kept between two frames.

-- The first of two frames decides the message, which is kept for the second.
abbrev pub IsAnnounced : Option Message → List SlotOut → Message → Option Message → Type 0
IsAnnounced None outs m after = IsMessageFor outs m × (after ≡ Some m)
IsAnnounced (Some kept) outs m after = (m ≡ kept) × (after ≡ None)

-- 2. By looking back.

-- Frame by frame, after those before them with the newest first: each has the message for the frame that decides it. Behind an even
-- number of frames that is the frame itself, and behind an odd number the frame before.
abbrev pub AreAnnounced : List (List SlotOut) → List (List SlotOut) → List Message → Type 0
AreAnnounced back [] [] = Unit {0}
AreAnnounced back [] (m ∷ messages) = ⊥
AreAnnounced back (outs ∷ frames) [] = ⊥
AreAnnounced back (outs ∷ frames) (m ∷ messages) =
    IsMessageFor (slice_index_or (outs ∷ back) (length back % 2) outs) m × AreAnnounced (outs ∷ back) frames messages
