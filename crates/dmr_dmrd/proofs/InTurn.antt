-- What is held of a capture, packet by packet.
use Rattle.std.proofs.Common.{◌≡◌, ◌≤◌, List, [], ◌∷◌, ◌++◌, refl, arith}
use Rattle.dmr_capture.specs.State.{CapturedPacket}
use Rattle.dmr_record.specs.Head.{frame_limit}
use Rattle.dmr_dmrd.specs.Holding.{AreSlotsHeld, frames_held, held_of_capture, hold_behind, hold_with, no_hold}
use Rattle.dmr_dmrd.specs.declared.hold.Hold.{Hold}
use Rattle.dmr_dmrd.specs.declared.hold.ImportSettings.{ImportSettings}

behind_more : (settings : ImportSettings) (hold : Hold) (packets : List CapturedPacket) (next : CapturedPacket)
    → hold_behind settings hold (packets ++ next ∷ []) ≡ hold_with settings (hold_behind settings hold packets) next
behind_more settings hold [] next = refl
behind_more settings hold (packet ∷ packets) next = behind_more settings (hold_with settings hold packet) packets next

-- one packet more
pub held_more : (settings : ImportSettings) (packets : List CapturedPacket) (next : CapturedPacket)
    → held_of_capture settings (packets ++ next ∷ []) ≡ hold_with settings (held_of_capture settings packets) next
held_more settings packets next = behind_more settings (no_hold settings) packets next

-- in front of a capture
pub none_held : (settings : ImportSettings) → AreSlotsHeld (no_hold settings)
none_held settings = record {
  one = record { count = refl; few = omega arith; bursts = omega arith; lost = omega arith };
  two = record { count = refl; few = omega arith; bursts = omega arith; lost = omega arith };
}

-- a recording has no more frames than it may have
pub few_frames : (hold : Hold) → AreSlotsHeld hold → frames_held hold ≤ frame_limit
few_frames hold held = let one = held.one.few in let two = held.two.few in omega (arith, one, two)
