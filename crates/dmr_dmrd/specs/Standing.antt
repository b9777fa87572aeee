-- Where the burst of a packet stands.
use Rattle.std.specs.Prelude.{◌≡◌, ◌⊎◌, ℕ, List, [], ◌∷◌, Some}
use Rattle.dmr_capture.specs.State.{CapturedPacket}
use Rattle.dmr_dmrd.specs.Holding.{asked_of, held_burst, hold_with}
use Rattle.dmr_dmrd.specs.Placing.{frame_asked}
use Rattle.dmr_dmrd.specs.Taking.{taken_packet}
use Rattle.dmr_dmrd.specs.declared.hold.Hold.{Hold}
use Rattle.dmr_dmrd.specs.declared.hold.ImportSettings.{ImportSettings}
use Rattle.dmr_dmrd.specs.declared.packet.HotspotPacket.{HotspotPacket}
use Rattle.dmr_dmrd.specs.declared.packet.Slot.{Slot}

-- A packet is taken, asks for this frame of this slot, and has this burst as it is held.
pub record IsPlacedAt (settings : ImportSettings) (hold : Hold) (packet : CapturedPacket) (slot : Slot) (frame : ℕ) (burst : List ℕ)
    : Type 0 where
  pub p : HotspotPacket
  pub taken : taken_packet settings.ports hold.repeater packet.link packet.octets ≡ Some p
  pub of_slot : p.slot ≡ slot
  pub asks : frame_asked (asked_of hold p packet.time) ≡ Some frame
  pub has : burst ≡ held_burst settings.as_uplink p.burst

-- One of these packets is placed there.
abbrev pub IsPlacedAmong : ImportSettings → Hold → List CapturedPacket → Slot → ℕ → List ℕ → Type 0
IsPlacedAmong settings hold [] slot frame burst = ⊥
IsPlacedAmong settings hold (packet ∷ packets) slot frame burst = IsPlacedAt settings hold packet slot frame burst
    ⊎ IsPlacedAmong settings (hold_with settings hold packet) packets slot frame burst
