-- There are lists of what is planned for a slot.
use Rattle.std.proofs.Common.{ℕ, ◌+◌, ◌-◌, List, [], ◌∷◌, All, refl}
use Rattle.std.proofs.lemmas.List.Elements.{All-head, All-tail}
use Rattle.std.specs.List.{AllByRecursion}
use Rattle.dmr_making.proofs.Existing.{said_somehow}
use Rattle.dmr_making.specs.Playing.{IsFitPlaced, packet_in}
use Rattle.dmr_making.specs.Senders.{colour_of}
use Rattle.dmr_making.specs.declared.playing.PlacedTransmission.{PlacedTransmission}
use Rattle.dmr_making_laws.proofs.WellSaid.{IsWellPlaced, IsWellSaid}
use Rattle.dmr_making_laws.specs.Lists.{IsInChannel, IsListOf, heard_by, in_front_of}
use Rattle.dmr_script.specs.declared.statement.NumberedStatement.{NumberedStatement}
use Rattle.dmr_voice.specs.CallMeaning.{Transmission}

-- a transmission that is placed is one of the channel
channel_somehow : (own : ℕ) (all : List NumberedStatement) (p : PlacedTransmission) → IsWellPlaced own all p → IsFitPlaced all p
    → (t : Transmission) × IsInChannel own all p t
channel_somehow own all p well there =
    let w : IsWellSaid own (packet_in all p.packet) p there.transmit = well there.transmit there.there in
    let (sent, sends) = said_somehow (colour_of own there.transmit.sender) (packet_in all p.packet) there.transmit.transmission
    w.fits.transmission w.sendable in (
      heard_by there.transmit.sender sent,
      record { transmit = there.transmit; there = there.there; sent = sent; sends = sends; is = refl },
    )

-- What is well placed has a list.
pub list_somehow : (own : ℕ) (all : List NumberedStatement) (frames : ℕ) (placed : List PlacedTransmission)
    → AllByRecursion (IsWellPlaced own all) placed → All (IsFitPlaced all) placed
    → (list : List (Transmission × ℕ)) × IsListOf own all frames placed list
list_somehow own all frames [] well there = ([], refl)
list_somehow own all frames (p ∷ []) well there =
    let (t, is) = channel_somehow own all p well.0 (All-head (IsFitPlaced all) p [] there) in
    ((t, frames - (p.start + p.length) + 6) ∷ [], (t, is, refl))
list_somehow own all frames (p ∷ q ∷ placed) well there =
    let (t, is) = channel_somehow own all p well.0 (All-head (IsFitPlaced all) p (q ∷ placed) there) in
    let (rest, are) = list_somehow own all frames (q ∷ placed) well.1 (All-tail (IsFitPlaced all) p (q ∷ placed) there) in
    (in_front_of t (q.start - (p.start + p.length)) rest, (t, rest, is, are, refl))
