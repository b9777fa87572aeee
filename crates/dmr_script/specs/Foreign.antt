-- Which transmissions may have another colour code.
use Rattle.std.specs.Prelude.{◌≡◌, Bool, true, false, ◌&&◌, List, [], ◌∷◌, IfSome}
use Rattle.dmr_script.specs.Shapes.{begins_there, there_within}
use Rattle.dmr_script.specs.declared.packet.Again.{Again}
use Rattle.dmr_script.specs.declared.packet.Again.TheVariants as again
use Rattle.dmr_script.specs.declared.shape.CallShape.{CallShape}
use Rattle.dmr_script.specs.declared.shape.CallStart.{CallStart}
use Rattle.dmr_script.specs.declared.shape.CallStart.TheVariants as start
use Rattle.dmr_script.specs.declared.shape.PacketShape.{PacketShape}
use Rattle.dmr_script.specs.declared.shape.Place.{Place}
use Rattle.dmr_script.specs.declared.shape.Place.TheVariants.{A, B, C, D, E, F}
use Rattle.dmr_script.specs.declared.statement.Transmission.{Transmission}
use Rattle.dmr_script.specs.declared.statement.Transmission.TheVariants as transmission

-- behind each A that is there, one of the five places that follow is there; the first of these places is this one
abbrev pub has_embs : Place → List Bool → Bool
has_embs place [] = true
has_embs A (true ∷ more) = there_within 5 false more && has_embs B more
has_embs A (false ∷ more) = has_embs B more
has_embs B (there ∷ more) = has_embs C more
has_embs C (there ∷ more) = has_embs D more
has_embs D (there ∷ more) = has_embs E more
has_embs E (there ∷ more) = has_embs F more
has_embs F (there ∷ more) = has_embs A more

-- the last one is there, where there is any
abbrev pub ends_there : List Bool → Bool
ends_there [] = true
ends_there (there ∷ []) = there
ends_there (there ∷ next ∷ more) = ends_there (next ∷ more)

-- A call begins with a burst: its header, or the first place of its tail.
abbrev pub BeginsWithBurst : CallStart → Type 0
BeginsWithBurst (start.Headers h) = Unit {0}
BeginsWithBurst (start.Late tail) = begins_there tail.items ≡ true

-- A call of another colour code begins with a burst, and its EMBs stand near its voice syncs. It ends with a burst in any case.
pub record IsForeignCall (s : CallShape) : Type 0 where
  pub begins : BeginsWithBurst s.start
  pub embs : has_embs A s.places.items ≡ true

-- A packet of another colour code ends with a burst. It begins with one in any case.
abbrev pub IsForeignPacket : PacketShape → Type 0
IsForeignPacket s = ends_there s.blocks.items ≡ true

abbrev pub IsForeignTry : Again → Type 0
IsForeignTry (again.Full shape) = IfSome shape IsForeignPacket
IsForeignTry (again.Partial p) = IsForeignPacket p.shape

-- A transmission may have another colour code.
abbrev pub MayBeForeign : Transmission → Type 0
MayBeForeign (transmission.Call c) = IsForeignCall c.shape
MayBeForeign (transmission.Packet p) = IsForeignPacket p.shape
MayBeForeign (transmission.Again a) = IsForeignTry a
MayBeForeign (transmission.ShortData s) = IsForeignPacket s.shape
MayBeForeign (transmission.Status s) = IsForeignPacket s.shape
MayBeForeign (transmission.Answer a) = IsForeignPacket a.shape
MayBeForeign (transmission.Control csbk) = Unit {0}
MayBeForeign (transmission.Burst b) = Unit {0}
