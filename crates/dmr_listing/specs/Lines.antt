-- What the line of a burst shows, by what came in its slot before it.
use Rattle.std.specs.Prelude.{◌≡◌, ℕ, Bool, List, [], ◌∷◌, ◌++◌, Option, Some, None, drop, replicate}
use Rattle.dmr_bits.specs.Bits.{bits_of_octets, number_of}
use Rattle.dmr_burst.specs.Layout.{embedded_field, information_field}
use Rattle.dmr_listing.specs.AccessType.{AnnouncesAccessType}
use Rattle.dmr_listing.specs.Contents.{HoldsContents}
use Rattle.dmr_listing.specs.Fragments.{AreCarried}
use Rattle.dmr_listing.specs.VoicePlace.{place_after}
use Rattle.dmr_listing.specs.Wrong.{IsWrong}
use Rattle.dmr_listing.specs.declared.access_type.AccessType.{AccessType}
use Rattle.dmr_listing.specs.declared.burst_line.BurstLine.{BurstLine}
use Rattle.dmr_listing.specs.declared.contents.Contents.{Contents}
use Rattle.dmr_listing.specs.declared.fragments.Fragment.{Fragment}
use Rattle.dmr_listing.specs.declared.voice_place.VoicePlace.{VoicePlace}
use Rattle.dmr_reading.specs.Reading.{IsReadAs}
use Rattle.dmr_reading.specs.declared.reading.Reading.{Reading}
use Rattle.dmr_reading.specs.declared.reading.Reading.TheVariants.{Data, Voice}

-- What is kept of a slot: the place of its last frame, and what its newest four frames carry, the newest last.
pub record SlotPast : Type 0 where
  pub place : Option VoicePlace
  pub fragments : List (Option Fragment)

-- of a slot of which nothing was read
abbrev pub no_past : SlotPast
no_past = record { place = None; fragments = replicate 4 None }

-- what a burst carries of a link control
abbrev pub fragment_of : Reading → List Bool → Option Fragment
fragment_of (Voice emb) bits = Some (record { lcss = emb.lcss; field = number_of (embedded_field bits) })
fragment_of reading bits = None

-- a frame of silence later
abbrev pub passed : SlotPast → SlotPast
passed past = record { place = place_after past.place None; fragments = drop 1 past.fragments ++ None ∷ [] }

-- a frame later, with a burst of these bits that is read so
abbrev pub after_burst : Reading → List Bool → SlotPast → SlotPast
after_burst reading bits past = record {
  place = place_after past.place (Some reading);
  fragments = drop 1 past.fragments ++ fragment_of reading bits ∷ [];
}

-- what a data burst holds; any other burst holds nothing
abbrev pub IsHeld : Reading → List Bool → Option Contents → Type 0
IsHeld (Data side slot_type information) bits (Some contents) = HoldsContents slot_type.kind (information_field bits) contents
IsHeld (Data side slot_type information) bits None = ⊥
IsHeld reading bits contents = contents ≡ None

-- what the CACH in front of a burst announces, where there is one
abbrev pub IsCachAccessType : Option (List ℕ) → Option AccessType → Type 0
IsCachAccessType (Some cach) (Some access_type) = AnnouncesAccessType (bits_of_octets cach) access_type
IsCachAccessType (Some cach) None = ⊥
IsCachAccessType None access_type = access_type ≡ None

-- What the line of a burst of these bits shows.
pub record IsLine (past : SlotPast) (bits : List Bool) (line : BurstLine) : Type 0 where
  pub reading : IsReadAs bits line.reading
  pub voice_place : line.voice_place ≡ place_after past.place (Some line.reading)
  pub contents : IsHeld line.reading bits line.contents
  pub link_control : AreCarried (after_burst line.reading bits past).fragments line.link_control
  pub wrong : IsWrong bits line.reading line.wrong
