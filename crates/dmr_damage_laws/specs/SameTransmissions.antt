-- Transmissions that are the same, but for the embedded fields that places from B to E were received with.
use Rattle.std.specs.Prelude.{◌≡◌, ℕ, List, [], take, drop, Option, Some, None}
use Rattle.std.specs.List.{AllZip}
use Rattle.dmr_voice.specs.CallMeaning.{Present, Superframe, Transmission, VoiceCall, HeadersAlone, LateCall, Controls, DataTry}
use Rattle.dmr_voice.specs.CallMeaning.{ForeignParts}

-- A place is absent in both, or there in both with the same PI bit.
abbrev pub IsSamePlace : Option Present → Option Present → Type 0
IsSamePlace None None = Unit {0}
IsSamePlace None (Some z) = ⊥
IsSamePlace (Some y) None = ⊥
IsSamePlace (Some y) (Some z) = z.pi ≡ y.pi

-- Two superframes carry the same, and have the same places. Place A and place F are the same with their fields.
pub record IsSameSuperframe (s t : Superframe) : Type 0 where
  pub carries : t.carries ≡ s.carries
  pub places : AllZip IsSamePlace s.places t.places
  pub first : take 1 t.places ≡ take 1 s.places
  pub last : drop 5 t.places ≡ drop 5 s.places

-- the superframes of a transmission, which has none where it is no voice
abbrev pub superframes_of : Transmission → List Superframe
superframes_of (VoiceCall lc header leads gap superframes ending) = superframes
superframes_of (HeadersAlone lc header leads ending) = []
superframes_of (LateCall lc tail superframes ending) = superframes
superframes_of (Controls bursts) = []
superframes_of (DataTry csbks header blocks) = []
superframes_of (ForeignParts parts) = []

-- the transmission with these superframes in place of its own, where it has any
abbrev pub with_superframes : List Superframe → Transmission → Transmission
with_superframes others (VoiceCall lc header leads gap superframes ending) = VoiceCall lc header leads gap others ending
with_superframes others (HeadersAlone lc header leads ending) = HeadersAlone lc header leads ending
with_superframes others (LateCall lc tail superframes ending) = LateCall lc tail others ending
with_superframes others (Controls bursts) = Controls bursts
with_superframes others (DataTry csbks header blocks) = DataTry csbks header blocks
with_superframes others (ForeignParts parts) = ForeignParts parts

-- Two transmissions, each with the silences behind it, are the same but for the fields in their superframes.
pub record IsSameTransmission (s t : Transmission × ℕ) : Type 0 where
  pub superframes : AllZip IsSameSuperframe (superframes_of s.0) (superframes_of t.0)
  pub transmission : t.0 ≡ with_superframes (superframes_of t.0) s.0
  pub silences : t.1 ≡ s.1
