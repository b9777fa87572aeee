-- What goes out for a slot that is sent: nothing, or the octets of one burst of a mobile station.
use Rattle.std.specs.Prelude.{◌≡◌, ℕ, ◌+◌, Bool, List, ◌++◌, Option, Some, None}
use Rattle.dmr_bits.specs.Bits.{bits_of, bits_of_octets}
use Rattle.dmr_burst.specs.Burst.{IsEncoding}
use Rattle.dmr_burst.specs.declared.burst.Burst.{Burst}
use Rattle.dmr_burst.specs.declared.burst.Burst.TheVariants as burst
use Rattle.dmr_burst.specs.declared.sync.Side.TheVariants as side
use Rattle.dmr_hearing.specs.Slots.{SentSlot, Silent, Data, VoiceSync, Voice, ForeignVoice, ForeignData, CutOff}

-- three of a list, one behind the other
abbrev pub thrice : List Bool → List Bool
thrice bits = bits ++ (bits ++ bits)

-- The 216 vocoder bits of a voice burst in this frame: nine times the 24 bits of 800000 and its number. So a burst of a downlink
-- shows from which frame its voice came, and a place that was filled with zeros is told from it. This project's own.
unfoldable pub vocoder_of_frame : ℕ → List Bool
vocoder_of_frame frame = thrice (thrice (bits_of 24 (0x800000 + frame)))

-- these octets are the exact encoding of a burst that a mobile station sends
pub record IsMobileBurst (b : Burst) (octets : List ℕ) : Type 0 where
  pub encoding : IsEncoding b side.Ms (bits_of_octets octets)

-- a burst goes out, and it is this one
abbrev pub GoesOutAs : Burst → Option (List ℕ) → Type 0
GoesOutAs b None = ⊥
GoesOutAs b (Some octets) = IsMobileBurst b octets

-- What goes out in this frame for what a slot sends, with this colour code. A script says each burst exactly, as one of its own
-- colour code: what another colour code hears of it is said elsewhere.
abbrev pub IsMade : (colour frame : ℕ) → SentSlot → Option (List ℕ) → Type 0
IsMade colour frame Silent made = made ≡ None
IsMade colour frame (Data kind information lc) made = GoesOutAs (burst.Data colour kind information) made
IsMade colour frame VoiceSync made = GoesOutAs (burst.VoiceSync (vocoder_of_frame frame)) made
IsMade colour frame (Voice emb embedded) made = GoesOutAs (burst.Voice emb embedded (vocoder_of_frame frame)) made
IsMade colour frame (ForeignVoice emb) made = ⊥
IsMade colour frame ForeignData made = ⊥
IsMade colour frame CutOff made = ⊥
