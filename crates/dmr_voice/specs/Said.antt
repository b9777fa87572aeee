-- What the rules say of a place.
use Rattle.std.specs.Prelude.{ℕ, Bool, List, Option}
use Rattle.dmr_link.specs.declared.full_lc.FullLc.{FullLc}
use Rattle.dmr_voice.specs.declared.place.Place.{Place}
use Rattle.dmr_voice.specs.declared.said.Role.{Role}

-- What a repeated burst holds, before its embedded field is made.
pub data Content : Type 0 where
  -- a data burst: its data type, and its information with all check bits
  Data : ℕ → List Bool → Content
  -- place A, which has a voice sync: its vocoder bits
  VoiceA : List Bool → Content
  -- a place from B to E: PI, vocoder bits, and the superframe's link control, of which it has a field, where there is one
  VoiceBToE : Place → Bool → List Bool → Option FullLc → Content
  -- place F: PI, its embedded field as it is received, and vocoder bits
  VoiceF : Bool → ℕ → List Bool → Content

-- What the rules say of a place: nothing goes out, or a burst that holds this, with this role in a call.
pub data Said : Type 0 where
  Nothing : Said
  Repeat : Content → Role → Said
