-- What a slot may send, what it is heard as, and its vocoder bits.
use Rattle.std.specs.Prelude.{◌≡◌, ℕ, Bool, true, false, List, replicate, Option, Some, None}
use Rattle.dmr_burst.specs.declared.emb.Emb.{Emb}
use Rattle.dmr_hearing.specs.declared.heard.Heard.{Heard}
use Rattle.dmr_link.specs.declared.full_lc.FullLc.{FullLc}
use Rattle.dmr_bits.specs.Bits.{bits_of_octets}
use Rattle.dmr_burst.specs.Layout.{vocoder_field}

-- What one slot of the uplink sends.
pub data SentSlot : Type 0 where
  -- nothing
  Silent : SentSlot
  -- a data burst of the own colour code: its data type, its information as it is repeated, and the link control of a voice LC
  -- header and of a terminator
  Data : ℕ → List Bool → Option FullLc → SentSlot
  -- a burst with a voice sync, of any colour code
  VoiceSync : SentSlot
  -- a voice burst of a call, with its EMB and its embedded field as it is received
  Voice : Emb → ℕ → SentSlot
  -- a voice burst of another colour code, with its EMB
  ForeignVoice : Emb → SentSlot
  -- a data burst of another colour code
  ForeignData : SentSlot
  -- a burst of a call whose header isn't in the list, in front of its first A
  CutOff : SentSlot

-- What a silent slot is heard as.
abbrev pub silence : Heard
silence = record { data_burst = None; voice = false; emb = None; embedded = 0; vocoder = replicate 216 false }

-- What a slot that was sent is heard as. A data burst and a voice sync may have any EMB, and a voice burst of a call may read as
-- data or as voice: a call looks at neither there.
abbrev pub IsHeardAs : SentSlot → Heard → Type 0
IsHeardAs Silent heard = heard ≡ silence
IsHeardAs (Data kind information lc) heard =
    (heard.data_burst ≡ Some (record { kind = kind; information = information; link_control = lc })) × (heard.voice ≡ false)
IsHeardAs VoiceSync heard = (heard.data_burst ≡ None) × (heard.voice ≡ true)
IsHeardAs (Voice emb embedded) heard = (heard.emb ≡ Some emb) × (heard.embedded ≡ embedded)
IsHeardAs (ForeignVoice emb) heard = (heard.data_burst ≡ None) × (heard.voice ≡ false) × (heard.emb ≡ Some emb)
IsHeardAs ForeignData heard = (heard.data_burst ≡ None) × (heard.voice ≡ false)
IsHeardAs CutOff heard = (heard.data_burst ≡ None) × (heard.voice ≡ false)

-- The vocoder bits of a slot.
abbrev pub vocoder_of : Option (List ℕ) → List Bool
vocoder_of None = replicate 216 false
vocoder_of (Some octets) = vocoder_field (bits_of_octets octets)
