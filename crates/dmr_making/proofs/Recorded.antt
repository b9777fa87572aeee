-- What goes out is a recording of what is sent.
use Rattle.std.proofs.Common.{ℕ, List, Option, Some, None, sym, subst, refl}
use Rattle.dmr_hearing.proofs.Undamaged.{data_recorded, voice_sync_recorded, voice_recorded}
use Rattle.dmr_hearing.specs.Damage.{IsSentSlot, IsRecordedAs}
use Rattle.dmr_hearing.specs.Slots.{SentSlot, Silent, Data, VoiceSync, Voice, ForeignVoice, ForeignData, CutOff}
use Rattle.dmr_making.specs.Made.{IsMade, vocoder_of_frame}

-- What is made for a slot records it, undamaged.
pub made_recorded : (colour frame : ℕ) (slot : SentSlot) (made : Option (List ℕ)) → IsSentSlot colour slot
    → IsMade colour frame slot made → IsRecordedAs colour slot made
made_recorded colour frame Silent made may is =
    subst (λ (m : Option (List ℕ)). IsRecordedAs colour Silent m) (sym is) (record { sent = tt; damaged = refl })
made_recorded colour frame (Data kind information lc) None may is = absurd is
made_recorded colour frame (Data kind information lc) (Some octets) may is =
    data_recorded colour kind information lc octets may is.encoding
made_recorded colour frame VoiceSync None may is = absurd is
made_recorded colour frame VoiceSync (Some octets) may is =
    voice_sync_recorded colour (vocoder_of_frame frame) octets is.encoding
made_recorded colour frame (Voice emb embedded) None may is = absurd is
made_recorded colour frame (Voice emb embedded) (Some octets) may is =
    voice_recorded colour emb embedded (vocoder_of_frame frame) octets may is.encoding
made_recorded colour frame (ForeignVoice emb) made may is = absurd is
made_recorded colour frame ForeignData made may is = absurd is
made_recorded colour frame CutOff made may is = absurd is
