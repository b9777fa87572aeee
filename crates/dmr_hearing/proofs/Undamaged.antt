-- What is sent is a recording of its slot, with no damage.
use Rattle.std.proofs.Common.{◌≡◌, ◌≢◌, ℕ, List, Bool, Option, Some, refl, sym, subst, arith}
use Rattle.dmr_bits.specs.Bits.{bits_of_octets}
use Rattle.dmr_bptc.specs.Decoding.{IsDamaged}
use Rattle.dmr_bptc.specs.ProductWord.{column}
use Rattle.dmr_bptc.proofs.Near.{no_distance}
use Rattle.dmr_burst.specs.Burst.{IsEncoding}
use Rattle.dmr_burst.specs.Layout.{information_field}
use Rattle.dmr_burst.specs.declared.burst.Burst.TheVariants as burst
use Rattle.dmr_burst.specs.declared.emb.Emb.{Emb}
use Rattle.dmr_burst.specs.declared.sync.Side.TheVariants.{Ms}
use Rattle.dmr_burst.proofs.Same.{read_back}
use Rattle.dmr_hearing.specs.DataTypes.{payload_of}
use Rattle.dmr_hearing.specs.Damage.{Sends, IsDamagedPayload, IsSentSlot, IsRecordedAs, HasNoMobileSync}
use Rattle.dmr_bptc.specs.ProductWord.{IsWritten}
use Rattle.dmr_hearing.specs.Slots.{Data, VoiceSync, Voice, ForeignVoice, ForeignData}
use Rattle.dmr_hearing.specs.declared.data_types.Payload.{Payload}
use Rattle.dmr_hearing.specs.declared.data_types.Payload.TheVariants.{Word, Sealed, LinkControl, Raw, Nothing}
use Rattle.dmr_link.specs.declared.full_lc.FullLc.{FullLc}

undamaged : (message information received : List Bool) → received ≡ information → IsWritten message information
    → IsDamagedPayload Word information received
undamaged message information received same encoded =
    let itself : IsDamaged information information = (0, λ c h apart. omega (arith, no_distance (column information c))) in
    (information, encoded.word, refl, subst (IsDamaged information) (sym same) itself)

payload_undamaged : (payload : Payload) (information : List Bool) (lc : Option FullLc) (received : List Bool)
    → received ≡ information → Sends payload information lc
    → IsDamagedPayload payload information received
payload_undamaged Word information lc received same sends =
    let (message, encoded, plain) = sends in undamaged message information received same encoded
payload_undamaged (Sealed mask) information lc received same sends =
    let (message, sealed, encoded, plain) = sends in undamaged message information received same encoded
payload_undamaged (LinkControl lc_use) information lc received same sends =
    let (sent, message, is, encoded, control) = sends in undamaged message information received same encoded
payload_undamaged Raw information lc received same sends = same
payload_undamaged Nothing information lc received same sends = absurd sends

-- The encoding of a data burst records it, undamaged.
pub data_recorded : (colour kind : ℕ) (information : List Bool) (lc : Option FullLc) (octets : List ℕ)
    → IsSentSlot colour (Data kind information lc)
    → IsEncoding (burst.Data colour kind information) Ms (bits_of_octets octets)
    → IsRecordedAs colour (Data kind information lc) (Some octets)
data_recorded colour kind information lc octets sent encoding =
    let back = read_back (burst.Data colour kind information) Ms (bits_of_octets octets) encoding in record {
      sent = sent;
      damaged = record {
        sync = back.0;
        slot_type = back.1;
        payload = payload_undamaged (payload_of kind) information lc (information_field (bits_of_octets octets)) back.2 sent;
      };
    }

-- the octets that a mobile station sends for a voice sync are a recording of one
pub voice_sync_recorded : (colour : ℕ) (vocoder : List Bool) (octets : List ℕ)
    → IsEncoding (burst.VoiceSync vocoder) Ms (bits_of_octets octets)
    → IsRecordedAs colour VoiceSync (Some octets)
voice_sync_recorded colour vocoder octets encoding =
    let back = read_back (burst.VoiceSync vocoder) Ms (bits_of_octets octets) encoding in record { sent = tt; damaged = back.0 }

-- the same of a voice burst with the repeater's colour code
pub voice_recorded : (colour : ℕ) (emb : Emb) (embedded : ℕ) (vocoder : List Bool) (octets : List ℕ)
    → IsSentSlot colour (Voice emb embedded)
    → IsEncoding (burst.Voice emb embedded vocoder) Ms (bits_of_octets octets)
    → IsRecordedAs colour (Voice emb embedded) (Some octets)
voice_recorded colour emb embedded vocoder octets sent encoding =
    let back = read_back (burst.Voice emb embedded vocoder) Ms (bits_of_octets octets) encoding in
    record { sent = sent; damaged = (back.0, back.1) }

-- the same of a data burst with another colour code
pub foreign_data_recorded : (colour other kind : ℕ) (information : List Bool) (octets : List ℕ) → other ≢ colour
    → IsEncoding (burst.Data other kind information) Ms (bits_of_octets octets) → IsRecordedAs colour ForeignData (Some octets)
foreign_data_recorded colour other kind information octets apart encoding =
    let back = read_back (burst.Data other kind information) Ms (bits_of_octets octets) encoding in record {
      sent = tt;
      damaged = record { sync = back.0; other = other; kind = kind; foreign = apart; slot_type = back.1 };
    }

-- the same of a voice burst with another one, its centre more than three bits from both syncs of a mobile station
pub foreign_voice_recorded : (colour : ℕ) (emb : Emb) (embedded : ℕ) (vocoder : List Bool) (octets : List ℕ)
    → IsSentSlot colour (ForeignVoice emb) → HasNoMobileSync (bits_of_octets octets)
    → IsEncoding (burst.Voice emb embedded vocoder) Ms (bits_of_octets octets)
    → IsRecordedAs colour (ForeignVoice emb) (Some octets)
foreign_voice_recorded colour emb embedded vocoder octets sent far encoding =
    let back = read_back (burst.Voice emb embedded vocoder) Ms (bits_of_octets octets) encoding in
    record { sent = sent; damaged = (back.0, far) }
