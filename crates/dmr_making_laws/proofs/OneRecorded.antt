-- What goes out for a transmission of a script is a recording of the transmission of the channel that it is.
use Rattle.std.proofs.Common.{◌≡◌, ◌≢◌, ℕ, suc, Bool, List, [], ◌∷◌, map}
use Rattle.std.proofs.Common.{Option, Some, None, subst, sym, append-nil}
use Rattle.std.specs.List.{AllByRecursion, AllZip}
use Rattle.dmr_bits.specs.Bits.{bits_of_octets}
use Rattle.dmr_burst.specs.declared.sync.Side.TheVariants.{Ms}
use Rattle.dmr_hearing.proofs.Undamaged.{foreign_data_recorded, foreign_voice_recorded, voice_sync_recorded}
use Rattle.dmr_hearing.specs.Damage.{IsRecordedAs, IsSentSlot}
use Rattle.dmr_hearing.specs.Slots.{SentSlot, Silent, Data, VoiceSync, Voice, ForeignVoice, ForeignData, CutOff}
use Rattle.dmr_making.proofs.Recorded.{made_recorded}
use Rattle.dmr_making.proofs.SeenTries.{all_seen_as}
use Rattle.dmr_making.specs.Calls.{slots_sent}
use Rattle.dmr_making.specs.Made.{IsMade, vocoder_of_frame}
use Rattle.dmr_making.specs.Seen.{AreSeenAs, IsSeenAs}
use Rattle.dmr_making.specs.Senders.{IsSendable, colour_of}
use Rattle.dmr_making.specs.Sends.{SendsSaid, Transmitted}
use Rattle.dmr_making_laws.proofs.CallSlots.{call_told}
use Rattle.dmr_making_laws.proofs.EvenFields.{IsEvenVoice, sent_even}
use Rattle.dmr_making_laws.proofs.FarFromSyncs.{HasEvenOctets, far_from_syncs}
use Rattle.dmr_making_laws.proofs.OtherColours.{IsOtherThan}
use Rattle.dmr_making_laws.proofs.SentSlots.{IsDataOrSilent, no_sync, said_data}
use Rattle.dmr_making_laws.proofs.Told.{AreTold, IsVoiceSlot, foreign_slot, parts_sent, told_plain}
use Rattle.dmr_making_laws.specs.Lists.{heard_by, parts_from}
use Rattle.dmr_script.specs.Fits.{FitsSender}
use Rattle.dmr_script.specs.Foreign.{MayBeForeign}
use Rattle.dmr_script.specs.declared.packet.PacketTry.{PacketTry}
use Rattle.dmr_script.specs.declared.statement.Sender.{Sender}
use Rattle.dmr_script.specs.declared.statement.Sender.TheVariants as sender
use Rattle.dmr_script.specs.declared.statement.Transmission.{Transmission as Said}
use Rattle.dmr_script.specs.declared.statement.Transmission.TheVariants as said
use Rattle.dmr_voice.specs.CallMeaning.{ForeignParts}

-- 1. What goes out.

-- what goes out in these slots, from this frame on
abbrev pub AreMadeFrom : (colour frame : ℕ) → List SentSlot → List (Option (List ℕ)) → Type 0
AreMadeFrom colour frame [] [] = Unit {0}
AreMadeFrom colour frame [] (m ∷ ms) = ⊥
AreMadeFrom colour frame (s ∷ slots) [] = ⊥
AreMadeFrom colour frame (s ∷ slots) (m ∷ ms) = IsMade colour frame s m × AreMadeFrom colour (suc frame) slots ms

-- 2. Slots of the own colour code.

cut_recorded : (own frame : ℕ) (slot : SentSlot) (m : Option (List ℕ)) → IsVoiceSlot slot → IsMade own frame slot m
    → IsEvenVoice slot → IsRecordedAs own CutOff m
cut_recorded own frame slot m v is even =
    by m (subst (λ (s : SentSlot). IsMade own frame s m) v.2 is) (subst IsEvenVoice v.2 even)
  where
    by : (m : Option (List ℕ)) → IsMade own frame (Voice v.0 v.1) m → HasEvenOctets v.1 → IsRecordedAs own CutOff m
    by None is even = absurd is
    by (Some octets) is even = record {
      sent = tt;
      damaged = far_from_syncs v.0 v.1 (vocoder_of_frame frame) Ms (bits_of_octets octets) even is.encoding;
    }

plain_recorded : (own frame : ℕ) (h slot : SentSlot) (m : Option (List ℕ)) → slot ≡ h → IsSentSlot own slot
    → IsMade own frame slot m → IsRecordedAs own h m
plain_recorded own frame h slot m e may is =
    made_recorded own frame h m (subst (IsSentSlot own) e may) (subst (λ (s : SentSlot). IsMade own frame s m) e is)

own_one : (own frame : ℕ) (h slot : SentSlot) (m : Option (List ℕ)) → IsSeenAs h slot → IsSentSlot own slot → IsEvenVoice slot
    → IsMade own frame slot m → IsRecordedAs own h m
own_one own frame Silent slot m e may even is = plain_recorded own frame Silent slot m e may is
own_one own frame (Data kind information lc) slot m e may even is =
    plain_recorded own frame (Data kind information lc) slot m e may is
own_one own frame VoiceSync slot m e may even is = plain_recorded own frame VoiceSync slot m e may is
own_one own frame (Voice emb embedded) slot m e may even is = plain_recorded own frame (Voice emb embedded) slot m e may is
own_one own frame (ForeignVoice emb) slot m e may even is = plain_recorded own frame (ForeignVoice emb) slot m e may is
own_one own frame ForeignData slot m e may even is = plain_recorded own frame ForeignData slot m e may is
own_one own frame CutOff slot m e may even is = cut_recorded own frame slot m e is even

own_recorded : (own frame : ℕ) (hs slots : List SentSlot) (ms : List (Option (List ℕ))) → AllZip IsSeenAs hs slots
    → AllByRecursion (IsSentSlot own) slots → AllByRecursion IsEvenVoice slots → AreMadeFrom own frame slots ms
    → AllZip (IsRecordedAs own) hs ms
own_recorded own frame [] [] [] s may even is = tt
own_recorded own frame [] [] (m ∷ ms) s may even is = absurd is
own_recorded own frame [] (x ∷ slots) ms s may even is = absurd s
own_recorded own frame (h ∷ hs) [] ms s may even is = absurd s
own_recorded own frame (h ∷ hs) (x ∷ slots) [] s may even is = absurd is
own_recorded own frame (h ∷ hs) (x ∷ slots) (m ∷ ms) s may even is =
    (own_one own frame h x m s.0 may.0 even.0 is.0, own_recorded own (suc frame) hs slots ms s.1 may.1 even.1 is.1)

-- 3. Slots of another one.

foreign_one : (own colour frame : ℕ) (slot : SentSlot) (m : Option (List ℕ)) → colour ≢ own → IsSentSlot colour slot
    → IsEvenVoice slot → IsMade colour frame slot m → IsRecordedAs own (foreign_slot slot) m
foreign_one own colour frame Silent m other may even is = made_recorded own frame Silent m tt is
foreign_one own colour frame (Data kind information lc) None other may even is = absurd is
foreign_one own colour frame (Data kind information lc) (Some octets) other may even is =
    foreign_data_recorded own colour kind information octets other is.encoding
foreign_one own colour frame VoiceSync None other may even is = absurd is
foreign_one own colour frame VoiceSync (Some octets) other may even is =
    voice_sync_recorded own (vocoder_of_frame frame) octets is.encoding
foreign_one own colour frame (Voice emb embedded) None other may even is = absurd is
foreign_one own colour frame (Voice emb embedded) (Some octets) other may even is =
    let vocoder : List Bool = vocoder_of_frame frame in
    foreign_voice_recorded own emb embedded vocoder octets (subst (λ (c : ℕ). c ≢ own) (sym may) other)
    (far_from_syncs emb embedded vocoder Ms (bits_of_octets octets) even is.encoding) is.encoding
foreign_one own colour frame (ForeignVoice emb) m other may even is = absurd is
foreign_one own colour frame ForeignData m other may even is = absurd is
foreign_one own colour frame CutOff m other may even is = absurd is

foreign_recorded : (own colour frame : ℕ) (slots : List SentSlot) (ms : List (Option (List ℕ))) → colour ≢ own
    → AllByRecursion (IsSentSlot colour) slots → AllByRecursion IsEvenVoice slots → AreMadeFrom colour frame slots ms
    → AllZip (IsRecordedAs own) (map foreign_slot slots) ms
foreign_recorded own colour frame [] [] other may even is = tt
foreign_recorded own colour frame [] (m ∷ ms) other may even is = absurd is
foreign_recorded own colour frame (x ∷ slots) [] other may even is = absurd is
foreign_recorded own colour frame (x ∷ slots) (m ∷ ms) other may even is = (
  foreign_one own colour frame x m other may.0 even.0 is.0,
  foreign_recorded own colour (suc frame) slots ms other may.1 even.1 is.1,
)

-- where none of its slots has a voice burst they are told
data_told : (slots : List SentSlot) → AllByRecursion IsDataOrSilent slots → AreTold None slots
data_told slots p = subst (AreTold None) (append-nil slots) (told_plain slots [] (no_sync slots p) tt)

-- What is sent with another colour code is told.
pub foreign_told : (colour : ℕ) (last : Option PacketTry) (t : Said) (sent : Transmitted) → IsSendable last t → MayBeForeign t
    → SendsSaid colour last t sent → AreTold None sent.slots
foreign_told colour last (said.Call c) sent fit may sends =
    subst (λ (x : Transmitted). AreTold None x.slots) (sym sends.is)
    (call_told colour c sends.forms c.shape.start sends.forms_are fit.start may.embs)
foreign_told colour last (said.Packet x) sent fit may sends =
    data_told sent.slots (said_data colour last (said.Packet x) sent tt sends)
foreign_told colour last (said.Again x) sent fit may sends =
    data_told sent.slots (said_data colour last (said.Again x) sent tt sends)
foreign_told colour last (said.ShortData x) sent fit may sends =
    data_told sent.slots (said_data colour last (said.ShortData x) sent tt sends)
foreign_told colour last (said.Status x) sent fit may sends =
    data_told sent.slots (said_data colour last (said.Status x) sent tt sends)
foreign_told colour last (said.Answer x) sent fit may sends =
    data_told sent.slots (said_data colour last (said.Answer x) sent tt sends)
foreign_told colour last (said.Control x) sent fit may sends =
    data_told sent.slots (said_data colour last (said.Control x) sent tt sends)
foreign_told colour last (said.Burst x) sent fit may sends =
    data_told sent.slots (said_data colour last (said.Burst x) sent tt sends)

-- 4. Any.

-- What goes out for a transmission from this frame on is a recording of what is heard of it.
pub one_recorded : (own : ℕ) (last : Option PacketTry) (frame : ℕ) (from : Sender) (t : Said) (sent : Transmitted)
    → (ms : List (Option (List ℕ))) → IsOtherThan own from → FitsSender from t → IsSendable last t
    → SendsSaid (colour_of own from) last t sent → AreMadeFrom (colour_of own from) frame sent.slots ms
    → AllZip (IsRecordedAs own) (slots_sent own (heard_by from sent)) ms
one_recorded own last frame sender.Own t sent ms other may fit sends is =
    let seen : AreSeenAs own sent = all_seen_as own last t sent fit sends in
    own_recorded own frame (slots_sent own sent.transmission) sent.slots ms seen.seen seen.may_be_sent
    (sent_even own last t sent sends) is
one_recorded own last frame (sender.Foreign colour) t sent ms other may fit sends is =
    let seen : AreSeenAs colour sent = all_seen_as colour last t sent fit sends in
    let told : AreTold None sent.slots = foreign_told colour last t sent fit may.1 sends in
    let same : slots_sent own (ForeignParts (parts_from None sent.slots)) ≡ map foreign_slot sent.slots =
    parts_sent None sent.slots told in
    subst (λ (l : List SentSlot). AllZip (IsRecordedAs own) l ms) (sym same)
    (foreign_recorded own colour frame sent.slots ms other seen.may_be_sent (sent_even colour last t sent sends) is)
