-- Small lists, by computation.
use Rattle.std.proofs.Common.{◌≡◌, [], ◌∷◌, None, refl}
use Rattle.dmr_burst.specs.declared.emb.Emb.{Emb}
use Rattle.dmr_hearing.specs.Slots.{Data, Silent, Voice, VoiceSync}
use Rattle.dmr_making_laws.specs.Lists.{in_front_of, parts_from}
use Rattle.dmr_voice.specs.CallMeaning.{Absence, Control, Controls, DataBurst, DataTry, ForeignParts, SyncBurst, VoiceBurst}

-- Two control blocks with no silence between are one row,
row : (a b : Control)
    → in_front_of (Controls (a ∷ [])) 0 ((Controls (b ∷ []), 6) ∷ []) ≡ (Controls (a ∷ b ∷ []), 6) ∷ []
row a b = refl

-- and with one they are two.
apart : (a b : Control)
    → in_front_of (Controls (a ∷ [])) 1 ((Controls (b ∷ []), 6) ∷ [])
    ≡ (Controls (a ∷ []), 1) ∷ (Controls (b ∷ []), 6) ∷ []
apart a b = refl

-- A block of another colour code goes on with one of it, and not with a packet of the own one.
foreign_row :
    in_front_of (ForeignParts (DataBurst ∷ [])) 0 ((ForeignParts (DataBurst ∷ []), 6) ∷ [])
    ≡ (ForeignParts (DataBurst ∷ DataBurst ∷ []), 6) ∷ []
foreign_row = refl

foreign_alone :
    in_front_of (ForeignParts (DataBurst ∷ [])) 1 ((DataTry [] [] [], 6) ∷ [])
    ≡ (ForeignParts (DataBurst ∷ []), 1) ∷ (DataTry [] [] [], 6) ∷ []
foreign_alone = refl

-- Of another colour code a voice sync is heard with the EMB behind it, over the silences between.
heard : (first second : Emb)
    → parts_from None (Data 1 [] None ∷ VoiceSync ∷ Silent ∷ Voice first 0 ∷ Silent ∷ Voice second 0 ∷ Data 2 [] None ∷ [])
    ≡ DataBurst ∷ SyncBurst 1 first ∷ Absence ∷ VoiceBurst second ∷ DataBurst ∷ []
heard first second = refl
