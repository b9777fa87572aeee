-- Recordings that are damaged at no rate, and those of which all is left out.
use Rattle.std.proofs.Common.{◌≡◌, ℕ, List, [], ◌∷◌, Some, None, length, get_or, replicate, refl, sym, ◌∙◌, ap, arith}
use Rattle.std.specs.List.{AllByRecursion}
use Rattle.dmr_record.specs.Uplink.{IsFrame, UplinkSlot, UplinkSlots}
use Rattle.dmr_damage.specs.Passing.{silence_in_both}
use Rattle.dmr_damage.specs.Rates.{AreAtRate, IsFrameAtRate, IsSlotAtRate}
use Rattle.dmr_damage.proofs.Running.{two_slots}

slot_same : (slot out : UplinkSlot) → IsSlotAtRate 0 0 slot out → out ≡ slot
slot_same None out is = is
slot_same (Some burst) None is = absurd (is.kept refl refl)
slot_same (Some burst) (Some damaged) is = ap Some (is.same refl)

slot_lost : (errors : ℕ) (slot out : UplinkSlot) → IsSlotAtRate errors 10000 slot out → out ≡ None
slot_lost errors None out is = is
slot_lost errors (Some burst) out is = is.lost (omega arith)

pair : (a b c d : UplinkSlot) → a ≡ c → b ≡ d → a ∷ b ∷ [] ≡ c ∷ d ∷ []
pair a b c d e f = cc

frame_same : (frame out : UplinkSlots) → IsFrame frame → IsFrame out → IsFrameAtRate 0 0 frame out → out ≡ frame
frame_same frame out a b is =
    sym (two_slots out b.0)
    ∙ pair (get_or out 0 None) (get_or out 1 None) (get_or frame 0 None) (get_or frame 1 None)
    (slot_same (get_or frame 0 None) (get_or out 0 None) is.first) (slot_same (get_or frame 1 None) (get_or out 1 None) is.second)
    ∙ two_slots frame a.0

frame_lost : (errors : ℕ) (frame out : UplinkSlots) → IsFrame out → IsFrameAtRate errors 10000 frame out → out ≡ silence_in_both
frame_lost errors frame out b is =
    sym (two_slots out b.0)
    ∙ pair (get_or out 0 None) (get_or out 1 None) None None
    (slot_lost errors (get_or frame 0 None) (get_or out 0 None) is.first)
    (slot_lost errors (get_or frame 1 None) (get_or out 1 None) is.second)

more : (a b : UplinkSlots) (as' bs : List UplinkSlots) → a ≡ b → as' ≡ bs → a ∷ as' ≡ b ∷ bs
more a b as' bs e f = cc

-- where nothing is damaged all is the same
pub frames_same : (frames outs : List UplinkSlots) → AllByRecursion IsFrame frames → AllByRecursion IsFrame outs
    → AreAtRate 0 0 frames outs → outs ≡ frames
frames_same [] [] a b all = refl
frames_same [] (o ∷ outs) a b all = absurd all
frames_same (f ∷ frames) [] a b all = absurd all
frames_same (f ∷ frames) (o ∷ outs) a b all =
    more o f outs frames (frame_same f o a.0 b.0 all.0) (frames_same frames outs a.1 b.1 all.1)

-- where each burst is left out all is silent
pub frames_lost : (errors : ℕ) (frames outs : List UplinkSlots) → AllByRecursion IsFrame outs → AreAtRate errors 10000 frames outs
    → outs ≡ replicate (length frames) silence_in_both
frames_lost errors [] [] b all = refl
frames_lost errors [] (o ∷ outs) b all = absurd all
frames_lost errors (f ∷ frames) [] b all = absurd all
frames_lost errors (f ∷ frames) (o ∷ outs) b all =
    more o silence_in_both outs (replicate (length frames) silence_in_both) (frame_lost errors f o b.0 all.0)
    (frames_lost errors frames outs b.1 all.1)
