-- What was given in turn to a text that takes strips.
use Rattle.std.proofs.Common.{ℕ, ◌+◌, List, [], ◌∷◌, Option, sym, subst}
use Rattle.std.proofs.lemmas.List.Sums.{sum_by-cons}
use Rattle.std.specs.List.{sum_by}
use Rattle.dmr_lines.specs.Line.{PutsLine}
use Rattle.dmr_listing.specs.ListingRules.{GivenInTurn, ListingTurn}
use Rattle.dmr_listing.specs.Strips.{IsStripped, IsStrippedUpToFault, Picture}
use Rattle.dmr_listing.specs.declared.frames.Frames.{Frames}
use Rattle.dmr_recording.specs.Recordings.{RecordedSlot}
use Rattle.dmr_recording.specs.declared.fault_line.FaultLine.{FaultLine}
use Rattle.dmr_recording.specs.declared.recording.Recording.{Recording}
use Rattle.dmr_show.proofs.Printed.{puts_as, puts_more, puts_none, puts_one}
use Rattle.dmr_show.specs.Printed.{PutsLines}
use Rattle.dmr_web.specs.Pictures.{IsPicturedToEnd, IsPicturedToFault, picture_lines}

-- What a text makes of each strip that it is given.
abbrev pub PutsEachStrip : {L : Type 0} → (L → Picture → L → Type 0) → (L → Option (List ℕ)) → Type 0
PutsEachStrip {L} Takes held_of = (a : L) (x : Picture) (b : L) → Takes a x b → PutsLines (picture_lines x) (held_of a) (held_of b)

strips_put : {L : Type 0} (Takes : L → Picture → L → Type 0) (held_of : L → Option (List ℕ)) → PutsEachStrip Takes held_of
    → (old new : L) (strips : List Picture) → GivenInTurn Takes old strips new
    → PutsLines (sum_by picture_lines strips) (held_of old) (held_of new)
strips_put Takes held_of each old new [] same =
    subst (λ l. PutsLines 0 (held_of old) (held_of l)) (sym same) (puts_none (held_of old))
strips_put Takes held_of each old new (x ∷ xs) (next, first, rest) =
    puts_as (picture_lines x + sum_by picture_lines xs) _ _ _ (sym (sum_by-cons picture_lines x xs))
    (puts_more _ _ _ _ _ (each old x next first) (strips_put Takes held_of each next new xs rest))

-- a recording that was read whole is drawn whole
pub pictured : {L : Type 0} (old new : L) (Takes : L → Picture → L → Type 0) (held_of : L → Option (List ℕ)) (of : Recording)
    (frames : Frames) (slots : List RecordedSlot) (end : ListingTurn) (a b k : Option (List ℕ))
    → IsStripped Takes of frames slots [] end a b old new → PutsEachStrip Takes held_of → PutsLine (held_of new) k
    → IsPicturedToEnd of frames 1 a b (held_of old) k
pictured old new Takes held_of of frames slots end a b k stripped each line = record {
  slots = slots;
  lines = stripped.lines;
  end = end;
  read = stripped.read;
  strips = record {
    strips = stripped.strips;
    drawn = stripped.drawn;
    put = puts_more _ 1 _ _ _ (strips_put Takes held_of each old new stripped.strips stripped.given) (puts_one _ _ line);
  };
}

-- one that was read up to a fault is drawn up to it
pub pictured_to_fault : {L : Type 0} (old new : L) (Takes : L → Picture → L → Type 0) (held_of : L → Option (List ℕ))
    (of : Recording) (frames : Frames) (fault : FaultLine) (a b k : Option (List ℕ))
    → IsStrippedUpToFault Takes of frames fault a b old new → PutsEachStrip Takes held_of → PutsLine (held_of new) k
    → IsPicturedToFault of frames 1 fault a b (held_of old) k
pictured_to_fault old new Takes held_of of frames fault a b k stripped each line = record {
  slots = stripped.slots;
  lines = stripped.lines;
  read = stripped.read;
  strips = record {
    strips = stripped.strips;
    drawn = stripped.drawn;
    put = puts_more _ 1 _ _ _ (strips_put Takes held_of each old new stripped.strips stripped.given) (puts_one _ _ line);
  };
}
