-- What is printed of what was made of a capture: each count behind its name, with a space between each two words.
use Rattle.std.specs.Prelude.{ℕ, List, [], ◌∷◌, codes, decimal}
use Rattle.std.specs.List.{join_with_byte}
use Rattle.dmr_dmrd.specs.declared.counts.ImportedBursts.{ImportedBursts}

abbrev pub imported_bursts_text : ImportedBursts → List ℕ
imported_bursts_text i = join_with_byte 32 (codes "frames" ∷ decimal i.frames ∷ codes "slot-1" ∷ decimal i.slot_1
    ∷ codes "slot-2" ∷ decimal i.slot_2 ∷ codes "lost" ∷ decimal i.lost ∷ codes "late" ∷ decimal i.late
    ∷ codes "other" ∷ decimal i.other ∷ [])
