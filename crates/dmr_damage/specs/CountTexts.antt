-- What is printed of how much was damaged: each count behind its name, with a space between each two words.
use Rattle.std.specs.Prelude.{ℕ, List, [], ◌∷◌, codes, decimal}
use Rattle.std.specs.List.{join_with_byte}
use Rattle.dmr_damage.specs.declared.counts.Damaged.{Damaged}

abbrev pub damaged_text : Damaged → List ℕ
damaged_text d = join_with_byte 32 (codes "frames" ∷ decimal d.frames ∷ codes "bursts" ∷ decimal d.bursts
    ∷ codes "changed" ∷ decimal d.changed ∷ codes "silenced" ∷ decimal d.silenced ∷ codes "bits" ∷ decimal d.bits ∷ [])
