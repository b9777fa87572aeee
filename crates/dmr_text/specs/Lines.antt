-- What a line is by its first word.
use Rattle.std.specs.Prelude.{ℕ, List, codes}
use Rattle.dmr_text.specs.TextFaults.{BeginsWith, IsOfRecord}
use Rattle.dmr_text.specs.declared.said.LineKind.{LineKind}
use Rattle.dmr_text.specs.declared.said.LineKind.TheVariants.{Frames, Records, Record}

-- a line of these words is of this kind
abbrev pub IsLineOfKind : LineKind → List (List ℕ) → Type 0
IsLineOfKind Frames words = BeginsWith (codes "frames") words
IsLineOfKind Records words = BeginsWith (codes "records") words
IsLineOfKind Record words = IsOfRecord words
