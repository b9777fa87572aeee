-- What is printed of how much was carried: each count behind its name, with a space between each two words.
use Rattle.std.specs.Prelude.{ℕ, ◌*◌, List, ◌++◌}
use Rattle.std.specs.List.{join_with_byte}
use Rattle.dmr_text.specs.Spelling.{frames_words, records_words}
use Rattle.dmr_text.specs.declared.carried.Carried.{Carried}
use Rattle.dmr_text.specs.declared.carried.Carried.TheVariants as carried

-- A recording has the records of two slots in each frame.
abbrev pub carried_text : Carried → List ℕ
carried_text (carried.Recording frames) = join_with_byte 32 (frames_words frames ++ records_words (2 * frames))
carried_text (carried.List records) = join_with_byte 32 (records_words records)
