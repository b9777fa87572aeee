-- What a command line of `compare` asks for.
use Rattle.std.specs.Prelude.{◌≡◌, ◌↔◌, ◌&&◌, ℕ, suc, Bool, IsTrue, Contains, Option, Some, None, codes}
use Rattle.std.specs.Prelude.{FitsSigned, ℤ, pos, negsuc}
use Rattle.std.specs.Str.Parse.{IsNumeral, signed_digits_value, without_leading_sign}
use Rattle.clap.specs.Words.{one_text, Text}
use Rattle.clap.specs.declared.parser.matches.Found.{Found}
use Rattle.dmr_compare.specs.declared.settings.CompareSettings.{CompareSettings}
use Rattle.dmr_compare.specs.declared.settings.Ignored.{Ignored}
use Rattle.dmr_compare.specs.declared.settings.Shift.{Shift}
use Rattle.dmr_compare.specs.declared.settings.Shift.TheVariants.{Earlier, Later}
use Rattle.dmr_files.specs.Place.{IsNamed, is_standard}
use Rattle.dmr_options.specs.Found.{IsFlagOf, text_of, texts_of}
use Rattle.dmr_tools.specs.declared.comparison.Comparison.{Comparison}
use mir.Syntax.{w32}

-- the shift by so many frames, which are earlier ones below 0
abbrev pub shift_by : ℤ → Shift
shift_by (pos frames) = Later frames
shift_by (negsuc frames) = Earlier (suc frames)

-- The shift is the number that the text of the option `shift` spells, where that is given.
pub record IsShiftOf (found : Found) (shift : Option Shift) : Type 0 where
  pub left_out : one_text found (codes "shift") ≡ None → shift ≡ None
  pub given : (text : Text) → one_text found (codes "shift") ≡ Some text
      → IsNumeral 10 (without_leading_sign text) → FitsSigned w32 (signed_digits_value 10 text)
      → shift ≡ Some (shift_by (signed_digits_value 10 text))

-- A part of bursts is ignored exactly where the option `ignore` names it.
pub record IsIgnoredOf (found : Found) (ignored : Ignored) : Type 0 where
  pub cach : IsTrue ignored.cach ↔ Contains (texts_of found (codes "ignore")) (codes "cach")
  pub vocoder : IsTrue ignored.vocoder ↔ Contains (texts_of found (codes "ignore")) (codes "vocoder")

-- The settings are those of the options of their names.
pub record AreCompareSettings (found : Found) (settings : CompareSettings) : Type 0 where
  pub shift : IsShiftOf found settings.shift
  pub ignored : IsIgnoredOf found settings.ignored
  pub quiet : IsFlagOf found (codes "quiet") settings.is_quiet

-- The files are those of the words `first` and `second`.
pub record IsComparisonOf (found : Found) (comparison : Comparison) : Type 0 where
  pub first : IsNamed (text_of found (codes "first")) comparison.first
  pub second : IsNamed (text_of found (codes "second")) comparison.second
  pub settings : AreCompareSettings found comparison.settings

-- Both files are standard input.
abbrev pub shares_input : Comparison → Bool
shares_input comparison = is_standard comparison.first && is_standard comparison.second
