-- What a command line gives for an option.
use Rattle.std.specs.Prelude.{◌≡◌, ◌<◌, ◌^◌, ℕ, Bool, true, false, List, [], Option, Some, None, codes, option_map}
use Rattle.std.specs.Prelude.{unwrap_or}
use Rattle.std.specs.Str.Parse.{IsNumeral, digits_value, without_leading_plus}
use Rattle.clap.specs.Words.{first_value, matched_of, one_text, raw_values, Text}
use Rattle.clap.specs.declared.parser.matches.Found.{Found}

-- the text that an option was given, or has where it is left out
abbrev pub text_of : Found → Text → Text
text_of found option = unwrap_or (first_value found option) []

-- the texts that an option was given, in their order; none where it is left out
abbrev pub texts_of : Found → Text → List Text
texts_of found option = unwrap_or (option_map raw_values (matched_of found option)) []

-- the number of so many bits that the text of an option spells
abbrev pub IsNumberOf : ℕ → Found → Text → ℕ → Type 0
IsNumberOf width found option number = (text : Text) → one_text found option ≡ Some text
    → IsNumeral 10 (without_leading_plus text) → digits_value 10 (without_leading_plus text) < 2 ^ width
    → number ≡ digits_value 10 (without_leading_plus text)

-- the number of so many bits that the text of an option spells, where the option is given
pub record IsGivenBy (width : ℕ) (found : Found) (option : Text) (number : Option ℕ) : Type 0 where
  pub left_out : one_text found option ≡ None → number ≡ None
  pub given : (text : Text) → one_text found option ≡ Some text
      → IsNumeral 10 (without_leading_plus text) → digits_value 10 (without_leading_plus text) < 2 ^ width
      → number ≡ Some (digits_value 10 (without_leading_plus text))

-- An option that takes no text is set where it is given.
pub record IsFlagOf (found : Found) (option : Text) (flag : Bool) : Type 0 where
  pub left_out : one_text found option ≡ None → flag ≡ false
  pub unset : one_text found option ≡ Some (codes "false") → flag ≡ false
  pub set : one_text found option ≡ Some (codes "true") → flag ≡ true
