-- What words of a line are.
use Rattle.std.specs.Prelude.{ℕ, List, []}
use Rattle.dmr_script.specs.declared.token.Token.{Token}
use Rattle.dmr_script.specs.declared.token.Token.TheVariants.{End, Text, Unreadable, Word}

-- the octets of a word or a text, and none at the end of a line
abbrev pub token_octets : Token → List ℕ
token_octets (Word word) = word.now
token_octets (Text text) = text.now
token_octets (Unreadable text) = text.now
token_octets End = []
