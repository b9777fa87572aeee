-- The tables of words, each by one computation over all of them.
use Rattle.std.proofs.Common.{◌≡◌, ◌-◌, ◌^◌, true, refl}
use Rattle.dmr_codes.specs.Seven.{golay20_columns, residue16_columns, hamming13_columns, hamming15_columns}
use Rattle.dmr_codes.specs.Seven.{hamming16_columns, hamming17_columns}
use Rattle.dmr_codes.specs.WordTables.{are_words, are_words_each, tells}
use Rattle.dmr_codes.specs.declared.golay.TheConstants as golay
use Rattle.dmr_codes.specs.declared.hamming.TheConstants as hamming
use Rattle.dmr_codes.specs.declared.residue.TheConstants as residue

-- the Golay code's table of words has at each number the word whose information it is
pub golay20_words : are_words 20 8 golay20_columns golay.WORDS ≡ true
golay20_words = refl

-- the Golay code's table of errors tells which information bits any error of up to three bits turns
pub golay20_tells : tells 20 8 golay.WORDS golay.WRONG 20 0 3 ≡ true
golay20_tells = refl

-- the same of words, for the quadratic residue code
pub residue16_words : are_words 16 7 residue16_columns residue.WORDS ≡ true
residue16_words = refl

-- the same of errors, for the quadratic residue code and at most two wrong bits
pub residue16_tells : tells 16 7 residue.WORDS residue.WRONG 16 0 2 ≡ true
residue16_tells = refl

-- the same of words, for the Hamming code of 15 bits
pub hamming15_words : are_words 15 11 hamming15_columns hamming.WORDS_15 ≡ true
hamming15_words = refl

-- the same of errors, for the Hamming code of 15 bits and at most one wrong bit
pub hamming15_tells : tells 15 11 hamming.WORDS_15 hamming.WRONG_15 15 0 1 ≡ true
hamming15_tells = refl

-- the same of words, for the Hamming code of 13 bits
pub hamming13_words : are_words 13 9 hamming13_columns hamming.WORDS_13 ≡ true
hamming13_words = refl

-- the same of errors, for the Hamming code of 13 bits and at most one wrong bit
pub hamming13_tells : tells 13 9 hamming.WORDS_13 hamming.WRONG_13 13 0 1 ≡ true
hamming13_tells = refl

-- the Hamming code of 16 bits has in its upper table the words with five zeros last in the information
pub hamming16_upper : are_words_each 16 11 (2 ^ 5) (2 ^ (11 - 5)) hamming16_columns hamming.UPPER_16 ≡ true
hamming16_upper = refl

-- the same code has in its lower table the words with six zeros first in the information
pub hamming16_lower : are_words_each 16 11 1 (2 ^ 5) hamming16_columns hamming.LOWER_16 ≡ true
hamming16_lower = refl

-- the Hamming code of 17 bits has in its upper table the words with six zeros last in the information
pub hamming17_upper : are_words_each 17 12 (2 ^ 6) (2 ^ (12 - 6)) hamming17_columns hamming.UPPER_17 ≡ true
hamming17_upper = refl

-- the same code has in its lower table the words with six zeros first in the information
pub hamming17_lower : are_words_each 17 12 1 (2 ^ 6) hamming17_columns hamming.LOWER_17 ≡ true
hamming17_lower = refl
