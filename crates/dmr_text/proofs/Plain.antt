-- Lines of words with single spaces between, as they are read.
use Rattle.std.proofs.Common.{◌≡◌, ℕ, ◌+◌, ◌-◌, ◌/◌, ◌%◌, ◌<◌, ◌≤◌, ◌==◌, ◌&&◌, if◌then◌else◌, zero, suc, Bool, true, false}
use Rattle.std.proofs.Common.{not, cond, inl, inr, ◌^◌}
use Rattle.std.proofs.Common.{List, [], ◌∷◌, ◌++◌, length, slice_index, take, refl, sym, ap, ◌∙◌, subst, arith, append_assoc}
use Rattle.std.specs.Prelude.{decimal, nat_le}
use Rattle.std.specs.Fmt.{digit_glyph, digits, digits_onto}
use Rattle.std.specs.List.{AllByRecursion, filter, flat_map, join_with_byte, position_or_len}
use Rattle.std.specs.Str.Lines.{strip_carriage_return}
use Rattle.std.proofs.lemmas.Bool.{and_parts, cases_lt, eqb-true, leb-true}
use Rattle.std.proofs.lemmas.Fmt.{decimal_nonempty}
use Rattle.std.proofs.lemmas.List.{length-append}
use Rattle.hex.specs.Hex.{IsBytes, encode_upper, encode_with, upper_digits}
use Rattle.dmr_words.specs.Lines.{Line, has_short_lines, is_line_feed, line_length, line_limit, lines_behind}
use Rattle.dmr_words.specs.Lines.{numbered_line, worded_behind}
use Rattle.dmr_words.specs.Words.{has_any, is_blank, is_remark, is_worded, line_words}
use Rattle.dmr_words.proofs.Feeds.{short_fed}
use Rattle.dmr_words.proofs.Parts.{word_ended, word_last}
use Rattle.dmr_words.proofs.Telling.{lines_ended}
use Rattle.dmr_text.specs.Says.{words_of_lines}
use Rattle.dmr_text.specs.Spelling.{line_of, octets_word}

abbrev pub AreAbove : ℕ → List ℕ → Type 0
AreAbove n word = AllByRecursion (λ c. n ≤ c) word

-- a word of printed octets: no blanks, no ends of lines, and no `#`
pub record IsPlain (word : List ℕ) : Type 0 where
  pub some : 0 < length word
  pub above : AreAbove 36 word

above_append : (n : ℕ) (xs ys : List ℕ) → AreAbove n xs → AreAbove n ys → AreAbove n (xs ++ ys)
above_append n [] ys front back = back
above_append n (x ∷ xs) ys (first, front) back = (first, above_append n xs ys front back)

above_less : (m n : ℕ) (xs : List ℕ) → m ≤ n → AreAbove n xs → AreAbove m xs
above_less m n [] less above = tt
above_less m n (x ∷ xs) less (first, above) = (omega (arith, first), above_less m n xs less above)

above_at : (n : ℕ) (xs : List ℕ) (i : ℕ) → AreAbove n xs → i < length xs → n ≤ slice_index xs i
above_at n [] i above within = absurd (omega (arith, within))
above_at n (x ∷ xs) zero (first, above) within = first
above_at n (x ∷ xs) (suc i) (first, above) within = above_at n xs i above (omega (arith, within))

-- a literal is tested octet by octet
abbrev pub all_above : ℕ → List ℕ → Bool
all_above n [] = true
all_above n (c ∷ word) = nat_le n c && all_above n word

above_tested : (n : ℕ) (word : List ℕ) → all_above n word ≡ true → AreAbove n word
above_tested n [] e = tt
above_tested n (c ∷ word) e =
    let parts = and_parts (nat_le n c) (all_above n word) e in
    (leb-true n c parts.0, above_tested n word parts.1)

-- a word that isn't empty and has no octet below 36 is one of printed octets
pub plain_tested : (word : List ℕ) → all_above 36 word ≡ true → 0 < length word → IsPlain word
plain_tested word e some = record { some = some; above = above_tested 36 word e }

abbrev pub all_below : (ℕ → Bool) → ℕ → Bool
all_below f zero = true
all_below f (suc n) = f n && all_below f n

-- a test that all numbers below a bound have passed holds of each of them
pub below_tested : (f : ℕ → Bool) (n d : ℕ) → all_below f n ≡ true → d < n → f d ≡ true
below_tested f zero d e lt = absurd (omega (arith, lt))
below_tested f (suc n) d e lt =
    let parts = and_parts (f n) (all_below f n) e in
    elim (cases_lt d n) [
      | inl below ↦ below_tested f n d parts.1 below
      | inr top ↦
          let same : d ≡ n = omega (arith, top, lt) in
          subst (λ (k : ℕ). f k ≡ true) (sym same) parts.0
    ]

-- decimal digits
glyph_above : (d : ℕ) → d < 10 → 36 ≤ digit_glyph false d
glyph_above d few = leb-true 36 (digit_glyph false d) (below_tested (λ (k : ℕ). nat_le 36 (digit_glyph false k)) 10 d refl few)

one_of : (b : Bool) (xs ys : List ℕ) → AreAbove 36 xs → AreAbove 36 ys → AreAbove 36 (if b then xs else ys)
one_of true xs ys a b = a
one_of false xs ys a b = b

digits_above : (k n : ℕ) (rest : List ℕ) → AreAbove 36 rest → AreAbove 36 (digits_onto k 10 false n rest)
digits_above zero n rest above = above
digits_above (suc k) n rest above =
    let glyph = glyph_above (n % 10) (omega arith) in
    one_of (n / 10 == 0) _ _ (glyph, above) (digits_above k (n / 10) (digit_glyph false (n % 10) ∷ rest) (glyph, above))

decimal_above : (n : ℕ) → AreAbove 36 (decimal n)
unfolding digits
decimal_above n = digits_above 64 n [] tt

-- a number of up to 64 bits is written as a word of printed octets
pub decimal_plain : (n : ℕ) → n < 2 ^ 64 → IsPlain (decimal n)
decimal_plain n fits = record { some = decimal_nonempty n fits; above = decimal_above n }

-- hexadecimal digits
hex_above : (d : ℕ) → d < 16 → 36 ≤ slice_index upper_digits d
hex_above d few =
    leb-true 36 (slice_index upper_digits d)
    (below_tested (λ (k : ℕ). nat_le 36 (slice_index upper_digits k)) 16 d refl few)

hexes_above : (octets : List ℕ) → IsBytes octets → AreAbove 36 (encode_upper octets)
unfolding encode_with
hexes_above [] bytes = tt
hexes_above (o ∷ octets) bytes =
    let fits : o < 256 = bytes 0 in
    (hex_above (o / 16) (omega (arith, fits)), (hex_above (o % 16) (omega arith), hexes_above octets (λ k. bytes (suc k))))

some_digits : (o : ℕ) (octets : List ℕ) → 0 < length (encode_upper (o ∷ octets))
unfolding encode_with
some_digits o octets = omega arith

-- octets are written as a word of printed octets
pub octets_plain : (octets : List ℕ) → IsBytes octets → IsPlain (octets_word octets)
octets_plain [] bytes = plain_tested (octets_word []) refl (omega arith)
octets_plain (o ∷ octets) bytes = record { some = some_digits o octets; above = hexes_above (o ∷ octets) bytes }

-- a test that octets below a number pass alone
differs : (b : Bool) (c n : ℕ) → (c == n) ≡ b → (c ≡ n → ⊥) → (c == n) ≡ false
differs true c n e other = absurd (other (eqb-true c n e))
differs false c n e other = e

is_no_blank : (c : ℕ) → 36 ≤ c → is_blank c ≡ false
is_no_blank c above =
    rw (differs (c == 32) c 32 refl (λ e. omega (arith, e, above)), differs (c == 9) c 9 refl (λ e. omega (arith, e, above))) refl

none_passes : (p : ℕ → Bool) (n : ℕ) → ((c : ℕ) → n ≤ c → p c ≡ false) → (word : List ℕ) → AreAbove n word
    → position_or_len p word ≡ length word
none_passes p n fails [] above = refl
none_passes p n fails (c ∷ word) (first, above) =
    let rest = none_passes p n fails word above in
    let step : cond (not (p c)) (1 + position_or_len p word) 0 ≡ 1 + position_or_len p word =
    ap (λ (b : Bool). cond (not b) (1 + position_or_len p word) 0) (fails c first) in
    step ∙ (let e : 1 + position_or_len p word ≡ length (c ∷ word) = omega (arith, rest) in e)

unblank : (word : List ℕ) → AreAbove 36 word → position_or_len is_blank word ≡ length word
unblank word above = none_passes is_blank 36 is_no_blank word above

-- a line of words has these words
pub words_joined : (w : List ℕ) (words : List (List ℕ)) → IsPlain w → AllByRecursion IsPlain words
    → line_words (join_with_byte 32 (w ∷ words)) ≡ w ∷ words
words_joined w [] plain all = word_last w plain.some (unblank w plain.above)
words_joined w (v ∷ words) plain (next, all) =
    word_ended w (join_with_byte 32 (v ∷ words)) 32 plain.some (unblank w plain.above) refl
    ∙ ap (λ (l : List (List ℕ)). w ∷ l) (words_joined v words next all)

joined_above : (w : List ℕ) (words : List (List ℕ)) → IsPlain w → AllByRecursion IsPlain words
    → AreAbove 32 (join_with_byte 32 (w ∷ words))
joined_above w [] plain all = above_less 32 36 w (omega arith) plain.above
joined_above w (v ∷ words) plain (next, all) =
    above_append 32 w (32 ∷ join_with_byte 32 (v ∷ words)) (above_less 32 36 w (omega arith) plain.above)
    (omega arith, joined_above v words next all)

first_octet : (w : List ℕ) (words : List (List ℕ)) → IsPlain w → 36 ≤ slice_index (join_with_byte 32 (w ∷ words)) 0
first_octet [] words plain = let some = plain.some in absurd (omega (arith, some))
first_octet (c ∷ w) [] plain = plain.above.0
first_octet (c ∷ w) (v ∷ words) plain = plain.above.0

joined_some : (w : List ℕ) (words : List (List ℕ)) → IsPlain w → 0 < length (join_with_byte 32 (w ∷ words))
joined_some w [] plain = plain.some
joined_some w (v ∷ words) plain =
    let some = plain.some in
    let e = length-append w (32 ∷ join_with_byte 32 (v ∷ words)) in
    omega (arith, some, e)

module _ (w : List ℕ) (words : List (List ℕ)) (plain : IsPlain w) (all : AllByRecursion IsPlain words) where
  abbrev pub line : List ℕ
  line = join_with_byte 32 (w ∷ words)

  unfed : line_length line ≡ length line
  unfed = none_passes is_line_feed 32 (λ c above. differs (c == 10) c 10 refl (λ e. omega (arith, e, above))) line
      (joined_above w words plain all)

  stripped : strip_carriage_return line ≡ line
  stripped =
      let some = joined_some w words plain in
      let last = above_at 32 line (length line - 1) (joined_above w words plain all) (omega (arith, some)) in
      ap (λ (b : Bool). if b then take (length line - 1) line else line)
      (differs (slice_index line (length line - 1) == 13) (slice_index line (length line - 1)) 13 refl
      (λ e. omega (arith, e, last)))

  unremarked : is_remark line ≡ false
  unremarked =
      let first = first_octet w words plain in
      differs (slice_index line 0 == 35) (slice_index line 0) 35 refl (λ e. omega (arith, e, first))

  worded : is_worded line ≡ true
  worded =
      ap (λ (b : Bool). not b && has_any (line_words line)) unremarked
      ∙ ap (λ (l : List (List ℕ)). has_any l) (words_joined w words plain all)

  -- such a line counts, and others follow
  pub line_told : (n : ℕ) (rest : List ℕ)
      → worded_behind n (line_of (w ∷ words) ++ rest) ≡ numbered_line (n + 1) line ∷ worded_behind (n + 1) rest
  line_told n rest =
      ap (λ (t : List ℕ). worded_behind n t) (append_assoc line (10 ∷ []) rest)
      ∙ ap (filter (λ (l : Line). is_worded l.octets)) (lines_ended n line rest unfed)
      ∙ ap (λ (l : List ℕ). filter (λ (k : Line). is_worded k.octets) (numbered_line (n + 1) l ∷ lines_behind (n + 1) rest))
      stripped
      ∙ ap (λ (b : Bool). cond b (numbered_line (n + 1) line ∷ worded_behind (n + 1) rest) (worded_behind (n + 1) rest)) worded

  pub line_short : (rest : List ℕ) → length line ≤ line_limit → has_short_lines (line_of (w ∷ words) ++ rest) ≡ has_short_lines rest
  line_short rest short =
      ap (λ (t : List ℕ). has_short_lines t) (append_assoc line (10 ∷ []) rest)
      ∙ short_fed line rest unfed short

-- a line of words that isn't too long
pub record IsWritten (words : List (List ℕ)) : Type 0 where
  pub some : 0 < length words
  pub plain : AllByRecursion IsPlain words
  pub short : length (join_with_byte 32 words) ≤ line_limit

-- the lines that were told of a text
pub record AreTold (lines : List (List (List ℕ))) (n : ℕ) (rest : List ℕ) : Type 0 where
  pub told : List Line
  pub text : worded_behind n (flat_map line_of lines ++ rest) ≡ told ++ worded_behind (n + length lines) rest
  pub words : words_of_lines told ≡ lines

-- lines of words that aren't too long are told first, each with its own words, and then what stands behind them
pub lines_told : (lines : List (List (List ℕ))) → AllByRecursion IsWritten lines → (n : ℕ) (rest : List ℕ) → AreTold lines n rest
lines_told [] all n rest = record {
  told = [];
  text = ap (λ (k : ℕ). worded_behind k rest) (let e : n ≡ n + 0 = omega arith in e);
  words = refl;
}
lines_told ([] ∷ lines) (written, all) n rest = let some = written.some in absurd (omega (arith, some))
lines_told ((w ∷ words) ∷ lines) (written, all) n rest =
    let behind = lines_told lines all (n + 1) rest in
    let first = written.plain.0 in
    let others = written.plain.1 in
    let this = join_with_byte 32 (w ∷ words) in
    record {
      told = numbered_line (n + 1) this ∷ behind.told;
      text = ap (λ (t : List ℕ). worded_behind n t) (append_assoc (line_of (w ∷ words)) (flat_map line_of lines) rest)
          ∙ line_told w words first others n (flat_map line_of lines ++ rest)
          ∙ ap (λ (l : List Line). numbered_line (n + 1) this ∷ l) (behind.text
          ∙ ap (λ (k : ℕ). behind.told ++ worded_behind k rest)
          (let e : n + 1 + length lines ≡ n + length ((w ∷ words) ∷ lines) = omega arith in e));
      words = ap (λ (l : List (List ℕ)). l ∷ words_of_lines behind.told) (words_joined w words first others)
          ∙ ap (λ (l : List (List (List ℕ))). (w ∷ words) ∷ l) behind.words;
    }

-- such lines in front of a text make no difference to whether all its lines are short enough
pub lines_short : (lines : List (List (List ℕ))) → AllByRecursion IsWritten lines → (rest : List ℕ)
    → has_short_lines (flat_map line_of lines ++ rest) ≡ has_short_lines rest
lines_short [] all rest = refl
lines_short ([] ∷ lines) (written, all) rest = let some = written.some in absurd (omega (arith, some))
lines_short ((w ∷ words) ∷ lines) (written, all) rest =
    ap (λ (t : List ℕ). has_short_lines t) (append_assoc (line_of (w ∷ words)) (flat_map line_of lines) rest)
    ∙ line_short w words written.plain.0 written.plain.1 (flat_map line_of lines ++ rest) written.short
    ∙ lines_short lines all rest
