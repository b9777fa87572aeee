-- Texts and where they have line feeds.
use Rattle.std.proofs.Common.{◌≡◌, ℕ, suc, ◌+◌, ◌<◌, ◌≤◌, Bool, true, false, not, cond, ◌&&◌, nat_le, List, [], ◌∷◌, ◌++◌, length}
use Rattle.std.proofs.Common.{ap, ◌∙◌, refl, arith}
use Rattle.std.proofs.Common.{take, ⊎_elim}
use Rattle.std.proofs.lemmas.List.{length-take-le}
use Rattle.std.specs.List.{All, list_all, slice_split}
use Rattle.std.specs.Str.Lines.{lines, lines_of_parts, strip_carriage_return}
use Rattle.std.proofs.lemmas.Bool.{cond-false, ne_eqb, le-leb, lt-leb, and_left, cases_lt}
use Rattle.std.proofs.lemmas.List.Splits.{slice_split_at, slice_split_none, slice_split_first, length-slice_split}
use Rattle.std.proofs.lemmas.List.Sums.{fails_before_first, prefix_len-le-length}
use Rattle.dmr_words.specs.Lines.{is_line_feed, line_length, line_limit, has_short_lines}

more : (b : Bool) (m n k l : ℕ) → (m ≡ n → k ≡ n + l) → cond (not b) (1 + m) 0 ≡ suc n → cond (not b) (1 + k) 0 ≡ suc n + l
more true m n k l step h = absurd (omega (arith, h))
more false m n k l step h = omega (arith, step (omega (arith, h)))

-- behind a text without a line feed, the first one stands as far back as in what follows
pub length_behind : (xs ys : List ℕ) → line_length xs ≡ length xs → line_length (xs ++ ys) ≡ length xs + line_length ys
length_behind [] ys h = omega arith
length_behind (x ∷ xs) ys h = more (is_line_feed x) (line_length xs) (length xs) (line_length (xs ++ ys)) (line_length ys)
    (length_behind xs ys) h

-- the first line of a text is no longer than the text
pub length_within : (xs : List ℕ) → line_length xs ≤ length xs
length_within xs = prefix_len-le-length (λ x. not (is_line_feed x)) xs

no_feed : (xs : List ℕ) → line_length xs ≡ length xs → All (λ x. is_line_feed x ≡ false) xs
no_feed xs h k d l = fails_before_first is_line_feed xs k d (omega arith)

-- the parts of a text whose first line ends
pub parts_fed : (front rest : List ℕ) → line_length front ≡ length front
    → slice_split is_line_feed (front ++ 10 ∷ rest) ≡ front ∷ slice_split is_line_feed rest
parts_fed front rest h = slice_split_at is_line_feed front 10 rest (no_feed front h) refl

-- the one part of a text without a line feed
pub parts_unfed : (front : List ℕ) → line_length front ≡ length front → slice_split is_line_feed front ≡ front ∷ []
parts_unfed front h = slice_split_none is_line_feed front (no_feed front h)

first_of_more : (x : List ℕ) (parts : List (List ℕ)) → 0 < length parts
    → lines_of_parts (x ∷ parts) ≡ strip_carriage_return x ∷ lines_of_parts parts
first_of_more x [] h = absurd (omega (arith, h))
first_of_more x (y ∷ more) h = refl

-- the lines of a text whose first line ends
pub lines_fed : (front rest : List ℕ) → line_length front ≡ length front
    → lines (front ++ 10 ∷ rest) ≡ strip_carriage_return front ∷ lines rest
lines_fed front rest h =
    ap lines_of_parts (parts_fed front rest h)
    ∙ first_of_more front (slice_split is_line_feed rest) (omega (arith, length-slice_split is_line_feed rest))

-- the one line of a text without a line feed
pub lines_unfed : (front : List ℕ) → line_length front ≡ length front → 0 < length front → lines front ≡ front ∷ []
lines_unfed front h some =
    ap lines_of_parts (parts_unfed front h) ∙ cond-false _ [] (front ∷ []) (ne_eqb (length front) 0 (λ e. absurd (omega arith)))

-- a line that isn't too long, taken off
pub short_fed : (front rest : List ℕ) → line_length front ≡ length front → length front ≤ line_limit
    → has_short_lines (front ++ 10 ∷ rest) ≡ has_short_lines rest
short_fed front rest h l =
    ap (list_all (λ part. nat_le (length part) line_limit)) (parts_fed front rest h)
    ∙ ap (λ b. b && has_short_lines rest) (le-leb (length front) line_limit l)

-- a text without a line feed that is no longer than a line may be has no line that is too long
pub short_unfed : (front : List ℕ) → line_length front ≡ length front → length front ≤ line_limit → has_short_lines front ≡ true
short_unfed front h l =
    ap (list_all (λ part. nat_le (length part) line_limit)) (parts_unfed front h)
    ∙ ap (λ b. b && true) (le-leb (length front) line_limit l)

-- a line that is too long
pub long_shown : (text : List ℕ) → line_limit < line_length text → has_short_lines text ≡ false
long_shown text long =
    let short = λ (part : List ℕ). nat_le (length part) line_limit in
    let front = take (line_length text) text in
    let size : length front ≡ line_length text = length-take-le (line_length text) text (length_within text) in
    let passed : short front ≡ false = lt-leb (length front) line_limit (omega (arith, size, long)) in
    ⊎_elim
    (λ (l : line_length text < length text).
    ap (list_all short) (slice_split_first is_line_feed text 0 l) ∙ and_left (short front) _ passed)
    (λ (l : length text ≤ line_length text).
    let whole : line_length text ≡ length text = omega (arith, l, length_within text) in
    ap (list_all short) (parts_unfed text whole)
    ∙ and_left (short text) true (lt-leb (length text) line_limit (omega (arith, l, long, length_within text))))
    (cases_lt (line_length text) (length text))
