-- What a line is, by its first octet.
use Rattle.std.proofs.Common.{◌≡◌, ℕ, suc, ◌+◌, ◌≤◌, Bool, false, cond, not, List, [], ◌∷◌, take, drop, get_or}
use Rattle.std.proofs.Common.{ap, sym, ◌∙◌, arith}
use Rattle.std.specs.Prelude.{Some, codes, slice_get, ◌==◌, ◌||◌}
use Rattle.std.specs.List.{position_or_len}
use Rattle.std.proofs.lemmas.Bool.{ne_eqb}
use Rattle.dmr_words.specs.Words.{is_blank, line_words}
use Rattle.dmr_words.proofs.Parts.{words_first}
use Rattle.dmr_text.specs.TextFaults.{BeginsWith, IsOfRecord}

-- a digit is no blank
no_blank : (x : ℕ) → 48 ≤ x → is_blank x ≡ false
no_blank x low = ap (λ (b : Bool). b || (x == 9)) (ne_eqb x 32 (λ e. absurd (omega (arith, low, e))))
    ∙ ne_eqb x 9 (λ e. absurd (omega (arith, low, e)))

module _ (x : ℕ) (xs : List ℕ) (low : 48 ≤ x) (high : x ≤ 57) where
  all : position_or_len is_blank (x ∷ xs) ≡ suc (position_or_len is_blank xs)
  all = ap (λ (b : Bool). cond (not b) (1 + position_or_len is_blank xs) 0) (no_blank x low) ∙ omega arith

  -- the first word begins with the digit
  words : line_words (x ∷ xs) ≡ (x ∷ take (position_or_len is_blank xs) xs) ∷ line_words (drop (position_or_len is_blank xs) xs)
  words = words_first (x ∷ xs) (omega (arith, all))
      ∙ ap (λ (n : ℕ). take n (x ∷ xs) ∷ line_words (drop n (x ∷ xs))) all

  begins : (word : List ℕ) → BeginsWith word (line_words (x ∷ xs)) → x ≡ get_or word 0 0
  begins word (rest, e) = ap (λ (l : List (List ℕ)). get_or (get_or l 0 []) 0 0) (sym words ∙ e)

  record_in_front : IsOfRecord (line_words (x ∷ xs))
  record_in_front = record {
    frames = λ b. absurd (omega (arith, high, begins (codes "frames") b));
    records = λ b. absurd (omega (arith, high, begins (codes "records") b));
  }

-- a line that begins with a digit is a record
pub digit_in_front : (line : List ℕ) (x : ℕ) → Some x ≡ slice_get line 0 → 48 ≤ x → x ≤ 57 → IsOfRecord (line_words line)
digit_in_front [] x e low high = absurd (cc e)
digit_in_front (y ∷ ys) x e low high =
    let same : y ≡ x = cc e in
    record_in_front y ys (omega (arith, same, low)) (omega (arith, same, high))
