-- Lines and their words.
use Rattle.std.proofs.Common.{◌≡◌, ℕ, suc, ◌+◌, ◌<◌, ◌≤◌, Bool, true, false, not, cond, List, [], ◌∷◌, ◌++◌, length, take, drop}
use Rattle.std.proofs.Common.{get_or, ap, ◌∙◌, sym, refl, subst, arith, ⊎_elim, drop-cons, length-take-le}
use Rattle.std.specs.List.{All, filter, prefix_len, position_or_len, slice_split}
use Rattle.std.proofs.lemmas.Bool.{cases_lt}
use Rattle.std.proofs.lemmas.List.{take_all, drop_all}
use Rattle.std.proofs.lemmas.List.Splits.{slice_split-cons_yes, slice_split_at, slice_split_none, slice_split_first}
use Rattle.std.proofs.lemmas.List.Sums.{fails_before_first, passes_at_first, prefix_len-le-length}
use Rattle.dmr_words.specs.Words.{is_blank, has_any, line_words}

-- a blank in front is no part of a word
pub words_blank : (x : ℕ) (xs : List ℕ) → is_blank x ≡ true → line_words (x ∷ xs) ≡ line_words xs
words_blank x xs h = ap (filter has_any) (slice_split-cons_yes is_blank x xs h)

trimmed : (b : Bool) (x : ℕ) (xs : List ℕ) → is_blank x ≡ b → line_words (drop (prefix_len is_blank xs) xs) ≡ line_words xs
    → line_words (drop (cond b (1 + prefix_len is_blank xs) 0) (x ∷ xs)) ≡ line_words (x ∷ xs)
trimmed true x xs e h =
    let one : 1 + prefix_len is_blank xs ≡ suc (prefix_len is_blank xs) = omega arith in
    ap (λ n. line_words (drop n (x ∷ xs))) one ∙ h ∙ sym (words_blank x xs e)
trimmed false x xs e h = refl

-- blanks in front are no part of a word
pub words_trimmed : (xs : List ℕ) → line_words (drop (prefix_len is_blank xs) xs) ≡ line_words xs
words_trimmed [] = refl
words_trimmed (x ∷ xs) = trimmed (is_blank x) x xs refl (words_trimmed xs)

front : (b : Bool) (x : ℕ) (xs : List ℕ) → is_blank x ≡ b
    → (position_or_len is_blank (drop (prefix_len is_blank xs) xs) ≡ 0 → drop (prefix_len is_blank xs) xs ≡ [])
    → position_or_len is_blank (drop (cond b (1 + prefix_len is_blank xs) 0) (x ∷ xs)) ≡ 0
    → drop (cond b (1 + prefix_len is_blank xs) 0) (x ∷ xs) ≡ []
front true x xs e h =
    let one : 1 + prefix_len is_blank xs ≡ suc (prefix_len is_blank xs) = omega arith in
    subst (λ (n : ℕ). position_or_len is_blank (drop n (x ∷ xs)) ≡ 0 → drop n (x ∷ xs) ≡ []) (sym one) h
front false x xs e h = λ z.
    let some : cond (not false) (1 + position_or_len is_blank xs) 0 ≡ 0 =
    subst (λ (b : Bool). cond (not b) (1 + position_or_len is_blank xs) 0 ≡ 0) e z in
    absurd (omega (arith, some))

-- behind the blanks in front stands a word, or nothing
pub word_or_none : (xs : List ℕ) → position_or_len is_blank (drop (prefix_len is_blank xs) xs) ≡ 0
    → drop (prefix_len is_blank xs) xs ≡ []
word_or_none [] z = refl
word_or_none (x ∷ xs) z = front (is_blank x) x xs refl (word_or_none xs) z

kept : (w : List ℕ) (more : List (List ℕ)) → 0 < length w → filter has_any (w ∷ more) ≡ w ∷ filter has_any more
kept [] more h = absurd (omega (arith, h))
kept (x ∷ xs) more h = refl

-- the word in front, and those behind it
pub words_first : (xs : List ℕ) → 0 < position_or_len is_blank xs
    → line_words xs ≡ take (position_or_len is_blank xs) xs ∷ line_words (drop (position_or_len is_blank xs) xs)
words_first xs h =
    let n = position_or_len is_blank xs in
    let within : n ≤ length xs = prefix_len-le-length (λ x. not (is_blank x)) xs in
    let long : length (take n xs) ≡ n = length-take-le n xs within in
    ⊎_elim
    (λ (l : n < length xs).
    let next : suc n ≡ n + 1 = omega arith in
    let behind : drop n xs ≡ get_or xs n 0 ∷ drop (n + 1) xs = drop-cons xs n 0 l ∙ ap (λ k. get_or xs n 0 ∷ drop k xs) next in
    ap (filter has_any) (slice_split_first is_blank xs 0 l)
    ∙ kept (take n xs) (slice_split is_blank (drop (n + 1) xs)) (omega (arith, long, h))
    ∙ ap (λ l. take n xs ∷ l) (sym (words_blank (get_or xs n 0) (drop (n + 1) xs) (passes_at_first is_blank xs 0 l))
    ∙ ap line_words (sym behind)))
    (λ (l : length xs ≤ n).
    ap (filter has_any) (slice_split_none is_blank xs (λ k d m. fails_before_first is_blank xs k d (omega (arith, l, m))))
    ∙ kept xs [] (omega (arith, h, l, within))
    ∙ ap (λ (w : List ℕ). w ∷ []) (sym (take_all n xs l)) ∙ ap (λ (w : List ℕ). take n xs ∷ line_words w) (sym (drop_all n xs l)))
    (cases_lt n (length xs))

-- a line that begins with no blank has a word
pub words_there : (x : ℕ) (xs : List ℕ) → is_blank x ≡ false → has_any (line_words (x ∷ xs)) ≡ true
words_there x xs e =
    let one : position_or_len is_blank (x ∷ xs) ≡ 1 + position_or_len is_blank xs =
    ap (λ (b : Bool). cond (not b) (1 + position_or_len is_blank xs) 0) e in
    ap has_any (words_first (x ∷ xs) (omega (arith, one)))

no_blank : (xs : List ℕ) → position_or_len is_blank xs ≡ length xs → All (λ x. is_blank x ≡ false) xs
no_blank xs h k d l = fails_before_first is_blank xs k d (omega (arith, h, l))

-- a word in front of a blank
pub word_ended : (word rest : List ℕ) (blank : ℕ) → 0 < length word → position_or_len is_blank word ≡ length word
    → is_blank blank ≡ true → line_words (word ++ blank ∷ rest) ≡ word ∷ line_words rest
word_ended word rest blank some h b =
    ap (filter has_any) (slice_split_at is_blank word blank rest (no_blank word h) b) ∙ kept word (slice_split is_blank rest) some

-- a word at the end
pub word_last : (word : List ℕ) → 0 < length word → position_or_len is_blank word ≡ length word → line_words word ≡ word ∷ []
word_last word some h = ap (filter has_any) (slice_split_none is_blank word (no_blank word h)) ∙ kept word [] some

-- how a word is taken off: behind n blanks it has m octets
module _ (line word rest more : List ℕ) (n m : ℕ) (blanks : n ≡ prefix_len is_blank line) (back : rest ≡ drop n line)
    (size : m ≡ position_or_len is_blank rest) (taken : word ≡ take m rest) (left : more ≡ drop m rest) where
  behind : rest ≡ drop (prefix_len is_blank line) line
  behind = back ∙ ap (λ k. drop k line) blanks

  same : line_words line ≡ line_words rest
  same = sym (ap line_words behind ∙ words_trimmed line)

  long : length word ≡ m
  long = ap length taken ∙ length-take-le m rest (omega (arith, size, prefix_len-le-length (λ x. not (is_blank x)) rest))

  -- nothing was left
  pub took_none : length word ≡ 0 → (line_words line ≡ []) × (line_words more ≡ [])
  took_none z =
      let zero : position_or_len is_blank rest ≡ 0 = omega (arith, size, long, z) in
      let P = λ (l : List ℕ). position_or_len is_blank l ≡ 0 → l ≡ [] in
      let none : rest ≡ [] = subst P (sym behind) (word_or_none line) zero in
      (same ∙ ap line_words none, ap line_words (left ∙ ap (drop m) none ∙ drop_all m [] (omega arith)))

  -- it was the first of those that were left
  pub took_word : (length word ≡ 0 → ⊥) → line_words line ≡ word ∷ line_words more
  took_word some =
      let one : 0 < position_or_len is_blank rest = omega (arith, size, long, some) in
      same ∙ words_first rest one ∙ ap (λ k. take k rest ∷ line_words (drop k rest)) (sym size)
      ∙ ap (λ (w : List ℕ). w ∷ line_words (drop m rest)) (sym taken) ∙ ap (λ (l : List ℕ). word ∷ line_words l) (sym left)
