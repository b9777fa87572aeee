-- A line that is gathered, piece by piece.
use Rattle.std.proofs.Common.{◌≡◌, ℕ, suc, ◌+◌, ◌≤◌, Bool, true, false, not, cond, List, [], ◌∷◌, ◌++◌, length, take, get_or}
use Rattle.std.proofs.Common.{Option, ap, ◌∙◌, sym, refl, subst, arith, append_assoc, length-append, append-nil, ⊎_elim}
use Rattle.std.specs.List.{before_first, after_first}
use Rattle.std.specs.Io.KnownBytes.{Consumes, Keeps}
use Rattle.std.proofs.KnownBytes.{Consumes-nil, Consumes-trans, Consumes-kept}
use Rattle.std.proofs.lemmas.Bool.{eqb-true, cases_lt}
use Rattle.std.proofs.lemmas.List.{take_all, drop_all, length-take-le}
use Rattle.std.proofs.lemmas.List.Sums.{split_at_first, passes_at_first}
use Rattle.dmr_words.specs.Lines.{IsUnended, HasLineFeed, Gathers, is_line_feed, line_length, line_limit}
use Rattle.dmr_words.proofs.Feeds.{length_behind, length_within}

step : (b : Bool) (x : ℕ) (xs : List ℕ) → is_line_feed x ≡ b
    → line_length (take (line_length xs) xs) ≡ length (take (line_length xs) xs)
    → line_length (take (cond (not b) (1 + line_length xs) 0) (x ∷ xs)) ≡ length (take (cond (not b) (1 + line_length xs) 0) (x ∷
    xs))
step true x xs e h = refl
step false x xs e h =
    let one : 1 + line_length xs ≡ suc (line_length xs) = omega arith in
    let front = take (line_length xs) xs in
    let P = λ (n : ℕ). line_length (take n (x ∷ xs)) ≡ length (take n (x ∷ xs)) in
    let Q = λ (b : Bool). cond (not b) (1 + line_length front) 0 ≡ suc (length front) in
    subst P (sym one) (subst Q (sym e) (omega (arith, h)))

-- the octets in front of the first line feed have none
pub front_unfed : (xs : List ℕ) → line_length (before_first is_line_feed xs) ≡ length (before_first is_line_feed xs)
front_unfed [] = refl
front_unfed (x ∷ xs) = step (is_line_feed x) x xs refl (front_unfed xs)

-- octets that are the same as those that were gathered were gathered too
pub passes_as : {x y : Option (List ℕ)} {before a b : List ℕ} → a ≡ b → Gathers x y before a → Gathers x y before b
passes_as e p = record { taken = p.taken; consumed = p.consumed; octets = p.octets ∙ e }

-- where nothing was read, what was there is gathered, with an empty line in front
pub passes_none : (x : Option (List ℕ)) (before line : List ℕ) → line ≡ [] → Gathers x x before (line ++ before)
passes_none x before line e = record {
  taken = [];
  consumed = Consumes-nil x;
  octets = append-nil before
      ∙ ap (λ l. l ++ before) (sym e);
}

-- what is read next is gathered behind the rest
pub passes_more : {x y : Option (List ℕ)} {before a : List ℕ} (z : Option (List ℕ)) (more : List ℕ) → Gathers x y before a
    → Consumes y z more
    → Gathers x z before (a ++ more)
passes_more {x} {y} {before} {a} z more p c = record {
  taken = p.taken ++ more;
  consumed = Consumes-trans x y z p.taken more p.consumed c;
  octets = sym (append_assoc before p.taken more) ∙ ap (λ l. l ++ more) p.octets;
}

pub passes_kept : {x y : Option (List ℕ)} {before a : List ℕ} (z : Option (List ℕ)) → Gathers x y before a → Keeps y z
    → Gathers x z before a
passes_kept {x} {y} {before} {a} z p k = record {
  taken = p.taken;
  consumed = Consumes-kept x y z p.taken p.consumed k;
  octets =
      p.octets;
}

-- an empty line has no line feed, and isn't too long
pub unended_none : (line : List ℕ) → line ≡ [] → IsUnended line
unended_none line e = subst IsUnended (sym e) (record { one = refl; short = omega arith })

module _ (line chunk line' chunk' : List ℕ) (moved : line' ≡ line ++ before_first is_line_feed chunk)
    (rest : chunk' ≡ after_first is_line_feed chunk) (unended : IsUnended line) where
  pub piece_unended : length line + line_length chunk ≤ line_limit → IsUnended line'
  piece_unended short =
      let front = before_first is_line_feed chunk in
      let long : length front ≡ line_length chunk = length-take-le (line_length chunk) chunk (length_within chunk) in
      subst IsUnended (sym moved) (
      record {
        one = length_behind line front unended.one ∙ ap (λ n. length line + n) (front_unfed chunk) ∙ sym (length-append line front);
        short = omega (arith, short, long, length-append line front);
      }
      )

  -- with a line feed
  pub piece_fed : HasLineFeed chunk → line ++ chunk ≡ line' ++ 10 ∷ chunk'
  piece_fed h =
      let ten : get_or chunk (line_length chunk) 0 ≡ 10 = eqb-true _ 10 (passes_at_first is_line_feed chunk 0 h) in
      let whole = split_at_first is_line_feed chunk 0 h in
      ap (λ l. line ++ l) (whole ∙ ap (λ (n : ℕ). before_first is_line_feed chunk ++ n ∷ after_first is_line_feed chunk) ten)
      ∙ sym (append_assoc line (before_first is_line_feed chunk) (10 ∷ after_first is_line_feed chunk))
      ∙ ap (λ l. l ++ 10 ∷ after_first is_line_feed chunk) (sym moved) ∙ ap (λ l. line' ++ 10 ∷ l) (sym rest)

  -- without one
  pub piece_unfed : (HasLineFeed chunk → ⊥) → line ++ chunk ≡ line'
  piece_unfed h =
      let all : length chunk ≤ line_length chunk = ⊎_elim (λ l. absurd (h l)) (λ l. l) (cases_lt (line_length chunk) (length chunk))
      in
      ap (λ l. line ++ l) (sym (take_all (line_length chunk) chunk all)) ∙ sym moved

  pub piece_none : (HasLineFeed chunk → ⊥) → chunk' ≡ []
  piece_none h =
      let all : length chunk ≤ line_length chunk = ⊎_elim (λ l. absurd (h l)) (λ l. l) (cases_lt (line_length chunk) (length chunk))
      in
      rest ∙ drop_all (line_length chunk + 1) chunk (omega (arith, all))

  -- it grew by what there was
  pub piece_longer : (HasLineFeed chunk → ⊥) → length line' ≡ length line + length chunk
  piece_longer h = ap length (sym (piece_unfed h)) ∙ length-append line chunk
