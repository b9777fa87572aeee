use Rattle.std.proofs.Common.{◌≡◌, ℕ, ◌+◌, ◌<◌, ◌≤◌, true, false, ltb, Result, Ok, Err, OnOk, List, ◌++◌, length, take, drop, subst}
use Rattle.std.proofs.Common.{ap, ◌∙◌, sym, refl, arith, ◌⊎◌, inl, inr, ⊎_elim}
use Rattle.std.specs.List.{before_first, after_first}
use Rattle.std.specs.Result.{IsOk, is_err}
use Rattle.std.proofs.lemmas.Bool.{true≢false, false≢true, ltb-true, ltb-false, lt-ltb, cases_Bool, cases_lt}
use Rattle.std.proofs.lemmas.List.{length-take-le, drop_all}
use mir.Val.{bool_byte}
use Rattle.dmr_words.specs.Lines.{is_line_feed, line_length}
use Rattle.dmr_words.proofs.Feeds.{length_within}
use Rattle.dmr_words.proofs.lines.take_piece.Goals as goal

at_ok : {T E : Type 0} (r : Result T E) (P : Type 0) → is_err r ≡ false → OnOk r P → P
at_ok (Ok x) P e h = h
at_ok (Err x) P e h = absurd (true≢false e)

is_ok : {T E : Type 0} (r : Result T E) → is_err r ≡ false → IsOk r
is_ok (Ok x) e = refl
is_ok (Err x) e = absurd (true≢false e)

no_ok : {T E : Type 0} (r : Result T E) → is_err r ≡ true → IsOk r → ⊥
no_ok (Ok x) e h = false≢true e
no_ok (Err x) e h = false≢true h

cases_le : (n : ℕ) → (n ≤ 131200) ⊎ (131200 < n)
cases_le n = ⊎_elim (λ h. inr h) (λ h. inl h) (cases_lt 131200 n)

-- what was taken, where n is counted in the octets of a chunk
module _ (n : ℕ) (octets chunk : List ℕ) (counted : n ≡ line_length octets) (same : octets ≡ chunk) where
  front : take n octets ≡ before_first is_line_feed chunk
  front = ap (λ k. take k octets) counted ∙ ap (λ (l : List ℕ). take (line_length l) l) same

  count : n ≡ line_length chunk
  count = counted ∙ ap line_length same

  length_of_front : length (take n octets) ≡ line_length chunk
  length_of_front =
      length-take-le n octets (omega (arith, counted, length_within octets)) ∙ count

  rest : (b : ℕ) → b ≡ bool_byte (ltb n (length octets)) → drop (n + b) chunk ≡ after_first is_line_feed chunk
  rest b e = ⊎_elim
      (λ (there : ltb n (length octets) ≡ true).
      let one : b ≡ 1 = e ∙ ap bool_byte there in
      ap (λ k. drop k chunk) (omega (arith, count, one)))
      (λ (none : ltb n (length octets) ≡ false).
      let end : length chunk ≤ n = subst (λ (l : List ℕ). length l ≤ n) same (ltb-false n (length octets) none) in
      drop_all (n + b) chunk (omega (arith, end)) ∙ sym (drop_all (line_length chunk + 1) chunk (omega (arith, end, count))))
      (cases_Bool (ltb n (length octets)))

pub returns-then-is_err-clause-long : goal.returns-then-is_err-clause-long
returns-then-is_err-clause-long c =
    let octets = c.octets-octets.result.now in
    let long = length_of_front c.line_length-length.result octets c.args.chunk.now c.line_length-length.ensures.value
    c.octets-octets.ensures.value in
    let fits : length c.args.line.now.items + length (take c.line_length-length.result octets) ≤ 131200
    → IsOk c.try_extend_from_slice.result =
    c.try_extend_from_slice.ensures.variant.1 in
    ⊎_elim (λ h. absurd (no_ok _ (sym c.is_err.ensures.value ∙ c.if-is_err.true) (fits (omega (arith, h, long))))) (λ h. h)
    (cases_le (length c.args.line.now.items + line_length c.args.chunk.now))

pub returns-clause-line : goal.returns-clause-line
returns-clause-line c =
    at_ok _ _ (sym c.is_err.ensures.value ∙ c.if-is_err.false) c.try_extend_from_slice.ensures.ok
    ∙ ap (λ (l : List ℕ). c.args.line.now.items ++ l)
    (front c.line_length-length.result c.octets-octets.result.now c.args.chunk.now c.line_length-length.ensures.value
    c.octets-octets.ensures.value)

pub returns-clause-rest : goal.returns-clause-rest
returns-clause-rest c =
    c.skip.ensures.rest
    ∙ rest c.line_length-length.result c.octets-octets.result.now c.args.chunk.now c.line_length-length.ensures.value
    c.octets-octets.ensures.value
    c.from.result c.from.ensures

pub returns-clause-found : goal.returns-clause-found
returns-clause-found c =
    let counted = count c.line_length-length.result c.octets-octets.result.now c.args.chunk.now c.line_length-length.ensures.value
    c.octets-octets.ensures.value in
    let same : length c.octets-octets.result.now ≡ length c.args.chunk.now = ap length c.octets-octets.ensures.value in
    (λ h. let less = ltb-true _ _ h in omega (arith, less, counted, same), λ h. lt-ltb _ _ (omega (arith, h, counted, same)))

pub returns-clause-short : goal.returns-clause-short
returns-clause-short c =
    let octets = c.octets-octets.result.now in
    let long = length_of_front c.line_length-length.result octets c.args.chunk.now c.line_length-length.ensures.value
    c.octets-octets.ensures.value in
    let fits : length c.args.line.now.items + length (take c.line_length-length.result octets) ≤ 131200 =
    c.try_extend_from_slice.ensures.variant.0 (is_ok _ (sym c.is_err.ensures.value ∙ c.if-is_err.false)) in
    omega (arith, fits, long)
