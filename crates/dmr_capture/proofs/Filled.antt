-- What a source gave, in the places of a buffer.
use Rattle.std.proofs.Common.{◌≡◌, ℕ, ◌+◌, ◌≤◌, List, [], ◌++◌, length, take, sym, ap, ◌∙◌, Option, arith, append_assoc}
use Rattle.std.proofs.Common.{append-nil}
use Rattle.std.proofs.lemmas.List.{length-append, length-take-le}
use Rattle.std.specs.Io.KnownBytes.{Consumes}
use Rattle.std.proofs.KnownBytes.{Consumes-nil, Consumes-trans}
use borrow.Rule.Slice.PartMut.{put_mid}
use Rattle.dmr_record.proofs.Pieces.{take-put_mid_front}

-- A source gave octets behind these, up to this place of a buffer.
abbrev pub Filled : (old new : Option (List ℕ)) → List ℕ → ℕ → List ℕ → ℕ → Type 0
Filled old new front from buffer at = (more : List ℕ) × Consumes old new more × (take at buffer ≡ front ++ more)
    × (at ≡ from + length more)

-- Nothing is filled where nothing was read.
pub filled_none : (a : Option (List ℕ)) (from : ℕ) (buffer : List ℕ) → Filled a a (take from buffer) from buffer from
filled_none a from buffer = ([], Consumes-nil a, sym (append-nil (take from buffer)), omega arith)

-- What was read behind the filled part is filled too.
pub filled_more : (a b c : Option (List ℕ)) (at k n from : ℕ) (xs ys front : List ℕ) → at ≤ length xs → n ≤ length ys
    → Filled a b front from xs at → Consumes b c (take n ys) → Filled a c front from (put_mid at k xs ys) (at + n)
filled_more a b c at k n from xs ys front within fits (more, took, stands, count) next = (
  more ++ take n ys,
  Consumes-trans a b c more (take n ys) took next,
  take-put_mid_front at k n xs ys within fits ∙ ap (λ l. l ++ take n ys) stands ∙ append_assoc front more (take n ys),
  omega (arith, length-append more (take n ys), length-take-le n ys fits, count),
)
