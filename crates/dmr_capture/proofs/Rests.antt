-- What stands behind the first octets of a block.
use Rattle.std.proofs.Common.{◌≡◌, ◌≢◌, ◌≤◌, ℕ, ◌+◌, ◌-◌, ◌<◌, List, ◌++◌, length, take, refl, sym, subst, ◌∙◌, arith}
use Rattle.std.proofs.lemmas.List.{length-append, take_all}
use Rattle.dmr_capture.specs.Blocks.{IsBadRest, IsBlockRest}
use Rattle.dmr_capture.specs.CutFaults.{cut_block_fault}
use Rattle.dmr_capture.specs.Orders.{ordered_number}
use Rattle.dmr_capture.specs.Rests.{ShowsRestFault}
use Rattle.dmr_capture.specs.declared.block.BlockHead.{BlockHead}
use Rattle.dmr_capture.specs.declared.transfer.Cut.{Cut}
use Rattle.dmr_capture.specs.declared.transfer.Cut.TheVariants.{End, Device}

-- a buffer that was filled holds what has come
pub filled_whole : (n : ℕ) (xs more : List ℕ) → length xs ≡ n → take n xs ≡ more → xs ≡ more
filled_whole n xs more all same = sym (take_all n xs (omega arith)) ∙ same

-- less than a block shows that it is cut, or could not be read
pub cut_rest : (cut : Cut) (octet : ℕ) (b : BlockHead) (rest : List ℕ) → b.head + length rest < b.len
    → ShowsRestFault octet b (cut_block_fault cut octet) rest
cut_rest End octet b rest less = (refl, less)
cut_rest Device octet b rest less = (refl, less)

-- the rest of a block, by its parts
pub whole_rest : (b : BlockHead) (kept passed last buffer : List ℕ) → length kept ≡ b.kept
    → length passed ≡ b.len - b.head - b.kept - 4 → b.head + b.kept + 4 ≤ b.len → 4 ≡ length last → length buffer ≡ 4
    → take 4 buffer ≡ last → ordered_number b.order 4 0 buffer ≡ b.len → IsBlockRest b kept (kept ++ passed ++ last)
whole_rest b kept passed last buffer keeps passes fits four room filled again = record {
  passed = passed;
  last = last;
  parts = refl;
  count = keeps;
  all = omega (arith, length-append (kept ++ passed) last, length-append kept passed);
  four = sym four;
  again = subst (λ l. ordered_number b.order 4 0 l ≡ b.len) (filled_whole 4 buffer last room filled) again;
}

-- its last four octets say another length
pub bad_rest : (b : BlockHead) (kept passed last buffer : List ℕ) → length kept ≡ b.kept
    → length passed ≡ b.len - b.head - b.kept - 4 → b.head + b.kept + 4 ≤ b.len → 4 ≡ length last → length buffer ≡ 4
    → take 4 buffer ≡ last → ordered_number b.order 4 0 buffer ≢ b.len → IsBadRest b (kept ++ passed ++ last)
bad_rest b kept passed last buffer keeps passes fits four room filled other = record {
  front = kept ++ passed;
  last = last;
  parts = refl;
  all = omega (arith, length-append (kept ++ passed) last, length-append kept passed);
  four = sym four;
  other = subst (λ l. ordered_number b.order 4 0 l ≢ b.len) (filled_whole 4 buffer last room filled) other;
}
