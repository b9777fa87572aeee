-- Records of the outgoing list in its order.
use Rattle.std.proofs.Common.{◌≡◌, ℕ, ◌+◌, ◌*◌, ◌<◌, ◌≤◌, List, All, arith, get_or, false}
use Rattle.std.proofs.lemmas.List.Sorted.{All-permutation, IsNonDecreasingBy-from_sort, IsPermutation-trans}
use Rattle.std.proofs.lemmas.List.Sorted.{ties_still_rise}
use Rattle.std.specs.List.Sorted.{IsPermutation, IsSortedByKey, IsStableByKey, IsNonDecreasingBy}
use Rattle.std.specs.Ordering.{is_lt, nat_cmp}
use Rattle.dmr_planning.specs.Sending.{AreInListOrder, StandsInFront}
use Rattle.dmr_planning.specs.declared.sends.PlannedSend.{PlannedSend}

-- a number is not less than one that isn't greater
pub not_less : (m n : ℕ) → m ≤ n → is_lt (nat_cmp n m) ≡ false
not_less m n le = grind arith

-- the place of a record among those of one frame
abbrev in_frame : PlannedSend → ℕ
in_frame s = s.slot * 18446744073709551616 + s.statement

-- Two stable sorts, by slot and then by frame, give the order of a list.
pub in_list_order : (xs ys zs : List PlannedSend) → IsPermutation xs ys → IsPermutation ys zs
    → All (λ (s : PlannedSend). s.statement < 18446744073709551616) xs
    → IsSortedByKey (λ (s : PlannedSend). s.statement) nat_cmp xs
    → IsSortedByKey (λ (s : PlannedSend). s.slot) nat_cmp ys → IsStableByKey (λ (s : PlannedSend). s.slot) nat_cmp xs ys
    → IsSortedByKey (λ (s : PlannedSend). s.frame) nat_cmp zs → IsStableByKey (λ (s : PlannedSend). s.frame) nat_cmp ys zs
    → AreInListOrder xs zs
in_list_order xs ys zs p q small by_line by_slot slot_stable by_frame frame_stable =
    let all_y : All (λ (s : PlannedSend). s.statement < 18446744073709551616) ys =
    All-permutation (λ (s : PlannedSend). s.statement < 18446744073709551616) xs ys p small in
    let all_z : All (λ (s : PlannedSend). s.statement < 18446744073709551616) zs =
    All-permutation (λ (s : PlannedSend). s.statement < 18446744073709551616) ys zs q all_y in
    let slots : IsNonDecreasingBy (λ (s : PlannedSend). s.slot) ys =
    IsNonDecreasingBy-from_sort (λ (s : PlannedSend). s.slot) ys by_slot in
    let frames : IsNonDecreasingBy (λ (s : PlannedSend). s.frame) zs =
    IsNonDecreasingBy-from_sort (λ (s : PlannedSend). s.frame) zs by_frame in
    let sorted : IsSortedByKey in_frame nat_cmp ys = λ k d low lt.
    let a : PlannedSend = get_or ys k d in
    let b : PlannedSend = get_or ys (k + 1) d in
    let slot : a.slot ≤ b.slot = slots k (k + 1) d (omega arith) lt in
    let tie : a.slot ≡ b.slot → a.statement ≤ b.statement =
    ties_still_rise (λ (s : PlannedSend). s.statement) (λ (s : PlannedSend). s.slot) xs ys by_line slot_stable k d lt in
    let fit_a : a.statement < 18446744073709551616 = all_y k d (omega arith) in
    not_less (in_frame a) (in_frame b) (in_order a.slot b.slot a.statement b.statement slot tie fit_a) in
    record {
      same = IsPermutation-trans xs ys zs p q;
      order = λ k d lt.
          let a : PlannedSend = get_or zs k d in
          let b : PlannedSend = get_or zs (k + 1) d in
          let frame : a.frame ≤ b.frame = frames k (k + 1) d (omega arith) lt in
          let tie : a.frame ≡ b.frame → in_frame a ≤ in_frame b =
          ties_still_rise in_frame (λ (s : PlannedSend). s.frame) ys zs sorted frame_stable k d lt in
          stands a b frame tie (all_z (k + 1) d lt);
    }
  where
    -- by the slots, and then by the statements
    in_order : (m n x y : ℕ) → m ≤ n → (m ≡ n → x ≤ y) → x < 18446744073709551616
        → m * 18446744073709551616 + x ≤ n * 18446744073709551616 + y
    in_order m n x y le tie lt = grind arith

    -- one in front of the other
    stands : (a b : PlannedSend) → a.frame ≤ b.frame → (a.frame ≡ b.frame → in_frame a ≤ in_frame b)
        → b.statement < 18446744073709551616 → StandsInFront a b
    stands a b le tie lt = grind arith
