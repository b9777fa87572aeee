use Rattle.std.proofs.Common.{arith, ◌≡◌, ◌+◌, ◌-◌, ap, ◌∙◌, sym, ◌++◌, ◌≤◌, min, length, take, List, ℕ}
use Rattle.std.proofs.lemmas.List.{take_min}
use Rattle.std.proofs.Math.Seq.{take-append-add}
use Rattle.dmr_octets.proofs.octets.Octets.keep.Goals as goal

-- as much of ys as there is room for behind xs
kept_front : (n count : ℕ) (xs ys : List ℕ) → length xs ≤ n → count ≡ min (length ys) (n - length xs)
    → xs ++ take count ys ≡ take n (xs ++ ys)
kept_front n count xs ys within e =
    let whole : n ≡ length xs + (n - length xs) = omega arith in
    let turned : count ≡ min (n - length xs) (length ys) = omega arith in
    ap (λ l. xs ++ l) (ap (λ k. take k ys) turned ∙ take_min (n - length xs) ys)
    ∙ sym (take-append-add xs ys (n - length xs)) ∙ ap (λ k. take k (xs ++ ys)) (sym whole)

pub returns : goal.returns
returns g c =
    let put = rw c.unwrap.ensures at c.try_extend_from_slice.ensures.ok in
    let old = c.self.inside.cells.items in
    record {
      value = put ∙ kept_front g.row.CAP c.min-count.result old c.args.more.now (omega (arith, c.remaining_capacity-room.ensures))
          (omega (
            arith,
            c.remaining_capacity-room.ensures,
            c.min-count.ensures,
          ))
          ∙ ap (λ (l : List ℕ). take g.row.CAP (l ++ c.args.more.now)) c.self.view_is;
    }
