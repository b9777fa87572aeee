-- A line that is silent behind what it was.
use Rattle.std.proofs.Common.{◌≡◌, ◌+◌, ◌-◌, ◌≤◌, List, [], ◌∷◌, ◌++◌, length, replicate, None, sym, ap, ◌∙◌, arith}
use Rattle.std.proofs.Common.{append_assoc}
use Rattle.std.proofs.lemmas.List.{length_push, replicate-append-replicate}
use Rattle.dmr_record.specs.Uplink.{UplinkSlot}

-- one silence more
pub silent_more : (base line : List UplinkSlot) → length base ≤ length line
    → line ≡ base ++ replicate (length line - length base) None
    → line ++ None ∷ [] ≡ base ++ replicate (length (line ++ None ∷ []) - length base) None
silent_more base line longer silent =
    let count = length line - length base in
    let all : length (line ++ None ∷ []) - length base ≡ count + 1 = let l = length_push line None in omega (arith, l) in
    ap (λ l. l ++ None ∷ []) silent
    ∙ append_assoc base (replicate count None) (None ∷ [])
    ∙ ap (λ l. base ++ l) (replicate-append-replicate count 1 None)
    ∙ ap (λ n. base ++ replicate n None) (sym all)
