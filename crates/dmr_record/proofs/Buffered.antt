-- Octets that come out of a buffer.
use Rattle.std.proofs.Common.{◌≡◌, ℕ, ◌≤◌, Bool, true, false, cond, List, ◌++◌, length, take, drop, Option, Some, None, IfSome, sym}
use Rattle.std.proofs.Common.{◌∙◌, ap, subst}
use Rattle.std.proofs.lemmas.List.{take-append-le, take-append-drop}
use Rattle.std.specs.Io.KnownBytes.{Consumes, prepend_known}

-- What stands in the buffer before what the reader has, comes out of it first.
pub buffer_first : (none : Bool) (buffer : List ℕ) (inner new : Option (List ℕ)) (n : ℕ) (given : List ℕ) → n ≤ length buffer
    → given ≡ take n buffer
    → IfSome (cond none None (prepend_known buffer inner)) (λ xs. n ≤ length buffer → new ≡ Some (drop n xs))
    → Consumes (cond none None (prepend_known buffer inner)) new given
buffer_first true buffer inner new n given fits same left = tt
buffer_first false buffer None new n given fits same left = tt
buffer_first false buffer (Some ys) new n given fits same left =
    subst (λ rest. Consumes (Some (buffer ++ ys)) rest given) (sym (left fits))
    (sym (ap (λ l. l ++ drop n (buffer ++ ys)) (same ∙ sym (take-append-le n buffer ys fits)) ∙ take-append-drop n (buffer ++ ys)))
