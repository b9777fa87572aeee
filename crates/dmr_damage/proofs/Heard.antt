-- Slots that are heard, moved on by one.
use Rattle.std.proofs.Common.{ℕ, zero, suc, List, [], ◌∷◌, ◌++◌, All, Option, drop, arith}
use Rattle.std.proofs.lemmas.List.Elements.{All-append, All-drop}
use Rattle.dmr_hearing.specs.Fit.{IsFitHeard}
use Rattle.dmr_hearing.specs.Hearing.{Hears}
use Rattle.dmr_hearing.specs.Recorded.{AreHeard}
use Rattle.dmr_hearing.specs.declared.heard.Heard.{Heard}

-- one more slot that is heard
pub heard_more : (colour : ℕ) (slots : List (Option (List ℕ))) (hs : List Heard) (slot : Option (List ℕ)) (heard : Heard)
    → AreHeard colour slots hs → Hears colour slot heard → AreHeard colour (slots ++ slot ∷ []) (hs ++ heard ∷ [])
heard_more colour [] [] slot heard are is = (is, tt)
heard_more colour [] (h ∷ hs) slot heard are is = absurd are
heard_more colour (s ∷ slots) [] slot heard are is = absurd are
heard_more colour (s ∷ slots) (h ∷ hs) slot heard are is = (are.0, heard_more colour slots hs slot heard are.1 is)

-- all but the first are heard
pub heard_later : (colour : ℕ) (slots : List (Option (List ℕ))) (hs : List Heard) → AreHeard colour slots hs
    → AreHeard colour (drop 1 slots) (drop 1 hs)
heard_later colour [] [] are = tt
heard_later colour [] (h ∷ hs) are = absurd are
heard_later colour (s ∷ slots) [] are = absurd are
heard_later colour (s ∷ slots) (h ∷ hs) are = are.1

-- a window that is moved on by one
pub heard_moved : (colour : ℕ) (slots : List (Option (List ℕ))) (hs : List Heard) (slot : Option (List ℕ)) (heard : Heard)
    → AreHeard colour slots hs → Hears colour slot heard → AreHeard colour (drop 1 slots ++ slot ∷ []) (drop 1 hs ++ heard ∷ [])
heard_moved colour slots hs slot heard are is =
    heard_more colour (drop 1 slots) (drop 1 hs) slot heard (heard_later colour slots hs are) is

one_fit : (heard : Heard) → IsFitHeard heard → All IsFitHeard (heard ∷ [])
one_fit heard fit zero d h = fit
one_fit heard fit (suc k) d h = absurd (omega arith)

-- what fits, moved on by one
pub fit_moved : (hs : List Heard) (heard : Heard) → All IsFitHeard hs → IsFitHeard heard → All IsFitHeard (drop 1 hs ++ heard ∷ [])
fit_moved hs heard all fit = All-append IsFitHeard (drop 1 hs) (heard ∷ []) (All-drop IsFitHeard 1 hs all) (one_fit heard fit)
