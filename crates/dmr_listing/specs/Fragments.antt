-- The link control that four frames of a slot carry.
use Rattle.std.specs.Prelude.{◌≡◌, List, [], ◌∷◌, Option, Some, None}
use Rattle.dmr_burst.specs.DataTypes.{first_fragment, last_fragment, continuation_fragment}
use Rattle.dmr_hearing.specs.Fields.{IsReadFrom}
use Rattle.dmr_link.specs.declared.full_lc.FullLc.{FullLc}
use Rattle.dmr_listing.specs.declared.fragments.Fragment.{Fragment}

-- The four say by their LCSS that they carry one: first, continuation, continuation, last.
pub record AreWhole (b c d e : Fragment) : Type 0 where
  pub first : b.lcss ≡ first_fragment
  pub second : c.lcss ≡ continuation_fragment
  pub third : d.lcss ≡ continuation_fragment
  pub last : e.lcss ≡ last_fragment

-- What four frames carry: what is read from the fields of four bursts that say so, and else nothing.
abbrev pub AreCarried : List (Option Fragment) → Option FullLc → Type 0
AreCarried (Some b ∷ Some c ∷ Some d ∷ Some e ∷ []) lc =
    (AreWhole b c d e → IsReadFrom (b.field ∷ c.field ∷ d.field ∷ e.field ∷ []) lc) × ((AreWhole b c d e → ⊥) → lc ≡ None)
AreCarried fragments lc = lc ≡ None
