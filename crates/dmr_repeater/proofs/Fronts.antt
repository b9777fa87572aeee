-- Fronts of what is written.
use Rattle.std.proofs.Common.{ℕ, List, [], ◌++◌, take, drop, refl, sym, ap, ◌∙◌, append-nil, append_assoc, take-append-drop}
use Rattle.std.specs.Io.KnownBytes.{Appends}
use Rattle.std.proofs.KnownBytes.{Appends-trans, Appends-nil}
use Rattle.dmr_record.specs.Devices.{Tears}
use Rattle.dmr_repeater.specs.Files.{FrontOf, KnownOctets}

-- where all octets were written, a front of them was
pub everything : (whole : List ℕ) (a b : KnownOctets) → Appends a b whole → FrontOf a b whole
everything whole a b written = (whole, ([], sym (append-nil whole)), written)

-- where nothing was written, a front of any octets was
pub nothing : (whole : List ℕ) (a : KnownOctets) → FrontOf a a whole
nothing whole a = ([], (whole, refl), Appends-nil a)

-- where a write was torn, a front of its octets was written
pub torn_front : (whole : List ℕ) (a b : KnownOctets) → Tears a b whole → FrontOf a b whole
torn_front whole a b torn = (take torn.count whole, (drop torn.count whole, sym (take-append-drop torn.count whole)), torn.front)

-- behind what is written, a front of the rest is a front of both
pub front_after : (xs ys : List ℕ) (a b c : KnownOctets) → Appends a b xs → FrontOf b c ys → FrontOf a c (xs ++ ys)
front_after xs ys a b c written u = (
  xs ++ u.0,
  (u.1.0, ap (λ l. xs ++ l) u.1.1 ∙ sym (append_assoc xs u.0 u.1.0)),
  Appends-trans a b c xs u.0 written u.2,
)
