-- Octets that wait, and such as were written.
use Rattle.std.proofs.Common.{◌≡◌, ℕ, List, ◌++◌, [], Option, None, Some, ap, ◌∙◌, refl, sym, append_assoc, append-nil}
use Rattle.std.specs.Io.KnownBytes.{Appends}
use Rattle.dmr_record.proofs.Torn.{Tears_after, Tears_more}
use Rattle.dmr_lines.specs.Line.{PutsLine}
use Rattle.dmr_record.specs.Devices.{Tears}
use Rattle.dmr_show.specs.Held.{held_by}

-- more waits behind what waited
pub kept : (a : Option (List ℕ)) (old new piece : List ℕ) → new ≡ old ++ piece → Appends (held_by a old) (held_by a new) piece
kept None old new piece e = tt
kept (Some xs) old new piece e = ap (λ l. xs ++ l) e ∙ sym (append_assoc xs old piece)

-- a piece waits where nothing did
pub kept_alone : (a : Option (List ℕ)) (old new piece : List ℕ) → old ≡ [] → new ≡ old ++ piece → Appends a (held_by a new) piece
kept_alone None old new piece none e = tt
kept_alone (Some xs) old new piece none e = ap (λ l. xs ++ l) (e ∙ ap (λ l. l ++ piece) none)

-- what waits goes on waiting
pub still_waiting : (a : Option (List ℕ)) (w : List ℕ) → Appends a (held_by a w) w
still_waiting None w = tt
still_waiting (Some xs) w = refl

-- a piece was written where nothing waited
pub written_alone : (a b : Option (List ℕ)) (none piece : List ℕ) → none ≡ [] → Appends a b piece → Appends a (held_by b none) piece
written_alone None b none piece e p = tt
written_alone (Some xs) None none piece e p = absurd p
written_alone (Some xs) (Some ys) none piece e p = ap (λ l. ys ++ l) e ∙ append-nil ys ∙ p

-- all that waited was written, and a piece came behind it
pub behind : (a b c : Option (List ℕ)) (old new piece : List ℕ) → Appends a b old → Appends b (held_by c new) piece
    → Appends (held_by a old) (held_by c new) piece
behind None b c old new piece p q = tt
behind (Some xs) None c old new piece p q = absurd p
behind (Some xs) (Some ys) None old new piece p q = absurd q
behind (Some xs) (Some ys) (Some zs) old new piece p q = q ∙ ap (λ l. l ++ piece) p

-- all that waited was written, and of what came behind it a front
pub torn_behind : (a b c : Option (List ℕ)) (old piece : List ℕ) → Appends a b old → Tears b c piece → Tears a c (old ++ piece)
torn_behind = Tears_after

-- of what waited a front was written
pub torn_before : (a b : Option (List ℕ)) (old piece : List ℕ) → Tears a b old → Tears a b (old ++ piece)
torn_before = Tears_more

let_go : (a b c : Option (List ℕ)) (w piece : List ℕ) → Appends a (held_by b w) piece → Appends b c w → Appends a c piece
let_go None b c w piece p q = tt
let_go (Some xs) None c w piece p q = absurd p
let_go (Some xs) (Some ys) None w piece p q = absurd q
let_go (Some xs) (Some ys) (Some zs) w piece p q = q ∙ p

-- a line waits behind what waited, and then what waits is written, or goes on waiting
pub line_let_go : (a b c : Option (List ℕ)) (old new : List ℕ) → PutsLine a (held_by b old) → Appends b (held_by c new) old
    → PutsLine a (held_by c new)
line_let_go a b c old new line gone =
    record { text = line.text; one = line.one; octets = let_go a b (held_by c new) old _ line.octets gone }
