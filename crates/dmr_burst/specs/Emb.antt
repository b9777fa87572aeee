-- The embedded signalling of a voice burst. ETSI TS 102 361-1, clause 9.1.2.
use Rattle.std.specs.Prelude.{◌≡◌, ◌≤◌, Bool, false, List, take, drop, slice_index_or}
use Rattle.dmr_bits.specs.Bits.{number_of, distance}
use Rattle.dmr_codes.specs.Seven.{IsResidue16}
use Rattle.dmr_burst.specs.Layout.{emb_field}
use Rattle.dmr_burst.specs.declared.emb.Emb.{Emb}

-- an EMB's word says the colour code in four bits, PI in one, then LCSS in two (clause 9.1.2)
abbrev pub emb_of : List Bool → Emb
emb_of word = record { colour = number_of (take 4 word); pi = slice_index_or word 4 false; lcss = number_of (take 2 (drop 5 word)) }

-- a word that says this EMB is within two bits
abbrev pub HasEmb : Emb → List Bool → Type 0
HasEmb emb bits =
    (word : List Bool) × IsResidue16 word × (distance word (emb_field bits) ≤ 2) × (emb_of word ≡ emb)
