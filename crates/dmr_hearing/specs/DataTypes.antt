-- What the information of each data type holds. ETSI TS 102 361-1, clause 9.3.6.
use Rattle.std.specs.Prelude.{ℕ, List, [], ◌∷◌, slice_index_or}
use Rattle.dmr_checks.specs.declared.sealing.Mask.TheVariants as mask
use Rattle.dmr_hearing.specs.declared.data_types.Payload.{Payload}
use Rattle.dmr_hearing.specs.declared.data_types.Payload.TheVariants.{Word, Sealed, LinkControl, Raw, Nothing}
use Rattle.dmr_link.specs.declared.sealing.LcUse.TheVariants as lc

-- What the information of a data type holds; the types from 12 on are reserved, and aren't read.
abbrev pub payload_of : ℕ → Payload
payload_of kind = slice_index_or payloads kind Nothing
  where
    -- the types from 0 to 11: PI header, voice LC header, terminator with LC, CSBK, MBC header, MBC continuation,
    -- data header, rate 1/2 data, rate 3/4 data, idle, rate 1 data, unified single block data
    payloads : List Payload
    payloads =
        Word ∷ LinkControl lc.Header ∷ LinkControl lc.Terminator ∷ Sealed mask.Csbk ∷ Word ∷ Word
        ∷ Sealed mask.Header ∷ Word ∷ Raw ∷ Nothing ∷ Raw ∷ Word ∷ []
