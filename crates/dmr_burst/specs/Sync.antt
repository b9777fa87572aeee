-- The sync words, and the sync of a burst that was received. ETSI TS 102 361-1, clause 9.1.1.
use Rattle.std.specs.Prelude.{ℕ, ◌≤◌, Bool, true, false, List}
use Rattle.dmr_bits.specs.Bits.{bits_of, distance}
use Rattle.dmr_burst.specs.Layout.{sync_field}
use Rattle.dmr_burst.specs.declared.sync.Side.{Side}
use Rattle.dmr_burst.specs.declared.sync.Side.TheVariants.{Bs, Ms}
use Rattle.dmr_burst.specs.declared.sync.Sync.{Sync}

-- the four sync words, by who sends and whether it is voice (clause 9.1.1)
abbrev pub sync_number : Side → Bool → ℕ
sync_number Bs true = 0x755FD7DF75F7
sync_number Bs false = 0xDFF57D75DF5D
sync_number Ms true = 0x7F7D5DD57DFD
sync_number Ms false = 0xD5D7F77FD757

-- the 48 bits of a sync word, the highest first, by who sends and whether it is voice
unfoldable pub sync_word : Side → Bool → List Bool
sync_word side voice = bits_of 48 (sync_number side voice)

-- the centre is within three bits of the word of a sync
abbrev pub HasSync : Sync → List Bool → Type 0
HasSync sync bits = distance (sync_word sync.side sync.voice) (sync_field bits) ≤ 3
