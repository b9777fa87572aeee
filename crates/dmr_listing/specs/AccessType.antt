-- What a CACH announces, and what its fields are.
use Rattle.std.specs.Prelude.{◌≡◌, ◌≤◌, Bool, true, false, List, slice_index_or}
use Rattle.dmr_bits.specs.Bits.{distance, number_of, part}
use Rattle.dmr_burst.specs.Cach.{tact_field}
use Rattle.dmr_codes.specs.Seven.{IsHamming7}
use Rattle.dmr_listing.specs.declared.access_type.AccessType.{AccessType}
use Rattle.dmr_listing.specs.declared.access_type.AccessType.TheVariants.{Busy, Free}
use Rattle.dmr_listing.specs.declared.access_type.Tact.{Tact}

-- The word within one bit of the seven has AT, its first bit, set.
pub record IsBusy (bits : List Bool) : Type 0 where
  pub word : List Bool
  pub is_word : IsHamming7 word
  pub near : distance word (tact_field bits) ≤ 1
  pub at : slice_index_or word 0 false ≡ true

-- The CACH with these bits announces busy where the Hamming word within one bit of its TACT has AT set, and else free.
abbrev pub AnnouncesAccessType : List Bool → AccessType → Type 0
AnnouncesAccessType bits Busy = IsBusy bits
AnnouncesAccessType bits Free = IsBusy bits → ⊥

-- A Hamming word is within one bit of the seven.
pub record IsNearTact (bits : List Bool) : Type 0 where
  pub word : List Bool
  pub is_word : IsHamming7 word
  pub near : distance word (tact_field bits) ≤ 1

-- The fields are those of the word within one bit of the seven.
pub record IsTact (bits : List Bool) (tact : Tact) : Type 0 where
  pub word : List Bool
  pub is_word : IsHamming7 word
  pub near : distance word (tact_field bits) ≤ 1
  pub at : slice_index_or word 0 false ≡ tact.at
  pub tc : slice_index_or word 1 false ≡ tact.tc
  pub lcss : number_of (part word 2 4) ≡ tact.lcss
