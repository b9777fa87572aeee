-- Tries of packets, as transmissions, and what each of their slots sends.
use Rattle.std.specs.Prelude.{◌≡◌, ℕ, zero, suc, ◌+◌, ◌/◌, ◌%◌, ◌^◌, ◌<◌, ◌≤◌, Bool, true, false, All, List, [], ◌∷◌, ◌++◌, map}
use Rattle.std.specs.Prelude.{zip, length}
use Rattle.std.specs.Prelude.{Option, Some, None, if◌then◌else◌}
use Rattle.std.specs.List.{AllZip}
use Rattle.dmr_burst.specs.DataTypes.{csbk, data_header}
use Rattle.dmr_csbk.specs.declared.block.Csbk.{Csbk}
use Rattle.dmr_data.specs.Block.{FitsBlock, IsWrittenBlock}
use Rattle.dmr_data.specs.Header.{IsFitHeader}
use Rattle.dmr_data.specs.declared.rate.Rate.{Rate}
use Rattle.dmr_making.specs.Information.{kind_at_rate}
use Rattle.dmr_hearing.specs.Slots.{SentSlot, Silent, Data}
use Rattle.dmr_making.specs.Information.{IsCsbkInformation, IsHeaderInformation}
use Rattle.dmr_making.specs.declared.tries.SentTry.{SentTry}
use Rattle.dmr_voice.specs.CallMeaning.{Block, Transmission, DataTry}

-- the three octets of an address, the most significant first
abbrev pub address_octets : ℕ → List ℕ
address_octets address = address / 65536 ∷ address / 256 % 256 ∷ address % 256 ∷ []

-- A preamble of a try: the last block of its message, data follows, so many bursts, and both addresses. ETSI TS 102 361-2, clause
-- 7.1.2.
abbrev pub preamble_of : SentTry → ℕ → Csbk
preamble_of t left = record {
  last = true;
  protect = false;
  code = 61;
  fid = 0;
  body = (if t.group then 0xC0 else 0x80) ∷ left ∷ (address_octets t.destination ++ address_octets t.source);
}

-- How many bursts follow each of so many preambles: the other preambles, a header, and so many blocks.
abbrev pub counts_down : ℕ → ℕ → List ℕ
counts_down zero blocks = []
counts_down (suc preambles) blocks = (suc preambles + blocks) ∷ counts_down preambles blocks

-- The information of the bursts of a try.
pub record TryForms : Type 0 where
  pub preambles : List (List Bool)
  pub header : List Bool
  pub blocks : List (List Bool)

-- They are those of this try, in this shape.
pub record AreTryForms (t : SentTry) (before : ℕ) (presence : List Bool) (forms : TryForms) : Type 0 where
  pub preambles : AllZip (λ left information. IsCsbkInformation (preamble_of t left) information)
      (counts_down before (length presence)) forms.preambles
  pub header : IsHeaderInformation t.header forms.header
  pub blocks : AllZip (λ block information. IsWrittenBlock t.rate block information) t.blocks forms.blocks

-- the blocks of a try, there or absent
abbrev pub blocks_with : Rate → List Bool → List (List Bool) → List (Option Block)
blocks_with rate presence forms =
    map (λ p. if p.0 then Some (record { kind = kind_at_rate rate; information = p.1 }) else None) (zip presence forms)

-- The transmission that a try is.
abbrev pub transmission_of_try : SentTry → ℕ → List Bool → TryForms → Transmission
transmission_of_try t preambles presence forms = DataTry forms.preambles forms.header (blocks_with t.rate presence forms.blocks)

-- A try fits its fields, and its shape has a place for each block.
pub record IsFitTry (t : SentTry) (preambles : ℕ) (presence : List Bool) : Type 0 where
  pub source : t.source < 2 ^ 24
  pub destination : t.destination < 2 ^ 24
  pub header : IsFitHeader t.header
  pub blocks : All (λ block. FitsBlock t.rate block.serial block.octets) t.blocks
  pub count : length t.blocks ≡ length presence
  pub room : preambles + length presence ≤ 255

-- what the blocks of a try send
abbrev pub block_slots : Rate → List Bool → List (List Bool) → List SentSlot
block_slots rate presence forms = map (λ p. if p.0 then Data (kind_at_rate rate) p.1 None else Silent) (zip presence forms)

-- what each slot of a try sends, part by part
abbrev pub try_slots : SentTry → ℕ → List Bool → TryForms → List SentSlot
try_slots t preambles presence forms =
    map (λ information. Data csbk information None) forms.preambles
    ++ (Data data_header forms.header None ∷ block_slots t.rate presence forms.blocks)
