-- What a control signalling block means. ETSI TS 102 361-1, clause 7.2; ETSI TS 102 361-2, clause 7.1.2.
use Rattle.std.specs.Prelude.{ℕ, ◌==◌, List, false, if◌then◌else◌, slice_index_or}
use Rattle.dmr_bits.specs.Bits.{bits_of_octets, number_of, part}
use Rattle.dmr_csbk.specs.declared.block.Csbk.{Csbk}
use Rattle.dmr_csbk.specs.declared.meaning.ControlMeaning.{ControlMeaning}
use Rattle.dmr_csbk.specs.declared.meaning.ControlMeaning.TheVariants as meaning
use Rattle.dmr_csbk.specs.declared.views.BsDownAct.{BsDownAct}
use Rattle.dmr_csbk.specs.declared.views.Preamble.{Preamble}

-- the fields of BS_Dwn_Act: behind sixteen reserved bits a base station, and the radio that asks it to transmit
abbrev pub down_act_in : List ℕ → BsDownAct
down_act_in body = record {
  bs = number_of (part (bits_of_octets body) 16 40);
  source = number_of (part (bits_of_octets body) 40 64);
}

-- the fields of a preamble: two bits, six that are reserved, how many bursts follow, and for whom and from whom they are
abbrev pub preamble_in : List ℕ → Preamble
preamble_in body = record {
  packet = slice_index_or (bits_of_octets body) 0 false;
  group = slice_index_or (bits_of_octets body) 1 false;
  left = number_of (part (bits_of_octets body) 8 16);
  target = number_of (part (bits_of_octets body) 16 40);
  source = number_of (part (bits_of_octets body) 40 64);
}

-- what an opcode of the standard's own feature set means, with the body behind it
abbrev pub standard_meaning : ℕ → List ℕ → ControlMeaning
standard_meaning code body =
    if code == 56 then meaning.BsDownAct (down_act_in body) else
    if code == 61 then meaning.Preamble (preamble_in body) else
    meaning.Other

-- What a block means: in feature set 0, which is the standard's, what its opcode does, and in any other nothing of this.
abbrev pub meaning_of : Csbk → ControlMeaning
meaning_of c = if c.fid == 0 then standard_meaning c.code c.body else meaning.Other
