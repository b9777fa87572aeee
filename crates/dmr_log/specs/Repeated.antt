-- What a slot repeats in a frame, as far as it tells transmissions apart.
use Rattle.std.specs.Prelude.{ℕ, ◌+◌, ◌*◌, ◌==◌, ◌||◌, nat_le, Option, Some, None, slice_index}
use Rattle.std.specs.Prelude.{if◌then◌else◌}
use Rattle.dmr_csbk.specs.Meaning.{meaning_of}
use Rattle.dmr_csbk.specs.declared.block.Csbk.{Csbk}
use Rattle.dmr_csbk.specs.declared.meaning.ControlMeaning.{ControlMeaning}
use Rattle.dmr_csbk.specs.declared.meaning.ControlMeaning.TheVariants as meaning
use Rattle.dmr_data.specs.declared.header.Header.TheVariants as header
use Rattle.dmr_link.specs.declared.full_lc.FullLc.{FullLc}
use Rattle.dmr_listing.specs.Ways.{source_of, target_of, is_to_group}
use Rattle.dmr_listing.specs.declared.contents.Contents.{Contents}
use Rattle.dmr_listing.specs.declared.contents.Contents.TheVariants.{ControlBlock, DataHeader, OtherFormat}
use Rattle.dmr_listing.specs.declared.way.Way.{Way}
use Rattle.dmr_log.specs.declared.repeated.ControlKind.{ControlKind}
use Rattle.dmr_log.specs.declared.repeated.ControlKind.TheVariants as kind
use Rattle.dmr_log.specs.declared.repeated.PacketHead.{PacketHead}
use Rattle.dmr_log.specs.declared.repeated.PacketHead.TheVariants.{Known, Other}
use Rattle.dmr_log.specs.declared.repeated.Repeated.{Repeated}
use Rattle.dmr_log.specs.declared.repeated.Repeated.TheVariants.{CallHeader, Terminator, Block, Control}
use Rattle.dmr_log.specs.declared.repeated.Repeated.TheVariants as repeated

-- 1. Data headers.

-- the address of 24 bits that three octets spell
abbrev pub octet_address : ℕ → ℕ → ℕ → ℕ
octet_address high middle low = 65536 * high + 256 * middle + low

-- How many blocks a data header counts: none where it is a status, or of a format that isn't read.
abbrev pub counted_blocks : PacketHead → ℕ
counted_blocks (Known (header.Response h)) = h.blocks
counted_blocks (Known (header.Unconfirmed h)) = h.blocks
counted_blocks (Known (header.Confirmed h)) = h.blocks
counted_blocks (Known (header.ShortData h)) = h.blocks
counted_blocks (Known (header.Status h)) = 0
counted_blocks (Other octets) = 0

-- Who sends a data header to whom. In any format the highest bit says whether it is to a group, octets 2 to 4 to whom, and octets 5
-- to 7 from whom.
abbrev pub way_of : PacketHead → Way
way_of (Known h) = record { source = source_of h; to_group = is_to_group h; destination = target_of h }
way_of (Other octets) = record {
  source = octet_address (slice_index octets 5) (slice_index octets 6) (slice_index octets 7);
  to_group = nat_le 128 (slice_index octets 0);
  destination = octet_address (slice_index octets 2) (slice_index octets 3) (slice_index octets 4);
}

-- 2. Control blocks.

-- what a control block has in common with those of one row, by its meaning
abbrev pub kind_of_meaning : ControlMeaning → Csbk → ControlKind
kind_of_meaning (meaning.Preamble p) block = kind.Preamble p.source p.group p.target
kind_of_meaning (meaning.BsDownAct act) block = kind.Activation act.source act.bs
kind_of_meaning meaning.Other block = kind.Csbk block.code block.fid

abbrev pub kind_of_block : Csbk → ControlKind
kind_of_block block = kind_of_meaning (meaning_of block) block

-- what preambles have in common that announce a data header: its source and its destination
abbrev pub announcing : PacketHead → ControlKind
announcing head = let way = way_of head in kind.Preamble way.source way.to_group way.destination

-- 3. Data bursts.

-- a control signalling block, of which the listing shows this
abbrev pub block_told : Option Contents → Repeated
block_told (Some (ControlBlock block)) = Control (kind_of_block block)
block_told contents = Control (kind.DataType 3)

-- a data header, of which the listing shows this
abbrev pub header_told : Option Contents → Repeated
header_told (Some (DataHeader h)) = repeated.DataHeader (Known h)
header_told (Some (OtherFormat octets)) = repeated.DataHeader (Other octets)
header_told contents = Control (kind.DataType 6)

-- a PI header: of a call where the link control of a call goes with it
abbrev pub pi_header_told : Option FullLc → Repeated
pi_header_told (Some lc) = CallHeader (Some lc)
pi_header_told None = Control (kind.DataType 0)

-- A data burst by its type: 0 is a PI header, 1 a voice LC header, 2 a terminator, 3 a control signalling block, 6 a data header,
-- and 7, 8 and 10 are blocks of packets.
abbrev pub data_told : ℕ → Option FullLc → Option Contents → Repeated
data_told type lc contents =
    if type == 0 then pi_header_told lc
    else if type == 1 then CallHeader lc
    else if type == 2 then Terminator lc
    else if type == 3 then block_told contents
    else if type == 6 then header_told contents
    else if (type == 7) || ((type == 8) || (type == 10)) then Block type
    else Control (kind.DataType type)
