-- What stands in a slot of a frame, as a strip shows it.
use Rattle.std.specs.Prelude.{ℕ, ◌==◌, Option, if◌then◌else◌}
use Rattle.dmr_burst.specs.DataTypes as data_type
use Rattle.dmr_listing.specs.declared.burst_line.BurstLine.{BurstLine}
use Rattle.dmr_listing.specs.declared.mark.Mark.{Mark}
use Rattle.dmr_listing.specs.declared.mark.Mark.TheVariants as mark
use Rattle.dmr_listing.specs.declared.voice_place.VoicePlace.{VoicePlace}
use Rattle.dmr_reading.specs.declared.reading.Reading.{Reading}
use Rattle.dmr_reading.specs.declared.reading.Reading.TheVariants.{Data, Untyped, VoiceSync, Voice, Unreadable}

-- the mark of a data burst of a type, which no reserved type has
abbrev pub mark_of_type : ℕ → Mark
mark_of_type kind =
    if kind == data_type.pi_header then mark.PrivacyHeader else
    if kind == data_type.voice_lc_header then mark.VoiceHeader else
    if kind == data_type.terminator_with_lc then mark.Terminator else
    if kind == data_type.csbk then mark.ControlBlock else
    if kind == data_type.mbc_header then mark.MultiBlock else
    if kind == data_type.mbc_continuation then mark.MultiBlock else
    if kind == data_type.data_header then mark.DataHeader else
    if kind == data_type.rate_half_data then mark.DataBlock else
    if kind == data_type.rate_three_quarters_data then mark.DataBlock else
    if kind == data_type.idle then mark.Idle else
    if kind == data_type.rate_one_data then mark.DataBlock else
    if kind == data_type.unified_single_block_data then mark.MultiBlock else
    mark.Unreadable

-- the mark of a burst that is read so, in a frame of this place
abbrev pub mark_read : Reading → Option VoicePlace → Mark
mark_read (Data side slot_type information) place = mark_of_type slot_type.kind
mark_read (VoiceSync side) place = mark.Voice place
mark_read (Voice emb) place = mark.Voice place
mark_read (Untyped side) place = mark.Unreadable
mark_read Unreadable place = mark.Unreadable

-- the mark of the burst that has this line
abbrev pub mark_of : BurstLine → Mark
mark_of line = mark_read line.reading line.voice_place
