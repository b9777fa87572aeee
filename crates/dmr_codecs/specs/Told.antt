-- What the numbers that a host is told stand for: this project's own.
use Rattle.std.specs.Prelude.{ℕ, ◌==◌, ◌%◌, Bool, false, List, map, replicate, Some, None, Result, Ok, Err, if◌then◌else◌}
use Rattle.dmr_bits.specs.Bits.{bits_of, bits_of_octets}
use Rattle.dmr_burst.specs.declared.emb.Emb.{Emb}
use Rattle.dmr_burst.specs.declared.slot_type.SlotType.{SlotType}
use Rattle.dmr_burst.specs.declared.sync.Sync.{Sync}
use Rattle.dmr_burst.specs.declared.sync.Side.{Side}
use Rattle.dmr_burst.specs.declared.sync.Side.TheVariants.{Bs, Ms}
use Rattle.dmr_checks.specs.declared.sealing.Mask.{Mask}
use Rattle.dmr_checks.specs.declared.sealing.Mask.TheVariants.{Pi, Csbk, Header}
use Rattle.dmr_embedded.specs.declared.fault.EmbedFault.{EmbedFault}
use Rattle.dmr_embedded.specs.declared.fault.EmbedFault.TheVariants as embed_fault
use Rattle.dmr_link.specs.declared.fault.LcFault.{LcFault}
use Rattle.dmr_link.specs.declared.fault.LcFault.TheVariants as lc_fault
use Rattle.dmr_link.specs.declared.full_lc.FullLc.{FullLc}
use Rattle.dmr_link.specs.declared.sealing.LcUse.{LcUse}
use Rattle.dmr_link.specs.declared.sealing.LcUse.TheVariants as lc_use
use Rattle.dmr_reading.specs.declared.reading.Information.{Information}
use Rattle.dmr_reading.specs.declared.reading.Information.TheVariants.{Coded, AsReceived}
use Rattle.dmr_reading.specs.declared.reading.Reading.{Reading}
use Rattle.dmr_reading.specs.declared.reading.Reading.TheVariants.{Data, Untyped, VoiceSync, Voice, Unreadable}
use Rattle.dmr_codecs.specs.declared.values.BurstEmb.{BurstEmb}
use Rattle.dmr_codecs.specs.declared.values.BurstReading.{BurstReading}
use Rattle.dmr_codecs.specs.declared.values.BurstSlotType.{BurstSlotType}
use Rattle.dmr_codecs.specs.declared.values.BurstSync.{BurstSync}
use Rattle.dmr_codecs.specs.declared.values.BurstLinkControl.{BurstLinkControl}

-- 0 a base station, 1 a mobile station
abbrev pub sender_told : ℕ → Side
sender_told side = if side == 0 then Bs else Ms

-- who sends a burst, and whether it is voice
abbrev pub sync_told : BurstSync → Sync
sync_told s = record { side = sender_told s.side; voice = s.voice }

-- a slot type by its fields
abbrev pub slot_type_told : BurstSlotType → SlotType
slot_type_told s = record { colour = s.colour; kind = s.kind }

-- embedded signalling by its fields
abbrev pub emb_told : BurstEmb → Emb
emb_told e = record { colour = e.colour; pi = e.pi; lcss = e.lcss }

-- 0 a PI header, 1 a control signalling block, and any other a data header
abbrev pub mask_told : ℕ → Mask
mask_told block_use = if block_use == 0 then Pi else (if block_use == 1 then Csbk else Header)

-- 0 a voice LC header, and any other a terminator with LC
abbrev pub lc_use_told : ℕ → LcUse
lc_use_told number = if number == 0 then lc_use.Header else lc_use.Terminator

-- a full link control by its fields
abbrev pub link_control_told : BurstLinkControl → FullLc
link_control_told lc = record { protect = lc.protect; reserved = lc.reserved; flco = lc.flco; fid = lc.fid; body = lc.body }

-- the same with the six lowest bits of the opcode
abbrev pub link_control_given : BurstLinkControl → FullLc
link_control_given lc = record (link_control_told lc) { flco = lc.flco % 64 }

-- 1 no product word, and any other a wrong parity
abbrev pub lc_fault_told : ℕ → LcFault
lc_fault_told status = if status == 1 then lc_fault.Bptc else lc_fault.Parity

-- 0 these octets, 1 an unreadable row, 2 odd columns, and any other a wrong checksum
abbrev pub extracted_told : ℕ → List ℕ → Result (List ℕ) EmbedFault
extracted_told status octets =
    if status == 0 then Ok octets
    else (if status == 1 then Err embed_fault.Row else (if status == 2 then Err embed_fault.Columns else Err embed_fault.Checksum))

-- 0 the twelve octets that were corrected, 1 none, and any other bits that are in another code or in none
abbrev pub information_told : BurstReading → Information
information_told r =
    if r.information == 0 then Coded (Some (bits_of_octets r.message))
    else (if r.information == 1 then Coded None else AsReceived)

-- 1 data, 2 data whose slot type is too damaged, 3 voice with a sync word, 4 voice with embedded signalling, and any other nothing
abbrev pub reading_told : ℕ → BurstReading → Reading
reading_told kind r =
    if kind == 1 then Data (sender_told r.side) (record { colour = r.colour; kind = r.kind }) (information_told r)
    else (if kind == 2 then Untyped (sender_told r.side)
    else (if kind == 3 then VoiceSync (sender_told r.side)
    else (if kind == 4 then Voice (record { colour = r.colour; pi = r.pi; lcss = r.lcss }) else Unreadable)))

-- zeros in all fields
abbrev pub no_reading_told : BurstReading
no_reading_told =
    record { side = 0; colour = 0; kind = 0; information = 0; pi = false; lcss = 0; message = replicate 12 0 }

-- the octets of a message, where there is one, and else zeros
abbrev pub message_told : BurstReading → List ℕ
message_told r = if r.information == 0 then r.message else replicate 12 0

-- the same with zeros in the fields that a burst which is read so has not
abbrev pub cleared : ℕ → BurstReading → BurstReading
cleared kind r =
    if kind == 1 then record no_reading_told {
      side = r.side;
      colour = r.colour;
      kind = r.kind;
      information = r.information;
      message = message_told r;
    }
    else (if kind == 2 then record no_reading_told { side = r.side }
    else (if kind == 3 then record no_reading_told { side = r.side }
    else (if kind == 4 then record no_reading_told { colour = r.colour; pi = r.pi; lcss = r.lcss } else no_reading_told)))

-- fragments of a Short LC, 17 bits each, by the numbers that they spell
unfoldable pub fragments_told : List ℕ → List (List Bool)
fragments_told numbers = map (bits_of 17) numbers
