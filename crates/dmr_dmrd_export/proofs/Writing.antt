-- Packets are written one after another.
use Rattle.std.proofs.Common.{◌≡◌, ℕ, List, [], ◌++◌, map, Option, sym, ap, ◌∙◌, subst}
use Rattle.std.proofs.ByRecursion.{All-append}
use Rattle.std.proofs.lemmas.List.{map-append}
use Rattle.std.proofs.lemmas.List.Concat.{flat_map-append}
use Rattle.std.specs.Io.KnownBytes.{Appends}
use Rattle.std.specs.List.{AllByRecursion, flat_map}
use Rattle.std.proofs.KnownBytes.{Appends-trans, Appends-nil}
use Rattle.dmr_capture.specs.Written.{IsWritable, packet_record}
use Rattle.dmr_record.specs.Devices.{Tears}
use Rattle.dmr_record.proofs.Torn.{Tears_after}
use Rattle.dmr_dmrd_export.specs.BurstPackets.{dmrd_packet}
use Rattle.dmr_dmrd_export.specs.Deciding.{AreMoreTorn, AreMoreWritten, dmrd_records}
use Rattle.dmr_dmrd_export.specs.declared.burst.RepeatedBurst.{RepeatedBurst}
use Rattle.dmr_dmrd_export.specs.declared.packet.BurstPacket.{BurstPacket}
use Rattle.dmr_dmrd_export.specs.declared.settings.ExportSettings.{ExportSettings}
use Rattle.dmr_dmrd_export.specs.declared.state.ExportState.{ExportState}
use Rattle.dmr_dmrd_export.proofs.Streaming.{more_none, more_then}

-- the records of packets, and of some more
pub records_then : (settings : ExportSettings) (ps qs : List BurstPacket)
    → dmrd_records settings (ps ++ qs) ≡ dmrd_records settings ps ++ dmrd_records settings qs
records_then settings ps qs =
    ap (flat_map packet_record) (map-append (dmrd_packet settings) ps qs)
    ∙ flat_map-append packet_record (map (dmrd_packet settings) ps) (map (dmrd_packet settings) qs)

-- where nothing came, nothing more is written
pub written_none : (settings : ExportSettings) (state : ExportState) (held : Option (List ℕ))
    → AreMoreWritten settings state [] [] state held held
written_none settings state held = record { decided = more_none state; fit = tt; written = Appends-nil held }

-- what is written in two steps, one behind the other
pub written_then : (settings : ExportSettings) (a b c : ExportState) (xs ys : List (Option RepeatedBurst))
    (ps qs : List BurstPacket) (d e f : Option (List ℕ))
    → AreMoreWritten settings a xs ps b d e → AreMoreWritten settings b ys qs c e f
    → AreMoreWritten settings a (xs ++ ys) (ps ++ qs) c d f
written_then settings a b c xs ys ps qs d e f first second = record {
  decided = more_then a b c xs ys ps qs first.decided second.decided;
  fit = subst (AllByRecursion IsWritable) (sym (map-append (dmrd_packet settings) ps qs))
      (All-append IsWritable (map (dmrd_packet settings) ps) (map (dmrd_packet settings) qs) first.fit second.fit);
  written = subst (Appends d f) (sym (records_then settings ps qs)) (Appends-trans d e f _ _ first.written second.written);
}

-- what is written in two steps, of which the second one breaks off
pub torn_then : (settings : ExportSettings) (a b : ExportState) (xs ys : List (Option RepeatedBurst)) (ps : List BurstPacket)
    (d e f : Option (List ℕ)) → AreMoreWritten settings a xs ps b d e → AreMoreTorn settings b ys e f
    → AreMoreTorn settings a (xs ++ ys) d f
torn_then settings a b xs ys ps d e f first second = record {
  more = ps ++ second.more;
  after = second.after;
  decided = more_then a b second.after xs ys ps second.more first.decided second.decided;
  written = subst (Tears d f) (sym (records_then settings ps second.more)) (Tears_after d e f _ _ first.written second.written);
}
