-- What is printed of how many bursts were carried: each count behind its name, with a space between each two words.
use Rattle.std.specs.Prelude.{ℕ, ◌-◌, List, [], ◌∷◌, codes, decimal}
use Rattle.std.specs.List.{join_with_byte}
use Rattle.dmr_dmrd_export.specs.declared.counts.ExportedBursts.{ExportedBursts}

-- Those that the downlink has and that weren't written are left out.
abbrev pub exported_bursts_text : ExportedBursts → List ℕ
exported_bursts_text e = join_with_byte 32 (codes "records" ∷ decimal e.records ∷ codes "written" ∷ decimal e.written
    ∷ codes "left-out" ∷ decimal (e.records - e.written) ∷ [])
