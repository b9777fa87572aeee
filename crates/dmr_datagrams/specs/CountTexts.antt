-- What is printed of how many datagrams were carried: each count behind its name, with a space between each two words.
use Rattle.std.specs.Prelude.{ℕ, ◌-◌, List, [], ◌∷◌, codes, decimal}
use Rattle.std.specs.List.{join_with_byte}
use Rattle.dmr_datagrams.specs.declared.ends.ExportedDatagrams.{ExportedDatagrams}
use Rattle.dmr_datagrams.specs.declared.ends.ImportedDatagrams.{ImportedDatagrams}

-- to a capture: those that were read and not written are left out
abbrev pub exported_datagrams_text : ExportedDatagrams → List ℕ
exported_datagrams_text e = join_with_byte 32 (codes "records" ∷ decimal e.records ∷ codes "written" ∷ decimal e.written
    ∷ codes "left-out" ∷ decimal (e.records - e.written) ∷ [])

-- from a capture
abbrev pub imported_datagrams_text : ImportedDatagrams → List ℕ
imported_datagrams_text i = join_with_byte 32 (codes "records" ∷ decimal i.records ∷ codes "other" ∷ decimal i.other ∷ [])
