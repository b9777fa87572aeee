-- What a line says of a data header: who sends what to whom, and the fields of its format.
use Rattle.std.specs.Prelude.{ℕ, List, [], ◌∷◌, ◌++◌, codes, decimal}
use Rattle.dmr_data.specs.declared.header.Header.{Header}
use Rattle.dmr_data.specs.declared.header.Header.TheVariants as header
use Rattle.dmr_listing.specs.Texts.{named, listed, count_text, way_text}
use Rattle.dmr_listing.specs.Ways.{target_of, is_to_group, source_of}
use Rattle.dmr_listing.specs.declared.way.Way.{Way}

-- who sends it to whom
abbrev pub header_way : Header → Way
header_way h = record { source = source_of h; to_group = is_to_group h; destination = target_of h }

-- how many blocks follow
abbrev pub blocks_text : ℕ → List ℕ
blocks_text count = count_text count (codes "block")

-- what a format is called, and its fields in the order in which they are told
abbrev pub header_text : Header → List ℕ
header_text (header.Response h) = codes "response " ++ listed (way_text (header_way (header.Response h))
    ∷ named (codes "SAP") h.sap ∷ named (codes "class") h.class ∷ named (codes "type") h.kind
    ∷ named (codes "status") h.status ∷ blocks_text h.blocks ∷ [])
header_text (header.Unconfirmed h) = codes "unconfirmed " ++ listed (way_text (header_way (header.Unconfirmed h))
    ∷ named (codes "SAP") h.sap ∷ blocks_text h.blocks ∷ named (codes "pad") h.pad ∷ [])
header_text (header.Confirmed h) = codes "confirmed " ++ listed (way_text (header_way (header.Confirmed h))
    ∷ named (codes "SAP") h.sap ∷ named (codes "N(S)") h.number ∷ blocks_text h.blocks ∷ named (codes "pad") h.pad ∷ [])
header_text (header.ShortData h) = codes "short data " ++ listed (way_text (header_way (header.ShortData h))
    ∷ named (codes "format") h.data_format ∷ blocks_text h.blocks ∷ named (codes "bit padding") h.bit_padding ∷ [])
header_text (header.Status h) = codes "status " ++ listed (way_text (header_way (header.Status h))
    ∷ (named (codes "port") h.source_port ++ (codes " -> " ++ decimal h.destination_port)) ∷ named (codes "status") h.status ∷ [])
