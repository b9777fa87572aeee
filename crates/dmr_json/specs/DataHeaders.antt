-- The object of a data header: the number of its format, who sends to whom, and the fields of its format.
use Rattle.std.specs.Prelude.{ℕ, List, [], ◌∷◌, Option, Some, None, codes}
use Rattle.dmr_data.specs.declared.header.Confirmed.{Confirmed}
use Rattle.dmr_data.specs.declared.header.Header.{Header}
use Rattle.dmr_data.specs.declared.header.Header.TheVariants as format
use Rattle.dmr_data.specs.declared.header.Response.{Response}
use Rattle.dmr_data.specs.declared.header.Unconfirmed.{Unconfirmed}
use Rattle.dmr_json.specs.Values.{bit, keyed_number, keys, object}
use Rattle.dmr_listing.specs.HeaderTexts.{header_way}
use Rattle.dmr_listing.specs.declared.way.Way.{Way}

-- whether the destination is a group, and the addresses
unfoldable pub way_keys : Way → List ℕ
way_keys way = keys (keyed_number (codes "group") (bit way.to_group)
    ∷ keyed_number (codes "target") way.destination ∷ keyed_number (codes "source") way.source ∷ [])

-- the object of a response
abbrev pub response_object : Response → List ℕ
response_object h = object (codes "\"format\":1" ∷ way_keys (header_way (format.Response h))
    ∷ keyed_number (codes "sap") h.sap ∷ keyed_number (codes "class") h.class ∷ keyed_number (codes "type") h.kind
    ∷ keyed_number (codes "status") h.status ∷ keyed_number (codes "blocks") h.blocks ∷ [])

-- the object of the header of an unconfirmed packet
abbrev pub unconfirmed_object : Unconfirmed → List ℕ
unconfirmed_object h = object (codes "\"format\":2" ∷ way_keys (header_way (format.Unconfirmed h))
    ∷ keyed_number (codes "sap") h.sap ∷ keyed_number (codes "blocks") h.blocks ∷ keyed_number (codes "pad") h.pad ∷ [])

-- the object of the header of a confirmed packet
abbrev pub confirmed_object : Confirmed → List ℕ
confirmed_object h = object (codes "\"format\":3" ∷ way_keys (header_way (format.Confirmed h))
    ∷ keyed_number (codes "sap") h.sap ∷ keyed_number (codes "number") h.number ∷ keyed_number (codes "blocks") h.blocks
    ∷ keyed_number (codes "pad") h.pad ∷ [])

-- the object of a header; short data and a status are left open
abbrev pub header_object : Header → Option (List ℕ)
header_object (format.Response h) = Some (response_object h)
header_object (format.Unconfirmed h) = Some (unconfirmed_object h)
header_object (format.Confirmed h) = Some (confirmed_object h)
header_object (format.ShortData h) = None
header_object (format.Status h) = None
