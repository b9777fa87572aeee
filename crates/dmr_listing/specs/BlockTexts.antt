-- What a line says of a control signalling block.
use Rattle.std.specs.Prelude.{ℕ, List, [], ◌∷◌, ◌++◌, if◌then◌else◌, codes, decimal}
use Rattle.dmr_csbk.specs.Meaning.{meaning_of}
use Rattle.dmr_csbk.specs.declared.block.Csbk.{Csbk}
use Rattle.dmr_csbk.specs.declared.meaning.ControlMeaning.{ControlMeaning}
use Rattle.dmr_csbk.specs.declared.meaning.ControlMeaning.TheVariants as meaning
use Rattle.dmr_csbk.specs.declared.views.Preamble.{Preamble}
use Rattle.dmr_listing.specs.Texts.{named, listed, digits_text, way_text}
use Rattle.dmr_listing.specs.declared.way.Way.{Way}

-- from whom a preamble is to whom
abbrev pub way_of_preamble : Preamble → Way
way_of_preamble p = record { source = p.source; to_group = p.group; destination = p.target }

-- what follows, how many of it, and from whom to whom
abbrev pub preamble_text : Preamble → List ℕ
preamble_text p = listed (codes "preamble"
    ∷ ((if p.packet then codes "data" else codes "CSBKs") ++ named (codes " to follow") p.left) ∷ way_text (way_of_preamble p) ∷ [])

-- a block by what it means, or as its opcode, its feature set and its octets
abbrev pub text_of_meaning : Csbk → ControlMeaning → List ℕ
text_of_meaning block (meaning.BsDownAct request) =
    codes "BS activation by " ++ (decimal request.source ++ (codes " of " ++ decimal request.bs))
text_of_meaning block (meaning.Preamble p) = preamble_text p
text_of_meaning block meaning.Other =
    listed (named (codes "opcode") block.code ∷ named (codes "fid") block.fid ∷ digits_text block.body ∷ [])

-- a block, by what it means
abbrev pub block_text : Csbk → List ℕ
block_text block = text_of_meaning block (meaning_of block)
