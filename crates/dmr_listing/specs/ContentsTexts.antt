-- What a line says of what a data burst holds.
use Rattle.std.specs.Prelude.{ℕ, ◌%◌, List, [], ◌++◌, Option, Some, None, codes, slice_index}
use Rattle.dmr_listing.specs.BlockTexts.{block_text}
use Rattle.dmr_listing.specs.HeaderTexts.{header_text}
use Rattle.dmr_listing.specs.Texts.{digits_text, named}
use Rattle.dmr_listing.specs.declared.contents.Contents.{Contents}
use Rattle.dmr_listing.specs.declared.contents.Contents.TheVariants as contents

-- Each kind of contents; a link control is left open.
abbrev pub contents_text : Contents → Option (List ℕ)
contents_text (contents.LinkControl lc) = None
contents_text (contents.ControlBlock block) = Some (block_text block)
contents_text (contents.DataHeader header) = Some (header_text header)
contents_text (contents.OtherFormat octets) = Some (named (codes "format") (slice_index octets 0 % 16))
contents_text (contents.Unsealed octets) = Some (codes "wrong check " ++ digits_text octets)
contents_text (contents.Octets octets) = Some (digits_text octets)
contents_text contents.Idle = Some []
contents_text contents.AsReceived = Some (codes "as received")
contents_text contents.Unreadable = Some (codes "information unreadable")
