-- The rows of a log as CSV.
use Rattle.std.specs.Prelude.{◌≡◌, ℕ, Bool, true, false, List, [], ◌∷◌, Option, Some, None, IfSome, codes, decimal, option_map}
use Rattle.csv.specs.Writing.{default_writer, row_text}
use Rattle.dmr_listing.specs.declared.way.Way.{Way}
use Rattle.dmr_log.specs.declared.checks.Checks.{Checks}
use Rattle.dmr_log_forms.specs.Kinds.{in_table, kind_name}
use Rattle.dmr_log_forms.specs.declared.columns.CallEnd.{CallEnd}
use Rattle.dmr_log_forms.specs.declared.columns.CallEnd.TheVariants as end
use Rattle.dmr_log_forms.specs.declared.columns.EntryColumns.{EntryColumns}
use Rattle.dmr_log_forms.specs.declared.row.RowCells.{RowCells}

-- 1. RowCells.

-- a number in its text, or nothing
abbrev pub number_cell : {N : Type 0} → (N → List ℕ) → Option N → List ℕ
number_cell text None = []
number_cell text (Some number) = text number

-- 1 or 0, or nothing
abbrev pub flag_cell : Option Bool → List ℕ
flag_cell None = []
flag_cell (Some true) = decimal 1
flag_cell (Some false) = decimal 0

-- how a call ended, or nothing
abbrev pub end_name : CallEnd → List ℕ
end_name end.Terminator = codes "terminator"
end_name end.Lost = codes "lost"
end_name end.Cut = codes "cut"
end_name end.End = codes "end"

abbrev pub end_cell : Option CallEnd → List ℕ
end_cell None = []
end_cell (Some e) = end_name e

-- 2. Rows.

-- the names of the columns
abbrev pub names : List (List ℕ)
names =
    codes "start" ∷ codes "seconds" ∷ codes "frame" ∷ codes "slot" ∷ codes "kind" ∷ codes "from" ∷ codes "to"
    ∷ codes "group" ∷ codes "options" ∷ codes "late" ∷ codes "bursts" ∷ codes "places" ∷ codes "filled"
    ∷ codes "blocks" ∷ codes "missing" ∷ codes "wrong" ∷ codes "checked" ∷ codes "end" ∷ codes "details" ∷ []

-- the octets of the cells, in the order of the columns
abbrev pub cell_octets : RowCells → List (List ℕ)
cell_octets cells =
    cells.start.bytes ∷ cells.seconds.bytes ∷ cells.frame.bytes ∷ cells.slot.bytes ∷ cells.kind.bytes
    ∷ cells.from.bytes ∷ cells.to.bytes ∷ cells.group.bytes ∷ cells.options.bytes ∷ cells.late.bytes
    ∷ cells.bursts.bytes ∷ cells.places.bytes ∷ cells.filled.bytes ∷ cells.blocks.bytes ∷ cells.missing.bytes
    ∷ cells.wrong.bytes ∷ cells.checked.bytes ∷ cells.end.bytes ∷ cells.details.bytes ∷ []

-- the cells of a row that are texts
pub record Texts : Type 0 where
  pub start : List ℕ
  pub seconds : List ℕ
  pub kind : List ℕ
  pub details : List ℕ

-- all cells of a row, under the names in their order
abbrev pub row_cells : Texts → EntryColumns → List (List ℕ)
row_cells texts c =
    texts.start ∷ texts.seconds
    ∷ decimal c.place.frame ∷ decimal c.place.slot
    ∷ texts.kind
    ∷ number_cell decimal (option_map (λ (w : Way). w.source) c.way)
    ∷ number_cell decimal (option_map (λ (w : Way). w.destination) c.way)
    ∷ flag_cell (option_map (λ (w : Way). w.to_group) c.way)
    ∷ number_cell decimal c.options
    ∷ flag_cell c.is_late
    ∷ number_cell decimal c.bursts
    ∷ number_cell decimal c.places
    ∷ number_cell decimal c.filled
    ∷ number_cell decimal c.blocks
    ∷ number_cell decimal c.missing
    ∷ number_cell decimal (option_map (λ (k : Checks). k.wrong) c.checks)
    ∷ number_cell decimal (option_map (λ (k : Checks). k.covered) c.checks)
    ∷ end_cell c.end
    ∷ texts.details
    ∷ []

-- The cells of a row show these columns: they are theirs, and what it is has its name, where that hangs on no number.
pub record Shows (columns : EntryColumns) (cells : List (List ℕ)) : Type 0 where
  pub texts : Texts
  pub kind : IfSome (kind_name (in_table columns.kind)) (λ name. texts.kind ≡ name)
  pub theirs : cells ≡ row_cells texts columns

-- A row has cells that show these columns.
abbrev pub ShowsColumns : EntryColumns → List ℕ → Type 0
ShowsColumns columns row = (cells : List (List ℕ)) × Shows columns cells × (row ≡ row_text default_writer cells)
