-- The cells of a row.
use Rattle.std.proofs.Common.{◌≡◌, ℕ, List, [], ◌∷◌, decimal, option_map}
use Rattle.dmr_listing.specs.declared.way.Way.{Way}
use Rattle.dmr_log.specs.declared.checks.Checks.{Checks}
use Rattle.dmr_log_forms.specs.Rows.{row_cells, number_cell, flag_cell, end_cell}
use Rattle.dmr_log_forms.specs.declared.columns.EntryColumns.{EntryColumns}

-- cells each of which shows its column
pub cells_shown : (c : EntryColumns)
    (start seconds frame slot kind from to group options late bursts
    places filled blocks missing wrong checked end details : List ℕ)
    → frame ≡ decimal c.place.frame → slot ≡ decimal c.place.slot
    → from ≡ number_cell decimal (option_map (λ (w : Way). w.source) c.way)
    → to ≡ number_cell decimal (option_map (λ (w : Way). w.destination) c.way)
    → group ≡ flag_cell (option_map (λ (w : Way). w.to_group) c.way)
    → options ≡ number_cell decimal c.options → late ≡ flag_cell c.is_late → bursts ≡ number_cell decimal c.bursts
    → places ≡ number_cell decimal c.places → filled ≡ number_cell decimal c.filled
    → blocks ≡ number_cell decimal c.blocks → missing ≡ number_cell decimal c.missing
    → wrong ≡ number_cell decimal (option_map (λ (k : Checks). k.wrong) c.checks)
    → checked ≡ number_cell decimal (option_map (λ (k : Checks). k.covered) c.checks)
    → end ≡ end_cell c.end
    → (start ∷ seconds ∷ frame ∷ slot ∷ kind ∷ from ∷ to ∷ group ∷ options ∷ late
    ∷ bursts ∷ places ∷ filled ∷ blocks ∷ missing ∷ wrong ∷ checked ∷ end ∷ details ∷ [])
    ≡ row_cells (record { start = start; seconds = seconds; kind = kind; details = details }) c
cells_shown c start seconds frame slot kind from to group options late bursts
    places filled blocks missing wrong checked end details
    h1 h2 h3 h4 h5 h6 h7 h8 h9 h10 h11 h12 h13 h14 h15 = cc
