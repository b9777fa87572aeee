-- What a handle owns: nothing at null, and elsewhere a station in a block of the heap.
use Rattle.std.specs.Prelude.{Option, None, Some}
use base.Fml.{Fml, feq}
use base.Stored.{Coded}
use denote.RawPtr.{Ptr, null_ptr}
use Rattle.std_heap.specs.declared.Global.{Global}
use Rattle.std_heap.specs.contracts.GlobalAllocator.TheImpl.{ghosts}
use Rattle.std.specs.Box.Ownership.{box_owns}
use Rattle.std.specs.contracts.option.Option.{the_row as option_row}
use Rattle.dmr_station.specs.Station.{State}
use Rattle.dmr_station.specs.contracts.station.Station.{the_row}

-- The heap, of which there is one.
abbrev pub heap : Global
heap = record { memory = record { seal = tt } }

-- A pointer of null owns no station. Any other owns one, and the right to free its block.
abbrev pub handle_owns : Ptr → Option State → Fml
handle_owns at None = feq Ptr at null_ptr
handle_owns at (Some state) = box_owns (ghosts.dealloc_token heap) the_row at state

-- How the logic stores what a handle holds.
abbrev pub coded_held : Coded (Option State)
coded_held = (option_row the_row).coded
