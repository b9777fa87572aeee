-- The parts of a box own what the box owns.
use mathlib.Core.List.{[]}
use mir.Syntax.{impl, tnil, dnil}
use denote.RattleType.{RattleType}
use denote.Signature.{Slot, plain}
use Rattle.std_alloc.proofs.BoxSteps.Form.{Bx}
use Rattle.std_heap.specs.contracts.Global as Heap
use Rattle.std_heap.specs.contracts.GlobalAllocator.TheImpl.{ghosts, dict}
use Rattle.std_heap.proofs.Global.TheLaws as heap
use Rattle.dmr_station.specs.contracts.station.Station as Station
use Rattle.dmr_station.proofs.station.Station.TheLaws as station
use Rattle.dmr_c.specs.contracts.parts.Parts as Parts
use Rattle.dmr_c.specs.contracts.handle.StationHandle as Handle

abbrev pub E : Bx
E =
    record {
      row = Station.the_row;
      laws = station.the_row_laws;
      al = record { row = Heap.the_row; laws = heap.the_row_laws; g = ghosts; d = dict; drops = impl [] tnil dnil };
    }

abbrev pub Pr : RattleType
Pr = Parts.the_row Station.the_row Heap.the_row ghosts

abbrev pub FromParts : Slot 0
FromParts = plain (λ _. Pr)

abbrev pub FromHandle : Slot 0
FromHandle = plain (λ _. Handle.the_row)

abbrev pub FromHeap : Slot 0
FromHeap = plain (λ _. Heap.the_row)
