-- Blocks of a pcapng, and their faults.
use Rattle.std.proofs.Common.{◌≡◌, ◌≢◌, ◌≤◌, ℕ, List, [], ◌∷◌, ◌++◌, length, take, refl, inl, inr, arith}
use Rattle.std.proofs.lemmas.List.{length-append}
use Rattle.dmr_capture.specs.Blocks.{IsBehindBlock, IsCaptureBlock, IsBlockHead, IsBlockHeadOf, IsBlockRest, IsPartOfBlock}
use Rattle.dmr_capture.specs.Blocks.{ShowsFaultInBlock, ShowsBlockHeadFault, packets_in, section_type}
use Rattle.dmr_capture.specs.CutFaults.{cut_block_fault}
use Rattle.dmr_capture.specs.Found.{IfPassed, IsFound, found_packets}
use Rattle.dmr_capture.specs.Reading.{ShowsBeginFault}
use Rattle.dmr_capture.specs.Rests.{ShowsRestFault}
use Rattle.dmr_capture.specs.State.{CaptureState, CapturedPacket, fresh_pcapng, captured_packet}
use Rattle.dmr_capture.specs.declared.block.Block.{Block}
use Rattle.dmr_capture.specs.declared.block.Block.TheVariants.{NewSection, NewInterface, Captured, Passed}
use Rattle.dmr_capture.specs.declared.block.BlockHead.{BlockHead}
use Rattle.dmr_capture.specs.declared.capture.Found.{Found}
use Rattle.dmr_capture.specs.declared.capture.Found.TheVariants as found
use Rattle.dmr_capture.specs.declared.fault.CaptureFault.{CaptureFault}
use Rattle.dmr_capture.specs.declared.fault.CaptureFault.TheVariants as fault
use Rattle.dmr_capture.specs.declared.transfer.Cut.{Cut}
use Rattle.dmr_capture.specs.declared.transfer.Cut.TheVariants.{End, Device}
use Rattle.dmr_capture.proofs.Fronts.{some_octets}

-- less than a block shows that it is cut, or could not be read
pub cut_front : (state : CaptureState) (cut : Cut) (part : List ℕ) → part ≢ [] → IsPartOfBlock state part
    → ShowsFaultInBlock state (cut_block_fault cut state.octet) part
cut_front state End part some less = (refl, some, less)
cut_front state Device part some less = (refl, less)

-- what the first octets show is a fault of their block
pub head_fault : (state : CaptureState) (e : CaptureFault) (head : List ℕ) → ShowsBlockHeadFault state e head
    → ShowsFaultInBlock state e head
head_fault state (fault.BadBlock octet) head (same, bad) = (same, inl bad)
head_fault state (fault.ManyInterfaces octet) head shown = shown
head_fault state (fault.TooLong octet) head shown = shown
head_fault state (fault.LinkType number) head shown = shown
head_fault state fault.NoCapture head shown = absurd shown
head_fault state fault.CutHead head shown = absurd shown
head_fault state (fault.CutPacket octet) head shown = absurd shown
head_fault state (fault.CutBlock octet) head shown = absurd shown
head_fault state (fault.Read octet) head shown = absurd shown

-- a block is judged by eight octets at least
head_long : (block : Block) (state : CaptureState) (head : List ℕ) (b : BlockHead) → IsBlockHeadOf block state head b
    → 8 ≤ length head
head_long NewSection state head b (says, none) = omega (arith, says.whole)
head_long (NewInterface link) state head b (says, same, long) = omega (arith, says.begins.whole)
head_long (Captured link time) state head b (says, same) = omega (arith, says.begins.begins.whole)
head_long Passed state head b (says, same, none) = omega (arith, says.whole)

-- what the rest of a block shows is a fault of it
pub rest_fault : (state : CaptureState) (e : CaptureFault) (head rest : List ℕ) (b : BlockHead) → IsBlockHead state head b
    → ShowsRestFault state.octet b e rest → ShowsFaultInBlock state e (head ++ rest)
rest_fault state (fault.CutBlock octet) head rest b begins (same, less) =
    let long = head_long b.block state head b begins.0 in (
      same,
      some_octets (head ++ rest) (omega (arith, length-append head rest, long)),
      inr (inr (record {
        head = head;
        rest = rest;
        says = b;
        parts = refl;
        begins = begins;
        less = omega (arith, length-append head rest, begins.1);
      })),
    )
rest_fault state (fault.Read octet) head rest b begins (same, less) = (
  same,
  inr (inr (record {
    head = head;
    rest = rest;
    says = b;
    parts = refl;
    begins = begins;
    less = omega (arith, length-append head rest, begins.1);
  })),
)
rest_fault state (fault.BadBlock octet) head rest b begins (same, bad) =
    (same, inr (record { head = head; rest = rest; says = b; parts = refl; begins = begins; bad = bad }))
rest_fault state (fault.ManyInterfaces octet) head rest b begins shown = absurd shown
rest_fault state (fault.TooLong octet) head rest b begins shown = absurd shown
rest_fault state (fault.LinkType number) head rest b begins shown = absurd shown
rest_fault state fault.NoCapture head rest b begins shown = absurd shown
rest_fault state fault.CutHead head rest b begins shown = absurd shown
rest_fault state (fault.CutPacket octet) head rest b begins shown = absurd shown

-- a block, by its head and its rest
pub is_block : (old new : CaptureState) (head rest kept : List ℕ) (b : BlockHead) (found : List CapturedPacket)
    → IsBlockHead old head b → IsBlockRest b kept rest → IsBehindBlock b.block old b kept new
    → found ≡ packets_in b.block old.octet kept → IsCaptureBlock old (head ++ rest) new found
is_block old new head rest kept b found begins ends behind held = record {
  head = head;
  rest = rest;
  kept = kept;
  says = b;
  parts = refl;
  begins = begins;
  ends = ends;
  behind = behind;
  held = held;
}

-- what holds of a block with the packets that it was found to hold, holds of its packet
pub as_packet : (what : Found) (room : List ℕ) (kept : ℕ) (Holds : List CapturedPacket → Type 0)
    → IsFound what (λ packet. packet.length ≡ kept) → Holds (found_packets what (take kept room))
    → IsFound what (λ packet. Holds (captured_packet packet (take packet.length room) ∷ []))
as_packet (found.Captured packet) room kept Holds same holds = rw same holds
as_packet found.Passed room kept Holds same holds = tt
as_packet found.End room kept Holds same holds = tt

-- and where it holds none, with none
pub as_passed : (what : Found) (kept : List ℕ) (Holds : List CapturedPacket → Type 0) → Holds (found_packets what kept)
    → IfPassed what (Holds [])
as_passed found.Passed kept Holds holds = holds
as_passed (found.Captured packet) kept Holds holds = tt
as_passed found.End kept Holds holds = tt

-- a section holds no packet
section_alone : (block : Block) (state : CaptureState) (head : List ℕ) (b : BlockHead) (octet : ℕ) (kept : List ℕ)
    → IsBlockHeadOf block state head b → take 4 head ≡ section_type → packets_in block octet kept ≡ []
section_alone NewSection state head b octet kept says section = refl
section_alone (NewInterface link) state head b octet kept says section = refl
section_alone (Captured link time) state head b octet kept says section = absurd (says.0.begins.begins.typed.other section)
section_alone Passed state head b octet kept says section = refl

-- A section header holds no packet.
pub section_holds_none : (state : CaptureState) (head : List ℕ) (b : BlockHead) (octet : ℕ) (kept : List ℕ)
    → IsBlockHead state head b → take 4 head ≡ section_type → packets_in b.block octet kept ≡ []
section_holds_none state head b octet kept begins section = section_alone b.block state head b octet kept begins.0 section

-- what the first section shows is a fault of the begin of a capture
pub section_fault : (e : CaptureFault) (part : List ℕ) → take 4 part ≡ section_type → ShowsFaultInBlock fresh_pcapng e part
    → ShowsBeginFault e part
section_fault (fault.LinkType number) part section shown = inr (record { section = section; shown = shown })
section_fault (fault.Read octet) part section shown = inr (record { section = section; shown = shown })
section_fault (fault.CutBlock octet) part section shown = record { section = section; shown = shown }
section_fault (fault.BadBlock octet) part section shown = record { section = section; shown = shown }
section_fault (fault.ManyInterfaces octet) part section shown = record { section = section; shown = shown }
section_fault (fault.TooLong octet) part section shown = record { section = section; shown = shown }
section_fault (fault.CutPacket octet) part section shown = absurd shown
section_fault fault.NoCapture part section shown = absurd shown
section_fault fault.CutHead part section shown = absurd shown
