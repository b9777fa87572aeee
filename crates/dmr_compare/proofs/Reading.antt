-- What is read goes on, slot by slot.
use Rattle.std.proofs.Common.{◌≡◌, ℕ, ◌+◌, ◌*◌, ◌<◌, ◌≤◌, Bool, false, List, [], ◌∷◌, ◌++◌, length, Option, None, Some}
use Rattle.std.proofs.Common.{sym, ap, ◌∙◌, subst}
use Rattle.std.proofs.Common.{arith, append-nil}
use Rattle.std.specs.Io.KnownBytes.{Consumes}
use Rattle.std.proofs.lemmas.List.Concat.{flat_map-append}
use Rattle.std.proofs.lemmas.List.{length_push, map-append}
use Rattle.dmr_listing.proofs.Listings.{read_burst, read_silence}
use Rattle.dmr_listing.specs.ListingRules.{IsRead, ListingTurn}
use Rattle.dmr_listing.specs.declared.burst_line.BurstLine.{BurstLine}
use Rattle.dmr_recording.proofs.Spelled.{octets_more}
use Rattle.dmr_recording.specs.Places.{octet_behind}
use Rattle.dmr_recording.specs.Recordings.{IsSlotOf, RecordedSlot, slot_limit_of, spelling}
use Rattle.dmr_recording.specs.declared.recording.Recording.{Recording}
use Rattle.dmr_compare.specs.Reading.{AreSlotsRead, HasRead}
use Rattle.dmr_compare.specs.Slots.{IsListedAt, ListedSlot, line_in_slot, lines_of, bare_slot, bare_slots}

-- the slots of a list and of one more
pub slots_more : (slots : List ListedSlot) (slot : ListedSlot)
    → bare_slots (slots ++ slot ∷ []) ≡ bare_slots slots ++ bare_slot slot ∷ []
slots_more slots slot = map-append bare_slot slots (slot ∷ [])

-- the lines of a list and of one more
pub lines_more : (slots : List ListedSlot) (slot : ListedSlot) → lines_of (slots ++ slot ∷ []) ≡ lines_of slots ++ line_in_slot slot
lines_more slots slot =
    flat_map-append line_in_slot slots (slot ∷ []) ∙ ap (λ l. lines_of slots ++ l) (append-nil (line_in_slot slot))

-- these slots and lines were read, whatever they are called
pub read_as : (recording : Recording) (slots slots' : List RecordedSlot) (lines lines' : List BurstLine) (turn turn' : ListingTurn)
    (a c : Option (List ℕ)) → slots' ≡ slots → lines' ≡ lines → turn' ≡ turn
    → IsRead recording slots lines [] turn a c → IsRead recording slots' lines' [] turn' a c
read_as recording slots slots' lines lines' turn turn' a c same_slots same_lines same_turn read =
    subst (λ (s : List RecordedSlot). IsRead recording s lines' [] turn' a c) (sym same_slots)
    (subst (λ (l : List BurstLine). IsRead recording slots l [] turn' a c) (sym same_lines)
    (subst (λ (t : ListingTurn). IsRead recording slots lines [] t a c) (sym same_turn) read))

-- a slot more was read
pub read_more : (recording : Recording) (slots : List ListedSlot) (slot : ListedSlot) (turn next : ListingTurn)
    (a b c : Option (List ℕ)) → AreSlotsRead recording slots turn a b → IsSlotOf recording (bare_slot slot)
    → Consumes b c (spelling recording (bare_slot slot)) → IsListedAt turn slot next
    → AreSlotsRead recording (slots ++ slot ∷ []) next a c
read_more recording slots None turn next a b c read is_slot octets listed =
    read_as recording _ (bare_slots (slots ++ None ∷ [])) _ (lines_of (slots ++ None ∷ [])) _ next a c (slots_more slots None)
    (lines_more slots None ∙ append-nil (lines_of slots)) listed
    (read_silence recording (bare_slots slots) (lines_of slots) turn a b c read octets)
read_more recording slots (Some s) turn next a b c read is_slot octets listed =
    read_as recording _ (bare_slots (slots ++ Some s ∷ [])) _ (lines_of (slots ++ Some s ∷ [])) _ next a c
    (slots_more slots (Some s))
    (lines_more slots (Some s)) listed.1
    (read_burst recording (bare_slots slots) (lines_of slots) turn s.burst s.line a b c read is_slot octets listed.0)

-- where the record behind one more slot begins
pub octet_more : (recording : Recording) (slots : List ListedSlot) (slot : ListedSlot) (octet : ℕ)
    → octet ≡ octet_behind (spelling recording) (bare_slots slots)
    → octet + length (spelling recording (bare_slot slot)) ≡ octet_behind (spelling recording) (bare_slots (slots ++ slot ∷ []))
octet_more recording slots slot octet e =
    octets_more recording (bare_slots slots) (bare_slot slot) octet e
    ∙ ap (λ (s : List RecordedSlot). octet_behind (spelling recording) s) (sym (slots_more slots slot))

-- one slot more is counted
pub counted_more : (turn next : ListingTurn) (slot : ListedSlot) → IsListedAt turn slot next → next.slots ≡ turn.slots + 1
counted_more turn next None listed = ap (λ (t : ListingTurn). t.slots) listed
counted_more turn next (Some s) listed = ap (λ (t : ListingTurn). t.slots) listed.1

-- a reader goes on over a slot that it read
pub goes_on : (recording : Recording) (turn next : ListingTurn) (octet octet' : ℕ) (is_over : Bool) (slots : List ListedSlot)
    (slot : ListedSlot) (a b c : Option (List ℕ))
    → HasRead (record { recording = recording; view = turn; octet = octet; is_over = is_over }) slots a b
    → is_over ≡ false → turn.slots < slot_limit_of recording → IsSlotOf recording (bare_slot slot)
    → Consumes b c (spelling recording (bare_slot slot)) → IsListedAt turn slot next
    → octet' ≡ octet + length (spelling recording (bare_slot slot)) → octet' ≤ octet + 37
    → HasRead (record { recording = recording; view = next; octet = octet'; is_over = is_over }) (slots ++ slot ∷ []) a c
goes_on recording turn next octet octet' is_over slots slot a b c h going below is_slot octets listed long short =
    let more = counted_more turn next slot listed in
    let pushed = length_push slots slot in
    let old_count : turn.slots ≡ length slots = h.count in
    let old_room : octet ≤ 8 + 37 * turn.slots = h.room in
    record {
      read = read_more recording slots slot turn next a b c h.read is_slot octets listed;
      count = omega (arith, more, pushed, old_count);
      few = omega (arith, more, below);
      octet = long ∙ octet_more recording slots slot octet h.octet;
      room = omega (arith, short, more, old_room);
      over = λ e. absurd (grind (arith, going, e));
    }
