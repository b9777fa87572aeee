-- The octets of a recording go on, slot by slot.
use Rattle.std.proofs.Common.{◌≡◌, ℕ, ◌+◌, List, [], ◌∷◌, ◌++◌, length, Option, sym, ap, ◌∙◌, subst, arith, append-nil}
use Rattle.std.proofs.lemmas.List.{length-append}
use Rattle.std.proofs.lemmas.List.Concat.{flat_map-append}
use Rattle.std.specs.List.{flat_map}
use Rattle.std.specs.Io.KnownBytes.{Consumes}
use Rattle.std.proofs.KnownBytes.{Consumes-trans}
use Rattle.dmr_recording.specs.Places.{octet_behind}
use Rattle.dmr_recording.specs.Recordings.{RecordedSlot, spelling}
use Rattle.dmr_recording.specs.declared.recording.Recording.{Recording}

-- where slots were read, and then one more, all of them were read
pub spelled_more : (recording : Recording) (slots : List RecordedSlot) (slot : RecordedSlot) (a b c : Option (List ℕ))
    → Consumes a b (flat_map (spelling recording) slots ++ []) → Consumes b c (spelling recording slot)
    → Consumes a c (flat_map (spelling recording) (slots ++ slot ∷ []) ++ [])
spelled_more recording slots slot a b c first next =
    let one : flat_map (spelling recording) (slots ++ slot ∷ []) ≡ flat_map (spelling recording) slots ++ spelling recording slot =
    flat_map-append (spelling recording) slots (slot ∷ []) ∙ ap (λ l. flat_map (spelling recording) slots ++ l) (append-nil
    (spelling recording slot)) in
    subst (Consumes a c) (sym (append-nil (flat_map (spelling recording) (slots ++ slot ∷ [])) ∙ one))
    (Consumes-trans a b c _ _ (subst (Consumes a b) (append-nil (flat_map (spelling recording) slots)) first) next)

-- behind a slot more, the next one begins as many octets further on as that slot has
pub octets_more : (recording : Recording) (slots : List RecordedSlot) (slot : RecordedSlot) (octet : ℕ)
    → octet ≡ octet_behind (spelling recording)
    slots → octet + length (spelling recording slot) ≡ octet_behind (spelling recording) (slots ++ slot ∷ [])
octets_more recording slots slot octet e =
    let whole = ap length (flat_map-append (spelling recording) slots (slot ∷ []) ∙ ap (λ l. flat_map (spelling recording) slots
    ++ l) (append-nil (spelling recording slot))) in
    omega (arith, e, whole, length-append (flat_map (spelling recording) slots) (spelling recording slot))
