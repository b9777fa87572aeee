-- A burst of 264 bits has one sync of a mobile station, one slot type and one EMB, and damaged information is of one data burst.
use Rattle.std.proofs.Common.{◌≡◌, ◌≢◌, ℕ, ◌+◌, ◌≤◌, ◌<◌, Bool, List, ◌++◌, length, Option, Some, get_or, set, refl, sym, ap}
use Rattle.std.proofs.Common.{◌∙◌, subst, false, arith, inl, inr, lit<, lit≤}
use Rattle.std.proofs.lemmas.Bool.{cases_eq, cases_lt}
use Rattle.std.proofs.lemmas.List.{length-append, length-set, get_or-set_same, get_or-set_other}
use Rattle.dmr_bits.specs.Bits.{distance, part, xor_bits}
use Rattle.dmr_bits.proofs.Lists.{triangle, distance_zero}
use Rattle.dmr_bits.proofs.Parts.{length-part}
use Rattle.dmr_bptc.specs.Decoding.{IsDamaged}
use Rattle.dmr_bptc.specs.ProductWord.{IsProductWord, information as held_by}
use Rattle.dmr_bptc.specs.ProductWord.{row, column}
use Rattle.dmr_bptc.proofs.Cells.{length-row, length-column, get_or-row, cells_of_row, cells_of_column, information_same}
use Rattle.dmr_bptc.proofs.Near.{agree_but_one}
use Rattle.dmr_burst.specs.Emb.{HasEmb, emb_of}
use Rattle.dmr_burst.specs.Layout.{slot_type_field, emb_field, sync_field}
use Rattle.dmr_burst.specs.SlotType.{HasSlotType, slot_type_of}
use Rattle.dmr_burst.specs.Sync.{HasSync}
use Rattle.dmr_burst.specs.declared.emb.Emb.{Emb}
use Rattle.dmr_burst.specs.declared.slot_type.SlotType.{SlotType}
use Rattle.dmr_burst.specs.declared.sync.Side.TheVariants.{Ms}
use Rattle.dmr_burst.specs.declared.sync.Sync.{Sync}
use Rattle.dmr_burst.proofs.Syncs.{first_is}
use Rattle.dmr_codes.specs.LeastColumns.{least_three}
use Rattle.dmr_codes.specs.LeastWords.{least_by_words}
use Rattle.dmr_codes.specs.Seven.{golay20_columns, golay20_shaped, residue16_columns, residue16_shaped}
use Rattle.dmr_codes.specs.Seven.{IsHamming15, hamming15_columns, hamming15_shaped, hamming13_columns, hamming13_shaped}
use Rattle.dmr_codes.specs.Words.{one_within, IsWord-xor}
use Rattle.dmr_hearing.specs.Damage.{Sends, IsDamagedPayload}
use Rattle.dmr_bptc.specs.ProductWord.{IsWritten}
use Rattle.dmr_hearing.specs.declared.data_types.Payload.{Payload}
use Rattle.dmr_hearing.specs.declared.data_types.Payload.TheVariants.{Word, Sealed, LinkControl, Raw, Nothing}
use Rattle.dmr_hearing.proofs.Payloads.{one_encoded}
use Rattle.dmr_link.specs.declared.full_lc.FullLc.{FullLc}
use Rattle.dmr_link.specs.Sealed.{IsLc}
use Rattle.dmr_link.proofs.SealedForms.{same_lc}

-- ---- sync, slot type and EMB
same_sync : (a b : Sync) → Some a ≡ Some b → a ≡ b
same_sync a b e = cc

-- 264 bits don't have both syncs of a mobile station, that of voice and that of data
pub one_sync : (bits : List Bool) (u v : Bool) → length bits ≡ 264 → HasSync (record { side = Ms; voice = u }) bits
    → HasSync (record { side = Ms; voice = v }) bits → u ≡ v
one_sync bits u v long p q =
    let centre : length (sync_field bits) ≡ 48 = length-part bits 108 156 (lit≤ tt) (omega arith) in
    let found = sym (first_is Ms u (sync_field bits) centre p) ∙ first_is Ms v (sync_field bits) centre q in
    ap (λ (s : Sync). s.voice) (same_sync _ _ found)

-- two parts, one behind the other
pub length-parts : (bits : List Bool) (a b c d : ℕ) → a ≤ b → b ≤ length bits → c ≤ d → d ≤ length bits
    → length (part bits a b ++ part bits c d) + (a + c) ≡ b + d
length-parts bits a b c d h k l m =
    omega (arith, length-append (part bits a b) (part bits c d), length-part bits a b h k, length-part bits c d l m)

-- 264 bits have one slot type at most
pub one_slot_type : (bits : List Bool) (a b : SlotType) → length bits ≡ 264 → HasSlotType a bits → HasSlotType b bits → a ≡ b
one_slot_type bits a b long (x, golay, near, says) (y, golay', near', says') =
    let twenty : length (slot_type_field bits) ≡ 20 =
    omega (arith, length-parts bits 98 108 156 166 (lit≤ tt) (omega arith) (lit≤ tt) (omega arith)) in
    let same : x ≡ y = one_within golay20_columns 12 8 3 x y (slot_type_field bits)
    (least_by_words 20 8 golay20_columns 8 golay20_shaped refl) (lit< tt) twenty golay golay' near near' in
    sym says ∙ ap slot_type_of same ∙ says'

-- 264 bits have one EMB at most
pub one_emb : (bits : List Bool) (a b : Emb) → length bits ≡ 264 → HasEmb a bits → HasEmb b bits → a ≡ b
one_emb bits a b long (x, residue, near, says) (y, residue', near', says') =
    let sixteen : length (emb_field bits) ≡ 16 =
    omega (arith, length-parts bits 108 116 148 156 (lit≤ tt) (omega arith) (lit≤ tt) (omega arith)) in
    let same : x ≡ y = one_within residue16_columns 9 6 2 x y (emb_field bits)
    (least_by_words 16 7 residue16_columns 6 residue16_shaped refl) (lit< tt) sixteen residue residue' near near' in
    sym says ∙ ap emb_of same ∙ says'

-- ---- product words
agree_but_two : (x y : List Bool) (i j : ℕ) → length x ≡ length y
    → ((k : ℕ) → k < length y → k ≢ i → k ≢ j → get_or x k false ≡ get_or y k false) → distance x y ≤ 2
agree_but_two x y i j e h =
    let z : List Bool = set x j (get_or y j false) in
    let long : length z ≡ length x = length-set x j (get_or y j false) in
    let first : distance x z ≤ 1 =
    agree_but_one x z j (sym long) (λ k l apart. sym (get_or-set_other x j k (get_or y j false) false apart)) in
    let second : distance y z ≤ 1 =
    agree_but_one y z i (sym e ∙ sym long) (λ k l apart. elim (cases_eq k j) [
      | inl same ↦ rw same (sym (get_or-set_same x j (get_or y j false) false (omega arith)))
      | inr other ↦ sym (get_or-set_other x j k (get_or y j false) false other ∙ h k (omega arith) apart other)
    ]) in
    let third = triangle x y z (sym long) (sym e ∙ sym long) in
    omega arith

-- words of the rows' code that differ in two places at most are one
near_rows : (a b : List Bool) → IsHamming15 a → IsHamming15 b → distance a b ≤ 2 → a ≡ b
near_rows a b u v near =
    let least = least_three 15 11 hamming15_columns hamming15_shaped refl refl in
    elim (cases_lt 0 (distance a b)) [
      | inl some ↦
          (let far : 3 ≤ distance a b = least (xor_bits a b) (IsWord-xor hamming15_columns 4 a b u v) some in absurd (omega arith))
      | inr none ↦ distance_zero a b (u.long ∙ sym v.long) (omega arith)
    ]

-- bits that are damaged within the limits hold one information
one_held : (received v w : List Bool) → IsProductWord v → IsProductWord w → IsDamaged v received → IsDamaged w received
    → held_by v ≡ held_by w
one_held received v w p q (bad, near) (other, near') =
    let columns : (c : ℕ) → c < 15 → c ≢ bad → c ≢ other → column v c ≡ column w c = λ c h k l.
    one_within hamming13_columns 4 3 1 (column v c) (column w c) (column received c)
    (least_three 13 9 hamming13_columns hamming13_shaped refl refl) (lit< tt) (length-column received c)
    (p.columns c h) (q.columns c h) (near c h k) (near' c h l) in
    let rows : (r : ℕ) → r < 13 → row v r ≡ row w r = λ r h.
    near_rows (row v r) (row w r) (p.rows r h) (q.rows r h)
    (agree_but_two (row v r) (row w r) bad other (length-row v r ∙ sym (length-row w r)) (λ c l apart apart'.
    let inside : c < 15 = omega (arith, length-row w r) in
    get_or-row v r c inside ∙ cells_of_column v w r c h (columns c inside apart apart') ∙ sym (get_or-row w r c inside))) in
    information_same v w (λ r c h l. cells_of_row v w r c l (rows r h))

-- ---- what information is of
one_message : (received i j : List Bool) → IsDamagedPayload Word i received → IsDamagedPayload Word j received
    → held_by i ≡ held_by j
one_message received i j (v, product, same, near) (w, product', same', near') =
    sym same ∙ one_held received v w product product' near near' ∙ same'

message_is : (received m n i j : List Bool) → IsWritten m i → IsWritten n j → IsDamagedPayload Word i received
    → IsDamagedPayload Word j received
    → m ≡ n
message_is received m n i j e f p q = sym e.holds ∙ one_message received i j p q ∙ f.holds

information_is : (received m n i j : List Bool) → IsWritten m i → IsWritten n j → IsDamagedPayload Word i received
    → IsDamagedPayload Word j received
    → i ≡ j
information_is received m n i j e f p q = one_encoded m n i j (message_is received m n i j e f p q) e f

-- damaged information was sent in one way alone, with one link control or none
pub one_payload : (payload : Payload) (received i j : List Bool) (k l : Option FullLc) → Sends payload i k → Sends payload j l
    → IsDamagedPayload payload i received → IsDamagedPayload payload j received → (i ≡ j) × (k ≡ l)
one_payload Word received i j k l (m, e, none) (n, f, none') p q = (information_is received m n i j e f p q, none ∙ sym none')
one_payload (Sealed mask) received i j k l (m, s, e, none) (n, t, f, none') p q =
    (information_is received m n i j e f p q, none ∙ sym none')
one_payload (LinkControl lc_use) received i j k l (a, m, s, e, is) (b, n, t, f, is') p q =
    let same : m ≡ n = message_is received m n i j e f p q in
    let lc : a ≡ b = same_lc lc_use a b n (subst (IsLc lc_use a) same s) t in
    (information_is received m n i j e f p q, is ∙ ap Some lc ∙ sym is')
one_payload Raw received i j k l (long, none) (long', none') p q = (sym p ∙ q, none ∙ sym none')
one_payload Nothing received i j k l a b p q = absurd a
