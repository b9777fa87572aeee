-- Numbers that words are.
use Rattle.std.proofs.Common.{◌≡◌, ◌≢◌, ℕ, ◌+◌, ◌^◌, ◌<◌, ◌≤◌, List, [], ◌∷◌, inl, inr, refl, sym, ap, ◌∙◌, arith}
use Rattle.std.specs.Prelude.{IsTrue, codes, decimal, nat_eq}
use Rattle.std.proofs.lemmas.Fmt.{decimal_digit, decimal_injective}
use Rattle.std.proofs.lemmas.Bool.{eq-eqb, eqb-true}
use Rattle.dmr_record.specs.Received.{IsSlot}
use Rattle.dmr_text.specs.Spelling.{records_words}

-- a word is one number below 2^32 at most
pub one_number : (word : List ℕ) (m n : ℕ) → m < 2 ^ 32 → n < 2 ^ 32 → word ≡ decimal m → word ≡ decimal n → m ≡ n
one_number word m n few few' e e' = decimal_injective m n (omega arith) (omega arith) (sym e ∙ e')

-- the number of a slot is one digit
pub slot_digit : (slot : ℕ) → IsSlot slot → decimal slot ≡ (48 + slot) ∷ []
slot_digit slot (inl one) = decimal_digit slot (omega arith)
slot_digit slot (inr two) = decimal_digit slot (omega arith)

-- the digit 1 is a slot
pub first_slot : (word : List ℕ) → word ≡ 49 ∷ [] → IsSlot 1 × (word ≡ decimal 1)
first_slot word e = (inl refl, e ∙ sym (decimal_digit 1 (omega arith)))

-- the digit 2 is the other one
pub second_slot : (word : List ℕ) → word ≡ 50 ∷ [] → IsSlot 2 × (word ≡ decimal 2)
second_slot word e = (inr refl, e ∙ sym (decimal_digit 2 (omega arith)))

-- a last line has this count exactly where its number is the count
pub same_count : (words rest : List (List ℕ)) (first : List ℕ) (said count : ℕ) → said < 2 ^ 32 → count < 2 ^ 32
    → words ≡ first ∷ decimal said ∷ [] → words ≡ codes "records" ∷ rest
    → (IsTrue (nat_eq said count) → words ≡ records_words count) × (words ≡ records_words count → IsTrue (nat_eq said count))
same_count words rest first said count few few' e begins = (there, back)
  where
    there : IsTrue (nat_eq said count) → words ≡ records_words count
    there h =
        let same = eqb-true said count h in
        let one : first ≡ codes "records" = cc (e, begins) in
        e ∙ ap (λ (w : List ℕ). w ∷ decimal said ∷ []) one ∙ ap records_words same

    back : words ≡ records_words count → IsTrue (nat_eq said count)
    back is =
        let one : decimal said ≡ decimal count = cc (e, is) in
        eq-eqb said count (decimal_injective said count (omega arith) (omega arith) one)

-- a number past 24 bits is no source
pub no_source : (word : List ℕ) (n : ℕ) → n < 2 ^ 32 → word ≡ decimal n → 2 ^ 24 ≤ n
    → (source : ℕ) → source < 2 ^ 24 → word ≢ decimal source
no_source word n few e large source small e' =
    let same = one_number word n source few (omega arith) e e' in absurd (omega arith)
