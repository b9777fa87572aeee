-- A function that reads a text: what it answers, the text has one of.
use Rattle.std.proofs.Common.{◌≡◌, ◌≢◌, true, false, List, ℕ, [], ◌++◌, Option, Some, refl, sym, ap, ◌∙◌}
use Rattle.std.specs.Prelude.{Result, Ok, Err}
use Rattle.std.proofs.lemmas.Bool.{true≢false}
use Rattle.dmr_record.specs.declared.fault.RecordFault.{RecordFault}
use Rattle.dmr_record.specs.declared.fault.RecordFault.TheVariants.{Read}
use Rattle.dmr_record.specs.Faults.{is_of_end, is_device_fault, HasFault}

-- one answer is of one record and of what follows it
pub same_answer : {X : Type 0} (x y : X) (a b : List ℕ) (answer : Result (Option (X × List ℕ)) RecordFault)
    → answer ≡ Ok (Some (x, a)) → answer ≡ Ok (Some (y, b)) → (x ≡ y) × (a ≡ b)
same_answer {X = X} x y a b answer e f =
    let pairs : (x, a) ≡ (y, b) = cc in
    (ap (λ (p : X × List ℕ). p.0) pairs, ap (λ (p : X × List ℕ). p.1) pairs)

is_device_fault-other : (e : RecordFault) → e ≢ Read → is_device_fault e ≡ false
is_device_fault-other Read other = absurd (other refl)
is_device_fault-other e other = refl

-- the only fault that is the device's is that of a read
pub is_device_fault-read : (e : RecordFault) → is_device_fault e ≡ true → e ≡ Read
is_device_fault-read Read told = refl
is_device_fault-read e told = absurd (true≢false (sym told))

is_device_fault-told : (e : RecordFault) → (is_device_fault e ≡ false → ⊥) → e ≡ Read
is_device_fault-told Read told = refl
is_device_fault-told e told = absurd (told refl)

module _ {X : Type 0} (Shows : RecordFault → List ℕ → Type 0) (answer : List ℕ → Result X RecordFault)
    (shown : (e : RecordFault) (taken rest : List ℕ) → Shows e taken → is_device_fault e ≡ false → (is_of_end e ≡ true → rest ≡ [])
    → answer (taken ++ rest) ≡ Err e) where
  answer-fault : (text : List ℕ) (e : RecordFault) → HasFault Shows text e → is_device_fault e ≡ false → answer text ≡ Err e
  answer-fault text e has own = sym (ap answer has.split) ∙ shown e has.taken has.rest has.shown own has.end

  -- where something else is read, there is no fault
  pub no_fault_read : (text : List ℕ) (x : X) (e : RecordFault) → answer text ≡ Ok x → HasFault Shows text e → e ≡ Read
  no_fault_read text x e read has = is_device_fault-told e (λ own. let both : Ok x ≡ Err e = sym read ∙ answer-fault text e has own
      in cc)

  -- there is one fault
  pub one_fault_read : (text : List ℕ) (e f : RecordFault) → HasFault Shows text e → HasFault Shows text f → e ≢ Read → f ≢ Read →
      e ≡ f
  one_fault_read text e f has also other more =
      let first = answer-fault text e has (is_device_fault-other e other) in
      let second = answer-fault text f also (is_device_fault-other f more) in
      cc
