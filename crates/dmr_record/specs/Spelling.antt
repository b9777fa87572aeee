-- Lists of records that are spelled one after another.
use Rattle.std.specs.Prelude.{◌≡◌, ◌≢◌, ℕ, List, [], ◌++◌}

-- No record's octets are empty, and where the octets of two records begin one text they are one record. So a
-- text can be read record by record, and in one way only.
pub record IsPrefixCode {X : Type 0} (IsRecord : X → Type 0) (spelling : X → List ℕ) : Type 0 where
  pub begins : (x : X) (rest : List ℕ) → IsRecord x → spelling x ++ rest ≢ []
  pub one : (x y : X) (a b : List ℕ) → IsRecord x → IsRecord y → spelling x ++ a ≡ spelling y ++ b
      → (x ≡ y) × (a ≡ b)

-- A text begins with this front.
abbrev pub IsFront : List ℕ → List ℕ → Type 0
IsFront front whole = (rest : List ℕ) × (whole ≡ front ++ rest)
