-- Numbers that octets spell, the highest first.
use Rattle.std.proofs.Common.{◌≡◌, ℕ, ◌/◌, ◌%◌, ◌^◌, ◌<◌, List, [], ◌∷◌, length, get_or, slice_index_or, take, drop, arith}
use Rattle.byteorder.specs.Endian.{big_bytes, big_number}
use Rattle.dmr_record.specs.Outgoing.{outgoing_field_octets}
use Rattle.dmr_record.specs.Received as received

four_octets : (n a b c d : ℕ) → a < 256 → b < 256 → c < 256 → d < 256 → n ≡ big_number 4 (a ∷ b ∷ c ∷ d ∷ []) → a ∷ b ∷ c ∷ d ∷ []
    ≡ big_bytes 4 n
four_octets n a b c d p q r s e =
    let first : a ≡ n / 16777216 % 256 = omega arith in
    let second : b ≡ n / 65536 % 256 = omega arith in
    let third : c ≡ n / 256 % 256 = omega arith in
    let fourth : d ≡ n % 256 = omega arith in
    cc

three_octets : (n a b c : ℕ) → a < 256 → b < 256 → c < 256 → n ≡ big_number 3 (a ∷ b ∷ c ∷ []) → a ∷ b ∷ c ∷ [] ≡ big_bytes 3 n
three_octets n a b c p q r e =
    let first : a ≡ n / 65536 % 256 = omega arith in
    let second : b ≡ n / 256 % 256 = omega arith in
    let third : c ≡ n % 256 = omega arith in
    cc

two_octets : (n a b : ℕ) → a < 256 → b < 256 → n ≡ big_number 2 (a ∷ b ∷ []) → a ∷ b ∷ [] ≡ big_bytes 2 n
two_octets n a b p q e =
    let first : a ≡ n / 256 % 256 = omega arith in
    let second : b ≡ n % 256 = omega arith in
    cc

-- eight octets are the fields that they spell
pub fields_spelled : (xs : List ℕ) (frame len : ℕ) → length xs ≡ 8 → ((i : ℕ) → get_or xs i 0 < 256)
    → frame ≡ big_number 4 (take 4 xs) → len ≡ big_number 2 (take 2 (drop 6 xs))
    → xs ≡ outgoing_field_octets (record { frame = frame; slot = slice_index_or xs 4 0; mode = slice_index_or xs 5 0; count = len })
fields_spelled (a ∷ b ∷ c ∷ d ∷ slot ∷ mode ∷ e ∷ f ∷ []) frame len eight each first last =
    let number = four_octets frame a b c d (each 0) (each 1) (each 2) (each 3) first in
    let count = two_octets len e f (each 6) (each 7) last in
    cc
fields_spelled xs frame len eight each first last = absurd (omega arith)

-- three octets spell no more
pub source_fits : (xs : List ℕ) (source : ℕ) → length xs ≡ 11 → ((i : ℕ) → get_or xs i 0 < 256) → source ≡ big_number 3 (take 3
    (drop 6 xs)) → source < 2 ^ 24
source_fits (a ∷ b ∷ c ∷ d ∷ slot ∷ kind ∷ x ∷ y ∷ z ∷ e ∷ f ∷ []) source eleven each middle = omega (arith, each 6, each 7, each 8)
source_fits xs source eleven each middle = absurd (omega arith)

-- eleven octets are the fields of a received record that they spell
pub received_fields_spelled : (xs : List ℕ) (frame source len : ℕ) → length xs ≡ 11 → ((i : ℕ) → get_or xs i 0 < 256)
    → frame ≡ big_number 4 (take 4 xs) → source ≡ big_number 3 (take 3 (drop 6 xs)) → len ≡ big_number 2 (take 2 (drop 9 xs))
    → xs ≡ received.received_field_octets (record {
      frame = frame;
      slot = slice_index_or xs 4 0;
      kind = slice_index_or xs 5 0;
      source =
          source;
      count = len;
    })
received_fields_spelled (a ∷ b ∷ c ∷ d ∷ slot ∷ kind ∷ x ∷ y ∷ z ∷ e ∷ f ∷ []) frame source len eleven each first middle last =
    let number = four_octets frame a b c d (each 0) (each 1) (each 2) (each 3) first in
    let address = three_octets source x y z (each 6) (each 7) (each 8) middle in
    let count = two_octets len e f (each 9) (each 10) last in
    cc
received_fields_spelled xs frame source len eleven each first middle last = absurd (omega arith)
