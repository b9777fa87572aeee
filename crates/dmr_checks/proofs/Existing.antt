-- Any message has a check, and any ten octets are sealed by two more; and whether octets are sealed can be told.
use Rattle.std.proofs.Common.{◌≡◌, ℕ, ◌/◌, ◌%◌, ◌^◌, ◌<◌, ◌⊎◌, Bool, true, false, List, [], ◌∷◌, ◌++◌, length, take, drop}
use Rattle.std.proofs.Common.{replicate, map, not, refl, sym, ◌∙◌, ap, subst, arith, lit<, inl, inr}
use Rattle.std.specs.Prelude.{bit_xor}
use Rattle.std.specs.List.{All}
use Rattle.std.proofs.lemmas.List.{length-replicate, length-map, length-append, length-drop, take_at}
use Rattle.std.proofs.lemmas.List.Elements.{All-nil, All-cons, All-append}
use Rattle.std.proofs.lemmas.Nat.{xor_lt}
use Rattle.dmr_bits.specs.Bits.{bits_of, bits_of_octets, number_of, octets_of, xor_bits}
use Rattle.dmr_bits.specs.Polynomials.{binary_field, IsMultiple}
use Rattle.dmr_bits.specs.Register.{register_after}
use Rattle.dmr_bits.proofs.Dividing.{binary_laws, all_bits, completes, only_completion, length-run}
use Rattle.dmr_bits.proofs.Lists.{length-bits_of, number_of-lt, bits_of_spelled, length-xor_bits}
use Rattle.dmr_bits.proofs.OctetFronts.{length-bits_of_octets, bits_of_octets-take, length-octets_of, octets_of-small}
use Rattle.dmr_bits.proofs.Octets.{octets_of-bits_of_octets, bits_of_octets-octets_of}
use Rattle.dmr_checks.specs.Generators.{Completes, ccitt_generator, crc8_generator, crc9_generator, crc32_generator}
use Rattle.dmr_checks.specs.Sealed.{IsSealed, check_mask}
use Rattle.dmr_checks.specs.declared.sealing.Mask.{Mask}
use Rattle.dmr_checks.specs.declared.sealing.Mask.TheVariants.{Pi, Csbk, Header}
use Rattle.dmr_checks.proofs.Blocks.{seals_with}
use Rattle.dmr_checks.proofs.Completes.{generator, ccitt_is, crc8_is, crc9_is, crc32_is, not_twice}

-- ---- checks
check_somehow : (width low : ℕ) (g message : List Bool) → generator width low ≡ g → 0 < width
    → (check : List Bool) × (length check ≡ width) × Completes g message check
check_somehow width low g message generates some =
    let bits : List Bool = bits_of width low in
    let long : length bits ≡ width = length-bits_of width low in
    let empty : List Bool = replicate (length bits) false in
    let check : List Bool = register_after binary_field bits empty message in (
      check,
      length-run binary_field bits empty message ∙ length-replicate (length bits) false ∙ long,
      subst (λ h. IsMultiple binary_field h (message ++ check)) generates
          (completes binary_laws bits message (omega (arith, long)) (all_bits message)),
    )

pub ccitt_somehow : (message : List Bool) → (check : List Bool) × (length check ≡ 16) × Completes ccitt_generator message check
ccitt_somehow message = check_somehow 16 0x1021 ccitt_generator message ccitt_is (lit< tt)

-- any message has a check of nine bits that completes it
pub crc9_somehow : (message : List Bool) → (check : List Bool) × (length check ≡ 9) × Completes crc9_generator message check
crc9_somehow message = check_somehow 9 0x59 crc9_generator message crc9_is (lit< tt)

-- any message has a check of eight bits that completes it
pub crc8_somehow : (message : List Bool) → (check : List Bool) × (length check ≡ 8) × Completes crc8_generator message check
crc8_somehow message = check_somehow 8 0x07 crc8_generator message crc8_is (lit< tt)

pub crc32_somehow : (message : List Bool) → (check : List Bool) × (length check ≡ 32) × Completes crc32_generator message check
crc32_somehow message = check_somehow 32 0x04C11DB7 crc32_generator message crc32_is (lit< tt)

-- ---- sealed octets
mask_fits : (mask : Mask) → check_mask mask < 2 ^ 16
mask_fits Pi = lit< tt
mask_fits Csbk = lit< tt
mask_fits Header = lit< tt

-- Twelve octets that begin with ten, and are sealed under a mask.
pub record IsSealedBehind (mask : Mask) (front block : List ℕ) : Type 0 where
  pub long : length block ≡ 12
  pub small : All (λ octet. octet < 256) block
  pub begins : take 10 block ≡ front
  pub sealed : IsSealed mask block

pub sealed_somehow : (mask : Mask) (front : List ℕ) → length front ≡ 10 → All (λ octet. octet < 256) front
    → (block : List ℕ) × IsSealedBehind mask front block
sealed_somehow mask front long small =
    let Small : ℕ → Type 0 = λ octet. octet < 256 in
    let (check, wide, completes) = ccitt_somehow (bits_of_octets front) in
    let crc : ℕ = number_of (map not check) in
    let many : length (map not check) ≡ 16 = length-map check not ∙ wide in
    let spelled : map not (bits_of 16 crc) ≡ check = ap (map not) (bits_of_spelled 16 (map not check) many) ∙ not_twice check in
    let fits : crc < 2 ^ 16 = subst (λ (n : ℕ). crc < 2 ^ n) many (number_of-lt (map not check)) in
    let sum : ℕ = bit_xor (check_mask mask) crc in
    let below : sum < 2 ^ 16 = xor_lt 16 (check_mask mask) crc (mask_fits mask) fits in
    let tail : List ℕ = sum / 256 ∷ sum % 256 ∷ [] in (
      front ++ tail,
      record {
        long = length-append front tail ∙ omega (arith, long);
        small = All-append Small front tail small
            (All-cons Small (sum / 256) (sum % 256 ∷ []) (omega arith)
            (All-cons Small (sum % 256) [] (omega arith) (All-nil Small)));
        begins = take_at front tail 10 long;
        sealed = seals_with mask front crc (sum / 256) (sum % 256) long (omega arith) (omega arith)
            (subst (λ c. IsMultiple binary_field ccitt_generator (bits_of_octets front ++ c)) (sym spelled) completes);
      },
    )

-- Ninety-six bits whose first eighty are these, and which are sealed under a mask.
pub record IsSealedMessage (mask : Mask) (fields message : List Bool) : Type 0 where
  pub long : length message ≡ 96
  pub begins : take 80 message ≡ fields
  pub sealed : IsSealed mask (octets_of 12 message)

-- any eighty bits begin a message of 96 bits that is sealed under a given mask
pub message_somehow : (mask : Mask) (fields : List Bool) → length fields ≡ 80
    → (message : List Bool) × IsSealedMessage mask fields message
message_somehow mask fields eighty =
    let front : List ℕ = octets_of 10 fields in
    let (block, is) = sealed_somehow mask front (length-octets_of 10 fields) (octets_of-small 10 fields) in
    let back : octets_of 12 (bits_of_octets block) ≡ block =
    ap (λ n. octets_of n (bits_of_octets block)) (sym is.long) ∙ octets_of-bits_of_octets block is.small in (
      bits_of_octets block,
      record {
        long = length-bits_of_octets block ∙ omega (arith, is.long);
        begins = bits_of_octets-take 10 block (omega (arith, is.long)) ∙ ap bits_of_octets is.begins
            ∙ bits_of_octets-octets_of 10 fields (omega (arith, eighty));
        sealed = subst (IsSealed mask) (sym back) is.sealed;
      },
    )

-- ---- whether a check is right
-- Bits are equal, or they aren't.
pub same_or_not : (a b : List Bool) → (a ≡ b) ⊎ (a ≡ b → ⊥)
same_or_not [] [] = inl refl
same_or_not [] (y ∷ b) = inr (λ e. cc)
same_or_not (x ∷ a) [] = inr (λ e. cc)
same_or_not (true ∷ a) (true ∷ b) =
    elim (same_or_not a b) [
      | inl same ↦ inl (ap (λ l. true ∷ l) same)
      | inr other ↦ inr (λ e. other (cc))
    ]
same_or_not (false ∷ a) (false ∷ b) =
    elim (same_or_not a b) [
      | inl same ↦ inl (ap (λ l. false ∷ l) same)
      | inr other ↦ inr (λ e. other (cc))
    ]
same_or_not (true ∷ a) (false ∷ b) = inr (λ e. cc)
same_or_not (false ∷ a) (true ∷ b) = inr (λ e. cc)

-- A check is the one of its message, or it completes nothing.
completes_or_not : (width low : ℕ) (g message check : List Bool) → generator width low ≡ g → 0 < width → length check ≡ width
    → Completes g message check ⊎ (Completes g message check → ⊥)
completes_or_not width low g message check generates some long =
    let bits : List Bool = bits_of width low in
    let wide : length check ≡ length bits = long ∙ sym (length-bits_of width low) in
    let filled : 0 < length bits = omega (arith, long, wide) in
    let right : List Bool = register_after binary_field bits (replicate (length bits) false) message in
    elim (same_or_not check right) [
      | inl same ↦ inl (subst (λ h. IsMultiple binary_field h (message ++ check)) generates
          (subst (λ c. IsMultiple binary_field (true ∷ bits) (message ++ c)) (sym same)
          (completes binary_laws bits message filled (all_bits message))))
      | inr other ↦ inr (λ is. other (only_completion binary_laws bits message check filled wide
          (subst (λ h. IsMultiple binary_field h (message ++ check)) (sym generates) is)))
    ]

-- nine bits complete a message, or they don't
pub crc9_or_not : (message check : List Bool) → length check ≡ 9
    → Completes crc9_generator message check ⊎ (Completes crc9_generator message check → ⊥)
crc9_or_not message check nine = completes_or_not 9 0x59 crc9_generator message check crc9_is (lit< tt) nine

-- Twelve octets are sealed under a mask, or they aren't.
pub sealed_or_not : (mask : Mask) (octets : List ℕ) → length octets ≡ 12 → IsSealed mask octets ⊎ (IsSealed mask octets → ⊥)
unfolding IsSealed
sealed_or_not mask octets long =
    let veil : List Bool = bits_of 16 (check_mask mask) in
    let end : List Bool = bits_of_octets (drop 10 octets) in
    let sixteen : length veil ≡ length end =
    length-bits_of 16 (check_mask mask)
    ∙ sym (length-bits_of_octets (drop 10 octets) ∙ (let two = length-drop 10 octets in omega arith)) in
    completes_or_not 16 0x1021 ccitt_generator (bits_of_octets (take 10 octets)) (map not (xor_bits veil end)) ccitt_is (lit< tt)
    (length-map (xor_bits veil end) not ∙ length-xor_bits veil end sixteen ∙ length-bits_of 16 (check_mask mask))
