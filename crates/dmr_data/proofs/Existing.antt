-- There is what is written of any header, block and body, and what any bits are read as, or that they are read as nothing.
use Rattle.std.proofs.Common.{◌≡◌, ℕ, zero, suc, ◌+◌, ◌-◌, ◌*◌, ◌/◌, ◌<◌, ◌≤◌, ◌^◌, ◌⊎◌, Bool, true, false, not, map, List, []}
use Rattle.std.proofs.Common.{◌∷◌, ◌++◌, length, take, drop, replicate, Option, Some, None, refl, sym, ap, ◌∙◌, subst, arith, inl}
use Rattle.std.proofs.Common.{inr, lit<}
use Rattle.std.specs.List.{All}
use Rattle.std.specs.Int.{to_le_bytes, w32}
use Rattle.std.proofs.lemmas.Bool.{cases_eq, cases_lt}
use Rattle.std.proofs.lemmas.List.{take-append-drop, take_at, drop_at, length-append, length-drop, length-map, length-replicate}
use Rattle.std.proofs.lemmas.List.{length-take-le}
use Rattle.std.proofs.lemmas.List.Elements.{All-nil, All-cons, All-take, All-drop, All-append, All-replicate}
use Rattle.dmr_bits.specs.Bits.{number_of, bits_of, bits_of_octets, octets_of, xor_bits, part}
use Rattle.dmr_bits.proofs.Lists.{length-bits_of, length-xor_bits, xor_bits_twice, bits_of_spelled, number_of-lt}
use Rattle.dmr_bits.proofs.Numbers.{bits_of_same}
use Rattle.dmr_bits.proofs.OctetFronts.{length-octets_of, octets_of-small}
use Rattle.dmr_bits.proofs.Octets.{bits_of_octets-octets_of}
use Rattle.dmr_bptc.specs.Decoding.{IsDecoded}
use Rattle.dmr_bptc.proofs.Decoded.{one_decoded}
use Rattle.dmr_bptc.proofs.Existing.{decoded_somehow, written_somehow, length-decoded}
use Rattle.dmr_checks.specs.Generators.{Completes, crc9_generator}
use Rattle.dmr_checks.specs.declared.sealing.Mask.TheVariants as mask
use Rattle.dmr_checks.proofs.Completes.{not_twice}
use Rattle.dmr_checks.proofs.Existing.{message_somehow, sealed_or_not, crc9_somehow, crc9_or_not}
use Rattle.dmr_data.specs.Block.{burst_octets, payload, block_mask, IsConfirmedContent, FitsBlock, IsBlock, IsSentContent, Holds}
use Rattle.dmr_data.specs.Block.{IsWrittenBlock, IsReadBlock, IsCounted}
use Rattle.dmr_data.specs.Header.{Piece, Flag, Number, Unused, layout, written, Fits, SpellsPieces, field}
use Rattle.dmr_data.specs.HeaderForms.{IsSealedHeader, IsWrittenForm, IsReadHeader}
use Rattle.dmr_data.specs.Join.{crc32_of}
use Rattle.dmr_data.specs.Packet.{octets_of_blocks, serial_of, AreNumbered, HaveOctets, IsSealedList, IsWrittenPacket}
use Rattle.dmr_data.specs.declared.block.Block.{Block}
use Rattle.dmr_data.specs.declared.header.Header.{Header}
use Rattle.dmr_data.specs.declared.header.Header.TheVariants as header
use Rattle.dmr_data.specs.declared.packet.Packet.{Packet}
use Rattle.dmr_data.specs.declared.rate.Rate.{Rate}
use Rattle.dmr_data.specs.declared.rate.Rate.TheVariants.{Half, Full}
use Rattle.dmr_data.proofs.Bodies.{crc_completes, crc_fits}
use Rattle.dmr_data.proofs.BlockForms.{length_content}
use Rattle.dmr_data.proofs.Contents.{IsContent, same_front, same_block}
use Rattle.dmr_data.proofs.HeaderForms.{same_some}
use Rattle.dmr_data.proofs.Headers.{size, reread, field_of, no_header, number_at, flag_at, response_in, unconfirmed_in}
use Rattle.dmr_data.proofs.Headers.{confirmed_in, short_data_in, status_in, response_shape, unconfirmed_shape, confirmed_shape}
use Rattle.dmr_data.proofs.Headers.{short_data_shape, status_shape}
use Rattle.dmr_data.proofs.Layouts.{none_left, high_part, low_part}
use Rattle.dmr_data.proofs.Packets.{count_is, count_most, sealed_list}

-- ---- what is written of a header
length-written : (pieces : List Piece) → length (written pieces) ≡ size pieces
length-written [] = refl
length-written (Flag flag ∷ pieces) = omega (arith, length-written pieces)
length-written (Number width n ∷ pieces) =
    length-append (bits_of width n) (written pieces) ∙ omega (arith, length-bits_of width n, length-written pieces)
length-written (Unused width ∷ pieces) =
    length-append (replicate width false) (written pieces)
    ∙ omega (arith, length-replicate {A = Bool} width false, length-written pieces)

eighty : (h : Header) → size (layout h) ≡ 80
eighty (header.Response r) = refl
eighty (header.Unconfirmed u) = refl
eighty (header.Confirmed c) = refl
eighty (header.ShortData s) = refl
eighty (header.Status s) = refl

-- any header whose numbers fit their bits has a written form
pub header_somehow : (h : Header) → Fits (layout h) → (message : List Bool) × IsWrittenForm h message
header_somehow h fit =
    let (message, is) = message_somehow mask.Header (written (layout h)) (length-written (layout h) ∙ eighty h) in
    (message, record { fit = fit; long = is.long; fields = is.begins; sealed = is.sealed })

-- ---- what bits are read as: a header
-- Pieces of a shape that are read from so many bits are spelled by these, and each number fits.
reread_spells : (shape : List Piece) (bits : List Bool) → length bits ≡ size shape → SpellsPieces (reread shape bits) bits
reread_spells [] bits e = none_left bits e
reread_spells (Flag flag ∷ shape) [] e = absurd (omega arith)
reread_spells (Flag flag ∷ shape) (b ∷ bits) e = (bits, refl, reread_spells shape bits (omega arith))
reread_spells (Number width n ∷ shape) bits e =
    let front : length (take width bits) ≡ width = length-take-le width bits (omega arith) in (
      drop width bits,
      sym (ap (λ l. l ++ drop width bits) (bits_of_spelled width (take width bits) front) ∙ take-append-drop width bits),
      reread_spells shape (drop width bits) (length-drop width bits ∙ omega arith),
    )
reread_spells (Unused width ∷ shape) bits e = (
  take width bits,
  drop width bits,
  length-take-le width bits (omega arith),
  sym (take-append-drop width bits),
  reread_spells shape (drop width bits) (length-drop width bits ∙ omega arith),
)

reread_fits : (shape : List Piece) (bits : List Bool) → length bits ≡ size shape → Fits (reread shape bits)
reread_fits [] bits e = tt
reread_fits (Flag flag ∷ shape) [] e = absurd (omega arith)
reread_fits (Flag flag ∷ shape) (b ∷ bits) e = reread_fits shape bits (omega arith)
reread_fits (Number width n ∷ shape) bits e = (
  subst (λ (w : ℕ). number_of (take width bits) < 2 ^ w) (length-take-le width bits (omega arith)) (number_of-lt (take width bits)),
  reread_fits shape (drop width bits) (length-drop width bits ∙ omega arith),
)
reread_fits (Unused width ∷ shape) bits e = reread_fits shape (drop width bits) (length-drop width bits ∙ omega arith)

-- The layout of each format has the numbers that the format fixes, and counts of two parts.
response_layout : (f sap destination source blocks class kind status : ℕ) → f ≡ 1
    → layout (header.Response (record {
      sap = sap;
      destination = destination;
      source = source;
      blocks = blocks;
      class = class;
      kind = kind;
      status = status;
    }))
    ≡ Unused 4 ∷ Number 4 f ∷ Number 4 sap ∷ Unused 4 ∷ Number 24 destination ∷ Number 24 source
    ∷ Unused 1 ∷ Number 7 blocks ∷ Number 2 class ∷ Number 3 kind ∷ Number 3 status ∷ []
response_layout f sap destination source blocks class kind status e = cc

unconfirmed_layout : (group wanted full : Bool) (high f sap low destination source blocks fragment : ℕ) → f ≡ 2 → low < 16
    → layout (header.Unconfirmed (record {
      group = group;
      wanted = wanted;
      pad = 16 * high + low;
      sap = sap;
      destination = destination;
      source = source;
      full = full;
      blocks = blocks;
      fragment = fragment;
    }))
    ≡ Flag group ∷ Flag wanted ∷ Unused 1 ∷ Number 1 high ∷ Number 4 f ∷ Number 4 sap ∷ Number 4 low
    ∷ Number 24 destination ∷ Number 24 source ∷ Flag full ∷ Number 7 blocks ∷ Unused 4 ∷ Number 4 fragment ∷ []
unconfirmed_layout group wanted full high f sap low destination source blocks fragment e h =
    let upper = high_part high low h in let lower = low_part high low h in cc

confirmed_layout : (group wanted full again : Bool) (high f sap low destination source blocks number fragment : ℕ) → f ≡ 3
    → low < 16
    → layout (header.Confirmed (record {
      group = group;
      wanted = wanted;
      pad = 16 * high + low;
      sap = sap;
      destination = destination;
      source = source;
      full = full;
      blocks = blocks;
      resynchronize = again;
      number = number;
      fragment = fragment;
    }))
    ≡ Flag group ∷ Flag wanted ∷ Unused 1 ∷ Number 1 high ∷ Number 4 f ∷ Number 4 sap ∷ Number 4 low
    ∷ Number 24 destination ∷ Number 24 source ∷ Flag full ∷ Number 7 blocks ∷ Flag again ∷ Number 3 number
    ∷ Number 4 fragment ∷ []
confirmed_layout group wanted full again high f sap low destination source blocks number fragment e h =
    let upper = high_part high low h in let lower = low_part high low h in cc

short_data_layout : (group wanted full again : Bool) (high f sap low destination source data_format bit_padding : ℕ) → f ≡ 13
    → sap ≡ 10 → low < 16
    → layout (header.ShortData (record {
      group = group;
      wanted = wanted;
      blocks = 16 * high + low;
      destination = destination;
      source = source;
      data_format = data_format;
      resynchronize = again;
      full = full;
      bit_padding = bit_padding;
    }))
    ≡ Flag group ∷ Flag wanted ∷ Number 2 high ∷ Number 4 f ∷ Number 4 sap ∷ Number 4 low
    ∷ Number 24 destination ∷ Number 24 source ∷ Number 6 data_format ∷ Flag again ∷ Flag full ∷ Number 8 bit_padding ∷ []
short_data_layout group wanted full again high f sap low destination source data_format bit_padding e p h =
    let upper = high_part high low h in let lower = low_part high low h in cc

status_layout : (group wanted : Bool) (high f sap low destination source source_port destination_port status : ℕ) → f ≡ 14
    → sap ≡ 10 → high ≡ 0 → low ≡ 0
    → layout (header.Status (record {
      group = group;
      wanted = wanted;
      destination = destination;
      source = source;
      source_port = source_port;
      destination_port = destination_port;
      status = status;
    }))
    ≡ Flag group ∷ Flag wanted ∷ Number 2 high ∷ Number 4 f ∷ Number 4 sap ∷ Number 4 low
    ∷ Number 24 destination ∷ Number 24 source ∷ Number 3 source_port ∷ Number 3 destination_port ∷ Number 10 status ∷ []
status_layout group wanted high f sap low destination source source_port destination_port status e p u l = cc

-- A header that 80 bits spell, and whose numbers fit.
pub record IsSpelledBy (bits : List Bool) (h : Header) : Type 0 where
  pub spelled : SpellsPieces (layout h) bits
  pub fit : Fits (layout h)

-- Where its layout is the pieces that are read of some shape, it is one.
spelled_by : (shape : List Piece) (bits : List Bool) (h : Header) → length bits ≡ size shape → layout h ≡ reread shape bits
    → IsSpelledBy bits h
spelled_by shape bits h long same = record {
  spelled = subst (λ (pieces : List Piece). SpellsPieces pieces bits) (sym same) (reread_spells shape bits long);
  fit = subst Fits (sym same) (reread_fits shape bits long);
}

response_of : (bits : List Bool) → length bits ≡ 80 → field bits 4 4 ≡ 1 → (h : Header) × IsSpelledBy bits h
response_of bits long format =
    let ps : List Piece = reread response_shape bits in
    let h : Header = header.Response (response_in ps) in (
      h,
      spelled_by response_shape bits h long (response_layout (number_at ps 1) (number_at ps 2) (number_at ps 4) (number_at ps 5)
          (number_at ps 7) (number_at ps 8) (number_at ps 9) (number_at ps 10) format),
    )

unconfirmed_of : (bits : List Bool) → length bits ≡ 80 → field bits 4 4 ≡ 2 → (h : Header) × IsSpelledBy bits h
unconfirmed_of bits long format =
    let ps : List Piece = reread unconfirmed_shape bits in
    let h : Header = header.Unconfirmed (unconfirmed_in ps) in
    let s : SpellsPieces ps bits = reread_spells unconfirmed_shape bits long in
    let fit : Fits ps = reread_fits unconfirmed_shape bits long in
    let f : number_at ps 4 ≡ 2 = sym (field_of (take 4 ps) 4 (number_at ps 4) (drop 5 ps) bits s fit.1.0) ∙ format in (
      h,
      spelled_by unconfirmed_shape bits h long (unconfirmed_layout (flag_at ps 0) (flag_at ps 1) (flag_at ps 9) (number_at ps 3)
          (number_at ps 4) (number_at ps 5) (number_at ps 6) (number_at ps 7) (number_at ps 8) (number_at ps 10) (number_at ps 12) f
          fit.1.1.1.0),
    )

confirmed_of : (bits : List Bool) → length bits ≡ 80 → field bits 4 4 ≡ 3 → (h : Header) × IsSpelledBy bits h
confirmed_of bits long format =
    let ps : List Piece = reread confirmed_shape bits in
    let h : Header = header.Confirmed (confirmed_in ps) in
    let s : SpellsPieces ps bits = reread_spells confirmed_shape bits long in
    let fit : Fits ps = reread_fits confirmed_shape bits long in
    let f : number_at ps 4 ≡ 3 = sym (field_of (take 4 ps) 4 (number_at ps 4) (drop 5 ps) bits s fit.1.0) ∙ format in (
      h,
      spelled_by confirmed_shape bits h long (confirmed_layout (flag_at ps 0) (flag_at ps 1) (flag_at ps 9) (flag_at ps 11)
          (number_at ps 3) (number_at ps 4) (number_at ps 5) (number_at ps 6) (number_at ps 7) (number_at ps 8) (number_at ps 10)
          (number_at ps 12) (number_at ps 13) f fit.1.1.1.0),
    )

short_data_of : (bits : List Bool) → length bits ≡ 80 → field bits 4 4 ≡ 13 → field bits 8 4 ≡ 10
    → (h : Header) × IsSpelledBy bits h
short_data_of bits long format sap =
    let ps : List Piece = reread short_data_shape bits in
    let h : Header = header.ShortData (short_data_in ps) in
    let s : SpellsPieces ps bits = reread_spells short_data_shape bits long in
    let fit : Fits ps = reread_fits short_data_shape bits long in
    let f : number_at ps 3 ≡ 13 = sym (field_of (take 3 ps) 4 (number_at ps 3) (drop 4 ps) bits s fit.1.0) ∙ format in
    let p : number_at ps 4 ≡ 10 = sym (field_of (take 4 ps) 4 (number_at ps 4) (drop 5 ps) bits s fit.1.1.0) ∙ sap in (
      h,
      spelled_by short_data_shape bits h long (short_data_layout (flag_at ps 0) (flag_at ps 1) (flag_at ps 10) (flag_at ps 9)
          (number_at ps 2) (number_at ps 3) (number_at ps 4) (number_at ps 5) (number_at ps 6) (number_at ps 7) (number_at ps 8)
          (number_at ps 11) f p fit.1.1.1.0),
    )

status_of : (bits : List Bool) → length bits ≡ 80 → field bits 4 4 ≡ 14 → field bits 8 4 ≡ 10 → field bits 2 2 ≡ 0
    → field bits 12 4 ≡ 0 → (h : Header) × IsSpelledBy bits h
status_of bits long format sap upper lower =
    let ps : List Piece = reread status_shape bits in
    let h : Header = header.Status (status_in ps) in
    let s : SpellsPieces ps bits = reread_spells status_shape bits long in
    let fit : Fits ps = reread_fits status_shape bits long in
    let u : number_at ps 2 ≡ 0 = sym (field_of (take 2 ps) 2 (number_at ps 2) (drop 3 ps) bits s fit.0) ∙ upper in
    let f : number_at ps 3 ≡ 14 = sym (field_of (take 3 ps) 4 (number_at ps 3) (drop 4 ps) bits s fit.1.0) ∙ format in
    let p : number_at ps 4 ≡ 10 = sym (field_of (take 4 ps) 4 (number_at ps 4) (drop 5 ps) bits s fit.1.1.0) ∙ sap in
    let l : number_at ps 5 ≡ 0 = sym (field_of (take 5 ps) 4 (number_at ps 5) (drop 6 ps) bits s fit.1.1.1.0) ∙ lower in (
      h,
      spelled_by status_shape bits h long (status_layout (flag_at ps 0) (flag_at ps 1) (number_at ps 2) (number_at ps 3)
          (number_at ps 4) (number_at ps 5) (number_at ps 6) (number_at ps 7) (number_at ps 8) (number_at ps 9)
          (number_at ps 10) f p u l),
    )

-- 80 bits spell a header, or none.
abbrev AreOfAHeader : List Bool → Type 0
AreOfAHeader bits = ((h : Header) × IsSpelledBy bits h) ⊎ ((h : Header) → SpellsPieces (layout h) bits → ⊥)

-- Those of no format, of one that isn't read, or of one that fixes a number that doesn't stand there spell none.
none_of : (bits : List Bool) → (field bits 4 4 ≡ 1 → ⊥) → (field bits 4 4 ≡ 2 → ⊥) → (field bits 4 4 ≡ 3 → ⊥)
    → (field bits 4 4 ≡ 13 → field bits 8 4 ≡ 10 → ⊥)
    → (field bits 4 4 ≡ 14 → field bits 8 4 ≡ 10 → field bits 2 2 ≡ 0 → field bits 12 4 ≡ 0 → ⊥) → AreOfAHeader bits
none_of bits a b c d e =
    inr (no_header bits (field bits 4 4) (field bits 8 4) (field bits 2 2) (field bits 12 4) refl refl refl refl a b c d e)

status_or_not : (bits : List Bool) → length bits ≡ 80 → field bits 4 4 ≡ 14 → field bits 8 4 ≡ 10 → AreOfAHeader bits
status_or_not bits long format sap =
    elim (cases_eq (field bits 2 2) 0) [
      | inl upper ↦
          elim (cases_eq (field bits 12 4) 0) [
            | inl lower ↦ inl (status_of bits long format sap upper lower)
            | inr other ↦ none_of bits (λ e. omega arith) (λ e. omega arith) (λ e. omega arith) (λ e p. omega arith)
                (λ e p u l. other l)
          ]
      | inr other ↦ none_of bits (λ e. omega arith) (λ e. omega arith) (λ e. omega arith) (λ e p. omega arith)
          (λ e p u l. other u)
    ]

-- Formats 13 and 14 want the service access point 10.
short_or_not : (bits : List Bool) → length bits ≡ 80 → (field bits 4 4 ≡ 1 → ⊥) → (field bits 4 4 ≡ 2 → ⊥)
    → (field bits 4 4 ≡ 3 → ⊥) → AreOfAHeader bits
short_or_not bits long a b c =
    elim (cases_eq (field bits 8 4) 10) [
      | inl sap ↦
          elim (cases_eq (field bits 4 4) 13) [
            | inl format ↦ inl (short_data_of bits long format sap)
            | inr other ↦
                elim (cases_eq (field bits 4 4) 14) [
                  | inl format ↦ status_or_not bits long format sap
                  | inr neither ↦ none_of bits a b c (λ e p. other e) (λ e p u l. neither e)
                ]
          ]
      | inr other ↦ none_of bits a b c (λ e p. other p) (λ e p u l. other p)
    ]

header_or_not : (bits : List Bool) → length bits ≡ 80 → AreOfAHeader bits
header_or_not bits long =
    elim (cases_eq (field bits 4 4) 1) [
      | inl format ↦ inl (response_of bits long format)
      | inr a ↦
          elim (cases_eq (field bits 4 4) 2) [
            | inl format ↦ inl (unconfirmed_of bits long format)
            | inr b ↦
                elim (cases_eq (field bits 4 4) 3) [
                  | inl format ↦ inl (confirmed_of bits long format)
                  | inr c ↦ short_or_not bits long a b c
                ]
          ]
    ]

-- Bits are read as a header, or as none: by what the product code says of them,
header_at : (bits : List Bool) (result : Option (List Bool)) → IsDecoded bits result
    → ((h : Header) × IsReadHeader bits h) ⊎ ((h : Header) → IsReadHeader bits h → ⊥)
header_at bits None decoded =
    inr (λ h read. let bad : None ≡ Some read.message = one_decoded bits None (Some read.message) decoded read.decoded in cc)
header_at bits (Some message) decoded =
    let long : length message ≡ 96 = length-decoded bits message decoded in
    let same : (h : Header) (read : IsReadHeader bits h) → read.message ≡ message =
    λ h read. same_some read.message message (one_decoded bits (Some read.message) (Some message) read.decoded decoded) in
    elim (sealed_or_not mask.Header (octets_of 12 message) (length-octets_of 12 message)) [
      | inl sealed ↦
          elim (header_or_not (take 80 message) (length-take-le 80 message (omega arith))) [
            | inl found ↦
                (let (h, is) = found in
                inl (
                  h,
                  record {
                    message = message;
                    decoded = decoded;
                    form = record { fit = is.fit; long = long; fields = is.spelled; sealed = sealed };
                  },
                ))
            | inr none ↦ inr (λ h read.
                none h (subst (λ (m : List Bool). SpellsPieces (layout h) (take 80 m)) (same h read) read.form.fields))
          ]
      | inr unsealed ↦ inr (λ h read. unsealed (subst IsSealedHeader (same h read) read.form.sealed))
    ]

-- and so by themselves.
pub read_header_or_not : (bits : List Bool)
    → ((h : Header) × IsReadHeader bits h) ⊎ ((h : Header) → IsReadHeader bits h → ⊥)
read_header_or_not bits = let (result, decoded) = decoded_somehow bits in header_at bits result decoded

-- ---- what is written of a block
-- A check, inverted and under a mask of as many bits; twice gives it back.
veiled_back : (mask check : List Bool) → length mask ≡ length check
    → map not (xor_bits mask (xor_bits mask (map not check))) ≡ check
veiled_back mask check e =
    ap (map not) (xor_bits_twice mask (map not check) (e ∙ sym (length-map check not))) ∙ not_twice check

content_somehow : (rate : Rate) (serial : Option ℕ) (octets : List ℕ) → FitsBlock rate serial octets
    → All (λ octet. octet < 256) octets
    → (content : List Bool) × IsBlock rate (record { serial = serial; octets = octets }) content
content_somehow rate None octets fit small =
    (bits_of_octets octets, record { fit = fit; octets = small; content_is = refl })
content_somehow rate (Some serial) octets fit small =
    let mask : List Bool = bits_of 9 (block_mask rate) in
    let (check, nine, completes) = crc9_somehow (bits_of_octets octets ++ bits_of 7 serial) in
    let wide : length mask ≡ length check = length-bits_of 9 (block_mask rate) ∙ sym nine in
    let veiled : List Bool = xor_bits mask (map not check) in (
      bits_of 7 serial ++ (veiled ++ bits_of_octets octets),
      record {
        fit = fit;
        octets = small;
        content_is = record {
          check = veiled;
          nine = length-xor_bits mask (map not check) (wide ∙ sym (length-map check not)) ∙ wide ∙ nine;
          fields = refl;
          sealed = subst (Completes crc9_generator (bits_of_octets octets ++ bits_of 7 serial)) (sym (veiled_back mask check wide))
              completes;
        };
      },
    )

sent_somehow : (rate : Rate) (content : List Bool) → length content ≡ 8 * burst_octets rate
    → (bits : List Bool) × IsSentContent rate content bits
sent_somehow Half content long = written_somehow content long
sent_somehow Full content long = (take 96 content ++ (replicate 4 false ++ drop 96 content), refl)

-- any block that fits its rate, with octets below 256, has bits that are sent for it
pub block_somehow : (rate : Rate) (block : Block) → FitsBlock rate block.serial block.octets
    → All (λ octet. octet < 256) block.octets → (bits : List Bool) × IsWrittenBlock rate block bits
block_somehow rate block fit small =
    let (content, is) = content_somehow rate block.serial block.octets fit small in
    let (bits, sent) = sent_somehow rate content (length_content rate block.serial block.octets content is.content_is is.fit) in
    (bits, record { content = content; is = is; sent = sent })

-- What is sent for a block is 196 bits.
sent_length : (rate : Rate) (content bits : List Bool) → length content ≡ 8 * burst_octets rate → IsSentContent rate content bits
    → length bits ≡ 196
sent_length Half content bits long sent = sent.long
sent_length Full content bits long sent =
    let zeros : List Bool = replicate 4 false in
    let front : length (take 96 content) ≡ 96 = length-take-le 96 content (omega arith) in
    ap length sent ∙ length-append (take 96 content) (zeros ++ drop 96 content)
    ∙ omega (
      arith,
      front,
      long,
      length-append zeros (drop 96 content),
      length-replicate {A = Bool} 4 false,
      length-drop 96 content,
    )

-- and so are the bits of any written block
pub length-sent : (rate : Rate) (block : Block) (bits : List Bool) → IsWrittenBlock rate block bits → length bits ≡ 196
length-sent rate block bits w =
    sent_length rate w.content bits (length_content rate block.serial block.octets w.content w.is.content_is w.is.fit) w.sent

-- ---- what bits are read as: a block
-- A content is of a block of a packet, or of none.
abbrev IsOfABlock : Rate → Option ℕ → List Bool → Type 0
IsOfABlock rate total content =
    ((block : Block) × IsBlock rate block content × IsCounted total block.serial)
    ⊎ ((block : Block) → IsBlock rate block content → IsCounted total block.serial → ⊥)

plain_block : (rate : Rate) (content : List Bool) → length content ≡ 8 * burst_octets rate → IsOfABlock rate None content
plain_block rate content long =
    let octets : List ℕ = octets_of (burst_octets rate) content in
    inl (
      record { serial = None; octets = octets },
      record {
        fit = length-octets_of (burst_octets rate) content;
        octets = octets_of-small (burst_octets rate) content;
        content_is = sym (bits_of_octets-octets_of (burst_octets rate) content long);
      },
      tt,
    )

-- The parts of a confirmed content are those of the bits.
record HasParts (rate : Rate) (content : List Bool) (serial : ℕ) (check : List Bool) (octets : List ℕ) : Type 0 where
  fields : content ≡ bits_of 7 serial ++ (check ++ bits_of_octets octets)
  low : serial < 128
  nine : length check ≡ 9
  many : length octets ≡ payload rate true
  small : All (λ octet. octet < 256) octets

parts_of : (rate : Rate) (content : List Bool) (n : ℕ) → n ≡ payload rate true → length content ≡ 8 * n + 16
    → HasParts rate content (number_of (take 7 content)) (take 9 (drop 7 content)) (octets_of n (drop 9 (drop 7 content)))
parts_of rate content n size long =
    let behind : List Bool = drop 7 content in
    let rest : List Bool = drop 9 behind in
    let seven : length (take 7 content) ≡ 7 = length-take-le 7 content (omega arith) in
    let left : length behind ≡ 8 * n + 9 = length-drop 7 content ∙ omega arith in
    let last : length rest ≡ 8 * n = length-drop 9 behind ∙ omega arith in
    record {
      fields = sym (ap (λ l. l ++ (take 9 behind ++ bits_of_octets (octets_of n rest)))
          (bits_of_spelled 7 (take 7 content) seven)
          ∙ ap (λ l. take 7 content ++ (take 9 behind ++ l)) (bits_of_octets-octets_of n rest last)
          ∙ ap (λ l. take 7 content ++ l) (take-append-drop 9 behind) ∙ take-append-drop 7 content);
      low = subst (λ (w : ℕ). number_of (take 7 content) < 2 ^ w) seven (number_of-lt (take 7 content));
      nine = length-take-le 9 behind (omega arith);
      many = length-octets_of n rest ∙ size;
      small = octets_of-small n rest;
    }

-- So a confirmed block with this content has these parts, and their check is right.
parts_alike : (rate : Rate) (content : List Bool) (serial : ℕ) (check : List Bool) (octets : List ℕ) (serial' : ℕ)
    (octets' : List ℕ) → HasParts rate content serial check octets → IsConfirmedContent rate serial' octets' content → serial' < 128
    → length octets' ≡ payload rate true → All (λ octet. octet < 256) octets'
    → (serial' ≡ serial) × Completes crc9_generator (bits_of_octets octets ++ bits_of 7 serial)
    (map not (xor_bits (bits_of 9 (block_mask rate)) check))
parts_alike rate content serial check octets serial' octets' parts is low many small =
    let front = same_front 7 (bits_of 7 serial') (bits_of 7 serial) (is.check ++ bits_of_octets octets')
    (check ++ bits_of_octets octets) (length-bits_of 7 serial') (length-bits_of 7 serial) (sym is.fields ∙ parts.fields) in
    let back = same_front 9 is.check check (bits_of_octets octets') (bits_of_octets octets) is.nine parts.nine front.1 in
    let C : List Bool → List Bool → List Bool → Type 0 =
    λ o s c. Completes crc9_generator (o ++ s) (map not (xor_bits (bits_of 9 (block_mask rate)) c)) in (
      bits_of_same 7 serial' serial low parts.low front.0,
      subst (λ (o : List Bool). C o (bits_of 7 serial) check) back.1
          (subst (λ (s : List Bool). C (bits_of_octets octets') s check) front.0
          (subst (λ (c : List Bool). C (bits_of_octets octets') (bits_of 7 serial') c) back.0 is.sealed)),
    )

numbered_block : (rate : Rate) (total : ℕ) (content : List Bool) (serial : ℕ) (check : List Bool) (octets : List ℕ)
    → HasParts rate content serial check octets → IsOfABlock rate (Some total) content
numbered_block rate total content serial check octets parts =
    let mask : List Bool = bits_of 9 (block_mask rate) in
    let wide : length mask ≡ length check = length-bits_of 9 (block_mask rate) ∙ sym parts.nine in
    let veiled : List Bool = map not (xor_bits mask check) in
    let nine : length veiled ≡ 9 = length-map (xor_bits mask check) not ∙ length-xor_bits mask check wide ∙ wide ∙ parts.nine in
    elim (crc9_or_not (bits_of_octets octets ++ bits_of 7 serial) veiled nine) [
      | inl sealed ↦
          elim (cases_lt serial total) [
            | inl below ↦ inl (
              record { serial = Some serial; octets = octets },
              record {
                fit = (parts.low, parts.many);
                octets = parts.small;
                content_is = record { check = check; nine = parts.nine; fields = parts.fields; sealed = sealed };
              },
              below,
            )
            | inr past ↦ inr (λ block is counted.
                past_last rate total content serial check octets block.serial block.octets parts past is.content_is is.fit is.octets
                counted)
          ]
      | inr unsealed ↦ inr (λ block is counted.
          no_check rate total content serial check octets block.serial block.octets parts unsealed is.content_is is.fit is.octets
          counted)
    ]
  where
    past_last : (rate : Rate) (total : ℕ) (content : List Bool) (serial : ℕ) (check : List Bool) (octets : List ℕ)
        (serial' : Option ℕ) (octets' : List ℕ) → HasParts rate content serial check octets → total ≤ serial
        → IsContent rate serial' octets' content → FitsBlock rate serial' octets' → All (λ octet. octet < 256) octets'
        → IsCounted (Some total) serial' → ⊥
    past_last rate total content serial check octets None octets' parts past is fit small counted = counted
    past_last rate total content serial check octets (Some serial') octets' parts past is fit small counted =
        let alike = parts_alike rate content serial check octets serial' octets' parts is fit.0 fit.1 small in
        let same : serial' ≡ serial = alike.0 in
        omega (arith, same, past, counted)

    no_check : (rate : Rate) (total : ℕ) (content : List Bool) (serial : ℕ) (check : List Bool) (octets : List ℕ)
        (serial' : Option ℕ) (octets' : List ℕ) → HasParts rate content serial check octets
        → (Completes crc9_generator (bits_of_octets octets ++ bits_of 7 serial)
        (map not (xor_bits (bits_of 9 (block_mask rate)) check)) → ⊥)
        → IsContent rate serial' octets' content → FitsBlock rate serial' octets' → All (λ octet. octet < 256) octets'
        → IsCounted (Some total) serial' → ⊥
    no_check rate total content serial check octets None octets' parts unsealed is fit small counted = counted
    no_check rate total content serial check octets (Some serial') octets' parts unsealed is fit small counted =
        unsealed (parts_alike rate content serial check octets serial' octets' parts is fit.0 fit.1 small).1

block_of_content : (rate : Rate) (total : Option ℕ) (content : List Bool) → length content ≡ 8 * burst_octets rate
    → IsOfABlock rate total content
block_of_content rate None content long = plain_block rate content long
block_of_content Half (Some total) content long = numbered_block Half total content _ _ _ (parts_of Half content 10 refl long)
block_of_content Full (Some total) content long = numbered_block Full total content _ _ _ (parts_of Full content 22 refl long)

-- Bits are read as a block of a packet, or as none: by a content that they hold, and without one.
abbrev AreReadOrNot : Rate → Option ℕ → List Bool → Type 0
AreReadOrNot rate total bits =
    ((block : Block) × IsReadBlock rate total bits block) ⊎ ((block : Block) → IsReadBlock rate total bits block → ⊥)

one_held : (rate : Rate) (bits a b : List Bool) → Holds rate bits a → Holds rate bits b → a ≡ b
one_held Half bits a b p q = same_some a b (one_decoded bits (Some a) (Some b) p q)
one_held Full bits a b p q = p ∙ sym q

block_in : (rate : Rate) (total : Option ℕ) (bits content : List Bool) → Holds rate bits content → AreReadOrNot rate total bits
block_in rate total bits content holds =
    let same : (block : Block) (read : IsReadBlock rate total bits block) → IsBlock rate block content =
    λ block read. subst (IsBlock rate block) (one_held rate bits read.content content read.holds holds) read.is in
    elim (cases_eq (length content) (8 * burst_octets rate)) [
      | inl long ↦
          elim (block_of_content rate total content long) [
            | inl found ↦
                (let (block, is, counted) = found in
                inl (block, record { content = content; holds = holds; is = is; counted = counted }))
            | inr none ↦ inr (λ block read. none block (same block read) read.counted)
          ]
      | inr other ↦ inr (λ block read.
          let is : IsBlock rate block content = same block read in
          other (length_content rate block.serial block.octets content is.content_is is.fit))
    ]

half_block : (total : Option ℕ) (bits : List Bool) (result : Option (List Bool)) → IsDecoded bits result
    → AreReadOrNot Half total bits
half_block total bits None decoded =
    inr (λ block read. let bad : None ≡ Some read.content = one_decoded bits None (Some read.content) decoded read.holds in cc)
half_block total bits (Some content) decoded = block_in Half total bits content decoded

-- any bits are read as some block, or as none
pub read_block_or_not : (rate : Rate) (total : Option ℕ) (bits : List Bool)
    → ((block : Block) × IsReadBlock rate total bits block) ⊎ ((block : Block) → IsReadBlock rate total bits block → ⊥)
read_block_or_not Half total bits = let (result, decoded) = decoded_somehow bits in half_block total bits result decoded
read_block_or_not Full total bits = block_in Full total bits (part bits 0 96 ++ part bits 100 196) refl

-- They are read as one at most.
pub one_read_block : (rate : Rate) (total : Option ℕ) (bits : List Bool) (a b : Block) → IsReadBlock rate total bits a
    → IsReadBlock rate total bits b → a ≡ b
one_read_block rate total bits a b p q =
    same_block rate total a b q.content (subst (IsBlock rate a) (one_held rate bits p.content q.content p.holds q.holds) p.is) q.is
    p.counted q.counted

-- ---- what is sent for a body
-- Octets in blocks of so many, which count from a place on.
cut : Bool → ℕ → ℕ → ℕ → List ℕ → List Block
cut confirmed size place zero octets = []
cut confirmed size place (suc count) octets =
    record { serial = serial_of confirmed place; octets = take size octets }
    ∷ cut confirmed size (suc place) count (drop size octets)

record IsCut (confirmed : Bool) (size place count : ℕ) (octets : List ℕ) (blocks : List Block) : Type 0 where
  whole : octets_of_blocks blocks ≡ octets
  serials : AreNumbered confirmed place blocks
  sizes : HaveOctets size blocks
  many : length blocks ≡ count

cut_is : (confirmed : Bool) (size place count : ℕ) (octets : List ℕ) → length octets ≡ count * size
    → IsCut confirmed size place count octets (cut confirmed size place count octets)
unfolding cut
cut_is confirmed size place zero octets e = record {
  whole = sym (nothing octets (omega arith));
  serials = tt;
  sizes = All-nil (λ block. length block.octets ≡ size);
  many = refl;
}
  where
    nothing : (octets : List ℕ) → length octets ≡ 0 → octets ≡ []
    nothing [] e = refl
    nothing (o ∷ octets) e = absurd (omega arith)
cut_is confirmed size place (suc count) octets e =
    let one : (count + 1) * size ≡ count * size + size = omega arith in
    let more = cut_is confirmed size (suc place) count (drop size octets) (length-drop size octets ∙ omega (arith, e, one)) in
    let blocks : List Block = cut confirmed size (suc place) count (drop size octets) in
    let block : Block = record { serial = serial_of confirmed place; octets = take size octets } in
    record {
      whole = ap (λ l. take size octets ++ l) more.whole ∙ take-append-drop size octets;
      serials = (refl, more.serials);
      sizes = All-cons (λ block. length block.octets ≡ size) block blocks (length-take-le size octets (omega (arith, e, one)))
          more.sizes;
      many = ap suc more.many;
    }

payload_is_some : (rate : Rate) (confirmed : Bool) → 0 < payload rate confirmed
payload_is_some Half true = lit< tt
payload_is_some Half false = lit< tt
payload_is_some Full true = lit< tt
payload_is_some Full false = lit< tt

-- What is sent for a body, at a rate, confirmed or not.
pub record IsSentForBody (body : List ℕ) (rate : Rate) (confirmed : Bool) (packet : Packet) : Type 0 where
  pub rate_is : packet.rate ≡ rate
  pub confirmed_is : packet.confirmed ≡ confirmed
  pub is : IsWrittenPacket body packet

-- for any body that 127 blocks hold with its check there is a packet that is sent
pub packet_somehow : (body : List ℕ) (rate : Rate) (confirmed : Bool) → length body + 4 ≤ 127 * payload rate confirmed
    → (packet : Packet) × IsSentForBody body rate confirmed packet
unfolding cut
packet_somehow body rate confirmed short =
    let size : ℕ = payload rate confirmed in
    let octets : ℕ = length body + 4 in
    let count : ℕ = (octets + size - 1) / size in
    let is = count_is octets size (payload_is_some rate confirmed) in
    let pad : ℕ = count * size - octets in
    let padded : List ℕ = body ++ replicate pad 0 in
    let check : List ℕ = to_le_bytes w32 (crc32_of padded) in
    let all : List ℕ = padded ++ check in
    let long : length all ≡ count * size =
    length-append padded check
    ∙ omega (arith, length-append body (replicate pad 0), length-replicate {A = ℕ} pad 0, is.enough) in
    let pieces = cut_is confirmed size 0 count all long in
    let blocks : List Block = cut confirmed size 0 count all in
    let most : count ≤ 127 =
    elim (cases_lt 127 count) [
      | inl more ↦ absurd (count_most 127 octets size count short is.fewest more)
      | inr fits ↦ omega arith
    ] in (
      record { rate = rate; confirmed = confirmed; pad = pad; blocks = blocks },
      record {
        rate_is = refl;
        confirmed_is = refl;
        is = record {
          serials = pieces.serials;
          sizes = pieces.sizes;
          most = omega (arith, pieces.many, most);
          fewest = omega (arith, is.fewest, is.enough);
          octets = subst (IsSealedList body pad) (sym pieces.whole)
              (sealed_list body pad (crc32_of padded) padded all check refl (crc_fits padded) (crc_completes padded) refl refl);
        };
      },
    )

-- that packet has the rate that was asked for, is confirmed where that was asked for, and is the body's written packet
pub written_packet : (body : List ℕ) (rate : Rate) (confirmed : Bool) → length body + 4 ≤ 127 * payload rate confirmed
    → (packet : Packet) × (packet.rate ≡ rate) × (packet.confirmed ≡ confirmed) × IsWrittenPacket body packet
written_packet body rate confirmed short =
    let (packet, is) = packet_somehow body rate confirmed short in (packet, is.rate_is, is.confirmed_is, is.is)

-- Octets in blocks are octets.
each_small : (blocks : List Block) → All (λ octet. octet < 256) (octets_of_blocks blocks)
    → All (λ block. All (λ octet. octet < 256) block.octets) blocks
each_small [] small = All-nil (λ block. All (λ octet. octet < 256) block.octets)
each_small (block ∷ blocks) small =
    let Small : List ℕ → Type 0 = All (λ octet. octet < 256) in
    let many : ℕ = length block.octets in
    let all : List ℕ = block.octets ++ octets_of_blocks blocks in
    All-cons (λ block. All (λ octet. octet < 256) block.octets) block blocks
    (subst Small (take_at block.octets (octets_of_blocks blocks) many refl) (All-take (λ octet. octet < 256) many all small))
    (each_small blocks
    (subst Small (drop_at block.octets (octets_of_blocks blocks) many refl) (All-drop (λ octet. octet < 256) many all small)))

-- Where a body is of octets, so are the blocks of the packet that is sent for it.
pub blocks_small : (body : List ℕ) (packet : Packet) → All (λ octet. octet < 256) body → IsWrittenPacket body packet
    → All (λ block. All (λ octet. octet < 256) block.octets) packet.blocks
blocks_small body packet small is =
    let Small : ℕ → Type 0 = λ octet. octet < 256 in
    let zeros : List ℕ = replicate packet.pad 0 in
    let all : All Small (body ++ zeros ++ is.octets.check) =
    All-append Small (body ++ zeros) is.octets.check
    (All-append Small body zeros small (All-replicate Small packet.pad 0 (lit< tt))) is.octets.small in
    each_small packet.blocks (subst (All Small) (sym is.octets.whole) all)
