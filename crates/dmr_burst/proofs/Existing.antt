-- Any burst has an encoding, and any fields of a CACH have its bits.
use Rattle.std.proofs.Common.{◌≡◌, ℕ, ◌+◌, ◌-◌, ◌<◌, Bool, true, false, List, [], ◌∷◌, ◌++◌, length, take, drop, get_or, sym}
use Rattle.std.proofs.Common.{◌∙◌, ap, subst, arith, length-append, append_assoc, append-nil}
use Rattle.std.specs.List.{All}
use Rattle.std.proofs.lemmas.List.{take_at, take-take, drop-take, length-take-le, length-drop, length-map, take-append-drop}
use Rattle.std.proofs.lemmas.List.{get_or-take, get_or-append_right}
use Rattle.std.proofs.Math.Seq.{drop-append_seam, drop-append-add}
use Rattle.dmr_bits.specs.Bits.{bits_of, bits_of_octets, number_of, octets_of, part}
use Rattle.dmr_bits.proofs.Lists.{length-bits_of, number_of-bits_of}
use Rattle.dmr_bits.proofs.OctetFronts.{length-octets_of, octets_of-small}
use Rattle.dmr_bits.proofs.Octets.{bits_of_octets-octets_of}
use Rattle.dmr_codes.proofs.Completing.{word_somehow}
use Rattle.dmr_codes.specs.Seven.{IsGolay20, IsResidue16, IsHamming7, golay20_columns, golay20_shaped, residue16_columns}
use Rattle.dmr_codes.specs.Seven.{residue16_shaped, hamming7_columns, hamming7_shaped}
use Rattle.dmr_burst.specs.Burst.{IsBurst, IsEncoding, HasWholeLists}
use Rattle.dmr_burst.specs.Cach.{IsCach, bits_at, tact_field}
use Rattle.dmr_burst.specs.Emb.{emb_of}
use Rattle.dmr_burst.specs.Layout.{IsAround}
use Rattle.dmr_burst.specs.SlotType.{slot_type_of}
use Rattle.dmr_burst.specs.Sync.{sync_word, sync_number}
use Rattle.dmr_burst.specs.declared.announcement.TheConstants.{ORDER}
use Rattle.dmr_burst.specs.declared.burst.Burst.{Burst}
use Rattle.dmr_burst.specs.declared.burst.Burst.TheVariants.{Data, VoiceSync, Voice}
use Rattle.dmr_burst.specs.declared.emb.Emb.{Emb}
use Rattle.dmr_burst.specs.declared.sync.Side.{Side}
use Rattle.dmr_burst.proofs.Interleaving.{tact_in_order, fragment_in_order}
use Rattle.dmr_burst.proofs.Pieces.{outer_field, data_fields, voice_fields}
use Rattle.dmr_burst.proofs.Said.{slot_type_said}

-- ---- words
-- A word that says a slot type.
slot_type_somehow : (colour kind : ℕ) → colour < 16 → kind < 16
    → (word : List Bool) × IsGolay20 word × (slot_type_of word ≡ record { colour = colour; kind = kind })
slot_type_somehow colour kind h k =
    let information : List Bool = bits_of 4 colour ++ bits_of 4 kind in
    let eight : length information ≡ 8 =
    length-append (bits_of 4 colour) (bits_of 4 kind) ∙ omega (arith, length-bits_of 4 colour, length-bits_of 4 kind) in
    let (word, is, begins) = word_somehow 20 8 golay20_columns information golay20_shaped eight in
    (word, is, slot_type_said word colour kind begins h k)

emb_by : (c d : ℕ) (p q : Bool) (l m : ℕ) → c ≡ d → p ≡ q → l ≡ m
    → ◌≡◌ {A = Emb} (record { colour = c; pi = p; lcss = l }) (record { colour = d; pi = q; lcss = m })
emb_by c d p q l m e f g = cc

emb_said : (word : List Bool) (emb : Emb) → take 7 word ≡ bits_of 4 emb.colour ++ (emb.pi ∷ bits_of 2 emb.lcss)
    → emb.colour < 16 → emb.lcss < 4 → emb_of word ≡ emb
emb_said word emb e h k =
    let colour : List Bool = bits_of 4 emb.colour in
    let rest : List Bool = emb.pi ∷ bits_of 2 emb.lcss in
    let four : length colour ≡ 4 = length-bits_of 4 emb.colour in
    let first : number_of (take 4 word) ≡ emb.colour =
    ap number_of (sym (take-take 4 7 word (omega arith)) ∙ ap (take 4) e ∙ take_at colour rest 4 four)
    ∙ number_of-bits_of 4 emb.colour h in
    let pi : get_or word 4 false ≡ emb.pi =
    sym (get_or-take 7 word 4 false (omega arith)) ∙ ap (λ l. get_or l 4 false) e
    ∙ get_or-append_right colour rest 4 4 false four (omega arith) in
    let behind : drop 5 (colour ++ rest) ≡ bits_of 2 emb.lcss =
    ap (λ n. drop n (colour ++ rest)) (let z : 5 ≡ length colour + 1 = omega (arith, four) in z) ∙ drop-append-add colour rest 1 in
    let last : number_of (take 2 (drop 5 word)) ≡ emb.lcss =
    ap number_of (sym (drop-take 5 2 word) ∙ ap (drop 5) e ∙ behind) ∙ number_of-bits_of 2 emb.lcss k in
    emb_by (number_of (take 4 word)) emb.colour (get_or word 4 false) emb.pi (number_of (take 2 (drop 5 word))) emb.lcss first pi
    last

-- A word that says an EMB.
emb_somehow : (emb : Emb) → emb.colour < 16 → emb.lcss < 4
    → (word : List Bool) × IsResidue16 word × (emb_of word ≡ emb)
emb_somehow emb h k =
    let colour : List Bool = bits_of 4 emb.colour in
    let information : List Bool = colour ++ (emb.pi ∷ bits_of 2 emb.lcss) in
    let seven : length information ≡ 7 =
    length-append colour (emb.pi ∷ bits_of 2 emb.lcss)
    ∙ omega (arith, length-bits_of 4 emb.colour, length-bits_of 2 emb.lcss) in
    let (word, is, begins) = word_somehow 16 7 residue16_columns information residue16_shaped seven in
    (word, is, emb_said word emb begins h k)

-- ---- one list around another
part_at : (x y z : List Bool) (k n : ℕ) → length x ≡ k → length y ≡ n → part (x ++ (y ++ z)) k (k + n) ≡ y
part_at x y z k n e f =
    let width : k + n - k ≡ n = omega arith in
    ap (λ m. take m (drop k (x ++ (y ++ z)))) width
    ∙ ap (λ i. take n (drop i (x ++ (y ++ z)))) (sym e) ∙ ap (take n) (drop-append_seam x (y ++ z))
    ∙ take_at y z n f

part_first : (y z : List Bool) (n : ℕ) → length y ≡ n → part (y ++ z) 0 n ≡ y
part_first y z n f =
    let width : n - 0 ≡ n = omega arith in
    ap (λ m. take m (drop 0 (y ++ z))) width ∙ take_at y z n f

around_somehow : (half width : ℕ) (outer inner : List Bool) → length outer ≡ half + half → length inner ≡ width
    → (bits : List Bool) × IsAround half width outer inner bits
around_somehow half width outer inner long wide =
    let first : List Bool = take half outer in
    let last : List Bool = drop half outer in
    let bits : List Bool = first ++ (inner ++ last) in
    let front : length first ≡ half = length-take-le half outer (omega arith) in
    let back : length last ≡ half = length-drop half outer ∙ omega arith in
    let outer_is : first ++ (last ++ []) ≡ outer = ap (λ l. first ++ l) (append-nil last) ∙ take-append-drop half outer in
    let bits_are : (first ++ inner) ++ (last ++ []) ≡ bits =
    append_assoc first inner (last ++ []) ∙ ap (λ l. first ++ (inner ++ l)) (append-nil last) in
    let middle : length (first ++ inner) ≡ half + width = length-append first inner ∙ omega arith in (
      bits,
      record {
        outer_length = long;
        inner_length = wide;
        whole = length-append first (inner ++ last) ∙ omega (arith, length-append inner last);
        first = part_first first (inner ++ last) half front
            ∙ sym (ap (λ l. part l 0 half) (sym outer_is) ∙ part_first first (last ++ []) half front);
        middle = part_at first inner last half width front wide;
        last = ap (λ l. part l (half + width) (half + width + half)) (sym bits_are)
            ∙ part_at (first ++ inner) last [] (half + width) half middle back
            ∙ sym (ap (λ l. part l half (half + half)) (sym outer_is) ∙ part_at first last [] half half front back);
      },
    )

-- ---- bursts
length-sync_word : (side : Side) (voice : Bool) → length (sync_word side voice) ≡ 48
unfolding sync_word
length-sync_word side voice = length-bits_of 48 (sync_number side voice)

bits_somehow : (b : Burst) (side : Side) → IsBurst b → HasWholeLists b
    → (bits : List Bool) × (length bits ≡ 264) × IsEncoding b side bits
bits_somehow (Data colour kind information) side fit long =
    let (word, is, says) = slot_type_somehow colour kind fit.0 fit.1 in
    let (outer, inside) = around_somehow 98 20 information word long is.long in
    let (bits, around) = around_somehow 108 48 outer (sync_word side false) inside.whole (length-sync_word side false) in
    let fields = data_fields information word outer (sync_word side false) bits inside around in (
      bits,
      around.whole,
      (around.whole, subst IsGolay20 (sym fields.1) is, ap slot_type_of fields.1 ∙ says, fields.0, fields.2),
    )
bits_somehow (VoiceSync vocoder) side fit long =
    let (bits, around) = around_somehow 108 48 vocoder (sync_word side true) long (length-sync_word side true) in (
      bits,
      around.whole,
      (around.whole, outer_field 108 48 vocoder (sync_word side true) bits around, around.middle),
    )
bits_somehow (Voice emb embedded vocoder) side fit (narrow, long) =
    let (word, is, says) = emb_somehow emb fit.0 fit.1 in
    let (centre, inside) = around_somehow 8 32 word (bits_of 32 embedded) is.long (length-bits_of 32 embedded) in
    let (bits, around) = around_somehow 108 48 vocoder centre long inside.whole in
    let fields = voice_fields word (bits_of 32 embedded) centre vocoder bits inside around in (
      bits,
      around.whole,
      (
        around.whole,
        subst IsResidue16 (sym fields.1) is,
        ap emb_of fields.1 ∙ says,
        ap number_of fields.2 ∙ number_of-bits_of 32 embedded narrow,
        fields.0,
      ),
    )

-- Any burst whose numbers fit, and whose lists are whole, has the octets of its encoding.
pub encoding_somehow : (b : Burst) (side : Side) → IsBurst b → HasWholeLists b
    → (octets : List ℕ) × (length octets ≡ 33) × All (λ octet. octet < 256) octets × IsEncoding b side (bits_of_octets octets)
encoding_somehow b side fit long =
    let (bits, whole, is) = bits_somehow b side fit long in
    let octets : List ℕ = octets_of 33 bits in (
      octets,
      length-octets_of 33 bits,
      octets_of-small 33 bits,
      subst (IsEncoding b side) (sym (bits_of_octets-octets_of 33 bits whole)) is,
    )

-- Any fields of a CACH have its octets.
pub cach_somehow : (at tc : Bool) (lcss : ℕ) (fragment : List Bool) → length fragment ≡ 17
    → (octets : List ℕ) × (length octets ≡ 3) × All (λ octet. octet < 256) octets
    × IsCach at tc lcss fragment (bits_of_octets octets)
cach_somehow at tc lcss fragment long =
    let information : List Bool = at ∷ tc ∷ bits_of 2 lcss in
    let four : length information ≡ 4 = omega (arith, length-bits_of 2 lcss) in
    let (tact, is, begins) = word_somehow 7 4 hamming7_columns information hamming7_shaped four in
    let bits : List Bool = bits_at ORDER (tact ++ fragment) in
    let whole : length bits ≡ 24 = length-map ORDER (λ place. get_or (tact ++ fragment) place false) in
    let word : tact_field bits ≡ tact = tact_in_order tact fragment is.long in
    let octets : List ℕ = octets_of 3 bits in
    let same : bits_of_octets octets ≡ bits = bits_of_octets-octets_of 3 bits whole in (
      octets,
      length-octets_of 3 bits,
      octets_of-small 3 bits,
      subst (IsCach at tc lcss fragment) (sym same) (record {
        long = whole;
        word = subst IsHamming7 (sym word) is;
        says = ap (take 4) word ∙ begins;
        holds = fragment_in_order tact fragment is.long long;
      }),
    )
