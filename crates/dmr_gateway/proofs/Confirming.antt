-- Confirmed blocks are read off the octets that a burst holds.
use Rattle.std.proofs.Common.{◌≡◌, ℕ, ◌+◌, ◌-◌, ◌<◌, ◌≤◌, ◌^◌, Bool, true, not, map, List, [], ◌∷◌, ◌++◌, length, drop, get_or}
use Rattle.std.proofs.Common.{Option, Some, None, Result, Ok, bit_xor, refl, sym, ◌∙◌, ap, subst, arith}
use Rattle.std.specs.List.{All}
use Rattle.std.proofs.lemmas.List.{append_assoc, append-nil, length-drop}
use Rattle.dmr_bits.specs.Bits.{bits_of, bits_of_octets}
use Rattle.dmr_bptc.proofs.Decoded.{one_decoded}
use Rattle.dmr_checks.specs.Generators.{crc9_generator, Completes}
use Rattle.dmr_data.specs.Block.{burst_octets, block_mask, payload, Holds, IsConfirmedContent, IsBlock, IsCounted, IsReadBlock}
use Rattle.dmr_data.specs.Block.{ShowsBlockFault}
use Rattle.dmr_data.specs.declared.block.Block.{Block}
use Rattle.dmr_data.specs.declared.fault.BlockFault.{BlockFault}
use Rattle.dmr_data.specs.declared.fault.BlockFault.TheVariants as fault
use Rattle.dmr_data.specs.declared.rate.Rate.{Rate}
use Rattle.dmr_data.specs.declared.rate.Rate.TheVariants.{Half, Full}
use Rattle.dmr_data.proofs.Contents.{sealed_content, unsealed_content, same_block}
use Rattle.dmr_data.proofs.HeaderForms.{same_some}
use Rattle.dmr_gateway.specs.declared.heard.Heard.{Heard}
use Rattle.dmr_gateway.specs.Heard.{Tells, IsConfirmedOf, ConfirmedByOctets, IsReadByGateway, kind_of_rate, nothing_said}
use Rattle.dmr_gateway.proofs.OneHearing.{told, untrue, block_reading}

-- 1. The start of a confirmed block.

two_first : (octets : List ℕ) → 2 ≤ length octets → octets ≡ get_or octets 0 0 ∷ get_or octets 1 0 ∷ drop 2 octets
two_first [] le = absurd (omega arith)
two_first (a ∷ []) le = absurd (omega arith)
two_first (a ∷ b ∷ rest) le = refl

none_left : (bits : List Bool) → length bits ≡ 0 → bits ≡ []
none_left [] e = refl
none_left (b ∷ bits) e = absurd (omega arith)

regrouped : (x y rest : List Bool) → (x ++ (y ++ [])) ++ rest ≡ x ++ (y ++ rest)
regrouped x y rest = ap (λ l. (x ++ l) ++ rest) (append-nil y) ∙ append_assoc x y rest

-- its serial, its check and its octets
pub start_fields : (octets : List ℕ) (serial check : ℕ) (start a b : List Bool) → 2 ≤ length octets →
    start ≡ bits_of_octets (get_or octets 0 0 ∷ get_or octets 1 0 ∷ []) → start ≡ bits_of 7 serial ++ a → a ≡ bits_of 9 check ++ b →
    length start ≡ 16 → length a + 7 ≡ length start → length b + 9 ≡ length a →
    bits_of_octets octets ≡ bits_of 7 serial ++ (bits_of 9 check ++ bits_of_octets (drop 2 octets))
start_fields octets serial check start a b le two first second long front back =
    let rest : List Bool = bits_of_octets (drop 2 octets) in
    let none : b ≡ [] = none_left b (omega (arith, long, front, back)) in
    ap bits_of_octets (two_first octets le)
    ∙ (sym (regrouped (bits_of 8 (get_or octets 0 0)) (bits_of 8 (get_or octets 1 0)) rest)
    ∙ (ap (λ l. l ++ rest) (sym two)
    ∙ (ap (λ l. l ++ rest) first
    ∙ (ap (λ l. (bits_of 7 serial ++ l) ++ rest) (second ∙ ap (λ l. bits_of 9 check ++ l) none)
    ∙ regrouped (bits_of 7 serial) (bits_of 9 check) rest))))

-- 2. The block.

-- What was read of some octets, with a check that is right or wrong.
pub record Start (rate : Rate) (octets : List ℕ) (serial check crc : ℕ) : Type 0 where
  pub whole : length octets ≡ burst_octets rate
  pub small : All (λ octet. octet < 256) (drop 2 octets)
  pub serial_fits : serial < 2 ^ 7
  pub check_fits : check < 2 ^ 9
  pub fields : bits_of_octets octets ≡ bits_of 7 serial ++ (bits_of 9 check ++ bits_of_octets (drop 2 octets))
  pub seals : Completes crc9_generator (bits_of_octets (drop 2 octets) ++ bits_of 7 serial) (map not (bits_of 9 crc))
  pub only : (n : ℕ) → n < 2 ^ 9 →
      Completes crc9_generator (bits_of_octets (drop 2 octets) ++ bits_of 7 serial) (map not (bits_of 9 n)) → n ≡ crc

block_fits : (rate : Rate) (octets : List ℕ) → length octets ≡ burst_octets rate → length (drop 2 octets) ≡ payload rate true
block_fits rate octets whole = length-drop 2 octets ∙ ap (λ n. n - 2) whole

-- octets with a right check are read as one confirmed block, of its serial and all octets behind the first two
pub confirmed_told : (rate : Rate) (octets : List ℕ) (serial check crc : ℕ) → Start rate octets serial check crc →
    bit_xor (block_mask rate) check ≡ crc →
    Tells (Some (record { serial = Some serial; octets = drop 2 octets })) (IsConfirmedOf rate octets)
confirmed_told rate octets serial check crc s is =
    let block : Block = record { serial = Some serial; octets = drop 2 octets } in
    let small : serial < 128 = (let k = s.serial_fits in omega (arith, k)) in
    let p : IsConfirmedOf rate octets block = (
      record {
        fit = (small, block_fits rate octets s.whole);
        octets = s.small;
        content_is = sealed_content rate serial check crc (drop 2 octets) (bits_of_octets octets) s.fields is s.seals;
      },
      small,
    ) in
    told {E = BlockFault} (IsConfirmedOf rate octets) block p
    (λ y q. ap Ok (same_block rate (Some 128) block y (bits_of_octets octets) p.0 q.0 p.1 q.1))

not_confirmed : (rate : Rate) (serial : Option ℕ) (octets : List ℕ) (content : List Bool) →
    ((s : ℕ) (o : List ℕ) → IsConfirmedContent rate s o content → ⊥) →
    IsBlock rate (record { serial = serial; octets = octets }) content → IsCounted (Some 128) serial → ⊥
not_confirmed rate None octets content none is counted = counted
not_confirmed rate (Some serial) octets content none is counted = none serial octets is.content_is

-- octets with a wrong check are read as no confirmed block
pub unconfirmed_told : (rate : Rate) (octets : List ℕ) (serial check crc : ℕ) → Start rate octets serial check crc →
    (bit_xor (block_mask rate) check ≡ crc → ⊥) → Tells None (IsConfirmedOf rate octets)
unconfirmed_told rate octets serial check crc s wrong =
    untrue (IsConfirmedOf rate octets)
    (λ block p. not_confirmed rate block.serial block.octets (bits_of_octets octets)
    (unsealed_content rate serial check crc (drop 2 octets) (bits_of_octets octets) s.fields s.check_fits s.only wrong) p.0 p.1)

-- 3. What the information of a burst is read as.

one_content : (rate : Rate) (information a b : List Bool) → Holds rate information a → Holds rate information b → a ≡ b
one_content Half information a b p q = same_some a b (one_decoded information (Some a) (Some b) p q)
one_content Full information a b p q = p ∙ sym q

unserialled : (rate : Rate) (serial : Option ℕ) (octets : List ℕ) (content : List Bool) →
    IsBlock rate (record { serial = serial; octets = octets }) content → IsCounted None serial → content ≡ bits_of_octets octets
unserialled rate None octets content is counted = is.content_is
unserialled rate (Some serial) octets content is counted = absurd counted

-- what is read as an unconfirmed block is read as a confirmed one where its octets are one's
pub confirmed_by_octets : ConfirmedByOctets
confirmed_by_octets rate information block x is =
    let content : is.content ≡ bits_of_octets block.octets =
    unserialled rate block.serial block.octets is.content is.is is.counted in (
      λ q. let same : q.content ≡ bits_of_octets block.octets =
          one_content rate information q.content is.content q.holds is.holds ∙ content in
          (subst (IsBlock rate x) same q.is, q.counted),
      λ p. record {
        content = bits_of_octets block.octets;
        holds = subst (Holds rate information) content is.holds;
        is = p.0;
        counted = p.1;
      },
    )

confirmed_reading : (rate : Rate) (information : List Bool) (block : Block) (confirmed : Option Block) →
    IsReadBlock rate None information block → Tells confirmed (IsConfirmedOf rate block.octets) →
    Tells confirmed (IsReadBlock rate (Some 128) information)
confirmed_reading rate information block confirmed is tells x =
    let both = confirmed_by_octets rate information block x is in
    (λ e. both.1 ((tells x).0 e), λ q. (tells x).1 (both.0 q))

-- and where none is read as an unconfirmed one, none is read at all
nothing_held : (rate : Rate) (information : List Bool) (e : BlockFault) → ShowsBlockFault rate None e information →
    (content : List Bool) → Holds rate information content → ⊥
nothing_held Half information fault.Bptc shows content holds =
    let same : ◌≡◌ {A = Option (List Bool)} None (Some content) = one_decoded information None (Some content) shows holds in cc
nothing_held Full information fault.Bptc shows content holds = shows
nothing_held rate information fault.Crc9 shows content holds = shows.2
nothing_held rate information fault.Serial shows content holds = shows.2

nothing_read : (rate : Rate) (total : Option ℕ) (information : List Bool) (e : BlockFault) →
    ShowsBlockFault rate None e information → Tells None (IsReadBlock rate total information)
nothing_read rate total information e shows =
    untrue (IsReadBlock rate total information) (λ block p. nothing_held rate information e shows p.content p.holds)

-- 4. What a block is heard as.

-- A burst that reads as a block is heard as that block, and as a confirmed one where its octets are one's.
pub block_heard : (rate : Rate) (information : List Bool) (h : Heard) (block : Block) → h.header ≡ None → h.unconfirmed
    ≡ Some block →
    IsReadBlock rate None information block →
    ((y : Block) → IsReadBlock rate None information y → ◌≡◌ {A = Result Block BlockFault} (Ok block) (Ok y)) →
    Tells h.confirmed (IsConfirmedOf rate block.octets) → IsReadByGateway (kind_of_rate rate) information h
block_heard rate information h block head unconfirmed is only tells =
    let same : ◌≡◌ {A = Heard} (record { header = None; unconfirmed = Some block; confirmed = h.confirmed }) h =
    ap (λ x. record { header = x; unconfirmed = Some block; confirmed = h.confirmed }) (sym head)
    ∙ ap (λ x. record { header = h.header; unconfirmed = x; confirmed = h.confirmed }) (sym unconfirmed) in
    subst (IsReadByGateway (kind_of_rate rate) information) same
    (block_reading rate information (Some block) h.confirmed (told (IsReadBlock rate None information) block is only)
    (confirmed_reading rate information block h.confirmed is tells))

-- a burst in which there is a fault instead of a block is heard as nothing
pub nothing_heard : (rate : Rate) (information : List Bool) (e : BlockFault) → ShowsBlockFault rate None e information →
    IsReadByGateway (kind_of_rate rate) information nothing_said
nothing_heard rate information e shows =
    block_reading rate information None None (nothing_read rate None information e shows)
    (nothing_read rate (Some 128) information e shows)
