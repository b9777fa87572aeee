use Rattle.std.proofs.Common.{◌≡◌, ℕ, ◌-◌, ◌<◌, ◌≤◌, ◌^◌, ◌++◌, not, map, Some, List, length, take, drop, bit_xor, sym, ◌∙◌, ap}
use Rattle.std.proofs.Common.{subst, arith}
use Rattle.std.proofs.lemmas.List.{take_all, length-drop}
use Rattle.std.proofs.lemmas.List.Elements.{All-drop, All-from_get_or}
use Rattle.dmr_bits.specs.Bits.{bits_of, bits_of_octets}
use Rattle.dmr_checks.specs.Generators.{crc9_generator, Completes}
use Rattle.dmr_data.specs.Block.{burst_octets}
use Rattle.dmr_data.specs.declared.rate.Rate.{Rate}
use Rattle.dmr_data.specs.declared.rate.Rate.TheVariants.{Half, Full}
use Rattle.dmr_gateway.specs.Heard.{Tells, IsConfirmedOf}
use Rattle.dmr_gateway.proofs.Confirming.{Start, start_fields, confirmed_told, unconfirmed_told}
use Rattle.dmr_gateway.proofs.confirmed.confirmed_of.Goals as goal

long : (rate : Rate) → 2 ≤ burst_octets rate
long Half = omega arith
long Full = omega arith

-- all octets behind the first two
rest_is : (octets : List ℕ) → take (length octets - 2) (drop 2 octets) ≡ drop 2 octets
rest_is octets = let l = length-drop 2 octets in take_all (length octets - 2) (drop 2 octets) (omega (arith, l))

pub returns-then-mask-check : goal.returns-then-mask-check
returns-then-mask-check c =
    let octets : List ℕ = c.args.octets.now in
    let rest : take (length octets - 2) (drop 2 octets) ≡ drop 2 octets = rest_is octets in
    let two : 2 ≤ length octets = (let l = long c.args.rate in let w = c.requires.whole in omega (arith, l, w)) in
    let s : Start c.args.rate octets c.next-serial.result c.next-check.result c.crc9.result =
    record {
      whole = c.requires.whole;
      small = All-drop (λ octet. octet < 256) 2 octets
          (All-from_get_or (λ octet. octet < 256) octets 0 (λ k h. omega (arith, c.type_inv.octets k)));
      serial_fits = c.next-serial.ensures.fits;
      check_fits = c.next-check.ensures.fits;
      fields = start_fields octets c.next-serial.result c.next-check.result c.new-reader.result c.next-serial.new.self
          c.next-check.new.self two (c.new-reader.ensures.rest ∙ c.from_octets-start.ensures.value) c.next-serial.ensures.read
          c.next-check.ensures.read (ap length c.new-reader.ensures.rest ∙ c.new-reader.ensures.length) c.next-serial.ensures.length
          c.next-check.ensures.length;
      seals = subst (λ l. Completes crc9_generator (bits_of_octets l ++ bits_of 7 c.next-serial.result)
          (map not (bits_of 9 c.crc9.result)))
          rest c.crc9.ensures.seals;
      only = subst (λ l. (n : ℕ) → n < 2 ^ 9 →
          Completes crc9_generator (bits_of_octets l ++ bits_of 7 c.next-serial.result) (map not (bits_of 9 n)) → n ≡ c.crc9.result)
          rest c.crc9.ensures.only;
    } in
    let is : bit_xor c.mask.result c.next-check.result ≡ c.crc9.result = c.if-mask-check.true in
    record {
      tells = subst (λ l. Tells (Some (record { serial = Some c.next-serial.result; octets = l }))
          (IsConfirmedOf c.args.rate octets))
          (sym rest ∙ sym c.from_slice.ensures.value)
          (confirmed_told c.args.rate octets c.next-serial.result c.next-check.result c.crc9.result s
          (ap (λ m. bit_xor m c.next-check.result) (sym c.mask.ensures.value) ∙ is));
    }

pub returns-else-mask-check : goal.returns-else-mask-check
returns-else-mask-check c =
    let octets : List ℕ = c.args.octets.now in
    let rest : take (length octets - 2) (drop 2 octets) ≡ drop 2 octets = rest_is octets in
    let two : 2 ≤ length octets = (let l = long c.args.rate in let w = c.requires.whole in omega (arith, l, w)) in
    let s : Start c.args.rate octets c.next-serial.result c.next-check.result c.crc9.result =
    record {
      whole = c.requires.whole;
      small = All-drop (λ octet. octet < 256) 2 octets
          (All-from_get_or (λ octet. octet < 256) octets 0 (λ k h. omega (arith, c.type_inv.octets k)));
      serial_fits = c.next-serial.ensures.fits;
      check_fits = c.next-check.ensures.fits;
      fields = start_fields octets c.next-serial.result c.next-check.result c.new-reader.result c.next-serial.new.self
          c.next-check.new.self two (c.new-reader.ensures.rest ∙ c.from_octets-start.ensures.value) c.next-serial.ensures.read
          c.next-check.ensures.read (ap length c.new-reader.ensures.rest ∙ c.new-reader.ensures.length) c.next-serial.ensures.length
          c.next-check.ensures.length;
      seals = subst (λ l. Completes crc9_generator (bits_of_octets l ++ bits_of 7 c.next-serial.result)
          (map not (bits_of 9 c.crc9.result)))
          rest c.crc9.ensures.seals;
      only = subst (λ l. (n : ℕ) → n < 2 ^ 9 →
          Completes crc9_generator (bits_of_octets l ++ bits_of 7 c.next-serial.result) (map not (bits_of 9 n)) → n ≡ c.crc9.result)
          rest c.crc9.ensures.only;
    } in
    record {
      tells = unconfirmed_told c.args.rate octets c.next-serial.result c.next-check.result c.crc9.result s
          (λ e. c.if-mask-check.false (ap (λ m. bit_xor m c.next-check.result) c.mask.ensures.value ∙ e));
    }
