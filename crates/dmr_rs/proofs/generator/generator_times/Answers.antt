use Rattle.std.proofs.Common.{◌≡◌, ℕ, ◌<◌, true, refl, ◌∙◌, ap, arith, get_or, eqb, eqb-true}
use Rattle.std.proofs.lemmas.Bool.{agree_below_at}
use Rattle.dmr_rs.specs.Field.{times}
use Rattle.dmr_rs.specs.declared.generator.TheConstants.{TIMES_0E, TIMES_38, TIMES_40}
use Rattle.dmr_rs.proofs.generator.generator_times.Goals as goal

first_is : (n : ℕ) → n < 256 → get_or TIMES_0E n 0 ≡ times n 0x0E
unfolding times
first_is n h = eqb-true (get_or TIMES_0E n 0) (times n 0x0E)
    (agree_below_at (λ i. eqb (get_or TIMES_0E i 0) (times i 0x0E)) (λ i. true) 256 n refl h)

second_is : (n : ℕ) → n < 256 → get_or TIMES_38 n 0 ≡ times n 0x38
unfolding times
second_is n h = eqb-true (get_or TIMES_38 n 0) (times n 0x38)
    (agree_below_at (λ i. eqb (get_or TIMES_38 i 0) (times i 0x38)) (λ i. true) 256 n refl h)

third_is : (n : ℕ) → n < 256 → get_or TIMES_40 n 0 ≡ times n 0x40
unfolding times
third_is n h = eqb-true (get_or TIMES_40 n 0) (times n 0x40)
    (agree_below_at (λ i. eqb (get_or TIMES_40 i 0) (times i 0x40)) (λ i. true) 256 n refl h)

pub returns : goal.returns
returns c =
    let place : ℕ = c.from-place.result in
    let same : place ≡ c.args.octet = c.from-place.ensures ∙ c.from.ensures in
    let inside : place < 256 = omega arith in
    let first : c.from-2.result ≡ times c.args.octet 0x0E =
    c.from-2.ensures ∙ first_is place inside ∙ ap (λ n. times n 0x0E) same in
    let second : c.from-3.result ≡ times c.args.octet 0x38 =
    c.from-3.ensures ∙ second_is place inside ∙ ap (λ n. times n 0x38) same in
    let third : c.from-4.result ≡ times c.args.octet 0x40 =
    c.from-4.ensures ∙ third_is place inside ∙ ap (λ n. times n 0x40) same in
    record { value = cc }
