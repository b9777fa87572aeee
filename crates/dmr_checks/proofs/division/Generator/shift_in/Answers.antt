use Rattle.std.proofs.Common.{◌≡◌, ℕ, ◌*◌, ◌%◌, ◌^◌, ◌≤◌, ◌∙◌, arith, mod-lt}
use Rattle.std.proofs.lemmas.Nat.{xor_lt, pow_pos}
use Rattle.dmr_bits.specs.Bits.{bits_of}
use Rattle.dmr_bits.proofs.Numbers.{bits_of_mod}
use Rattle.dmr_bits.proofs.Widths.{bits_of-mod}
use Rattle.dmr_checks.proofs.Leaving.{leaving_octet, remainder_fits, shifted_in}
use Rattle.dmr_checks.proofs.Registers.{size_is}
use Rattle.dmr_checks.proofs.division.Generator.shift_in.Goals as goal

pub offset_bounds-self-leaving : goal.offset_bounds-self-leaving
offset_bounds-self-leaving c =
    let d : ℕ = c.args.self.now.degree in
    let wide : c.args.width ≤ d = omega (arith, c.requires.narrow, c.args.self.now.degree_fits.0) in
    let fits = leaving_octet d c.args.width c.args.register c.args.number wide c.requires.narrow c.requires.register
    c.requires.number in
    omega arith

pub bounds-self-leaving : goal.bounds-self-leaving
bounds-self-leaving c =
    leaving_octet c.args.self.now.degree c.args.width c.args.register c.args.number
    (omega (arith, c.requires.narrow, c.args.self.now.degree_fits.0)) c.requires.narrow c.requires.register c.requires.number

pub returns-clause-fits : goal.returns-clause-fits
returns-clause-fits c =
    let d : ℕ = c.args.self.now.degree in
    let wide : c.args.width ≤ d = omega (arith, c.requires.narrow, c.args.self.now.degree_fits.0) in
    let octet = leaving_octet d c.args.width c.args.register c.args.number wide c.requires.narrow c.requires.register
    c.requires.number in
    rw (size_is d c.args.self.now.degree_fits.1, c.from.ensures)
    (xor_lt d _ _ (mod-lt _ (pow_pos d))
    (remainder_fits d c.args.self.now.low c.args.self.now.remainders.now _ c.args.self.now.remainders_are octet))

pub returns-clause-run : goal.returns-clause-run
returns-clause-run c =
    let d : ℕ = c.args.self.now.degree in
    let shifted : ℕ = c.args.register * 2 ^ c.args.width in
    let wide : c.args.width ≤ d = omega (arith, c.requires.narrow, c.args.self.now.degree_fits.0) in
    let rest : bits_of d (shifted % 18446744073709551616 % 2 ^ d) ≡ bits_of d shifted =
    bits_of-mod d (shifted % 18446744073709551616)
    ∙ bits_of_mod d 64 shifted (omega (arith, c.args.self.now.degree_fits.1)) in
    rw (size_is d c.args.self.now.degree_fits.1, c.from.ensures)
    (shifted_in d c.args.width c.args.self.now.low c.args.register c.args.number (shifted % 18446744073709551616 % 2 ^ d)
    c.args.self.now.remainders.now
    wide c.requires.narrow c.requires.register c.requires.number c.args.self.now.remainders_are rest)
