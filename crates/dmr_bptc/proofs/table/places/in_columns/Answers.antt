use Rattle.std.proofs.Common.{◌≡◌, ℕ, ◌/◌, ◌%◌, ◌<◌, true, refl, get_or, eqb, eqb-true, arith}
use Rattle.std.proofs.lemmas.Bool.{agree_below_at}
use Rattle.dmr_bptc.specs.Spread.{four}
use Rattle.dmr_bptc.specs.declared.table.places.TheConstants.{IN_COLUMNS}
use Rattle.dmr_bptc.proofs.table.places.in_columns.Goals as goal

columns_are : (n : ℕ) → n < 16 → get_or IN_COLUMNS n 0 ≡ four 13 (n / 8 % 2) (n / 4 % 2) (n / 2 % 2) (n % 2)
columns_are n h = eqb-true (get_or IN_COLUMNS n 0) (four 13 (n / 8 % 2) (n / 4 % 2) (n / 2 % 2) (n % 2))
    (agree_below_at (λ i. eqb (get_or IN_COLUMNS i 0) (four 13 (i / 8 % 2) (i / 4 % 2) (i / 2 % 2) (i % 2)))
    (λ i. true) 16 n refl h)

pub returns : goal.returns
returns c =
    let is = columns_are c.args.places c.requires.four in
    record { value = is; fits = omega (arith, is) }
