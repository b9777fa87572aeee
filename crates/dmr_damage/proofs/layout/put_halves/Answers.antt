use Rattle.std.proofs.Common.{◌∙◌, sym, arith}
use Rattle.dmr_damage.proofs.Written.{IsPutTwice, twice_written, twice_front, twice_between, twice_behind}
use Rattle.dmr_damage.proofs.layout.put_halves.Goals as goal

pub returns : goal.returns
returns g c =
    let is : IsPutTwice c.args.bits.now c.put_part.new.self c.put_part-2.new.self c.args.field.now c.args.at c.args.again
    c.args.half =
    record {
      first = c.put_part.ensures.value;
      second = c.put_part-2.ensures.value;
      long = c.put_part.ensures.length;
      kept = c.put_part-2.ensures.length;
      wide = c.put_part.ensures.other_length ∙ sym c.requires.whole;
      first_wide = omega (arith, c.put_part.ensures.count);
      second_wide = omega (arith, c.put_part-2.ensures.count);
      order = c.requires.order;
      inside = c.requires.inside;
    } in
    record {
      written = twice_written _ _ _ _ _ _ _ is;
      front = twice_front _ _ _ _ _ _ _ is;
      between = twice_between _ _ _ _ _ _ _ is;
      behind = twice_behind _ _ _ _ _ _ _ is;
    }
