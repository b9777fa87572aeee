use Rattle.std.proofs.Common.{◌≡◌, ◌++◌, length, take, sym, ap, ◌∙◌, arith}
use Rattle.std.proofs.lemmas.List.{length-append, take-append-drop}
use Rattle.hex.specs.Hex.{encode_upper}
use Rattle.dmr_text.proofs.Digits.{digits_done, digits_length, digits_on, word_behind_length}
use Rattle.dmr_text.proofs.line.Line.octets_behind.Goals as goal

pub loop-rest-preserved : goal.loop-rest-preserved
loop-rest-preserved c =
    let inv = c.loop-rest.invariant in
    let front = c.split_at.result.0.now in
    let back = c.split_at.result.1.now in
    let rest = c.loop-rest.rest.now in
    let whole : front ++ back ≡ rest =
    ap (λ l. l ++ back) c.split_at.ensures.front
    ∙ ap (λ l. take c.min.result rest ++ l) c.split_at.ensures.back
    ∙ take-append-drop c.min.result rest in
    let long = ap length c.add_digits.ensures.value in
    let parts = ap length whole in
    record {
      room = omega (
        arith,
        inv.room,
        long,
        length-append c.loop-rest.self (encode_upper front),
        digits_length front,
        parts,
        length-append front back,
      );
      digits = digits_on c.loop-rest.self c.add_digits.new.self front back rest c.add_digits.ensures.value whole ∙ inv.digits;
    }

pub returns : goal.returns
returns c =
    let value = digits_done c.args.self.now c.add-2.new.self c.loop-rest.self c.args.octets.now c.loop-rest.rest.now
    c.add-2.ensures.value c.loop-rest.invariant.digits
    (sym c.is_empty-in-loop-rest.ensures ∙ c.loop-rest-test.false) (sym c.is_empty.ensures ∙ c.if-is_empty.false) in
    record { value = value; length = word_behind_length c.args.self.now c.args.octets.now c.loop-rest.self value }
