use Rattle.std.proofs.Common.{◌≡◌, ◌∙◌, ◌++◌, List, Bool, ap, subst, sym, arith, take, length}
use Rattle.dmr_bits.specs.Bits.{put_at, bits_of_octets}
use Rattle.dmr_bits.proofs.Parts.{two_parts}
use Rattle.dmr_codes.specs.Seven.{IsHamming7}
use Rattle.dmr_burst.specs.Cach.{bits_at, tact_field}
use Rattle.dmr_burst.specs.declared.announcement.TheConstants.{ORDER}
use Rattle.dmr_burst.proofs.Interleaving.{fragment_field, tact_in_order, fragment_in_order}
use Rattle.dmr_burst.proofs.announcement.cach.Goals as goal

pub returns : goal.returns
returns c =
    let tact : List Bool = c.tact_word.result in
    let fragment : List Bool = c.args.fragment.now in
    let joined : c.put-2.new.self ≡ tact ++ fragment =
    c.put-2.ensures.value ∙ ap (λ l. put_at l 7 fragment) c.put.ensures.value
    ∙ two_parts c.zero-fields.result tact fragment 7 c.put.ensures.count
    (omega (arith, c.put.ensures.length, c.put-2.ensures.count)) in
    let made : bits_of_octets c.octets.result ≡ bits_at ORDER (tact ++ fragment) =
    c.octets.ensures.spelled ∙ c.interleaved.ensures.value ∙ ap (bits_at ORDER) joined in
    let word : tact_field (bits_of_octets c.octets.result) ≡ c.tact_word.result =
    ap tact_field made ∙ tact_in_order tact fragment c.put.ensures.count in
    record {
      octets = c.octets.ensures.octets;
      fields = record {
        long = ap length made;
        word = subst IsHamming7 (sym word) c.tact_word.ensures.word;
        says = ap (take 4) word ∙ c.tact_word.ensures.says;
        holds = ap fragment_field made ∙ fragment_in_order tact fragment c.put.ensures.count c.put-2.ensures.count;
      };
    }
