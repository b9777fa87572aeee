use Rattle.std.proofs.Common.{◌≡◌, ℕ, ◌+◌, ◌*◌, ◌-◌, ◌<◌, drop, length, refl, sym, ap, ◌∙◌, arith}
use Rattle.std.proofs.lemmas.List.Elements.{All-replicate, All-drop}
use borrow.Rule.Slice.PartMut.{post_of, same_len_mid}
use Rattle.std.proofs.lemmas.List.{length-take-le, length-drop}
use Rattle.dmr_bits.proofs.OctetWords.{octets_more, octets_small}
use Rattle.dmr_bits.proofs.WordLists.{bits_of_words-none}
use Rattle.dmr_bits.proofs.word_octets.octets_of.Goals as goal

pub loop-k-init : goal.loop-k-init
loop-k-init c = record {
  long = refl;
  small = All-replicate (λ (octet : ℕ). octet < 256) 40 0 (omega arith);
  spelled = sym bits_of_words-none;
}

pub loop-k-preserved : goal.loop-k-preserved
loop-k-preserved c =
    let k : ℕ = c.loop-k.k in
    let inside : k < 5 = omega arith in
    record {
      long = same_len_mid (8 * k) (8 * k + 8 - 8 * k) c.loop-k.octets c.copy_from_slice.new.self
          (ap length (c.copy_from_slice.ensures.after ∙ c.to_be_bytes.ensures)
          ∙ sym (length-take-le (8 * k + 8 - 8 * k) (drop (8 * k) c.loop-k.octets)
          (omega (arith, length-drop (8 * k) c.loop-k.octets, c.loop-k.invariant.long))
          ∙ (let e : 8 * k + 8 - 8 * k ≡ 8 = omega arith in e)))
          ∙ c.loop-k.invariant.long;
      small = octets_small c.loop-k.octets c.copy_from_slice.new.self (post_of (8 * k) (8 * k + 8 - 8 * k) c.loop-k.octets) (8 * k)
          _ c.loop-k.invariant.small (c.copy_from_slice.ensures.after
          ∙ c.to_be_bytes.ensures)
          (All-drop (λ (octet : ℕ). octet < 256) (8 * k + 8 - 8 * k) (drop (8 * k) c.loop-k.octets)
          (All-drop (λ (octet : ℕ). octet < 256) (8 * k) c.loop-k.octets c.loop-k.invariant.small));
      spelled = octets_more c.loop-k.octets c.args.words.now c.copy_from_slice.new.self
          (post_of (8 * k) (8 * k + 8 - 8 * k) c.loop-k.octets) k c.loop-k.invariant.long inside c.told-words
          (c.copy_from_slice.ensures.after ∙ c.to_be_bytes.ensures) c.loop-k.invariant.spelled;
    }
