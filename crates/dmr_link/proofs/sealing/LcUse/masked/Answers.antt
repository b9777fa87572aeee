use Rattle.std.proofs.Common.{ℕ, ◌<◌, ◌≢◌, length, get_or, bit_xor, refl, sym}
use Rattle.std.proofs.Common.{ap, ◌∙◌, arith, below_more, List, get_or-set_same, get_or-set_other, ext_get_or, length-set}
use Rattle.dmr_link.specs.Sealed.{masked}
use Rattle.dmr_link.proofs.Masks.{length-masked, get_or-masked_front, get_or-masked_back}
use Rattle.dmr_link.proofs.sealing.LcUse.masked.Goals as goal

pub loop-place-init : goal.loop-place-init
loop-place-init c = record {
  long = c.told-octets;
  before = λ k h. sym (get_or-masked_front c.args.self c.args.octets.now k c.told-octets h);
  behind = λ k h. refl;
}

pub loop-place-preserved : goal.loop-place-preserved
loop-place-preserved c =
    let octets : List ℕ = c.args.octets.now in
    let old : List ℕ = c.loop-place.masked in
    let place : ℕ = c.loop-place.place in
    let value : ℕ = bit_xor (get_or old place 0) c.mask.result in
    let inside : place < length old = let long = c.loop-place.invariant.long in omega arith in
    record {
      long = length-set old place value ∙ c.loop-place.invariant.long;
      before = below_more _ _
          (λ k h. let other : k ≢ place = omega arith in get_or-set_other old place k value 0 other ∙ c.loop-place.invariant.before
          k h)
          (get_or-set_same old place value 0 inside ∙ ap (λ octet. bit_xor octet c.mask.result) (c.loop-place.invariant.behind
          place (omega arith))
          ∙ ap (bit_xor (get_or octets place 0)) c.mask.ensures.value ∙ sym (get_or-masked_back c.args.self octets place
          c.told-octets (omega arith) (omega arith)));
      behind = λ k h. let other : k ≢ place = omega arith in get_or-set_other old place k value 0 other ∙
          c.loop-place.invariant.behind k (omega arith);
    }

pub returns : goal.returns
returns c =
    let whole = c.loop-place.invariant in
    let twelve = length-masked c.args.self c.args.octets.now c.told-octets in
    record {
      value = ext_get_or 0 c.loop-place.masked (masked c.args.self c.args.octets.now) (whole.long ∙ sym twelve)
          (λ k h. whole.before k (omega arith));
    }
