use Rattle.std.proofs.Common.{◌≡◌, List, Bool, true, false, Some, sym, ap, ◌∙◌, subst}
use Rattle.dmr_bits.specs.Bits.{octets_of}
use Rattle.dmr_bptc.specs.ProductWord.{information}
use Rattle.dmr_checks.specs.Sealed.{IsSealed}
use Rattle.dmr_checks.specs.declared.sealing.Mask.TheVariants as mask
use Rattle.dmr_csbk.specs.Block.{IsCsbk}
use Rattle.dmr_csbk.proofs.block.csbk_read.Goals as goal

same_some : (a b : List Bool) → Some a ≡ Some b → a ≡ b
same_some a b e = cc

not_both : (b : Bool) → b ≡ true → b ≡ false → ⊥
not_both b e f = let bad : true ≡ false = sym e ∙ f in cc

pub returns-then-not-opens-clause-fault : goal.returns-then-not-opens-clause-fault
returns-then-not-opens-clause-fault c =
    let message = c.in-Some.message in (
      message,
      c.in-Some.ensures.decoded,
      λ sealed. not_both c.opens.result (c.opens.ensures.sealed.1 (subst (IsSealed mask.Csbk) (sym c.octets.ensures.value) sealed))
          c.if-not-opens.true,
    )

pub returns-then-not-opens-clause-undone : goal.returns-then-not-opens-clause-undone
returns-then-not-opens-clause-undone c = λ word product damaged sealed.
    let same : c.in-Some.message ≡ information word = same_some _ _ (c.in-Some.ensures.undone word product damaged) in
    let octets : octets_of 12 (information word) ≡ c.octets.result = ap (octets_of 12) (sym same) ∙ sym c.octets.ensures.value in
    absurd (not_both c.opens.result (c.opens.ensures.sealed.1 (subst (IsSealed mask.Csbk) octets sealed)) c.if-not-opens.true)

pub returns-clause-block : goal.returns-clause-block
returns-clause-block c = (
  c.in-Some.message,
  c.in-Some.ensures.decoded,
  record {
    fit = c.fields_of.ensures.fits;
    long = c.octets.ensures.length;
    fields = c.fields_of.ensures.fields;
    sealed = subst (IsSealed mask.Csbk) c.octets.ensures.value (c.opens.ensures.sealed.0 c.if-not-opens.false);
  },
)

pub returns-clause-undone : goal.returns-clause-undone
returns-clause-undone c = λ word product damaged sealed.
    let same : c.in-Some.message ≡ information word = same_some _ _ (c.in-Some.ensures.undone word product damaged) in
    let read : IsCsbk c.fields_of.result c.in-Some.message =
    record {
      fit = c.fields_of.ensures.fits;
      long = c.octets.ensures.length;
      fields = c.fields_of.ensures.fields;
      sealed = subst (IsSealed mask.Csbk) c.octets.ensures.value (c.opens.ensures.sealed.0 c.if-not-opens.false);
    } in
    subst (IsCsbk c.fields_of.result) same read
