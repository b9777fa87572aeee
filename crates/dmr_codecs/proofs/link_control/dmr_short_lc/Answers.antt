use Rattle.std.proofs.Common.{◌%◌, ◌^◌, sym, subst, ◌∙◌}
use Rattle.dmr_embedded.specs.ShortLc.{IsShortLc}
use Rattle.dmr_codecs.proofs.Fragments.{four_told}
use Rattle.dmr_codecs.proofs.link_control.dmr_short_lc.Goals as goal

-- src/link_control.rt:41:1
pub returns : goal.returns
returns c =
    let are = four_told c.short_lc-four.result c.to_number.result c.to_number-2.result c.to_number-3.result c.to_number-4.result
    c.index-four-0.result c.index-four-1.result c.index-four-2.result c.index-four-3.result
    c.short_lc-four.ensures.carried.count
    (c.to_number.ensures.value ∙ c.index-four-0.is) (c.to_number-2.ensures.value ∙ c.index-four-1.is)
    (c.to_number-3.ensures.value ∙ c.index-four-2.is) (c.to_number-4.ensures.value ∙ c.index-four-3.is) in
    record { carried = subst (IsShortLc (c.args.slco % 16) (c.args.body % 2 ^ 24)) (sym are) c.short_lc-four.ensures.carried }
