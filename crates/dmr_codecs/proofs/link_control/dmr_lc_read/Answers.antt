use Rattle.std.proofs.Common.{refl, ◌∙◌}
use Rattle.dmr_link.specs.declared.fault.LcFault.TheVariants.{Parity}
use Rattle.dmr_codecs.proofs.LinkControls.{damaged_by, is_by, no_value, one_value, read_by, sealed_by, shown_by}
use Rattle.dmr_codecs.proofs.link_control.dmr_lc_read.Goals as goal

-- src/link_control.rt:105:1
pub returns-in-Ok-clause-only : goal.returns-in-Ok-clause-only
returns-in-Ok-clause-only c = λ one has.
    let same = one_value c.in-Ok.found one (c.in-Ok.ensures.only one
    (read_by _ _ _ _ one c.lc_use_of.ensures.told c.first_bits.ensures.value has)) in
    (refl, c.fields_of.ensures.told ∙ same)

-- src/link_control.rt:105:1
pub returns-in-Err-Bptc-clause-only : goal.returns-in-Err-Bptc-clause-only
returns-in-Err-Bptc-clause-only c = λ one has. absurd (no_value _ one (c.in-Err-Bptc.ensures.only one
    (read_by _ _ _ _ one c.lc_use_of.ensures.told c.first_bits.ensures.value has)))

-- src/link_control.rt:105:1
pub returns-in-Err-Parity-clause-only : goal.returns-in-Err-Parity-clause-only
returns-in-Err-Parity-clause-only c = λ one has. absurd (no_value _ one (c.in-Err-Parity.ensures.only one
    (read_by _ _ _ _ one c.lc_use_of.ensures.told c.first_bits.ensures.value has)))

-- src/link_control.rt:105:1
pub returns-in-Err-Parity-clause-fault : goal.returns-in-Err-Parity-clause-fault
returns-in-Err-Parity-clause-fault c = λ other. shown_by _ _ _ _ _ Parity c.lc_use_of.ensures.told c.first_bits.ensures.value
    c.in-Err-Parity.field-0-is c.in-Err-Parity.ensures.fault

-- src/link_control.rt:105:1
pub returns-in-Ok-clause-undone : goal.returns-in-Ok-clause-undone
returns-in-Ok-clause-undone c = λ word is damaged sealed.
    let read = c.in-Ok.ensures.undone word is (damaged_by word _ _ c.first_bits.ensures.value damaged)
    (sealed_by _ _ _ c.lc_use_of.ensures.told sealed) in
    (refl, is_by _ _ _ _ _ c.lc_use_of.ensures.told c.fields_of.ensures.told read)

-- src/link_control.rt:105:1
pub returns-in-Ok-clause-octet_undone : goal.returns-in-Ok-clause-octet_undone
returns-in-Ok-clause-octet_undone c = λ word one is damaged near sealed.
    let read = c.in-Ok.ensures.octet_undone word one is (damaged_by word _ _ c.first_bits.ensures.value damaged) near
    (sealed_by _ _ _ c.lc_use_of.ensures.told sealed) in
    (refl, is_by _ _ _ _ _ c.lc_use_of.ensures.told c.fields_of.ensures.told read)

-- src/link_control.rt:105:1
pub returns-in-Err-Bptc-clause-undone : goal.returns-in-Err-Bptc-clause-undone
returns-in-Err-Bptc-clause-undone c = λ word is damaged sealed. absurd (c.in-Err-Bptc.ensures.undone word is
    (damaged_by word _ _ c.first_bits.ensures.value damaged) (sealed_by _ _ _ c.lc_use_of.ensures.told sealed))

-- src/link_control.rt:105:1
pub returns-in-Err-Bptc-clause-octet_undone : goal.returns-in-Err-Bptc-clause-octet_undone
returns-in-Err-Bptc-clause-octet_undone c = λ word one is damaged near sealed. absurd (c.in-Err-Bptc.ensures.octet_undone word one
    is
    (damaged_by word _ _ c.first_bits.ensures.value damaged) near (sealed_by _ _ _ c.lc_use_of.ensures.told sealed))

-- src/link_control.rt:105:1
pub returns-in-Err-Parity-clause-undone : goal.returns-in-Err-Parity-clause-undone
returns-in-Err-Parity-clause-undone c = λ word is damaged sealed. absurd (c.in-Err-Parity.ensures.undone word is
    (damaged_by word _ _ c.first_bits.ensures.value damaged) (sealed_by _ _ _ c.lc_use_of.ensures.told sealed))

-- src/link_control.rt:105:1
pub returns-in-Err-Parity-clause-octet_undone : goal.returns-in-Err-Parity-clause-octet_undone
returns-in-Err-Parity-clause-octet_undone c = λ word one is damaged near sealed. absurd (c.in-Err-Parity.ensures.octet_undone word
    one is
    (damaged_by word _ _ c.first_bits.ensures.value damaged) near (sealed_by _ _ _ c.lc_use_of.ensures.told sealed))
