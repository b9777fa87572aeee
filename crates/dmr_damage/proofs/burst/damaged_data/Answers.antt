use Rattle.std.proofs.Common.{◌∙◌, sym, subst, false}
use Rattle.dmr_burst.specs.Layout.{information_field}
use Rattle.dmr_burst.specs.declared.sync.Side.TheVariants.{Ms}
use Rattle.dmr_hearing.specs.DataTypes.{payload_of}
use Rattle.dmr_hearing.specs.Damage.{IsDamagedPayload}
use Rattle.dmr_damage.proofs.Marked.{same_sync, same_slot_type, payload_damaged, payload_raw}
use Rattle.dmr_damage.proofs.burst.damaged_data.Goals as goal

pub returns-then-is_in_product : goal.returns-then-is_in_product
returns-then-is_in_product c = record {
  damaged = record {
    sync = same_sync (record { side = Ms; voice = false }) c.write_data_sync.new.bits c.write_information.new.bits
        (c.write_information.ensures.sync ∙ c.write_slot_type.ensures.sync) c.write_data_sync.ensures.sync;
    slot_type = same_slot_type (record { colour = c.args.colour; kind = c.args.data_burst.now.kind })
        c.write_slot_type.new.bits c.write_information.new.bits c.write_information.ensures.slot_type
        (c.write_slot_type.ensures.slot_type (record { colour = c.args.colour; kind = c.args.data_burst.now.kind })
        (same_slot_type (record { colour = c.args.colour; kind = c.args.data_burst.now.kind }) c.args.bits.now
        c.write_data_sync.new.bits c.write_data_sync.ensures.slot_type c.requires.heard.slot_type));
    payload = subst (λ f. IsDamagedPayload (payload_of c.args.data_burst.now.kind) c.args.data_burst.now.information f)
        (sym c.write_information.ensures.written)
        (payload_damaged (payload_of c.args.data_burst.now.kind) (information_field c.args.bits.now)
        c.args.data_burst.now.information c.turned_product.result c.args.data_burst.now.link_control
        (c.is_in_product.ensures.product c.if-is_in_product.true) c.requires.heard.reads c.turned_product.ensures.damaged);
  };
}

pub returns-else-is_in_product : goal.returns-else-is_in_product
returns-else-is_in_product c = record {
  damaged = record {
    sync = same_sync (record { side = Ms; voice = false }) c.write_data_sync.new.bits c.write_slot_type.new.bits
        c.write_slot_type.ensures.sync c.write_data_sync.ensures.sync;
    slot_type = c.write_slot_type.ensures.slot_type (record { colour = c.args.colour; kind = c.args.data_burst.now.kind })
        (same_slot_type (record { colour = c.args.colour; kind = c.args.data_burst.now.kind }) c.args.bits.now
        c.write_data_sync.new.bits c.write_data_sync.ensures.slot_type c.requires.heard.slot_type);
    payload = subst (λ f. IsDamagedPayload (payload_of c.args.data_burst.now.kind) c.args.data_burst.now.information f)
        (sym (c.write_slot_type.ensures.information ∙ c.write_data_sync.ensures.information))
        (payload_raw (payload_of c.args.data_burst.now.kind) (information_field c.args.bits.now)
        c.args.data_burst.now.information c.args.data_burst.now.link_control
        (c.is_in_product.ensures.raw c.if-is_in_product.false) c.requires.heard.reads);
  };
}
