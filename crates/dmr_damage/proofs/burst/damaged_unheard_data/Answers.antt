use Rattle.std.proofs.Common.{◌∙◌, sym, false}
use Rattle.dmr_burst.specs.declared.sync.Side.TheVariants.{Ms}
use Rattle.dmr_damage.proofs.Marked.{same_sync, same_slot_type}
use Rattle.dmr_damage.proofs.burst.damaged_unheard_data.Goals as goal

pub returns : goal.returns
returns c = record {
  damaged = record {
    sync = same_sync (record { side = Ms; voice = false }) c.write_data_sync.new.bits c.write_slot_type.new.bits
        c.write_slot_type.ensures.sync c.write_data_sync.ensures.sync;
    slot_type = λ slot_type has. c.write_slot_type.ensures.slot_type slot_type
        (same_slot_type slot_type c.args.bits.now c.write_data_sync.new.bits c.write_data_sync.ensures.slot_type has);
    unread = λ none. c.write_slot_type.ensures.unread (λ slot_type has. none slot_type
        (same_slot_type slot_type c.write_data_sync.new.bits c.args.bits.now (sym c.write_data_sync.ensures.slot_type) has))
        ∙ c.write_data_sync.ensures.slot_type;
    information = c.write_slot_type.ensures.information ∙ c.write_data_sync.ensures.information;
  };
}
