use Rattle.std.proofs.Common.{rules, ◌≡◌}
use Rattle.dmr_burst.specs.declared.sync.Side.TheVariants.{Bs, Ms}
use Rattle.dmr_dmrd.proofs.Syncs.{mobile_apart, none_read, station_read}
use Rattle.dmr_dmrd.proofs.sync.station_voice.Goals as goal

pub returns-in-Some-Bs : goal.returns-in-Some-Bs
returns-in-Some-Bs c =
    let side : c.in-Some-Bs.field-0.side ≡ Bs = search rules in record {
      value = station_read c.args.burst.now c.in-Some-Bs.field-0 side c.in-Some-Bs.ensures.within c.in-Some-Bs.ensures.only;
    }

pub returns-in-Some-Ms : goal.returns-in-Some-Ms
returns-in-Some-Ms c =
    let side : c.in-Some-Ms.field-0.side ≡ Ms = search rules in record {
      value = none_read c.args.burst.now _ c.in-Some-Ms.ensures.only (mobile_apart c.in-Some-Ms.field-0 side);
    }

pub returns-in-None : goal.returns-in-None
returns-in-None c = record { value = none_read c.args.burst.now _ c.in-None.ensures.only (λ voice is. cc is) }
