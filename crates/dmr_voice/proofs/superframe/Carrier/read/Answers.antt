use Rattle.std.proofs.Common.{◌≡◌, ◌∙◌, sym}
use Rattle.std.specs.Cmp.Lexicographic.{same_text}
use Rattle.dmr_voice.proofs.Carrying.{carrier_is_read}
use Rattle.dmr_voice.proofs.superframe.Carrier.read.Goals as goal

pub returns-then-eq : goal.returns-then-eq
returns-then-eq c =
    let same : c.args.fields.now ≡ c.self.inside.fields = same_text _ _ (sym c.if-eq.true ∙ c.eq.ensures) in
    record {
      read = rw same (carrier_is_read c.self.inside.link_control c.self.inside.fields c.self.invariant.1 c.self.invariant.0);
    }
