use Rattle.std.proofs.Common.{◌∙◌, sym}
use Rattle.std.proofs.lemmas.Bool.{not-false}
use Rattle.dmr_voice.proofs.SameLc.{same_lc}
use Rattle.dmr_voice.proofs.superframe.Carrier.take.Goals as goal

pub returns-else-ne : goal.returns-else-ne
returns-else-ne c = record {
  link_control = sym c.self.view_is ∙ same_lc c.self.inside.link_control c.args.link_control
      (not-false _ (sym c.ne.ensures ∙ c.if-ne.false));
}
