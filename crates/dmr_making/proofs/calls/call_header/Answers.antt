use Rattle.std.proofs.Common.{Some, sym, subst}
use Rattle.dmr_making.specs.Calls.{header_slot}
use Rattle.dmr_making.specs.Made.{IsMade}
use Rattle.dmr_script.specs.declared.shape.HeaderKind.{HeaderKind}
use Rattle.dmr_making.proofs.calls.call_header.Goals as goal

pub returns-in-Voice : goal.returns-in-Voice
returns-in-Voice c = record {
  slot = λ frame forms p.
      subst (λ (k : HeaderKind). IsMade c.args.colour frame (header_slot c.args.call.now forms k) (Some c.lc_burst.result))
      (sym c.in-Voice.is) (c.lc_burst.ensures.burst forms.header p.header);
}

pub returns-in-Privacy : goal.returns-in-Privacy
returns-in-Privacy c = record {
  slot = λ frame forms p.
      subst (λ (k : HeaderKind). IsMade c.args.colour frame (header_slot c.args.call.now forms k) (Some c.pi_header_burst.result))
      (sym c.in-Privacy.is) (c.pi_header_burst.ensures.burst forms.pi_header p.pi_header);
}
