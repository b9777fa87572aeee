use Rattle.std.proofs.Common.{All, sym, subst}
use Rattle.std.proofs.lemmas.List.Elements.{All-drop}
use Rattle.circular_buffer.specs.Buffer.{Buffer}
use Rattle.dmr_gateway.specs.Fit.{IsFitQueued}
use Rattle.dmr_gateway.specs.declared.queue.Queued.{Queued}
use Rattle.dmr_gateway.proofs.outbox.OutboxState.take.Goals as goal

pub returns-in-Some-clause-kept : goal.returns-in-Some-clause-kept
returns-in-Some-clause-kept c =
    record {
      queue = subst (λ (b : Buffer Queued). All IsFitQueued b.items) (sym c.drop_first.ensures.rest)
          (All-drop IsFitQueued 1 c.args.self.now.queue.items c.requires.kept.queue);
      owed = c.requires.kept.owed;
    }
