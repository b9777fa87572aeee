use Rattle.std.proofs.Common.{◌≡◌, Bool, true, false, sym, ◌∙◌, subst}
use Rattle.dmr_bptc.specs.ProductWord.{IsWritten}
use Rattle.dmr_checks.specs.Sealed.{IsSealed}
use Rattle.dmr_hearing.proofs.Payloads.{sealed_read, sealed_unread, unsealed_unread}
use Rattle.dmr_hearing.proofs.information.read_sealed.Goals as goal

not_both : (b : Bool) → b ≡ true → b ≡ false → ⊥
not_both b e f = let bad : true ≡ false = sym e ∙ f in cc

pub returns-in_default : goal.returns-in_default
returns-in_default c = record { reading = sealed_unread c.args.mask c.args.kind c.args.received.now c.in_default.ensures.decoded }

pub returns-then-not-opens : goal.returns-then-not-opens
returns-then-not-opens c = record {
  reading = unsealed_unread c.args.mask c.args.kind c.args.received.now c.in-Some.restored.information c.in-Some.ensures.decoded
      (λ sealed. not_both c.opens.result (c.opens.ensures.sealed.1
      (subst (IsSealed c.args.mask) (sym c.octets.ensures.value) sealed)) c.if-not-opens.true);
}

pub returns : goal.returns
returns c = record {
  reading = sealed_read c.args.mask c.args.kind c.args.received.now c.in-Some.restored.information c.word_data_burst.result
      c.in-Some.ensures.decoded
      (subst (IsSealed c.args.mask) c.octets.ensures.value (c.opens.ensures.sealed.0 c.if-not-opens.false))
      (record {
        kind_is = c.word_data_burst.ensures.kind;
        encoded = subst (IsWritten c.in-Some.restored.information) (sym c.word_data_burst.ensures.information)
            c.in-Some.ensures.written;
        plain = c.word_data_burst.ensures.link_control;
      });
}
