use Rattle.std.proofs.Common.{◌≡◌, [], ◌++◌, take, refl, inr, sym, subst, ◌∙◌}
use Rattle.std.proofs.lemmas.Result.{IfErr-weaker, IfOk-weaker}
use Rattle.std.proofs.KnownBytes.{Consumes-trans}
use Rattle.dmr_capture.specs.Blocks.{IsCaptureBlock, ShowsFaultInBlock, section_type}
use Rattle.dmr_capture.specs.State.{fresh_pcapng}
use Rattle.dmr_capture.proofs.Blocks.{section_fault}
use Rattle.dmr_capture.proofs.capture.Capture.begin.Goals as goal

pub returns-in-Some-OfPcapng-clause-head : goal.returns-in-Some-OfPcapng-clause-head
returns-in-Some-OfPcapng-clause-head g c =
    let (four, took, stands, count) = c.in_default.ensures.octets in
    let magic = rw c.in-Some-OfPcapng.field-0-is at c.in-Some-OfPcapng.ensures.some in
    let section : four ≡ section_type = sym stands ∙ magic in
    IfOk-weaker c.begin_pcapng.result _ _ (λ capture (more, next, block). (
      four ++ more,
      Consumes-trans _ _ _ four more took next,
      inr (
        subst (λ f. take 4 (f ++ more) ≡ section_type) (sym section) refl,
        subst (λ f. IsCaptureBlock fresh_pcapng (f ++ more) capture []) stands block,
      ),
    )) c.begin_pcapng.ensures.head

pub returns-in-Some-OfPcapng-clause-fault : goal.returns-in-Some-OfPcapng-clause-fault
returns-in-Some-OfPcapng-clause-fault g c =
    let (four, took, stands, count) = c.in_default.ensures.octets in
    let magic = rw c.in-Some-OfPcapng.field-0-is at c.in-Some-OfPcapng.ensures.some in
    let section : four ≡ section_type = sym stands ∙ magic in
    IfErr-weaker c.begin_pcapng.result _ _ (λ e (more, next, shown). (
      four ++ more,
      Consumes-trans _ _ _ four more took next,
      section_fault e (four ++ more) (subst (λ f. take 4 (f ++ more) ≡ section_type) (sym section) refl)
          (subst (λ f. ShowsFaultInBlock fresh_pcapng e (f ++ more)) stands shown),
    )) c.begin_pcapng.ensures.fault
