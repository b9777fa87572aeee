use Rattle.std.proofs.Common.{◌+◌, ◌≤◌, inl, inr, ℕ, length, [], ◌∷◌, ◌++◌, take, ap, ◌∙◌, subst, sym, refl, arith}
use Rattle.std.proofs.Common.{append-nil, List}
use Rattle.std.proofs.lemmas.List.{length_push}
use Rattle.std.proofs.KnownBytes.{Appends-nil}
use Rattle.dmr_words.specs.Words.{line_words}
use Rattle.dmr_record.specs.Outgoing.{Sending, last_frame, sending_octets, sendings_octets, whole_sending}
use Rattle.dmr_text.specs.Files.File.{Sendings}
use Rattle.dmr_text.specs.TextFaults.{ShowsSendingLineFault}
use Rattle.dmr_text.proofs.Puts.{line_put, line_torn, line_well}
use Rattle.dmr_text.proofs.Sendings.{last_more, octets_more}
use Rattle.dmr_text.proofs.SaidSendings.{names_sending, says_sendings, sendings_untold}
use Rattle.dmr_text.proofs.Taken.{broken_behind, stopped_in_line, taken_more, taken_whole, torn_more}
use Rattle.dmr_text.proofs.import_outgoing.import_sendings.Goals as goal

pub loop-fault-init : goal.loop-fault-init
loop-fault-init g c = record {
  source = c.requires.source;
  over = c.requires.over;
  sink = c.requires.sink;
  room = c.requires.room;
  few = omega arith;
  so_far = ([], refl, refl, sendings_untold c.args.lines.now _ _);
}

pub returns-in-Err-clause-fault : goal.returns-in-Err-clause-fault
returns-in-Err-clause-fault g c =
    let (sendings, counted, frame, taken) = c.loop-fault.invariant.so_far in
    (sendings, inr (broken_behind _ (Sendings sendings) _ _ _ _ _ _ _ _ taken c.in-Err.ensures.broken))

pub returns-in-Err-sending_line_said-clause-fault : goal.returns-in-Err-sending_line_said-clause-fault
returns-in-Err-sending_line_said-clause-fault g c =
    let (sendings, counted, frame, taken) = c.loop-fault.invariant.so_far in
    let fault = c.in-Err-sending_line_said.fault in
    let shown = rw c.in-Err-sending_line_said.fault-is at c.in-Err-sending_line_said.ensures.fault in (
      sendings,
      inl (stopped_in_line (Sendings sendings) _ _ c.tell_line.new.lines _ _ _ _ _ _ taken c.in_default.ensures.told _
          c.number-line.ensures.value
          (subst (λ (k : ℕ). ShowsSendingLineFault k (last_frame 0 sendings) fault (line_words c.tell_line.new.lines.line))
          (sym counted)
          (subst (λ (f : ℕ). ShowsSendingLineFault c.loop-fault.count f fault (line_words c.tell_line.new.lines.line)) (sym frame)
          (subst (λ (l : List ℕ). ShowsSendingLineFault c.loop-fault.count c.loop-fault.last fault (line_words l))
          c.line.ensures.value shown)))),
    )

pub returns-then-is_err-clause-torn : goal.returns-then-is_err-clause-torn
returns-then-is_err-clause-torn g c =
    let (sendings, counted, frame, taken) = c.loop-fault.invariant.so_far in
    let (below, behind, whole, says, is_sending) = rw c.in-Ok-Sending.field-0-is at c.in-Ok-Sending.ensures.said in
    let read = c.in-Ok-Sending.sending in
    let next : Sending = whole_sending read (take read.length c.sending_line_said.new.room) in
    let few : length sendings + 1 ≤ 1048576 = omega (arith, counted, below) in
    let later : last_frame 0 sendings ≤ next.frame = omega (arith, frame, behind) in
    let same = ap (λ (k : ℕ). sending_octets (whole_sending read (take k c.sending_line_said.new.room))) c.from.ensures in (
      sendings ++ next ∷ [],
      torn_more (Sendings sendings) _ _ c.tell_line.new.lines _ _ _ _ _ _ taken c.in_default.ensures.told
          (Sendings (sendings ++ next ∷ []))
          _ _ (octets_more sendings next)
          (names_sending sendings next _ (omega (arith, few)) is_sending later (rw c.line.ensures.value at says))
          (line_torn c.write_outgoing.result _ _ _ _
          (sym c.is_err.ensures.value ∙ c.if-is_err.true) c.write_outgoing.ensures.torn same),
    )

pub loop-fault-preserved : goal.loop-fault-preserved
loop-fault-preserved g c =
    let (sendings, counted, frame, taken) = c.loop-fault.invariant.so_far in
    let (below, behind, whole, says, is_sending) = rw c.in-Ok-Sending.field-0-is at c.in-Ok-Sending.ensures.said in
    let read = c.in-Ok-Sending.sending in
    let next : Sending = whole_sending read (take read.length c.sending_line_said.new.room) in
    let few : length sendings + 1 ≤ 1048576 = omega (arith, counted, below) in
    let later : last_frame 0 sendings ≤ next.frame = omega (arith, frame, behind) in
    let same = ap (λ (k : ℕ). sending_octets (whole_sending read (take k c.sending_line_said.new.room))) c.from.ensures in
    let ok = sym c.is_err.ensures.value ∙ c.if-is_err.false in
    let more = length_push sendings next in
    record {
      source = c.in_default.ensures.well;
      over = c.tell_line.ensures.over;
      sink = line_well c.write_outgoing.result _ ok c.write_outgoing.ensures.well;
      room = c.sending_line_said.auto.room ∙ c.loop-fault.invariant.room;
      few = omega (arith, below);
      so_far = (
        sendings ++ next ∷ [],
        omega (arith, more, counted),
        last_more 0 sendings next,
        taken_more (Sendings sendings) _ _ c.tell_line.new.lines _ _ _ _ _ _ taken c.in_default.ensures.told
            (Sendings (sendings ++ next ∷ [])) _ _ (octets_more sendings next)
            (names_sending sendings next _ (omega (arith, few)) is_sending later (rw c.line.ensures.value at says))
            (line_put c.write_outgoing.result _ _ _ _ ok c.write_outgoing.ensures.sending same),
      );
    }

pub returns-in-Ok-Last-clause-all : goal.returns-in-Ok-Last-clause-all
returns-in-Ok-Last-clause-all g c =
    let (sendings, counted, frame, taken) = c.loop-fault.invariant.so_far in
    let is = rw c.in-Ok-Last.field-0-is at c.in-Ok-Last.ensures.said in (
      sendings,
      sym counted,
      taken_whole (Sendings sendings) _ _ c.tell_line.new.lines _ _ _ _ _ _ taken c.in_default.ensures.told (Sendings sendings) [] _
          (sym (append-nil (sendings_octets sendings)))
          (says_sendings sendings c.loop-fault.count _ counted (rw c.line.ensures.value at is))
          (Appends-nil _),
    )
