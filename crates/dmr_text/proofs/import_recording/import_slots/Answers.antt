use Rattle.std.proofs.Common.{◌≡◌, ◌+◌, ◌-◌, ◌*◌, inl, inr, ℕ, length, [], ◌∷◌, ◌++◌, Some, ◌∙◌, subst, sym, refl, arith}
use Rattle.std.proofs.Common.{List}
use Rattle.dmr_words.specs.Words.{line_words}
use Rattle.dmr_text.specs.Files.File.{Slots}
use Rattle.dmr_text.specs.TextFaults.{ShowsSlotLineFault}
use Rattle.dmr_text.proofs.Puts.{line_put, line_torn, line_well}
use Rattle.dmr_text.proofs.Silences.{silent}
use Rattle.dmr_text.proofs.SaidSlots.{length_named, length_silent, names_burst, octets_named, says_frames, slots_untold}
use Rattle.dmr_text.proofs.Taken.{broken_behind, stopped_in_line, taken_more, taken_whole, torn_more, torn_whole}
use Rattle.dmr_text.proofs.import_recording.import_slots.Goals as goal

pub loop-fault-init : goal.loop-fault-init
loop-fault-init g c = record {
  source = c.requires.source;
  over = c.requires.over;
  sink = c.requires.sink;
  few = omega arith;
  so_far = ([], refl, slots_untold c.args.recording c.args.lines.now _ _);
}

pub returns-in-Err-clause-fault : goal.returns-in-Err-clause-fault
returns-in-Err-clause-fault g c =
    let (slots, counted, taken) = c.loop-fault.invariant.so_far in
    (slots, inr (broken_behind _ (Slots c.args.recording slots) _ _ _ _ _ _ _ _ taken c.in-Err.ensures.broken))

pub returns-in-Err-slot_line_said-clause-fault : goal.returns-in-Err-slot_line_said-clause-fault
returns-in-Err-slot_line_said-clause-fault g c =
    let (slots, counted, taken) = c.loop-fault.invariant.so_far in
    let shown = rw c.in-Err-slot_line_said.fault-is at c.in-Err-slot_line_said.ensures.fault in (
      slots,
      inl (stopped_in_line (Slots c.args.recording slots) _ _ c.tell_line.new.lines _ _ _ _ _ _ taken c.in_default.ensures.told _
          c.number-line.ensures.value
          (subst (λ (k : ℕ). ShowsSlotLineFault c.args.recording k c.in-Err-slot_line_said.fault
          (line_words c.tell_line.new.lines.line)) (sym counted)
          (subst (λ (l : List ℕ). ShowsSlotLineFault c.args.recording c.loop-fault.count c.in-Err-slot_line_said.fault
          (line_words l))
          c.line.ensures.value shown))),
    )

pub returns-then-is_err-clause-torn : goal.returns-then-is_err-clause-torn
returns-then-is_err-clause-torn g c =
    let (slots, counted, taken) = c.loop-fault.invariant.so_far in
    let of = c.args.recording in
    let number = c.in-Ok-Burst.number in
    let (behind, below, entry, is_burst) = rw c.in-Ok-Burst.field-0-is at c.in-Ok-Burst.ensures.said in
    let n = number - c.loop-fault.count in
    let at : length slots + n ≡ number = omega (arith, counted, behind) in
    let more = silent n ++ Some c.in-Ok-Burst.burst ∷ [] in (
      slots ++ more,
      torn_more (Slots of slots) _ _ c.tell_line.new.lines _ _ _ _ _ _ taken c.in_default.ensures.told
          (Slots of (slots ++ more)) _ _
          (octets_named of slots more)
          (names_burst of slots n number c.in-Ok-Burst.burst _ at below is_burst (rw c.line.ensures.value at entry))
          (line_torn c.write_named.result _ _ _ _ (sym c.is_err.ensures.value ∙ c.if-is_err.true) c.write_named.ensures.torn refl),
    )

pub loop-fault-preserved : goal.loop-fault-preserved
loop-fault-preserved g c =
    let (slots, counted, taken) = c.loop-fault.invariant.so_far in
    let of = c.args.recording in
    let number = c.in-Ok-Burst.number in
    let (behind, below, entry, is_burst) = rw c.in-Ok-Burst.field-0-is at c.in-Ok-Burst.ensures.said in
    let n = number - c.loop-fault.count in
    let at : length slots + n ≡ number = omega (arith, counted, behind) in
    let more = silent n ++ Some c.in-Ok-Burst.burst ∷ [] in
    let ok = sym c.is_err.ensures.value ∙ c.if-is_err.false in
    let long = length_named n slots c.in-Ok-Burst.burst in
    record {
      source = c.in_default.ensures.well;
      over = c.tell_line.ensures.over;
      sink = line_well c.write_named.result _ ok c.write_named.ensures.well;
      few = omega (arith, below);
      so_far = (
        slots ++ more,
        omega (arith, long, at),
        taken_more (Slots of slots) _ _ c.tell_line.new.lines _ _ _ _ _ _ taken c.in_default.ensures.told
            (Slots of (slots ++ more)) _ _
            (octets_named of slots more)
            (names_burst of slots n number c.in-Ok-Burst.burst _ at below is_burst (rw c.line.ensures.value at entry))
            (line_put c.write_named.result _ _ _ _ ok c.write_named.ensures.slots refl),
      );
    }

pub returns-then-is_err-2-clause-torn : goal.returns-then-is_err-2-clause-torn
returns-then-is_err-2-clause-torn g c =
    let (slots, counted, taken) = c.loop-fault.invariant.so_far in
    let of = c.args.recording in
    let frames = c.in-Ok-Last.frames in
    let (behind, within, count) = rw c.in-Ok-Last.field-0-is at c.in-Ok-Last.ensures.said in
    let n = 2 * frames - c.loop-fault.count in
    let even : length slots + n ≡ 2 * frames = omega (arith, counted, behind) in (
      slots ++ silent n,
      torn_whole (Slots of slots) _ _ c.tell_line.new.lines _ _ _ _ _ _ taken c.in_default.ensures.told
          (Slots of (slots ++ silent n)) _ _
          (octets_named of slots (silent n))
          (says_frames of slots n frames _ even within (rw c.line.ensures.value at count))
          (line_torn c.write_silence.result _ _ _ _ (sym c.is_err-in-Ok-Last.ensures.value ∙ c.if-is_err-2.true)
          c.write_silence.ensures.torn refl),
    )

pub returns-in-Ok-Last-clause-all : goal.returns-in-Ok-Last-clause-all
returns-in-Ok-Last-clause-all g c =
    let (slots, counted, taken) = c.loop-fault.invariant.so_far in
    let of = c.args.recording in
    let frames = c.in-Ok-Last.frames in
    let (behind, within, count) = rw c.in-Ok-Last.field-0-is at c.in-Ok-Last.ensures.said in
    let n = 2 * frames - c.loop-fault.count in
    let even : length slots + n ≡ 2 * frames = omega (arith, counted, behind) in
    let long = length_silent n slots in (
      slots ++ silent n,
      sym (long ∙ even),
      taken_whole (Slots of slots) _ _ c.tell_line.new.lines _ _ _ _ _ _ taken c.in_default.ensures.told
          (Slots of (slots ++ silent n)) _ _
          (octets_named of slots (silent n))
          (says_frames of slots n frames _ even within (rw c.line.ensures.value at count))
          (line_put c.write_silence.result _ _ _ _ (sym c.is_err-in-Ok-Last.ensures.value ∙ c.if-is_err-2.false)
          c.write_silence.ensures.slots refl),
    )
