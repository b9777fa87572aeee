use Rattle.std.proofs.Common.{◌+◌, ℕ, [], ◌∷◌, None, arith, refl, subst}
use Rattle.dmr_record.specs.Downlink.{downlink_octets}
use Rattle.dmr_station.specs.DownlinkRules.{silent_frame}
use Rattle.dmr_station.specs.Station.{State, IsExchanged}
use Rattle.dmr_repeater.proofs.Fronts.{torn_front}
use Rattle.dmr_repeater.proofs.Silent.{counted_silence, none_offered, past_before, sends_no_silence, sends_silence}
use Rattle.dmr_repeater.proofs.silence.repeat_silence.Goals as goal

pub returns-then-not-may_repeat-clause-sends : goal.returns-then-not-may_repeat-clause-sends
returns-then-not-may_repeat-clause-sends g c =
    sends_no_silence c.args.station.now c.args.schedule.now _ _

pub pass_silence-requires-in-Err-clause-frames : goal.pass_silence-requires-in-Err-clause-frames
pass_silence-requires-in-Err-clause-frames g c =
    let count = counted_silence _ _ _ c.pass_silence.ensures.exchanged in
    let few = c.copy_silence-copied.ensures.few in
    let most = c.may_repeat.ensures.few c.if-not-may_repeat.false in
    let at = c.requires.frames in
    omega (arith, count, few, most, at)

pub returns-in-Ok-clause-sends : goal.returns-in-Ok-clause-sends
returns-in-Ok-clause-sends g c =
    let n : ℕ = c.copy_silence-copied.result.frames in
    let past = rw (← c.requires.frames) at (c.may_repeat.ensures.past c.if-not-may_repeat.false) in
    let written = rw c.in-Ok.is at c.copy_silence-copied.ensures.written in
    sends_silence n c.args.station.now c.pass_silence.new.self c.args.schedule.now _ _ _ _ c.copy_silence-copied.ensures.few past
    c.pass_silence.ensures.exchanged c.copy_silence-copied.ensures.passed written

pub returns-in-Ok-clause-frames : goal.returns-in-Ok-clause-frames
returns-in-Ok-clause-frames g c =
    let count = counted_silence _ _ _ c.pass_silence.ensures.exchanged in
    let at = c.requires.frames in
    omega (arith, count, at)

pub returns-in-Ok-clause-offered : goal.returns-in-Ok-clause-offered
returns-in-Ok-clause-offered g c = none_offered _ _ _ c.pass_silence.ensures.exchanged

pub returns-in-Err-clause-torn : goal.returns-in-Err-clause-torn
returns-in-Err-clause-torn g c =
    let n : ℕ = c.copy_silence-copied.result.frames in
    let few = c.copy_silence-copied.ensures.few in
    let past = rw (← c.requires.frames) at (c.may_repeat.ensures.past c.if-not-may_repeat.false) in
    let torn = rw c.in-Err.is at c.copy_silence-copied.ensures.torn in
    let between : State = c.pass_silence.new.self in
    let count = counted_silence n _ between c.pass_silence.ensures.exchanged in
    let (ready, next, same, exchanged, received, rest) = c.pass_silence-in-Err.ensures.exchanged in (
      refl,
      record {
        count = n;
        between = between;
        held = torn.between;
        sends = sends_silence n c.args.station.now between c.args.schedule.now _ _ _ _ few past
            c.pass_silence.ensures.exchanged c.copy_silence-copied.ensures.passed torn.whole;
        past = past_before between.frames (c.args.station.now.frames + 32) c.args.schedule.now (omega (arith, count, few)) past;
        torn = λ received. record {
          records = None ∷ None ∷ [];
          next = next;
          exchanged = subst (λ (s : State). IsExchanged s silent_frame (None ∷ None ∷ []) next) same exchanged;
          written = (torn_front (downlink_octets (None ∷ None ∷ [])) _ _ torn.torn, refl);
        };
      },
    )
