-- What is decided of the oldest of six places.
use Rattle.std.proofs.Common.{◌≡◌, ℕ, List, [], ◌∷◌, Option, None, length, ◌<◌, get_or, drop, sym, subst, arith}
use Rattle.dmr_hearing.specs.Hearing.{Hears}
use Rattle.dmr_hearing.specs.Recorded.{AreHeard}
use Rattle.dmr_hearing.specs.declared.heard.Heard.{Heard}
use Rattle.dmr_link.specs.declared.full_lc.FullLc.{FullLc}
use Rattle.dmr_record.specs.Uplink.{UplinkSlot}
use Rattle.dmr_voice.proofs.Carrying.{one_carried}
use Rattle.dmr_voice.specs.Bursts.{IsSaid}
use Rattle.dmr_voice.specs.CallRules.{step_of}
use Rattle.dmr_voice.specs.Carried.{IsCarried}
use Rattle.dmr_voice.specs.declared.said.VoiceOut.{VoiceOut}
use Rattle.dmr_damage.specs.Bursts.{IsDamagedSlot}
use Rattle.dmr_damage.specs.LimitedSlots.{AreFieldsBehind, IsDecided, Memory}
use Rattle.dmr_damage.specs.Marks.{burst_mark}

-- the first of six places is heard
pub first_heard : (colour : ℕ) (slots : List UplinkSlot) (hs : List Heard) (here : Heard) → 0 < length slots
    → AreHeard colour slots hs → get_or hs 0 here ≡ here → Hears colour (get_or slots 0 None) here
first_heard colour [] hs here some are e = absurd (omega arith)
first_heard colour (s ∷ slots) [] here some are e = absurd are
first_heard colour (s ∷ slots) (h ∷ hs) here some are e = subst (Hears colour s) e are.0

-- what the track says of the first place is decided
pub decided_first : (colour : ℕ) (memory new : Memory) (slots : List UplinkSlot) (hs : List Heard) (here : Heard)
    (carried : Option FullLc) (said : VoiceOut) (out : UplinkSlot) → 0 < length slots → AreHeard colour slots hs
    → get_or hs 0 here ≡ here → IsCarried colour (drop 1 hs) carried
    → ((k : Option FullLc) × IsCarried colour (drop 1 hs) k × IsSaid colour (step_of colour memory.state hs k).0 said)
    → new.state ≡ (step_of colour memory.state hs carried).1
    → IsDamagedSlot colour (burst_mark colour here said) (get_or memory.fields 0 None) (get_or slots 0 None) out
    → AreFieldsBehind said carried memory.fields new.fields
    → IsDecided colour memory (get_or slots 0 None) (drop 1 slots) out new
decided_first colour memory new [] hs here carried said out some are e carries says state damaged fields = absurd (omega arith)
decided_first colour memory new (s ∷ slots) [] here carried said out some are e carries says state damaged fields = absurd are
decided_first colour memory new (s ∷ slots) (h ∷ hs) here carried said out some are e carries says state damaged fields = record {
  heard = h;
  later = hs;
  here = are.0;
  behind = are.1;
  carried = carried;
  carries = carries;
  said = said;
  says = subst (λ k. IsSaid colour (step_of colour memory.state (h ∷ hs) k).0 said)
      (one_carried colour hs says.0 carried says.1 carries) says.2;
  damaged = subst (λ x. IsDamagedSlot colour (burst_mark colour x said) (get_or memory.fields 0 None) s out) (sym e) damaged;
  state = state;
  fields = fields;
}
