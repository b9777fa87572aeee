-- One slot of a recording, place by place.
use Rattle.std.specs.Prelude.{◌≡◌, ℕ, List, [], ◌∷◌, ◌++◌, Option, Some, None, drop, length, map, replicate}
use Rattle.std.specs.Prelude.{slice_index_or}
use Rattle.dmr_burst.specs.declared.burst.Burst.TheVariants.{VoiceSync}
use Rattle.dmr_hearing.specs.Fields.{IsReceived}
use Rattle.dmr_hearing.specs.Hearing.{Hears}
use Rattle.dmr_hearing.specs.Recorded.{AreHeard}
use Rattle.dmr_hearing.specs.declared.heard.Heard.{Heard}
use Rattle.dmr_link.specs.declared.full_lc.FullLc.{FullLc}
use Rattle.dmr_record.specs.Uplink.{UplinkSlot}
use Rattle.dmr_voice.specs.Bursts.{IsSaid}
use Rattle.dmr_voice.specs.CallRules.{decide}
use Rattle.dmr_voice.specs.Carried.{IsCarried}
use Rattle.dmr_voice.specs.declared.said.VoiceOut.{VoiceOut}
use Rattle.dmr_voice.specs.declared.said.VoiceOut.TheVariants.{Repeat}
use Rattle.dmr_voice.specs.declared.track.Track.{Track}
use Rattle.dmr_voice.specs.declared.track.Track.TheVariants.{Idle}
use Rattle.dmr_damage.specs.Bursts.{IsDamagedSlot}
use Rattle.dmr_damage.specs.Marks.{burst_mark}

-- What is remembered of a slot: where its calls are, and what the embedded fields of the next four places are written as, where
-- they are damaged.
pub record Memory : Type 0 where
  pub state : Track
  pub fields : List (Option ℕ)

-- At the begin there is no call, and no field is damaged.
abbrev pub fresh_memory : Memory
fresh_memory = record { state = Idle; fields = None ∷ None ∷ None ∷ None ∷ [] }

-- The line of a slot: its colour code, what it remembers, and the six places in hand.
pub record LineState : Type 0 where
  pub colour : ℕ
  pub memory : Memory
  pub slots : List UplinkSlot

-- what the next four fields are written as, a place later
abbrev pub moved_on : List (Option ℕ) → List (Option ℕ)
moved_on fields = drop 1 fields ++ None ∷ []

-- Behind a place A the next four fields are written as those of the link control that they carry, with at most one wrong bit in
-- each row of its table. Where they carry none, they are as they were to be.
abbrev pub AreFieldsBehindA : Option FullLc → (old new : List (Option ℕ)) → Type 0
AreFieldsBehindA None old new = new ≡ moved_on old
AreFieldsBehindA (Some lc) old new =
    (received : List ℕ) × (length received ≡ 4) × IsReceived lc received × (new ≡ map Some received)

-- The same behind a place for which this is repeated.
abbrev pub AreFieldsBehind : VoiceOut → Option FullLc → (old new : List (Option ℕ)) → Type 0
AreFieldsBehind (Repeat (VoiceSync vocoder) role) carried old new = AreFieldsBehindA carried old new
AreFieldsBehind said carried old new = new ≡ moved_on old

-- A slot was decided: it is heard, and so are the five slots that stand behind it. By the rules of calls something is repeated for
-- it, by which it was damaged, and that is remembered.
pub record IsDecided (colour : ℕ) (old : Memory) (slot : UplinkSlot) (ahead : List UplinkSlot) (out : UplinkSlot) (new : Memory)
    : Type 0 where
  pub heard : Heard
  pub later : List Heard
  pub here : Hears colour slot heard
  pub behind : AreHeard colour ahead later
  pub carried : Option FullLc
  pub carries : IsCarried colour later carried
  pub said : VoiceOut
  pub says : IsSaid colour (decide colour old.state heard later carried).0 said
  pub damaged : IsDamagedSlot colour (burst_mark colour heard said) (slice_index_or old.fields 0 None) slot out
  pub state : new.state ≡ (decide colour old.state heard later carried).1
  pub fields : AreFieldsBehind said carried old.fields new.fields

-- Slots of a recording were decided one after another, each with the five slots behind it, and these are left.
abbrev pub Runs : ℕ → Memory → (slots outs : List UplinkSlot) → Memory → (left : List UplinkSlot) → Type 0
Runs colour old slots [] new left = (old ≡ new) × (slots ≡ left)
Runs colour old [] (out ∷ outs) new left = ⊥
Runs colour old (slot ∷ slots) (out ∷ outs) new left =
    (ahead behind : List UplinkSlot) × (mid : Memory) × (length ahead ≡ 5) × (slots ≡ ahead ++ behind)
    × IsDecided colour old slot ahead out mid × Runs colour mid slots outs new left

-- The front of what a slot of a recording is written as within the limits. Past its end a recording is silent.
abbrev pub IsDamagedLine : ℕ → (slots outs : List UplinkSlot) → Type 0
IsDamagedLine colour slots outs =
    (new : Memory) × (left : List UplinkSlot) × Runs colour fresh_memory (slots ++ replicate 5 None) outs new left
