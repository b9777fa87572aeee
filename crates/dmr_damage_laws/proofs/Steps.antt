-- What was sent in a slot of a line, place by place, with what was decided for it.
use Rattle.std.proofs.Common.{◌≡◌, ◌⊎◌, inl, inr, ℕ, zero, suc, List, [], ◌∷◌, ◌++◌, replicate, Option, None}
use Rattle.std.proofs.Common.{refl, sym, subst, slice_index_or}
use Rattle.std.specs.List.{AllZip}
use Rattle.dmr_burst.specs.declared.burst.Burst.{Burst}
use Rattle.dmr_hearing.specs.Damage.{IsRecordedAs}
use Rattle.dmr_hearing.specs.Hearing.{Hears}
use Rattle.dmr_hearing.specs.Slots.{Silent, IsHeardAs, silence}
use Rattle.dmr_link.specs.declared.full_lc.FullLc.{FullLc}
use Rattle.dmr_voice.specs.Bursts.{IsSaid}
use Rattle.dmr_voice.specs.CallMeaning.{Cell, meaning}
use Rattle.dmr_voice.specs.CallRules.{said_of}
use Rattle.dmr_voice.specs.Said as content
use Rattle.dmr_voice.specs.Said.{Said, Nothing, Repeat}
use Rattle.dmr_voice.specs.declared.said.VoiceOut.{VoiceOut}
use Rattle.dmr_voice.specs.declared.said.VoiceOut.TheVariants as out
use Rattle.dmr_voice.specs.declared.track.Track.{Track}
use Rattle.dmr_damage.specs.Bursts.{IsDamagedSlot}
use Rattle.dmr_damage.specs.LimitedSlots.{AreFieldsBehind, AreFieldsBehindA, Memory, moved_on}
use Rattle.dmr_damage.specs.Marks.{burst_mark}
use Rattle.dmr_damage_laws.proofs.Cells.{Agrees, IsWritten, silent_written, slot_written}
use Rattle.dmr_damage_laws.proofs.Decided.{ArePlaces, Decided, carried_of, heard_of, slots_of}

-- 1. What was decided, beside what was sent.

-- A slot that the recording has: it was decided by what was sent in it.
pub record IsDue (colour : ℕ) (old : List (Option ℕ)) (c : Cell) (d : Decided) (new : List (Option ℕ)) : Type 0 where
  pub recorded : IsRecordedAs colour c.sent d.slot
  pub here : Hears colour d.slot d.heard
  pub said : VoiceOut
  pub says : IsSaid colour (c.means d.heard.vocoder) said
  pub damaged : IsDamagedSlot colour (burst_mark colour d.heard said) (slice_index_or old 0 None) d.slot d.out
  pub fields : AreFieldsBehind said d.carried old new

-- A slot past the end of the recording: nothing was sent in it.
pub record IsPast (old : List (Option ℕ)) (c : Cell) (d : Decided) (new : List (Option ℕ)) : Type 0 where
  pub silent : c.sent ≡ Silent
  pub slot : d.slot ≡ None
  pub out : d.out ≡ None
  pub fields : new ≡ moved_on old

-- Slot after slot, where these are the fields of the next four places.
abbrev pub AreDue : ℕ → List (Option ℕ) → List Cell → List Decided → Type 0
AreDue colour old [] [] = Unit {0}
AreDue colour old [] (d ∷ ds) = ⊥
AreDue colour old (c ∷ cs) [] = ⊥
AreDue colour old (c ∷ cs) (d ∷ ds) =
    (new : List (Option ℕ)) × (IsDue colour old c d new ⊎ IsPast old c d new) × AreDue colour new cs ds

-- a silent slot past the end of a recording
abbrev pub past : Decided
past = record { slot = None; heard = silence; carried = None; out = None }

past_due : (colour : ℕ) (old : List (Option ℕ)) (cs : List Cell) (m : ℕ)
    → AllZip (λ (c : Cell) slot. IsRecordedAs colour c.sent slot) cs (replicate m None) → AreDue colour old cs (replicate m past)
past_due colour old [] zero p = tt
past_due colour old [] (suc m) p = absurd p
past_due colour old (c ∷ cs) zero p = absurd p
past_due colour old (c ∷ cs) (suc m) p = (
  moved_on old,
  inr (record { silent = p.0.damaged; slot = refl; out = refl; fields = refl }),
  past_due colour (moved_on old) cs m p.1,
)

-- what was decided is due to what was sent, where the rules repeat what that means
pub due : (colour : ℕ) (old : Memory) (cs : List Cell) (ds : List Decided) (m : ℕ)
    → AllZip (λ (c : Cell) slot. IsRecordedAs colour c.sent slot) cs (slots_of ds ++ replicate m None)
    → said_of colour old.state (heard_of ds) (carried_of ds) ≡ meaning cs (heard_of ds) → ArePlaces colour old ds
    → AreDue colour old.fields cs (ds ++ replicate m past)
due colour old cs [] m p same places = past_due colour old.fields cs m p
due colour old [] (d ∷ ds) m p same places = absurd p
due colour old (c ∷ cs) (d ∷ ds) m p same (new, place, more) =
    let head = heads_alike _ _ _ _ same in
    let tail = tails_alike _ _ _ _ same in (
      new.fields,
      inl (record {
        recorded = p.0;
        here = place.here;
        said = place.said;
        says = subst (λ (x : Said). IsSaid colour x place.said) head place.says;
        damaged = place.damaged;
        fields = place.fields;
      }),
      due colour new cs ds m p.1
          (subst (λ (t : Track). said_of colour t (heard_of ds) (carried_of ds) ≡ meaning cs (heard_of ds)) (sym place.state) tail)
          more,
    )
  where
    heads_alike : (a b : Said) (xs ys : List Said) → a ∷ xs ≡ b ∷ ys → a ≡ b
    heads_alike a b xs ys e = cc

    tails_alike : (a b : Said) (xs ys : List Said) → a ∷ xs ≡ b ∷ ys → xs ≡ ys
    tails_alike a b xs ys e = cc

-- 2. What that comes to.

-- What the next four fields are written as behind a slot that means this.
abbrev pub AreFieldsNext : Said → Option FullLc → (old new : List (Option ℕ)) → Type 0
AreFieldsNext Nothing carried old new = new ≡ moved_on old
AreFieldsNext (Repeat (content.Data kind information) role) carried old new = new ≡ moved_on old
AreFieldsNext (Repeat (content.VoiceA vocoder) role) carried old new = AreFieldsBehindA carried old new
AreFieldsNext (Repeat (content.VoiceBToE place pi vocoder lc) role) carried old new = new ≡ moved_on old
AreFieldsNext (Repeat (content.VoiceF pi field vocoder) role) carried old new = new ≡ moved_on old

fields_next : (colour : ℕ) (x : Said) (said : VoiceOut) (carried : Option FullLc) (old new : List (Option ℕ))
    → IsSaid colour x said → AreFieldsBehind said carried old new → AreFieldsNext x carried old new
fields_next colour Nothing said carried old new gives f = subst (λ o. AreFieldsBehind o carried old new) gives f
fields_next colour (Repeat (content.Data kind information) role) said carried old new (b, is, gives) f =
    subst (λ (x : Burst). AreFieldsBehind (out.Repeat x role) carried old new) is
    (subst (λ o. AreFieldsBehind o carried old new) gives f)
fields_next colour (Repeat (content.VoiceA vocoder) role) said carried old new (b, is, gives) f =
    subst (λ (x : Burst). AreFieldsBehind (out.Repeat x role) carried old new) is
    (subst (λ o. AreFieldsBehind o carried old new) gives f)
fields_next colour (Repeat (content.VoiceBToE place pi vocoder lc) role) said carried old new (b, is, gives) f =
    subst (λ (x : Burst). AreFieldsBehind (out.Repeat x role) carried old new) is.2
    (subst (λ o. AreFieldsBehind o carried old new) gives f)
fields_next colour (Repeat (content.VoiceF pi field vocoder) role) said carried old new (b, is, gives) f =
    subst (λ (x : Burst). AreFieldsBehind (out.Repeat x role) carried old new) is
    (subst (λ o. AreFieldsBehind o carried old new) gives f)

-- A slot is written as a recording of what was sent in it, with its field, and means the same; and the fields go on.
pub record IsStep (colour : ℕ) (old : List (Option ℕ)) (c : Cell) (d : Decided) (new : List (Option ℕ)) : Type 0 where
  pub written : IsWritten colour c.sent c.means (slice_index_or old 0 None) d.slot d.out
  pub next : (new ≡ moved_on old) ⊎ AreFieldsNext (c.means d.heard.vocoder) d.carried old new

-- so is each, where what was sent agrees with what it means
pub step : (colour : ℕ) (old : List (Option ℕ)) (c : Cell) (d : Decided) (new : List (Option ℕ)) → Agrees c.sent c.means
    → IsHeardAs c.sent d.heard → IsDue colour old c d new ⊎ IsPast old c d new → IsStep colour old c d new
step colour old c d new agrees heard (inl u) = record {
  written = slot_written colour c.sent c.means (slice_index_or old 0 None) d.slot d.out d.heard u.said agrees u.recorded u.here
      heard u.says u.damaged;
  next = inr (fields_next colour (c.means d.heard.vocoder) u.said d.carried old new u.says u.fields);
}
step colour old c d new agrees heard (inr u) = record {
  written = silent_written colour c.sent c.means (slice_index_or old 0 None) d.slot d.out u.silent u.slot u.out;
  next = inl u.fields;
}
