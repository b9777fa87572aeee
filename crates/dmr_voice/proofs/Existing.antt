-- What the rules say of what is whole is whole, and there is a burst that stands for it.
use Rattle.std.proofs.Common.{◌≡◌, ℕ, ◌^◌, ◌<◌, Bool, true, false, List, [], ◌∷◌, length, replicate, Option, Some, None}
use Rattle.std.proofs.Common.{slice_index_or, refl, sym, subst, arith, lit<, inl, inr}
use Rattle.std.specs.Prelude.{◌==◌, ◌&&◌, ◌||◌, if◌then◌else◌}
use Rattle.std.specs.List.{All}
use Rattle.std.proofs.lemmas.List.{length-replicate}
use Rattle.std.proofs.lemmas.List.Elements.{All-get_or, All-head}
use Rattle.std.proofs.lemmas.Bool.{cases_Bool}
use Rattle.dmr_burst.specs.Burst.{IsBurst, HasWholeLists}
use Rattle.dmr_burst.specs.declared.burst.Burst.{Burst}
use Rattle.dmr_burst.specs.declared.burst.Burst.TheVariants as burst
use Rattle.dmr_hearing.specs.Parts.{pi_of, is_absent}
use Rattle.dmr_hearing.specs.declared.heard.DataBurst.{DataBurst}
use Rattle.dmr_hearing.specs.declared.heard.Heard.{Heard}
use Rattle.dmr_hearing.proofs.Whole.{IsWholeLc, IsWholeData, IsWholeHeard, read_from_whole, carrier_somehow}
use Rattle.dmr_link.specs.declared.full_lc.FullLc.{FullLc}
use Rattle.dmr_voice.specs.Bursts.{IsField, IsBurstWith}
use Rattle.dmr_voice.specs.CallRules.{role_after, on_data, if_data, at_place, heard_place, nothing_repeated, after_header, decide}
use Rattle.dmr_voice.specs.CallRules.{step_of}
use Rattle.dmr_voice.specs.Carried.{is_carrying, IsCarried}
use Rattle.dmr_voice.proofs.Fitting.{low_lcss}
use Rattle.dmr_voice.specs.Places.{next, lcss, field_number, voice_of, option_or}
use Rattle.dmr_voice.specs.Window.{is_heard, all_absent, voice_comes, own_comes}
use Rattle.dmr_voice.specs.declared.place.Place.{Place}
use Rattle.dmr_voice.specs.declared.place.Place.TheVariants.{A, B, C, D, E, F}
use Rattle.dmr_voice.specs.Said.{Content, Data, VoiceA, VoiceBToE, VoiceF, Said, Nothing, Repeat}
use Rattle.dmr_voice.specs.declared.said.Role.{Role}
use Rattle.dmr_voice.specs.declared.said.Role.TheVariants.{Call, Other}
use Rattle.dmr_voice.specs.declared.track.Header.{Header}
use Rattle.dmr_voice.specs.declared.track.Track.{Track}
use Rattle.dmr_voice.specs.declared.track.Track.TheVariants.{Idle, AfterHeader, Gap, InCall}

-- ---- what is whole
-- What is repeated has lists as long as the fields of a burst, and numbers that fit.
abbrev pub IsWholeContent : Content → Type 0
IsWholeContent (Data kind information) = (kind < 16) × (length information ≡ 196)
IsWholeContent (VoiceA vocoder) = length vocoder ≡ 216
IsWholeContent (VoiceBToE place pi vocoder lc) = (length vocoder ≡ 216) × IsWholeLc lc
IsWholeContent (VoiceF pi field vocoder) = (field < 2 ^ 32) × (length vocoder ≡ 216)

-- A link control that a role has is whole.
abbrev pub IsWholeRole : Role → Type 0
IsWholeRole (Call lc) = IsWholeLc lc
IsWholeRole Other = Unit {0}

-- What is repeated is whole, its content and its role.
abbrev pub IsWholeSaid : Said → Type 0
IsWholeSaid Nothing = Unit {0}
IsWholeSaid (Repeat content role) = IsWholeContent content × IsWholeRole role

-- So does what a track remembers.
abbrev pub IsWholeTrack : Track → Type 0
IsWholeTrack Idle = Unit {0}
IsWholeTrack (AfterHeader header) = (length header.information ≡ 196) × IsWholeLc header.link_control
IsWholeTrack (Gap header) = (length header.information ≡ 196) × IsWholeLc header.link_control
IsWholeTrack (InCall place call superframe) = IsWholeLc call × IsWholeLc superframe

-- A decision with the state after it.
abbrev pub IsWholeStep : Said × Track → Type 0
IsWholeStep step = IsWholeSaid step.0 × IsWholeTrack step.1

-- ---- a step
either : {A : Type 0} (P : A → Type 0) (b : Bool) (x y : A) → P x → P y → P (if b then x else y)
either P true x y p q = p
either P false x y p q = q

else_whole : (a b : Option FullLc) → IsWholeLc a → IsWholeLc b → IsWholeLc (option_or a b)
else_whole (Some lc) b p q = p
else_whole None b p q = q

voice_whole : (lc : Option FullLc) → IsWholeLc lc → IsWholeLc (voice_of lc)
voice_whole None p = tt
voice_whole (Some lc) p = either IsWholeLc ((lc.flco == 0) || (lc.flco == 3)) (Some lc) None p tt

role_after_whole : (before : Track) → IsWholeTrack before → IsWholeRole (role_after before)
role_after_whole Idle p = tt
role_after_whole (AfterHeader header) p = p.1
role_after_whole (Gap header) p = tt
role_after_whole (InCall place call superframe) p = tt

data_whole : (before : Track) (data_burst : DataBurst) → IsWholeTrack before → IsWholeData (Some data_burst)
    → IsWholeStep (on_data before data_burst)
data_whole before data_burst p q = (
  (
    (q.0, q.1),
    either IsWholeRole ((data_burst.kind == 1) || (data_burst.kind == 2)) (Call data_burst.link_control)
        (if data_burst.kind == 0 then role_after before else Other) q.2
        (either IsWholeRole (data_burst.kind == 0) (role_after before) Other (role_after_whole before p) tt),
  ),
  either IsWholeTrack (data_burst.kind == 1)
      (AfterHeader (record { information = data_burst.information; link_control = data_burst.link_control }))
      (if data_burst.kind == 0 then before else Idle) (q.1, q.2) (either IsWholeTrack (data_burst.kind == 0) before Idle p tt),
)

if_data_whole : (data_burst : Option DataBurst) (before : Track) (other : Said × Track) → IsWholeTrack before
    → IsWholeData data_burst → IsWholeStep other → IsWholeStep (if_data data_burst before other)
if_data_whole None before other p q r = r
if_data_whole (Some data_burst) before other p q r = data_whole before data_burst p q

place_whole : (place : Place) (call superframe : Option FullLc) (pi : Bool) (field : ℕ) (vocoder : List Bool)
    (carried : Option FullLc) → IsWholeLc call → IsWholeLc superframe → IsWholeLc carried → field < 2 ^ 32 → length vocoder ≡ 216
    → IsWholeStep (at_place place call superframe pi field vocoder carried)
place_whole A call superframe pi field vocoder carried p q r f v =
    let known : IsWholeLc (option_or call (voice_of carried)) = else_whole call (voice_of carried) p (voice_whole carried r) in
    ((v, known), (known, else_whole carried (option_or call (voice_of carried)) r known))
place_whole B call superframe pi field vocoder carried p q r f v = (((v, q), p), (p, q))
place_whole C call superframe pi field vocoder carried p q r f v = (((v, q), p), (p, q))
place_whole D call superframe pi field vocoder carried p q r f v = (((v, q), p), (p, q))
place_whole E call superframe pi field vocoder carried p q r f v = (((v, q), p), (p, q))
place_whole F call superframe pi field vocoder carried p q r f v = (((f, v), p), (p, q))

heard_place_whole : (place : Place) (call superframe : Option FullLc) (here : Heard) (carried : Option FullLc) → IsWholeLc call
    → IsWholeLc superframe → IsWholeHeard here → IsWholeLc carried → IsWholeStep (heard_place place call superframe here carried)
heard_place_whole place call superframe here carried p q h r =
    place_whole place call superframe (pi_of here.emb) here.embedded here.vocoder carried p q r h.embedded h.vocoder

header_whole : (colour : ℕ) (header : Header) (here : Heard) (ahead : List Heard) (carried : Option FullLc)
    → length header.information ≡ 196 → IsWholeLc header.link_control → IsWholeHeard here → IsWholeLc carried
    → IsWholeStep (after_header colour header here ahead carried)
header_whole colour header here ahead carried long p h r =
    either IsWholeStep here.voice (heard_place A header.link_control None here carried) _
    (heard_place_whole A header.link_control None here carried p tt h r)
    (either IsWholeStep (is_absent colour here && voice_comes colour ahead) _ nothing_repeated (((lit< tt, long), p), (long, p))
    (tt, tt))

decide_whole : (colour : ℕ) (state : Track) (here : Heard) (ahead : List Heard) (carried : Option FullLc)
    → IsWholeTrack state → IsWholeHeard here → IsWholeLc carried → IsWholeStep (decide colour state here ahead carried)
decide_whole colour Idle here ahead carried p q r =
    if_data_whole here.data_burst Idle _ tt q.data_burst
    (either IsWholeStep (here.voice && own_comes colour ahead) _ nothing_repeated
    (heard_place_whole A None None here carried tt tt q r) (tt, tt))
decide_whole colour (AfterHeader header) here ahead carried p q r =
    if_data_whole here.data_burst (AfterHeader header) _ p q.data_burst
    (header_whole colour header here ahead carried p.0 p.1 q r)
decide_whole colour (Gap header) here ahead carried p q r = header_whole colour header here ahead carried p.0 p.1 q r
decide_whole colour (InCall place call superframe) here ahead carried p q r =
    either IsWholeStep (is_heard colour place here) _ _
    (heard_place_whole place call superframe here carried p.0 p.1 q r)
    (if_data_whole here.data_burst Idle _ tt q.data_burst
    (either IsWholeStep (all_absent colour (next place) ahead) nothing_repeated _ (tt, tt)
    (place_whole place call superframe false 0 (replicate 216 false) carried p.0 p.1 r (lit< tt)
    (length-replicate {A = Bool} 216 false))))

-- what the rules say of whole places is whole, and so is what a track remembers then
pub step_whole : (colour : ℕ) (state : Track) (window : List Heard) (carried : Option FullLc) → IsWholeTrack state
    → All IsWholeHeard window → IsWholeLc carried → IsWholeStep (step_of colour state window carried)
step_whole colour state [] carried p q r = (tt, tt)
step_whole colour state (here ∷ ahead) carried p q r =
    decide_whole colour state here ahead carried p (All-head IsWholeHeard here ahead q) r

-- What places carry is whole.
pub carried_whole : (colour : ℕ) (ahead : List Heard) (carried : Option FullLc) → IsCarried colour ahead carried
    → IsWholeLc carried
carried_whole colour ahead carried is =
    elim (cases_Bool (is_carrying colour ahead)) [
      | inl carrying ↦ read_from_whole _ carried (is.read carrying)
      | inr other ↦ subst IsWholeLc (sym (is.nothing other)) tt
    ]

-- ---- bursts
low_field : (place : Place) → field_number place < 4
low_field A = lit< tt
low_field B = lit< tt
low_field C = lit< tt
low_field D = lit< tt
low_field E = lit< tt
low_field F = lit< tt

-- There is an embedded field for a place,
field_somehow : (place : Place) (lc : Option FullLc) → IsWholeLc lc → (field : ℕ) × IsField place lc field × (field < 2 ^ 32)
field_somehow place None whole = (0, refl, lit< tt)
field_somehow place (Some lc) whole =
    let (fields, carrier) = carrier_somehow lc whole in
    let number : ℕ = field_number place in
    let inside : number < length fields = (let four = carrier.four in let low = low_field place in omega arith) in (
      slice_index_or fields number 0,
      (fields, carrier, refl),
      All-get_or (λ field. field < 2 ^ 32) fields number 0 inside
          carrier.narrow,
    )

-- and a burst for what is repeated, which can be sent.
pub record IsWholeBurst (b : Burst) : Type 0 where
  pub fit : IsBurst b
  pub long : HasWholeLists b

-- for all that is repeated and is whole there is a burst, which is whole
pub burst_somehow : (colour : ℕ) (content : Content) → colour < 16 → IsWholeContent content
    → (b : Burst) × IsBurstWith colour content b × IsWholeBurst b
burst_somehow colour (Data kind information) low whole =
    (burst.Data colour kind information, refl, record { fit = (low, whole.0); long = whole.1 })
burst_somehow colour (VoiceA vocoder) low whole = (burst.VoiceSync vocoder, refl, record { fit = tt; long = whole })
burst_somehow colour (VoiceBToE place pi vocoder lc) low whole =
    let (field, is, narrow) = field_somehow place lc whole.1 in (
      burst.Voice (record { colour = colour; pi = pi; lcss = lcss place lc }) field vocoder,
      (field, is, refl),
      record { fit = (low, low_lcss place lc); long = (narrow, whole.0) },
    )
burst_somehow colour (VoiceF pi field vocoder) low whole = (
  burst.Voice (record { colour = colour; pi = pi; lcss = 0 }) field vocoder,
  refl,
  record { fit = (low, lit< tt); long = whole },
)
