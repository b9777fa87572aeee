-- What a script sends is well formed.
use Rattle.std.proofs.Common.{◌≡◌, ℕ, zero, suc, ◌<◌, ◌≤◌, ◌%◌, Bool, true, false, nat_lt, List, [], ◌∷◌, Option, Some, None, All}
use Rattle.std.proofs.Common.{arith, refl, ap, subst, sym, drop, length, replicate}
use Rattle.std.specs.List.{AllByRecursion}
use Rattle.dmr_data.specs.declared.rate.Rate.{Rate}
use Rattle.dmr_data.specs.declared.rate.Rate.TheVariants.{Half, Full}
use Rattle.dmr_link.specs.FullLc.{FitsFullLc}
use Rattle.dmr_making.specs.Calls.{AreFormsOf, CallForms, call_ending, headed_call, started_call, superframes_from}
use Rattle.dmr_making.specs.Controls.{csbk_control, lone_control}
use Rattle.dmr_making.specs.Sends.{SendsAgain, SendsSaid, Transmitted, one_burst}
use Rattle.dmr_making.specs.Tries.{blocks_with}
use Rattle.dmr_planning.proofs.Superframes.{all_of_call, ending_by, ends_well, presence_is, within_of}
use Rattle.dmr_script.specs.Fits.{FitsCarried, FitsTransmission}
use Rattle.dmr_script.specs.Shapes.{IsCallShape, IsStart, begins_there, is_unbroken, there_within}
use Rattle.dmr_script.specs.declared.call.Call.{Call}
use Rattle.dmr_script.specs.declared.control.LoneBurst.{LoneBurst}
use Rattle.dmr_script.specs.declared.control.LoneBurst.TheVariants as lone
use Rattle.dmr_script.specs.declared.packet.Again.{Again}
use Rattle.dmr_script.specs.declared.packet.Again.TheVariants as again
use Rattle.dmr_script.specs.declared.packet.PacketTry.{PacketTry}
use Rattle.dmr_script.specs.declared.shape.CallStart.{CallStart}
use Rattle.dmr_script.specs.declared.shape.CallStart.TheVariants as start
use Rattle.dmr_script.specs.declared.shape.Headers.{Headers}
use Rattle.dmr_script.specs.declared.statement.Transmission.{Transmission as Said}
use Rattle.dmr_script.specs.declared.statement.Transmission.TheVariants as said
use Rattle.dmr_voice.specs.CallMeaning.{Control, Controls, DataTry, Ending, LateCall}
use Rattle.dmr_voice.specs.WellFormed.{EndsWell, IsReadableSuperframe, IsTransmission, Within, presence}

-- 1. Calls.

ending_same : (forms : CallForms) (n : ℕ) → ending_by n forms.terminator ≡ call_ending forms n
ending_same forms zero = refl
ending_same forms (suc more) = refl

begins_within : (b : Bool) (bs : List Bool) → begins_there (b ∷ bs) ≡ true → Within 1 (b ∷ bs)
begins_within true bs e = tt
begins_within false bs e = absurd (cc)

-- what holds of the voice of a call with these places
record IsVoice (call : Call) (forms : CallForms) (bs : List Bool) : Type 0 where
  first : Within 1 (presence (superframes_from call forms.fields 0 bs))
  readable : AllByRecursion IsReadableSuperframe (superframes_from call forms.fields 0 bs)
  ends : EndsWell (superframes_from call forms.fields 0 bs) (call_ending forms call.shape.terminators)

voice_well : (call : Call) (forms : CallForms) (b : Bool) (bs : List Bool) → begins_there (b ∷ bs) ≡ true
    → is_unbroken (nat_lt 0 call.shape.terminators) (b ∷ bs) ≡ true
    → (0 < call.shape.terminators → length (b ∷ bs) % 6 ≡ 0) → AreFormsOf call forms → FitsFullLc call.link_control
    → All FitsCarried call.carried.items → IsVoice call forms (b ∷ bs)
voice_well call forms b bs begins unbroken whole are own all = record {
  first = subst (Within 1) (sym (presence_is call forms.fields 0 (b ∷ bs))) (begins_within b bs begins);
  readable = all_of_call call forms.fields (b ∷ bs) are.fields own all;
  ends = subst (λ (e : Ending). EndsWell (superframes_from call forms.fields 0 (b ∷ bs)) e)
      (ending_same forms call.shape.terminators)
      (ends_well call forms.fields b bs call.shape.terminators forms.terminator unbroken whole);
}

headed_well : (colour : ℕ) (call : Call) (forms : CallForms) (h : Headers) (places : List Bool) → IsStart (start.Headers h) places
    → begins_there places ≡ true → is_unbroken (nat_lt 0 call.shape.terminators) places ≡ true
    → (0 < call.shape.terminators → length places % 6 ≡ 0) → AreFormsOf call forms → FitsFullLc call.link_control
    → All FitsCarried call.carried.items → IsTransmission colour (headed_call call forms h places)
headed_well colour call forms h [] s begins unbroken whole are own all = tt
headed_well colour call forms h (b ∷ bs) s begins unbroken whole are own all =
    let v : IsVoice call forms (b ∷ bs) = voice_well call forms b bs begins unbroken whole are own all in
    (s.0, v.first, v.readable, v.ends)

late_well : (colour : ℕ) (call : Call) (forms : CallForms) (tail places : List Bool) → length tail ≤ 5
    → there_within 5 false (drop 1 places) ≡ true → begins_there places ≡ true
    → is_unbroken (nat_lt 0 call.shape.terminators) places ≡ true
    → (0 < call.shape.terminators → length places % 6 ≡ 0) → AreFormsOf call forms → FitsFullLc call.link_control
    → All FitsCarried call.carried.items
    → IsTransmission colour (LateCall call.link_control tail (superframes_from call forms.fields 0 places)
    (call_ending forms call.shape.terminators))
late_well colour call forms tail [] le within begins unbroken whole are own all = absurd (cc)
late_well colour call forms tail (b ∷ bs) le within begins unbroken whole are own all =
    let v : IsVoice call forms (b ∷ bs) = voice_well call forms b bs begins unbroken whole are own all in (
      le,
      v.first,
      subst (λ (l : List Bool). Within 5 (drop 1 l)) (sym (presence_is call forms.fields 0 (b ∷ bs))) (within_of 5 bs within),
      v.readable,
      v.ends,
    )

started_well : (colour : ℕ) (call : Call) (forms : CallForms) (s : CallStart) → IsStart s call.shape.places.items
    → IsCallShape call.shape → AreFormsOf call forms → FitsFullLc call.link_control → All FitsCarried call.carried.items
    → IsTransmission colour (started_call call forms s)
started_well colour call forms (start.Headers h) s shape are own all =
    headed_well colour call forms h call.shape.places.items s shape.first shape.unbroken shape.whole are own all
started_well colour call forms (start.Late tail) s shape are own all =
    late_well colour call forms tail.items call.shape.places.items s.0 s.1 shape.first shape.unbroken shape.whole are own all

-- 2. Tries.

blocks_well : (colour : ℕ) (csbks : List (List Bool)) (header : List Bool) (rate : Rate) (there : List Bool)
    → (forms : List (List Bool)) → IsTransmission colour (DataTry csbks header (blocks_with rate there forms))
blocks_well colour csbks header rate [] forms = tt
blocks_well colour csbks header rate (b ∷ bs) [] = tt
blocks_well colour csbks header Half (true ∷ bs) (f ∷ fs) =
    ((0, omega arith, refl), blocks_well colour csbks header Half bs fs)
blocks_well colour csbks header Full (true ∷ bs) (f ∷ fs) =
    ((2, omega arith, refl), blocks_well colour csbks header Full bs fs)
blocks_well colour csbks header rate (false ∷ bs) (f ∷ fs) = (tt, blocks_well colour csbks header rate bs fs)

try_well : (colour : ℕ) (sent : Transmitted) (csbks : List (List Bool)) (header : List Bool) (rate : Rate) (there : List Bool)
    → (forms : List (List Bool)) → sent.transmission ≡ DataTry csbks header (blocks_with rate there forms)
    → IsTransmission colour sent.transmission
try_well colour sent csbks header rate there forms e =
    subst (IsTransmission colour) (sym e) (blocks_well colour csbks header rate there forms)

again_well : (colour : ℕ) (p : PacketTry) (a : Again) (sent : Transmitted) → SendsAgain p a sent
    → IsTransmission colour sent.transmission
again_well colour p (again.Full None) sent s =
    try_well colour sent s.2.forms.preambles s.2.forms.header s.0.rate (replicate (length p.shape.blocks.items) true)
    s.2.forms.blocks (ap (λ (x : Transmitted). x.transmission) s.2.is)
again_well colour p (again.Full (Some shape)) sent s =
    try_well colour sent s.2.forms.preambles s.2.forms.header s.0.rate shape.blocks.items s.2.forms.blocks
    (ap (λ (x : Transmitted). x.transmission) s.2.is)
again_well colour p (again.Partial partial) sent s =
    try_well colour sent s.2.forms.preambles s.2.forms.header s.0.rate partial.shape.blocks.items s.2.forms.blocks
    (ap (λ (x : Transmitted). x.transmission) s.2.is)

-- 3. Data bursts by themselves.

lone_well : (colour : ℕ) (burst : LoneBurst) (information : List Bool)
    → IsTransmission colour (Controls (lone_control burst information ∷ []))
lone_well colour (lone.Terminator lc) information = ((1, omega arith, refl), tt)
lone_well colour (lone.PiHeader octets) information = ((0, omega arith, refl), tt)
lone_well colour (lone.MbcHeader octets) information = ((3, omega arith, refl), tt)
lone_well colour (lone.MbcBlock octets) information = ((4, omega arith, refl), tt)
lone_well colour (lone.UnifiedBlock octets) information = ((8, omega arith, refl), tt)
lone_well colour (lone.RateHalf octets) information = ((5, omega arith, refl), tt)
lone_well colour (lone.RateThreeQuarters bits) information = ((6, omega arith, refl), tt)
lone_well colour (lone.RateOne bits) information = ((7, omega arith, refl), tt)

one_well : (colour : ℕ) (control : Control) (sent : Transmitted) → sent ≡ one_burst control
    → IsTransmission colour (Controls (control ∷ [])) → IsTransmission colour sent.transmission
one_well colour control sent e w = subst (λ (x : Transmitted). IsTransmission colour x.transmission) (sym e) w

-- 4. All of them.

-- A transmission that fits and whose link controls fit is well formed.
pub said_well : (colour : ℕ) (last : Option PacketTry) (t : Said) (sent : Transmitted) → FitsTransmission t
    → SendsSaid colour last t sent → IsTransmission colour sent.transmission
said_well colour last (said.Call c) sent fit s =
    subst (λ (x : Transmitted). IsTransmission colour x.transmission) (sym s.is)
    (started_well colour c s.forms c.shape.start fit.shape.start fit.shape s.forms_are fit.link_control fit.carried)
said_well colour last (said.Packet p) sent fit s =
    try_well colour sent s.2.forms.preambles s.2.forms.header s.0.rate p.shape.blocks.items s.2.forms.blocks
    (ap (λ (x : Transmitted). x.transmission) s.2.is)
said_well colour None (said.Again a) sent fit s = absurd s
said_well colour (Some p) (said.Again a) sent fit s = again_well colour p a sent s
said_well colour last (said.ShortData d) sent fit s =
    try_well colour sent s.2.forms.preambles s.2.forms.header s.0.rate d.shape.blocks.items s.2.forms.blocks
    (ap (λ (x : Transmitted). x.transmission) s.2.is)
said_well colour last (said.Status d) sent fit s =
    try_well colour sent s.forms.preambles s.forms.header Half d.shape.blocks.items s.forms.blocks
    (ap (λ (x : Transmitted). x.transmission) s.is)
said_well colour last (said.Answer a) sent fit s =
    try_well colour sent s.2.forms.preambles s.2.forms.header s.0.rate a.shape.blocks.items s.2.forms.blocks
    (ap (λ (x : Transmitted). x.transmission) s.2.is)
said_well colour last (said.Control csbk) sent fit s =
    one_well colour (csbk_control s.0) sent s.2 ((2, omega arith, refl), tt)
said_well colour last (said.Burst burst) sent fit s =
    one_well colour (lone_control burst s.0) sent s.2 (lone_well colour burst s.0)
