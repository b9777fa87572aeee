-- A transmission of a script sends as many slots as are planned for it.
use Rattle.std.proofs.Common.{◌≡◌, ℕ, zero, suc, ◌+◌, Bool, true, List, [], ◌∷◌, map, length, replicate, flat_map}
use Rattle.std.proofs.Common.{Option, Some, None, refl, ap, ◌∙◌, arith}
use Rattle.std.proofs.lemmas.List.{length-append, length-map, length-replicate}
use Rattle.std.proofs.lemmas.Slice.Zip.{AllZip-long}
use Rattle.std.specs.List.{sum}
use Rattle.dmr_burst.specs.DataTypes as data_type
use Rattle.dmr_data.specs.Block.{IsWrittenBlock}
use Rattle.dmr_data.specs.declared.rate.Rate.{Rate}
use Rattle.dmr_hearing.specs.Slots.{SentSlot, Data}
use Rattle.dmr_making.proofs.CallSlots.{sent_late}
use Rattle.dmr_making.proofs.OtherTries.{answer_fits, short_data_fits, status_fits}
use Rattle.dmr_making.proofs.Superframes.{length_voice}
use Rattle.dmr_making.proofs.TryFits.{full_try_fits, partial_try_fits}
use Rattle.dmr_making.specs.Calls.{CallForms, late_call, slots_sent, slots_with, superframe_slots}
use Rattle.dmr_making.specs.Calls.{superframes_from, tail_slots, voice_slots}
use Rattle.dmr_making.specs.Fit.{IsFitStart}
use Rattle.dmr_making.specs.Information.{IsCsbkInformation}
use Rattle.dmr_making.specs.Packets.{status_try}
use Rattle.dmr_making.specs.Senders.{IsSendable}
use Rattle.dmr_making.specs.Sends.{SendsAgain, SendsSaid, SendsTry, Transmitted, one_burst}
use Rattle.dmr_making.specs.Tries.{AreTryForms, TryForms, block_slots, counts_down, preamble_of, try_slots}
use Rattle.dmr_making_laws.proofs.CallSlots.{ends_of, front_length, front_of, headed_is, length_tail}
use Rattle.dmr_planning.specs.Counting.{again_count, slot_count, start_count}
use Rattle.dmr_script.specs.declared.call.Call.{Call}
use Rattle.dmr_script.specs.declared.packet.Again.{Again}
use Rattle.dmr_script.specs.declared.packet.Again.TheVariants as again
use Rattle.dmr_script.specs.declared.packet.PacketTry.{PacketTry}
use Rattle.dmr_script.specs.declared.shape.CallStart.{CallStart}
use Rattle.dmr_script.specs.declared.shape.CallStart.TheVariants as start
use Rattle.dmr_script.specs.declared.statement.Transmission.{Transmission as Said}
use Rattle.dmr_script.specs.declared.statement.Transmission.TheVariants as said
use Rattle.dmr_voice.specs.CallMeaning.{Control}

-- 1. Calls.

voice_length : (colour : ℕ) (call : Call) (forms : CallForms)
    → length (voice_slots colour call forms) ≡ length call.shape.places.items + call.shape.terminators
voice_length colour call forms =
    let places : List Bool = call.shape.places.items in
    let a = length-append (flat_map (superframe_slots colour) (superframes_from call forms.fields 0 places)) (ends_of call forms) in
    let b = length_voice colour call forms.fields 0 places in
    let c = length-replicate call.shape.terminators
    (Data data_type.terminator_with_lc forms.terminator (Some call.link_control)) in
    omega (arith, a, b, c)

call_length : (colour : ℕ) (call : Call) (forms : CallForms) (s : CallStart) → IsFitStart s
    → length (slots_with colour call forms s)
    ≡ sum (start_count s call.shape.places.items ∷ length call.shape.places.items ∷ call.shape.terminators ∷ [])
call_length colour call forms (start.Headers h) fit =
    let a = ap (λ (l : List SentSlot). length l) (headed_is colour call forms h) in
    let b = length-append (front_of call forms h) (voice_slots colour call forms) in
    let c = front_length call forms h in
    let d = voice_length colour call forms in
    omega (arith, a, b, c, d)
call_length colour call forms (start.Late tail) fit =
    let a = length-append (tail_slots colour call forms tail.items) (slots_sent colour (late_call call forms [])) in
    let b = length_tail colour call forms tail.items fit in
    let c = ap (λ (l : List SentSlot). length l) (sent_late colour call forms) in
    let d = voice_length colour call forms in
    omega (arith, a, b, c, d)

-- 2. Tries.

length_counts : (n b : ℕ) → length (counts_down n b) ≡ n
length_counts zero b = refl
length_counts (suc n) b = let k = length_counts n b in omega (arith, k)

length_blocks : (rate : Rate) (presence : List Bool) (forms : List (List Bool)) → length forms ≡ length presence
    → length (block_slots rate presence forms) ≡ length presence
length_blocks rate [] forms e = refl
length_blocks rate (b ∷ bs) [] e = absurd (omega (arith, e))
length_blocks rate (b ∷ bs) (f ∷ fs) e = let k = length_blocks rate bs fs (omega (arith, e)) in omega (arith, k)

try_length : (t : _) (n : ℕ) (presence : List Bool) (forms : TryForms) → AreTryForms t n presence forms
    → length t.blocks ≡ length presence → length (try_slots t n presence forms) ≡ n + 1 + length presence
try_length t n presence forms are count =
    let csbks : List SentSlot = map (λ (information : List Bool). Data data_type.csbk information None) forms.preambles in
    let rest : List SentSlot = Data data_type.data_header forms.header None ∷ block_slots t.rate presence forms.blocks in
    let a = length-append csbks rest in
    let b = length-map forms.preambles (λ (information : List Bool). Data data_type.csbk information None) in
    let c = AllZip-long (λ left information. IsCsbkInformation (preamble_of t left) information) (counts_down n (length presence))
    forms.preambles are.preambles in
    let d = length_counts n (length presence) in
    let e = AllZip-long (λ block information. IsWrittenBlock t.rate block information) t.blocks forms.blocks are.blocks in
    let f = length_blocks t.rate presence forms.blocks (e ∙ count) in
    omega (arith, a, b, c, d, f)

try_sent : (t : _) (n : ℕ) (presence : List Bool) (sent : Transmitted) → SendsTry t n presence sent
    → length t.blocks ≡ length presence → length sent.slots ≡ n + 1 + length presence
try_sent t n presence sent s count =
    ap (λ (x : Transmitted). length x.slots) s.is ∙ try_length t n presence s.forms s.forms_are count

again_length : (p : PacketTry) (a : Again) (sent : Transmitted) → IsSendable (Some p) (said.Again a) → SendsAgain p a sent
    → length sent.slots ≡ again_count p a
again_length p (again.Full None) sent fit s =
    let all : List Bool = replicate (length p.shape.blocks.items) true in
    let long : length all ≡ length p.shape.blocks.items = length-replicate (length p.shape.blocks.items) true in
    let counted = fit.0.shape.counted in
    let k = try_sent s.0 0 all sent s.2 (full_try_fits p s.0 0 all fit.0 s.1 long (omega (arith, long, counted))).count in
    omega (arith, k, long)
again_length p (again.Full (Some shape)) sent fit s =
    let k = try_sent s.0 shape.preambles shape.blocks.items sent s.2
    (full_try_fits p s.0 shape.preambles shape.blocks.items fit.0 s.1 fit.1.count fit.1.counted).count in
    omega (arith, k)
again_length p (again.Partial partial) sent fit s =
    let k = try_sent s.0 partial.shape.preambles partial.shape.blocks.items sent s.2
    (partial_try_fits p partial s.0 fit.0 fit.1.0 s.1).count in
    omega (arith, k)

-- 3. All of them.

one_length : (control : Control) (sent : Transmitted) → sent ≡ one_burst control → length sent.slots ≡ 1
one_length control sent e = ap (λ (x : Transmitted). length x.slots) e

-- What is sent of a transmission has as many slots as are counted.
pub sent_length : (colour : ℕ) (last : Option PacketTry) (t : Said) (sent : Transmitted) → IsSendable last t
    → SendsSaid colour last t sent → length sent.slots ≡ slot_count t last
sent_length colour last (said.Call c) sent fit s =
    ap (λ (x : Transmitted). length x.slots) s.is ∙ call_length colour c s.forms c.shape.start fit.start
sent_length colour last (said.Packet p) sent fit s =
    let k = try_sent s.0 p.shape.preambles p.shape.blocks.items sent s.2
    (full_try_fits p s.0 p.shape.preambles p.shape.blocks.items fit s.1 refl fit.shape.counted).count in
    omega (arith, k)
sent_length colour None (said.Again a) sent fit s = absurd s
sent_length colour (Some p) (said.Again a) sent fit s = again_length p a sent fit s
sent_length colour last (said.ShortData d) sent fit s =
    let k = try_sent s.0 d.shape.preambles d.shape.blocks.items sent s.2 (short_data_fits d s.0 fit s.1).count in omega (arith, k)
sent_length colour last (said.Status d) sent fit s =
    let k = try_sent (status_try d) d.shape.preambles d.shape.blocks.items sent s (status_fits d fit).count in omega (arith, k)
sent_length colour last (said.Answer a) sent fit s =
    let k = try_sent s.0 a.shape.preambles a.shape.blocks.items sent s.2 (answer_fits a s.0 fit s.1).count in omega (arith, k)
sent_length colour last (said.Control csbk) sent fit s = one_length _ sent s.2
sent_length colour last (said.Burst lone) sent fit s = one_length _ sent s.2
