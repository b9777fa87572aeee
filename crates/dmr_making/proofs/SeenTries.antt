-- The slots of tries and of data bursts are seen as what is sent in them.
use Rattle.std.proofs.Common.{◌≡◌, ℕ, Bool, true, false, List, [], ◌∷◌, ◌++◌, map, drop, length, replicate}
use Rattle.std.proofs.Common.{refl, ap, sym, ◌∙◌, subst, Option, Some, None}
use Rattle.std.specs.List.{AllZip, AllByRecursion}
use Rattle.dmr_bits.specs.Bits.{bits_of_octets}
use Rattle.dmr_burst.specs.DataTypes as data_type
use Rattle.dmr_data.proofs.Existing.{length-sent}
use Rattle.dmr_data.specs.Block.{IsWrittenBlock}
use Rattle.dmr_data.specs.declared.block.Block.{Block as DataBlock}
use Rattle.dmr_data.specs.declared.rate.Rate.{Rate}
use Rattle.dmr_data.specs.declared.rate.Rate.TheVariants.{Half, Full}
use Rattle.dmr_making.specs.Information.{kind_at_rate}
use Rattle.dmr_hearing.specs.Slots.{SentSlot, Silent, Data}
use Rattle.dmr_making.proofs.Seen.{IsPlain, all_seen, all_sent, all_append, call_seen}
use Rattle.dmr_making.specs.Calls.{slots_sent}
use Rattle.dmr_making.specs.Controls.{control_slot, csbk_control, lone_control, IsLoneInformation}
use Rattle.dmr_making.specs.Information.{IsCsbkInformation}
use Rattle.dmr_making.specs.Packets.{status_try}
use Rattle.dmr_making.specs.Fit.{IsFitRaw}
use Rattle.dmr_making.specs.Seen.{AreSeenAs, IsSeenAs}
use Rattle.dmr_making.specs.Senders.{IsSendable}
use Rattle.dmr_making.specs.Sends.{Transmitted, SendsSaid, SendsTry, SendsAgain, one_burst}
use Rattle.dmr_making.specs.Tries.{TryForms, preamble_of, counts_down, block_slots, blocks_with, try_slots}
use Rattle.dmr_making.specs.Tries.{transmission_of_try}
use Rattle.dmr_making.specs.declared.tries.SentTry.{SentTry}
use Rattle.dmr_script.specs.declared.control.LoneBurst.{LoneBurst}
use Rattle.dmr_script.specs.declared.control.LoneBurst.TheVariants as lone
use Rattle.dmr_script.specs.declared.packet.Again.{Again}
use Rattle.dmr_script.specs.declared.packet.Again.TheVariants as again
use Rattle.dmr_script.specs.declared.packet.PacketTry.{PacketTry}
use Rattle.dmr_script.specs.declared.statement.Transmission.{Transmission as Said}
use Rattle.dmr_script.specs.declared.statement.Transmission.TheVariants as said
use Rattle.dmr_voice.specs.CallMeaning.{Control, DataTry}

-- 1. Tries.

-- what the blocks of a try send
sent_blocks : (colour : ℕ) (header : List Bool) (rate : Rate) (presence : List Bool) (forms : List (List Bool))
    → slots_sent colour (DataTry [] header (blocks_with rate presence forms))
    ≡ Data data_type.data_header header None ∷ block_slots rate presence forms
sent_blocks colour header rate [] forms = refl
sent_blocks colour header rate (b ∷ bs) [] = refl
sent_blocks colour header rate (true ∷ bs) (f ∷ fs) =
    ap (λ (l : List SentSlot). Data data_type.data_header header None ∷ Data (kind_at_rate rate) f None ∷ drop 1 l)
    (sent_blocks colour header rate bs fs)
sent_blocks colour header rate (false ∷ bs) (f ∷ fs) =
    ap (λ (l : List SentSlot). Data data_type.data_header header None ∷ Silent ∷ drop 1 l) (sent_blocks colour header rate bs fs)

-- a block
block_plain : (colour : ℕ) (rate : Rate) (block : DataBlock) (bits : List Bool) → IsWrittenBlock rate block bits
    → IsPlain colour (Data (kind_at_rate rate) bits None)
block_plain colour Half block bits w = (w.content, w.sent, refl)
block_plain colour Full block bits w = (length-sent Full block bits w, refl)

blocks_plain : (colour : ℕ) (rate : Rate) (presence : List Bool) (blocks : List DataBlock) (forms : List (List Bool))
    → AllZip (λ block information. IsWrittenBlock rate block information) blocks forms
    → AllByRecursion (IsPlain colour) (block_slots rate presence forms)
blocks_plain colour rate [] blocks forms p = tt
blocks_plain colour rate (b ∷ bs) blocks [] p = tt
blocks_plain colour rate (b ∷ bs) [] (f ∷ fs) p = absurd p
blocks_plain colour rate (true ∷ bs) (x ∷ blocks) (f ∷ fs) p =
    (block_plain colour rate x f p.0, blocks_plain colour rate bs blocks fs p.1)
blocks_plain colour rate (false ∷ bs) (x ∷ blocks) (f ∷ fs) p = (tt, blocks_plain colour rate bs blocks fs p.1)

preambles_plain : (colour : ℕ) (t : SentTry) (lefts : List ℕ) (forms : List (List Bool))
    → AllZip (λ left information. IsCsbkInformation (preamble_of t left) information) lefts forms
    → AllByRecursion (IsPlain colour) (map (λ (information : List Bool). Data data_type.csbk information None) forms)
preambles_plain colour t [] [] p = tt
preambles_plain colour t [] (f ∷ fs) p = absurd p
preambles_plain colour t (l ∷ lefts) [] p = absurd p
preambles_plain colour t (l ∷ lefts) (f ∷ fs) p =
    ((p.0.message, p.0.block.sealed, p.0.written, refl), preambles_plain colour t lefts fs p.1)

-- all slots of a try
sent_try : (colour : ℕ) (t : SentTry) (before : ℕ) (presence : List Bool) (forms : TryForms)
    → slots_sent colour (transmission_of_try t before presence forms) ≡ try_slots t before presence forms
sent_try colour t before presence forms = by_preambles forms.preambles
  where
    by_preambles : (csbks : List (List Bool))
        → slots_sent colour (DataTry csbks forms.header (blocks_with t.rate presence forms.blocks))
        ≡ map (λ (information : List Bool). Data data_type.csbk information None) csbks
        ++ (Data data_type.data_header forms.header None ∷ block_slots t.rate presence forms.blocks)
    by_preambles [] = sent_blocks colour forms.header t.rate presence forms.blocks
    by_preambles (c ∷ csbks) = ap (λ (l : List SentSlot). Data data_type.csbk c None ∷ l) (by_preambles csbks)

try_seen : (colour : ℕ) (t : SentTry) (before : ℕ) (presence : List Bool) (sent : Transmitted) → SendsTry t before presence sent
    → AreSeenAs colour sent
try_seen colour t before presence sent p =
    let slots : List SentSlot = try_slots t before presence p.forms in
    let csbks : List SentSlot = map (λ (information : List Bool). Data data_type.csbk information None) p.forms.preambles in
    let header : SentSlot = Data data_type.data_header p.forms.header None in
    let is = p.forms_are in
    let plain : AllByRecursion (IsPlain colour) slots =
    all_append (IsPlain colour) csbks (header ∷ block_slots t.rate presence p.forms.blocks)
    (preambles_plain colour t (counts_down before (length presence)) p.forms.preambles is.preambles) (
      (is.header.message, is.header.form.sealed, is.header.written, refl),
      blocks_plain colour t.rate presence t.blocks p.forms.blocks is.blocks,
    ) in
    subst (AreSeenAs colour) (sym p.is) (record {
      seen = subst (λ (l : List SentSlot). AllZip IsSeenAs l slots) (sym (sent_try colour t before presence p.forms))
          (all_seen colour slots plain);
      may_be_sent = all_sent colour slots plain;
    })

-- 2. Data bursts by themselves.

one_seen : (colour : ℕ) (control : Control) (sent : Transmitted) → sent ≡ one_burst control → IsPlain colour (control_slot control)
    → AreSeenAs colour sent
one_seen colour control sent e plain =
    let slots : List SentSlot = control_slot control ∷ [] in
    subst (AreSeenAs colour) (sym e) (record {
      seen = all_seen colour slots (plain, tt);
      may_be_sent = all_sent colour slots (plain, tt);
    })

lone_plain : (colour : ℕ) (burst : LoneBurst) (information : List Bool) → IsLoneInformation burst information
    → IsFitRaw burst → IsPlain colour (control_slot (lone_control burst information))
lone_plain colour (lone.Terminator lc) information p raw = (lc, p.message, p.sealed, p.written, refl)
lone_plain colour (lone.PiHeader octets) information p raw = (bits_of_octets octets, p, refl)
lone_plain colour (lone.MbcHeader octets) information p raw = (bits_of_octets octets, p, refl)
lone_plain colour (lone.MbcBlock octets) information p raw = (bits_of_octets octets, p, refl)
lone_plain colour (lone.UnifiedBlock octets) information p raw = (bits_of_octets octets, p, refl)
lone_plain colour (lone.RateHalf octets) information p raw = (bits_of_octets octets, p, refl)
lone_plain colour (lone.RateThreeQuarters bits) information p raw = (ap (λ (l : List Bool). length l) p ∙ raw, refl)
lone_plain colour (lone.RateOne bits) information p raw = (ap (λ (l : List Bool). length l) p ∙ raw, refl)

-- 3. All of them.

again_seen : (colour : ℕ) (p : PacketTry) (a : Again) (sent : Transmitted) → SendsAgain p a sent → AreSeenAs colour sent
again_seen colour p (again.Full None) sent s = try_seen colour s.0 0 (replicate (length p.shape.blocks.items) true) sent s.2
again_seen colour p (again.Full (Some shape)) sent s = try_seen colour s.0 shape.preambles shape.blocks.items sent s.2
again_seen colour p (again.Partial partial) sent s =
    try_seen colour s.0 partial.shape.preambles partial.shape.blocks.items sent s.2

-- The slots of a transmission that may be sent are seen as what it means.
pub all_seen_as : (colour : ℕ) (last : Option PacketTry) (t : Said) (sent : Transmitted) → IsSendable last t
    → SendsSaid colour last t sent
    → AreSeenAs colour sent
all_seen_as colour last (said.Call call) sent fit s =
    subst (AreSeenAs colour) (sym s.is) (call_seen colour call s.forms call.shape.start s.forms_are fit.start)
all_seen_as colour last (said.Packet p) sent fit s = try_seen colour s.0 p.shape.preambles p.shape.blocks.items sent s.2
all_seen_as colour None (said.Again a) sent fit s = absurd s
all_seen_as colour (Some p) (said.Again a) sent fit s = again_seen colour p a sent s
all_seen_as colour last (said.ShortData d) sent fit s = try_seen colour s.0 d.shape.preambles d.shape.blocks.items sent s.2
all_seen_as colour last (said.Status d) sent fit s = try_seen colour (status_try d) d.shape.preambles d.shape.blocks.items sent s
all_seen_as colour last (said.Answer a) sent fit s = try_seen colour s.0 a.shape.preambles a.shape.blocks.items sent s.2
all_seen_as colour last (said.Control csbk) sent fit s =
    one_seen colour (csbk_control s.0) sent s.2 (s.1.message, s.1.block.sealed, s.1.written, refl)
all_seen_as colour last (said.Burst burst) sent fit s =
    one_seen colour (lone_control burst s.0) sent s.2 (lone_plain colour burst s.0 s.1 fit.raw)
