-- What the slots of a transmission of a script send, by its kind.
use Rattle.std.proofs.Common.{◌≡◌, ℕ, Bool, true, false, List, [], ◌∷◌, map, length, replicate}
use Rattle.std.proofs.Common.{Option, Some, None, subst, sym}
use Rattle.std.specs.List.{AllByRecursion}
use Rattle.dmr_burst.specs.DataTypes as data_type
use Rattle.dmr_data.specs.declared.rate.Rate.{Rate}
use Rattle.dmr_hearing.specs.Slots.{SentSlot, Silent, Data, VoiceSync, Voice, ForeignVoice, ForeignData, CutOff}
use Rattle.dmr_making.proofs.Seen.{all_append}
use Rattle.dmr_making.specs.Controls.{csbk_control, lone_control}
use Rattle.dmr_making.specs.Packets.{status_try}
use Rattle.dmr_making.specs.Sends.{SendsAgain, SendsSaid, SendsTry, Transmitted, one_burst}
use Rattle.dmr_making.specs.Tries.{block_slots}
use Rattle.dmr_making_laws.proofs.Told.{IsNoSync}
use Rattle.dmr_script.specs.declared.packet.Again.{Again}
use Rattle.dmr_script.specs.declared.packet.Again.TheVariants as again
use Rattle.dmr_script.specs.declared.packet.PacketTry.{PacketTry}
use Rattle.dmr_script.specs.declared.statement.Transmission.{Transmission as Said}
use Rattle.dmr_script.specs.declared.statement.Transmission.TheVariants as said
use Rattle.dmr_voice.specs.CallMeaning.{Control}

-- 1. Data and silence.

-- a data burst is sent, or nothing
abbrev pub IsDataOrSilent : SentSlot → Type 0
IsDataOrSilent Silent = Unit {0}
IsDataOrSilent (Data kind information lc) = Unit {0}
IsDataOrSilent VoiceSync = ⊥
IsDataOrSilent (Voice emb embedded) = ⊥
IsDataOrSilent (ForeignVoice emb) = ⊥
IsDataOrSilent ForeignData = ⊥
IsDataOrSilent CutOff = ⊥

-- so no sync is
one_no_sync : (slot : SentSlot) → IsDataOrSilent slot → IsNoSync slot
one_no_sync Silent p = tt
one_no_sync (Data kind information lc) p = tt
one_no_sync VoiceSync p = absurd p
one_no_sync (Voice emb embedded) p = absurd p
one_no_sync (ForeignVoice emb) p = absurd p
one_no_sync ForeignData p = absurd p
one_no_sync CutOff p = absurd p

-- In slots with data or silence no sync is sent.
pub no_sync : (slots : List SentSlot) → AllByRecursion IsDataOrSilent slots → AllByRecursion IsNoSync slots
no_sync [] p = tt
no_sync (s ∷ slots) p = (one_no_sync s p.0, no_sync slots p.1)

-- 2. Tries and control blocks.

csbks_data : (forms : List (List Bool))
    → AllByRecursion IsDataOrSilent (map (λ (information : List Bool). Data data_type.csbk information None) forms)
csbks_data [] = tt
csbks_data (f ∷ fs) = (tt, csbks_data fs)

blocks_data : (rate : Rate) (presence : List Bool) (forms : List (List Bool))
    → AllByRecursion IsDataOrSilent (block_slots rate presence forms)
blocks_data rate [] forms = tt
blocks_data rate (b ∷ bs) [] = tt
blocks_data rate (true ∷ bs) (f ∷ fs) = (tt, blocks_data rate bs fs)
blocks_data rate (false ∷ bs) (f ∷ fs) = (tt, blocks_data rate bs fs)

try_data : (t : _) (n : ℕ) (presence : List Bool) (sent : Transmitted) → SendsTry t n presence sent
    → AllByRecursion IsDataOrSilent sent.slots
try_data t n presence sent s =
    subst (λ (x : Transmitted). AllByRecursion IsDataOrSilent x.slots) (sym s.is)
    (all_append IsDataOrSilent (map (λ (information : List Bool). Data data_type.csbk information None) s.forms.preambles)
    (Data data_type.data_header s.forms.header None ∷ block_slots t.rate presence s.forms.blocks) (csbks_data s.forms.preambles)
    (tt, blocks_data t.rate presence s.forms.blocks))

again_data : (p : PacketTry) (a : Again) (sent : Transmitted) → SendsAgain p a sent → AllByRecursion IsDataOrSilent sent.slots
again_data p (again.Full None) sent s = try_data s.0 0 (replicate (length p.shape.blocks.items) true) sent s.2
again_data p (again.Full (Some shape)) sent s = try_data s.0 shape.preambles shape.blocks.items sent s.2
again_data p (again.Partial partial) sent s = try_data s.0 partial.shape.preambles partial.shape.blocks.items sent s.2

one_data : (control : Control) (sent : Transmitted) → sent ≡ one_burst control → AllByRecursion IsDataOrSilent sent.slots
one_data control sent e = subst (λ (x : Transmitted). AllByRecursion IsDataOrSilent x.slots) (sym e) (tt, tt)

-- it isn't a call
abbrev pub IsNoCall : Said → Type 0
IsNoCall (said.Call c) = ⊥
IsNoCall (said.Packet p) = Unit {0}
IsNoCall (said.Again a) = Unit {0}
IsNoCall (said.ShortData s) = Unit {0}
IsNoCall (said.Status s) = Unit {0}
IsNoCall (said.Answer a) = Unit {0}
IsNoCall (said.Control csbk) = Unit {0}
IsNoCall (said.Burst lone) = Unit {0}

-- But for calls, transmissions send data or silence.
pub said_data : (colour : ℕ) (last : Option PacketTry) (t : Said) (sent : Transmitted) → IsNoCall t → SendsSaid colour last t sent
    → AllByRecursion IsDataOrSilent sent.slots
said_data colour last (said.Call c) sent none s = absurd none
said_data colour last (said.Packet p) sent none s = try_data s.0 p.shape.preambles p.shape.blocks.items sent s.2
said_data colour None (said.Again a) sent none s = absurd s
said_data colour (Some p) (said.Again a) sent none s = again_data p a sent s
said_data colour last (said.ShortData d) sent none s = try_data s.0 d.shape.preambles d.shape.blocks.items sent s.2
said_data colour last (said.Status d) sent none s =
    try_data (status_try d) d.shape.preambles d.shape.blocks.items sent s
said_data colour last (said.Answer a) sent none s = try_data s.0 a.shape.preambles a.shape.blocks.items sent s.2
said_data colour last (said.Control csbk) sent none s = one_data (csbk_control s.0) sent s.2
said_data colour last (said.Burst lone) sent none s = one_data (lone_control lone s.0) sent s.2
