-- What the gateway hears, sends and queues is one thing each.
use Rattle.std.proofs.Common.{◌≡◌, ℕ, zero, suc, Bool, List, Option, Some, None, refl, sym, ◌∙◌, ap, subst, slice_get}
use Rattle.std.proofs.lemmas.Option.{same_Some}
use Rattle.dmr_bptc.proofs.Written.{one_written}
use Rattle.dmr_burst.specs.declared.burst.Burst.{Burst}
use Rattle.dmr_burst.specs.declared.burst.Burst.TheVariants.{Data, VoiceSync, Voice}
use Rattle.dmr_csbk.proofs.Blocks.{same_message}
use Rattle.dmr_data.proofs.BlockForms.{one_block_form}
use Rattle.dmr_data.proofs.HeaderForms.{same_form}
use Rattle.dmr_data.proofs.WrittenPackets.{one_packet}
use Rattle.dmr_data.specs.declared.block.Block.{Block}
use Rattle.dmr_data.specs.declared.header.Header.{Header}
use Rattle.dmr_data.specs.declared.packet.Packet.{Packet}
use Rattle.dmr_data.specs.declared.rate.Rate.{Rate}
use Rattle.dmr_data.specs.declared.rate.Rate.TheVariants.{Half}
use Rattle.dmr_arq.specs.declared.sender.GateBurst.{GateBurst}
use Rattle.dmr_arq.specs.declared.sender.GateBurst.TheVariants as of_try
use Rattle.dmr_arq.specs.declared.sender_state.Route.{Route}
use Rattle.dmr_gateway.specs.Bursts.{IsWordBurst, IsHeaderBurst, IsBlockBurst, IsTryBurst, IsFlagBurst, IsAnswerBurst}
use Rattle.dmr_gateway.specs.Bursts.{IsGatewayBurst, IsGatewayOut, preamble, answer_header, flag_octets}
use Rattle.dmr_gateway.specs.Heard.{Tells, IsReadByGateway, IsHeardByGateway, kind_of_rate}
use Rattle.dmr_gateway.specs.Packets.{IsQueuedBody, IsPacketFor}
use Rattle.dmr_gateway.specs.declared.answers.Due.{Due}
use Rattle.dmr_gateway.specs.declared.heard.Heard.{Heard}
use Rattle.dmr_gateway.specs.SlotBurst.{SlotBurst}
use Rattle.dmr_gateway.specs.SlotBurst as burst
use Rattle.dmr_gateway.specs.declared.queue.Queued.{Queued}

-- 1. What is heard.

-- what is told is one thing
told_alike : {X : Type 0} (a b : Option X) (P : X → Type 0) → Tells a P → Tells b P → a ≡ b
told_alike None None P u v = refl
told_alike None (Some y) P u v = (u y).1 ((v y).0 refl)
told_alike (Some x) None P u v = sym ((v x).1 ((u x).0 refl))
told_alike (Some x) (Some y) P u v = sym ((v x).1 ((u x).0 refl))

-- a data burst is read as one thing alone
pub read_alike : (kind : ℕ) (information : List Bool) (a b : Heard) → IsReadByGateway kind information a
    → IsReadByGateway kind information b → a ≡ b
read_alike kind information a b u v =
    ap (λ x. record a { header = x }) (told_alike a.header b.header _ u.header v.header)
    ∙ ap (λ x. record a { header = b.header; unconfirmed = x })
    (told_alike a.unconfirmed b.unconfirmed _ u.unconfirmed v.unconfirmed)
    ∙ ap (λ x. record b { confirmed = x }) (told_alike a.confirmed b.confirmed _ u.confirmed v.confirmed)

-- a burst is heard as one thing alone
pub heard_alike : (burst : Option Burst) (a b : Heard) → IsHeardByGateway burst a → IsHeardByGateway burst b → a ≡ b
heard_alike None a b u v = u ∙ sym v
heard_alike (Some (Data colour kind information)) a b u v = read_alike kind information a b u v
heard_alike (Some (VoiceSync vocoder)) a b u v = u ∙ sym v
heard_alike (Some (Voice emb embedded vocoder)) a b u v = u ∙ sym v

-- 2. What is sent.

word_alike : (colour kind : ℕ) (message : List Bool) (a b : Burst) → IsWordBurst colour kind message a
    → IsWordBurst colour kind message b → a ≡ b
word_alike colour kind message a b u v =
    u.2 ∙ ap (λ information. Data colour kind information) (one_written message u.0 v.0 u.1 v.1) ∙ sym v.2

header_alike : (colour : ℕ) (h : Header) (a b : Burst) → IsHeaderBurst colour h a → IsHeaderBurst colour h b → a ≡ b
header_alike colour h a b u v =
    let same : u.0 ≡ v.0 = same_form h u.0 v.0 u.1 v.1 in
    word_alike colour 6 v.0 a b (subst (λ (message : List Bool). IsWordBurst colour 6 message a) same u.2) v.2

block_alike : (colour : ℕ) (rate : Rate) (block : Block) (a b : Burst) → IsBlockBurst colour rate block a
    → IsBlockBurst colour rate block b → a ≡ b
block_alike colour rate block a b u v =
    u.2 ∙ ap (λ information. Data colour (kind_of_rate rate) information) (one_block_form rate block u.0 v.0 u.1 v.1) ∙ sym v.2

try_alike : (colour llid : ℕ) (sending : GateBurst) (a b : Burst) → IsTryBurst colour llid sending a
    → IsTryBurst colour llid sending b → a ≡ b
try_alike colour llid (of_try.Preamble left route) a b u v =
    let same : u.0 ≡ v.0 = same_message (preamble llid left route) u.0 v.0 u.1 v.1 in
    word_alike colour 3 v.0 a b (subst (λ (message : List Bool). IsWordBurst colour 3 message a) same u.2) v.2
try_alike colour llid (of_try.Header h) a b u v = header_alike colour h a b u v
try_alike colour llid (of_try.Block block rate) a b u v = block_alike colour rate block a b u v

flag_alike : (colour : ℕ) (due : Due) (place : ℕ) (a b : Burst) → IsFlagBurst colour due place a → IsFlagBurst colour due place b
    → a ≡ b
flag_alike colour due place a b u v =
    let packet : u.0 ≡ v.0 = one_packet (flag_octets due) u.0 v.0 (u.2.rate ∙ sym v.2.rate) (u.2.confirmed ∙ sym v.2.confirmed)
    u.2.written v.2.written in
    let block : u.1 ≡ v.1 = same_Some u.1 v.1 (sym u.3 ∙ ap (λ (x : Packet). slice_get x.blocks place) packet ∙ v.3) in
    block_alike colour Half v.1 a b (subst (λ (x : Block). IsBlockBurst colour Half x a) block u.4) v.4

answer_alike : (colour : ℕ) (due : Due) (number : ℕ) (a b : Burst) → IsAnswerBurst colour due number a
    → IsAnswerBurst colour due number b → a ≡ b
answer_alike colour due zero a b u v = header_alike colour (answer_header due) a b u v
answer_alike colour due (suc place) a b u v = flag_alike colour due place a b u v

burst_alike : (colour llid : ℕ) (sending : SlotBurst) (a b : Burst) → IsGatewayBurst colour llid sending a
    → IsGatewayBurst colour llid sending b → a ≡ b
burst_alike colour llid (burst.Answer due number) a b u v = answer_alike colour due number a b u v
burst_alike colour llid (burst.Try sending) a b u v = try_alike colour llid sending a b u v

-- for what a slot sends there is one burst alone, or none
pub sent_alike : (colour llid : ℕ) (sending : Option SlotBurst) (a b : Option Burst) → IsGatewayOut colour llid sending a
    → IsGatewayOut colour llid sending b → a ≡ b
sent_alike colour llid None a b u v = u ∙ sym v
sent_alike colour llid (Some sending) a b u v = u.2 ∙ ap Some (burst_alike colour llid sending u.0 v.0 u.1 v.1) ∙ sym v.2

-- 3. What is queued.

body_alike : (full confirmed : Bool) (route : Route) (body : List ℕ) (a b : Queued) → IsQueuedBody full confirmed route body a
    → IsQueuedBody full confirmed route body b → a ≡ b
body_alike full confirmed route body a b u v =
    let packet : a.packet ≡ b.packet = one_packet body a.packet b.packet (u.rate ∙ sym v.rate) (u.confirmed_is ∙ sym v.confirmed_is)
    u.packet v.packet in
    let way : a.route ≡ b.route = u.route_is ∙ sym v.route_is in
    ap (λ (x : Packet). record a { packet = x }) packet ∙ ap (λ (x : Route). record b { route = x }) way

-- a datagram has one packet alone
pub queued_alike : (llid : ℕ) (confirmed full : Bool) (octets : List ℕ) (a b : Queued) → IsPacketFor llid confirmed full octets a
    → IsPacketFor llid confirmed full octets b → a ≡ b
queued_alike llid confirmed full octets a b u v = body_alike full confirmed _ _ a b u v
