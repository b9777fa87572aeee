-- What holds of each packet that is offered to a sender holds of the packet in hand, whatever happens.
use Rattle.std.proofs.Common.{◌≡◌, ℕ, zero, suc, ◌+◌, ltb, length, slice_get, Option, Some, None, option_map, IfSome, refl}
use Rattle.std.proofs.Common.{sym, ◌∙◌, subst, inl, inr}
use Rattle.std.specs.List.{All}
use Rattle.std.proofs.lemmas.List.Elements.{All-get_or}
use Rattle.std.proofs.lemmas.Option.{slice_get_cases, get_or_from_slice_get}
use Rattle.dmr_data.specs.declared.block.Block.{Block}
use Rattle.dmr_data.specs.declared.packet.Packet.{Packet}
use Rattle.dmr_data.specs.declared.rate.Rate.{Rate}
use Rattle.dmr_arq.specs.SenderRules as sender
use Rattle.dmr_arq.specs.SenderRules.{SenderState}
use Rattle.dmr_arq.specs.declared.answer.Answer.{Answer}
use Rattle.dmr_arq.specs.declared.answer.Verdict.{Verdict}
use Rattle.dmr_arq.specs.declared.answer.Verdict.TheVariants.{Ack, Failed, Selective}
use Rattle.dmr_arq.specs.declared.sender.GateBurst.{GateBurst}
use Rattle.dmr_arq.specs.declared.sender.GateBurst.TheVariants as burst
use Rattle.dmr_arq.specs.declared.sender_state.Held.{Held}
use Rattle.dmr_arq.specs.declared.sender_state.Phase.{Phase}
use Rattle.dmr_arq.specs.declared.sender_state.Phase.TheVariants as phase
use Rattle.dmr_arq.specs.declared.sender_state.Route.{Route}
use Rattle.dmr_arq.specs.declared.serials.Selection.{Selection}
use Rattle.dmr_arq.proofs.Sound.{by_cond}

-- It holds of the packet in hand, where there is one.
abbrev pub HoldsInHand : (Packet → Type 0) → SenderState → Type 0
HoldsInHand P s = IfSome s.held (λ h. P h.packet)

-- 1. What a sender keeps.

module _ (P : Packet → Type 0) where
  due_keeps : (selection : Selection) (h : Held) (s : SenderState) → P h.packet
      → HoldsInHand P (sender.due_again selection h s)
  due_keeps selection h s p = by_cond (HoldsInHand P) (ltb 0 h.tries_left) _ _ (λ again. p) (λ over. tt)

  takes_keeps : (packet : Packet) (route : Route) (s : SenderState) → P packet → HoldsInHand P (sender.takes packet route s)
  takes_keeps packet route s p = by_cond (HoldsInHand P) packet.confirmed _ _ (λ c. p) (λ u. p)

  offered_at_keeps : (o : Option Held) (packet : Packet) (route : Route) (s : SenderState) → P packet → HoldsInHand P s
      → HoldsInHand P (sender.offered_at o packet route s)
  offered_at_keeps None packet route s p own = takes_keeps packet route s p
  offered_at_keeps (Some h) packet route s p own = own

  pub offered_keeps : (packet : Packet) (route : Route) (s : SenderState) → P packet → HoldsInHand P s
      → HoldsInHand P (sender.offered packet route s)
  offered_keeps packet route s p own = offered_at_keeps s.held packet route s p own

  ticked_at_keeps : (ph : Phase) (h : Held) (s : SenderState) → P h.packet → HoldsInHand P s
      → HoldsInHand P (sender.ticked_at ph h s)
  ticked_at_keeps phase.Due h s p own = own
  ticked_at_keeps (phase.Sending out) h s p own = own
  ticked_at_keeps (phase.Waiting left) h s p own =
      by_cond (HoldsInHand P) (ltb 1 left) _ _ (λ more. p) (λ over. due_keeps (sender.all_blocks h.packet) h s p)

  ticked_in_keeps : (o : Option Held) (s : SenderState) → IfSome o (λ h. P h.packet) → HoldsInHand P s
      → HoldsInHand P (sender.ticked_in o s)
  ticked_in_keeps None s p own = own
  ticked_in_keeps (Some h) s p own = ticked_at_keeps h.phase h s p own

  pub ticked_keeps : (s : SenderState) → HoldsInHand P s → HoldsInHand P (sender.ticked s)
  ticked_keeps s own = ticked_in_keeps s.held s own own

  verdict_keeps : (verdict : Verdict) (flags : ℕ) (h : Held) (s : SenderState) → P h.packet
      → HoldsInHand P (sender.verdict_on verdict flags h s)
  verdict_keeps Ack flags h s p = tt
  verdict_keeps Failed flags h s p = due_keeps (sender.all_blocks h.packet) h s p
  verdict_keeps Selective flags h s p =
      due_keeps (sender.selection_of h.packet (sender.unset 0 (length h.packet.blocks) flags)) h s p

  answered_at_keeps : (ph : Phase) (a : Answer) (h : Held) (s : SenderState) → P h.packet → HoldsInHand P s
      → HoldsInHand P (sender.answered_at ph a h s)
  answered_at_keeps phase.Due a h s p own = own
  answered_at_keeps (phase.Sending out) a h s p own = own
  answered_at_keeps (phase.Waiting left) a h s p own =
      by_cond (HoldsInHand P) (sender.is_answer_to s.llid h a) _ _ (λ yes. verdict_keeps a.verdict a.flags h s p) (λ other. own)

  answered_in_keeps : (o : Option Held) (a : Answer) (s : SenderState) → IfSome o (λ h. P h.packet) → HoldsInHand P s
      → HoldsInHand P (sender.answered_in o a s)
  answered_in_keeps None a s p own = own
  answered_in_keeps (Some h) a s p own = answered_at_keeps h.phase a h s p own

  pub answered_keeps : (a : Answer) (s : SenderState) → HoldsInHand P s → HoldsInHand P (sender.answered a s)
  answered_keeps a s own = answered_in_keeps s.held a s own own

  cut_at_keeps : (ph : Phase) (h : Held) (s : SenderState) → P h.packet → HoldsInHand P s → HoldsInHand P (sender.cut_at ph h s)
  cut_at_keeps phase.Due h s p own = own
  cut_at_keeps (phase.Sending out) h s p own = due_keeps h.selection h s p
  cut_at_keeps (phase.Waiting left) h s p own = own

  cut_in_keeps : (o : Option Held) (s : SenderState) → IfSome o (λ h. P h.packet) → HoldsInHand P s
      → HoldsInHand P (sender.cut_in o s)
  cut_in_keeps None s p own = own
  cut_in_keeps (Some h) s p own = cut_at_keeps h.phase h s p own

  pub cut_keeps : (s : SenderState) → HoldsInHand P s → HoldsInHand P (sender.cut_of s)
  cut_keeps s own = cut_in_keeps s.held s own own

  out_is_keeps : (out : ℕ) (h : Held) (s : SenderState) → P h.packet → HoldsInHand P (sender.out_is out h s)
  out_is_keeps out h s p =
      by_cond (HoldsInHand P) (ltb out (length h.selection.serials + 3)) _ _ (λ more. p)
      (λ all. by_cond (HoldsInHand P) h.packet.confirmed _ _ (λ c. p) (λ u. tt))

  sent_at_keeps : (ph : Phase) (h : Held) (s : SenderState) → P h.packet → HoldsInHand P s
      → HoldsInHand P (sender.burst_out_at ph h s)
  sent_at_keeps phase.Due h s p own = p
  sent_at_keeps (phase.Sending out) h s p own = out_is_keeps (out + 1) h s p
  sent_at_keeps (phase.Waiting left) h s p own = own

  sent_in_keeps : (o : Option Held) (s : SenderState) → IfSome o (λ h. P h.packet) → HoldsInHand P s
      → HoldsInHand P (sender.sent_in o s)
  sent_in_keeps None s p own = own
  sent_in_keeps (Some h) s p own = sent_at_keeps h.phase h s p own

  pub sent_keeps : (s : SenderState) → HoldsInHand P s → HoldsInHand P (sender.sent s)
  sent_keeps s own = sent_in_keeps s.held s own own

-- 2. What goes out.

module _ (Q : Block → Type 0) where
  -- It holds of each block of a packet.
  abbrev pub HoldsOfBlocks : Packet → Type 0
  HoldsOfBlocks packet = All Q packet.blocks

  -- It holds of the block that a burst of a try carries.
  abbrev pub HoldsOfBurst : GateBurst → Type 0
  HoldsOfBurst (burst.Preamble left route) = Unit {0}
  HoldsOfBurst (burst.Header h) = Unit {0}
  HoldsOfBurst (burst.Block block rate) = Q block

  found_has : (packet : Packet) (place : ℕ) (b : Block) → HoldsOfBlocks packet → slice_get packet.blocks place ≡ Some b → Q b
  found_has packet place b all found =
      elim (slice_get_cases packet.blocks place).1 [
        | inl k ↦ subst Q (get_or_from_slice_get packet.blocks place b b found) (All-get_or Q packet.blocks place b k.1 all)
        | inr k ↦ let z : ◌≡◌ {A = Option Block} None (Some b) = sym k.1 ∙ found in cc
      ]

  block_has : (rate : Rate) (found : Option Block) → ((b : Block) → found ≡ Some b → Q b)
      → IfSome (option_map (sender.block_burst rate) found) HoldsOfBurst
  block_has rate None has = tt
  block_has rate (Some b) has = has b refl

  place_has : (packet : Packet) (serial : Option ℕ) → HoldsOfBlocks packet
      → IfSome (option_map (sender.block_burst packet.rate) (sender.block_in packet serial)) HoldsOfBurst
  place_has packet None all = tt
  place_has packet (Some serial) all =
      block_has packet.rate (slice_get packet.blocks serial) (λ b e. found_has packet serial b all e)

  number_has : (llid : ℕ) (h : Held) (out : ℕ) → HoldsOfBlocks h.packet → IfSome (sender.burst_number llid h out) HoldsOfBurst
  number_has llid h zero all = tt
  number_has llid h (suc zero) all = tt
  number_has llid h (suc (suc zero)) all = tt
  number_has llid h (suc (suc (suc place))) all = place_has h.packet (slice_get h.selection.serials place) all

  burst_at_has : (ph : Phase) (llid : ℕ) (h : Held) → HoldsOfBlocks h.packet → IfSome (sender.burst_at ph llid h) HoldsOfBurst
  burst_at_has phase.Due llid h all = number_has llid h 0 all
  burst_at_has (phase.Sending out) llid h all = number_has llid h out all
  burst_at_has (phase.Waiting left) llid h all = tt

  burst_in_has : (o : Option Held) (llid : ℕ) → IfSome o (λ h. HoldsOfBlocks h.packet)
      → IfSome (sender.burst_in o llid) HoldsOfBurst
  burst_in_has None llid all = tt
  burst_in_has (Some h) llid all = burst_at_has h.phase llid h all

  pub burst_has : (s : SenderState) → HoldsInHand HoldsOfBlocks s → IfSome (sender.burst_of s) HoldsOfBurst
  burst_has s all = burst_in_has s.held s.llid all
