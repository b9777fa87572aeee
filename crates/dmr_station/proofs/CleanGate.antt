-- What the gateway sends may be transmitted.
use Rattle.std.proofs.Common.{◌≡◌, ℕ, zero, suc, ◌≤◌, Bool, List, [], ◌∷◌, Option, Some, None, inl, inr, refl, sym, subst, arith}
use Rattle.std.specs.List.{AllByRecursion}
use Rattle.dmr_bits.specs.Bits.{octets_of}
use Rattle.dmr_burst.specs.declared.burst.Burst.{Burst}
use Rattle.dmr_burst.specs.declared.burst.Burst.TheVariants.{Data}
use Rattle.dmr_checks.specs.Sealed.{IsSealed}
use Rattle.dmr_checks.specs.declared.sealing.Mask.TheVariants as mask
use Rattle.dmr_csbk.specs.Block.{IsSealedCsbk}
use Rattle.dmr_data.specs.declared.block.Block.{Block}
use Rattle.dmr_data.specs.declared.header.Header.{Header}
use Rattle.dmr_data.specs.declared.rate.Rate.{Rate}
use Rattle.dmr_data.specs.declared.rate.Rate.TheVariants.{Half, Full}
use Rattle.dmr_arq.specs.declared.sender.GateBurst.{GateBurst}
use Rattle.dmr_arq.specs.declared.sender.GateBurst.TheVariants as of_try
use Rattle.dmr_slot.proofs.Cleaning.{ArePairs, firsts, seconds}
use Rattle.dmr_slot.specs.Clean.{IsCleanMessage, IsCleanInformation, IsCleanGate}
use Rattle.dmr_slot.specs.declared.line.SlotOut.{SlotOut}
use Rattle.dmr_record.specs.Outgoing.{Sending}
use Rattle.dmr_gateway.specs.Bursts.{IsWordBurst, IsHeaderBurst, IsBlockBurst, IsTryBurst, IsAnswerBurst, IsGatewayBurst}
use Rattle.dmr_gateway.specs.Bursts.{IsGatewayOut}
use Rattle.dmr_gateway.specs.Runs.{Happening}
use Rattle.dmr_gateway.specs.declared.answers.Due.{Due}
use Rattle.dmr_gateway.specs.SlotBurst.{SlotBurst}
use Rattle.dmr_gateway.specs.SlotBurst as burst
use Rattle.dmr_station.specs.GatewayMeaning.{Given, AreGiven}
use Rattle.dmr_station.proofs.Frames.{gates_of}
use Rattle.dmr_station.specs.StationRules.{Settings}

-- 1. One burst.

clean_data : (colour kind : ℕ) (information : List Bool) (b : Burst) → b ≡ Data colour kind information → kind ≤ 11
    → IsCleanInformation kind information → IsCleanGate colour (Some b)
clean_data colour kind information b is small clean =
    subst (λ x. IsCleanGate colour (Some x)) (sym is) (refl, small, clean)

control_message : (message : List Bool) → IsSealedCsbk message → IsCleanMessage 3 message
control_message message sealed =
    record {
      header = λ e. absurd (omega (arith, e));
      terminator = λ e. absurd (omega (arith, e));
      control = λ e. sealed;
      data_header = λ e. absurd (omega (arith, e));
      idle = λ e. absurd (omega (arith, e));
    }

header_message : (message : List Bool) → IsSealed mask.Header (octets_of 12 message) → IsCleanMessage 6 message
header_message message sealed =
    record {
      header = λ e. absurd (omega (arith, e));
      terminator = λ e. absurd (omega (arith, e));
      control = λ e. absurd (omega (arith, e));
      data_header = λ e. sealed;
      idle = λ e. absurd (omega (arith, e));
    }

block_message : (message : List Bool) → IsCleanMessage 7 message
block_message message =
    record {
      header = λ e. absurd (omega (arith, e));
      terminator = λ e. absurd (omega (arith, e));
      control = λ e. absurd (omega (arith, e));
      data_header = λ e. absurd (omega (arith, e));
      idle = λ e. absurd (omega (arith, e));
    }

clean_word : (colour kind : ℕ) (message : List Bool) (b : Burst) → kind ≤ 11 → IsCleanMessage kind message
    → IsWordBurst colour kind message b → IsCleanGate colour (Some b)
clean_word colour kind message b small clean u = clean_data colour kind u.0 b u.2 small (inr (inr (message, u.1, clean)))

clean_header : (colour : ℕ) (h : Header) (b : Burst) → IsHeaderBurst colour h b → IsCleanGate colour (Some b)
clean_header colour h b u = clean_word colour 6 u.0 b (omega arith) (header_message u.0 u.1.sealed) u.2

clean_block : (colour : ℕ) (rate : Rate) (block : Block) (b : Burst) → IsBlockBurst colour rate block b
    → IsCleanGate colour (Some b)
clean_block colour Half block b u =
    clean_data colour 7 u.0 b u.2 (omega arith) (inr (inr (u.1.content, u.1.sent, block_message u.1.content)))
clean_block colour Full block b u = clean_data colour 10 u.0 b u.2 (omega arith) (inr (inl refl))

clean_try : (colour llid : ℕ) (sending : GateBurst) (b : Burst) → IsTryBurst colour llid sending b → IsCleanGate colour (Some b)
clean_try colour llid (of_try.Preamble left route) b u =
    clean_word colour 3 u.0 b (omega arith) (control_message u.0 u.1.sealed) u.2
clean_try colour llid (of_try.Header h) b u = clean_header colour h b u
clean_try colour llid (of_try.Block block rate) b u = clean_block colour rate block b u

clean_answer : (colour : ℕ) (due : Due) (number : ℕ) (b : Burst) → IsAnswerBurst colour due number b → IsCleanGate colour (Some b)
clean_answer colour due zero b u = clean_header colour _ b u
clean_answer colour due (suc place) b u = clean_block colour Half u.1 b u.4

clean_burst : (colour llid : ℕ) (sending : SlotBurst) (b : Burst) → IsGatewayBurst colour llid sending b
    → IsCleanGate colour (Some b)
clean_burst colour llid (burst.Answer due number) b u = clean_answer colour due number b u
clean_burst colour llid (burst.Try sending) b u = clean_try colour llid sending b u

clean_gate : (colour llid : ℕ) (sending : Option SlotBurst) (out : Option Burst) → IsGatewayOut colour llid sending out
    → IsCleanGate colour out
clean_gate colour llid None out u = subst (IsCleanGate colour) (sym u) tt
clean_gate colour llid (Some sending) out u = subst (IsCleanGate colour) (sym u.2) (clean_burst colour llid sending u.0 u.1)

-- 2. Both slots, frame by frame.

abbrev AreCleanGivens : ℕ → List Given → Type 0
AreCleanGivens colour givens = AllByRecursion (λ g. IsCleanGate colour g.burst) givens

-- whatever happens in a slot, the gateway has clean data for it or nothing
pub clean_givens : (s : Settings) (slot : ℕ) (back : List Happening) (offers : List (List Sending)) (outs : List SlotOut)
    (givens : List Given) → AreGiven s slot back offers outs givens → AreCleanGivens s.colour givens
clean_givens s slot back [] [] [] u = tt
clean_givens s slot back [] (out ∷ outs) givens u = absurd u
clean_givens s slot back [] [] (g ∷ givens) u = absurd u
clean_givens s slot back (o ∷ offers) [] givens u = absurd u
clean_givens s slot back (o ∷ offers) (out ∷ outs) [] u = absurd u
clean_givens s slot back (o ∷ offers) (out ∷ outs) (g ∷ givens) u =
    (clean_gate s.colour s.llid _ g.burst u.2.burst, clean_givens s slot (u.0 ∷ back) offers outs givens u.3)

-- in each frame what the gateway has is for two slots
pub gate_pairs : (first second : List Given) → ArePairs (gates_of first second)
gate_pairs [] second = tt
gate_pairs (a ∷ first) [] = tt
gate_pairs (a ∷ first) (b ∷ second) = (refl, gate_pairs first second)

-- what the gateway has for slot 1 is clean still where it is put beside that for slot 2
pub first_gates : (colour : ℕ) (first second : List Given) → AreCleanGivens colour first
    → AllByRecursion (IsCleanGate colour) (firsts (gates_of first second))
first_gates colour [] second u = tt
first_gates colour (a ∷ first) [] u = tt
first_gates colour (a ∷ first) (b ∷ second) u = (u.0, first_gates colour first second u.1)

-- the same, of what it has for slot 2
pub second_gates : (colour : ℕ) (first second : List Given) → AreCleanGivens colour second
    → AllByRecursion (IsCleanGate colour) (seconds (gates_of first second))
second_gates colour [] second u = tt
second_gates colour (a ∷ first) [] u = tt
second_gates colour (a ∷ first) (b ∷ second) u = (u.0, second_gates colour first second u.1)
