-- What frames count is what both slots give in them.
use Rattle.std.proofs.Common.{◌≡◌, ℕ, ◌+◌, List, [], ◌∷◌, ◌++◌, length, map, refl, ◌∙◌, ap, arith}
use Rattle.std.proofs.lemmas.List.{length-append, length-map}
use Rattle.std.proofs.lemmas.List.Sums.{sum_by-append, sum_by-cons}
use Rattle.std.proofs.lemmas.List.Concat.{flat_map-cons}
use Rattle.std.specs.Prelude.{option_to_list, flat_map, sum}
use Rattle.dmr_arq.specs.declared.sender_state.Outcome.{Outcome}
use Rattle.dmr_arq.specs.declared.sender_state.Outcome.TheVariants.{Delivered, Sent, GivenUp}
use Rattle.dmr_station.specs.GatewayMeaning.{Given, receipt_in, receipts_of, counts_of}
use Rattle.dmr_station.specs.StationRules.{Counts, outcome_count}
use Rattle.dmr_station.proofs.FrameAfterFrame.{FrameGiven, added, all_counted, counted_frame}
use Rattle.dmr_station.specs.Station.{receipts_from}
use Rattle.dmr_station.proofs.Exchanging.{given_in, givens_of}

-- 1. Records.

-- the records of frames are those of both slots
pub receipts_of_both : (frame : ℕ) (first second : List Given)
    → receipts_from frame (map (λ (g : FrameGiven). g.received) (givens_of first second)) ≡ receipts_of frame first second
receipts_of_both frame [] second = refl
receipts_of_both frame (a ∷ first) [] = refl
receipts_of_both frame (a ∷ first) (b ∷ second) =
    ap (λ l. map (receipt_in frame) (a.received ++ b.received) ++ l) (receipts_of_both (frame + 1) first second)

-- how many there are
abbrev pub receipt_count : List Given → List Given → ℕ
receipt_count [] second = 0
receipt_count (a ∷ first) [] = 0
receipt_count (a ∷ first) (b ∷ second) = length (a.received ++ b.received) + receipt_count first second

pub receipts_counted : (frame : ℕ) (first second : List Given)
    → length (receipts_of frame first second) ≡ receipt_count first second
receipts_counted frame [] second = refl
receipts_counted frame (a ∷ first) [] = refl
receipts_counted frame (a ∷ first) (b ∷ second) =
    let here = map (receipt_in frame) (a.received ++ b.received) in
    length-append here (receipts_of (frame + 1) first second)
    ∙ ap (λ n. n + length (receipts_of (frame + 1) first second)) (length-map (a.received ++ b.received) (receipt_in frame))
    ∙ ap (λ n. length (a.received ++ b.received) + n) (receipts_counted (frame + 1) first second)

-- 2. Outcomes and refusals.

-- What became of packets in one slot, and how many ended so.
abbrev outcomes_of : List Given → List Outcome
outcomes_of givens = flat_map (λ (g : Given). option_to_list g.outcome) givens

abbrev outcomes_in : Outcome → List Given → ℕ
outcomes_in outcome givens = outcome_count outcome (outcomes_of givens)

-- How many datagrams one slot refused.
abbrev refused_in : List Given → ℕ
refused_in givens = sum (map (λ (g : Given). g.refused) givens)

outcome_count-append : (outcome : Outcome) (xs ys : List Outcome)
    → outcome_count outcome (xs ++ ys) ≡ outcome_count outcome xs + outcome_count outcome ys
outcome_count-append outcome xs ys = sum_by-append _ xs ys

outcomes_cons : (outcome : Outcome) (g : Given) (more : List Given)
    → outcomes_in outcome (g ∷ more) ≡ outcome_count outcome (option_to_list g.outcome) + outcomes_in outcome more
outcomes_cons outcome g more =
    ap (outcome_count outcome) (flat_map-cons (λ (x : Given). option_to_list x.outcome) g more)
    ∙ outcome_count-append outcome (option_to_list g.outcome) (outcomes_of more)

refused_cons : (g : Given) (more : List Given) → refused_in (g ∷ more) ≡ g.refused + refused_in more
refused_cons g more = sum_by-cons (λ (n : ℕ). n) g.refused (map (λ (x : Given). x.refused) more)

outcomes_in_both : (outcome : Outcome) (a b : Given)
    → outcome_count outcome (given_in a b).outcomes
    ≡ outcome_count outcome (option_to_list a.outcome) + outcome_count outcome (option_to_list b.outcome)
outcomes_in_both outcome a b =
    outcome_count-append outcome (option_to_list a.outcome) (option_to_list b.outcome)

outcomes_of_both : (outcome : Outcome) (a b : Given) (first second : List Given) (rest : ℕ)
    → rest ≡ outcomes_in outcome first + outcomes_in outcome second
    → outcome_count outcome (given_in a b).outcomes + rest ≡ outcomes_in outcome (a ∷ first) + outcomes_in outcome (b ∷ second)
outcomes_of_both outcome a b first second rest e =
    let x = outcomes_in_both outcome a b in
    let y = outcomes_cons outcome a first in
    let z = outcomes_cons outcome b second in
    omega (arith, x, y, z, e)

-- 3. All of them.

-- counts that are the same number by number are the same
pub same_counts : (a b : Counts) → a.received ≡ b.received → a.delivered ≡ b.delivered → a.sent ≡ b.sent → a.given_up ≡ b.given_up
    → a.refused ≡ b.refused → a ≡ b
same_counts a b p q r s t =
    ap (λ n. record a { received = n }) p
    ∙ ap (λ n. record a { received = b.received; delivered = n }) q
    ∙ ap (λ n. record a { received = b.received; delivered = b.delivered; sent = n }) r
    ∙ ap (λ n. record a { received = b.received; delivered = b.delivered; sent = b.sent; given_up = n }) s
    ∙ ap (λ n. record b { refused = n }) t

-- what frames count is what both slots give in them
pub counted_of_both : (first second : List Given) → length first ≡ length second
    → all_counted (givens_of first second) ≡ counts_of first second
counted_of_both [] [] e = refl
counted_of_both [] (b ∷ second) e = absurd (omega (arith, e))
counted_of_both (a ∷ first) [] e = absurd (omega (arith, e))
counted_of_both (a ∷ first) (b ∷ second) e =
    let rest : all_counted (givens_of first second) ≡ counts_of first second = counted_of_both first second (omega (arith, e)) in
    let short = receipts_counted 0 first second in
    let long = receipts_counted 0 (a ∷ first) (b ∷ second) in
    let records : (all_counted (givens_of first second)).received ≡ length (receipts_of 0 first second) =
    ap (λ (c : Counts). c.received) rest in
    let refusals : (all_counted (givens_of first second)).refused ≡ refused_in first + refused_in second =
    ap (λ (c : Counts). c.refused) rest in
    let x = refused_cons a first in
    let y = refused_cons b second in
    same_counts (added (counted_frame (given_in a b)) (all_counted (givens_of first second))) (counts_of (a ∷ first) (b ∷ second))
    (omega (arith, short, long, records))
    (outcomes_of_both Delivered a b first second (all_counted (givens_of first second)).delivered
    (ap (λ (c : Counts). c.delivered) rest))
    (outcomes_of_both Sent a b first second (all_counted (givens_of first second)).sent (ap (λ (c : Counts). c.sent) rest))
    (outcomes_of_both GivenUp a b first second (all_counted (givens_of first second)).given_up
    (ap (λ (c : Counts). c.given_up) rest))
    (omega (arith, refusals, x, y))
