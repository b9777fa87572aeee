-- A base station: what it gives for the frames of the uplink that it takes and the datagrams that it is offered.
use Rattle.std.specs.Prelude.{ℕ, ◌≡◌, ◌+◌, ◌*◌, ◌^◌, ◌<◌, ◌≤◌, All, List, [], ◌∷◌, ◌++◌, length, map, option_to_list}
use Rattle.std.specs.Prelude.{Result}
use Rattle.std.specs.List.{AllByRecursion, flat_map}
use Rattle.dmr_arq.specs.declared.sender_state.Outcome.{Outcome}
use Rattle.dmr_arq.specs.declared.sender_state.Outcome.TheVariants as outcome
use Rattle.dmr_gateway.specs.GatewayRules.{Gate, IsOffer, refusal, next_received, after_received}
use Rattle.dmr_gateway.specs.Packets.{fault_of}
use Rattle.dmr_gateway.specs.declared.fault.GatewayFault.{GatewayFault}
use Rattle.dmr_gateway.specs.declared.received.Received.{Received}
use Rattle.dmr_record.specs.Outgoing.{Sending}
use Rattle.dmr_record.specs.Received.{Receipt}
use Rattle.dmr_record.specs.declared.outgoing.Outgoing.{Outgoing}
use Rattle.dmr_station.specs.Sent.{DownlinkSlots}
use Rattle.dmr_station.specs.declared.station.Counts.{Counts as StationCounts}
use Rattle.dmr_station.specs.Clean.{IsCleanDownlink}
use Rattle.dmr_station.specs.DownlinkRules.{repeated_count, slots_of, Makes}
use Rattle.dmr_station.specs.StationRules.{Settings, StationMemory, Counts, start, settings_in}
use Rattle.dmr_station.specs.StationRules.{nothing_counted}
use Rattle.dmr_station.specs.StationRules.{outcome_count}
use Rattle.dmr_station.specs.StationRules.{IsAsked, received_of, outcomes_to_tell, received_taken, outcomes_told}
use Rattle.dmr_station.specs.GatewayMeaning.{AreForSlots, receipt_in}
use Rattle.dmr_record.specs.Outgoing.{AreReadFrom}
use Rattle.dmr_record.specs.Uplink.{UplinkSlots, IsFrame}
use Rattle.dmr_record.specs.Downlink.{Sent}
use Rattle.std.specs.List.{AllZip}
use Rattle.dmr_station.specs.Sent.{AreSentAs}

-- 1. Between two frames.

-- What a station remembers, how many frames of the downlink it has sent, how many of their slots repeated a burst, how many
-- datagrams it was offered, and what it counts of the gateway.
pub record State : Type 0 where
  pub memory : StationMemory
  pub frames : ℕ
  pub repeated : ℕ
  pub offered : ℕ
  pub counts : Counts

-- What the program's counters hold.
abbrev pub counts_of_gateway : StationCounts → Counts
counts_of_gateway c =
    record { received = c.received; delivered = c.delivered; sent = c.sent; given_up = c.given_up; refused = c.refused }

-- What a station is between two frames, of what it remembers and of the program's counters.
abbrev pub state_of : StationMemory → StationCounts → State
state_of m c =
    record { memory = m; frames = c.frames; repeated = c.repeated; offered = c.offered; counts = counts_of_gateway c }

-- A station that has heard and sent nothing.
abbrev pub fresh : Settings → State
fresh s = record { memory = start s; frames = 0; repeated = 0; offered = 0; counts = nothing_counted }

-- What the rules go by in a station, of what it remembers.
abbrev pub settings_of_state : State → Settings
settings_of_state state = settings_in state.memory

-- 2. One frame.

-- The station once a datagram was offered, which left its gateway so and was refused so many times, once or not at all.
abbrev pub after_offer : Gate → ℕ → State → State
after_offer gate refused s =
    record s {
      memory = record s.memory { gate = gate };
      offered = s.offered + 1;
      counts = record s.counts { refused = s.counts.refused + refused };
    }

-- A datagram is offered, and the station goes on by what the gateway makes of it: it takes the packet, or refuses it.
pub record IsOffered (before : State) (o : Outgoing) (after : State) : Type 0 where
  pub result : Result (Unit {0}) GatewayFault
  pub gate : Gate
  pub offer : IsOffer (fault_of o) o result before.memory.gate gate
  pub state : after ≡ after_offer gate (refusal result) before

-- Datagrams are offered, one after another.
abbrev pub AreOfferedOneByOne : State → List Outgoing → State → Type 0
AreOfferedOneByOne before [] after = after ≡ before
AreOfferedOneByOne before (o ∷ more) after = (next : State) × IsOffered before o next × AreOfferedOneByOne next more after

-- The counts once it is told that this became of packets.
abbrev pub with_outcomes : List Outcome → Counts → Counts
with_outcomes outcomes c =
    record c {
      delivered = c.delivered + outcome_count outcome.Delivered outcomes;
      sent = c.sent + outcome_count outcome.Sent outcomes;
      given_up = c.given_up + outcome_count outcome.GivenUp outcomes;
    }

-- A frame of the uplink is taken, and the records of a frame of the downlink are given: what goes out by the rules, exactly
-- encoded, in the place that it has among all records of the downlink, and counted. What became of the gateway's packets is
-- counted too; what it received is still to be taken.
pub record IsExchanged (before : State) (frame : UplinkSlots) (records : List Sent)
    (after : State) : Type 0 where
  pub sending : DownlinkSlots
  pub asked : StationMemory
  pub is_asked : IsAsked before.memory frame sending asked
  pub memory : after.memory ≡ record asked { gate = outcomes_told asked.gate }
  pub encoded : AreSentAs (2 * before.frames) sending records
  pub frames : after.frames ≡ before.frames + 1
  pub repeated : after.repeated ≡ before.repeated + repeated_count sending
  pub offered : after.offered ≡ before.offered
  pub counts : after.counts ≡ with_outcomes (outcomes_to_tell asked.gate) before.counts

-- The station once so many records were taken of what its gateway received, which left the gateway so.
abbrev pub with_received : Gate → ℕ → State → State
with_received gate count s =
    record s { memory = record s.memory { gate = gate }; counts = record s.counts { received = s.counts.received + count } }

-- The station once the next record of what the gateway received is taken and counted, where there is one.
abbrev pub taken_once : State → State
taken_once s = with_received (after_received s.memory.gate) (length (option_to_list (next_received s.memory.gate))) s

-- The station once all records of what the gateway received are taken and counted.
abbrev pub all_received_taken : State → State
all_received_taken s = with_received (received_taken s.memory.gate) (length (received_of s.memory.gate)) s

-- The counters stay within what the frames and the offers allow, however much is still to be taken.
pub record IsWithinFrames (s : State) : Type 0 where
  pub frames : s.frames ≤ 2 ^ 29
  pub repeated : s.repeated ≤ 2 * s.frames
  pub received : s.counts.received + length (received_of s.memory.gate) ≤ 4 * s.frames
  pub delivered : s.counts.delivered ≤ 2 * s.frames
  pub sent : s.counts.sent ≤ 2 * s.frames
  pub given_up : s.counts.given_up ≤ 2 * s.frames
  pub refused : s.counts.refused ≤ s.offered

-- 3. Frame after frame, each with the datagrams that are offered in it.

-- Each frame goes by what the frames before it left: these datagrams are offered, these records are given, and this was received,
-- which is all taken before the next frame.
abbrev pub AreExchanged : State → List (List Outgoing) → List UplinkSlots → List (List Sent) →
    List (List Received) → State → Type 0
AreExchanged before [] [] [] [] after = after ≡ before
AreExchanged before (offered ∷ offers) (frame ∷ frames) (records ∷ more) (received ∷ others) after =
    (ready : State) × (next : State) × AreOfferedOneByOne before offered ready × IsExchanged ready frame records next
    × (received ≡ received_of next.memory.gate) × AreExchanged (all_received_taken next) offers frames more others after
AreExchanged before offers frames records received after = ⊥

-- The records of frames, in order.
abbrev pub records_of : List (List Sent) → List Sent
records_of frames = flat_map (λ frame. frame) frames

-- The records of what was received in frames, from this frame on.
abbrev pub receipts_from : ℕ → List (List Received) → List Receipt
receipts_from frame [] = []
receipts_from frame (received ∷ more) = map (receipt_in frame) received ++ receipts_from (frame + 1) more

-- What is sent where these frames were taken and these datagrams offered in each: what the rules make of them by looking back,
-- exactly encoded, and all clean; what is received; how many slots repeat a burst, and what is counted of the gateway.
pub record IsSentFor (s : Settings) (offers : List (List Sending)) (frames : List UplinkSlots) (repeated : ℕ)
    (counts : Counts) (receipts : List Receipt) (sent : List Sent) : Type 0 where
  pub sending : List DownlinkSlots
  pub makes : Makes s offers frames sending receipts counts
  pub repeats : repeated ≡ repeated_count (slots_of sending)
  pub encoded : AreSentAs 0 (slots_of sending) sent
  pub clean : IsCleanDownlink s.colour sent

-- Whatever frames a new station takes, and whatever datagrams it is offered before each, this is what it gives for them.
abbrev pub SendsByTheRules : Type 0
SendsByTheRules =
    (s : Settings) (records_read : List (List Outgoing)) (offers : List (List Sending)) (frames : List UplinkSlots)
    (records : List (List Sent)) (received : List (List Received)) (after : State)
    → AllZip AreReadFrom records_read offers → AllByRecursion AreForSlots offers
    → AreExchanged (fresh s) records_read frames records received after
    → IsSentFor s offers frames after.repeated after.counts (receipts_from 0 received) (records_of records)

-- 4. There is something that a station gives.

-- Settings that a run can have: a colour code of four bits, and an LLID of 24.
pub record AreFitSettings (s : Settings) : Type 0 where
  pub colour : s.colour < 16
  pub llid : s.llid < 2 ^ 24

-- Each datagram is one of octets.
abbrev pub AreOfOctets : List Sending → Type 0
AreOfOctets sendings = AllByRecursion (λ s. All (λ octet. octet < 256) s.datagram) sendings

-- Whatever frames there are, and whatever datagrams are offered in each, something is sent for them.
abbrev pub AlwaysSends : Type 0
AlwaysSends =
    (s : Settings) (offers : List (List Sending)) (frames : List UplinkSlots) → AreFitSettings s
    → length offers ≡ length frames → AllByRecursion AreOfOctets offers → AllByRecursion AreForSlots offers
    → AllByRecursion IsFrame frames
    → (repeated : ℕ) × (counts : Counts) × (receipts : List Receipt) × (sent : List Sent)
    × IsSentFor s offers frames repeated counts receipts sent
