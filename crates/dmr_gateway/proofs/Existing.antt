-- Whatever is repeated is heard as something; whatever fits goes out as a burst; and each datagram without a fault has its packet.
use Rattle.std.proofs.Common.{◌≡◌, ℕ, zero, suc, ◌+◌, ◌*◌, ◌/◌, ◌%◌, ◌^◌, ◌<◌, ◌≤◌, ◌⊎◌, ltb, eqb, ◌||◌, Bool, true, false, cond}
use Rattle.std.proofs.Common.{List, [], ◌∷◌, ◌++◌, length, replicate, slice_get, get_or, Option, Some, None, IfSome, Result, Ok}
use Rattle.std.proofs.Common.{Err, refl, sym, ◌∙◌, ap, subst, arith, inl, inr, lit<, lit≤}
use Rattle.std.specs.Int.{byte_at, bytes_low_first, bytes_high_first, to_be_bytes, to_le_bytes, w16, w128}
use Rattle.std.specs.List.{All}
use Rattle.std.specs.Prelude.{is_some, unwrap_or, option_and_then}
use Rattle.std.specs.Result.{result_ok}
use Rattle.std.proofs.lemmas.Bool.{cases_eq, ltb-false}
use Rattle.std.proofs.lemmas.List.Elements.{All-nil, All-cons, All-append, All-take, All-drop, All-get_or, All-replicate}
use Rattle.std.proofs.lemmas.Option.{slice_get_cases, same_Some}
use Rattle.std.proofs.lemmas.Slice.Eq.{bytes_eq-Decides}
use Rattle.std.proofs.Math.Nat.{mod-lt}
use Rattle.dmr_bptc.proofs.Existing.{written_somehow}
use Rattle.dmr_burst.specs.Burst.{IsBurst, HasWholeLists}
use Rattle.dmr_burst.specs.declared.burst.Burst.{Burst}
use Rattle.dmr_burst.specs.declared.burst.Burst.TheVariants.{Data, VoiceSync, Voice}
use Rattle.dmr_csbk.specs.Block.{FitsCsbk}
use Rattle.dmr_csbk.proofs.Existing.{csbk_somehow}
use Rattle.dmr_data.specs.Block.{FitsBlock, IsReadBlock, payload}
use Rattle.dmr_data.specs.Header.{IsFitHeader}
use Rattle.dmr_data.specs.HeaderForms.{IsReadHeader}
use Rattle.dmr_data.specs.declared.block.Block.{Block}
use Rattle.dmr_data.specs.declared.header.Header.{Header}
use Rattle.dmr_data.specs.declared.packet.Packet.{Packet}
use Rattle.dmr_data.specs.declared.rate.Rate.{Rate}
use Rattle.dmr_data.specs.declared.rate.Rate.TheVariants.{Half, Full}
use Rattle.dmr_data.proofs.Existing.{header_somehow, block_somehow, packet_somehow, read_header_or_not, read_block_or_not}
use Rattle.dmr_data.proofs.Existing.{one_read_block, length-sent, blocks_small}
use Rattle.dmr_data.proofs.HeaderForms.{same_read}
use Rattle.dmr_arq.specs.Fit.{IsFitRoute, IsFitGateBurst}
use Rattle.dmr_arq.specs.declared.answer.Verdict.{Verdict}
use Rattle.dmr_arq.specs.declared.answer.Verdict.TheVariants.{Ack, Failed, Selective}
use Rattle.dmr_arq.specs.declared.sender.GateBurst.{GateBurst}
use Rattle.dmr_arq.specs.declared.sender.GateBurst.TheVariants as of_try
use Rattle.dmr_arq.specs.declared.sender_state.Route.{Route}
use Rattle.dmr_arq.proofs.PacketInHand.{HoldsOfBlocks, HoldsOfBurst}
use Rattle.dmr_arq.proofs.Sound.{by_cond}
use Rattle.dmr_ip.specs.Contents.{Contents, datagram_of, radio_address, address, shown_contents}
use Rattle.dmr_ip.specs.Datagram.{parse}
use Rattle.dmr_ip.specs.Spelling.{compress, written_form, port_octets, identifier_of, address_identifiers}
use Rattle.dmr_ip.specs.declared.fault.IpFault.{IpFault}
use Rattle.dmr_gateway.specs.Answers.{flag_count}
use Rattle.dmr_gateway.specs.Bursts.{IsWordBurst, IsHeaderBurst, IsBlockBurst, IsTryBurst, IsAnswerBurst, IsFlagPacket}
use Rattle.dmr_gateway.specs.Bursts.{IsGatewayBurst, preamble, answer_header, class_of, kind_of, flag_octets}
use Rattle.dmr_gateway.specs.Fit.{IsFitDue, IsFitQueued}
use Rattle.dmr_gateway.specs.Heard.{Tells, IsHeardByGateway, kind_of_rate, nothing_said}
use Rattle.dmr_gateway.specs.Packets.{limit_of, group_of, destination_of, offer_fault, form_of, is_group, rate_of}
use Rattle.dmr_gateway.specs.Packets.{compressed_service, ip_service, IsPacketFor}
use Rattle.dmr_gateway.specs.declared.answers.Due.{Due}
use Rattle.dmr_gateway.specs.declared.fault.GatewayFault.{GatewayFault}
use Rattle.dmr_gateway.specs.declared.fault.GatewayFault.TheVariants.{TooLong}
use Rattle.dmr_gateway.specs.declared.heard.Heard.{Heard}
use Rattle.dmr_gateway.specs.SlotBurst.{SlotBurst}
use Rattle.dmr_gateway.specs.SlotBurst as burst
use Rattle.dmr_gateway.specs.declared.queue.Queued.{Queued}
use Rattle.dmr_gateway.proofs.Bodies.{flag_packet_count, flag_block_fits}
use Rattle.dmr_gateway.proofs.Forms.{form_length, datagram_length, same_octets}

-- ---- what is heard
-- There is one thing or none, and it is told.
told_somehow : {X : Type 0} (P : X → Type 0) → ((x : X) × P x) ⊎ ((x : X) → P x → ⊥) → ((a b : X) → P a → P b → a ≡ b)
    → (found : Option X) × Tells found P
told_somehow {X} P (inl found) one =
    (Some found.0, λ x. (λ e. subst P (same_Some found.0 x e) found.1, λ p. ap Some (one found.0 x found.1 p)))
told_somehow {X} P (inr none) one = (None, λ x. (λ e. absurd (cc), λ p. absurd (none x p)))

told_has : {X : Type 0} (P Q : X → Type 0) (found : Option X) → Tells found P → ((x : X) → P x → Q x) → IfSome found Q
told_has P Q None tells has = tt
told_has P Q (Some x) tells has = has x ((tells x).0 refl)

-- Information of a data type is read as a header,
abbrev IsHeaderOf : ℕ → List Bool → Header → Type 0
IsHeaderOf kind information read = (kind ≡ 6) × IsReadHeader information read

header_or_not : (kind : ℕ) (information : List Bool)
    → ((h : Header) × IsHeaderOf kind information h) ⊎ ((h : Header) → IsHeaderOf kind information h → ⊥)
header_or_not kind information =
    elim (cases_eq kind 6) [
      | inl is ↦
          elim (read_header_or_not information) [
            | inl found ↦ inl (found.0, (is, found.1))
            | inr none ↦ inr (λ h read. none h read.1)
          ]
      | inr other ↦ inr (λ h read. other read.0)
    ]

one_header : (kind : ℕ) (information : List Bool) (a b : Header) → IsHeaderOf kind information a → IsHeaderOf kind information b
    → a ≡ b
one_header kind information a b p q = same_read a b information q.1.message p.1 q.1.decoded q.1.form

-- or as a block at the rate of the type.
abbrev IsBlockOf : ℕ → List Bool → Option ℕ → Block → Type 0
IsBlockOf kind information total block = (rate : Rate) × (kind ≡ kind_of_rate rate) × IsReadBlock rate total information block

rate_by : (kind : ℕ) (rate other : Rate) → kind ≡ kind_of_rate rate → kind ≡ kind_of_rate other → rate ≡ other
rate_by kind Half Half e f = refl
rate_by kind Half Full e f = absurd (omega arith)
rate_by kind Full Half e f = absurd (omega arith)
rate_by kind Full Full e f = refl

block_at_rate : (kind : ℕ) (information : List Bool) (total : Option ℕ) (rate : Rate) → kind ≡ kind_of_rate rate
    → ((b : Block) × IsBlockOf kind information total b) ⊎ ((b : Block) → IsBlockOf kind information total b → ⊥)
block_at_rate kind information total rate is =
    elim (read_block_or_not rate total information) [
      | inl found ↦ inl (found.0, (rate, is, found.1))
      | inr none ↦ inr (λ b read. none b
          (subst (λ (r : Rate). IsReadBlock r total information b) (rate_by kind read.0 rate read.1 is) read.2))
    ]

block_or_not : (kind : ℕ) (information : List Bool) (total : Option ℕ)
    → ((b : Block) × IsBlockOf kind information total b) ⊎ ((b : Block) → IsBlockOf kind information total b → ⊥)
block_or_not kind information total =
    elim (cases_eq kind 7) [
      | inl half ↦ block_at_rate kind information total Half half
      | inr other ↦
          elim (cases_eq kind 10) [
            | inl full ↦ block_at_rate kind information total Full full
            | inr neither ↦ inr (λ b read. no_rate kind read.0 read.1 other neither)
          ]
    ]
  where
    no_rate : (kind : ℕ) (rate : Rate) → kind ≡ kind_of_rate rate → (kind ≡ 7 → ⊥) → (kind ≡ 10 → ⊥) → ⊥
    no_rate kind Half e h f = h e
    no_rate kind Full e h f = f e

one_block : (kind : ℕ) (information : List Bool) (total : Option ℕ) (a b : Block) → IsBlockOf kind information total a
    → IsBlockOf kind information total b → a ≡ b
one_block kind information total a b p q =
    one_read_block q.0 total information a b
    (subst (λ (r : Rate). IsReadBlock r total information a) (rate_by kind p.0 q.0 p.1 q.1) p.2) q.2

-- What is heard, whose header fits.
pub record IsWholeHearing (burst : Option Burst) (h : Heard) : Type 0 where
  pub is : IsHeardByGateway burst h
  pub header : IfSome h.header IsFitHeader

nothing_heard : (burst : Option Burst) → ((h : Heard) → h ≡ nothing_said → IsHeardByGateway burst h)
    → (h : Heard) × IsWholeHearing burst h
nothing_heard burst is = (nothing_said, record { is = is nothing_said refl; header = tt })

-- any burst, or silence, is heard as something, with a header that fits its fields or none
pub hears_somehow : (burst : Option Burst) → (h : Heard) × IsWholeHearing burst h
hears_somehow None = nothing_heard None (λ h e. e)
hears_somehow (Some (Data colour kind information)) =
    let (header, first) = told_somehow (IsHeaderOf kind information) (header_or_not kind information) (one_header kind information)
    in
    let (unconfirmed, second) = told_somehow (IsBlockOf kind information None) (block_or_not kind information None)
    (one_block kind information None) in
    let (confirmed, third) = told_somehow (IsBlockOf kind information (Some 128)) (block_or_not kind information (Some 128))
    (one_block kind information (Some 128)) in (
      record { header = header; unconfirmed = unconfirmed; confirmed = confirmed },
      record {
        is = record { header = first; unconfirmed = second; confirmed = third };
        header = told_has (IsHeaderOf kind information) IsFitHeader header first (λ x p. p.1.form.fit);
      },
    )
hears_somehow (Some (VoiceSync vocoder)) = nothing_heard (Some (VoiceSync vocoder)) (λ h e. e)
hears_somehow (Some (Voice emb embedded vocoder)) = nothing_heard (Some (Voice emb embedded vocoder)) (λ h e. e)

-- ---- octets of numbers
abbrev pub AreSmall : List ℕ → Type 0
AreSmall octets = All (λ octet. octet < 256) octets

small_byte : (k n : ℕ) → byte_at k n < 256
small_byte zero n = omega arith
small_byte (suc k) n = mod-lt (n / 256 ^ suc k) (lit< tt)

low_bytes_small : (first count n : ℕ) → AreSmall (bytes_low_first first count n)
low_bytes_small first zero n = All-nil (λ octet. octet < 256)
low_bytes_small first (suc count) n =
    All-cons (λ octet. octet < 256) (byte_at first n) (bytes_low_first (suc first) count n) (small_byte first n)
    (low_bytes_small (suc first) count n)

high_bytes_small : (count n : ℕ) → AreSmall (bytes_high_first count n)
high_bytes_small zero n = All-nil (λ octet. octet < 256)
high_bytes_small (suc count) n =
    All-cons (λ octet. octet < 256) (byte_at count n) (bytes_high_first count n) (small_byte count n) (high_bytes_small count n)

-- ---- what goes out
-- A burst that can be sent.
pub record IsWholeBurst (b : Burst) : Type 0 where
  pub fit : IsBurst b
  pub long : HasWholeLists b

word_somehow : (colour kind : ℕ) (message : List Bool) → colour < 16 → kind < 16 → length message ≡ 96
    → (b : Burst) × IsWordBurst colour kind message b × IsWholeBurst b
word_somehow colour kind message low small long =
    let (information, written) = written_somehow message long in (
      Data colour kind information,
      (information, written, refl),
      record { fit = (low, small); long = written.long },
    )

header_burst : (colour : ℕ) (h : Header) → colour < 16 → IsFitHeader h → (b : Burst) × IsHeaderBurst colour h b × IsWholeBurst b
header_burst colour h low fit =
    let (message, form) = header_somehow h fit in
    let (b, is, whole) = word_somehow colour 6 message low (lit< tt) form.long in
    (b, (message, form, is), whole)

low_kind : (rate : Rate) → kind_of_rate rate < 16
low_kind Half = lit< tt
low_kind Full = lit< tt

block_burst : (colour : ℕ) (rate : Rate) (block : Block) → colour < 16 → FitsBlock rate block.serial block.octets
    → AreSmall block.octets → (b : Burst) × IsBlockBurst colour rate block b × IsWholeBurst b
block_burst colour rate block low fit small =
    let (information, written) = block_somehow rate block fit small in (
      Data colour (kind_of_rate rate) information,
      (information, written, refl),
      record { fit = (low, low_kind rate); long = length-sent rate block information written },
    )

-- A preamble has octets for its fields.
three_octets : ℕ → List ℕ
three_octets n = n / 65536 ∷ n / 256 % 256 ∷ n % 256 ∷ []

three_small : (n : ℕ) → n < 2 ^ 24 → AreSmall (three_octets n)
unfolding three_octets
three_small n h =
    let Small : ℕ → Type 0 = λ octet. octet < 256 in
    All-cons Small (n / 65536) (n / 256 % 256 ∷ n % 256 ∷ []) (omega arith)
    (All-cons Small (n / 256 % 256) (n % 256 ∷ []) (omega arith) (All-cons Small (n % 256) [] (omega arith) (All-nil Small)))

preamble_fits : (llid left : ℕ) (route : Route) → llid < 2 ^ 24 → left < 2 ^ 8 → IsFitRoute route
    → FitsCsbk (preamble llid left route)
unfolding three_octets
preamble_fits llid left route own few to =
    let Small : ℕ → Type 0 = λ octet. octet < 256 in
    let both : List ℕ = three_octets route.destination ++ three_octets llid in
    let behind : AreSmall both =
    All-append Small (three_octets route.destination) (three_octets llid) (three_small route.destination to.destination)
    (three_small llid own) in
    record {
      code = lit< tt;
      fid = lit< tt;
      octets = All-cons Small (cond route.group 0xC0 0x80) (left ∷ both)
          (by_cond Small route.group 0xC0 0x80 (λ e. lit< tt) (λ e. lit< tt)) (All-cons Small left both few behind);
      count = refl;
    }

try_burst : (colour llid : ℕ) (sending : GateBurst) → colour < 16 → llid < 2 ^ 24 → IsFitGateBurst sending
    → HoldsOfBurst (λ block. AreSmall block.octets) sending → (b : Burst) × IsTryBurst colour llid sending b × IsWholeBurst b
try_burst colour llid (of_try.Preamble left route) low own fit small =
    let (message, is) = csbk_somehow (preamble llid left route) (preamble_fits llid left route own fit.0 fit.1) in
    let (b, word, whole) = word_somehow colour 3 message low (lit< tt) is.long in
    (b, (message, is, word), whole)
try_burst colour llid (of_try.Header h) low own fit small = header_burst colour h low fit
try_burst colour llid (of_try.Block block rate) low own fit small = block_burst colour rate block low fit small

low_class : (verdict : Verdict) → class_of verdict < 4
low_class Ack = lit< tt
low_class Failed = lit< tt
low_class Selective = lit< tt

low_type : (verdict : Verdict) → kind_of verdict < 8
low_type Ack = lit< tt
low_type Failed = lit< tt
low_type Selective = lit< tt

few_flags : (due : Due) (verdict : Verdict) → flag_count (record due { answer = record due.answer { verdict = verdict } }) ≤ 2
few_flags due Ack = omega arith
few_flags due Failed = omega arith
few_flags due Selective = by_cond (λ (n : ℕ). n ≤ 2) (ltb 64 due.blocks) _ _ (λ e. omega arith) (λ e. omega arith)

answer_fits : (due : Due) → IsFitDue due → IsFitHeader (answer_header due)
answer_fits due fit =
    let few : flag_count due ≤ 2 = few_flags due due.answer.verdict in
    let class = low_class due.answer.verdict in
    let kind = low_type due.answer.verdict in
    (lit< tt, (fit.sap, (fit.to, (fit.from, (omega arith, (class, (kind, (fit.number, tt))))))))

flags_small : (due : Due) → AreSmall (flag_octets due)
flags_small due =
    let Small : ℕ → Type 0 = λ octet. octet < 256 in
    let all : AreSmall (to_le_bytes w128 due.answer.flags) = low_bytes_small 0 16 due.answer.flags in
    by_cond AreSmall (eqb (flag_count due) 2) _ _
    (λ two. All-append Small (to_le_bytes w128 due.answer.flags) (replicate 4 0) all (All-replicate Small 4 0 (lit< tt)))
    (λ one. All-take Small 8 (to_le_bytes w128 due.answer.flags) all)

flags_short : (due : Due) → length (flag_octets due) + 4 ≤ 127 * payload Half false
flags_short due =
    by_cond (λ (l : List ℕ). length l + 4 ≤ 127 * payload Half false) (eqb (flag_count due) 2) _ _ (λ two. lit≤ tt) (λ one. lit≤ tt)

block_of : (packet : Packet) (place : ℕ) → place < length packet.blocks
    → (block : Block) × (slice_get packet.blocks place ≡ Some block) × (get_or packet.blocks place block ≡ block)
block_of packet place below =
    elim (slice_get_cases packet.blocks place).1 [
      | inl k ↦ (k.0, k.2, k.3)
      | inr k ↦ (let past = k.0 in absurd (omega arith))
    ]

answer_burst : (colour : ℕ) (due : Due) (number : ℕ) → colour < 16 → IsFitDue due → number ≤ flag_count due
    → (b : Burst) × IsAnswerBurst colour due number b × IsWholeBurst b
answer_burst colour due zero low fit few = header_burst colour (answer_header due) low (answer_fits due fit)
answer_burst colour due (suc place) low fit few =
    let (packet, sent) = packet_somehow (flag_octets due) Half false (flags_short due) in
    let is : IsFlagPacket due packet = record { rate = sent.rate_is; confirmed = sent.confirmed_is; written = sent.is } in
    let below : place < length packet.blocks = (let count = flag_packet_count due packet is in omega arith) in
    let (block, found, same) = block_of packet place below in
    let fits : FitsBlock Half block.serial block.octets =
    subst (λ (x : Block). FitsBlock Half x.serial x.octets) same (flag_block_fits due packet place block is below) in
    let small : AreSmall block.octets =
    subst (λ (x : Block). AreSmall x.octets) same
    (All-get_or (λ (x : Block). AreSmall x.octets) packet.blocks place block below
    (blocks_small (flag_octets due) packet (flags_small due) sent.is)) in
    let (b, carries, whole) = block_burst colour Half block low fits small in
    (b, (packet, block, is, found, carries), whole)

-- What a burst carries fits its fields, and no burst of an answer stands behind its last flags.
abbrev pub IsFitBurst : SlotBurst → Type 0
IsFitBurst (burst.Answer due number) = IsFitDue due × (number ≤ flag_count due)
IsFitBurst (burst.Try b) = IsFitGateBurst b

-- What a slot sends fits, and the octets of its blocks are octets.
abbrev pub HasSmallBlock : SlotBurst → Type 0
HasSmallBlock (burst.Answer due number) = Unit {0}
HasSmallBlock (burst.Try sending) = HoldsOfBurst (λ block. AreSmall block.octets) sending

-- What a slot sends fits its fields, and its octets are octets.
pub record IsWholeSending (sending : SlotBurst) : Type 0 where
  pub fit : IsFitBurst sending
  pub small : HasSmallBlock sending

-- there is a burst for all that a slot sends and that fits its fields, and the burst fits too
pub burst_somehow : (colour llid : ℕ) (sending : SlotBurst) → colour < 16 → llid < 2 ^ 24 → IsWholeSending sending
    → (b : Burst) × IsGatewayBurst colour llid sending b × IsWholeBurst b
burst_somehow colour llid (burst.Answer due number) low own whole = answer_burst colour due number low whole.fit.0 whole.fit.1
burst_somehow colour llid (burst.Try sending) low own whole = try_burst colour llid sending low own whole.fit whole.small

-- ---- what is queued
-- A compressed form is of octets, and no longer than the datagram.
record IsShort (octets form : List ℕ) : Type 0 where
  small : AreSmall form
  short : length form ≤ length octets

ports_small : (identifier port : ℕ) → AreSmall (port_octets identifier port)
ports_small identifier port =
    by_cond AreSmall (eqb identifier 0) _ _ (λ zero. high_bytes_small 2 port) (λ other. All-nil (λ octet. octet < 256))

small_identifier : (port : ℕ) → identifier_of port < 256
small_identifier port =
    by_cond (λ (n : ℕ). n < 256) (eqb port 5016) _ _ (λ first. lit< tt)
    (λ other. by_cond (λ (n : ℕ). n < 256) (eqb port 5017) _ _ (λ second. lit< tt) (λ neither. lit< tt))

form_small : (group : Bool) (c : Contents) → AreSmall c.payload → AreSmall (written_form group c)
form_small group c small =
    let Small : ℕ → Type 0 = λ octet. octet < 256 in
    let first : ℕ = identifier_of c.source_port in
    let second : ℕ = identifier_of c.destination_port in
    let last : List ℕ = port_octets second c.destination_port ++ c.payload in
    let ports : List ℕ = port_octets first c.source_port ++ last in
    All-append Small (to_be_bytes w16 c.identification) (address_identifiers group ∷ first ∷ second ∷ ports)
    (high_bytes_small 2 c.identification)
    (All-cons Small (address_identifiers group) (first ∷ second ∷ ports) (by_cond Small group 2 0 (λ e. lit< tt) (λ e. lit< tt))
    (All-cons Small first (second ∷ ports) (small_identifier c.source_port)
    (All-cons Small second ports (small_identifier c.destination_port)
    (All-append Small (port_octets first c.source_port) last (ports_small first c.source_port)
    (All-append Small (port_octets second c.destination_port) c.payload (ports_small second c.destination_port) small)))))

compressed_short : (datagram : List ℕ) (source destination : ℕ) (group : Bool) → AreSmall datagram
    → IfSome (compress datagram source destination group) (IsShort datagram)
compressed_short datagram source destination group small =
    let c : Contents = shown_contents datagram in
    by_cond (λ (o : Option (List ℕ)). IfSome o (IsShort datagram)) _ _ _
    (λ is.
    let same : datagram ≡ datagram_of source destination group c = (bytes_eq-Decides datagram _).0 is in
    let long : length datagram ≡ 28 + length c.payload =
    ap length same ∙ datagram_length (radio_address source) (address group destination) c in
    let short = form_length group c in
    record { small = form_small group c (All-drop (λ octet. octet < 256) 28 datagram small); short = omega arith })
    (λ other. tt)

form_short : (octets : List ℕ) (source destination : ℕ) (group : Bool) (parsed : Result (List ℕ) IpFault)
    → ((datagram : List ℕ) → Ok datagram ≡ parsed → datagram ≡ octets) → AreSmall octets
    → IfSome (option_and_then (λ datagram. compress datagram source destination group) (result_ok parsed)) (IsShort octets)
form_short octets source destination group (Err fault) same small = tt
form_short octets source destination group (Ok datagram) same small =
    let is : datagram ≡ octets = same datagram refl in
    subst (λ (d : List ℕ). IfSome (compress d source destination group) (IsShort octets)) (sym is)
    (compressed_short octets source destination group small)

body_short : (form : Option (List ℕ)) (octets : List ℕ) → IfSome form (IsShort octets) → AreSmall octets
    → IsShort octets (unwrap_or form octets)
body_short None octets is small = record { small = small; short = omega arith }
body_short (Some form) octets is small = is

-- Octets without a fault aren't too long for their packet.
most_octets : (confirmed full : Bool) (n : ℕ) → n ≤ limit_of confirmed full → n + 4 ≤ 127 * payload (rate_of full) confirmed
most_octets true false n h = omega arith
most_octets true true n h = omega arith
most_octets false false n h = omega arith
most_octets false true n h = omega arith

faultless : (confirmed full : Bool) (count : ℕ) (octets : List ℕ) → offer_fault confirmed full count octets ≡ None
    → length octets ≤ limit_of confirmed full
faultless confirmed full count octets none =
    within (ltb (limit_of confirmed full) count) (ltb (limit_of confirmed full) (length octets)) _ none
    (λ e. ltb-false (limit_of confirmed full) (length octets) e)
  where
    within : (a b : Bool) (rest : Option GatewayFault) → cond (a || b) (Some TooLong) rest ≡ None
        → (b ≡ false → length octets ≤ limit_of confirmed full) → length octets ≤ limit_of confirmed full
    within true b rest e fits = absurd (cc)
    within false true rest e fits = absurd (cc)
    within false false rest e fits = fits refl

-- An octet in a place, where there is one; 0 otherwise.
small_at : (octets : List ℕ) (place : ℕ) → AreSmall octets → get_or octets place 0 < 256
small_at [] place small = lit< tt
small_at (o ∷ octets) zero small = All-get_or (λ octet. octet < 256) (o ∷ octets) 0 0 (omega arith) small
small_at (o ∷ octets) (suc place) small = small_at octets place (All-drop (λ octet. octet < 256) 1 (o ∷ octets) small)

-- A packet that waits fits, and the octets of its blocks are octets.
pub record IsWholeQueued (q : Queued) : Type 0 where
  pub fit : IsFitQueued q
  pub small : HoldsOfBlocks (λ block. AreSmall block.octets) q.packet

-- a datagram without a fault has a packet, which fits its fields
pub queued_somehow : (llid : ℕ) (confirmed full : Bool) (count : ℕ) (octets : List ℕ)
    → offer_fault confirmed full count octets ≡ None → AreSmall octets
    → (q : Queued) × IsPacketFor llid confirmed full octets q × IsWholeQueued q
queued_somehow llid confirmed full count octets none small =
    let group : Bool = is_group (group_of octets) in
    let form : Option (List ℕ) = form_of octets llid (destination_of octets) group in
    let service : ℕ = cond (is_some form) compressed_service ip_service in
    let route : Route = record { destination = destination_of octets; group = group; sap = service } in
    let body : List ℕ = unwrap_or form octets in
    let is : IsShort octets body =
    body_short form octets (form_short octets llid (destination_of octets) group (parse octets)
    (λ datagram e. same_octets _ octets datagram e) small) small in
    let most : length octets ≤ limit_of confirmed full = faultless confirmed full count octets none in
    let fewer = is.short in
    let (packet, sent) = packet_somehow body (rate_of full) confirmed
    (most_octets confirmed full (length body) (omega arith)) in
    let a = small_at octets 17 small in
    let b = small_at octets 18 small in
    let c = small_at octets 19 small in (
      record { packet = packet; route = route },
      record { route_is = refl; rate = sent.rate_is; confirmed_is = sent.confirmed_is; packet = sent.is },
      record {
        fit = record {
          packet = (body, sent.is);
          route = record {
            destination = omega arith;
            sap = by_cond (λ (n : ℕ). n < 2 ^ 4) (is_some form) compressed_service ip_service (λ e. lit< tt) (λ e. lit< tt);
          };
        };
        small = blocks_small body packet is.small sent.is;
      },
    )

-- ---- laws
pub burst_is_heard : (burst : Option Burst) → (h : Heard) × IsHeardByGateway burst h
burst_is_heard burst = let (h, hearing) = hears_somehow burst in (h, hearing.is)

-- A datagram that nothing refuses has a packet.
pub datagram_is_sent : (llid : ℕ) (confirmed full : Bool) (octets : List ℕ)
    → offer_fault confirmed full (length octets) octets ≡ None → All (λ octet. octet < 256) octets
    → (q : Queued) × IsPacketFor llid confirmed full octets q
datagram_is_sent llid confirmed full octets none small =
    let (q, is, whole) = queued_somehow llid confirmed full (length octets) octets none small in (q, is)
