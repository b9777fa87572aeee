-- There are slots that a transmission of a script sends.
use Rattle.std.proofs.Common.{◌≡◌, ℕ, zero, suc, ◌+◌, ◌*◌, ◌/◌, ◌%◌, ◌^◌, ◌<◌, ◌≤◌, Bool, true, false, List, [], ◌∷◌, ◌++◌, All}
use Rattle.std.proofs.Common.{length, replicate, take, nat_lt, Option, Some, None, IfSome, slice_get, slice_index_or}
use Rattle.std.proofs.Common.{arith, lit<, refl, sym, subst, ◌∙◌}
use Rattle.std.proofs.Math.Nat.{mod-lt, mul-le-mul_right}
use Rattle.std.proofs.lemmas.List.{length-replicate}
use Rattle.std.proofs.lemmas.List.Elements.{All-cons, All-get_or, All-head, All-nil, All-tail}
use Rattle.std.specs.Bool.{if◌then◌else◌}
use Rattle.std.specs.Int.{to_le_bytes, w128}
use Rattle.std.specs.List.{AllZip}
use Rattle.dmr_bits.proofs.OctetFronts.{length-bits_of_octets}
use Rattle.dmr_bits.specs.Bits.{bits_of_octets}
use Rattle.dmr_bptc.proofs.Existing.{written_somehow}
use Rattle.dmr_bptc.specs.ProductWord.{IsWritten}
use Rattle.dmr_checks.proofs.Existing.{sealed_somehow}
use Rattle.dmr_checks.specs.declared.sealing.Mask.TheVariants as mask
use Rattle.dmr_csbk.proofs.Existing.{csbk_somehow}
use Rattle.dmr_csbk.specs.Block.{FitsCsbk}
use Rattle.dmr_csbk.specs.declared.block.Csbk.{Csbk}
use Rattle.dmr_data.proofs.Existing.{block_somehow, blocks_small, header_somehow, written_packet}
use Rattle.dmr_data.specs.Block.{FitsBlock, IsWrittenBlock, payload}
use Rattle.dmr_data.specs.Header.{IsFitHeader}
use Rattle.dmr_data.specs.declared.block.Block.{Block}
use Rattle.dmr_data.specs.declared.header.Header.{Header}
use Rattle.dmr_data.specs.declared.packet.Packet.{Packet}
use Rattle.dmr_data.specs.declared.rate.Rate.TheVariants.{Half}
use Rattle.dmr_hearing.proofs.Whole.{carrier_somehow}
use Rattle.dmr_link.proofs.Existing.{lc_somehow}
use Rattle.dmr_link.specs.FullLc.{FitsFullLc}
use Rattle.dmr_link.specs.declared.full_lc.FullLc.{FullLc}
use Rattle.dmr_link.specs.declared.sealing.LcUse.{LcUse}
use Rattle.dmr_link.specs.declared.sealing.LcUse.TheVariants.{Header as ForHeader, Terminator}
use Rattle.dmr_making.proofs.Bodies.{body_length, packet_count}
use Rattle.dmr_making.proofs.OtherTries.{answer_fits, short_data_fits, status_fits}
use Rattle.dmr_making.proofs.SmallOctets.{flags_small, packet_small}
use Rattle.dmr_making.proofs.TryFits.{full_try_fits, partial_try_fits, picked_fit}
use Rattle.dmr_making.specs.Calls.{AreFieldsOf, AreFormsOf, CallForms, call_of, call_slots, carried_by, carried_lc}
use Rattle.dmr_making.specs.Controls.{IsLoneInformation, csbk_control, lone_control}
use Rattle.dmr_making.specs.Information.{IsCsbkInformation, IsHeaderInformation, IsLcInformation, IsPiInformation}
use Rattle.dmr_making.specs.Packets.{IsAnswerOf, IsFullTry, IsPacketIn, IsPacketOfFlags, IsPartialTry, IsShortDataTry}
use Rattle.dmr_making.specs.Packets.{flags_from, header_of_answer, octets_of_flags, packet_header, packet_octets, short_try}
use Rattle.dmr_making.specs.Packets.{status_try, try_of_answer, try_with}
use Rattle.dmr_making.specs.Senders.{IsFitAgain, IsSendable}
use Rattle.dmr_making.specs.Sends.{SendsAgain, SendsCall, SendsSaid, SendsTry, Transmitted, one_burst}
use Rattle.dmr_making.specs.Tries.{IsFitTry, TryForms, counts_down, preamble_of, transmission_of_try, try_slots}
use Rattle.dmr_making.specs.declared.tries.SentTry.{SentTry}
use Rattle.dmr_script.specs.Fits.{AreEightBits, AreSoManyOctets, FitsBurst, FitsCall, FitsCarried, FitsPacket}
use Rattle.dmr_script.specs.Fits.{FitsShortData, FitsTransmission}
use Rattle.dmr_script.specs.declared.call.Call.{Call}
use Rattle.dmr_script.specs.declared.call.Carried.{Carried}
use Rattle.dmr_script.specs.declared.call.Carried.TheVariants.{Own, Nothing, LinkControl}
use Rattle.dmr_script.specs.declared.control.LoneBurst.{LoneBurst}
use Rattle.dmr_script.specs.declared.control.LoneBurst.TheVariants as lone
use Rattle.dmr_script.specs.declared.packet.Again.{Again}
use Rattle.dmr_script.specs.declared.packet.Again.TheVariants as again
use Rattle.dmr_script.specs.declared.packet.Answer.{Answer}
use Rattle.dmr_script.specs.declared.packet.AnswerKind.{AnswerKind}
use Rattle.dmr_script.specs.declared.packet.AnswerKind.TheVariants as kind
use Rattle.dmr_script.specs.declared.packet.PacketTry.{PacketTry}
use Rattle.dmr_script.specs.declared.packet.PartialTry.{PartialTry}
use Rattle.dmr_script.specs.declared.packet.ShortDataTry.{ShortDataTry}
use Rattle.dmr_script.specs.declared.packet.Wanted.{Wanted}
use Rattle.dmr_script.specs.declared.statement.Transmission.{Transmission as Said}
use Rattle.dmr_script.specs.declared.statement.Transmission.TheVariants as said

-- 1. The information of data bursts.

-- octets in the twelve of a burst
twelve_somehow : (octets : List ℕ) → length octets ≡ 12 → (information : List Bool) × IsWritten (bits_of_octets octets) information
twelve_somehow octets twelve =
    written_somehow (bits_of_octets octets) (length-bits_of_octets octets ∙ omega (arith, twelve))

lc_information : (lc_use : LcUse) (lc : FullLc) → FitsFullLc lc → (information : List Bool) × IsLcInformation lc_use lc information
lc_information lc_use lc fit =
    let (message, sealed) = lc_somehow lc_use lc fit in
    let (information, written) = written_somehow message sealed.sealed.long in
    (information, record { message = message; sealed = sealed; written = written })

pi_information : (key : List ℕ) → AreSoManyOctets 10 key → (information : List Bool) × IsPiInformation key information
pi_information key fit =
    let (octets, is) = sealed_somehow mask.Pi key fit.count fit.small in
    let (information, written) = twelve_somehow octets is.long in (
      information,
      record {
        octets = octets;
        twelve = is.long;
        small = is.small;
        front = is.begins;
        sealed = is.sealed;
        written = written;
      },
    )

csbk_information : (csbk : Csbk) → FitsCsbk csbk → (information : List Bool) × IsCsbkInformation csbk information
csbk_information csbk fit =
    let (message, block) = csbk_somehow csbk fit in
    let (information, written) = written_somehow message block.long in
    (information, record { message = message; block = block; written = written })

header_information : (header : Header) → IsFitHeader header → (information : List Bool) × IsHeaderInformation header information
header_information header fit =
    let (message, form) = header_somehow header fit in
    let (information, written) = written_somehow message form.long in
    (information, record { message = message; form = form; written = written })

-- 2. Calls.

carried_fits : (own : FullLc) (carried : Carried) → FitsFullLc own → FitsCarried carried
    → IfSome (carried_lc own carried) FitsFullLc
carried_fits own Own fit carried = fit
carried_fits own Nothing fit carried = tt
carried_fits own (LinkControl lc) fit carried = carried

-- what a superframe carries fits
each_fits : (own : FullLc) (carried : List Carried) (number : ℕ) → FitsFullLc own → All FitsCarried carried
    → IfSome (carried_by own carried number) FitsFullLc
each_fits own [] number fit all = fit
each_fits own (first ∷ more) number fit all =
    carried_fits own (slice_index_or (first ∷ more) (number % length (first ∷ more)) first) fit
    (All-get_or FitsCarried (first ∷ more) (number % length (first ∷ more)) first
    (mod-lt number (omega arith)) all)

fields_somehow : (carried : Option FullLc) → IfSome carried FitsFullLc → (fields : List ℕ) × AreFieldsOf carried fields
fields_somehow None fit = (replicate 4 0, refl)
fields_somehow (Some lc) fit = carrier_somehow lc fit

forms_somehow : (call : Call) → FitsCall call → (forms : CallForms) × AreFormsOf call forms
forms_somehow call fit =
    let (header, is_header) = lc_information ForHeader call.link_control fit.link_control in
    let (pi, is_pi) = pi_information call.key fit.key in
    let (terminator, is_terminator) = lc_information Terminator call.link_control fit.link_control in
    let (own, is_own) = carrier_somehow call.link_control fit.link_control in
    let each : (number : ℕ) → (fields : List ℕ) × AreFieldsOf (carried_by call.link_control call.carried.items number) fields =
    λ number. fields_somehow (carried_by call.link_control call.carried.items number)
    (each_fits call.link_control call.carried.items number fit.link_control fit.carried) in (
      record {
        header = header;
        pi_header = pi;
        terminator = terminator;
        fields = λ number. (each number).0;
        own_fields = own;
      },
      record {
        header = is_header;
        pi_header = is_pi;
        terminator = is_terminator;
        fields = λ number. (each number).1;
        own_fields = is_own;
      },
    )

call_somehow : (colour : ℕ) (call : Call) → FitsCall call → (sent : Transmitted) × SendsCall colour call sent
call_somehow colour call fit =
    let (forms, are) = forms_somehow call fit in (
      record { transmission = call_of call forms; slots = call_slots colour call forms },
      record { forms = forms; forms_are = are; is = refl },
    )

-- 3. Tries.

-- where each of a list has something beside it, there is a list beside it
beside_somehow : {A B : Type 0} (P : A → Type 0) (R : A → B → Type 0) → ((x : A) → P x → (y : B) × R x y) → (xs : List A)
    → All P xs → (ys : List B) × AllZip R xs ys
beside_somehow P R each [] all = ([], tt)
beside_somehow P R each (x ∷ xs) all =
    let (y, r) = each x (All-head P x xs all) in
    let (ys, rs) = beside_somehow P R each xs (All-tail P x xs all) in
    (y ∷ ys, (r, rs))

-- a preamble counts in eight bits
counts_small : (preambles blocks : ℕ) → preambles + blocks ≤ 255 → AreEightBits (counts_down preambles blocks)
counts_small zero blocks room = All-nil (λ octet. octet < 256)
counts_small (suc preambles) blocks room =
    All-cons (λ octet. octet < 256) (suc preambles + blocks) (counts_down preambles blocks) (omega (arith, room))
    (counts_small preambles blocks (omega (arith, room)))

kind_small : (group : Bool) → (if group then 0xC0 else 0x80) < 256
kind_small true = lit< tt
kind_small false = lit< tt

preamble_fits : (t : SentTry) (left : ℕ) → t.source < 2 ^ 24 → t.destination < 2 ^ 24 → left < 256 → FitsCsbk (preamble_of t left)
preamble_fits t left source destination few =
    let Small : ℕ → Type 0 = λ octet. octet < 256 in
    let s : ℕ = t.source in
    let d : ℕ = t.destination in
    let from : List ℕ = s / 65536 ∷ s / 256 % 256 ∷ s % 256 ∷ [] in
    let from_small : All Small from =
    All-cons Small (s / 65536) (s / 256 % 256 ∷ s % 256 ∷ []) (omega (arith, source))
    (All-cons Small (s / 256 % 256) (s % 256 ∷ []) (omega arith) (All-cons Small (s % 256) [] (omega arith) (All-nil Small))) in
    record {
      code = lit< tt;
      fid = lit< tt;
      octets =
          All-cons Small (if t.group then 0xC0 else 0x80) (left ∷ d / 65536 ∷ d / 256 % 256 ∷ d % 256 ∷ from) (kind_small t.group)
          (All-cons Small left (d / 65536 ∷ d / 256 % 256 ∷ d % 256 ∷ from) few
          (All-cons Small (d / 65536) (d / 256 % 256 ∷ d % 256 ∷ from) (omega (arith, destination))
          (All-cons Small (d / 256 % 256) (d % 256 ∷ from) (omega arith)
          (All-cons Small (d % 256) from (omega arith) from_small))));
      count = refl;
    }

-- the octets of each block are octets
abbrev HaveSmallOctets : List Block → Type 0
HaveSmallOctets blocks = All (λ block. AreEightBits block.octets) blocks

-- A try that fits, with blocks of octets, has slots.
try_somehow : (t : SentTry) (preambles : ℕ) (presence : List Bool) → IsFitTry t preambles presence → HaveSmallOctets t.blocks
    → (sent : Transmitted) × SendsTry t preambles presence sent
try_somehow t preambles presence fit small =
    let (csbks, are_csbks) = beside_somehow (λ (left : ℕ). left < 256)
    (λ (left : ℕ) (information : List Bool). IsCsbkInformation (preamble_of t left) information)
    (λ left few. csbk_information (preamble_of t left) (preamble_fits t left fit.source fit.destination few))
    (counts_down preambles (length presence)) (counts_small preambles (length presence) fit.room) in
    let (header, is_header) = header_information t.header fit.header in
    let (blocks, are_blocks) = beside_somehow
    (λ (block : Block). FitsBlock t.rate block.serial block.octets × AreEightBits block.octets)
    (λ (block : Block) (information : List Bool). IsWrittenBlock t.rate block information)
    (λ block both. block_somehow t.rate block both.0 both.1) t.blocks
    (λ k d lt. (fit.blocks k d lt, small k d lt)) in
    let forms : TryForms = record { preambles = csbks; header = header; blocks = blocks } in (
      record {
        transmission = transmission_of_try t preambles presence forms;
        slots = try_slots t preambles presence forms;
      },
      record {
        forms = forms;
        forms_are = record { preambles = are_csbks; header = is_header; blocks = are_blocks };
        is = refl;
      },
    )

-- 4. Packets.

-- what so many blocks hold, of which there are at most 127, 127 hold
few_octets : (octets blocks block : ℕ) → octets + 4 ≤ blocks * block → blocks ≤ 127 → octets + 4 ≤ 127 * block
few_octets octets blocks block enough most =
    let all : blocks * block ≤ 127 * block = mul-le-mul_right block most in omega (arith, enough, all)

packet_in_blocks : (p : PacketTry) → FitsPacket p → (packet : Packet) × IsPacketIn p packet
packet_in_blocks p fit =
    let long = body_length p in
    let enough : length (packet_octets p) + 4 ≤ length p.shape.blocks.items * payload p.rate p.confirmed =
    subst (λ (k : ℕ). k + 4 ≤ length p.shape.blocks.items * payload p.rate p.confirmed) (sym long) fit.holds.enough in
    let (packet, rate, confirmed, written) = written_packet (packet_octets p) p.rate p.confirmed
    (few_octets (length (packet_octets p)) (length p.shape.blocks.items) (payload p.rate p.confirmed) enough fit.shape.most) in
    (packet, record { rate = rate; confirmed = confirmed; written = written })

blocks_of_octets : (p : PacketTry) (packet : Packet) → FitsPacket p → IsPacketIn p packet → HaveSmallOctets packet.blocks
blocks_of_octets p packet fit is = blocks_small (packet_octets p) packet (packet_small p fit.body) is.written

-- there is a full try, with blocks of octets
full_somehow : (p : PacketTry) → FitsPacket p → (t : SentTry) × IsFullTry p t × HaveSmallOctets t.blocks
full_somehow p fit =
    let (packet, is) = packet_in_blocks p fit in (
      try_with p (packet_header p packet.pad true (length packet.blocks)) packet.blocks,
      record { packet = packet; packet_is = is; is = refl },
      blocks_of_octets p packet fit is,
    )

-- what stands in a place of a list
at_somehow : {A : Type 0} (xs : List A) (k : ℕ) → k < length xs → (x : A) × (slice_get xs k ≡ Some x)
at_somehow [] k lt = absurd (omega (arith, lt))
at_somehow (x ∷ xs) zero lt = (x, refl)
at_somehow (x ∷ xs) (suc k) lt = at_somehow xs k (omega (arith, lt))

-- there is a partial try, with blocks of octets
partial_somehow : (p : PacketTry) (partial : PartialTry) → FitsPacket p
    → All (λ serial. serial < length p.shape.blocks.items) partial.serials.items
    → (t : SentTry) × IsPartialTry p partial t × HaveSmallOctets t.blocks
partial_somehow p partial fit inside =
    let (packet, is) = packet_in_blocks p fit in
    let count : length packet.blocks ≡ length p.shape.blocks.items = packet_count p packet fit is in
    let (blocks, picked) = beside_somehow (λ (serial : ℕ). serial < length packet.blocks)
    (λ (serial : ℕ) (block : Block). slice_get packet.blocks serial ≡ Some block)
    (λ serial lt. at_somehow packet.blocks serial lt) partial.serials.items
    (λ k d lt. let h = inside k d lt in omega (arith, h, count)) in (
      try_with p (packet_header p packet.pad false (length partial.serials.items)) blocks,
      record { packet = packet; packet_is = is; blocks = blocks; picked = picked; is = refl },
      picked_fit (λ (block : Block). AreEightBits block.octets) packet.blocks partial.serials.items blocks
          (blocks_of_octets p packet fit is) picked,
    )

-- a full try of a packet sends this
abbrev SendsFull : PacketTry → ℕ → List Bool → Transmitted → Type 0
SendsFull p preambles presence sent = (t : SentTry) × IsFullTry p t × SendsTry t preambles presence sent

packet_sent : (p : PacketTry) (preambles : ℕ) (presence : List Bool) → FitsPacket p
    → length presence ≡ length p.shape.blocks.items → preambles + length presence ≤ 255
    → (sent : Transmitted) × SendsFull p preambles presence sent
packet_sent p preambles presence fit count room =
    let (t, is, small) = full_somehow p fit in
    let (sent, sends) = try_somehow t preambles presence (full_try_fits p t preambles presence fit is count room) small in
    (sent, (t, is, sends))

again_somehow : (p : PacketTry) (a : Again) → FitsPacket p → IsFitAgain p a → (sent : Transmitted) × SendsAgain p a sent
again_somehow p (again.Full None) fit again =
    let all : List Bool = replicate (length p.shape.blocks.items) true in
    let long : length all ≡ length p.shape.blocks.items = length-replicate (length p.shape.blocks.items) true in
    let counted = fit.shape.counted in
    packet_sent p 0 all fit long (omega (arith, long, counted))
again_somehow p (again.Full (Some shape)) fit again =
    packet_sent p shape.preambles shape.blocks.items fit again.count again.counted
again_somehow p (again.Partial partial) fit again =
    let (t, is, small) = partial_somehow p partial fit again.1 in
    let (sent, sends) = try_somehow t partial.shape.preambles partial.shape.blocks.items
    (partial_try_fits p partial t fit again.0 is) small in
    (sent, (t, is, sends))

-- 5. Other tries.

short_data_somehow : (s : ShortDataTry) → FitsShortData s → (t : SentTry) × IsShortDataTry s t × HaveSmallOctets t.blocks
short_data_somehow s fit =
    let few = fit.most in
    let (packet, rate, confirmed, written) = written_packet s.octets.items Half false
    (few_octets (length s.octets.items) (length s.shape.blocks.items) (payload Half false) fit.holds.enough (omega (arith, few)))
    in (
      short_try s packet,
      record { packet = packet; rate = rate; confirmed = confirmed; written = written; is = refl },
      blocks_small s.octets.items packet fit.octets written,
    )

few_flags_by : (w : Wanted) (more : Bool)
    → length (if more
    then to_le_bytes w128 (flags_from w.serials.items 0 w.blocks) ++ replicate 4 0
    else take 8 (to_le_bytes w128 (flags_from w.serials.items 0 w.blocks))) + 4 ≤ 127 * payload Half false
few_flags_by w true = omega arith
few_flags_by w false = omega arith

few_flags : (w : Wanted) → length (octets_of_flags w) + 4 ≤ 127 * payload Half false
few_flags w = few_flags_by w (nat_lt 64 w.blocks)

answer_somehow : (a : Answer) (k : AnswerKind) → (t : SentTry) × IsAnswerOf a k t × HaveSmallOctets t.blocks
answer_somehow a kind.Acknowledged =
    (try_of_answer a (header_of_answer a 0 1 0) [], refl, All-nil (λ (block : Block). AreEightBits block.octets))
answer_somehow a kind.Failed =
    (try_of_answer a (header_of_answer a 1 1 0) [], refl, All-nil (λ (block : Block). AreEightBits block.octets))
answer_somehow a (kind.SelectiveRepeat w) =
    let (packet, rate, confirmed, written) = written_packet (octets_of_flags w) Half false (few_flags w) in
    let is : IsPacketOfFlags w packet = record { rate = rate; confirmed = confirmed; written = written } in (
      try_of_answer a (header_of_answer a 2 0 (length packet.blocks)) packet.blocks,
      (packet, is, refl),
      blocks_small (octets_of_flags w) packet (flags_small w) written,
    )

-- 6. Data bursts by themselves.

lone_somehow : (burst : LoneBurst) → FitsBurst burst → (information : List Bool) × IsLoneInformation burst information
lone_somehow (lone.Terminator lc) fit = lc_information Terminator lc fit
lone_somehow (lone.PiHeader octets) fit = twelve_somehow octets fit
lone_somehow (lone.MbcHeader octets) fit = twelve_somehow octets fit
lone_somehow (lone.MbcBlock octets) fit = twelve_somehow octets fit
lone_somehow (lone.UnifiedBlock octets) fit = twelve_somehow octets fit
lone_somehow (lone.RateHalf octets) fit = twelve_somehow octets fit
lone_somehow (lone.RateThreeQuarters bits) fit = (bits, refl)
lone_somehow (lone.RateOne bits) fit = (bits, refl)

-- 7. All of them.

-- A transmission that fits its fields and may be sent sends something.
pub said_somehow : (colour : ℕ) (last : Option PacketTry) (t : Said) → FitsTransmission t → IsSendable last t
    → (sent : Transmitted) × SendsSaid colour last t sent
said_somehow colour last (said.Call call) fit able = call_somehow colour call fit
said_somehow colour last (said.Packet p) fit able =
    packet_sent p p.shape.preambles p.shape.blocks.items fit refl fit.shape.counted
said_somehow colour None (said.Again a) fit able = absurd able
said_somehow colour (Some p) (said.Again a) fit able = again_somehow p a able.0 able.1
said_somehow colour last (said.ShortData s) fit able =
    let (t, is, small) = short_data_somehow s fit in
    let (sent, sends) = try_somehow t s.shape.preambles s.shape.blocks.items (short_data_fits s t fit is) small in
    (sent, (t, is, sends))
said_somehow colour last (said.Status s) fit able =
    try_somehow (status_try s) s.shape.preambles s.shape.blocks.items (status_fits s fit)
    (All-nil (λ (block : Block). AreEightBits block.octets))
said_somehow colour last (said.Answer a) fit able =
    let (t, is, small) = answer_somehow a a.kind in
    let (sent, sends) = try_somehow t a.shape.preambles a.shape.blocks.items (answer_fits a t fit is) small in
    (sent, (t, is, sends))
said_somehow colour last (said.Control csbk) fit able =
    let (information, is) = csbk_information csbk fit in
    (one_burst (csbk_control information), (information, is, refl))
said_somehow colour last (said.Burst burst) fit able =
    let (information, is) = lone_somehow burst fit in
    (one_burst (lone_control burst information), (information, is, refl))
