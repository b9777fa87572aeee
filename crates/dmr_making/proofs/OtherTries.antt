-- Short data, status and answers of a script fit their fields, and there is one of each.
use Rattle.std.proofs.Common.{◌≡◌, ℕ, ◌<◌, ◌≤◌, Bool, true, false, All, List, [], ◌++◌, length, take, replicate}
use Rattle.std.proofs.Common.{nat_lt}
use Rattle.std.proofs.Common.{arith, refl, ap, sym, ◌∙◌, subst}
use Rattle.std.specs.Bool.{if◌then◌else◌}
use Rattle.std.specs.Int.{to_le_bytes, w128}
use Rattle.dmr_data.proofs.Packets.{written_is_packet}
use Rattle.dmr_data.proofs.WrittenPackets.{packet_fits, one_packet}
use Rattle.dmr_data.specs.Block.{FitsBlock, payload}
use Rattle.dmr_data.specs.Packet.{IsWrittenPacket}
use Rattle.dmr_data.specs.declared.block.Block.{Block}
use Rattle.dmr_data.specs.declared.packet.Packet.{Packet}
use Rattle.dmr_data.specs.declared.rate.Rate.{Rate}
use Rattle.dmr_data.specs.declared.rate.Rate.TheVariants.{Half}
use Rattle.dmr_making.proofs.Bodies.{count_of_blocks}
use Rattle.dmr_making.specs.Packets.{IsShortDataTry, status_try, IsAnswerOf, IsPacketOfFlags, octets_of_flags, flags_from}
use Rattle.dmr_making.specs.Packets.{header_of_answer}
use Rattle.dmr_making.specs.Packets.{try_of_answer}
use Rattle.dmr_making.specs.Packets.{short_try}
use Rattle.dmr_making.specs.Tries.{IsFitTry}
use Rattle.dmr_making.specs.declared.tries.SentTry.{SentTry}
use Rattle.dmr_script.specs.Fits.{FitsShortData, FitsStatus, FitsAnswer, answer_flag_blocks}
use Rattle.dmr_script.specs.declared.packet.Answer.{Answer}
use Rattle.dmr_script.specs.declared.packet.AnswerKind.{AnswerKind}
use Rattle.dmr_script.specs.declared.packet.AnswerKind.TheVariants as kind
use Rattle.dmr_script.specs.declared.packet.ShortDataTry.{ShortDataTry}
use Rattle.dmr_script.specs.declared.packet.StatusSent.{StatusSent}
use Rattle.dmr_script.specs.declared.packet.Wanted.{Wanted}

-- the blocks of unconfirmed packets at rate 1/2 fit their bursts
half_fits : (body : List ℕ) (packet : Packet) → packet.rate ≡ Half → IsWrittenPacket body packet
    → All (λ block. FitsBlock Half block.serial block.octets) packet.blocks
half_fits body packet rate written =
    subst (λ (r : Rate). All (λ block. FitsBlock r block.serial block.octets) packet.blocks) rate
    (packet_fits body packet (written_is_packet body packet written))

-- Short data has one try.
pub one_short_data : (s : ShortDataTry) (a b : SentTry) → IsShortDataTry s a → IsShortDataTry s b → a ≡ b
one_short_data s a b u v =
    u.is
    ∙ ap (λ (packet : Packet). short_try s packet) (one_packet s.octets.items u.packet v.packet (u.rate ∙ sym v.rate)
    (u.confirmed ∙ sym v.confirmed) u.written v.written)
    ∙ sym v.is

-- A try of short data that fits its statement fits the channel.
pub short_data_fits : (s : ShortDataTry) (t : SentTry) → FitsShortData s → IsShortDataTry s t
    → IsFitTry t s.shape.preambles s.shape.blocks.items
short_data_fits s t fit u =
    let size : payload u.packet.rate u.packet.confirmed ≡ 12 = cc (u.rate, u.confirmed) in
    let few : u.packet.pad < 12 = subst (λ (k : ℕ). u.packet.pad < k) size u.written.fewest in
    let count : length u.packet.blocks ≡ length s.shape.blocks.items =
    count_of_blocks s.octets.items u.packet 12 (length s.shape.blocks.items) size u.written fit.holds.enough fit.holds.fewest in
    let less : length u.packet.blocks < 64 = omega (arith, count, fit.most) in
    subst (λ (x : SentTry). IsFitTry x s.shape.preambles s.shape.blocks.items) (sym u.is) (record {
      source = fit.source;
      destination = fit.destination;
      header = (
        omega arith,
        (
          omega arith,
          (
            omega arith,
            (
              omega arith,
              (
                fit.destination,
                (
                  fit.source,
                  (
                    fit.format,
                    (
                      omega arith,
                      tt,
                    ),
                  ),
                ),
              ),
            ),
          ),
        ),
      );
      blocks = half_fits s.octets.items u.packet u.rate u.written;
      count = count;
      room = fit.shape.counted;
    })

-- A try of a status that fits its statement fits the channel.
pub status_fits : (s : StatusSent) → FitsStatus s → IsFitTry (status_try s) s.shape.preambles s.shape.blocks.items
status_fits s fit = record {
  source = fit.header.source;
  destination = fit.header.destination;
  header = (
    omega arith,
    (
      omega arith,
      (
        omega arith,
        (
          omega arith,
          (
            fit.header.destination,
            (
              fit.header.source,
              (fit.header.source_port, (fit.header.destination_port, (fit.header.status, tt))),
            ),
          ),
        ),
      ),
    ),
  );
  blocks = λ k d lt. absurd (omega arith);
  count = sym fit.shape.count;
  room = fit.shape.counted;
}

-- An answer has one try.
pub one_answer : (a : Answer) (k : AnswerKind) (t u : SentTry) → IsAnswerOf a k t → IsAnswerOf a k u → t ≡ u
one_answer a kind.Acknowledged t u p q = p ∙ sym q
one_answer a kind.Failed t u p q = p ∙ sym q
one_answer a (kind.SelectiveRepeat w) t u p q =
    p.2
    ∙ ap (λ (packet : Packet). try_of_answer a (header_of_answer a 2 0 (length packet.blocks)) packet.blocks)
    (one_packet (octets_of_flags w) p.0 q.0 (p.1.rate ∙ sym q.1.rate) (p.1.confirmed ∙ sym q.1.confirmed) p.1.written q.1.written)
    ∙ sym q.2

-- eight octets, or twenty
flag_count_by : (w : Wanted) (packet : Packet) (more : Bool) → nat_lt 64 w.blocks ≡ more → IsPacketOfFlags w packet
    → length packet.blocks ≡ (if more then 2 else 1)
flag_count_by w packet true e f =
    let size : payload packet.rate packet.confirmed ≡ 12 = cc (f.rate, f.confirmed) in
    let octets : List ℕ = to_le_bytes w128 (flags_from w.serials.items 0 w.blocks) in
    let long : length (octets_of_flags w) ≡ 20 = ap (λ (b : Bool). length (if b then octets ++ replicate 4 0 else take 8 octets))
    e in
    count_of_blocks (octets_of_flags w) packet 12 2 size f.written (omega (arith, long)) (omega (arith, long))
flag_count_by w packet false e f =
    let size : payload packet.rate packet.confirmed ≡ 12 = cc (f.rate, f.confirmed) in
    let octets : List ℕ = to_le_bytes w128 (flags_from w.serials.items 0 w.blocks) in
    let long : length (octets_of_flags w) ≡ 8 = ap (λ (b : Bool). length (if b then octets ++ replicate 4 0 else take 8 octets)) e
    in
    count_of_blocks (octets_of_flags w) packet 12 1 size f.written (omega (arith, long)) (omega (arith, long))

-- an answer with these blocks fits
with_fits : (a : Answer) (k : AnswerKind) (class type : ℕ) (blocks : List Block) → a.kind ≡ k → FitsAnswer a → class < 4 → type < 8
    → length blocks ≡ answer_flag_blocks k → length blocks < 128 → All (λ block. FitsBlock Half block.serial block.octets) blocks
    → IsFitTry (try_of_answer a (header_of_answer a class type (length blocks)) blocks) a.shape.preambles a.shape.blocks.items
with_fits a k class type blocks e fit small few count less each = record {
  source = fit.source;
  destination = fit.destination;
  header = (omega arith, (fit.sap, (fit.destination, (fit.source, (less, (small, (few, (fit.number, tt))))))));
  blocks = each;
  count = count ∙ sym (fit.shape.count ∙ ap answer_flag_blocks e);
  room = fit.shape.counted;
}

-- an answer of this kind fits
answer_by : (a : Answer) (k : AnswerKind) (t : SentTry) → a.kind ≡ k → FitsAnswer a → IsAnswerOf a k t
    → IsFitTry t a.shape.preambles a.shape.blocks.items
answer_by a kind.Acknowledged t e fit p =
    subst (λ (x : SentTry). IsFitTry x a.shape.preambles a.shape.blocks.items) (sym p)
    (with_fits a kind.Acknowledged 0 1 [] e fit (omega arith) (omega arith) refl (omega arith) (λ k d lt. absurd (omega arith)))
answer_by a kind.Failed t e fit p =
    subst (λ (x : SentTry). IsFitTry x a.shape.preambles a.shape.blocks.items) (sym p)
    (with_fits a kind.Failed 1 1 [] e fit (omega arith) (omega arith) refl (omega arith) (λ k d lt. absurd (omega arith)))
answer_by a (kind.SelectiveRepeat w) t e fit p =
    let packet : Packet = p.0 in
    let count : length packet.blocks ≡ answer_flag_blocks (kind.SelectiveRepeat w) =
    flag_count_by w packet (nat_lt 64 w.blocks) refl p.1 in
    let most : length packet.blocks ≤ 127 = p.1.written.most in
    subst (λ (x : SentTry). IsFitTry x a.shape.preambles a.shape.blocks.items) (sym p.2)
    (with_fits a (kind.SelectiveRepeat w) 2 0 packet.blocks e fit (omega arith) (omega arith) count (omega (arith, most))
    (half_fits (octets_of_flags w) packet p.1.rate p.1.written))

-- A try of an answer that fits its statement fits the channel.
pub answer_fits : (a : Answer) (t : SentTry) → FitsAnswer a → IsAnswerOf a a.kind t
    → IsFitTry t a.shape.preambles a.shape.blocks.items
answer_fits a t fit p = answer_by a a.kind t refl fit p
