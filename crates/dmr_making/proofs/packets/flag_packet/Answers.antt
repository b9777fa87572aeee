use Rattle.std.proofs.Common.{◌≡◌, ℕ, List, ◌++◌, nat_lt, take, replicate, ap, sym, ◌∙◌, subst}
use Rattle.std.proofs.lemmas.Bool.{lt-ltb}
use Rattle.std.specs.Int.{to_le_bytes, w128}
use Rattle.dmr_data.specs.Packet.{IsWrittenPacket}
use Rattle.dmr_making.proofs.Flags.{chosen}
use Rattle.dmr_making.specs.Packets.{octets_of_flags, flags_from}
use Rattle.dmr_making.proofs.packets.flag_packet.Goals as goal

pub returns-then-wanted-gt64 : goal.returns-then-wanted-gt64
returns-then-wanted-gt64 c = record {
  packet = record {
    rate = c.split_packet.ensures.rate;
    confirmed = c.split_packet.ensures.confirmed;
    written =
        let w = c.args.wanted.now in
        let flags : List ℕ = to_le_bytes w128 (flags_from w.serials.items 0 w.blocks) in
        let number : c.flags_of.result ≡ flags_from w.serials.items 0 w.blocks =
        c.flags_of.ensures.value ∙ ap (λ (l : List ℕ). flags_from l 0 w.blocks) c.deref.ensures.value in
        let bytes : c.to_le_bytes-flags.result ≡ flags =
        c.to_le_bytes-flags.ensures ∙ ap (λ (n : ℕ). to_le_bytes w128 n) number in
        let all : c.as_slice.result.now ≡ flags ++ replicate 4 0 =
        c.as_slice.ensures.value ∙ c.extend_from_slice.ensures.value
        ∙ ap (λ (l : List ℕ). l ++ replicate 4 0) (c.from_slice-octets.ensures.value ∙ bytes) in
        let is : c.as_slice.result.now ≡ octets_of_flags w =
        all ∙ sym (chosen (nat_lt 64 w.blocks) (flags ++ replicate 4 0) (take 8 flags) (lt-ltb 64 w.blocks c.if-wanted-gt64.true))
        in
        subst (λ (l : List ℕ). IsWrittenPacket l c.split_packet.result) is c.split_packet.ensures.written;
  };
}
