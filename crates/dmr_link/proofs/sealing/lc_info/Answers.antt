use Rattle.std.proofs.Common.{rules, ◌≡◌, ℕ, List, length, take, sym, ap, ◌∙◌, subst}
use Rattle.std.proofs.lemmas.List.{take_at}
use Rattle.dmr_bits.specs.Bits.{bits_of_octets}
use Rattle.dmr_rs.specs.Word.{IsRsWord}
use Rattle.dmr_link.proofs.SealedForms.{sealed_word}
use Rattle.dmr_link.proofs.sealing.lc_info.Goals as goal

pub returns : goal.returns
returns c =
    let octets : List ℕ = c.octets-octets.result in
    let parity : List ℕ = c.rs_parity.result in
    let word : List ℕ = c.joined-word.result in
    let nine : length octets ≡ 9 = search rules in
    let long : length word ≡ 12 = search rules in
    let spelled = ap (λ l. bits_of_octets (take 9 l)) c.joined-word.ensures.value ∙ ap bits_of_octets (take_at octets parity 9
    nine) ∙ c.octets-octets.ensures.spelled in
    let written = c.from_octets.ensures.value ∙ ap bits_of_octets c.masked.ensures.value in
    record {
      lc = sealed_word c.args.lc_use c.args.lc.now word c.from_octets.result c.octets-octets.ensures.fit long
          c.joined-word.ensures.octets
          (subst IsRsWord (sym c.joined-word.ensures.value) c.rs_parity.ensures.word) spelled written;
    }
