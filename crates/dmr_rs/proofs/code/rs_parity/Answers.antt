use Rattle.std.proofs.Common.{◌≡◌, ℕ, List, [], ◌∷◌, ◌++◌, ◌<◌, length, sym, ◌∙◌, ap, arith}
use Rattle.std.specs.List.{All}
use Rattle.std.proofs.lemmas.List.{drop_all}
use Rattle.std.proofs.lemmas.List.Elements.{All-from_get_or}
use Rattle.dmr_bits.specs.Register.{register_after}
use Rattle.dmr_rs.specs.Field.{octet_field}
use Rattle.dmr_rs.specs.Word.{generator_low}
use Rattle.dmr_rs.proofs.Roots.{check, check_is, length-check, three_octets, word_is_completed, only_check}
use Rattle.dmr_rs.proofs.code.rs_parity.Goals as goal

pub returns : goal.returns
returns c =
    let octets : List ℕ = c.args.octets.now in
    let register : List ℕ = c.loop-octet.register in
    let parity : List ℕ = c.from-2.result ∷ c.from-3.result ∷ c.from-4.result ∷ [] in
    let ended : register ≡ check octets =
    ap (register_after octet_field generator_low register) (sym (drop_all c.loop-octet.octet-index octets (omega arith)))
    ∙ c.loop-octet.invariant ∙ check_is octets in
    let long : length register ≡ 3 = ap length ended ∙ length-check octets in
    let same : check octets ≡ parity =
    sym ended ∙ three_octets register _ _ _ _ _ _ long c.from-2.ensures c.from-3.ensures c.from-4.ensures in
    let small : All (λ octet. octet < 256) octets = All-from_get_or (λ octet. octet < 256) octets 0 (λ i h. c.fits-octets i) in
    let made = word_is_completed octets small in
    record {
      word = (made.0, made.1 ∙ ap (λ l. octets ++ l) same);
      only = λ other count is. only_check octets other count is ∙ same;
    }
