use Rattle.std.proofs.Common.{◌≡◌, ℕ, ◌<◌, List, [], ◌∷◌, ◌++◌, length, drop, ap, ◌∙◌}
use Rattle.std.proofs.lemmas.List.{take_at, drop_at, append-nil}
use Rattle.std.proofs.lemmas.List.Elements.{All-append, All-same, All-from_get_or}
use Rattle.dmr_link.proofs.sealing.joined.Goals as goal

pub returns : goal.returns
returns c =
    let Small : ℕ → Type 0 = λ octet. octet < 256 in
    let octets : List ℕ = c.args.octets.now in
    let parity : List ℕ = c.args.parity.now in
    let front : List ℕ = c.copy_from_slice.new.self in
    let back : List ℕ = c.copy_from_slice-2.new.self in
    let zeros : List ℕ = 0 ∷ 0 ∷ 0 ∷ [] in
    let nine : length front ≡ 9 = c.copy_from_slice.ensures.len in
    let value = ap (λ l. l ++ (back ++ drop 3 (drop 9 (front ++ zeros)))) (take_at front zeros 9 nine)
    ∙ ap (λ l. front ++ (back ++ drop 3 l)) (drop_at front zeros 9 nine)
    ∙ ap (λ l. front ++ l) (append-nil back)
    ∙ ap (λ l. l ++ back) c.copy_from_slice.ensures.after ∙ ap (λ l. octets ++ l) c.copy_from_slice-2.ensures.after in
    let small = All-append Small octets parity (All-from_get_or Small octets 0 (λ i h. c.fits-octets i)) (All-from_get_or Small
    parity 0 (λ i h. c.fits-parity i)) in
    record { value = value; octets = All-same Small _ (octets ++ parity) value small }
