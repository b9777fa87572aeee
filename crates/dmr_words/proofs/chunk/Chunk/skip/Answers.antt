use Rattle.std.proofs.Common.{◌≡◌, ℕ, ◌+◌, ◌-◌, ◌≤◌, List, length, take, drop, ap, ◌∙◌, sym, subst, arith}
use Rattle.std.proofs.lemmas.List.{drop-take, drop-drop, length-take}
use Rattle.std.specs.List.{slice_range}
use Rattle.dmr_words.proofs.chunk.Chunk.skip.Goals as goal

-- a part of a list, without its first elements
later : (xs : List ℕ) (a n b : ℕ) → n ≤ length (slice_range xs a b) → slice_range xs (a + n) b ≡ drop n (slice_range xs a b)
later xs a n b h =
    let whole : b - a ≡ n + (b - (a + n)) = omega (arith, h, length-take (b - a) (drop a xs)) in
    ap (take (b - (a + n))) (sym (drop-drop n a xs)) ∙ sym (drop-take n (b - (a + n)) (drop a xs))
    ∙ ap (λ m. drop n (take m (drop a xs))) (sym whole)

pub returns : goal.returns
returns c =
    let i = c.self.inside in
    let there = subst (λ (xs : List ℕ). c.args.count ≤ length xs) (sym c.self.view_is) c.requires.there in
    record { rest = later i.octets i.begin c.args.count i.end there ∙ ap (drop c.args.count) c.self.view_is }
