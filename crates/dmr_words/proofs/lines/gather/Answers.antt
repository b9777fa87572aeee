use Rattle.std.proofs.Common.{rules, ◌≡◌, ◌<◌, ℕ, false, List, ◌++◌, length, Result, Ok, Err, IfErr, OnOk, refl, sym, ap, subst}
use Rattle.std.proofs.Common.{◌∙◌, inl, inr, ⊎_elim, arith}
use Rattle.std.specs.Result.{is_err}
use Rattle.std.proofs.lemmas.Bool.{true≢false, false≢true, eqb-false}
use Rattle.dmr_words.specs.Lines.{HasLineFeed, line_length, line_limit}
use Rattle.dmr_words.proofs.Gathering.{passes_as, passes_none, passes_more, unended_none, piece_unended, piece_fed, piece_unfed}
use Rattle.dmr_words.proofs.Gathering.{piece_longer}
use Rattle.dmr_words.proofs.Feeds.{length_behind}
use Rattle.dmr_words.proofs.lines.gather.Goals as goal

at_ok : {T E : Type 0} (r : Result T E) (P : Type 0) → is_err r ≡ false → OnOk r P → P
at_ok (Ok x) P e h = h
at_ok (Err x) P e h = absurd (true≢false e)

at_any : {T E : Type 0} (r : Result T E) (Q : E → Type 0) (P : Type 0) → P → IfErr r (λ e. Q e → P)
at_any (Ok x) Q P h = tt
at_any (Err x) Q P h = λ q. h

pub loop-chunk-init : goal.loop-chunk-init
loop-chunk-init g c = record {
  well = c.requires.well;
  passed = passes_none _ c.args.chunk.now c.args.line.now.items c.requires.none;
  unended = unended_none c.args.line.now.items c.requires.none;
  first = inl (refl, refl);
}

pub loop-chunk-preserved : goal.loop-chunk-preserved
loop-chunk-preserved g c =
    let e = c.in_ok-take_piece.ensures in
    let i = c.loop-chunk.invariant in
    let none : HasLineFeed c.loop-chunk.chunk → ⊥ = λ h. false≢true (sym c.if-not-branch.true ∙ e.found.1 h) in
    record {
      well = search rules;
      passed = passes_more _ c.refill.new.self
          (passes_as (piece_unfed c.loop-chunk.line.items c.loop-chunk.chunk c.take_piece.new.line.items c.take_piece.new.chunk
          e.line e.rest i.unended none) i.passed)
          (at_ok _ _ (sym c.is_err.ensures.value ∙ c.if-is_err.false) c.refill.ensures.octets);
      unended = piece_unended c.loop-chunk.line.items c.loop-chunk.chunk c.take_piece.new.line.items c.take_piece.new.chunk e.line
          e.rest i.unended e.short;
      first = inr (⊎_elim (λ f. subst (λ (l : List ℕ). HasLineFeed l → ⊥) f.1 none) (λ n. n) i.first);
    }

pub loop-chunk-smaller : goal.loop-chunk-smaller
loop-chunk-smaller g c =
    let e = c.in_ok-take_piece.ensures in
    let i = c.loop-chunk.invariant in
    let none : HasLineFeed c.loop-chunk.chunk → ⊥ = λ h. false≢true (sym c.if-not-branch.true ∙ e.found.1 h) in
    let longer = piece_longer c.loop-chunk.line.items c.loop-chunk.chunk c.take_piece.new.line.items c.take_piece.new.chunk e.line
    e.rest i.unended none in
    let short = (piece_unended c.loop-chunk.line.items c.loop-chunk.chunk c.take_piece.new.line.items c.take_piece.new.chunk e.line
    e.rest i.unended e.short).short in
    let some : length c.refill.new.self ≡ 0 → ⊥ =
    λ z. eqb-false _ 0 (sym c.is_empty.ensures ∙ c.if-is_empty.false) (ap length c.octets.ensures.value ∙ z) in
    omega (arith, longer, short, some)

pub returns-in_err-take_piece-clause-long : goal.returns-in_err-take_piece-clause-long
returns-in_err-take_piece-clause-long g c =
    let e = c.in_err-take_piece.ensures in
    let i = c.loop-chunk.invariant in
    let behind = length_behind c.loop-chunk.line.items c.loop-chunk.chunk i.unended.one in
    let same : c.take_piece.new.line.items ++ c.take_piece.new.chunk ≡ c.loop-chunk.line.items ++ c.loop-chunk.chunk = search rules
    in
    at_any _ _ _ (subst (λ (l : List ℕ). line_limit < line_length l) (sym same) (omega (arith, e.long, behind, i.unended.one)))

pub returns-then-is_err-clause-unended : goal.returns-then-is_err-clause-unended
returns-then-is_err-clause-unended g c =
    let e = c.in_ok-take_piece.ensures in
    piece_unended c.loop-chunk.line.items c.loop-chunk.chunk c.take_piece.new.line.items c.take_piece.new.chunk e.line e.rest
    c.loop-chunk.invariant.unended e.short

pub returns-then-is_empty-clause-unended : goal.returns-then-is_empty-clause-unended
returns-then-is_empty-clause-unended g c =
    let e = c.in_ok-take_piece.ensures in
    piece_unended c.loop-chunk.line.items c.loop-chunk.chunk c.take_piece.new.line.items c.take_piece.new.chunk e.line e.rest
    c.loop-chunk.invariant.unended e.short

pub returns-clause-ended : goal.returns-clause-ended
returns-clause-ended g c =
    let e = c.in_ok-take_piece.ensures in
    let i = c.loop-chunk.invariant in
    let fed : HasLineFeed c.loop-chunk.chunk = e.found.0 c.if-not-branch.false in
    λ o. passes_as (piece_fed c.loop-chunk.line.items c.loop-chunk.chunk c.take_piece.new.line.items c.take_piece.new.chunk e.line
    e.rest i.unended fed) i.passed

pub returns-clause-unended : goal.returns-clause-unended
returns-clause-unended g c =
    let e = c.in_ok-take_piece.ensures in
    piece_unended c.loop-chunk.line.items c.loop-chunk.chunk c.take_piece.new.line.items c.take_piece.new.chunk e.line e.rest
    c.loop-chunk.invariant.unended e.short
