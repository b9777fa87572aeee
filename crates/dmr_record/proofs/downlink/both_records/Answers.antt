use Rattle.std.proofs.Common.{rules, ◌∙◌, ◌∷◌, ◌++◌, List, ℕ, ap, refl, replicate}
use Rattle.dmr_record.proofs.Pieces.{laid_after}
use Rattle.dmr_record.proofs.downlink.both_records.Goals as goal

pub returns : goal.returns
returns c = record {
  octets = laid_after c.lay_record.new.place c.lay_record-2.new.place (replicate 37 0) 37 (search rules) refl
      ∙ ap (λ (l : List ℕ). l ++ c.lay_record-2.new.place) c.lay_record.ensures.octets
      ∙ ap (λ (l : List ℕ). (1 ∷ (c.args.first.now.0 ++ c.args.first.now.1)) ++ l) c.lay_record-2.ensures.octets;
}
