use Rattle.std.proofs.lemmas.List.Sorted.{answers_always}
use Rattle.dmr_planning.proofs.Ordering.{in_list_order}
use Rattle.dmr_planning.specs.declared.sends.PlannedSend.{PlannedSend}
use Rattle.std.proofs.Common.{rules}
use Rattle.dmr_planning.proofs.planner.Planner.sort_sends.Goals as goal

pub returns-clause-order : goal.returns-clause-order
returns-clause-order c =
    in_list_order c.args.self.now.sends.items c.sort_by_key.new.self.items c.sort_by_key-2.new.self.items
    c.sort_by_key.ensures.permutation c.sort_by_key-2.ensures.permutation c.requires.small c.requires.by_line
    (c.in_ok-sort_by_key.ensures.sorted (λ (s : PlannedSend). s.slot) (answers_always _ _ _ (λ f a r g h. search rules)))
    (c.sort_by_key.ensures.stable (λ (s : PlannedSend). s.slot) (answers_always _ _ _ (λ f a r g h. search rules)))
    (c.in_ok-sort_by_key-2.ensures.sorted (λ (s : PlannedSend). s.frame) (answers_always _ _ _ (λ f a r g h. search rules)))
    (c.sort_by_key-2.ensures.stable (λ (s : PlannedSend). s.frame) (answers_always _ _ _ (λ f a r g h. search rules)))
