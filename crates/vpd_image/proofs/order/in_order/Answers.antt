use Rattle.std.proofs.Common.{rules}
use Rattle.std.proofs.lemmas.List.Sorted.{IsNonDecreasingBy-from_sort_by_key, answers_always}
use Rattle.vpd_image.proofs.OrderLemmas.{sorted_is}
use Rattle.vpd_image.proofs.order.in_order.Goals as goal

pub returns : goal.returns
returns c = sorted_is _ _ c.in_ok-sort_by_key.ensures.permutation (IsNonDecreasingBy-from_sort_by_key (λ p. p.offset) _ c.in_ok-sort_by_key.ensures.sorted (λ a r q k. search rules)) (c.in_ok-sort_by_key.ensures.stable (λ p. p.offset) (answers_always _ _ _ (λ f a r g h. search rules)))
