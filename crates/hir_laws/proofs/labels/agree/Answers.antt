use Rattle.std.proofs.Common.{rules}
use Rattle.std.proofs.lemmas.List.Sorted.{IsNonDecreasingBy-from_sort_by_key}
use Rattle.hir_laws.proofs.LabelPlaces.{agree_told}
use Rattle.hir_laws.proofs.labels.agree.Goals as goal

pub returns : goal.returns
returns c =
    agree_told c.args.places.items c.sort_by_key.new.self.items c.all_follow.result c.sort_by_key.ensures.permutation
    (IsNonDecreasingBy-from_sort_by_key (λ p. p.label) c.sort_by_key.new.self.items c.in_ok-sort_by_key.ensures.sorted (λ x r f k. search rules)) (rw c.deref.ensures.value at c.all_follow.ensures)
