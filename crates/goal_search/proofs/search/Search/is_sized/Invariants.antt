use Rattle.std.proofs.Common.{◌≡◌, take, Some}
use Rattle.goal_search.specs.Words.{implements, Each, term_of}
use Rattle.goal_search.specs.Own.{system, IsSizedBy}
use Rattle.goal_search.proofs.search.Search.is_sized.Given as goal

-- by none of those before
abbrev pub invariant-loop-listed : goal.invariant-loop-listed
invariant-loop-listed l =
    let f = system l.fn.self in
    record {
      same : l.self ≡ l.fn.self;
      so_far : Each (λ id. IsSizedBy f l.depth (Some (implements id)) f.tail (term_of l.ty) → ⊥) (take l.listed-index f.sized);
    }
