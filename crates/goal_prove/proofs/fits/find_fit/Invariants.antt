use Rattle.std.proofs.Common.{◌≡◌, take}
use Rattle.goal_prove.specs.Words.{Each, answers, known_below, term_of, kind_of, rule_of, system}
use Rattle.goal_prove.specs.Own.{FitsNot}
use Rattle.goal_prove.proofs.fits.find_fit.Given as goal

-- none of those before fits
abbrev pub invariant-loop-place : goal.invariant-loop-place
invariant-loop-place l =
    let f = system l.fn.search in
    record {
      same : l.search ≡ l.fn.search;
      so_far : Each (λ r. FitsNot (answers f l.depth).Alias (known_below f l.depth) (kind_of l.kind) (term_of l.target) (rule_of r)) (take l.place l.rules);
    }
