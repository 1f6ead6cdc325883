-- What stands for holes, as lists of bindings.
use Rattle.std.specs.Prelude.{List, Option, Some, None, map}
use Rattle.hir_types.specs.declared.head.Head.TheVariants as head
use Rattle.goal_terms.specs.Words.{Term, leaf, Log, found, Fill}
use Rattle.goal_terms.specs.declared.binding.Binding.{Binding}
use Rattle.goal_terms.specs.Terms.{term_of}

abbrev pub log_of : List Binding → Log
log_of = map (λ b. (b.hole, term_of b.term))

abbrev pub given : Option Term → Term
given None = leaf head.End
given (Some t) = t

-- for each hole what the first entry says
abbrev pub fill_of : Log → Fill
fill_of l k = given (found l k)
