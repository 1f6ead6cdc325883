-- What stands for the holes of a term that is read.
use Rattle.goal_search.specs.Words.{hole, Fill, log_of, fill_of}
use Rattle.goal_search.specs.declared.holes.Holes.{Holes}
use Rattle.goal_search.specs.declared.holes.Holes.TheVariants as holes

abbrev pub holes_fill : Holes → Fill
holes_fill holes.Stay = hole
holes_fill (holes.Filled fills) = fill_of (log_of fills.now)
