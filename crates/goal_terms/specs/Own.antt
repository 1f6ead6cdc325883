-- What this crate defines, from one place: for its code and proofs, and for the crates above.
pub use Rattle.goal_terms.specs.Bindings.{fill_of, given, log_of}
pub use Rattle.goal_terms.specs.Matching.{Agrees, CannotRead, Matched, MatchedIf, NoneMatches}
pub use Rattle.goal_terms.specs.Opening.{AreNames, IsCommon, Lifted, Opened, Stand, resolved_all}
pub use Rattle.goal_terms.specs.Same.{CanBeItself, CanBeSame, moved}
pub use Rattle.goal_terms.specs.Terms.{HasHeads, IsHead, role_of, term_is, term_of, term_of_hole, term_of_leaf, term_of_pair}
pub use Rattle.goal_terms.specs.Types.{autos_with, bounds_with, concrete_plain, concrete_read, concrete_reads, holes_of, leading, may_concrete, part_read, parts_read, types_with}
pub use Rattle.goal_terms.specs.Unifying.{Extends, HaveHeads, IsLog}
pub use Rattle.goal_terms.specs.declared.term.Term.{Term}
pub use Rattle.goal_terms.specs.declared.types.TermPart.{TermPart}
