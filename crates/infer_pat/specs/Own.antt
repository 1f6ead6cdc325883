-- What this crate defines, from one place: for its code and proofs, and for the crates above.
pub use Rattle.infer_pat.specs.Literals.{IntDone, LiteralDone, expected_integer, integer_for, integer_step, literal_type_at, unsuffixed_type}
pub use Rattle.infer_pat.specs.Paths.{AreFreshArgs, IsPathType, NamesTyped, PathDone}
pub use Rattle.infer_pat.specs.Patterns.{AreTupleParts, BeforePat, ComesToPat, CtorDemanded, HandsParts, IsComponentOf, IsCtorPatOf, IsDemanded, IsGivenOrNew, IsLitPatOf, IsPatPlaced, IsPathPatOf, IsTuplePatOf, ItemRead, PartsAreCounted, PartsCounted, PatDemanded, PatDone, PatIsDemanded, PatWalked, after_all_given, after_given, given_types}
