-- What is known of each table.
use Rattle.infer_table.specs.Words.{terms_of}
use Rattle.infer_table.specs.Bindings.{AllOf}
use Rattle.infer_table.specs.Completion.{completion}
use Rattle.infer_table.specs.Solutions.{Respects}
use Rattle.infer_table.specs.Table.{State, Meets, bindings}

-- a table in which some assignment agrees with what is found out, and each hole that is named was made
pub record IsLawfulState (state : State) : Type 0 where
  pub meets : Meets (terms_of (completion state)) state
  pub respects : Respects (terms_of (completion state))
  pub made : AllOf state.substitution.kinds (bindings state)
