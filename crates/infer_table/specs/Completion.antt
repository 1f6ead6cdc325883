-- All that is known put in, and what open holes fall back to for the rest.
use Rattle.std.specs.Prelude.{List}
use Rattle.infer_table.specs.Words.{Assignment, composed, fallback}
use Rattle.infer_table.specs.declared.binding.Binding.{Binding}
use Rattle.infer_table.specs.Resolution.{resolution}
use Rattle.infer_table.specs.Table.{State, bindings}

-- what is known of a hole, and what it falls back to in the place of each hole that is open
abbrev pub completion_of : List Binding → Assignment
completion_of bs = composed fallback (resolution bs)

abbrev pub completion : State → Assignment
completion s = completion_of (bindings s)
