-- Whether the holes of a term were made, as a test.
use Rattle.std.specs.Prelude.{Bool, true, false, List}
use Rattle.infer_table.specs.Words.{HoleKind, Ty, Term}
use Rattle.infer_table.specs.Solutions.{AreOf}
use Rattle.infer_table.specs.Table.{State, HolesAreOf}

abbrev pub MadeIf : Bool → List HoleKind → Term → Type 0
MadeIf true kinds t = AreOf kinds t
MadeIf false kinds t = AreOf kinds t → ⊥

abbrev pub HasMadeIf : Bool → State → Ty → Type 0
HasMadeIf true s t = HolesAreOf s t
HasMadeIf false s t = HolesAreOf s t → ⊥
