-- What this crate defines, from one place: for its code and proofs, and for the crates above.
pub use Rattle.infer_calls.specs.Calls.{AreMet, ArgsDone, ArgsWalked, AsksInputs, BeforeArgs, BeforeCall, BeforeInputs, BeforeLoose, BeforeUncallable, CalleeDone, CalleeTyped, ComesToArgs, ComesToLoose, ComesToUncallable, EndsInReading, EndsInSelection, IsCallOf, IsCalling, IsMet, LooseDone, LooseWalked, inputs_at}
pub use Rattle.infer_calls.specs.Inputs.{AreFineInputs, ExpectsInputs, FindsInputs, IsTried}
