use Rattle.std.proofs.Common.{◌≡◌, ◌++◌, take}
use Rattle.infer_needs.proofs.tell.tell_all.Given as goal

-- it was told of those before
abbrev pub invariant-loop-entry : goal.invariant-loop-entry
invariant-loop-entry g l = g.I.ObligationInspector.list l.inspect ≡ g.I.ObligationInspector.list l.fn.inspect ++ take l.entry-index l.told
