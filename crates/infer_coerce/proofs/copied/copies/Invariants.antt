use Rattle.std.proofs.Common.{◌≡◌, take}
use Rattle.infer_coerce.proofs.copied.copies.Given as goal

abbrev pub invariant-loop-ty : goal.invariant-loop-ty
invariant-loop-ty l = l.copies ≡ take l.ty-index l.fn.tys
