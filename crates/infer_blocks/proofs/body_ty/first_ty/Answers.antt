use Rattle.std.specs.Option.{option_copied}
use Rattle.std.proofs.Common.{◌∙◌, ap, sym, inl, inr, refl}
use Rattle.infer_blocks.proofs.body_ty.first_ty.Goals as goal

pub returns-in_ok-ty-in-Some : goal.returns-in_ok-ty-in-Some
returns-in_ok-ty-in-Some c = rw c.in_ok-ty-in-Some.ensures (inl (sym c.alias_ty.ensures ∙ ap option_copied c.in-Some.is, refl))

pub returns-in_ok-ty-in-None : goal.returns-in_ok-ty-in-None
returns-in_ok-ty-in-None c = rw c.in_ok-ty-in-None.ensures.hole (rw c.in_ok-ty-in-None.ensures.made (inr (sym c.alias_ty.ensures ∙ ap option_copied c.in-None.is, refl, refl)))
