use Rattle.std.specs.Option.{option_copied}
use Rattle.std.proofs.Common.{sym, ap, ◌∙◌}
use Rattle.infer_pat.specs.Words.{expected_type}
use Rattle.infer_pat.proofs.Literals.{expected_at}
use Rattle.infer_pat.proofs.literal.expected_integer.Goals as goal

pub returns : goal.returns
returns c =
    c.integer_for.ensures
    ∙ sym (expected_at c.args.context.now.goals.table (expected_type c.args.expected) c.in_ok-expected_ty.expected_ty.now c.shallow_resolve.result.now
    (sym c.only_has_type.ensures ∙ ap option_copied c.in_ok-expected_ty.was) c.shallow_resolve.ensures.same c.shallow_resolve.ensures.open)
