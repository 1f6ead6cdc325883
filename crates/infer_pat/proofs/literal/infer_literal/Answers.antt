use Rattle.std.proofs.Common.{◌≡◌, ◌∙◌, refl, sym, ap, Some, slice_get}
use Rattle.std.proofs.lemmas.Option.{slice_get_read}
use Rattle.infer_pat.specs.Words.hir_raw.declared.raw.RawExpr.TheVariants as expr
use Rattle.infer_pat.specs.Words.{expected_type}
use Rattle.infer_pat.specs.Own.{literal_type_at}
use Rattle.infer_pat.proofs.Literals.{literal_kind}
use Rattle.infer_pat.proofs.literal.infer_literal.Goals as goal

pub returns-clause-kind : goal.returns-clause-kind
returns-clause-kind c =
    let is : slice_get c.args.given.now.body.now.exprs c.args.tgt_expr.0 ≡ Some (expr.Lit c.in-Lit.literal)
    = slice_get_read c.args.given.now.body.now.exprs _ c.args.tgt_expr.0 _ refl c.requires.before.within (rw c.as_slice.ensures at c.index-as_slice-tgt_expr.is) ∙ ap (λ x. Some x) c.in-Lit.is in
    literal_kind _ _ _ _ c.in-Lit.literal _ _ _ c.requires.before is c.in_ok-ty-in-Lit.ensures

pub returns-clause-typed : goal.returns-clause-typed
returns-clause-typed c =
    let is : slice_get c.args.given.now.body.now.exprs c.args.tgt_expr.0 ≡ Some (expr.Lit c.in-Lit.literal)
    = slice_get_read c.args.given.now.body.now.exprs _ c.args.tgt_expr.0 _ refl c.requires.before.within (rw c.as_slice.ensures at c.index-as_slice-tgt_expr.is) ∙ ap (λ x. Some x) c.in-Lit.is in
    c.in_ok-ty-in-Lit.ensures.is ∙ sym (ap (λ o. literal_type_at c.args.context.now.goals.table (expected_type c.args.expected) o) is)
