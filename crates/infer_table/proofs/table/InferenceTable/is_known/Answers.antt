use Rattle.std.proofs.Common.{◌≡◌, sym, subst, ◌∙◌}
use Rattle.infer_table.specs.Words.{out-Ty}
use Rattle.infer_table.specs.Own.{IsOpenOrKnown, State, bindings, resolved_type}
use Rattle.infer_table.proofs.TableLaws.{is_var, is_var_at, no_var_at, known_where}
use Rattle.infer_table.proofs.table.InferenceTable.is_known.Goals.{in-Var, in_default}
use Rattle.infer_table.proofs.table.InferenceTable.is_known.Goals as goal

pub returns : goal.returns
returns c =
    let t = c.args.ty.now in
    let r = c.shallow_resolve.result.now in
    let P : State → Type 0 = λ s. resolved_type s r ≡ resolved_type s t in
    let Q : State → Type 0 = λ s. IsOpenOrKnown (bindings s) r in
    let is : c.match-matches.matches ≡ is_var (out-Ty r) = elim c.match-matches.branch [
      | in-Var w ↦ w.matches-is ∙ sym (is_var_at r w.in-Var.field-0 w.in-Var.is)
      | in_default w ↦ w.matches-is ∙ sym (no_var_at r w.in_default.not-Var)
    ] in
    known_where c.args.self.now t r c.match-matches.matches (subst P c.self.view_is c.shallow_resolve.ensures.same) (subst Q c.self.view_is c.shallow_resolve.ensures.open) is
