use Rattle.std.proofs.Common.{◌≡◌, ℕ, ◌<◌, ◌∙◌, refl, sym, ap, subst}
use Rattle.infer_table.specs.Words.{Const, Assignment, const_folded, const_term}
use Rattle.hir_types.specs.declared.ty.Const.TheVariants as const
use Rattle.hir_types.specs.declared.head.Hole.TheVariants as hole_of
use Rattle.infer_table.specs.Own.{log_of, resolution, found_const_var, open_const_var, const_found, no_const_found, const_in_log}
use Rattle.infer_table.proofs.Weights.{weight, weight_found}
use Rattle.infer_table.proofs.bindings.Bindings.resolve_const.Goals as goal

pub walk-smaller : goal.walk-smaller
walk-smaller c =
    let l = log_of c.args.self.now.log in
    let w = weight_found l (hole_of.Const c.in-Var.hole) (const_term c.in-Some.bound) c.in-Some.ensures.acyclic (const_in_log c.args.self.now.log c.in-Var.hole c.in-Some.bound (sym c.in-Some.ensures.found)) in
    let P : Const → Type 0 = λ z. weight l (const_term c.in-Some.bound) < weight l (const_term z) in
    subst P (sym c.in-Var.is) w

pub walk-preserved : goal.walk-preserved
walk-preserved c =
    let log = c.args.self.now.log in
    sym (found_const_var log c.in-Var.hole c.in-Some.bound c.in-Some.ensures.acyclic (const_found log c.in-Var.hole c.in-Some.bound (sym c.in-Some.ensures.found)))
    ∙ ap (const_folded (resolution log)) (sym c.in-Var.is) ∙ c.walk.invariant

pub returns-in-None : goal.returns-in-None
returns-in-None c =
    let log = c.args.self.now.log in
    sym (open_const_var log c.in-Var.hole (no_const_found log c.in-Var.hole (sym c.in-None.ensures.found)))
    ∙ ap (const_folded (resolution log)) (sym c.in-Var.is) ∙ c.walk.invariant

-- a const that is no hole stays
no_hole : (s : Assignment) (v : Const) → ((n : ℕ) → v ≡ const.Var n → ⊥) → v ≡ const_folded s v
no_hole s (const.Value n) h = refl
no_hole s (const.Param n) h = refl
no_hole s const.Unknown h = refl
no_hole s (const.Var n) h = absurd (h n refl)
no_hole s const.Hole h = refl

pub returns : goal.returns
returns c = no_hole (resolution c.args.self.now.log) c.walk.known c.in_default.not-Var ∙ c.walk.invariant
