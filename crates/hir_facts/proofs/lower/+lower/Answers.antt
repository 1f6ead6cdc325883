use Rattle.std.proofs.Common.{◌≡◌, ◌<◌, arith, get_or, IfOk, refl, sym, ap, subst, ◌∙◌}
use Rattle.hir_types.specs.declared.ty.Ty.TheVariants as ty
use Rattle.hir_facts.specs.Words.{opened_by, stays_if_none}
use Rattle.hir_facts.proofs.Lowering.{part_below, lowered_here, tuple_here, args_here}
use Rattle.hir_facts.proofs.lower.+lower.Goals as goal

pub lower-requires : goal.lower-requires
lower-requires t c =
    let below : (get_or c.as_slice-part-items.result.now c.loop-part.part-index (record { 0 = 0 })).0 < c.args.t =
    part_below c.args.types.now c.args.t c.index-types-t.result _ c.as_slice-part-items.result.now c.loop-part.part-index (record { 0 = 0 }) c.requires.before c.requires.within c.index-types-t.is c.in-Tuple.is c.as_slice-part-items.ensures c.loop-part-test.true in
    (omega (arith, below), (c.requires.before, omega (arith, below)))

pub lower-requires-in-loop-arg : goal.lower-requires-in-loop-arg
lower-requires-in-loop-arg t c =
    let below : (get_or c.as_slice-arg-items.result.now c.loop-arg.arg-index (record { 0 = 0 })).0 < c.args.t =
    part_below c.args.types.now c.args.t c.index-types-t.result _ c.as_slice-arg-items.result.now c.loop-arg.arg-index (record { 0 = 0 }) c.requires.before c.requires.within c.index-types-t.is c.in-Adt.is c.as_slice-arg-items.ensures c.loop-arg-test.true in
    (omega (arith, below), (c.requires.before, omega (arith, below)))

pub lower-requires-in-loop-arg-2 : goal.lower-requires-in-loop-arg-2
lower-requires-in-loop-arg-2 t c =
    let below : (get_or c.as_slice-arg-items-in-None.result.now c.loop-arg-2.arg-index (record { 0 = 0 })).0 < c.args.t =
    part_below c.args.types.now c.args.t c.index-types-t.result _ c.as_slice-arg-items-in-None.result.now c.loop-arg-2.arg-index (record { 0 = 0 }) c.requires.before c.requires.within c.index-types-t.is c.in-Projection.is c.as_slice-arg-items-in-None.ensures c.loop-arg-2-test.true in
    (omega (arith, below), (c.requires.before, omega (arith, below)))

pub returns-in-Bool : goal.returns-in-Bool
returns-in-Bool t c = lowered_here c.args.params c.args.aliases.now c.args.types.now c.args.t c.index-types-t.result _ _ c.requires.before c.requires.within c.index-types-t.is c.in-Bool.is refl

pub returns-in-Char : goal.returns-in-Char
returns-in-Char t c = lowered_here c.args.params c.args.aliases.now c.args.types.now c.args.t c.index-types-t.result _ _ c.requires.before c.requires.within c.index-types-t.is c.in-Char.is refl

pub returns-in-Integer : goal.returns-in-Integer
returns-in-Integer t c = c.ty.ensures ∙ lowered_here c.args.params c.args.aliases.now c.args.types.now c.args.t c.index-types-t.result _ _ c.requires.before c.requires.within c.index-types-t.is c.in-Integer.is refl

pub returns-after-loop-part : goal.returns-after-loop-part
returns-after-loop-part t c = tuple_here c.args.params c.args.aliases.now c.args.types.now c.args.t c.index-types-t.result c.in-Tuple.parts c.as_slice-part-items.result.now c.loop-part.tys c.loop-part.part-index c.requires.before c.requires.within c.index-types-t.is c.in-Tuple.is c.as_slice-part-items.ensures c.loop-part.invariant c.loop-part-test.false

pub returns-after-loop-arg : goal.returns-after-loop-arg
returns-after-loop-arg t c =
    args_here c.args.params c.args.aliases.now c.args.types.now c.args.t c.index-types-t.result _ (ty.Adt c.in-Adt.adt) c.in-Adt.args c.as_slice-arg-items.result.now c.loop-arg.lowered c.loop-arg.arg-index c.requires.before c.requires.within c.index-types-t.is c.in-Adt.is refl refl c.as_slice-arg-items.ensures c.loop-arg.invariant c.loop-arg-test.false

-- it is read as a parameter
pub returns-in-Some : goal.returns-in-Some
returns-in-Some t c =
    let at = lowered_here c.args.params c.args.aliases.now c.args.types.now c.args.t c.index-types-t.result _ _ c.requires.before c.requires.within c.index-types-t.is c.in-Projection.is
    (ap (opened_by c.args.params _) (sym c.place_in.ensures ∙ c.in-Some.is)) in
    subst (λ u. IfOk c.param_after.result (λ v. v ≡ u)) at c.param_after.ensures

pub returns-after-loop-arg-2 : goal.returns-after-loop-arg-2
returns-after-loop-arg-2 t c =
    args_here c.args.params c.args.aliases.now c.args.types.now c.args.t c.index-types-t.result _ (ty.Projection c.in-Projection.alias) c.in-Projection.args c.as_slice-arg-items-in-None.result.now c.loop-arg-2.lowered c.loop-arg-2.arg-index c.requires.before c.requires.within c.index-types-t.is c.in-Projection.is (stays_if_none c.args.params c.args.aliases.now c.args.t _ (sym c.place_in.ensures ∙ c.in-None.is)) refl c.as_slice-arg-items-in-None.ensures c.loop-arg-2.invariant c.loop-arg-2-test.false

pub returns-in-Param : goal.returns-in-Param
returns-in-Param t c = lowered_here c.args.params c.args.aliases.now c.args.types.now c.args.t c.index-types-t.result _ _ c.requires.before c.requires.within c.index-types-t.is c.in-Param.is refl

pub returns-in-Hole : goal.returns-in-Hole
returns-in-Hole t c = lowered_here c.args.params c.args.aliases.now c.args.types.now c.args.t c.index-types-t.result _ _ c.requires.before c.requires.within c.index-types-t.is c.in-Hole.is refl

pub returns-in-Later : goal.returns-in-Later
returns-in-Later t c = lowered_here c.args.params c.args.aliases.now c.args.types.now c.args.t c.index-types-t.result _ _ c.requires.before c.requires.within c.index-types-t.is c.in-Later.is refl
