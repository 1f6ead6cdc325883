use Rattle.std.proofs.Common.{◌≡◌, ◌<◌, ◌≤◌, ◌∙◌, arith, sym, subst, length, map, slice_get, take, Some}
use Rattle.hir_types.specs.declared.ids.CallableDefId.TheVariants as callable
use Rattle.hir_types.specs.declared.ty.Ty.TheVariants as ty
use Rattle.infer_pat.specs.Words.{variant_arity, variant_types, RawVariant, IsOfBody, field_at, given_of, ReadsPat}
use Rattle.infer_pat.proofs.Words.{follows_twice, fine_grown, fine_expectation_grown, of_body_pat_item, sound_pat_item}
use Rattle.infer_pat.specs.Own.{PartsCounted}
use Rattle.infer_pat.proofs.CtorPatWalk.{counted_follows, own_adt_fine, ctor_demanded, item_is_fine, item_read, no_item_read}
use Rattle.infer_pat.proofs.PathWalk.{ctor_holed}
use Rattle.infer_pat.proofs.pat.demand_ctor.Goals as goal
use Rattle.infer_pat.specs.Words.infer_result.Columns as column

pub demand_pat_ty-requires-clause-of_body : goal.demand_pat_ty-requires-clause-of_body
demand_pat_ty-requires-clause-of_body c =
    let g = given_of c.args.given.now in
    let x = c.requires.named in
    let y = c.variant-item.result.now in
    let old = c.args.context.now in
    let new = c.fresh_args_for_item.new.context in
    let h = ctor_holed g c.args.variant x y c.adt.result.now c.len-params.result c.in_ok-arity.arity c.types.result.now c.in_ok-args.args old new c.variant-item.ensures c.adt.ensures c.len-params.ensures c.types.ensures c.in_ok-arity.ensures c.in_ok-args.ensures in
    let body : IsOfBody g.body new.result = subst (λ r. IsOfBody g.body r) (sym h.fresh.made.result) c.requires.of_body in
    let counted = counted_follows g c.args.pat _ _ new c.count_parts.new.context body h.fresh.made.sound c.count_parts.ensures in
    counted.of_body

pub demand_pat_ty-requires-clause-sound : goal.demand_pat_ty-requires-clause-sound
demand_pat_ty-requires-clause-sound c =
    let g = given_of c.args.given.now in
    let x = c.requires.named in
    let y = c.variant-item.result.now in
    let old = c.args.context.now in
    let new = c.fresh_args_for_item.new.context in
    let h = ctor_holed g c.args.variant x y c.adt.result.now c.len-params.result c.in_ok-arity.arity c.types.result.now c.in_ok-args.args old new c.variant-item.ensures c.adt.ensures c.len-params.ensures c.types.ensures c.in_ok-arity.ensures c.in_ok-args.ensures in
    let body : IsOfBody g.body new.result = subst (λ r. IsOfBody g.body r) (sym h.fresh.made.result) c.requires.of_body in
    let counted = counted_follows g c.args.pat _ _ new c.count_parts.new.context body h.fresh.made.sound c.count_parts.ensures in
    counted.sound

pub demand_pat_ty-requires-clause-ty : goal.demand_pat_ty-requires-clause-ty
demand_pat_ty-requires-clause-ty c =
    let g = given_of c.args.given.now in
    let x = c.requires.named in
    let y = c.variant-item.result.now in
    let old = c.args.context.now in
    let new = c.fresh_args_for_item.new.context in
    let h = ctor_holed g c.args.variant x y c.adt.result.now c.len-params.result c.in_ok-arity.arity c.types.result.now c.in_ok-args.args old new c.variant-item.ensures c.adt.ensures c.len-params.ensures c.types.ensures c.in_ok-arity.ensures c.in_ok-args.ensures in
    let own = c.in_ok-own.ensures ∙ (λ i. take (h.size i) (c.as_slice.ensures i)) in
    let body : IsOfBody g.body new.result = subst (λ r. IsOfBody g.body r) (sym h.fresh.made.result) c.requires.of_body in
    let counted = counted_follows g c.args.pat _ _ new c.count_parts.new.context body h.fresh.made.sound c.count_parts.ensures in
    fine_grown g.scope new.goals.table c.count_parts.new.context.goals.table (ty.Adt y.adt c.in_ok-own.own) counted.grew (own_adt_fine g c.args.variant x y h.same c.in_ok-args.args old new h.fresh c.in_ok-own.own own)

pub demand_pat_ty-requires-clause-fine : goal.demand_pat_ty-requires-clause-fine
demand_pat_ty-requires-clause-fine c =
    let g = given_of c.args.given.now in
    let x = c.requires.named in
    let y = c.variant-item.result.now in
    let old = c.args.context.now in
    let new = c.fresh_args_for_item.new.context in
    let h = ctor_holed g c.args.variant x y c.adt.result.now c.len-params.result c.in_ok-arity.arity c.types.result.now c.in_ok-args.args old new c.variant-item.ensures c.adt.ensures c.len-params.ensures c.types.ensures c.in_ok-arity.ensures c.in_ok-args.ensures in
    let body : IsOfBody g.body new.result = subst (λ r. IsOfBody g.body r) (sym h.fresh.made.result) c.requires.of_body in
    let counted = counted_follows g c.args.pat _ _ new c.count_parts.new.context body h.fresh.made.sound c.count_parts.ensures in
    fine_expectation_grown g.scope new.goals.table c.count_parts.new.context.goals.table c.args.expected counted.grew
    (fine_expectation_grown g.scope old.goals.table new.goals.table c.args.expected h.fresh.made.grew c.requires.fine)

pub returns-then-arity-params : goal.returns-then-arity-params
returns-then-arity-params c =
    let g = given_of c.args.given.now in
    let x = c.requires.named in
    let y = c.variant-item.result.now in
    let old = c.args.context.now in
    let new = c.fresh_args_for_item.new.context in
    let h = ctor_holed g c.args.variant x y c.adt.result.now c.len-params.result c.in_ok-arity.arity c.types.result.now c.in_ok-args.args old new c.variant-item.ensures c.adt.ensures c.len-params.ensures c.types.ensures c.in_ok-arity.ensures c.in_ok-args.ensures in
    let own = c.in_ok-own.ensures ∙ (λ i. take (h.size i) (c.as_slice.ensures i)) in
    let fields = subst (λ n. (z : RawVariant) → slice_get g.scope.facts.variants c.args.variant.0 ≡ Some z → c.in_ok-fields.fields ≡ map (field_at (variant_types g.scope.facts.types n z) c.in_ok-args.args) z.fields) h.size c.in_ok-fields.ensures in
    let parts : PartsCounted c.args.pat (length y.fields) c.args.parts new c.count_parts.new.context = subst (λ n. PartsCounted c.args.pat n c.args.parts new c.count_parts.new.context) c.len.ensures c.count_parts.ensures in
    let typed = c.demand_pat_ty.new.context in
    let demanded = c.in_ok-demand_pat_ty.ensures in
    let no_more : variant_arity g.scope.facts.types x.variant x.params ≤ x.params = omega (arith, c.if-arity-params.true, h.many, h.size) in
    ctor_demanded g c.args.variant x y h.same c.in_ok-args.args old new h.fresh c.in_ok-own.own own c.args.pat c.args.parts c.in_ok-fields.fields c.args.expected c.count_parts.new.context typed typed fields parts demanded (no_item_read g c.args.variant x y h.same c.in_ok-args.args old new h.fresh c.args.pat typed no_more)

pub write_pat_item-requires : goal.write_pat_item-requires
write_pat_item-requires c = rw (c.in_ok-demand_pat_ty.ensures.follows.of_body.long column.item_of_pat) c.requires.within

pub read_pat-requires-clause-of_body : goal.read_pat-requires-clause-of_body
read_pat-requires-clause-of_body c =
    let g = given_of c.args.given.now in
    let t = ty.FnDef (callable.VariantId c.args.variant) c.in_ok-args.args in
    rw c.write_pat_item.ensures (of_body_pat_item g.body c.demand_pat_ty.new.context c.in_ok-demand_pat_ty.ensures.follows.of_body c.args.pat t)

pub read_pat-requires-clause-sound : goal.read_pat-requires-clause-sound
read_pat-requires-clause-sound c =
    let g = given_of c.args.given.now in
    let x = c.requires.named in
    let y = c.variant-item.result.now in
    let old = c.args.context.now in
    let new = c.fresh_args_for_item.new.context in
    let h = ctor_holed g c.args.variant x y c.adt.result.now c.len-params.result c.in_ok-arity.arity c.types.result.now c.in_ok-args.args old new c.variant-item.ensures c.adt.ensures c.len-params.ensures c.types.ensures c.in_ok-arity.ensures c.in_ok-args.ensures in
    let body : IsOfBody g.body new.result = subst (λ r. IsOfBody g.body r) (sym h.fresh.made.result) c.requires.of_body in
    let counted = counted_follows g c.args.pat _ _ new c.count_parts.new.context body h.fresh.made.sound c.count_parts.ensures in
    let typed = c.demand_pat_ty.new.context in
    let demanded = c.in_ok-demand_pat_ty.ensures in
    let t = ty.FnDef (callable.VariantId c.args.variant) c.in_ok-args.args in
    let more : x.params < variant_arity g.scope.facts.types x.variant x.params = omega (arith, c.if-arity-params.false, h.many, h.size) in
    let grew = (follows_twice g new c.count_parts.new.context typed counted demanded.follows).grew in
    rw c.write_pat_item.ensures (sound_pat_item typed demanded.follows.sound c.args.pat t (fine_grown g.scope new.goals.table typed.goals.table t grew (item_is_fine g c.args.variant x y h.same c.in_ok-args.args old new h.fresh more)))

pub returns : goal.returns
returns c =
    let g = given_of c.args.given.now in
    let x = c.requires.named in
    let y = c.variant-item.result.now in
    let old = c.args.context.now in
    let new = c.fresh_args_for_item.new.context in
    let h = ctor_holed g c.args.variant x y c.adt.result.now c.len-params.result c.in_ok-arity.arity c.types.result.now c.in_ok-args.args old new c.variant-item.ensures c.adt.ensures c.len-params.ensures c.types.ensures c.in_ok-arity.ensures c.in_ok-args.ensures in
    let own = c.in_ok-own.ensures ∙ (λ i. take (h.size i) (c.as_slice.ensures i)) in
    let fields = subst (λ n. (z : RawVariant) → slice_get g.scope.facts.variants c.args.variant.0 ≡ Some z → c.in_ok-fields.fields ≡ map (field_at (variant_types g.scope.facts.types n z) c.in_ok-args.args) z.fields) h.size c.in_ok-fields.ensures in
    let parts : PartsCounted c.args.pat (length y.fields) c.args.parts new c.count_parts.new.context = subst (λ n. PartsCounted c.args.pat n c.args.parts new c.count_parts.new.context) c.len.ensures c.count_parts.ensures in
    let typed = c.demand_pat_ty.new.context in
    let demanded = c.in_ok-demand_pat_ty.ensures in
    let last = c.read_pat.new.context in
    let more : x.params < variant_arity g.scope.facts.types x.variant x.params = omega (arith, c.if-arity-params.false, h.many, h.size) in
    let reads = subst (λ z. ReadsPat g c.args.pat.0 z last) c.write_pat_item.ensures c.in_ok-read_pat.ensures in
    ctor_demanded g c.args.variant x y h.same c.in_ok-args.args old new h.fresh c.in_ok-own.own own c.args.pat c.args.parts c.in_ok-fields.fields c.args.expected c.count_parts.new.context typed last fields parts demanded (item_read g c.args.variant x y h.same c.in_ok-args.args old new h.fresh c.args.pat typed last more reads)
