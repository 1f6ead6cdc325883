use Rattle.std.proofs.Common.{◌+◌, length, drop, refl, ap, sym, ◌∙◌}
use Rattle.std.specs.Option.{option_and_then}
use Rattle.hir_raw.specs.Own.{parts_aliases, less}
use Rattle.hir_raw.proofs.Aliases.{read_alias, read_parts, read_past, one_taken, less_next}
use Rattle.hir_raw.proofs.hidden.+less.Goals as goal

pub less_aliases-returns-then-steps-eq0 : goal.less_aliases-returns-then-steps-eq0
less_aliases-returns-then-steps-eq0 t c = rw c.if-steps-eq0.true refl

pub less_aliases-returns-then-is_alias : goal.less_aliases-returns-then-is_alias
less_aliases-returns-then-is_alias t c =
    one_taken c.args.count c.checked_sub.result _ c.args.ty c.checked_sub.ensures
    (read_alias c.args.steps c.args.types.now c.args.ty c.in-Some.written.now c.if-steps-eq0.false c.in-Some.ensures.lookup.3.0 c.in-Some.ensures.lookup.1 c.if-is_alias.ensures)

pub less_aliases-returns-else-is_alias : goal.less_aliases-returns-else-is_alias
less_aliases-returns-else-is_alias t c =
    c.less_parts.ensures
    ∙ ap (λ ks. less c.args.count (length ks)) (ap (parts_aliases _ c.args.types.now) c.parts.ensures ∙ sym (read_parts c.args.steps c.args.types.now c.args.ty c.in-Some.written.now c.if-steps-eq0.false c.in-Some.ensures.lookup.3.0 c.in-Some.ensures.lookup.1 c.if-is_alias.ensures))

pub less_aliases-returns-in-None : goal.less_aliases-returns-in-None
less_aliases-returns-in-None t c = ap (λ ks. less c.args.count (length ks)) (sym (read_past c.args.steps c.args.types.now c.args.ty c.if-steps-eq0.false c.in-None.ensures.lookup.3))

pub less_parts-returns-in-None : goal.less_parts-returns-in-None
less_parts-returns-in-None t c =
    ap (option_and_then (λ m. less m (length (parts_aliases c.args.steps c.args.types.now (drop (c.loop-part.part-index + 1) c.args.parts.now))))) c.in-None.ensures
    ∙ (sym (less_next c.args.steps c.args.types.now c.args.parts.now c.loop-part.part-index (record { 0 = 0 }) c.loop-part.left c.loop-part-test.true) ∙ c.loop-part.invariant)

pub less_parts-loop-part-preserved : goal.less_parts-loop-part-preserved
less_parts-loop-part-preserved t c =
    ap (option_and_then (λ m. less m (length (parts_aliases c.args.steps c.args.types.now (drop (c.loop-part.part-index + 1) c.args.parts.now))))) c.in-Some.ensures
    ∙ (sym (less_next c.args.steps c.args.types.now c.args.parts.now c.loop-part.part-index (record { 0 = 0 }) c.loop-part.left c.loop-part-test.true) ∙ c.loop-part.invariant)
