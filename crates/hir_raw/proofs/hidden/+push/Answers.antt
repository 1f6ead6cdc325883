use Rattle.std.proofs.Common.{◌++◌, append-nil, ap, sym, ◌∙◌}
use Rattle.hir_raw.specs.Own.{parts_aliases}
use Rattle.hir_raw.proofs.Aliases.{none_within, read_alias, read_parts, read_past}
use Rattle.hir_raw.proofs.hidden.+push.Goals as goal

pub push_aliases-returns-then-steps-eq0 : goal.push_aliases-returns-then-steps-eq0
push_aliases-returns-then-steps-eq0 t c = rw (c.if-steps-eq0.true, none_within c.args.types.now c.args.ty) (sym (append-nil c.args.found.now.items))

pub push_aliases-returns-in_ok-push : goal.push_aliases-returns-in_ok-push
push_aliases-returns-in_ok-push t c =
    c.in_ok-push.ensures.items
    ∙ ap (λ ks. c.args.found.now.items ++ ks) (sym (read_alias c.args.steps c.args.types.now c.args.ty c.in-Some.written.now c.if-steps-eq0.false c.in-Some.ensures.lookup.3.0 c.in-Some.ensures.lookup.1 c.if-is_alias.ensures))

pub push_aliases-returns-in_ok-push_parts : goal.push_aliases-returns-in_ok-push_parts
push_aliases-returns-in_ok-push_parts t c =
    c.in_ok-push_parts.ensures
    ∙ ap (λ ks. c.args.found.now.items ++ ks) (ap (parts_aliases _ c.args.types.now) c.parts.ensures ∙ sym (read_parts c.args.steps c.args.types.now c.args.ty c.in-Some.written.now c.if-steps-eq0.false c.in-Some.ensures.lookup.3.0 c.in-Some.ensures.lookup.1 c.if-is_alias.ensures))

pub push_aliases-returns-in_default : goal.push_aliases-returns-in_default
push_aliases-returns-in_default t c =
    sym (append-nil c.args.found.now.items) ∙ ap (λ ks. c.args.found.now.items ++ ks) (sym (read_past c.args.steps c.args.types.now c.args.ty c.if-steps-eq0.false c.in_default.ensures.lookup.3))
