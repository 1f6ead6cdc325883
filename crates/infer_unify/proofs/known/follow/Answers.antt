use Rattle.std.proofs.Common.{sym, subst, option_map}
use Rattle.hir_types.specs.declared.head.Hole.TheVariants as hole_of
use Rattle.infer_unify.specs.Words.{hole, answers, ReadingIs, term_of, term_of_hole, HasHeads, log_of, system}
use Rattle.infer_unify.specs.Own.{alias_of, known_alias}
use Rattle.infer_unify.proofs.Steps.{known_heads, read_heads}
use Rattle.infer_unify.proofs.known.follow.Goals as goal

pub make_equal-requires-clause-left : goal.make_equal-requires-clause-left
make_equal-requires-clause-left c = subst HasHeads (sym (term_of_hole (hole_of.Ty c.args.alias.now.hole))) tt

pub make_equal-requires-clause-right : goal.make_equal-requires-clause-right
make_equal-requires-clause-right c =
    let f = system c.args.search.now in
    let n = c.args.depth in
    let l = log_of c.args.log.now.items in
    let p = alias_of c.args.alias.now in
    let A = (answers f n).Alias in
    let reads = subst (λ (xs : _). ReadingIs A hole (known_alias (log_of xs) p) (option_map term_of c.in_ok-read.field-0)) c.deref.ensures.value c.in_ok-read.ensures.read in
    let some = subst (λ o. ReadingIs A hole (known_alias l p) (option_map term_of o)) c.in-Some.is reads in
    read_heads f c.requires.system n (known_alias l p) (term_of c.in-Some.read) (known_heads l p c.requires.is_log.heads c.requires.heads) some
