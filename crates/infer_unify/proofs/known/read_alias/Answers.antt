use Rattle.std.proofs.Common.{◌≡◌, ap, ◌∙◌, sym, subst, IfOk, option_map}
use Rattle.hir_types.specs.declared.head.Head.TheVariants as head
use Rattle.infer_unify.specs.Words.{Term, hole, pair, resolved, answers, ReadingIs, term_of, term_of_leaf, HasHeads, log_of, system}
use Rattle.infer_unify.specs.Own.{alias_of, known_alias}
use Rattle.infer_unify.proofs.Steps.{known_heads}
use Rattle.infer_unify.proofs.known.read_alias.Goals as goal

known_is : (c : goal.After-known-2-1) → term_of c.in_ok-known.known ≡ known_alias (log_of c.args.log.now) (alias_of c.args.alias.now)
known_is c = c.in_ok-known.ensures ∙ ap (λ z. resolved (log_of c.args.log.now) (pair z (term_of c.args.alias.now.args))) (term_of_leaf (head.Projection c.args.alias.now.alias))

pub read-requires-clause-heads : goal.read-requires-clause-heads
read-requires-clause-heads c = subst HasHeads (sym (known_is c)) (known_heads (log_of c.args.log.now) (alias_of c.args.alias.now) c.requires.is_log.heads c.requires.heads)

pub read-requires-clause-fills : goal.read-requires-clause-fills
read-requires-clause-fills c k o = record { read = tt; heads = tt }

pub returns-clause-read : goal.returns-clause-read
returns-clause-read c =
    let l = log_of c.args.log.now in
    let p = alias_of c.args.alias.now in
    let A = (answers (system c.args.search.now) c.args.depth).Alias in
    let same : term_of c.in_ok-known.known ≡ known_alias l p = c.in_ok-known.ensures ∙ ap (λ z. resolved l (pair z (term_of c.args.alias.now.args))) (term_of_leaf (head.Projection c.args.alias.now.alias)) in
    subst (λ (t : Term). IfOk c.read.result (λ read. ReadingIs A hole t (option_map term_of read))) same c.read.ensures.answer
