use Rattle.std.proofs.Common.{ap, ◌∙◌, subst}
use Rattle.infer_unify.specs.Words.{pair, term_of, term_of_hole, term_of_leaf}
use Rattle.infer_unify.proofs.Words.{pair_of, same_made}
use Rattle.infer_unify.specs.Own.{aliases_of, IsOpened, IsPutFor}
use Rattle.infer_unify.proofs.Openings.{after_hole, after_leaf, after_pair}
use Rattle.infer_unify.proofs.opening.Opening.+open.Goals as goal

pub returns-in_ok-rest-in-Hole-get : goal.returns-in_ok-rest-in-Hole-get
returns-in_ok-rest-in-Hole-get t c =
    let n = c.args.self.now.next in
    let os = aliases_of c.args.self.now.aliases.items in
    let m = c.open.new.self.next in
    let ps = aliases_of c.open.new.self.aliases.items in
    let part = term_of c.args.term.now in
    let k = c.in-Hole-get.hole in
    let rest = term_of c.in_ok-rest-in-Hole-get.rest in
    same_made (IsOpened n m os ps part) c.join.result _ c.join.ensures.is
    (after_hole n m os ps part _ (term_of c.get.result.now) (term_of c.get-in-Hole-get.result.now) rest k
    (ap term_of c.in-Hole-get.is ∙ term_of_hole k)
    (pair_of c.args.term.now c.in-Pair.first c.in-Pair.rest c.get.result.now c.get-in-Hole-get.result.now c.in-Pair.is c.get.ensures c.get-in-Hole-get.ensures)
    (ap (λ z. pair z rest) (term_of_hole k)) c.in_ok-rest-in-Hole-get.ensures)

pub returns-in_ok-rest-in-Leaf-get : goal.returns-in_ok-rest-in-Leaf-get
returns-in_ok-rest-in-Leaf-get t c =
    let n = c.args.self.now.next in
    let os = aliases_of c.args.self.now.aliases.items in
    let i = c.put_for.new.self.next in
    let qs = aliases_of c.put_for.new.self.aliases.items in
    let m = c.open-in-Leaf-get.new.self.next in
    let ps = aliases_of c.open-in-Leaf-get.new.self.aliases.items in
    let part = term_of c.args.term.now in
    let h = c.in-Leaf-get.head in
    let rest = term_of c.in_ok-rest-in-Leaf-get.rest in
    same_made (IsOpened n m os ps part) c.join-in-Leaf-get.result _ c.join-in-Leaf-get.ensures.is
    (after_leaf n i m os qs ps part _ (term_of c.get.result.now) (term_of c.get-in-Leaf-get-2.result.now) rest h
    (ap term_of c.in-Leaf-get.is ∙ term_of_leaf h)
    (pair_of c.args.term.now c.in-Pair.first c.in-Pair.rest c.get.result.now c.get-in-Leaf-get-2.result.now c.in-Pair.is c.get.ensures c.get-in-Leaf-get-2.ensures)
    (ap (λ z. pair z rest) (term_of_leaf h))
    (subst (IsPutFor n i os qs h (term_of c.get-in-Leaf-get.result.now)) c.in_default.is c.in_ok-hole-in-Leaf-get.ensures)
    c.in_ok-rest-in-Leaf-get.ensures)

pub returns-in_ok-rest-in-Pair-get : goal.returns-in_ok-rest-in-Pair-get
returns-in_ok-rest-in-Pair-get t c =
    let n = c.args.self.now.next in
    let os = aliases_of c.args.self.now.aliases.items in
    let i = c.open-in-Pair-get.new.self.next in
    let qs = aliases_of c.open-in-Pair-get.new.self.aliases.items in
    let m = c.open-in-Pair-get-2.new.self.next in
    let ps = aliases_of c.open-in-Pair-get-2.new.self.aliases.items in
    let part = term_of c.args.term.now in
    let rest = term_of c.in_ok-rest-in-Pair-get.rest in
    same_made (IsOpened n m os ps part) c.join-in-Pair-get-2.result _ c.join-in-Pair-get-2.ensures.is
    (after_pair n i m os qs ps part _ (term_of c.get.result.now) (term_of c.get-in-Pair-get-3.result.now) (term_of c.get-in-Pair-get.result.now) (term_of c.get-in-Pair-get-2.result.now)
    (term_of c.in_ok-part-in-Pair-get.part) rest (term_of c.in_ok-mark-in-Pair-get.mark)
    (pair_of c.get.result.now c.in-Pair-get.mark c.in-Pair-get.part c.get-in-Pair-get.result.now c.get-in-Pair-get-2.result.now c.in-Pair-get.is c.get-in-Pair-get.ensures c.get-in-Pair-get-2.ensures)
    (pair_of c.args.term.now c.in-Pair.first c.in-Pair.rest c.get.result.now c.get-in-Pair-get-3.result.now c.in-Pair.is c.get.ensures c.get-in-Pair-get-3.ensures)
    c.in_ok-mark-in-Pair-get.ensures
    (ap (λ z. pair z rest) c.in_ok-first-in-Pair-get.ensures.is)
    c.in_ok-part-in-Pair-get.ensures c.in_ok-rest-in-Pair-get.ensures)
