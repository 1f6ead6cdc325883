use Rattle.std.proofs.Common.{sym, refl, ap, ◌∙◌, subst, option_map, Some, None}
use Rattle.goal_search.specs.Words.{leaf, pair, hole_number, term_of, term_of_hole, term_of_leaf}
use Rattle.goal_search.proofs.Words.{pair_of}
use Rattle.goal_search.specs.Own.{IsFieldAt, IsNthIf}
use Rattle.goal_search.proofs.Small.{hole_at, leaf_at, pair_at, not_left_at, not_right_at}
use Rattle.goal_search.proofs.rows.+field_at.Goals as goal

pub returns-in_default : goal.returns-in_default
returns-in_default t c =
    let args = term_of c.args.args.now in
    let first = term_of c.get.result.now in
    let second = term_of c.in-Pair.second in
    let is = pair_of c.args.field.now c.in-Pair.first c.in-Pair.second c.get.result.now c.in-Pair.second c.in-Pair.is c.get.ensures refl in
    subst (λ x. IsFieldAt args x None) (sym is) (not_left_at args first second (subst (λ o. IsFieldAt args first (option_map term_of o)) c.in_default.is c.in_ok-first-in-Pair.ensures))

pub returns-in_default-2 : goal.returns-in_default-2
returns-in_default-2 t c =
    let args = term_of c.args.args.now in
    let first = term_of c.in-Pair.first in
    let second = term_of c.get-in-Pair.result.now in
    let is = pair_of c.args.field.now c.in-Pair.first c.in-Pair.second c.in-Pair.first c.get-in-Pair.result.now c.in-Pair.is refl c.get-in-Pair.ensures in
    subst (λ x. IsFieldAt args x None) (sym is) (not_right_at args first second (subst (λ o. IsFieldAt args second (option_map term_of o)) c.in_default-2.is c.in_ok-second-in-Pair.ensures))

pub returns-in_ok-dup-in-Some : goal.returns-in_ok-dup-in-Some
returns-in_ok-dup-in-Some t c =
    let args = term_of c.args.args.now in
    let k = c.in-Hole.hole in
    let made = term_of c.in_ok-dup-in-Some.field-0 in
    let at = subst (λ n. IsNthIf n args (option_map (λ x. term_of x.now) c.nth.result)) c.number_of.ensures c.nth.ensures in
    let here = subst (λ o. IsNthIf (hole_number k) args (option_map (λ x. term_of x.now) o)) c.in-Some.is at in
    subst (λ x. IsFieldAt args x (Some made)) (sym (ap term_of c.in-Hole.is ∙ term_of_hole k)) (hole_at args k (Some made) (subst (λ u. IsNthIf (hole_number k) args (Some u)) (sym c.in_ok-dup-in-Some.ensures) here))

pub returns-in-Leaf : goal.returns-in-Leaf
returns-in-Leaf t c =
    let args = term_of c.args.args.now in
    let h = c.in-Leaf.head in
    let at = subst (λ x. IsFieldAt args x (Some (leaf h))) (sym (ap term_of c.in-Leaf.is ∙ term_of_leaf h)) (leaf_at args h) in
    subst (λ u. IsFieldAt args (term_of c.args.field.now) (Some u)) (sym (term_of_leaf h)) at

pub returns-in_ok-join-in-Pair : goal.returns-in_ok-join-in-Pair
returns-in_ok-join-in-Pair t c =
    let args = term_of c.args.args.now in
    let first = term_of c.get.result.now in
    let second = term_of c.get-in-Pair.result.now in
    let is = pair_of c.args.field.now c.in-Pair.first c.in-Pair.second c.get.result.now c.get-in-Pair.result.now c.in-Pair.is c.get.ensures c.get-in-Pair.ensures in
    let left = subst (λ o. IsFieldAt args first (option_map term_of o)) c.in-Some-2.is c.in_ok-first-in-Pair.ensures in
    let right = subst (λ o. IsFieldAt args second (option_map term_of o)) c.in-Some-3.is c.in_ok-second-in-Pair.ensures in
    let at = pair_at args first second (term_of c.in-Some-2.first) (term_of c.in-Some-3.second) left right in
    let made = term_of c.in_ok-join-in-Pair.field-0 in
    subst (λ x. IsFieldAt args x (Some made)) (sym is) (subst (λ u. IsFieldAt args (pair first second) (Some u)) (sym c.in_ok-join-in-Pair.ensures.is) at)
