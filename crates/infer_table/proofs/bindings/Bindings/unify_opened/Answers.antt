use Rattle.std.proofs.Common.{◌≡◌, Bool, List, [], length, sym, subst, ◌∙◌}
use Rattle.infer_table.specs.Words.{HoleKind, term}
use Rattle.infer_table.specs.Own.{Origin, log_of, UnifiedIf, origins_of, AreSettled, BindsSome, AreOriginsOf}
use Rattle.infer_table.proofs.OpenedBoth.{both_opened, BothOpened, opened_refused, opened_unified}
use Rattle.infer_table.proofs.bindings.Bindings.unify_opened.Goals as goal

pub equate-requires-clause-left : goal.equate-requires-clause-left
equate-requires-clause-left c =
    (both_opened c.args.self.now.kinds c.open.new.self.kinds c.open-2.new.self.kinds (term c.in_ok-left.left) (term c.in_ok-right.right) (term c.in_ok-left-2.left) (term c.in_ok-right-2.right)
    c.new-origins.result.items c.open.new.found.items c.open-2.new.found.items c.new-origins.ensures.items c.in_ok-left.ensures.none_bound.made c.in_ok-right.ensures.none_bound.made
    c.in_ok-left-2.ensures.kinds c.in_ok-left-2.ensures.term c.in_ok-left-2.ensures.origins c.in_ok-right-2.ensures.kinds c.in_ok-right-2.ensures.term c.in_ok-right-2.ensures.origins).left_made

pub equate-requires-clause-right : goal.equate-requires-clause-right
equate-requires-clause-right c =
    (both_opened c.args.self.now.kinds c.open.new.self.kinds c.open-2.new.self.kinds (term c.in_ok-left.left) (term c.in_ok-right.right) (term c.in_ok-left-2.left) (term c.in_ok-right-2.right)
    c.new-origins.result.items c.open.new.found.items c.open-2.new.found.items c.new-origins.ensures.items c.in_ok-left.ensures.none_bound.made c.in_ok-right.ensures.none_bound.made
    c.in_ok-left-2.ensures.kinds c.in_ok-left-2.ensures.term c.in_ok-left-2.ensures.origins c.in_ok-right-2.ensures.kinds c.in_ok-right-2.ensures.term c.in_ok-right-2.ensures.origins).right_made

pub settle_all-requires : goal.settle_all-requires
settle_all-requires c =
    let both = (both_opened c.args.self.now.kinds c.open.new.self.kinds c.open-2.new.self.kinds (term c.in_ok-left.left) (term c.in_ok-right.right) (term c.in_ok-left-2.left) (term c.in_ok-right-2.right)
    c.new-origins.result.items c.open.new.found.items c.open-2.new.found.items c.new-origins.ensures.items c.in_ok-left.ensures.none_bound.made c.in_ok-right.ensures.none_bound.made
    c.in_ok-left-2.ensures.kinds c.in_ok-left-2.ensures.term c.in_ok-left-2.ensures.origins c.in_ok-right-2.ensures.kinds c.in_ok-right-2.ensures.term c.in_ok-right-2.ensures.origins) in
    record {
      made = subst (λ (os : List Origin). AreOriginsOf c.equate.new.self.kinds os) (sym c.as_slice.ensures.value)
          (subst (λ (kinds : List HoleKind). AreOriginsOf kinds c.open-2.new.found.items) (sym c.in_ok-equate.ensures.binds.kinds) both.origins_made);
    }

pub returns-then-not-branch-clause-unified : goal.returns-then-not-branch-clause-unified
returns-then-not-branch-clause-unified c =
    let both = (both_opened c.args.self.now.kinds c.open.new.self.kinds c.open-2.new.self.kinds (term c.in_ok-left.left) (term c.in_ok-right.right) (term c.in_ok-left-2.left) (term c.in_ok-right-2.right)
    c.new-origins.result.items c.open.new.found.items c.open-2.new.found.items c.new-origins.ensures.items c.in_ok-left.ensures.none_bound.made c.in_ok-right.ensures.none_bound.made
    c.in_ok-left-2.ensures.kinds c.in_ok-left-2.ensures.term c.in_ok-left-2.ensures.origins c.in_ok-right-2.ensures.kinds c.in_ok-right-2.ensures.term c.in_ok-right-2.ensures.origins) in
    opened_refused c.args.self.now c.open-2.new.self.kinds (term c.in_ok-left.left) (term c.in_ok-right.right) (term c.args.left.now) (term c.args.right.now) (term c.in_ok-left-2.left) (term c.in_ok-right-2.right) c.open-2.new.found.items
    c.in_ok-left.ensures.same c.in_ok-right.ensures.same both c.log-before.ensures.made c.in_ok-left.ensures.none_bound.made c.in_ok-right.ensures.none_bound.made
    c.open-2.new.self.log (c.in_ok-right-2.ensures.log ∙ c.in_ok-left-2.ensures.log)
    (subst (λ (y : Bool). UnifiedIf y (log_of c.open-2.new.self.log) (log_of c.equate.new.self.log) (term c.in_ok-left-2.left) (term c.in_ok-right-2.right)) c.if-not-branch.true c.in_ok-equate.ensures.unified)

pub returns-clause-unified : goal.returns-clause-unified
returns-clause-unified c =
    let both = (both_opened c.args.self.now.kinds c.open.new.self.kinds c.open-2.new.self.kinds (term c.in_ok-left.left) (term c.in_ok-right.right) (term c.in_ok-left-2.left) (term c.in_ok-right-2.right)
    c.new-origins.result.items c.open.new.found.items c.open-2.new.found.items c.new-origins.ensures.items c.in_ok-left.ensures.none_bound.made c.in_ok-right.ensures.none_bound.made
    c.in_ok-left-2.ensures.kinds c.in_ok-left-2.ensures.term c.in_ok-left-2.ensures.origins c.in_ok-right-2.ensures.kinds c.in_ok-right-2.ensures.term c.in_ok-right-2.ensures.origins) in
    opened_unified c.args.self.now c.open-2.new.self.log c.equate.new.self c.settle_all.new.self (term c.in_ok-left.left) (term c.in_ok-right.right) (term c.args.left.now) (term c.args.right.now) (term c.in_ok-left-2.left) (term c.in_ok-right-2.right) c.open-2.new.found.items
    c.in_ok-left.ensures.same c.in_ok-right.ensures.same
    (subst (λ (kinds : List HoleKind). BothOpened (length c.args.self.now.kinds) kinds (term c.in_ok-left.left) (term c.in_ok-right.right) (term c.in_ok-left-2.left) (term c.in_ok-right-2.right) c.open-2.new.found.items) (sym c.in_ok-equate.ensures.binds.kinds) both)
    (record {
      opened_log = c.in_ok-right-2.ensures.log ∙ c.in_ok-left-2.ensures.log;
      equated = c.in_ok-equate.ensures.binds.added;
      settled = c.in_ok-settle_all.ensures.binds;
      made_before = c.log-before.ensures.made;
      acyclic_before = c.log-before.ensures.acyclic;
      acyclic_after = c.log-after.ensures.acyclic;
    })
    (subst (λ (y : Bool). UnifiedIf y (log_of c.open-2.new.self.log) (log_of c.equate.new.self.log) (term c.in_ok-left-2.left) (term c.in_ok-right-2.right)) c.if-not-branch.false c.in_ok-equate.ensures.unified)
    (subst (λ (os : List Origin). AreSettled (log_of c.settle_all.new.self.log) (origins_of os)) c.as_slice.ensures.value c.in_ok-settle_all.ensures.settles)
    (subst (λ (os : List Origin). os ≡ [] → c.settle_all.new.self ≡ c.equate.new.self) c.as_slice.ensures.value c.in_ok-settle_all.ensures.nothing)
    (subst (λ (os : List Origin). BindsSome (log_of c.equate.new.self.log) (log_of c.settle_all.new.self.log) (origins_of os)) c.as_slice.ensures.value c.in_ok-settle_all.ensures.least)
