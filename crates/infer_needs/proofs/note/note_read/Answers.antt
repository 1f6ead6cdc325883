use Rattle.std.proofs.Common.{◌≡◌, ◌∙◌, [], inl, inr, refl, sym, ap, subst, true≢false, ◌∷◌}
use Rattle.std.proofs.lemmas.Result.{on_ok_weaker}
use Rattle.hir_types.specs.declared.goal.Goal.TheVariants as the_goal
use Rattle.infer_needs.specs.Words.{system, asked_goal, IsWritten, GoalReads, IsAboutAlias}
use Rattle.infer_needs.specs.Own.{HasProofOf, SaysAlias, IsGoalRead, IsWrittenIf}
use Rattle.infer_needs.proofs.Adding.{adds_none}
use Rattle.infer_needs.proofs.Rooted.{roots_none}
use Rattle.infer_needs.proofs.ReadGoals.{reads_same, read_yes, trait_not_about, about_is_other}
use Rattle.infer_needs.proofs.note.note_read.Goals as goal

pub returns-in_default : goal.returns-in_default
returns-in_default c =
    let f = system c.args.sources.now.sources in
    let raw = c.args.sources.now.facts in
    let none = subst (IsGoalRead f raw.limits.goal_depth (asked_goal c.args.goal.now)) c.in_default.is c.in_ok-read.ensures.read in
    record {
      adds = adds_none raw f c.args.proofs.now.items;
      roots = roots_none (asked_goal c.args.goal.now ∷ []) c.args.proofs.now.items;
      noted = inl (refl, refl, λ b about. none b about.reads);
    }

pub returns-then-not-branch : goal.returns-then-not-branch
returns-then-not-branch c =
    let f = system c.args.sources.now.sources in
    let raw = c.args.sources.now.facts in
    let a = asked_goal c.args.goal.now in
    let reads = subst (IsGoalRead f raw.limits.goal_depth a) c.in-Some.is c.in_ok-read.ensures.read in
    record {
      adds = adds_none raw f c.args.proofs.now.items;
      roots = roots_none (asked_goal c.args.goal.now ∷ []) c.args.proofs.now.items;
      noted = inl (
        refl,
        refl,
        λ b about.
            let is = reads_same f raw.limits.goal_depth a (asked_goal c.in-Some.read) reads b about.reads in
            true≢false (sym (c.in_ok-is_about_alias.ensures.1 (subst IsAboutAlias is about.about)) ∙ c.if-not-branch.true),
      );
    }

pub prove_read-requires-clause-provable : goal.prove_read-requires-clause-provable
prove_read-requires-clause-provable c = subst IsWrittenIf c.in-Some.is c.in_ok-read.ensures.written

pub prove_read-requires-clause-yes : goal.prove_read-requires-clause-yes
prove_read-requires-clause-yes c =
    let f = system c.args.sources.now.sources in
    let n = c.args.sources.now.facts.limits.goal_depth in
    let a = asked_goal c.args.goal.now in
    read_yes f n a (asked_goal c.in-Some.read) (subst (IsGoalRead f n a) c.in-Some.is c.in_ok-read.ensures.read) c.requires.yes

pub prove_read-requires-clause-reads : goal.prove_read-requires-clause-reads
prove_read-requires-clause-reads c =
    subst (IsGoalRead (system c.args.sources.now.sources) c.args.sources.now.facts.limits.goal_depth (asked_goal c.args.goal.now)) c.in-Some.is c.in_ok-read.ensures.read

pub prove_read-requires-clause-about : goal.prove_read-requires-clause-about
prove_read-requires-clause-about c = c.in_ok-is_about_alias.ensures.0 c.if-not-branch.false

pub returns-in-Trait : goal.returns-in-Trait
returns-in-Trait c =
    let about = c.in_ok-is_about_alias.ensures.0 c.if-not-branch.false in
    absurd (trait_not_about (asked_goal c.in-Some.read) c.in-Trait._trait_ref (ap (λ g. (asked_goal g).kind) c.in-Trait.is) about)

pub returns-in-Projection : goal.returns-in-Projection
returns-in-Projection c =
    let f = system c.args.sources.now.sources in
    let raw = c.args.sources.now.facts in
    let n = raw.limits.goal_depth in
    let a = asked_goal c.args.goal.now in
    let read = c.in-Some.read in
    let k = c.in-Projection.alias in
    let xs = c.in-Projection.args in
    let t = c.in-Projection.ty in
    let is : read ≡ the_goal.Projection k xs t = c.in-Projection.is in
    let read_about = c.in_ok-is_about_alias.ensures.0 c.if-not-branch.false in
    let about = subst (λ g. IsAboutAlias (asked_goal g)) is read_about in
    let says : SaysAlias f n a c.prove_read.new.proofs.items = record {
      alias = k;
      args = xs;
      type = t;
      reads = subst (λ g. GoalReads f n a (asked_goal g)) is (subst (IsGoalRead f n a) c.in-Some.is c.in_ok-read.ensures.read);
      proved = subst (λ g. HasProofOf c.prove_read.new.proofs.items (asked_goal g)) is c.in_ok-prove_read.ensures.has;
      known = about.known;
      other = about_is_other k xs t about;
      written = subst (λ g. IsWritten (asked_goal g).parts) is (subst IsWrittenIf c.in-Some.is c.in_ok-read.ensures.written);
    } in
    on_ok_weaker c.list.result (λ listed. record { adds = c.in_ok-prove_read.ensures.adds; roots = c.in_ok-prove_read.ensures.roots; noted = inr (says, listed) }) c.list.ensures
