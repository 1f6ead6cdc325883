use Rattle.std.proofs.Common.{◌≡◌, ◌++◌, [], List, length, sym, ap, ◌∙◌, subst}
use Rattle.std.specs.Prelude.{Some}
use Rattle.infer_needs.specs.Words.{Goal, DefWithBodyId, Ty, RawBody, RawFacts, Proof, ItemSources, Gap, InferenceResult, System, Answer, system, IsSystemOf, with_goals, scope_item, GoalsHold, HasNoneLeft, needs_of, pat_needs_at, AllTypes, recorded, given, AllWrittenAreListed, scope_of}
use Rattle.infer_needs.specs.Own.{AreProvable, AreAllJudged, ArePatsJudged, FitOrAreSaid, IsFinalType, EntriesFit, AreAllListed, AllFitIn, first_needs, first_pat_needs, all_needs, AreAnswered, AddsRootsOf, RootsAreNeeded, RootsAreTold, ProofsFit}
use Rattle.infer_needs.proofs.Telling.{tells_both, needs_stay}
use Rattle.infer_needs.proofs.Rooted.{roots_both, roots_needed, roots_told}
use Rattle.infer_needs.proofs.Provable.{needs_provable, node_provable, table_final, pat_needs_provable, as_many_items}
use Rattle.infer_needs.proofs.Holding.{same_body, goals_hold, has_none_left}
use Rattle.infer_needs.proofs.Writing.{all_listed_later, all_written}
use Rattle.infer_needs.proofs.Coming.{fit_then}
use Rattle.infer_needs.proofs.FitEntries.{entries_fit, all_fit, same_needs}
use Rattle.infer_needs.proofs.FitWritten.{all_fit_in}
use Rattle.infer_needs.proofs.prove.prove_needs.Goals as goal
use Rattle.infer_needs.proofs.Adding.{adds_then}
use Rattle.infer_needs.proofs.ProofsFit.{added_fit}

pub prove_exprs-requires-clause-needs : goal.prove_exprs-requires-clause-needs
prove_exprs-requires-clause-needs c n x at =
    subst (λ z. AreProvable (needs_of z (Some x) (recorded c.args.table.now.type_of_expr n))) (sym c.in_ok-sources.ensures.facts)
    (needs_provable c.args.facts.now c.lawful.ensures c.args.def c.args.table.now c.requires n x)

pub prove_exprs-requires-clause-pats : goal.prove_exprs-requires-clause-pats
prove_exprs-requires-clause-pats c n =
    subst (λ z. AreProvable (pat_needs_at z c.args.table.now n)) (sym c.in_ok-sources.ensures.facts)
    (pat_needs_provable c.args.facts.now c.lawful.ensures c.args.def c.args.table.now c.requires n)

pub prove_exprs-requires-clause-types : goal.prove_exprs-requires-clause-types
prove_exprs-requires-clause-types c =
    let raw = c.args.facts.now in
    let made = c.in_ok-sources.sources in
    let r = c.args.table.now in
    let item : made.item ≡ scope_item raw c.args.def = c.in_ok-sources.ensures.item ∙ c.scope_item.ensures in
    subst (λ i. AllTypes (IsFinalType made.facts i) r) (sym item)
    (subst (λ z. AllTypes (IsFinalType z (scope_item raw c.args.def)) r) (sym c.in_ok-sources.ensures.facts) (table_final raw c.lawful.ensures c.args.def r c.requires))

pub prove_exprs-requires-clause-fits : goal.prove_exprs-requires-clause-fits
prove_exprs-requires-clause-fits c =
    let raw = c.args.facts.now in
    let d = c.args.def in
    let made = c.in_ok-sources.sources in
    let r = c.args.table.now in
    let body = c.body-body.result.now in
    let item : made.item ≡ scope_item raw d = c.in_ok-sources.ensures.item ∙ c.scope_item.ensures in
    let same : body ≡ c.requires.body = same_body raw d c.in-Some.id body c.requires.body (sym c.body_id.ensures ∙ c.in-Some.is) c.body-body.ensures c.requires.is_body in
    subst (λ i. AllFitIn made.facts i d body r) (sym item)
    (subst (λ z. AllFitIn z (scope_item raw d) d body r) (sym c.in_ok-sources.ensures.facts)
    (subst (λ x. AllFitIn raw (scope_item raw d) d x r) (sym same) (all_fit_in raw c.lawful.ensures d r c.requires c.requires.body c.requires.is_body)))

pub prove_pats-requires : goal.prove_pats-requires
prove_pats-requires c n =
    subst (λ z. AreProvable (pat_needs_at z c.args.table.now n)) (sym c.in_ok-sources.ensures.facts)
    (pat_needs_provable c.args.facts.now c.lawful.ensures c.args.def c.args.table.now c.requires n)

-- the sources and what was judged, as the facts, the item and the body say
record Judged (raw : RawFacts) (d : DefWithBodyId) (b : RawBody) (f : System) (r : InferenceResult) (ps qs : List Proof) (js ks : List (Ty × Ty)) (gss hss : List (List Gap)) : Type 0 where
  of_item : IsSystemOf raw (scope_item raw d) f
  exprs : AreAllJudged raw (scope_of raw d) f b r (length b.exprs) ps js gss
  pats : ArePatsJudged raw (scope_of raw d) f r (length b.pats) ps qs js ks hss

judged_of : (raw : RawFacts) (d : DefWithBodyId) (r : InferenceResult) (made : ItemSources) → made.facts ≡ raw → made.item ≡ scope_item raw d → IsSystemOf made.facts made.item (system made.sources)
    → (body b : RawBody) → body ≡ b → (ps qs : List Proof) (js ks found : List (Ty × Ty)) (gss hss : List (List Gap)) → ks ≡ found
    → AreAllJudged made.facts (scope_of made.facts d) (system made.sources) body r (length body.exprs) ps js gss → ArePatsJudged made.facts (scope_of made.facts d) (system made.sources) r (length body.pats) ps qs js found hss
    → Judged raw d b (system made.sources) r ps qs js ks gss hss
judged_of raw d r made facts item of_item body b same ps qs js ks found gss hss list exprs pats =
    let f = system made.sources in
    record {
      of_item = subst (λ i. IsSystemOf raw i f) item (subst (λ z. IsSystemOf z made.item f) facts of_item);
      exprs = subst (λ x. AreAllJudged raw (scope_of raw d) f x r (length x.exprs) ps js gss) same (subst (λ z. AreAllJudged z (scope_of z d) f body r (length body.exprs) ps js gss) facts exprs);
      pats =
          subst (λ (x : RawBody). ArePatsJudged raw (scope_of raw d) f r (length x.pats) ps qs js ks hss) same
          (subst (λ z. ArePatsJudged z (scope_of z d) f r (length body.pats) ps qs js ks hss) facts
          (subst (λ es. ArePatsJudged made.facts (scope_of made.facts d) f r (length body.pats) ps qs js es hss) (sym list) pats));
    }

pub returns-clause-goals : goal.returns-clause-goals
returns-clause-goals c b is =
    let raw = c.args.facts.now in
    let d = c.args.def in
    let r = c.args.table.now in
    let body = c.body-body.result.now in
    let ps = c.in_ok-proofs.proofs.items in
    let qs = c.prove_pats.new.proofs.items in
    let js = c.in_ok-proofs.found in
    let ks = c.into_pairs.result.items in
    let gss = c.in_ok-proofs.gaps in
    let hss = c.in_ok-pat_gaps.pat_gaps in
    let same : body ≡ b = same_body raw d c.in-Some.id body b (sym c.body_id.ensures ∙ c.in-Some.is) c.body-body.ensures is in
    let all = judged_of raw d r c.in_ok-sources.sources c.in_ok-sources.ensures.facts (c.in_ok-sources.ensures.item ∙ c.scope_item.ensures) c.lawful-2.ensures body b same ps qs js ks c.prove_pats.new.found gss hss c.into_pairs.ensures.list c.in_ok-proofs.ensures.judged c.in_ok-pat_gaps.ensures.judged in
    subst (λ es. GoalsHold d (given raw d b) (with_goals c.from_vec.result es gss hss r)) (sym c.from_vec-2.ensures)
    (subst (λ xs. GoalsHold d (given raw d b) (with_goals xs ks gss hss r)) (sym c.from_vec.ensures)
    (goals_hold raw d b (system c.in_ok-sources.sources.sources) r ps qs js ks gss hss all.of_item (as_many_items raw d r b c.requires is) all.exprs all.pats c.into_pairs.ensures.once (node_provable raw c.lawful.ensures d r c.requires b)))

pub returns-clause-left : goal.returns-clause-left
returns-clause-left c b is =
    let raw = c.args.facts.now in
    let d = c.args.def in
    let r = c.args.table.now in
    let body = c.body-body.result.now in
    let ps = c.in_ok-proofs.proofs.items in
    let qs = c.prove_pats.new.proofs.items in
    let js = c.in_ok-proofs.found in
    let ks = c.into_pairs.result.items in
    let gss = c.in_ok-proofs.gaps in
    let hss = c.in_ok-pat_gaps.pat_gaps in
    let same : body ≡ b = same_body raw d c.in-Some.id body b (sym c.body_id.ensures ∙ c.in-Some.is) c.body-body.ensures is in
    let all = judged_of raw d r c.in_ok-sources.sources c.in_ok-sources.ensures.facts (c.in_ok-sources.ensures.item ∙ c.scope_item.ensures) c.lawful-2.ensures body b same ps qs js ks c.prove_pats.new.found gss hss c.into_pairs.ensures.list c.in_ok-proofs.ensures.judged c.in_ok-pat_gaps.ensures.judged in
    subst (λ es. HasNoneLeft d (given raw d b) (with_goals c.from_vec.result es gss hss r)) (sym c.from_vec-2.ensures)
    (subst (λ xs. HasNoneLeft d (given raw d b) (with_goals xs ks gss hss r)) (sym c.from_vec.ensures)
    (has_none_left raw d b (system c.in_ok-sources.sources.sources) r ps qs js ks gss hss all.of_item (as_many_items raw d r b c.requires is) all.exprs all.pats c.into_pairs.ensures.once (node_provable raw c.lawful.ensures d r c.requires b)))

pub returns-clause-written : goal.returns-clause-written
returns-clause-written c b is =
    let raw = c.args.facts.now in
    let d = c.args.def in
    let r = c.args.table.now in
    let body = c.body-body.result.now in
    let ps = c.in_ok-proofs.proofs.items in
    let qs = c.prove_pats.new.proofs.items in
    let js = c.in_ok-proofs.found in
    let ks = c.into_pairs.result.items in
    let gss = c.in_ok-proofs.gaps in
    let hss = c.in_ok-pat_gaps.pat_gaps in
    let same : body ≡ b = same_body raw d c.in-Some.id body b (sym c.body_id.ensures ∙ c.in-Some.is) c.body-body.ensures is in
    let all = judged_of raw d r c.in_ok-sources.sources c.in_ok-sources.ensures.facts (c.in_ok-sources.ensures.item ∙ c.scope_item.ensures) c.lawful-2.ensures body b same ps qs js ks c.prove_pats.new.found gss hss c.into_pairs.ensures.list c.in_ok-proofs.ensures.judged c.in_ok-pat_gaps.ensures.judged in
    let f = system c.in_ok-sources.sources.sources in
    let made = subst (λ z. AreAllListed z d body r f js) c.in_ok-sources.ensures.facts c.in_ok-proofs.ensures.written in
    let listed = all_listed_later raw d b r f js ks all.pats.lists.behind (subst (λ x. AreAllListed raw d x r f js) same made) in
    subst (λ es. AllWrittenAreListed d (given raw d b) (with_goals c.from_vec.result es gss hss r)) (sym c.from_vec-2.ensures)
    (subst (λ xs. AllWrittenAreListed d (given raw d b) (with_goals xs ks gss hss r)) (sym c.from_vec.ensures)
    (all_written raw d b r f ks all.of_item listed qs gss hss))

pub returns-clause-roots : goal.returns-clause-roots
returns-clause-roots c b is =
    let raw = c.args.facts.now in
    let d = c.args.def in
    let r = c.args.table.now in
    let made = c.in_ok-sources.sources in
    let facts : made.facts ≡ raw = c.in_ok-sources.ensures.facts in
    let body = c.body-body.result.now in
    let same : body ≡ b = same_body raw d c.in-Some.id body b (sym c.body_id.ensures ∙ c.in-Some.is) c.body-body.ensures is in
    let exprs = first_needs made.facts body r (length body.exprs) in
    let pats = first_pat_needs made.facts r (length body.pats) in
    let qs = c.prove_pats.new.proofs.items in
    let ks = c.into_pairs.result.items in
    let gss = c.in_ok-proofs.gaps in
    let hss = c.in_ok-pat_gaps.pat_gaps in
    let both = roots_both exprs pats [] c.in_ok-proofs.proofs.items qs c.in_ok-proofs.ensures.roots c.in_ok-pat_gaps.ensures.roots in
    let f = system made.sources in
    let all = subst (λ x. AddsRootsOf raw made.item f (all_needs raw x r) [] qs) same (subst (λ (z : RawFacts). AddsRootsOf z made.item f (all_needs z body r) [] qs) facts both) in
    subst (λ es. RootsAreNeeded (given raw d b) (with_goals c.from_vec.result es gss hss r)) (sym c.from_vec-2.ensures)
    (subst (λ xs. RootsAreNeeded (given raw d b) (with_goals xs ks gss hss r)) (sym c.from_vec.ensures)
    (roots_needed raw d b (with_goals qs ks gss hss r) (subst (λ xs. AddsRootsOf raw made.item f xs [] qs) (sym (needs_stay raw b r qs ks gss hss)) all)))

pub returns-clause-fit : goal.returns-clause-fit
returns-clause-fit c b is =
    let raw = c.args.facts.now in
    let d = c.args.def in
    let r = c.args.table.now in
    let made = c.in_ok-sources.sources in
    let f = system made.sources in
    let body = c.body-body.result.now in
    let ps = c.in_ok-proofs.proofs.items in
    let qs = c.prove_pats.new.proofs.items in
    let js = c.in_ok-proofs.found in
    let ks = c.into_pairs.result.items in
    let gss = c.in_ok-proofs.gaps in
    let hss = c.in_ok-pat_gaps.pat_gaps in
    let item : made.item ≡ scope_item raw d = c.in_ok-sources.ensures.item ∙ c.scope_item.ensures in
    let same : body ≡ b = same_body raw d c.in-Some.id body b (sym c.body_id.ensures ∙ c.in-Some.is) c.body-body.ensures is in
    let all = judged_of raw d r made c.in_ok-sources.ensures.facts item c.lawful-2.ensures body b same ps qs js ks c.prove_pats.new.found gss hss c.into_pairs.ensures.list c.in_ok-proofs.ensures.judged c.in_ok-pat_gaps.ensures.judged in
    let first = subst (λ (x : RawBody). FitOrAreSaid raw (scope_item raw d) f (first_needs raw x r (length x.exprs)) js) same
    (subst (λ (z : RawFacts). FitOrAreSaid z (scope_item raw d) f (first_needs z body r (length body.exprs)) js) c.in_ok-sources.ensures.facts
    (subst (λ i. FitOrAreSaid made.facts i f (first_needs made.facts body r (length body.exprs)) js) item c.in_ok-proofs.ensures.fit)) in
    let said = fit_then raw (scope_item raw d) f (first_needs raw b r (length b.exprs)) (first_pat_needs raw r (length b.pats)) js ks first all.pats.from in
    let z = with_goals qs ks gss hss r in
    let holds = goals_hold raw d b f r ps qs js ks gss hss all.of_item (as_many_items raw d r b c.requires is) all.exprs all.pats c.into_pairs.ensures.once (node_provable raw c.lawful.ensures d r c.requires b) in
    let entries = entries_fit raw c.lawful.ensures d b is r c.requires f all.of_item qs ks (all.pats.lists.right all.exprs.entries) said in
    subst (λ es. EntriesFit (given raw d b) (with_goals c.from_vec.result es gss hss r)) (sym c.from_vec-2.ensures)
    (subst (λ xs. EntriesFit (given raw d b) (with_goals xs ks gss hss r)) (sym c.from_vec.ensures)
    (all_fit raw c.lawful.ensures d b is r c.requires holds.system holds.of_item z (same_needs raw b r qs ks gss hss) entries holds.gaps))

pub returns-clause-proofs : goal.returns-clause-proofs
returns-clause-proofs c b is =
    let raw = c.args.facts.now in
    let d = c.args.def in
    let r = c.args.table.now in
    let made = c.in_ok-sources.sources in
    let f = system made.sources in
    let facts : made.facts ≡ raw = c.in_ok-sources.ensures.facts in
    let item : made.item ≡ scope_item raw d = c.in_ok-sources.ensures.item ∙ c.scope_item.ensures in
    let body = c.body-body.result.now in
    let same : body ≡ b = same_body raw d c.in-Some.id body b (sym c.body_id.ensures ∙ c.in-Some.is) c.body-body.ensures is in
    let exprs = first_needs made.facts body r (length body.exprs) in
    let pats = first_pat_needs made.facts r (length body.pats) in
    let ps = c.in_ok-proofs.proofs.items in
    let qs = c.prove_pats.new.proofs.items in
    let js = c.in_ok-proofs.found in
    let ks = c.into_pairs.result.items in
    let gss = c.in_ok-proofs.gaps in
    let hss = c.in_ok-pat_gaps.pat_gaps in
    let all = judged_of raw d r made facts item c.lawful-2.ensures body b same ps qs js ks c.prove_pats.new.found gss hss c.into_pairs.ensures.list c.in_ok-proofs.ensures.judged c.in_ok-pat_gaps.ensures.judged in
    let both = roots_both exprs pats [] ps qs c.in_ok-proofs.ensures.roots c.in_ok-pat_gaps.ensures.roots in
    let of_facts = subst (λ x. AddsRootsOf raw made.item f (all_needs raw x r) [] qs) same (subst (λ (z : RawFacts). AddsRootsOf z made.item f (all_needs z body r) [] qs) facts both) in
    let roots = subst (λ i. AddsRootsOf raw i f (all_needs raw b r) [] qs) item of_facts in
    let fit = added_fit raw c.lawful.ensures d b is r c.requires f all.of_item qs (adds_then raw f [] ps qs all.exprs.adds all.pats.adds) roots ks gss hss in
    subst (λ es. ProofsFit d (given raw d b) (with_goals c.from_vec.result es gss hss r)) (sym c.from_vec-2.ensures)
    (subst (λ xs. ProofsFit d (given raw d b) (with_goals xs ks gss hss r)) (sym c.from_vec.ensures) fit)

pub returns-clause-told : goal.returns-clause-told
returns-clause-told c b is =
    let raw = c.args.facts.now in
    let d = c.args.def in
    let r = c.args.table.now in
    let made = c.in_ok-sources.sources in
    let f = system made.sources in
    let n = made.facts.limits.goal_depth in
    let facts : made.facts ≡ raw = c.in_ok-sources.ensures.facts in
    let item : made.item ≡ scope_item raw d = c.in_ok-sources.ensures.item ∙ c.scope_item.ensures in
    let body = c.body-body.result.now in
    let same : body ≡ b = same_body raw d c.in-Some.id body b (sym c.body_id.ensures ∙ c.in-Some.is) c.body-body.ensures is in
    let first = c.new-told.result.items in
    let last = c.prove_pats.new.told.items in
    let exprs = first_needs made.facts body r (length body.exprs) in
    let pats = first_pat_needs made.facts r (length body.pats) in
    let listed = tells_both f n exprs pats first c.prove_exprs.new.told.items last c.in_ok-proofs.ensures.told c.in_ok-pat_gaps.ensures.told in
    let all : last ≡ listed.told = listed.behind ∙ ap (λ (ts : List (Goal × Answer)). ts ++ listed.told) c.new-told.ensures.items in
    let qs = c.prove_pats.new.proofs.items in
    let roots = roots_both exprs pats [] c.in_ok-proofs.proofs.items qs c.in_ok-proofs.ensures.roots c.in_ok-pat_gaps.ensures.roots in
    record {
      system = f;
      of_item = subst (λ i. IsSystemOf raw i f) item (subst (λ z. IsSystemOf z made.item f) facts c.lawful-2.ensures);
      answers = subst (λ xs. AreAnswered f raw.limits.goal_depth xs last) (sym (needs_stay raw b r c.from_vec.result c.from_vec-2.result c.in_ok-proofs.gaps c.in_ok-pat_gaps.pat_gaps))
          (subst (AreAnswered f raw.limits.goal_depth (all_needs raw b r)) (sym all)
          (subst (λ x. AreAnswered f raw.limits.goal_depth (all_needs raw x r) listed.told) same (subst (λ (z : RawFacts). AreAnswered f z.limits.goal_depth (all_needs z body r) listed.told) facts listed.answers)));
      roots = subst (λ ps. RootsAreTold ps last) (sym c.from_vec.ensures) (subst (RootsAreTold qs) (sym all) (roots_told f n (exprs ++ pats) qs listed.told roots listed.answers));
    }
