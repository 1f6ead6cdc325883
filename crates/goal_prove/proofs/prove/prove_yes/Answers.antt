use Rattle.std.proofs.Common.{None, sym, ap, subst}
use Rattle.goal_prove.specs.Words.{Term, hole, Asked, Kind, answers, ReadsAs, ReadingIs, term_of, HasHeads, Sources, system}
use Rattle.goal_prove.specs.Own.{ReadsTo, IsAsked}
use Rattle.goal_prove.proofs.Whole.{reads_some, whole_reads, whole_asked}
use Rattle.goal_prove.proofs.prove.prove_yes.Goals as goal

pub unreachable-requires : goal.unreachable-requires
unreachable-requires c =
    let raw = c.args.sources.now.facts in
    let f = system c.args.sources.now.sources in
    let n = c.args.depth in
    let g = c.args.goal.now in
    let none = rw c.in_default.is at c.in_ok-target.ensures.answer in
    let here = subst (λ (s : Sources). ReadingIs (answers (system s) n).Alias hole (term_of c.args.asked.now.parts) None) c.requires.same none in
    let parts = ap (λ (x : Asked). x.parts) c.requires.asked in
    reads_some raw c.args.sources.now.item f c.lawful.ensures c.in_ok-_listed.ensures.heads n c.requires.depth g c.requires.written c.requires.yes
    (subst (λ (t : Term). ReadingIs (answers f n).Alias hole t None) parts here)

pub prove_anew-requires-clause-goal : goal.prove_anew-requires-clause-goal
prove_anew-requires-clause-goal c =
    let raw = c.args.sources.now.facts in
    let f = system c.args.sources.now.sources in
    let n = c.args.depth in
    let g = c.args.goal.now in
    let w = term_of c.in-Some.target in
    let some = rw c.in-Some.is at c.in_ok-target.ensures.answer in
    let here = subst (λ (s : Sources). ReadsAs (answers (system s) n).Alias (term_of c.args.asked.now.parts) w) c.requires.same some in
    let reads = subst (λ (t : Term). ReadsAs (answers f n).Alias t w) (ap (λ (x : Asked). x.parts) c.requires.asked) here in
    subst (λ (k : Kind). ReadsTo raw f g k w) (sym (ap (λ (x : Asked). x.kind) c.requires.asked))
    (whole_reads raw c.args.sources.now.item f c.lawful.ensures c.in_ok-_listed.ensures.heads n c.requires.depth g c.requires.written c.requires.yes w reads)

pub prove_anew-requires-clause-asked : goal.prove_anew-requires-clause-asked
prove_anew-requires-clause-asked c =
    let raw = c.args.sources.now.facts in
    let f = system c.args.sources.now.sources in
    let n = c.args.depth in
    let g = c.args.goal.now in
    let w = term_of c.in-Some.target in
    let some = rw c.in-Some.is at c.in_ok-target.ensures.answer in
    let here = subst (λ (s : Sources). ReadsAs (answers (system s) n).Alias (term_of c.args.asked.now.parts) w) c.requires.same some in
    let parts = ap (λ (x : Asked). x.parts) c.requires.asked in
    let reads = subst (λ (t : Term). ReadsAs (answers f n).Alias t w) parts here in
    subst (λ (k : Kind). IsAsked raw f n k w) (sym (ap (λ (x : Asked). x.kind) c.requires.asked))
    (whole_asked raw c.args.sources.now.item f c.lawful.ensures c.in_ok-_listed.ensures.heads n c.requires.depth g c.requires.written c.requires.yes w reads (subst HasHeads parts c.requires.heads))
