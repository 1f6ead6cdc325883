use Rattle.std.proofs.Common.{◌≡◌, ◌∙◌, sym, subst, true≢false, option_map}
use Rattle.goal_facts.specs.Words.{hole, term, ReadsAs, answers, ReadingIs, RawFacts, term_of, Sources, system}
use Rattle.goal_facts.specs.Own.{IsTypeRead}
use Rattle.goal_facts.proofs.TypesRead.{reads_back, reads_none}
use Rattle.goal_facts.proofs.item_sources.ItemSources.read_ty.Goals.{then-same, else-same}
use Rattle.goal_facts.proofs.item_sources.ItemSources.read_ty.Goals as goal

pub returns-clause-read : goal.returns-clause-read
returns-clause-read c =
    let f = system c.args.self.now.sources in
    let n = c.args.self.now.facts.limits.goal_depth in
    let t = c.args.ty.now in
    let raw : c.raw.result.now ≡ c.args.self.now.facts = c.raw.ensures.value ∙ c.facts.ensures in
    let at_depth : ReadingIs (answers (system c.search.result) c.raw.result.now.limits.goal_depth).Alias hole (term_of c.in_ok-term.term) (option_map term_of c.in_ok-read.read) = c.in_ok-read.ensures.answer in
    let of_facts = subst (λ (x : RawFacts). ReadingIs (answers (system c.search.result) x.limits.goal_depth).Alias hole (term_of c.in_ok-term.term) (option_map term_of c.in_ok-read.read)) raw at_depth in
    let of_sources = subst (λ (x : Sources). ReadingIs (answers (system x) n).Alias hole (term_of c.in_ok-term.term) (option_map term_of c.in_ok-read.read)) c.search.ensures of_facts in
    let answer = subst (λ x. ReadingIs (answers f n).Alias hole x (option_map term_of c.in_ok-read.read)) c.in_ok-term.ensures.is of_sources in
    let reads : ReadsAs (answers f n).Alias (term t) (term_of c.in-Some.read) = subst (λ o. ReadingIs (answers f n).Alias hole (term t) (option_map term_of o)) c.in-Some.is answer in
    elim c.if-same.branch [
      | then-same w ↦
          subst (IsTypeRead f n t) (sym w.result-is)
          (reads_back f n t c.in_ok-made.made (term_of c.in-Some.read) (term_of c.in_ok-type_term.field-0) reads c.in_ok-type_term.ensures.is (c.is_same-same.ensures.0 w.if-same.true))
      | else-same w ↦
          subst (IsTypeRead f n t) (sym w.result-is)
          (reads_none f n t c.in_ok-made.made (term_of c.in-Some.read) (term_of c.in_ok-type_term.field-0) reads c.in_ok-type_term.ensures.is c.in_ok-made.ensures.is (λ same. true≢false (sym (c.is_same-same.ensures.1 same) ∙ w.if-same.false)))
    ]
