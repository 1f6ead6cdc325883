use Rattle.std.proofs.Common.{◌∙◌, ap, subst, option_map}
use Rattle.infer_needs.specs.Words.{hole, IsLawful, answers, Asked, ReadingIs, term_of, kind_of, system, asked_goal}
use Rattle.infer_needs.proofs.ReadGoals.{read_at, reads_none, made_reads, goal_written}
use Rattle.infer_needs.proofs.read.read_goal.Goals as goal

pub returns-in_default : goal.returns-in_default
returns-in_default c =
    let f = system c.args.sources.now.sources in
    let raw = c.args.sources.now.facts in
    let a = asked_goal c.args.goal.now in
    let here = read_at c.args.sources.now.sources c.search.result raw c.raw.result.now c.in_ok-asks.asks a (option_map term_of c.in_ok-read.read) c.search.ensures (c.raw.ensures.value ∙ c.facts.ensures) c.in_ok-asks.ensures.is c.in_ok-read.ensures.answer in
    record {
      read = reads_none f raw.limits.goal_depth a (subst (λ o. ReadingIs (answers f raw.limits.goal_depth).Alias hole a.parts (option_map term_of o)) c.in_default.is here);
      written = tt;
    }

pub returns : goal.returns
returns c =
    let f = system c.args.sources.now.sources in
    let raw = c.args.sources.now.facts in
    let n = raw.limits.goal_depth in
    let g = c.args.goal.now in
    let a = asked_goal g in
    let here = read_at c.args.sources.now.sources c.search.result raw c.raw.result.now c.in_ok-asks.asks a (option_map term_of c.in_ok-read.read) c.search.ensures (c.raw.ensures.value ∙ c.facts.ensures) c.in_ok-asks.ensures.is c.in_ok-read.ensures.answer in
    let reads = subst (λ o. ReadingIs (answers f n).Alias hole a.parts (option_map term_of o)) c.in-Some.is here in
    let made = made_reads raw c.args.sources.now.item f c.lawful.ensures n g c.requires (kind_of c.in_ok-asks.asks.kind) (term_of c.in-Some.parts) c.in_ok-made.made (ap (λ (x : Asked). x.kind) c.in_ok-asks.ensures.is) reads c.in_ok-made.ensures in
    record {
      read = made;
      written = goal_written raw c.args.sources.now.item f c.lawful.ensures n g c.requires (subst IsLawful (c.raw.ensures.value ∙ c.facts.ensures) c.raw.ensures.lawful) (asked_goal c.in_ok-made.made) made;
    }
