use Rattle.std.proofs.Common.{◌∙◌, option_map, sym, subst, true≢false}
use Rattle.infer_needs.specs.Words.{hole, alias_params, IsLawful, answers, ReadingIs, system, term_of}
use Rattle.infer_needs.proofs.FitParts.{alias_takes, alias_args}
use Rattle.infer_needs.proofs.ReadsFit.{still_takes}
use Rattle.infer_needs.proofs.Writing.{args_final, lists_at}
use Rattle.infer_needs.proofs.written.look_at_args.Goals as goal

pub look_at_alias-requires-clause-whole : goal.look_at_alias-requires-clause-whole
look_at_alias-requires-clause-whole c =
    let raw = c.args.sources.now.facts in
    let f = system c.args.sources.now.sources in
    let n = raw.limits.goal_depth in
    let w = term_of c.args.args.now in
    let reads = subst (λ o. ReadingIs (answers f n).Alias hole w (option_map term_of o)) c.in-Some.is c.in_ok-read.ensures.read in
    let law = subst IsLawful c.facts.ensures c.lawful.ensures in
    args_final raw law c.args.sources.now.item f c.in_ok-read.ensures.given n w (term_of c.in-Some.read) c.requires.written
    (λ holds. true≢false (sym (c.holds_placeholder.ensures.1 holds) ∙ c.if-holds_placeholder.false)) (alias_args raw c.args.sources.now.item c.args.alias w c.requires.fits) reads

pub look_at_alias-requires-clause-many : goal.look_at_alias-requires-clause-many
look_at_alias-requires-clause-many c =
    let raw = c.args.sources.now.facts in
    let item = c.args.sources.now.item in
    let f = system c.args.sources.now.sources in
    let n = raw.limits.goal_depth in
    let w = term_of c.args.args.now in
    let reads = subst (λ o. ReadingIs (answers f n).Alias hole w (option_map term_of o)) c.in-Some.is c.in_ok-read.ensures.read in
    let law = subst IsLawful c.facts.ensures c.lawful.ensures in
    still_takes raw law item f c.in_ok-read.ensures.given n (alias_params raw c.args.alias) w (term_of c.in-Some.read) (alias_takes raw item c.args.alias w c.requires.fits) reads

pub returns-in_ok-look_at_alias-in-Some : goal.returns-in_ok-look_at_alias-in-Some
returns-in_ok-look_at_alias-in-Some c =
    let raw = c.args.sources.now.facts in
    let item = c.args.sources.now.item in
    let f = system c.args.sources.now.sources in
    let n = raw.limits.goal_depth in
    let w = term_of c.args.args.now in
    let reads = subst (λ o. ReadingIs (answers f n).Alias hole w (option_map term_of o)) c.in-Some.is c.in_ok-read.ensures.read in
    lists_at raw item f c.args.alias w (term_of c.in-Some.read) c.args.proofs.now.items c.look_at_alias.new.proofs.items c.args.found.now c.look_at_alias.new.found reads c.in_ok-look_at_alias-in-Some.ensures
