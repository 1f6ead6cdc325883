use Rattle.std.proofs.Common.{rules, Ok, Err, ◌∙◌}
use Rattle.std.specs.Fn.{FnOnceReturnsAtMut}
use Rattle.infer_goals.specs.Own.{GoesOn}
use Rattle.infer_goals.proofs.Undoing.{goes_back, kept_back, all_back}
use Rattle.infer_goals.proofs.table.GoalTable.commit_if_ok.Goals as goal

pub returns-in-Ok-clause-kept : goal.returns-in-Ok-clause-kept
returns-in-Ok-clause-kept g c =
    let ran : FnOnceReturnsAtMut g.F.FnOnce c.args.f c.args.self.now (Ok (Ok c.in-Ok.value)) c.run.new.self = search rules in
    (c.requires.keeps (Ok (Ok c.in-Ok.value)) c.run.new.self ran).kept

pub returns-in-Err-clause-commits : goal.returns-in-Err-clause-commits
returns-in-Err-clause-commits g c =
    let before = c.args.self.now in
    let during = c.run.new.self in
    let after = c.rollback_to.new.self in
    let taken = c.in_ok-before.ensures in
    let put = c.rollback_to.ensures in
    let shot = c.in_ok-before.before in
    let ran : FnOnceReturnsAtMut g.F.FnOnce c.args.f before (Ok (Err c.in-Err.refusal)) during = search rules in
    let on : GoesOn before during = c.requires.goes_on (Ok (Err c.in-Err.refusal)) during ran in
    let back = goes_back before during after shot.table shot.bounded shot.obligations taken.table taken.obligations taken.bounded on
    put.table put.kinds put.bounded put.sources put.obligations put.told (put.uses ∙ taken.uses) (put.projections ∙ taken.projections) in
    (during, ran, back)

pub returns-in-Err-clause-kept : goal.returns-in-Err-clause-kept
returns-in-Err-clause-kept g c =
    let before = c.args.self.now in
    let during = c.run.new.self in
    let after = c.rollback_to.new.self in
    let taken = c.in_ok-before.ensures in
    let put = c.rollback_to.ensures in
    let shot = c.in_ok-before.before in
    let ran : FnOnceReturnsAtMut g.F.FnOnce c.args.f before (Ok (Err c.in-Err.refusal)) during = search rules in
    let on : GoesOn before during = c.requires.goes_on (Ok (Err c.in-Err.refusal)) during ran in
    let back = goes_back before during after shot.table shot.bounded shot.obligations taken.table taken.obligations taken.bounded on
    put.table put.kinds put.bounded put.sources put.obligations put.told (put.uses ∙ taken.uses) (put.projections ∙ taken.projections) in
    kept_back before during after on back c.requires.kept

pub returns-in-Err-clause-all : goal.returns-in-Err-clause-all
returns-in-Err-clause-all g c =
    let before = c.args.self.now in
    let during = c.run.new.self in
    let after = c.rollback_to.new.self in
    let taken = c.in_ok-before.ensures in
    let put = c.rollback_to.ensures in
    let shot = c.in_ok-before.before in
    let ran : FnOnceReturnsAtMut g.F.FnOnce c.args.f before (Ok (Err c.in-Err.refusal)) during = search rules in
    let on : GoesOn before during = c.requires.goes_on (Ok (Err c.in-Err.refusal)) during ran in
    let back = goes_back before during after shot.table shot.bounded shot.obligations taken.table taken.obligations taken.bounded on
    put.table put.kinds put.bounded put.sources put.obligations put.told (put.uses ∙ taken.uses) (put.projections ∙ taken.projections) in
    all_back before during after on back c.requires.all
