use Rattle.std.specs.Option.{option_copied}
use Rattle.std.specs.Prelude.{IfOk}
use Rattle.std.proofs.Common.{rules, ◌≡◌, ◌∙◌, sym, ap, subst, Some, Ok, Err, List, map}
use Rattle.infer_calls.specs.Words.{expected_type, given_of, replaced, Ty, NoUnifier, IsResolvedOr}
use Rattle.std.specs.declared.alloc.AllocError.{AllocError}
use Rattle.infer_calls.specs.Own.{IsTried}
use Rattle.infer_calls.proofs.ExpectedInputs.{found_tried}
use Rattle.infer_calls.proofs.inputs.expected_inputs_for_output.Goals as goal

pub returns-in-Ok : goal.returns-in-Ok
returns-in-Ok c =
    let g = given_of c.args.given.now in
    let old = c.args.context.now in
    let e = c.in-Some.expected_output.now in
    let f = c.fudge.ensures in
    let is : expected_type c.args.expected ≡ Some e = sym c.only_has_type.ensures ∙ ap option_copied c.in-Some.is in
    let tried : IfOk f.given (λ answer. IsTried c.args.inputs.now c.args.output.now e old.goals.table f.during answer) = search rules in
    found_tried g old c.requires.of_body c.requires.sound c.args.inputs.now c.args.output.now e c.requires.inputs c.requires.output _ is c.requires.expected f.during c.fudge.new.self f.given (Ok c.in-Ok.wanted) tried
    (subst (λ r. IsResolvedOr {T = List Ty} {E = NoUnifier} {O = AllocError} (λ s ts. map (replaced s) ts) f.during f.given r) (c.in_ok-tried-in-Some.was ∙ ap (λ r. Ok r) c.in-Ok.is) f.resolved) f.undone

pub returns-in-Err : goal.returns-in-Err
returns-in-Err c =
    let g = given_of c.args.given.now in
    let old = c.args.context.now in
    let e = c.in-Some.expected_output.now in
    let f = c.fudge.ensures in
    let is : expected_type c.args.expected ≡ Some e = sym c.only_has_type.ensures ∙ ap option_copied c.in-Some.is in
    let tried : IfOk f.given (λ answer. IsTried c.args.inputs.now c.args.output.now e old.goals.table f.during answer) = search rules in
    found_tried g old c.requires.of_body c.requires.sound c.args.inputs.now c.args.output.now e c.requires.inputs c.requires.output _ is c.requires.expected f.during c.fudge.new.self f.given (Err c.in-Err.field-0) tried
    (subst (λ r. IsResolvedOr {T = List Ty} {E = NoUnifier} {O = AllocError} (λ s ts. map (replaced s) ts) f.during f.given r) (c.in_ok-tried-in-Some.was ∙ ap (λ r. Ok r) c.in-Err.is) f.resolved) f.undone
