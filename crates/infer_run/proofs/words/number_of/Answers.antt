use Rattle.std.proofs.Common.{◌≡◌, ℕ, Ok, Err, sym, ◌∙◌, true, false, arith, ap}
use Rattle.std.specs.Fmt.{decimal}
use Rattle.std.specs.Str.{bytes_eq}
use Rattle.std.proofs.lemmas.Fmt.{parse-decimal}
use Rattle.std.proofs.lemmas.Slice.Eq.{bytes_eq-Decides}
use Rattle.infer_run.proofs.words.number_of.Goals as goal

pub returns-in-Err-clause-none : goal.returns-in-Err-clause-none
returns-in-Err-clause-none c n lt is =
    let e = parse-decimal 32 n c.args.word.now c.parse.result lt (omega arith) is c.parse.ensures.value.0 in
    let both : Err c.in-Err.field-0 ≡ Ok n = sym c.in-Err.is ∙ e in cc

pub returns-else-eq-clause-none : goal.returns-else-eq-clause-none
returns-else-eq-clause-none c n lt is =
    let e = parse-decimal 32 n c.args.word.now c.parse.result lt (omega arith) is c.parse.ensures.value.0 in
    let both : Ok c.in-Ok.n ≡ Ok n = sym c.in-Ok.is ∙ e in
    let same : c.in-Ok.n ≡ n = cc in
    let text : c.format.result.now ≡ c.args.word.now = c.format.ensures.text ∙ (ap (λ (m : ℕ). decimal m) same ∙ sym is) in
    let equal : bytes_eq c.format.result.now c.args.word.now ≡ true = (bytes_eq-Decides c.format.result.now c.args.word.now).1 text in
    let unequal : false ≡ bytes_eq c.format.result.now c.args.word.now = c.if-eq.ensures in
    let clash : false ≡ true = unequal ∙ equal in cc
