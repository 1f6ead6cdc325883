use Rattle.std.proofs.Common.{◌≡◌, map, sym, ◌∙◌, codes}
use Rattle.std.specs.Rc.{rc_str_bytes}
use Rattle.std.proofs.lemmas.Slice.Eq.{bytes_eq-Decides}
use Rattle.infer_run.proofs.Three.{all_three, is_asked}
use Rattle.infer_run.proofs.words.command.Goals as goal

pub returns-in-len3-clause-some : goal.returns-in-len3-clause-some
returns-in-len3-clause-some c =
    let table : c.as_str.result.now ≡ codes "table" = (bytes_eq-Decides c.as_str.result.now (codes "table")).0 (sym c.if-eq.ensures) in
    let words = all_three (rc_str_bytes) c.args.words.now c.verb-item.result c.kind-item.result c.number-item.result c.in-len3.len_at_least c.in-len3.len_below c.verb-item.is c.kind-item.is c.number-item.is in
    is_asked c.named.result (map rc_str_bytes c.args.words.now) (rc_str_bytes c.verb-item.result) (rc_str_bytes c.kind-item.result) (rc_str_bytes c.number-item.result) words
    (sym c.as_str.ensures.value ∙ table) (rw (c.as_str-in-len3.ensures.value, c.as_str-in-len3-2.ensures.value) at c.named.ensures.some)
