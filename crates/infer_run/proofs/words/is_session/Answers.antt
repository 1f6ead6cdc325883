use Rattle.std.proofs.Common.{map, codes, ap, ◌∙◌}
use Rattle.std.specs.Rc.{rc_str_bytes}
use Rattle.std.specs.Str.{bytes_eq}
use Rattle.infer_run.proofs.Asked.{all_one, is_one}
use Rattle.infer_run.proofs.words.is_session.Goals as goal

pub returns-in-len1 : goal.returns-in-len1
returns-in-len1 c =
    let words = all_one rc_str_bytes c.args.words.now c.verb-item.result c.in-len1.len_at_least c.in-len1.len_below c.verb-item.is in
    is_one (map rc_str_bytes c.args.words.now) (rc_str_bytes c.verb-item.result) (codes "session") c.eq.result words (c.eq.ensures ∙ ap (λ w. bytes_eq w (codes "session")) c.as_str.ensures.value)
