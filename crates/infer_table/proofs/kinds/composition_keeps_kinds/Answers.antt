use Rattle.std.proofs.Common.{sym, subst}
use Rattle.infer_table.specs.Words.{IsInt, terms_of}
use Rattle.infer_table.specs.Own.{terms_composed, is_int_apply}
use Rattle.infer_table.proofs.kinds.composition_keeps_kinds.Goals as goal

pub returns : goal.returns
returns c f g after first k is = subst IsInt (sym (terms_composed f g k)) (is_int_apply (terms_of f) (terms_of g k) after (first k is))
