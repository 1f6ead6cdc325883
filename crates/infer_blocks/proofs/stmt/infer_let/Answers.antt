use Rattle.infer_blocks.proofs.Stmts.{comes_to_pat, let_walked}
use Rattle.infer_blocks.proofs.stmt.infer_let.Goals as goal

pub infer_top_pat-requires : goal.infer_top_pat-requires
infer_top_pat-requires g c = comes_to_pat _ _ _ _ _ _ _ c.requires.before _ _ c.in_ok-ty.ensures

pub returns : goal.returns
returns g c = let_walked _ _ _ _ _ _ _ c.requires.before _ _ _ c.in_ok-ty.ensures c.in_ok-infer_top_pat.ensures
