use Rattle.std.proofs.Common.{ℕ}
use Rattle.hir_types.specs.declared.ids.DefWithBodyId.TheVariants as def
use Rattle.hir_facts.specs.Words.{params_of}
use Rattle.hir_facts.proofs.Callees.{body_plain, body_looks_plain, body_lets_fit, body_literals_fit}
use Rattle.hir_facts.proofs.plain_body.is_plain_body.Goals as goal

pub looks_plain-requires : goal.looks_plain-requires
looks_plain-requires g c = body_lets_fit c.args.facts.now c.lawful.ensures g.owner c.args.body.now c.requires

pub returns : goal.returns
returns g c =
    let n : ℕ = params_of c.args.facts.now (def.FunctionId g.owner) in (
      λ h. body_plain c.args.facts.now n c.args.body.now (body_literals_fit c.args.facts.now c.lawful.ensures g.owner c.args.body.now c.requires) (c.looks_plain.ensures.0 h),
      λ p. c.looks_plain.ensures.1 (body_looks_plain c.args.facts.now n c.args.body.now p),
    )
