use Rattle.hir_plain.proofs.FnMarks.{signature_plain, signature_marked}
use Rattle.hir_plain.proofs.plain.has_plain_signature.Goals as goal

pub returns : goal.returns
returns c = (
  λ h. signature_plain c.args.raw.now c.args.nodes.now c.args._at c.args.function.now c.requires.lawful c.requires.nodes c.requires.found (c.has_marked_signature.ensures.0 h),
  λ s. c.has_marked_signature.ensures.1 (signature_marked c.args.raw.now c.args.nodes.now c.args.function.now c.requires.nodes s),
)
