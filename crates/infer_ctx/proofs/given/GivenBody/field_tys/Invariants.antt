use Rattle.std.proofs.Common.{◌≡◌, map, take}
use Rattle.infer_ctx.specs.Words.{opened}
use Rattle.infer_ctx.specs.Own.{field_at}
use Rattle.infer_ctx.proofs.given.GivenBody.field_tys.Given as goal

abbrev pub invariant-loop-field : goal.invariant-loop-field
invariant-loop-field l = l.tys ≡ map (field_at (opened l.params l.aliases.items l.self.facts.now.types) l.args) (take l.field-index l.field-items)
