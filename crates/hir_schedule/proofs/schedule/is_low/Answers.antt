use Rattle.hir_schedule.proofs.Schedules.{low_answer}
use Rattle.hir_schedule.proofs.schedule.is_low.Goals as goal

pub returns : goal.returns
returns c =
    low_answer c.args._body.now c.args.schedule.now c.args.limit c.as_slice.result.now c.are_at_most.result c.requires.schedule c.requires.depths c.as_slice.ensures c.are_at_most.ensures
