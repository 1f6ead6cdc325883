use Rattle.std.proofs.Common.{Some}
use Rattle.serde_json.specs.View.{view}
use Rattle.infer_text.proofs.Whole.{meaning-read, meaning-none}
use Rattle.infer_text.proofs.reading.read_raw.Goals as goal

pub returns-in-Ok : goal.returns-in-Ok
returns-in-Ok g c =
    rw (meaning-read g.T.FromData.reads c.args.text.now (Some (view c.in-Ok.value)) c.in-Ok.ensures.ok.0 c.in-Ok.ensures.ok.1) c.read_value.ensures

pub returns-in_default : goal.returns-in_default
returns-in_default g c = meaning-none g.T.FromData.reads c.args.text.now (c.in-Err.ensures.err (λ m. c.in_default.not-Memory (c.classify.ensures.memory.1 m)))
