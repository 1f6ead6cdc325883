use Rattle.infer_obligations.proofs.read.read_nodes.Goals as goal

pub read_pats-requires-clause-of_body : goal.read_pats-requires-clause-of_body
read_pats-requires-clause-of_body c = c.in_ok-read_paths.ensures.binds.follows.of_body

pub read_pats-requires-clause-sound : goal.read_pats-requires-clause-sound
read_pats-requires-clause-sound c = c.in_ok-read_paths.ensures.binds.follows.sound

pub returns : goal.returns
returns c = (c.read_paths.new.context, c.in_ok-read_paths.ensures, c.in_ok-read_pats.ensures)
