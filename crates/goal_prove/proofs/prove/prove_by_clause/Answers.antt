use Rattle.std.proofs.Common.{sym}
use Rattle.goal_prove.specs.Words.{term_of, kind_of, system}
use Rattle.goal_prove.proofs.Built.{by_clause}
use Rattle.goal_prove.proofs.prove.prove_by_clause.Goals as goal

pub returns : goal.returns
returns c =
    by_clause c.args.sources.now.facts c.args.sources.now.item (system c.args.sources.now.sources) c.lawful.ensures c.args.depth c.requires.depth (kind_of c.args.kind) (term_of c.args.target.now) c.requires.asked c.args.goal.now c.requires.goal
    c.args.found c.requires.fit c.in_ok-clause.clause c.in_ok-clause.ensures _ (sym c.new.ensures) c.args.proofs.now.items c.push_proof.new.proofs.items c.push_proof.result c.push_proof.ensures
