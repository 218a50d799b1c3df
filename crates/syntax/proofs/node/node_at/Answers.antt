use Rattle.std.proofs.Common.{◌∙◌}
use Rattle.syntax.proofs.Decodes.{decoded, node_at_is}
use Rattle.syntax.proofs.node.node_at.Goals as goal

pub returns : goal.returns
returns c = decoded c.args.nodes.now c.args.i _ (c.decode.ensures ∙ node_at_is c.args.nodes.now c.args.i _ _ _ _ c.number_at.ensures c.number_at-2.ensures c.number_at-3.ensures c.number_at-4.ensures)
