use Rattle.printer.proofs.Rewrites.{rewritten}
use Rattle.printer.proofs.reprint.Goals as goal

pub returns : goal.returns
returns c =
    let t = c.in_ok-tree.ensures in
    rewritten c.args.tokens.now c.args.room.now c.in_ok-tree.tree.nodes c.in_ok-tree.tree.root t.0 t.1 c.print.result c.print.new.room c.print.ensures
