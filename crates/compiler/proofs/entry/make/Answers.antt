use Rattle.std.proofs.Common.{arith}
use Rattle.lexer.specs.Pairs.{tokens_in}
use Rattle.syntax.proofs.Complete.{one_tree}
use Rattle.compiler.proofs.Making.{few_tokens, makes_codes, makes_right, never_short}
use Rattle.compiler.proofs.Short.{short_code}
use Rattle.compiler.proofs.entry.make.Goals as goal

pub returns : goal.returns
returns c =
    let signs = c.args.signs.now in
    let shaped = c.in_ok-tree.ensures.0 in
    let read = c.in_ok-tree.ensures.1 in
    let room = c.args.room.now in
    let room' = c.write_code.new.room in
    let r = c.write_code.result in
    let s = read.program in
    let codes = c.write_code.ensures s read.holds (omega (arith, short_code (tokens_in signs) s read.reads, few_tokens signs shaped)) in
    record {
      makes = makes_codes signs room room' r s shaped read.reads codes;
      right = makes_right signs room room' r s one_tree read.names read.reads codes;
      enough = never_short signs room room' r s read.reads codes;
    }
