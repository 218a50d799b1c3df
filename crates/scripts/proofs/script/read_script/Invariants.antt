use Rattle.std.proofs.Common.{◌≡◌, map, vec_items}
use Rattle.scripts.specs.Script.{request, read_script}
use Rattle.scripts.proofs.ScriptLines.{read_on}
use Rattle.scripts.proofs.script.read_script.Given as goal

-- the lines still to come lead to the same
abbrev pub invariant-loop-line : goal.invariant-loop-line
invariant-loop-line l = read_script l.text ≡ read_on (map request (vec_items l.events)) l.line-iterator.rest
