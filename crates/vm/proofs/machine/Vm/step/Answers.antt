use Rattle.std.proofs.Common.{length, rules}
use Rattle.vm.proofs.machine.Vm.step.Goals as goal

pub returns-in-0 : goal.returns-in-0
returns-in-0 c pc h = let d = c.push.ensures (length c.args.vars.now) c.args.elapsed pc c.args.vars.now h in search rules

pub returns-in-1 : goal.returns-in-1
returns-in-1 c pc h = let d = c.load.ensures c.args.elapsed pc h in search rules

pub returns-in-2 : goal.returns-in-2
returns-in-2 c pc h = let d = c.store.ensures c.args.elapsed pc h in search rules

pub returns-in-3 : goal.returns-in-3
returns-in-3 c pc h = let d = c.invert.ensures (length c.args.vars.now) c.args.elapsed pc c.args.vars.now h in search rules

pub returns-in-4 : goal.returns-in-4
returns-in-4 c pc h = let d = c.binary.ensures (length c.args.vars.now) c.args.elapsed pc c.args.vars.now h in search rules

pub returns-in-5 : goal.returns-in-5
returns-in-5 c pc h = let d = c.jump.ensures c.args.items.now (length c.args.vars.now) c.args.elapsed pc c.args.vars.now h in search rules

pub returns-in-6 : goal.returns-in-6
returns-in-6 c pc h = let d = c.jump_if_zero.ensures (length c.args.vars.now) c.args.elapsed pc c.args.vars.now h in search rules

pub returns-in-7 : goal.returns-in-7
returns-in-7 c pc h = let d = c.enter.ensures (length c.args.vars.now) c.args.elapsed pc c.args.vars.now h in search rules

pub returns-in-8 : goal.returns-in-8
returns-in-8 c pc h = let d = c.back.ensures (length c.args.vars.now) c.args.elapsed pc c.args.vars.now h in search rules

pub returns-in-9 : goal.returns-in-9
returns-in-9 c pc h = let d = c.tick.ensures pc h in search rules
