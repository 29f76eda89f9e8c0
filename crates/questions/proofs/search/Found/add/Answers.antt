use Rattle.std.proofs.Common.{refl, arith}
use Rattle.questions.proofs.Sets.{kept_room, kept_more, added}
use Rattle.questions.proofs.search.Found.add.Goals as goal

pub bounds-self-self : goal.bounds-self-self
bounds-self-self c = kept_room _ _ _ c.args.self.now.kept c.args.x c.requires c.if-has.ensures

pub overflow_add-self : goal.overflow_add-self
overflow_add-self c = omega (arith, kept_room _ _ _ c.args.self.now.kept c.args.x c.requires c.if-has.ensures, c.args.self.now.kept.small)

pub invariant_of-self-2 : goal.invariant_of-self-2
invariant_of-self-2 c = record { kept = kept_more _ _ _ c.args.self.now.kept c.args.x c.requires c.if-has.ensures }

pub returns : goal.returns
returns c = record { set = added _ _ _ c.args.self.now.kept c.args.x c.requires c.if-has.ensures; same_list = refl }
