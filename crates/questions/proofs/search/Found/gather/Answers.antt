use Rattle.std.proofs.Common.{true, refl, ◌∙◌}
use Rattle.gmap.proofs.Orbits.{orbit_live}
use Rattle.questions.proofs.Finding.{progress_none, progress_more, collected}
use Rattle.questions.proofs.search.Found.gather.Goals as goal

pub loop-done-init : goal.loop-done-init
loop-done-init g c = (progress_none _ _ _ _ _ _ _ c.add.new.self.kept c.add.ensures.set, refl)

pub invariant_of-expand : goal.invariant_of-expand
invariant_of-expand g c =
    let law = g.met.C.GMap.partners c.args.tuple.now.map.now in
    record { live = orbit_live _ law _ true c.args.tuple.now.live (c.loop-done.invariant.0.only c.loop-done.done c.loop-done-test.true) }

pub loop-done-preserved : goal.loop-done-preserved
loop-done-preserved g c = (progress_more _ _ _ _ _ _ _ _ _ c.loop-done.invariant.0 c.loop-done-test.true c.expand.ensures.set, c.expand.ensures.same_list ∙ c.loop-done.invariant.1)

pub returns-clause-orbit : goal.returns-clause-orbit
returns-clause-orbit g c =
    let law = g.met.C.GMap.partners c.args.tuple.now.map.now in
    collected _ law _ _ _ _ _ _ c.loop-done.done c.loop-done.invariant.0 c.loop-done.self.kept c.loop-done-test.false
