use Rattle.std.proofs.Common.{◌≡◌, ◌+◌, subst, arith}
use Rattle.splitting.specs.Stages.{AllLinked}
use Rattle.splitting.proofs.Linking.{all_seated, all_free, all_more}
use Rattle.splitting.proofs.links.link_all.Goals as goal

pub link_new-requires : goal.link_new-requires
link_new-requires g c =
    let w = c.loop-j.invariant in
    let s = c.requires.seated in
    record { seated = all_seated _ _ s _ c.loop-j.auto.j _ w; above = c.loop-j.auto.j; switch = omega (arith, w.top, c.top-j-end.ensures, c.loop-j-test.true); free = all_free _ _ s _ c.loop-j.auto.j _ w c.requires.free }

pub loop-j-preserved : goal.loop-j-preserved
loop-j-preserved g c = all_more _ _ c.requires.seated _ c.loop-j.auto.j _ c.loop-j.invariant _ c.in_ok-link_new.ensures

pub returns : goal.returns
returns g c =
    let m = g.B.Reads.meaning c.args.board.now in
    let e : c.loop-j.j ≡ m.top + 1 = omega (arith, c.top-j-end.ensures, c.loop-j.auto.j-end, c.loop-j-test.false) in
    subst (λ j. AllLinked m c.args.edge.now j (g.B.Reads.meaning c.loop-j.board)) e c.loop-j.invariant
