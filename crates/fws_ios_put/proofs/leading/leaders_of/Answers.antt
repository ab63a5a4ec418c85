use Rattle.std.proofs.Common.{◌+◌, List, ℕ, sym, subst}
use Rattle.fws_ios_put.specs.Layout.{AreLeaders, MayLead}
use Rattle.fws_ios_put.proofs.Leaders.{no_leaders, one_more}
use Rattle.fws_ios_put.proofs.leading.leaders_of.Goals as goal

pub loop-i-init : goal.loop-i-init
loop-i-init c =
    subst (λ (items : List ℕ). AreLeaders c.args.new.now.1 c.args.known.now.1 0 items) (sym c.new-leaders.ensures) (no_leaders c.args.new.now.1 c.args.known.now.1)

pub loop-i-preserved : goal.loop-i-preserved
loop-i-preserved c =
    let new = c.args.new.now.1 in
    let known = c.args.known.now.1 in
    subst (λ (items : List ℕ). AreLeaders new known (c.loop-i.i + 1) items) (sym c.in_ok-put.ensures.ok)
    (one_more new known c.loop-i.i c.leader_of-leader.result c.loop-i.leaders c.loop-i.invariant
    (subst (λ (items : List ℕ). MayLead new known items (c.loop-i.i + 1) c.leader_of-leader.result) c.as_slice.ensures c.leader_of-leader.ensures))
