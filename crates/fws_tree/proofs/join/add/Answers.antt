use Rattle.std.proofs.Common.{refl}
use Rattle.fws_tree.proofs.Gathering.{kids-push, kids-grow, has_kid-push, has_kid-new, part_has, at_place, nodes_same, set_at, below_here, kept_here, grown_here}
use Rattle.fws_tree.proofs.join.add.Goals as goal

pub extend-requires-clause-behind : goal.extend-requires-clause-behind
extend-requires-clause-behind c = below_here _ c.in_ok-at.at _ _ _ c.requires.kids
    (at_place _ _ _ _ _ _ _ c.requires.order c.in_ok-at.ensures.grown c.if-is_new.false c.in_ok-at.ensures.place c.index_mut.ensures.value)

pub returns-in_ok-push-clause-kids : goal.returns-in_ok-push-clause-kids
returns-in_ok-push-clause-kids c = rw c.in_ok-push.ensures.items (kids-push _ _ _ _ c.requires.kids c.requires.whole c.in_ok-one.ensures)

pub returns-in_ok-push-clause-kept : goal.returns-in_ok-push-clause-kept
returns-in_ok-push-clause-kept c = λ n x h. rw c.in_ok-push.ensures.items (has_kid-push _ _ n x h)

pub returns-in_ok-push-clause-here : goal.returns-in_ok-push-clause-here
returns-in_ok-push-clause-here c = λ x a b. rw c.in_ok-push.ensures.items (has_kid-new _ _ _ x refl (part_has _ _ _ x c.in_ok-one.ensures a b))

pub returns-in_ok-extend-clause-kids : goal.returns-in_ok-extend-clause-kids
returns-in_ok-extend-clause-kids c =
    let p = at_place _ _ _ _ _ _ _ c.requires.order c.in_ok-at.ensures.grown c.if-is_new.false c.in_ok-at.ensures.place c.index_mut.ensures.value in
    kids-grow _ _ _ _ _ _ c.requires.kids c.requires.whole p.within c.extend.ensures.regular (set_at _ _ _ _ _ _ _ p c.in_ok-extend.ensures.ok)

pub returns-in_ok-extend-clause-order : goal.returns-in_ok-extend-clause-order
returns-in_ok-extend-clause-order c =
    let p = at_place _ _ _ _ _ _ _ c.requires.order c.in_ok-at.ensures.grown c.if-is_new.false c.in_ok-at.ensures.place c.index_mut.ensures.value in
    nodes_same _ _ _ _ _ _ _ _ c.requires.order c.in_ok-at.ensures.grown c.if-is_new.false p refl

pub returns-in_ok-extend-clause-kept : goal.returns-in_ok-extend-clause-kept
returns-in_ok-extend-clause-kept c =
    let p = at_place _ _ _ _ _ _ _ c.requires.order c.in_ok-at.ensures.grown c.if-is_new.false c.in_ok-at.ensures.place c.index_mut.ensures.value in
    kept_here _ _ _ _ _ _ _ p c.in_ok-extend.ensures.ok

pub returns-in_ok-extend-clause-here : goal.returns-in_ok-extend-clause-here
returns-in_ok-extend-clause-here c =
    let p = at_place _ _ _ _ _ _ _ c.requires.order c.in_ok-at.ensures.grown c.if-is_new.false c.in_ok-at.ensures.place c.index_mut.ensures.value in
    grown_here _ _ _ _ _ _ _ p c.in_ok-extend.ensures.ok
