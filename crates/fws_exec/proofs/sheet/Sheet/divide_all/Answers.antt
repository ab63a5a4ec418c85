use Rattle.std.proofs.Common.{cond, sym, ◌∙◌, ap, subst}
use Rattle.fws_exec.specs.Classes.{kind_of}
use Rattle.fws_exec.specs.Divided.{held, says_of, AreMoved, AreNoted}
use Rattle.fws_exec.specs.Sheets.{among, class_at}
use Rattle.fws_exec.specs.Views.{is_in}
use Rattle.fws_exec.proofs.Moved.{moved_test, noted_test, says_nothing}
use Rattle.fws_exec.proofs.sheet.Sheet.divide_all.Goals as goal

pub divide_groups-requires-clause-here : goal.divide_groups-requires-clause-here
divide_groups-requires-clause-here c = (c.requires.here.0, c.requires.here.1, λ n h. c.requires.here.2 n (c.in_ok-groups.ensures.inside n (ap (λ gs. is_in gs n) (sym c.as_slice.ensures.value) ∙ h)), c.requires.here.3)

pub returns-clause-moved : goal.returns-clause-moved
returns-clause-moved c =
    moved_test c.args.going (is_in c.in_ok-groups.groups.all.items) (among c.args.numbers.now) (held c.args.ground.now.site.now c.args.ground.now.state c.args.part c.args.cond.now) c.args.self.now c.divide_groups.new.self
    c.in_ok-groups.ensures.inside
    (λ p d used b out. ap (λ k. cond k 1 0) (c.in_ok-groups.ensures.left (class_at c.args.self.now p) d b out used.0 c.args.ground.now.site.now (kind_of c.args.ground.now.state p) c.args.part p))
    (subst (λ gs. AreMoved c.args.going (is_in gs) (held c.args.ground.now.site.now c.args.ground.now.state c.args.part c.args.cond.now) c.args.self.now c.divide_groups.new.self) c.as_slice.ensures.value c.in_ok-divide_groups.ensures.moved)

pub returns-clause-noted : goal.returns-clause-noted
returns-clause-noted c =
    noted_test (says_of c.args.going) (is_in c.in_ok-groups.groups.all.items) (among c.args.numbers.now) (held c.args.ground.now.site.now c.args.ground.now.state c.args.part c.args.cond.now) c.args.self.now c.divide_groups.new.self
    (says_nothing c.args.going) c.in_ok-groups.ensures.inside
    (λ p d used b out. ap (λ k. cond k 1 0) (c.in_ok-groups.ensures.left (class_at c.args.self.now p) d b out used.0 c.args.ground.now.site.now (kind_of c.args.ground.now.state p) c.args.part p))
    (subst (λ gs. AreNoted (says_of c.args.going) (is_in gs) (held c.args.ground.now.site.now c.args.ground.now.state c.args.part c.args.cond.now) c.args.self.now c.divide_groups.new.self) c.as_slice.ensures.value c.in_ok-divide_groups.ensures.noted)
