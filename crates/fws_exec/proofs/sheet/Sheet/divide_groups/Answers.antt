use Rattle.std.proofs.Common.{◌+◌, ◌<◌, take, length, refl, ◌∙◌, subst, arith}
use Rattle.std.proofs.lemmas.List.{take_all}
use Rattle.fws_exec.specs.Divided.{held, says_of, AreMoved, AreNoted}
use Rattle.fws_exec.specs.MovingLaws.{grown-same, grown-then}
use Rattle.fws_exec.specs.Sheets.{among}
use Rattle.fws_exec.specs.Views.{is_in}
use Rattle.fws_exec.proofs.Listing.{any_more, any_item}
use Rattle.fws_exec.proofs.Moved.{at_grows, moved_both, moved_none, noted_both, noted_none}
use Rattle.fws_exec.proofs.sheet.Sheet.divide_groups.Goals as goal

pub loop-group-init : goal.loop-group-init
loop-group-init c = record {
  sheet = c.requires.sheet;
  tops = c.requires.tops;
  same = refl;
  moved = moved_none c.args.going (is_in (take 0 c.args.groups.now)) (held c.args.ground.now.site.now c.args.ground.now.state c.args.part c.args.cond.now) c.args.self.now (λ n. refl);
  noted = noted_none (says_of c.args.going) (is_in (take 0 c.args.groups.now)) (held c.args.ground.now.site.now c.args.ground.now.state c.args.part c.args.cond.now) c.args.self.now (λ n. refl);
  grown = grown-same c.args.going c.args.self.now.roll.classes.items;
}

pub loop-group-preserved : goal.loop-group-preserved
loop-group-preserved c =
    let lt : c.loop-group.group-index < length c.args.groups.now = omega arith in
    record {
      sheet = c.in_ok-divide.ensures.sheet;
      tops = c.divide.ensures.tops ∙ c.loop-group.invariant.tops;
      same = c.divide.ensures.tops ∙ c.loop-group.invariant.same;
      moved = moved_both c.args.going (is_in (take c.loop-group.group-index c.args.groups.now)) (among c.group-item.result.numbers.items) (is_in (take (c.loop-group.group-index + 1) c.args.groups.now))
          (held c.args.ground.now.site.now c.args.ground.now.state c.args.part c.args.cond.now) c.args.self.now c.loop-group.self c.divide.new.self c.requires.here.0
          (λ n. any_more (λ g. among g.numbers.items n) c.args.groups.now c.loop-group.group-index c.group-item.result lt c.group-item.is)
          c.loop-group.invariant.grown.grows c.in_ok-divide.ensures.grown.grows c.loop-group.invariant.same
          (at_grows c.requires.here.0 c.args.self.now.roll.classes.items c.loop-group.self.roll.classes.items (among c.group-item.result.numbers.items) c.requires.here.1 c.loop-group.invariant.grown.grows
          (λ n a. c.requires.here.2 n (any_item (λ g. among g.numbers.items n) c.args.groups.now c.loop-group.group-index c.group-item.result lt c.group-item.is a)))
          c.requires.here.3 c.loop-group.invariant.moved c.in_ok-divide.ensures.moved;
      noted = noted_both c.args.going (says_of c.args.going) (is_in (take c.loop-group.group-index c.args.groups.now)) (among c.group-item.result.numbers.items) (is_in (take (c.loop-group.group-index + 1) c.args.groups.now))
          (held c.args.ground.now.site.now c.args.ground.now.state c.args.part c.args.cond.now) c.args.self.now c.loop-group.self c.divide.new.self c.requires.here.0 c.requires.sheet
          (λ n. any_more (λ g. among g.numbers.items n) c.args.groups.now c.loop-group.group-index c.group-item.result lt c.group-item.is)
          c.loop-group.invariant.grown.grows c.loop-group.invariant.same
          (at_grows c.requires.here.0 c.args.self.now.roll.classes.items c.loop-group.self.roll.classes.items (among c.group-item.result.numbers.items) c.requires.here.1 c.loop-group.invariant.grown.grows
          (λ n a. c.requires.here.2 n (any_item (λ g. among g.numbers.items n) c.args.groups.now c.loop-group.group-index c.group-item.result lt c.group-item.is a)))
          c.requires.here.3 c.loop-group.invariant.moved c.loop-group.invariant.noted c.in_ok-divide.ensures.noted;
      grown = grown-then c.args.going c.args.self.now.roll.classes.items c.loop-group.self.roll.classes.items c.divide.new.self.roll.classes.items c.loop-group.invariant.grown c.in_ok-divide.ensures.grown;
    }

pub returns-clause-moved : goal.returns-clause-moved
returns-clause-moved c =
    subst (λ gs. AreMoved c.args.going (is_in gs) (held c.args.ground.now.site.now c.args.ground.now.state c.args.part c.args.cond.now) c.args.self.now c.loop-group.self)
    (take_all c.loop-group.group-index c.args.groups.now (omega arith)) c.loop-group.invariant.moved

pub returns-clause-noted : goal.returns-clause-noted
returns-clause-noted c =
    subst (λ gs. AreNoted (says_of c.args.going) (is_in gs) (held c.args.ground.now.site.now c.args.ground.now.state c.args.part c.args.cond.now) c.args.self.now c.loop-group.self)
    (take_all c.loop-group.group-index c.args.groups.now (omega arith)) c.loop-group.invariant.noted
