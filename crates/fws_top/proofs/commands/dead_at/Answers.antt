use Rattle.std.proofs.Common.{◌≡◌, true, length, rules, subst, sym}
use Rattle.fws_ifcl.specs.Spots.{are_spots_of}
use Rattle.fws_top.specs.Judged.{Policy}
use Rattle.fws_top.specs.Plan.{Plan, shows, source_plan}
use Rattle.fws_top.specs.Tables.{unused}
use Rattle.fws_top.proofs.AnsweredCommands.{step_stops}
use Rattle.fws_top.proofs.UnusedRules.{dead_given, dead_stop_given}
use Rattle.fws_top.proofs.commands.dead_at.Goals as goal

pub returns-in_err-placed-clause-stopped : goal.returns-in_err-placed-clause-stopped
returns-in_err-placed-clause-stopped g c =
    let shown : Policy → Plan = λ policy. shows (unused c.args.site.now policy.used policy.labels) in
    let stops = step_stops (source_plan c.args.lang c.args.site.now c.args.file_name.now) (g.S.Shelf.told c.args.shelf.now) (g.S.Shelf.faults c.args.shelf.now)
    (g.S.Shelf.faults c.take_placed_diagram.new.shelf) c.in_err-placed.field-0.0 shown c.in_err-placed.ensures.stopped in
    search (rules, stops)

pub unused-requires-clause-ok : goal.unused-requires-clause-ok
unused-requires-clause-ok g c = c.in_ok-placed.ensures.placed.is.ok

pub unused-requires-clause-spots : goal.unused-requires-clause-spots
unused-requires-clause-spots g c =
    let is = c.in_ok-placed.ensures.placed.is in
    let placed = c.in_ok-placed.placed in
    subst (λ labels. are_spots_of placed.diagram (length labels) placed.spots.items ≡ true) (sym is.labels) is.spots

pub returns-clause-answered : goal.returns-clause-answered
returns-clause-answered g c =
    dead_given c.args.lang c.args.file_name.now c.args.site.now c.in_ok-placed.placed (g.S.Shelf.told c.args.shelf.now) (g.S.Shelf.faults c.args.shelf.now)
    (g.S.Shelf.faults c.take_placed_diagram.new.shelf) c.unused.result c.in_ok-placed.ensures.placed c.in_ok-placed.ensures.quiet c.unused.ensures.unrefused c.unused.ensures.unused

pub returns-clause-stopped : goal.returns-clause-stopped
returns-clause-stopped g c =
    dead_stop_given c.args.lang c.args.file_name.now c.args.site.now c.in_ok-placed.placed (g.S.Shelf.told c.args.shelf.now) (g.S.Shelf.faults c.args.shelf.now)
    (g.S.Shelf.faults c.take_placed_diagram.new.shelf) c.unused.result c.in_ok-placed.ensures.placed c.in_ok-placed.ensures.quiet c.unused.ensures.refused
