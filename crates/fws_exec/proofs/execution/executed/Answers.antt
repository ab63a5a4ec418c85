use Rattle.fws_flat.specs.declared.code.Flat.{Flat}
use Rattle.fws_exec.proofs.Reached.{whole_becomes, whole_means, whole_reached, whole_unreached}
use Rattle.fws_exec.proofs.execution.executed.Goals as goal

pub returns-clause-meant : goal.returns-clause-meant
returns-clause-meant c =
    let f : Flat = record { code = c.args.purpose.now.code.now; arrive = c.args.arrive.now; deliver = c.args.deliver.now; forward = c.args.forward.now; send = c.args.send.now } in
    let becomes = whole_becomes f c.args.purpose.now.site.now c.args.purpose.now.state c.in_ok-sheet.sheet c.run.new.self c.route.new.self c.run-2.new.self c.run-3.new.self c.run-4.new.self
    c.in_ok-run.ensures.meant c.in_ok-route.ensures.meant c.in_ok-run-2.ensures.meant c.in_ok-run-3.ensures.meant c.in_ok-run-4.ensures.meant in
    whole_means f c.args.purpose.now.site.now c.args.purpose.now.state c.args.sides.now c.in_ok-sheet.sheet c.run-4.new.self c.in_ok-sheet.ensures.meant becomes

pub returns-clause-reached : goal.returns-clause-reached
returns-clause-reached c =
    let f : Flat = record { code = c.args.purpose.now.code.now; arrive = c.args.arrive.now; deliver = c.args.deliver.now; forward = c.args.forward.now; send = c.args.send.now } in
    let becomes = whole_becomes f c.args.purpose.now.site.now c.args.purpose.now.state c.in_ok-sheet.sheet c.run.new.self c.route.new.self c.run-2.new.self c.run-3.new.self c.run-4.new.self
    c.in_ok-run.ensures.meant c.in_ok-route.ensures.meant c.in_ok-run-2.ensures.meant c.in_ok-run-3.ensures.meant c.in_ok-run-4.ensures.meant in
    whole_reached f c.args.purpose.now.site.now c.args.purpose.now.state c.args.sides.now c.in_ok-sheet.sheet c.run-4.new.self c.in_ok-sheet.ensures.meant becomes c.in_ok-sheet.ensures.none

pub returns-clause-unreached : goal.returns-clause-unreached
returns-clause-unreached c =
    let f : Flat = record { code = c.args.purpose.now.code.now; arrive = c.args.arrive.now; deliver = c.args.deliver.now; forward = c.args.forward.now; send = c.args.send.now } in
    let becomes = whole_becomes f c.args.purpose.now.site.now c.args.purpose.now.state c.in_ok-sheet.sheet c.run.new.self c.route.new.self c.run-2.new.self c.run-3.new.self c.run-4.new.self
    c.in_ok-run.ensures.meant c.in_ok-route.ensures.meant c.in_ok-run-2.ensures.meant c.in_ok-run-3.ensures.meant c.in_ok-run-4.ensures.meant in
    whole_unreached f c.args.purpose.now.site.now c.args.purpose.now.state c.args.sides.now c.in_ok-sheet.sheet c.run-4.new.self c.in_ok-sheet.ensures.meant becomes
