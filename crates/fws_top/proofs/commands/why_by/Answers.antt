use Rattle.std.proofs.Common.{List, subst, rules}
use Rattle.std.proofs.lemmas.Result.{IfErr-weaker, IfOk-weaker}
use Rattle.fws_net.specs.declared.connection.Conn.{Conn}
use Rattle.fws_top.specs.Answered.{Answered, Stopped}
use Rattle.fws_top.specs.declared.status.Status.TheVariants as status
use Rattle.fws_top.specs.Parts.{why_packets_part}
use Rattle.fws_top.specs.Plan.{Plan, conns_plan}
use Rattle.fws_top.proofs.AnsweredCommands.{step_stops}
use Rattle.fws_top.proofs.Chosen.{answered_behind, stopped_behind}
use Rattle.fws_top.proofs.commands.why_by.Goals as goal

pub returns-in_err-conns-clause-stopped : goal.returns-in_err-conns-clause-stopped
returns-in_err-conns-clause-stopped g c = λ policy.
    let next : List Conn → Plan = λ tracked. why_packets_part c.args.site.now policy tracked c.args.packets_name.now in
    let stops = step_stops (conns_plan c.args.conns_name.now) (g.S.Shelf.told c.args.shelf.now) (g.S.Shelf.faults c.args.shelf.now)
    (g.S.Shelf.faults c.take_conns.new.shelf) c.in_err-conns.field-0.0 next c.in_err-conns.ensures.stopped in
    search (rules, stops)

pub returns-clause-answered : goal.returns-clause-answered
returns-clause-answered g c = λ policy told_by.
    let told = g.S.Shelf.told c.args.shelf.now in
    let before = g.S.Shelf.told c.take_conns.new.shelf in
    let old = g.S.Shelf.faults c.args.shelf.now in
    let at = g.S.Shelf.faults c.take_conns.new.shelf in
    let new = g.S.Shelf.faults c.why_among.new.shelf in
    let conns = c.in_ok-conns.conns.items in
    let next : List Conn → Plan = λ tracked. why_packets_part c.args.site.now policy tracked c.args.packets_name.now in
    IfOk-weaker c.why_among.result (Answered (next c.as_slice.result.now) before at new status.Ok) (Answered (conns_plan c.args.conns_name.now next) told old new status.Ok)
    (λ t a. answered_behind (conns_plan c.args.conns_name.now) told before old at new status.Ok t next conns c.in_ok-conns.ensures.goes_on c.in_ok-conns.ensures.same
    c.in_ok-conns.ensures.quiet (subst (λ (cs : List Conn). Answered (next cs) before at new status.Ok t) c.as_slice.ensures.value a))
    (c.why_among.ensures.answered policy told_by)

pub returns-clause-stopped : goal.returns-clause-stopped
returns-clause-stopped g c = λ policy.
    let told = g.S.Shelf.told c.args.shelf.now in
    let before = g.S.Shelf.told c.take_conns.new.shelf in
    let old = g.S.Shelf.faults c.args.shelf.now in
    let at = g.S.Shelf.faults c.take_conns.new.shelf in
    let new = g.S.Shelf.faults c.why_among.new.shelf in
    let conns = c.in_ok-conns.conns.items in
    let next : List Conn → Plan = λ tracked. why_packets_part c.args.site.now policy tracked c.args.packets_name.now in
    IfErr-weaker c.why_among.result (Stopped (next c.as_slice.result.now) before at new) (Stopped (conns_plan c.args.conns_name.now next) told old new)
    (λ stop s. stopped_behind (conns_plan c.args.conns_name.now) told before old at new stop next conns c.in_ok-conns.ensures.goes_on c.in_ok-conns.ensures.same
    c.in_ok-conns.ensures.quiet (subst (λ (cs : List Conn). Stopped (next cs) before at new stop) c.as_slice.ensures.value s))
    (c.why_among.ensures.stopped policy)
