use Rattle.std.proofs.Common.{◌≡◌, ◌+◌, ◌<◌, ◌≤◌, ◌++◌, length, drop, append-nil, arith, sym, ◌∙◌, ap}
use Rattle.std.proofs.lemmas.List.{drop_all, drop_more}
use Rattle.fws_ifcl.specs.Uses.{stages_used}
use Rattle.fws_ifcl.specs.Walk.{stages_walk}
use Rattle.fws_ifcl.proofs.Walks.{stages_on, stages_dropped, log_stages_on, log_stages_dropped}
use Rattle.fws_ifcl.proofs.model.walking.stages_walk.Goals as goal

pub returns-in-None-clause-walked : goal.returns-in-None-clause-walked
returns-in-None-clause-walked c =
    let trip = c.args.trip.now in
    let chains = trip.diagram.now.chains in
    let stages = c.args.stages.now in
    let at = c.loop-stage.stage-index in
    let within : at < length stages = omega arith in
    stages_dropped chains trip.site.now trip.packet.now trip.kind.now _ (drop (at + 1) stages) (drop at stages) c.loop-stage.now c.in_ok-t.field-0
    (stages_walk chains trip.site.now trip.packet.now trip.kind.now stages c.args.t) (drop_more stages at _ within) c.in_ok-t.ensures.walked c.in-None.is c.loop-stage.invariant.walked

pub returns-in-None-clause-logged : goal.returns-in-None-clause-logged
returns-in-None-clause-logged c =
    let trip = c.args.trip.now in
    let chains = trip.diagram.now.chains in
    let stages = c.args.stages.now in
    let at = c.loop-stage.stage-index in
    let within : at < length stages = omega arith in
    log_stages_dropped chains trip.site.now trip.packet.now trip.kind.now _ (drop (at + 1) stages) (drop at stages) c.loop-stage.now c.in_ok-t.field-0
    c.loop-stage.log.items c.stage_behind.new.log.items (c.args.log.now.items ++ stages_used chains trip.site.now trip.packet.now trip.kind.now stages c.args.t)
    (drop_more stages at _ within) c.in_ok-t.ensures.walked c.in_ok-t.ensures.logged c.in-None.is c.loop-stage.invariant.logged

pub loop-stage-preserved : goal.loop-stage-preserved
loop-stage-preserved c =
    let trip = c.args.trip.now in
    let chains = trip.diagram.now.chains in
    let stages = c.args.stages.now in
    let at = c.loop-stage.stage-index in
    let within : at < length stages = omega arith in
    record {
      walked = stages_on chains trip.site.now trip.packet.now trip.kind.now _ (drop (at + 1) stages) (drop at stages) c.loop-stage.now c.in-Some.t c.in_ok-t.field-0
          (stages_walk chains trip.site.now trip.packet.now trip.kind.now stages c.args.t) (drop_more stages at _ within) c.in_ok-t.ensures.walked c.in-Some.is c.loop-stage.invariant.walked;
      logged = log_stages_on chains trip.site.now trip.packet.now trip.kind.now _ (drop (at + 1) stages) (drop at stages) c.loop-stage.now c.in-Some.t c.in_ok-t.field-0
          c.loop-stage.log.items c.stage_behind.new.log.items (c.args.log.now.items ++ stages_used chains trip.site.now trip.packet.now trip.kind.now stages c.args.t)
          (drop_more stages at _ within) c.in_ok-t.ensures.walked c.in_ok-t.ensures.logged c.in-Some.is c.loop-stage.invariant.logged;
    }

pub returns-clause-walked : goal.returns-clause-walked
returns-clause-walked c =
    let trip = c.args.trip.now in
    let stages = c.args.stages.now in
    let at = c.loop-stage.stage-index in
    let past : length stages ≤ at = omega arith in
    ap (λ ss. stages_walk trip.diagram.now.chains trip.site.now trip.packet.now trip.kind.now ss c.loop-stage.now) (sym (drop_all at stages past)) ∙ c.loop-stage.invariant.walked

pub returns-clause-logged : goal.returns-clause-logged
returns-clause-logged c =
    let trip = c.args.trip.now in
    let stages = c.args.stages.now in
    let at = c.loop-stage.stage-index in
    let past : length stages ≤ at = omega arith in
    sym (append-nil c.loop-stage.log.items)
    ∙ ap (λ ss. c.loop-stage.log.items ++ stages_used trip.diagram.now.chains trip.site.now trip.packet.now trip.kind.now ss c.loop-stage.now) (sym (drop_all at stages past))
    ∙ c.loop-stage.invariant.logged
