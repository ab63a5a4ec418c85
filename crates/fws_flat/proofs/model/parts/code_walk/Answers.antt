use Rattle.std.proofs.Common.{◌≡◌, suc, ◌+◌, ◌<◌, ◌≤◌, ◌++◌, length, drop, append-nil, arith, sym, ◌∙◌, ap}
use Rattle.std.proofs.lemmas.List.{drop_all}
use Rattle.fws_flat.specs.Uses.{code_used}
use Rattle.fws_flat.specs.Walk.{code_walk}
use Rattle.fws_flat.proofs.Walks.{dropped, passed_over, log_passed_over, walk_leads, log_leads, walk_ends, log_ends}
use Rattle.fws_flat.proofs.model.parts.code_walk.Goals as goal

pub loop-k-init : goal.loop-k-init
loop-k-init c =
    let site = c.args.scene.now.site.now in
    let p = c.args.scene.now.packet.now in
    let k = c.args.scene.now.kind.now in
    let part = c.args.scene.now.part in
    let first : c.args.first + 0 ≡ c.args.first = omega arith in
    record {
      walked = ap (λ n. code_walk site p k part n c.args.code.now 0 c.args.t) first;
      logged = ap (λ n. c.args.log.now.items ++ code_used site p k part n c.args.code.now 0 c.args.t) first;
    }

pub loop-k-preserved-then-at-to : goal.loop-k-preserved-then-at-to
loop-k-preserved-then-at-to c =
    let site = c.args.scene.now.site.now in
    let p = c.args.scene.now.packet.now in
    let k = c.args.scene.now.kind.now in
    let part = c.args.scene.now.part in
    let code = c.args.code.now in
    let whole = code_walk site p k part c.args.first code 0 c.args.t in
    let log_whole = c.args.log.now.items ++ code_used site p k part c.args.first code 0 c.args.t in
    let here = c.args.first + c.loop-k.k in
    let behind = c.args.first + (c.loop-k.k + 1) in
    let rest = drop (c.loop-k.k + 1) code in
    let i = c.index-code-k.result in
    let next : behind ≡ suc here = omega arith in
    let within : c.loop-k.k < length code = omega arith in
    let is = dropped code c.loop-k.k i within c.index-code-k.is in
    record {
      walked = passed_over site p k part c.in_ok-at.at here behind i rest (drop c.loop-k.k code) c.loop-k.to c.loop-k.now whole
          c.if-at-to.true c.in_ok-at.ensures next is c.loop-k.invariant.walked;
      logged = log_passed_over site p k part c.in_ok-at.at here behind i rest (drop c.loop-k.k code) c.loop-k.to c.loop-k.now c.loop-k.log.items log_whole
          c.if-at-to.true c.in_ok-at.ensures next is c.loop-k.invariant.logged;
    }

pub returns-in-Leave-clause-walked : goal.returns-in-Leave-clause-walked
returns-in-Leave-clause-walked c =
    let site = c.args.scene.now.site.now in
    let p = c.args.scene.now.packet.now in
    let k = c.args.scene.now.kind.now in
    let part = c.args.scene.now.part in
    let code = c.args.code.now in
    let whole = code_walk site p k part c.args.first code 0 c.args.t in
    let here = c.args.first + c.loop-k.k in
    let rest = drop (c.loop-k.k + 1) code in
    let i = c.index-code-k.result in
    let within : c.loop-k.k < length code = omega arith in
    let is = dropped code c.loop-k.k i within c.index-code-k.is in
    walk_ends site p k part c.in_ok-at.at here i rest (drop c.loop-k.k code) c.loop-k.to c.loop-k.now c.in_ok-end.field-0 c.in-Leave.end whole
    c.if-at-to.false c.in_ok-at.ensures is c.in-Leave.is c.loop-k.invariant.walked (c.in_ok-end.ensures.walked rest)

pub returns-in-Leave-clause-logged : goal.returns-in-Leave-clause-logged
returns-in-Leave-clause-logged c =
    let site = c.args.scene.now.site.now in
    let p = c.args.scene.now.packet.now in
    let k = c.args.scene.now.kind.now in
    let part = c.args.scene.now.part in
    let code = c.args.code.now in
    let log_whole = c.args.log.now.items ++ code_used site p k part c.args.first code 0 c.args.t in
    let here = c.args.first + c.loop-k.k in
    let rest = drop (c.loop-k.k + 1) code in
    let i = c.index-code-k.result in
    let within : c.loop-k.k < length code = omega arith in
    let is = dropped code c.loop-k.k i within c.index-code-k.is in
    log_ends site p k part c.in_ok-at.at here i rest (drop c.loop-k.k code) c.loop-k.to c.loop-k.now c.in_ok-end.field-0 c.in-Leave.end
    c.loop-k.log.items c.ins_step.new.log.items log_whole
    c.if-at-to.false c.in_ok-at.ensures is c.in-Leave.is c.loop-k.invariant.logged (c.in_ok-end.ensures.logged rest)

pub loop-k-preserved : goal.loop-k-preserved
loop-k-preserved c =
    let site = c.args.scene.now.site.now in
    let p = c.args.scene.now.packet.now in
    let k = c.args.scene.now.kind.now in
    let part = c.args.scene.now.part in
    let code = c.args.code.now in
    let whole = code_walk site p k part c.args.first code 0 c.args.t in
    let log_whole = c.args.log.now.items ++ code_used site p k part c.args.first code 0 c.args.t in
    let here = c.args.first + c.loop-k.k in
    let behind = c.args.first + (c.loop-k.k + 1) in
    let rest = drop (c.loop-k.k + 1) code in
    let i = c.index-code-k.result in
    let next : behind ≡ suc here = omega arith in
    let within : c.loop-k.k < length code = omega arith in
    let is = dropped code c.loop-k.k i within c.index-code-k.is in
    record {
      walked = walk_leads site p k part c.in_ok-at.at here behind i rest (drop c.loop-k.k code) c.loop-k.to c.in-Onwards.place c.loop-k.now c.in-Onwards.t c.in_ok-end.field-0 whole
          c.if-at-to.false c.in_ok-at.ensures next is c.in-Onwards.is c.loop-k.invariant.walked (c.in_ok-end.ensures.walked rest);
      logged = log_leads site p k part c.in_ok-at.at here behind i rest (drop c.loop-k.k code) c.loop-k.to c.in-Onwards.place c.loop-k.now c.in-Onwards.t c.in_ok-end.field-0
          c.loop-k.log.items c.ins_step.new.log.items log_whole
          c.if-at-to.false c.in_ok-at.ensures next is c.in-Onwards.is c.loop-k.invariant.logged (c.in_ok-end.ensures.logged rest);
    }

pub returns-clause-walked : goal.returns-clause-walked
returns-clause-walked c =
    let site = c.args.scene.now.site.now in
    let p = c.args.scene.now.packet.now in
    let k = c.args.scene.now.kind.now in
    let part = c.args.scene.now.part in
    let code = c.args.code.now in
    let past : length code ≤ c.loop-k.k = omega arith in
    c.decided.ensures
    ∙ ap (λ is. code_walk site p k part (c.args.first + c.loop-k.k) is c.loop-k.to c.loop-k.now) (sym (drop_all c.loop-k.k code past))
    ∙ c.loop-k.invariant.walked

pub returns-clause-logged : goal.returns-clause-logged
returns-clause-logged c =
    let site = c.args.scene.now.site.now in
    let p = c.args.scene.now.packet.now in
    let k = c.args.scene.now.kind.now in
    let part = c.args.scene.now.part in
    let code = c.args.code.now in
    let past : length code ≤ c.loop-k.k = omega arith in
    sym (append-nil c.loop-k.log.items)
    ∙ ap (λ is. c.loop-k.log.items ++ code_used site p k part (c.args.first + c.loop-k.k) is c.loop-k.to c.loop-k.now) (sym (drop_all c.loop-k.k code past))
    ∙ c.loop-k.invariant.logged
