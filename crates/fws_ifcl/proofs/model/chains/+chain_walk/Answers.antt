use Rattle.std.proofs.Common.{◌≡◌, suc, ◌+◌, ◌<◌, ◌≤◌, ◌++◌, false, nat_eq, length, drop, append_assoc, append-nil, arith, sym, ◌∙◌, ap}
use Rattle.std.proofs.lemmas.List.{drop_all}
use Rattle.std.specs.List.{list_any}
use Rattle.fws_ifcl.specs.declared.diagram.Place.{Place}
use Rattle.fws_ifcl.specs.Uses.{chain_used, rules_used, used_back, used_behind}
use Rattle.fws_ifcl.specs.Walk.{back, chain_walk, rules_at, rules_walk, stepped}
use Rattle.fws_ifcl.proofs.Walks.{chain_led, chain_logged, dropped, passed_over, log_passed_over, walk_leads, log_leads, turned_on, turned_away, log_turned_on, log_turned_away}
use Rattle.fws_ifcl.proofs.model.chains.+chain_walk.Goals as goal

-- Behind a step

pub turn_of-returns-in-Leave-clause-walked : goal.turn_of-returns-in-Leave-clause-walked
turn_of-returns-in-Leave-clause-walked t c =
    let scene = c.args.scene.now in
    let enter = chain_walk scene.chains.now scene.site.now scene.packet.now scene.kind.now scene.stage c.args.left c.args.path.now in
    λ go. sym (ap (stepped enter go) c.in-Leave.is)

pub turn_of-returns-in-Leave-clause-logged : goal.turn_of-returns-in-Leave-clause-logged
turn_of-returns-in-Leave-clause-logged t c =
    let scene = c.args.scene.now in
    let enter = chain_walk scene.chains.now scene.site.now scene.packet.now scene.kind.now scene.stage c.args.left c.args.path.now in
    let used = chain_used scene.chains.now scene.site.now scene.packet.now scene.kind.now scene.stage c.args.left c.args.path.now in
    λ go. ap (λ s. c.args.log.now.items ++ used_behind used enter go s) (sym c.in-Leave.is)

pub turn_of-returns-in-Onwards-clause-walked : goal.turn_of-returns-in-Onwards-clause-walked
turn_of-returns-in-Onwards-clause-walked t c =
    let scene = c.args.scene.now in
    let enter = chain_walk scene.chains.now scene.site.now scene.packet.now scene.kind.now scene.stage c.args.left c.args.path.now in
    λ go. sym (ap (stepped enter go) c.in-Onwards.is)

pub turn_of-returns-in-Onwards-clause-logged : goal.turn_of-returns-in-Onwards-clause-logged
turn_of-returns-in-Onwards-clause-logged t c =
    let scene = c.args.scene.now in
    let enter = chain_walk scene.chains.now scene.site.now scene.packet.now scene.kind.now scene.stage c.args.left c.args.path.now in
    let used = chain_used scene.chains.now scene.site.now scene.packet.now scene.kind.now scene.stage c.args.left c.args.path.now in
    λ go. ap (λ s. c.args.log.now.items ++ used_behind used enter go s) (sym c.in-Onwards.is)

pub turn_of-returns-in_ok-entered-in-Enter-clause-walked : goal.turn_of-returns-in_ok-entered-in-Enter-clause-walked
turn_of-returns-in_ok-entered-in-Enter-clause-walked t c =
    let scene = c.args.scene.now in
    let enter = chain_walk scene.chains.now scene.site.now scene.packet.now scene.kind.now scene.stage c.args.left c.args.path.now in
    λ go. c.turn_back.ensures.walked go ∙ ap (back (go 0)) c.in_ok-entered-in-Enter.ensures.walked ∙ sym (ap (stepped enter go) c.in-Enter.is)

pub turn_of-returns-in_ok-entered-in-Enter-clause-logged : goal.turn_of-returns-in_ok-entered-in-Enter-clause-logged
turn_of-returns-in_ok-entered-in-Enter-clause-logged t c =
    let scene = c.args.scene.now in
    let enter = chain_walk scene.chains.now scene.site.now scene.packet.now scene.kind.now scene.stage c.args.left c.args.path.now in
    let used = chain_used scene.chains.now scene.site.now scene.packet.now scene.kind.now scene.stage c.args.left c.args.path.now in
    let before = c.args.log.now.items in
    let inner = used c.in-Enter.d c.in-Enter.t in
    λ go. ap (λ xs. c.chain_walk.new.log.items ++ xs) (c.turn_back.ensures.used go)
    ∙ ap (λ xs. xs ++ used_back (go 0) c.in_ok-entered-in-Enter.entered) c.in_ok-entered-in-Enter.ensures.logged
    ∙ append_assoc before inner (used_back (go 0) c.in_ok-entered-in-Enter.entered)
    ∙ ap (λ end. before ++ (inner ++ used_back (go 0) end)) c.in_ok-entered-in-Enter.ensures.walked
    ∙ ap (λ s. before ++ used_behind used enter go s) (sym c.in-Enter.is)

pub turn_of-returns-in_ok-whole-in-Switch-clause-walked : goal.turn_of-returns-in_ok-whole-in-Switch-clause-walked
turn_of-returns-in_ok-whole-in-Switch-clause-walked t c =
    let scene = c.args.scene.now in
    let enter = chain_walk scene.chains.now scene.site.now scene.packet.now scene.kind.now scene.stage c.args.left c.args.path.now in
    λ go. c.in_ok-whole-in-Switch.ensures.walked ∙ sym (ap (stepped enter go) c.in-Switch.is)

pub turn_of-returns-in_ok-whole-in-Switch-clause-logged : goal.turn_of-returns-in_ok-whole-in-Switch-clause-logged
turn_of-returns-in_ok-whole-in-Switch-clause-logged t c =
    let scene = c.args.scene.now in
    let enter = chain_walk scene.chains.now scene.site.now scene.packet.now scene.kind.now scene.stage c.args.left c.args.path.now in
    let used = chain_used scene.chains.now scene.site.now scene.packet.now scene.kind.now scene.stage c.args.left c.args.path.now in
    λ go. append-nil c.chain_walk-in-Switch.new.log.items ∙ c.in_ok-whole-in-Switch.ensures.logged ∙ ap (λ s. c.args.log.now.items ++ used_behind used enter go s) (sym c.in-Switch.is)

-- The rules of a chain

pub rules_walk-loop-at-init : goal.rules_walk-loop-at-init
rules_walk-loop-at-init t c =
    let scene = c.args.scene.now in
    let enter = chain_walk scene.chains.now scene.site.now scene.packet.now scene.kind.now scene.stage c.args.left c.args.path.now in
    let used = chain_used scene.chains.now scene.site.now scene.packet.now scene.kind.now scene.stage c.args.left c.args.path.now in
    record {
      walked = ap (λ rs. rules_walk enter scene.site.now scene.packet.now scene.kind.now scene.stage 0 rs 0 c.args.t) c.rules_at-rule-items.ensures;
      logged = ap (λ rs. c.args.log.now.items ++ rules_used used enter c.args.c scene.site.now scene.packet.now scene.kind.now scene.stage 0 rs 0 c.args.t) c.rules_at-rule-items.ensures;
    }

pub rules_walk-loop-at-preserved-then-at-to : goal.rules_walk-loop-at-preserved-then-at-to
rules_walk-loop-at-preserved-then-at-to t c =
    let scene = c.args.scene.now in
    let enter = chain_walk scene.chains.now scene.site.now scene.packet.now scene.kind.now scene.stage c.args.left c.args.path.now in
    let used = chain_used scene.chains.now scene.site.now scene.packet.now scene.kind.now scene.stage c.args.left c.args.path.now in
    let whole = rules_walk enter scene.site.now scene.packet.now scene.kind.now scene.stage 0 (rules_at scene.chains.now c.args.c) 0 c.args.t in
    let log_whole = c.args.log.now.items ++ rules_used used enter c.args.c scene.site.now scene.packet.now scene.kind.now scene.stage 0 (rules_at scene.chains.now c.args.c) 0 c.args.t in
    let rules = c.rules_at-rule-items.result.now in
    let at = c.loop-at.at in
    let rest = drop (at + 1) rules in
    let next : at + 1 ≡ suc at = omega arith in
    let within : at < length rules = omega arith in
    let here = dropped rules at c.rule-item.result within c.rule-item.is in
    record {
      walked = passed_over enter scene.site.now scene.packet.now scene.kind.now scene.stage at (at + 1) c.rule-item.result rest (drop at rules) c.loop-at.to c.loop-at.now whole
          c.if-at-to.true next here c.loop-at.invariant.walked;
      logged = log_passed_over used enter c.args.c scene.site.now scene.packet.now scene.kind.now scene.stage at (at + 1) c.rule-item.result rest (drop at rules) c.loop-at.to c.loop-at.now
          c.loop-at.log.items log_whole c.if-at-to.true next here c.loop-at.invariant.logged;
    }

pub rules_walk-returns-in-Leave-clause-walked : goal.rules_walk-returns-in-Leave-clause-walked
rules_walk-returns-in-Leave-clause-walked t c =
    let scene = c.args.scene.now in
    let enter = chain_walk scene.chains.now scene.site.now scene.packet.now scene.kind.now scene.stage c.args.left c.args.path.now in
    let whole = rules_walk enter scene.site.now scene.packet.now scene.kind.now scene.stage 0 (rules_at scene.chains.now c.args.c) 0 c.args.t in
    let rules = c.rules_at-rule-items.result.now in
    let at = c.loop-at.at in
    let rest = drop (at + 1) rules in
    let go = rules_walk enter scene.site.now scene.packet.now scene.kind.now scene.stage (at + 1) rest in
    let next : at + 1 ≡ suc at = omega arith in
    let within : at < length rules = omega arith in
    let here = dropped rules at c.rule-item.result within c.rule-item.is in
    let led = walk_leads enter scene.site.now scene.packet.now scene.kind.now scene.stage at (at + 1) c.in_ok-here.here.rule c.rule-item.result rest (drop at rules) c.loop-at.to c.loop-at.now
    c.in_ok-step.step whole c.if-at-to.false next (ap (λ (pl : Place). pl.rule) c.in_ok-here.ensures) here c.loop-at.invariant.walked (c.in_ok-step.ensures.walked enter rest) in
    turned_away go c.in_ok-turn.turn c.in-Leave.end whole c.in-Leave.is (c.in_ok-turn.ensures.walked go ∙ led)

pub rules_walk-returns-in-Leave-clause-logged : goal.rules_walk-returns-in-Leave-clause-logged
rules_walk-returns-in-Leave-clause-logged t c =
    let scene = c.args.scene.now in
    let enter = chain_walk scene.chains.now scene.site.now scene.packet.now scene.kind.now scene.stage c.args.left c.args.path.now in
    let used = chain_used scene.chains.now scene.site.now scene.packet.now scene.kind.now scene.stage c.args.left c.args.path.now in
    let log_whole = c.args.log.now.items ++ rules_used used enter c.args.c scene.site.now scene.packet.now scene.kind.now scene.stage 0 (rules_at scene.chains.now c.args.c) 0 c.args.t in
    let rules = c.rules_at-rule-items.result.now in
    let at = c.loop-at.at in
    let rest = drop (at + 1) rules in
    let go = rules_used used enter c.args.c scene.site.now scene.packet.now scene.kind.now scene.stage (at + 1) rest in
    let next : at + 1 ≡ suc at = omega arith in
    let within : at < length rules = omega arith in
    let here = dropped rules at c.rule-item.result within c.rule-item.is in
    let led = log_leads used enter c.args.c scene.site.now scene.packet.now scene.kind.now scene.stage at (at + 1) c.in_ok-here.here c.rule-item.result rest (drop at rules) c.loop-at.to c.loop-at.now
    c.in_ok-step.step c.loop-at.log.items c.rule_step.new.log.items log_whole c.if-at-to.false next c.in_ok-here.ensures here c.loop-at.invariant.logged (c.in_ok-step.ensures.logged used enter rest) in
    log_turned_away go c.in_ok-turn.turn c.in-Leave.end c.turn_of.new.log.items log_whole c.in-Leave.is (c.in_ok-turn.ensures.logged go ∙ led)

pub rules_walk-loop-at-preserved : goal.rules_walk-loop-at-preserved
rules_walk-loop-at-preserved t c =
    let scene = c.args.scene.now in
    let enter = chain_walk scene.chains.now scene.site.now scene.packet.now scene.kind.now scene.stage c.args.left c.args.path.now in
    let used = chain_used scene.chains.now scene.site.now scene.packet.now scene.kind.now scene.stage c.args.left c.args.path.now in
    let whole = rules_walk enter scene.site.now scene.packet.now scene.kind.now scene.stage 0 (rules_at scene.chains.now c.args.c) 0 c.args.t in
    let log_whole = c.args.log.now.items ++ rules_used used enter c.args.c scene.site.now scene.packet.now scene.kind.now scene.stage 0 (rules_at scene.chains.now c.args.c) 0 c.args.t in
    let rules = c.rules_at-rule-items.result.now in
    let at = c.loop-at.at in
    let rest = drop (at + 1) rules in
    let go = rules_walk enter scene.site.now scene.packet.now scene.kind.now scene.stage (at + 1) rest in
    let log_go = rules_used used enter c.args.c scene.site.now scene.packet.now scene.kind.now scene.stage (at + 1) rest in
    let next : at + 1 ≡ suc at = omega arith in
    let within : at < length rules = omega arith in
    let here = dropped rules at c.rule-item.result within c.rule-item.is in
    let led = walk_leads enter scene.site.now scene.packet.now scene.kind.now scene.stage at (at + 1) c.in_ok-here.here.rule c.rule-item.result rest (drop at rules) c.loop-at.to c.loop-at.now
    c.in_ok-step.step whole c.if-at-to.false next (ap (λ (pl : Place). pl.rule) c.in_ok-here.ensures) here c.loop-at.invariant.walked (c.in_ok-step.ensures.walked enter rest) in
    let log_led = log_leads used enter c.args.c scene.site.now scene.packet.now scene.kind.now scene.stage at (at + 1) c.in_ok-here.here c.rule-item.result rest (drop at rules) c.loop-at.to c.loop-at.now
    c.in_ok-step.step c.loop-at.log.items c.rule_step.new.log.items log_whole c.if-at-to.false next c.in_ok-here.ensures here c.loop-at.invariant.logged (c.in_ok-step.ensures.logged used enter rest) in
    record {
      walked = turned_on go c.in_ok-turn.turn c.in-Onwards.place c.in-Onwards.t whole c.in-Onwards.is (c.in_ok-turn.ensures.walked go ∙ led);
      logged = log_turned_on log_go c.in_ok-turn.turn c.in-Onwards.place c.in-Onwards.t c.turn_of.new.log.items log_whole c.in-Onwards.is (c.in_ok-turn.ensures.logged log_go ∙ log_led);
    }

pub rules_walk-returns-clause-walked : goal.rules_walk-returns-clause-walked
rules_walk-returns-clause-walked t c =
    let scene = c.args.scene.now in
    let enter = chain_walk scene.chains.now scene.site.now scene.packet.now scene.kind.now scene.stage c.args.left c.args.path.now in
    let rules = c.rules_at-rule-items.result.now in
    let at = c.loop-at.at in
    let past : length rules ≤ at = omega arith in
    ap (λ rs. rules_walk enter scene.site.now scene.packet.now scene.kind.now scene.stage at rs c.loop-at.to c.loop-at.now) (sym (drop_all at rules past)) ∙ c.loop-at.invariant.walked

pub rules_walk-returns-clause-logged : goal.rules_walk-returns-clause-logged
rules_walk-returns-clause-logged t c =
    let scene = c.args.scene.now in
    let enter = chain_walk scene.chains.now scene.site.now scene.packet.now scene.kind.now scene.stage c.args.left c.args.path.now in
    let used = chain_used scene.chains.now scene.site.now scene.packet.now scene.kind.now scene.stage c.args.left c.args.path.now in
    let rules = c.rules_at-rule-items.result.now in
    let at = c.loop-at.at in
    let past : length rules ≤ at = omega arith in
    sym (append-nil c.loop-at.log.items)
    ∙ ap (λ rs. c.loop-at.log.items ++ rules_used used enter c.args.c scene.site.now scene.packet.now scene.kind.now scene.stage at rs c.loop-at.to c.loop-at.now) (sym (drop_all at rules past))
    ∙ c.loop-at.invariant.logged

-- A chain

pub chain_walk-returns-clause-walked : goal.chain_walk-returns-clause-walked
chain_walk-returns-clause-walked t c =
    let scene = c.args.scene.now in
    let some : 0 < c.args.left = omega arith in
    let off : list_any (nat_eq c.args.c) c.args.path.now ≡ false = cc in
    chain_led scene.chains.now scene.site.now scene.packet.now scene.kind.now scene.stage c.args.left c.args.path.now c.as_slice.result.now c.args.c c.args.t
    c.rules_walk.result some off (c.as_slice.ensures.value ∙ c.in_ok-under.ensures) c.rules_walk.ensures.walked

pub chain_walk-returns-clause-logged : goal.chain_walk-returns-clause-logged
chain_walk-returns-clause-logged t c =
    let scene = c.args.scene.now in
    let some : 0 < c.args.left = omega arith in
    let off : list_any (nat_eq c.args.c) c.args.path.now ≡ false = cc in
    chain_logged scene.chains.now scene.site.now scene.packet.now scene.kind.now scene.stage c.args.left c.args.path.now c.as_slice.result.now c.args.c c.args.t
    c.rules_walk.result c.args.log.now.items c.rules_walk.new.log.items some off (c.as_slice.ensures.value ∙ c.in_ok-under.ensures) c.rules_walk.ensures.logged
