use Rattle.std.proofs.Common.{rules, arith, ◌≡◌, ◌-◌, ◌<◌, ◌≤◌, suc, List, ◌∷◌, length, reverse, get_or, Some, refl, ap, ◌∙◌, Contains}
use Rattle.std.proofs.lemmas.List.{length-reverse}
use Rattle.fws_ifcl.specs.declared.diagram.Rule.{Rule}
use Rattle.fws_ifcl.specs.Refusals.{named_in}
use Rattle.fws_ifcl.specs.Walk.{rules_at}
use Rattle.fws_unfold.specs.declared.draft.Draft.{Draft}
use Rattle.fws_unfold.specs.declared.draft.DraftAct.{DraftAct}
use Rattle.fws_unfold.specs.Drafts.{call_of, plain_act, start_of}
use Rattle.fws_unfold.proofs.Bodies.{none_called, enters_named, far_within}
use Rattle.fws_unfold.proofs.Frames.{whole_put, plain_put, enters}
use Rattle.fws_unfold.proofs.stacking.step.Goals as goal

pub returns-then-frame-eq0 : goal.returns-then-frame-eq0
returns-then-frame-eq0 c = λ n back old b.
    whole_put c.walks_unfold.ensures c.uses_unfold.ensures c.args.chains.now c.args.frame (reverse c.args.out.now.items) n back old c.requires.acyclic c.requires.named c.if-frame-eq0.true b

pub returns-in_ok-put_rule-in-None : goal.returns-in_ok-put_rule-in-None
returns-in_ok-put_rule-in-None c = λ n back old b.
    let chains = c.args.chains.now in
    let f = c.args.frame in
    let at = f.left - 1 in
    let rules_there = c.rules_at-rules.result.now in
    let rule = c.index-rules-i.result in
    let code : List Draft = reverse c.args.out.now.items in
    let new : List Draft = reverse c.put_rule.new.out.items in
    let next = c.len-next.result in
    let more = c.put.new.self in
    let step : f.left ≡ suc at = omega arith in
    let is : rule ≡ get_or (rules_at chains f.chain) at rule = c.index-rules-i.is ∙ ap (λ (rs : List Rule). get_or rs at rule) c.rules_at-rules.ensures in
    let size : next ≡ length code = let same = length-reverse c.args.out.now.items in omega (arith, same, c.len-next.ensures) in
    let act : c.plain_act.result ≡ plain_act rule.act f.back (start_of more (length (rules_at chains f.chain)) rule.act) =
    c.plain_act.ensures ∙ ap (plain_act rule.act f.back) (c.start_of-skip.ensures ∙ ap (λ ss. start_of ss (length rules_there) rule.act) c.as_slice.ensures
    ∙ ap (λ (rs : List Rule). start_of more (length rs) rule.act) c.rules_at-rules.ensures) in
    let made : new ≡ record { cond = rule.cond; act = plain_act rule.act f.back (start_of more (length (rules_at chains f.chain)) rule.act); rule = Some c.in_ok-at-in-None.at } ∷ code =
    c.in_ok-put_rule-in-None.ensures ∙ ap (λ (a : DraftAct). ◌∷◌ (record { cond = rule.cond; act = a; rule = Some c.in_ok-at-in-None.at }) code) act in
    record {
      chain = b.chain;
      ends = b.ends;
      put = plain_put chains f at rule rule c.in_ok-at-in-None.at old code new more next c.requires.sound step is (none_called rule.act next f.back c.in-None.ensures) c.in_ok-at-in-None.ensures size c.in_ok-put-in-None.ensures.ok made b.put;
    }

pub begin-requires : goal.begin-requires
begin-requires c =
    let chains = c.args.chains.now in
    let f = c.args.frame in
    let at = f.left - 1 in
    let rule = c.index-rules-i.result in
    let next = c.len-next.result in
    let lt : at < length (rules_at chains f.chain) = let some = c.if-frame-eq0.false in omega (arith, c.requires.within) in
    let is : rule ≡ get_or (rules_at chains f.chain) at rule = c.index-rules-i.is ∙ ap (λ (rs : List Rule). get_or rs at rule) c.rules_at-rules.ensures in
    let called : Some (c.in-Some.d, c.in-Some.far) ≡ call_of rule.act next f.back = search rules in
    let there : Some (c.in-Some.d, c.in-Some.far) ≡ call_of (get_or (rules_at chains f.chain) at rule).act next f.back = called ∙ ap (λ (r : Rule). call_of r.act next f.back) is in
    let on : Contains (named_in chains f.chain) c.in-Some.d = enters_named chains f.chain at (rules_at chains f.chain) rule next f.back c.in-Some.d c.in-Some.far refl lt there in
    let far : c.in-Some.far ≤ next = far_within rule.act next f.back c.in-Some.d c.in-Some.far called (omega (arith, c.requires.low, c.len-next.ensures)) in
    record { chain = c.requires.named f.chain c.in-Some.d on; low = omega (arith, far, c.len-next.ensures) }

pub returns-in_ok-entered-in-Some : goal.returns-in_ok-entered-in-Some
returns-in_ok-entered-in-Some c = λ n back old b.
    let chains = c.args.chains.now in
    let f = c.args.frame in
    let at = f.left - 1 in
    let rule = c.index-rules-i.result in
    let next = c.len-next.result in
    let code : List Draft = reverse c.args.out.now.items in
    let step : f.left ≡ suc at = omega arith in
    let lt : at < length (rules_at chains f.chain) = omega (arith, c.requires.within) in
    let is : rule ≡ get_or (rules_at chains f.chain) at rule = c.index-rules-i.is ∙ ap (λ (rs : List Rule). get_or rs at rule) c.rules_at-rules.ensures in
    let size : next ≡ length code = let same = length-reverse c.args.out.now.items in omega (arith, same, c.len-next.ensures) in
    let called : Some (c.in-Some.d, c.in-Some.far) ≡ call_of rule.act next f.back = search rules in
    enters chains f c.in_ok-entered-in-Some.entered at rule rule code (reverse c.begin.new.out.items) next c.in-Some.d c.in-Some.far n back old step lt is size called b c.in_ok-entered-in-Some.ensures
