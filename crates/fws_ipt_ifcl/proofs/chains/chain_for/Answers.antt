use Rattle.std.proofs.Common.{◌≡◌, ◌+◌, ◌<◌, ◌∷◌, ◌++◌, length, drop, sym, ap, ◌∙◌}
use Rattle.std.proofs.lemmas.List.{at_drop_more}
use Rattle.fws_ipt_ifcl.specs.Blocks.{unfolded}
use Rattle.fws_ipt_ifcl.specs.Diagram.{unfolded_all, is_on_source}
use Rattle.fws_ipt_ifcl.proofs.Widths.{unfolded_next}
use Rattle.fws_ipt_ifcl.proofs.chains.chain_for.Goals as goal

pub loop-rule-preserved : goal.loop-rule-preserved
loop-rule-preserved c =
    let asks = c.args.test in
    let site = c.args.site.now in
    let rules = c.as_slice-rule-items.result.now in
    let i = c.loop-rule.rule-index in
    let r = c.rule-item.result in
    let built = c.loop-rule.rules.items in
    let made = c.put_unfolded.new.rules.items in
    let on_source = is_on_source c.args.chain.now.name in
    let side : c.is_on_source-on_source.result ≡ on_source = c.is_on_source-on_source.ensures ∙ ap is_on_source c.as_slice.ensures in
    let put : made ≡ built ++ unfolded asks site on_source (length built) r.cond r.go =
    c.in_ok-put_unfolded.ensures ∙ ap (λ side. built ++ unfolded asks site side (length built) r.cond r.go) side in
    let same : rules ≡ c.args.chain.now.rules = c.as_slice-rule-items.ensures in
    let within : i < length rules = c.loop-rule-test.true in
    ap (λ rs. made ++ unfolded_all asks site on_source (length made) (drop (i + 1) rs)) (sym same)
    ∙ unfolded_next asks site on_source built made r (drop (i + 1) rules) put
    ∙ ap (λ x. built ++ unfolded_all asks site on_source (length built) (x ∷ drop (i + 1) rules)) c.rule-item.is
    ∙ sym (at_drop_more (λ rs. built ++ unfolded_all asks site on_source (length built) rs) rules i r within)
    ∙ ap (λ rs. built ++ unfolded_all asks site on_source (length built) (drop i rs)) same
    ∙ c.loop-rule.invariant
