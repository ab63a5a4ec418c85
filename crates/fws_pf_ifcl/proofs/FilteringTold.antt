-- What is told of the rules of filter rules is which of these a packet uses.
use Rattle.std.proofs.Common.{◌≡◌, ℕ, suc, ◌+◌, Bool, true, false, cond, ◌&&◌, Option, Some, None, List, [], ◌∷◌, length, drop, arith, refl, sym, ap, ◌∙◌}
use Rattle.std.proofs.lemmas.List.{drop-drop}
use Rattle.std.proofs.Math.Seq.{drop-append_seam}
use Rattle.fws_net.specs.declared.condition.Lit.{Lit}
use Rattle.fws_net.specs.declared.connection.Kind.TheVariants.{New}
use Rattle.fws_net.specs.declared.transit.Transit.{Transit}
use Rattle.fws_net.specs.Conditions.{holds}
use Rattle.fws_net.specs.Transits.{with_only_tag, with_verdict}
use Rattle.fws_ifcl.specs.declared.diagram.Act.TheVariants.{Accept, OnlyTag}
use Rattle.fws_ifcl.specs.declared.diagram.Rule.{Rule}
use Rattle.fws_ifcl.specs.Spots.{told}
use Rattle.fws_ifcl.specs.Uses.{rules_used as places_used}
use Rattle.fws_ifcl_rules.specs.Places.{sight, Stands}
use Rattle.fws_ifcl_rules.specs.Rules.{always, guard}
use Rattle.fws_ifcl_rules.specs.UsedPlaces.{first_told, Telling, tell, Bears}
use Rattle.fws_pf.specs.declared.config.PfRule.{PfRule}
use Rattle.fws_pf.specs.Uses.{rules_used}
use Rattle.fws_pf.specs.Walk.{tagged, is_met, acted}
use Rattle.fws_pf_ifcl.specs.Blocks.{passing_at_once, holding, filter_rule, met_rule, met_rules}
use Rattle.fws_pf_ifcl.specs.Diagram.{pass_stage}
use Rattle.fws_pf_ifcl.specs.Placed.{filter_told}
use Rattle.fws_pf_ifcl.proofs.Courses.{Course}
use Rattle.fws_pf_ifcl.proofs.Filtering.{rules_by}

-- a rule that passes packets at once
passing_told : (outward : Bool) (w : Course New outward) (u : Telling w) (at n : ℕ) (test : List Lit) (tag : Option ℕ) → Stands w at (passing_at_once at test tag)
    → Bears u at (first_told n (passing_at_once at test tag)) → (t : Transit)
    → tell u at t ≡ cond (holds test (sight w t)) (n ∷ []) (tell u (at + length (passing_at_once at test tag)) t)
passing_told outward w u at n test None s b t = u.law.told s b (tt, tt) t
passing_told outward w u at n test (Some m) s b t =
    let inner = always (OnlyTag m) ∷ always Accept ∷ [] in
    let parts = w.law.parts (at + 2) (guard at test (length inner)) inner s refl in
    let bears = u.law.parts (at + 2) ((n ∷ []) ∷ [] ∷ []) ([] ∷ [] ∷ []) b refl in
    u.law.told parts.0 bears.0 (omega arith, (omega arith, tt)) t
    ∙ ap (λ l. cond (holds test (sight w t)) (n ∷ l) (tell u (at + 4) t)) (u.law.told parts.1 bears.1 (tt, (tt, tt)) t)

-- two rules with the same condition, of which the first is told
twice_told : (b : Bool) (n : ℕ) (x y z v : List ℕ) → cond b (n ∷ cond b x y) (cond b z v) ≡ cond b (n ∷ x) v
twice_told true n x y z v = refl
twice_told false n x y z v = refl

-- a rule whose verdict holds so far
holding_told : (outward : Bool) (w : Course New outward) (u : Telling w) (at n : ℕ) (passes : Bool) (test : List Lit) (tag : Option ℕ) → Stands w at (holding passes test tag)
    → Bears u at (first_told n (holding passes test tag)) → (t : Transit)
    → tell u at t
    ≡ cond (holds test (sight w t)) (n ∷ tell u (at + length (holding passes test tag)) (with_verdict passes (tagged tag t)))
    (tell u (at + length (holding passes test tag)) t)
holding_told outward w u at n passes test None s b t = u.law.told s b (tt, tt) t
holding_told outward w u at n passes test (Some m) s b t =
    let held = with_verdict passes t in
    u.law.told s b (tt, (tt, tt)) t
    ∙ twice_told (holds test (sight w t)) n (tell u (at + 2) (with_only_tag m held)) (tell u (at + 2) held) (tell u (at + 2) (with_only_tag m t)) (tell u (at + 2) t)

-- a rule
rule_told : (outward : Bool) (w : Course New outward) (u : Telling w) (at n : ℕ) (quick pass : Bool) (test : List Lit) (tag : Option ℕ) (go : Transit → List ℕ)
    → Stands w at (rules_by quick pass at test tag) → Bears u at (first_told n (rules_by quick pass at test tag))
    → ((t : Transit) → tell u (at + length (rules_by quick pass at test tag)) t ≡ go t) → (t : Transit)
    → tell u at t ≡ cond (holds test (sight w t)) (n ∷ cond quick [] (go (with_verdict pass (tagged tag t)))) (go t)
rule_told outward w u at n true true test tag go s b next t =
    passing_told outward w u at n test tag s b t ∙ ap (cond (holds test (sight w t)) (n ∷ [])) (next t)
rule_told outward w u at n true false test tag go s b next t = u.law.told s b (tt, tt) t ∙ ap (cond (holds test (sight w t)) (n ∷ [])) (next t)
rule_told outward w u at n false pass test tag go s b next t =
    let h = holds test (sight w t) in
    let past = at + length (holding pass test tag) in
    let after = with_verdict pass (tagged tag t) in
    holding_told outward w u at n pass test tag s b t
    ∙ ap (λ l. cond h (n ∷ l) (tell u past t)) (next after)
    ∙ ap (cond h (n ∷ go after)) (next t)

-- a rule that may be met
met_told : (outward : Bool) (w : Course New outward) (u : Telling w) (at n : ℕ) (met : Bool) (r : PfRule) (go : Transit → List ℕ)
    → Stands w at (cond met (filter_rule at r) []) → Bears u at (first_told n (cond met (filter_rule at r) []))
    → ((t : Transit) → tell u (at + length (cond met (filter_rule at r) [])) t ≡ go t) → (t : Transit)
    → tell u at t ≡ cond (met && holds r.cond (sight w t)) (n ∷ cond r.quick [] (go (acted r t))) (go t)
met_told outward w u at n false r go s b next t =
    let same : at ≡ at + 0 = omega arith in
    ap (λ place. tell u place t) same ∙ next t
met_told outward w u at n true r go s b next t = rule_told outward w u at n r.quick r.pass r.cond r.tag go s b next t

-- rules to the end of the pass, in their order
pub filter_tell : (outward : Bool) (w : Course New outward) (u : Telling w) (many : (n : ℕ) (rules : List Rule) → length (first_told n rules) ≡ length rules)
    (at n : ℕ) (rs : List PfRule) → drop at w.full ≡ met_rules outward at rs → Bears u at (filter_told outward at n rs) → (t : Transit)
    → tell u at t ≡ rules_used w.site outward n rs t
filter_tell outward w u many at n [] are b t =
    ap (λ rules. told u.spots (places_used u.used w.enter u.chain w.site w.p New (pass_stage outward) at rules 0 t)) are
filter_tell outward w u many at n (r ∷ rs) are b t =
    let here = met_rule outward at r in
    let next = at + length here in
    let behind = met_rules outward next rs in
    let beside : length (first_told n here) ≡ length here = many n here in
    let rest : drop next w.full ≡ behind = sym (drop-drop (length here) at w.full) ∙ ap (drop (length here)) are ∙ drop-append_seam here behind in
    let bears = u.law.parts next (first_told n here) (filter_told outward next (suc n) rs) b (omega (arith, beside)) in
    met_told outward w u at n (is_met r.way outward) r (rules_used w.site outward (suc n) rs) (record { rest = behind; are = are }) bears.0
    (filter_tell outward w u many next (suc n) rs rest bears.1) t
