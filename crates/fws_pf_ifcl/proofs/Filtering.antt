-- The rules of filter rules walk as these do.
use Rattle.std.proofs.Common.{◌≡◌, ℕ, ◌+◌, Bool, true, false, cond, ◌&&◌, Option, Some, None, List, [], ◌∷◌, ◌++◌, length, map, take, drop, arith, refl, sym, ap, ◌∙◌, append_assoc, append-nil, take-append-drop}
use Rattle.std.proofs.lemmas.List.{drop-drop}
use Rattle.std.proofs.Math.Seq.{drop-append_seam}
use Rattle.fws_net.specs.declared.condition.Lit.{Lit}
use Rattle.fws_net.specs.declared.connection.Kind.TheVariants.{New}
use Rattle.fws_net.specs.declared.transit.Transit.{Transit}
use Rattle.fws_net.specs.Conditions.{holds}
use Rattle.fws_net.specs.Transits.{with_only_tag, with_verdict, decided}
use Rattle.fws_ifcl.specs.declared.diagram.Act.TheVariants.{Accept, Drop, OnlyTag}
use Rattle.fws_ifcl.specs.declared.diagram.Rule.{Rule}
use Rattle.fws_ifcl.specs.declared.step.ChainEnd.{ChainEnd}
use Rattle.fws_ifcl.specs.declared.step.ChainEnd.TheVariants.{Accepted, Dropped}
use Rattle.fws_ifcl_rules.specs.Places.{sight, run, Stands}
use Rattle.fws_ifcl_rules.specs.Rules.{ruled, always, guard}
use Rattle.fws_join.specs.declared.decision.Decision.{Decision}
use Rattle.fws_join.specs.Deciding.{StandsFor}
use Rattle.fws_pf.specs.declared.config.PfRule.{PfRule}
use Rattle.fws_pf.specs.Walk.{tagged, is_met, acted, rules_walk}
use Rattle.fws_pf_ifcl.specs.Blocks.{passing_at_once, holding, filter_rule, met_rule, met_rules, IsTail, Order, rule_of, tail_place, tail_rules, filter_from, filter_rules}
use Rattle.fws_pf_ifcl.proofs.Courses.{Course}
use Rattle.fws_pf_ifcl.proofs.Deciding.{Untagged, tail_untagged, tail_walk}
use Rattle.fws_pf_ifcl.proofs.Settling.{settled, left, left_by, settled_by}

-- a rule that passes packets at once
passing_walk : (outward : Bool) (w : Course New outward) (at : ℕ) (test : List Lit) (tag : Option ℕ) → Stands w at (passing_at_once at test tag) → (t : Transit)
    → left (run w at t) ≡ cond (holds test (sight w t)) (Some (with_verdict true (tagged tag t))) (left (run w (at + length (passing_at_once at test tag)) t))
passing_walk outward w at test None s t = ap left (w.law.walked s (tt, tt) t) ∙ left_by (holds test (sight w t)) (Accepted t) (run w (at + 1) t)
passing_walk outward w at test (Some n) s t =
    let inner = always (OnlyTag n) ∷ always Accept ∷ [] in
    let parts = w.law.parts (at + 2) (guard at test (length inner)) inner s refl in
    ap left
    (w.law.walked parts.0 (omega arith, (omega arith, tt)) t
    ∙ ap (λ end. cond (holds test (sight w t)) end (run w (at + 4) t)) (w.law.walked parts.1 (tt, (tt, tt)) t))
    ∙ left_by (holds test (sight w t)) (Accepted (with_only_tag n t)) (run w (at + 4) t)

-- two rules with the same condition
twice : (b : Bool) (x y z v : ChainEnd) → cond b (cond b x y) (cond b z v) ≡ cond b x v
twice true x y z v = refl
twice false x y z v = refl

-- a rule whose verdict holds so far
holding_walk : (outward : Bool) (w : Course New outward) (at : ℕ) (passes : Bool) (test : List Lit) (tag : Option ℕ) → Stands w at (holding passes test tag) → (t : Transit)
    → run w at t
    ≡ cond (holds test (sight w t)) (run w (at + length (holding passes test tag)) (with_verdict passes (tagged tag t))) (run w (at + length (holding passes test tag)) t)
holding_walk outward w at passes test None s t = w.law.walked s (tt, tt) t
holding_walk outward w at passes test (Some n) s t =
    let held = with_verdict passes t in
    w.law.walked s (tt, (tt, tt)) t
    ∙ twice (holds test (sight w t)) (run w (at + 2) (with_only_tag n held)) (run w (at + 2) held) (run w (at + 2) (with_only_tag n t)) (run w (at + 2) t)

-- the rules of a rule, by what it does
abbrev pub rules_by : Bool → Bool → ℕ → List Lit → Option ℕ → List Rule
rules_by quick pass at test tag = cond quick (cond pass (passing_at_once at test tag) (ruled test Drop ∷ [])) (holding pass test tag)

-- a rule
rule_walk : (outward : Bool) (w : Course New outward) (at : ℕ) (quick pass : Bool) (test : List Lit) (tag : Option ℕ) (go : Transit → Option Transit)
    → Stands w at (rules_by quick pass at test tag)
    → ((u : Transit) → left (run w (at + length (rules_by quick pass at test tag)) u) ≡ settled (go u)) → (t : Transit)
    → left (run w at t)
    ≡ cond (holds test (sight w t)) (settled (cond quick (decided (with_verdict pass (tagged tag t))) (go (with_verdict pass (tagged tag t))))) (settled (go t))
rule_walk outward w at true true test tag go s next t =
    passing_walk outward w at test tag s t ∙ ap (cond (holds test (sight w t)) (Some (with_verdict true (tagged tag t)))) (next t)
rule_walk outward w at true false test tag go s next t =
    ap left (w.law.walked s (tt, tt) t) ∙ left_by (holds test (sight w t)) Dropped (run w (at + 1) t) ∙ ap (cond (holds test (sight w t)) None) (next t)
rule_walk outward w at false pass test tag go s next t =
    let b = holds test (sight w t) in
    let past = at + length (holding pass test tag) in
    let after = with_verdict pass (tagged tag t) in
    ap left (holding_walk outward w at pass test tag s t)
    ∙ left_by b (run w past after) (run w past t)
    ∙ ap (λ end. cond b end (left (run w past t))) (next after)
    ∙ ap (cond b (settled (go after))) (next t)

-- a rule that may be met
met_walk : (outward : Bool) (w : Course New outward) (at : ℕ) (met : Bool) (r : PfRule) (go : Transit → Option Transit)
    → Stands w at (cond met (filter_rule at r) [])
    → ((u : Transit) → left (run w (at + length (cond met (filter_rule at r) [])) u) ≡ settled (go u)) → (t : Transit)
    → left (run w at t) ≡ settled (cond (met && holds r.cond (sight w t)) (cond r.quick (decided (acted r t)) (go (acted r t))) (go t))
met_walk outward w at false r go s next t =
    let same : at ≡ at + 0 = omega arith in
    ap (λ place. left (run w place t)) same ∙ next t
met_walk outward w at true r go s next t =
    rule_walk outward w at r.quick r.pass r.cond r.tag go s next t
    ∙ settled_by (holds r.cond (sight w t)) (cond r.quick (decided (acted r t)) (go (acted r t))) (go t)

-- rules ahead of the tail
ahead_walk : (outward : Bool) (w : Course New outward) (at : ℕ) (ahead tail : List PfRule) (last : List Decision) → Untagged outward tail
    → StandsFor last (tail_rules outward tail) → drop at w.full ≡ met_rules outward at ahead ++ map rule_of last → (t : Transit)
    → left (run w at t) ≡ settled (rules_walk w.site outward (ahead ++ tail) t)
ahead_walk outward w at [] tail last none stands are t = tail_walk outward w at tail last none stands are t
ahead_walk outward w at (r ∷ ahead) tail last none stands are t =
    let here = met_rule outward at r in
    let next = at + length here in
    let behind = met_rules outward next ahead ++ map rule_of last in
    let all : drop at w.full ≡ here ++ behind = are ∙ append_assoc here (met_rules outward next ahead) (map rule_of last) in
    let rest : drop next w.full ≡ behind = sym (drop-drop (length here) at w.full) ∙ ap (drop (length here)) all ∙ drop-append_seam here behind in
    met_walk outward w at (is_met r.way outward) r (rules_walk w.site outward (ahead ++ tail)) (record { rest = behind; are = all })
    (ahead_walk outward w next ahead tail last none stands rest) t

-- rules to the end of the pass, as they decide first
filter_walk : (outward : Bool) (w : Course New outward) (at : ℕ) (rs : List PfRule) (tail : List Decision) → IsTail outward rs tail
    → drop at w.full ≡ filter_from outward at rs tail → (t : Transit) → left (run w at t) ≡ settled (rules_walk w.site outward rs t)
filter_walk outward w at rs tail stands are t =
    let n = tail_place outward rs in
    ahead_walk outward w at (take n rs) (drop n rs) tail (tail_untagged outward rs) stands are t
    ∙ ap (λ l. settled (rules_walk w.site outward l t)) (take-append-drop n rs)

-- the rules for the tail stand for its rules
abbrev pub Fits : Order → Bool → List PfRule → Type 0
Fits None outward rs = Unit {0}
Fits (Some tails) outward rs = IsTail outward rs (tails outward)

-- rules to the end of the pass
pub last_walk : (order : Order) (outward : Bool) (w : Course New outward) (at : ℕ) (rs : List PfRule) → Fits order outward rs
    → drop at w.full ≡ filter_rules order outward at rs → (t : Transit) → left (run w at t) ≡ settled (rules_walk w.site outward rs t)
last_walk None outward w at rs fits are t =
    ahead_walk outward w at rs [] [] refl (λ v. refl) (are ∙ sym (append-nil (met_rules outward at rs))) t
    ∙ ap (λ l. settled (rules_walk w.site outward l t)) (append-nil rs)
last_walk (Some tails) outward w at rs fits are t = filter_walk outward w at rs (tails outward) fits are t
