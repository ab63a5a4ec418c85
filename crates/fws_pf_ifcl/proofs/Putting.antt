-- The rules of a pass, put one part behind the other, and both passes.
use Rattle.std.proofs.Common.{◌≡◌, ℕ, Bool, true, false, cond, List, [], ◌∷◌, ◌++◌, length, map, take, drop, codes, refl, sym, ap, ◌∙◌, subst, append_assoc}
use Rattle.fws_ifcl.specs.declared.diagram.Chain.{Chain}
use Rattle.fws_ifcl.specs.declared.diagram.Ifcl.{Ifcl}
use Rattle.fws_ifcl.specs.declared.diagram.Rule.{Rule}
use Rattle.fws_join.specs.declared.decision.Decision.{Decision}
use Rattle.fws_join.specs.Deciding.{StandsFor}
use Rattle.fws_pf.specs.declared.config.PfConfig.{PfConfig}
use Rattle.fws_pf.specs.declared.config.PfRule.{PfRule}
use Rattle.fws_pf.specs.Walk.{translations}
use Rattle.fws_pf_ifcl.specs.Blocks.{EndsIn, IsFiltered, IsTail, Order, filter_from, filter_rules, met_rules, order_of, rule_of, tail_of, tail_place, tail_rules, translations_from}
use Rattle.fws_pf_ifcl.specs.Diagram.{ArePasses, IsDrawn, IsPass, tracking, skipping, translations_place, filter_place, pass_rules, pass_stage}
use Rattle.fws_pf_ifcl.proofs.Lengths.{first_length, front_length}

pub pass_put : (order : Order) (outward : Bool) (c : PfConfig) (z a b d e : List Rule)
    → z ≡ [] → a ≡ z ++ tracking outward → b ≡ a ++ skipping c
    → d ≡ b ++ translations_from outward (filter_place outward c) (length b) (translations c outward) → e ≡ d ++ filter_rules order outward (length d) c.filter
    → e ≡ pass_rules order outward c
pass_put order outward c z a b d e none tracked skipped translated filtered =
    let first = tracking outward ++ skipping c in
    let nats = translations c outward in
    let filter = filter_place outward c in
    let middle = translations_from outward filter (translations_place outward) nats in
    let last = filter_rules order outward filter c.filter in
    let ahead : b ≡ first = skipped ∙ ap (λ l. l ++ skipping c) (tracked ∙ ap (λ l. l ++ tracking outward) none) in
    let front : d ≡ first ++ middle =
    translated ∙ ap (λ n. b ++ translations_from outward filter n nats) (ap length ahead ∙ first_length outward c) ∙ ap (λ l. l ++ middle) ahead in
    filtered ∙ ap (λ n. d ++ filter_rules order outward n c.filter) (ap length front ∙ front_length outward c) ∙ ap (λ l. l ++ last) front

-- Both passes

same_pass : (in_order outward : Bool) (c : PfConfig) (tail : List Decision) (tails : Bool → List Decision) → tails outward ≡ tail
    → pass_rules (order_of in_order (λ _. tail)) outward c ≡ pass_rules (order_of in_order tails) outward c
same_pass true outward c tail tails is = refl
same_pass false outward c tail tails is =
    ap (λ l. tracking outward ++ skipping c ++ translations_from outward (filter_place outward c) (translations_place outward) (translations c outward)
    ++ filter_from outward (filter_place outward c) c.filter l) (sym is)

pub both_passes : (in_order : Bool) (c : PfConfig) (a b d : List Chain) (one two : List Rule) → IsPass in_order false c one → IsPass in_order true c two
    → b ≡ a ++ record { name = codes "in"; rules = one } ∷ [] → d ≡ b ++ record { name = codes "out"; rules = two } ∷ [] → ArePasses in_order c a d
both_passes in_order c a b d one two inward outward first second =
    let tails : Bool → List Decision = λ side. cond side outward.tail inward.tail in
    let these : one ≡ pass_rules (order_of in_order tails) false c = inward.are ∙ same_pass in_order false c inward.tail tails refl in
    let those : two ≡ pass_rules (order_of in_order tails) true c = outward.are ∙ same_pass in_order true c outward.tail tails refl in
    record {
      tails = tails;
      stand = stand (λ side. IsTail side c.filter) inward.tail outward.tail inward.stands outward.stands;
      are = second
          ∙ ap (λ (l : List Chain). l ++ record { name = codes "out"; rules = two } ∷ []) first
          ∙ append_assoc a (record { name = codes "in"; rules = one } ∷ []) (record { name = codes "out"; rules = two } ∷ [])
          ∙ ap (λ (rs : List Rule). a ++ record { name = codes "in"; rules = rs } ∷ record { name = codes "out"; rules = two } ∷ []) these
          ∙ ap (λ (rs : List Rule). a ++ record { name = codes "in"; rules = pass_rules (order_of in_order tails) false c } ∷ record { name = codes "out"; rules = rs } ∷ []) those;
    }
  where
    stand : (P : Bool → List Decision → Type 0) (x y : List Decision) → P false x → P true y → (side : Bool) → P side (cond side y x)
    stand P x y p q false = p
    stand P x y p q true = q

pub behind_none : (in_order : Bool) (c : PfConfig) (a d : List Chain) → a ≡ [] → ArePasses in_order c a d → ArePasses in_order c [] d
behind_none in_order c a d none are = subst (λ (l : List Chain). ArePasses in_order c l d) none are

pub whole : (in_order : Bool) (c : PfConfig) (chains : List Chain) (d : Ifcl) → ArePasses in_order c [] chains
    → d ≡ record { chains = chains; arrive = pass_stage false ∷ []; deliver = []; forward = pass_stage true ∷ []; send = pass_stage true ∷ [] } → IsDrawn in_order c d
whole in_order c chains d passes is = record {
  tails = passes.tails;
  stand = passes.stand;
  are = is ∙ ap (λ (l : List Chain). record { chains = l; arrive = pass_stage false ∷ []; deliver = []; forward = pass_stage true ∷ []; send = pass_stage true ∷ [] }) passes.are;
}

-- the rules of the filter, ahead of its tail and in it
pub filtered : (outward : Bool) (rs : List PfRule) (a b d : List Rule) (n : ℕ) (ahead tail : List PfRule) → n ≡ tail_place outward rs → ahead ≡ take n rs → tail ≡ drop n rs
    → b ≡ a ++ met_rules outward (length a) ahead → EndsIn outward tail b d → IsFiltered false outward rs a d
filtered outward rs a b d n ahead tail at front back met ends = record {
  tail = ends.decisions;
  stands = subst (λ (l : List PfRule). StandsFor ends.decisions (tail_rules outward l)) (back ∙ ap (λ k. drop k rs) at) ends.stand;
  are = ends.are
      ∙ ap (λ l. l ++ map rule_of ends.decisions) (met ∙ ap (λ l. a ++ met_rules outward (length a) l) (front ∙ ap (λ k. take k rs) at))
      ∙ append_assoc a (met_rules outward (length a) (take (tail_place outward rs) rs)) (map rule_of ends.decisions);
}

-- those that stand in their order
pub in_their_order : (outward : Bool) (rs : List PfRule) (a d : List Rule) → d ≡ a ++ met_rules outward (length a) rs → IsFiltered true outward rs a d
in_their_order outward rs a d is = record { tail = tail_rules outward (tail_of outward rs); stands = λ v. refl; are = is }
