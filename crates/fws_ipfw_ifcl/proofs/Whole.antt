-- The rules of a pass, put one part behind the other.
use Rattle.std.proofs.Common.{◌≡◌, ℕ, ◌+◌, Bool, true, false, cond, List, [], ◌∷◌, ◌++◌, length, arith, sym, ap, ◌∙◌, append_assoc, length-append}
use Rattle.fws_net.specs.declared.site.Site.{Site}
use Rattle.fws_ifcl.specs.declared.diagram.Act.TheVariants.{Drop}
use Rattle.fws_ifcl.specs.declared.diagram.Rule.{Rule}
use Rattle.fws_ifcl_rules.specs.Rules.{always}
use Rattle.fws_ipfw.specs.declared.config.IpfwConfig.{IpfwConfig}
use Rattle.fws_ipfw_ifcl.specs.Blocks.{widths}
use Rattle.fws_ipfw_ifcl.specs.Diagram.{goes_on, second_width, second_place, ending_place, half, second_half, ending, all_rules}
use Rattle.fws_ipfw_ifcl.proofs.Lengths.{blocks_length}

-- the second half stands behind the first and the rule that drops
pub second_there : (site : Site) (c : IpfwConfig) (a b : List Rule) → a ≡ [] ++ half site c false → b ≡ a ++ always Drop ∷ [] → length b ≡ second_place c
second_there site c a b first second =
    ap length second ∙ length-append a (always Drop ∷ []) ∙ ap (λ n. n + 1) (ap length first ∙ blocks_length c.nats site.one_pass false (ending_place site c) 0 (second_place c) c.rules)

pub whole : (site : Site) (c : IpfwConfig) (a b d e f : List Rule)
    → a ≡ [] ++ half site c false → b ≡ a ++ always Drop ∷ [] → d ≡ b ++ second_half site c → e ≡ d ++ always Drop ∷ [] → f ≡ e ++ ending
    → f ≡ all_rules site c
whole site c a b d e f first drops second drops_again ends =
    let dropped = always Drop ∷ [] in
    let other = second_half site c in
    let h = half site c false in
    ends ∙ ap (λ l. l ++ ending) (drops_again ∙ ap (λ l. l ++ dropped) (second ∙ ap (λ l. l ++ other) (drops ∙ ap (λ l. l ++ dropped) first)))
    ∙ grouped h dropped other dropped ending
  where
    grouped : (h x y z w : List Rule) → (((h ++ x) ++ y) ++ z) ++ w ≡ (h ++ (x ++ y)) ++ (z ++ w)
    grouped h x y z w = append_assoc ((h ++ x) ++ y) z w ∙ ap (λ l. l ++ (z ++ w)) (append_assoc h x y)

-- how many rules the second half has, by whether it is there
abbrev width_by : IpfwConfig → Bool → ℕ
width_by c there = cond there (widths c.nats true c.rules) 0

-- the place of the rules that end a pass, by that behind the second half
pub ends_there : (site : Site) (c : IpfwConfig) (last begin : ℕ) → true ≡ goes_on site c → begin ≡ second_place c → last ≡ begin + widths c.nats true c.rules
    → last + 1 ≡ ending_place site c
ends_there site c last begin goes is here =
    let width : second_width site c ≡ widths c.nats true c.rules = ap (width_by c) (sym goes) in
    omega (arith, width, here, is)

pub ends_here : (site : Site) (c : IpfwConfig) (begin : ℕ) → false ≡ goes_on site c → begin ≡ second_place c → begin + 1 ≡ ending_place site c
ends_here site c begin goes is =
    let width : second_width site c ≡ 0 = ap (width_by c) (sym goes) in
    omega (arith, width, is)
