-- The rules of a diagram to which rules of pf are unfolded.
use Rattle.std.specs.Prelude.{◌≡◌, ℕ, ◌+◌, Bool, not, ◌&&◌, Option, Some, None, List, [], ◌∷◌, ◌++◌, length, map, take, drop, if◌then◌else◌}
use Rattle.std.specs.Option.{is_some, option_map_or}
use Rattle.fws_net.specs.declared.condition.Lit.{Lit}
use Rattle.fws_net.specs.declared.outcome.End.{End}
use Rattle.fws_ifcl.specs.declared.diagram.Act.{Act}
use Rattle.fws_ifcl.specs.declared.diagram.Act.TheVariants.{Accept, Drop, Hold, Skip, Src, Dst, OnlyTag}
use Rattle.fws_ifcl.specs.declared.diagram.Rule.{Rule}
use Rattle.fws_ifcl_rules.specs.Rules.{ruled, always, guarded}
use Rattle.fws_join.specs.declared.decision.Decision.{Decision}
use Rattle.fws_join.specs.Deciding.{StandsFor}
use Rattle.fws_pf.specs.declared.config.PfNat.{PfNat}
use Rattle.fws_pf.specs.declared.config.PfRule.{PfRule}
use Rattle.fws_pf.specs.Walk.{is_met}

-- a tag becomes the only one
abbrev pub tagging : Option ℕ → List Rule
tagging tag = option_map_or (λ n. always (OnlyTag n) ∷ []) tag []

-- Translations

-- the end over the source as packets go out, and over the destination as they come in
abbrev pub writing : Bool → End → Act
writing outward e = if outward then Src e else Dst e

-- what a translation writes, and the tag that it puts
abbrev pub changing : Bool → PfNat → List Rule
changing outward nat = option_map_or (λ e. always (writing outward e) ∷ []) nat.to [] ++ tagging nat.tag

-- behind a translation the pass ends, or goes on at the filter, whose rules begin at this place
abbrev pub leaving : ℕ → PfNat → Act
leaving filter nat = if nat.past then Accept else Skip filter

-- the rules of a translation with changes, and of one without
abbrev pub translating : ℕ → List Lit → Act → List Rule → List Rule
translating at cond leave [] = ruled cond leave ∷ []
translating at cond leave (change ∷ changes) = guarded at cond (change ∷ changes ++ always leave ∷ [])

abbrev pub translation : Bool → ℕ → ℕ → PfNat → List Rule
translation outward filter at nat = translating at nat.cond (leaving filter nat) (changing outward nat)

-- how many these are
abbrev pub width_with : List Rule → ℕ
width_with [] = 1
width_with (change ∷ changes) = 4 + length changes

abbrev pub translation_width : Bool → PfNat → ℕ
translation_width outward nat = width_with (changing outward nat)

abbrev pub translation_widths : Bool → List PfNat → ℕ
translation_widths outward [] = 0
translation_widths outward (nat ∷ nats) = translation_width outward nat + translation_widths outward nats

-- the rules of translations, of which the first has the place at: the first whose condition holds is the pass's one
abbrev pub translations_from : Bool → ℕ → ℕ → List PfNat → List Rule
translations_from outward filter at [] = []
translations_from outward filter at (nat ∷ nats) =
    translation outward filter at nat ++ translations_from outward filter (at + translation_width outward nat) nats

-- Filter rules

-- a rule that passes packets at once, whose tag is put first
abbrev pub passing_at_once : ℕ → List Lit → Option ℕ → List Rule
passing_at_once at cond None = ruled cond Accept ∷ []
passing_at_once at cond (Some n) = guarded at cond (always (OnlyTag n) ∷ always Accept ∷ [])

-- a rule whose verdict holds so far; no condition tells what was held, so that the tag can be put behind it
abbrev pub holding : Bool → List Lit → Option ℕ → List Rule
holding passes cond None = ruled cond (Hold passes) ∷ []
holding passes cond (Some n) = ruled cond (Hold passes) ∷ ruled cond (OnlyTag n) ∷ []

abbrev pub filter_rule : ℕ → PfRule → List Rule
filter_rule at r =
    if r.quick then (if r.pass then passing_at_once at r.cond r.tag else ruled r.cond Drop ∷ []) else holding r.pass r.cond r.tag

-- the rules of a filter rule that is met on the pass; none of one that isn't
abbrev pub met_rule : Bool → ℕ → PfRule → List Rule
met_rule outward at r = if is_met r.way outward then filter_rule at r else []

-- the rules of filter rules, of which the first has the place at
abbrev pub met_rules : Bool → ℕ → List PfRule → List Rule
met_rules outward at [] = []
met_rules outward at (r ∷ rs) = met_rule outward at r ++ met_rules outward (at + length (met_rule outward at r)) rs

-- The tail: the filter rules behind the last one that is met and puts a tag

abbrev pub puts_tag : Bool → PfRule → Bool
puts_tag outward r = is_met r.way outward && is_some r.tag

-- the place behind the last of the rules that puts a tag, of which the first has the place at; without one the place so far
abbrev pub behind_tags : Bool → ℕ → ℕ → List PfRule → ℕ
behind_tags outward place at [] = place
behind_tags outward place at (r ∷ rs) = behind_tags outward (if puts_tag outward r then at + 1 else place) (at + 1) rs

-- the place at which the tail begins
abbrev pub tail_place : Bool → List PfRule → ℕ
tail_place outward rs = behind_tags outward 0 0 rs

-- what a filter rule decides where its condition holds, if it is to
abbrev pub deciding : Bool → PfRule → List Decision
deciding decides r = if decides then record { cond = r.cond; passes = r.pass } ∷ [] else []

-- that of a rule that is quick, and that of one that isn't
abbrev pub quick_rule : Bool → PfRule → List Decision
quick_rule outward r = deciding (is_met r.way outward && r.quick) r

abbrev pub slow_rule : Bool → PfRule → List Decision
slow_rule outward r = deciding (is_met r.way outward && not r.quick) r

-- those that are quick, in their order
abbrev pub quick_rules : Bool → List PfRule → List Decision
quick_rules outward [] = []
quick_rules outward (r ∷ rs) = quick_rule outward r ++ quick_rules outward rs

-- those that aren't, the last one first
abbrev pub slow_rules : Bool → List PfRule → List Decision
slow_rules outward [] = []
slow_rules outward (r ∷ rs) = slow_rules outward rs ++ slow_rule outward r

-- no rule of the tail changes what another one sees, so that the first quick one that matches decides, else the last of the others
abbrev pub tail_rules : Bool → List PfRule → List Decision
tail_rules outward rs = quick_rules outward rs ++ slow_rules outward rs

-- the filter rules of the tail
abbrev pub tail_of : Bool → List PfRule → List PfRule
tail_of outward rs = drop (tail_place outward rs) rs

-- the rule of a decision
abbrev pub rule_of : Decision → Rule
rule_of one = ruled one.cond (if one.passes then Accept else Drop)

-- the rules of all filter rules, of which the first has the place at, with these decisions for the tail
abbrev pub filter_from : Bool → ℕ → List PfRule → List Decision → List Rule
filter_from outward at rs tail = met_rules outward at (take (tail_place outward rs) rs) ++ map rule_of tail

-- how filter rules stand in a pass: in their order, or as they decide first, with these decisions for the tail
abbrev pub Order : Type 0
Order = Option (Bool → List Decision)

abbrev pub filter_rules : Order → Bool → ℕ → List PfRule → List Rule
filter_rules None outward at rs = met_rules outward at rs
filter_rules (Some tails) outward at rs = filter_from outward at rs (tails outward)

abbrev pub order_of : Bool → (Bool → List Decision) → Order
order_of in_order tails = if in_order then None else Some tails

-- decisions stand for those of the tail
abbrev pub IsTail : Bool → List PfRule → List Decision → Type 0
IsTail outward rs tail = StandsFor tail (tail_rules outward (tail_of outward rs))

-- rules are behind others of decisions that stand for those of the rules of a tail
pub record EndsIn (outward : Bool) (tail : List PfRule) (ahead rules : List Rule) : Type 0 where
  pub decisions : List Decision
  pub stand : StandsFor decisions (tail_rules outward tail)
  pub are : rules ≡ ahead ++ map rule_of decisions

-- the rules of filter rules are behind others, with decisions that stand for those of the tail
pub record IsFiltered (in_order outward : Bool) (rs : List PfRule) (ahead rules : List Rule) : Type 0 where
  pub tail : List Decision
  pub stands : IsTail outward rs tail
  pub are : rules ≡ ahead ++ filter_rules (order_of in_order (λ _. tail)) outward (length ahead) rs
