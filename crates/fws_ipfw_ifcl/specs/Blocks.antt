-- The rules of a diagram to which a rule of ipfw is unfolded. They stand twice where a packet goes on behind a translation:
-- in the first half for packets that weren't translated in their pass, in the second for those that were.
use Rattle.std.specs.Prelude.{ℕ, ◌+◌, Bool, true, false, nat_lt, Option, List, [], ◌∷◌, ◌++◌, if◌then◌else◌}
use Rattle.fws_net.specs.declared.condition.Lit.{Lit}
use Rattle.fws_net.specs.declared.condition.Test.TheVariants.{Est}
use Rattle.fws_ifcl.specs.declared.diagram.Act.{Act}
use Rattle.fws_ifcl.specs.declared.diagram.Act.TheVariants.{Accept, Drop, Skip, AddTag, DelTag}
use Rattle.fws_ifcl.specs.declared.diagram.Rule.{Rule}
use Rattle.fws_rules.specs.Literals.{positive}
use Rattle.fws_ifcl_rules.specs.Rules.{ruled, always, guarded}
use Rattle.fws_ipfw.specs.declared.config.IpfwAct.{IpfwAct}
use Rattle.fws_ipfw.specs.declared.config.IpfwAct.TheVariants as acts
use Rattle.fws_ipfw.specs.declared.config.IpfwTag.{IpfwTag}
use Rattle.fws_ipfw.specs.declared.config.IpfwTag.TheVariants as tags
use Rattle.fws_ipfw.specs.declared.config.IpfwNat.{IpfwNat}
use Rattle.fws_ipfw.specs.declared.config.IpfwRule.{IpfwRule}
use Rattle.fws_ipfw.specs.Walk.{nat_numbered}
use Rattle.fws_ipfw_ifcl.specs.Translating.{translating, translating_width}

-- Acts

-- a pass ends accepted: in the first half by the rules at the place ends, which give a packet of a connection its end
abbrev pub accepting : Bool → ℕ → Act
accepting translated ends = if translated then Accept else Skip ends

-- a packet is translated once: in the second half it stays as it is
abbrev pub translating_once : Bool → ℕ → ℕ → List Lit → Option IpfwNat → List Rule
translating_once true done at cond nat = ruled cond (Skip (at + 1)) ∷ []
translating_once false done at cond nat = guarded at cond (translating (at + 2) done nat)

-- the rules of an act, of which the first has the place at: for instances, by whether the packet was translated, to the
-- places where a pass ends, where it goes on behind a translation, and where it skips to
abbrev pub acting : List IpfwNat → Bool → ℕ → ℕ → ℕ → ℕ → List Lit → IpfwAct → List Rule
acting nats translated ends done to at cond acts.Allow = ruled cond (accepting translated ends) ∷ []
acting nats translated ends done to at cond acts.Deny = ruled cond Drop ∷ []
acting nats translated ends done to at cond acts.Count = ruled cond (Skip (at + 1)) ∷ []
acting nats translated ends done to at cond (acts.Skip n) = ruled cond (Skip to) ∷ []
acting nats translated ends done to at cond acts.Check = ruled (cond ++ positive Est ∷ []) (accepting translated ends) ∷ []
acting nats translated ends done to at cond (acts.Nat n) = translating_once translated done at cond (nat_numbered n nats)

-- how many these are
abbrev pub acting_width : List IpfwNat → Bool → IpfwAct → ℕ
acting_width nats false (acts.Nat n) = 2 + translating_width (nat_numbered n nats)
acting_width nats translated _ = 1

-- Rules

abbrev pub tagging : IpfwTag → List Rule
tagging tags.Nothing = []
tagging (tags.Add n) = always (AddTag n) ∷ []
tagging (tags.Remove n) = always (DelTag n) ∷ []

-- a tag is put or taken away where the condition holds, and then the act follows
abbrev pub tagging_first : List IpfwNat → Bool → ℕ → ℕ → ℕ → ℕ → List Lit → IpfwAct → IpfwTag → List Rule
tagging_first nats translated ends done to at cond act tags.Nothing = acting nats translated ends done to at cond act
tagging_first nats translated ends done to at cond act tag =
    guarded at cond (tagging tag ++ acting nats translated ends done to (at + 3) [] act)

abbrev pub tagging_width : IpfwTag → ℕ
tagging_width tags.Nothing = 0
tagging_width _ = 3

-- a packet of a connection passes at a rule that keeps state
abbrev pub keeping : Bool → Bool → ℕ → List Rule
keeping keep translated ends = if keep then ruled (positive Est ∷ []) (accepting translated ends) ∷ [] else []

abbrev pub keeping_width : Bool → ℕ
keeping_width keep = if keep then 1 else 0

-- the rules of a rule, of which the first has the place at
abbrev pub block : List IpfwNat → Bool → ℕ → ℕ → ℕ → ℕ → IpfwRule → List Rule
block nats translated ends done to at r =
    keeping r.keep translated ends ++ tagging_first nats translated ends done to (at + keeping_width r.keep) r.cond r.act r.tag

-- how many these are
abbrev pub width : List IpfwNat → Bool → IpfwRule → ℕ
width nats translated r = keeping_width r.keep + (tagging_width r.tag + acting_width nats translated r.act)

abbrev pub widths : List IpfwNat → Bool → List IpfwRule → ℕ
widths nats translated [] = 0
widths nats translated (r ∷ rs) = width nats translated r + widths nats translated rs

-- the places at which the rules of each rule begin, of which the first has the place at, and the place behind all of them
abbrev pub starts_from : List IpfwNat → Bool → ℕ → List IpfwRule → List ℕ
starts_from nats translated at [] = at ∷ []
starts_from nats translated at (r ∷ rs) = at ∷ starts_from nats translated (at + width nats translated r) rs

-- where the first rule whose number is at least n has its rules, of those of which the first has the place at; past all of
-- them where there is none
abbrev pub place_from : List IpfwNat → Bool → ℕ → List IpfwRule → ℕ → ℕ
place_from nats translated at [] n = at
place_from nats translated at (r ∷ rs) n =
    if nat_lt r.number n then place_from nats translated (at + width nats translated r) rs n else at

-- where a rule skips to, of which those behind it begin at the place at; one that doesn't skip has 0
abbrev pub skipping_to : List IpfwNat → Bool → ℕ → List IpfwRule → IpfwAct → ℕ
skipping_to nats translated at rs (acts.Skip n) = place_from nats translated at rs n
skipping_to nats translated at rs _ = 0

-- where a pass goes on behind a translation: it ends, or goes on at this place of the second half
abbrev pub place_behind : Bool → ℕ → ℕ → ℕ
place_behind one_pass ends next = if one_pass then ends + 2 else next

-- the rules of rules, of which the first has the place at, and in the second half the place other
abbrev pub blocks : List IpfwNat → Bool → Bool → ℕ → ℕ → ℕ → List IpfwRule → List Rule
blocks nats one_pass translated ends at other [] = []
blocks nats one_pass translated ends at other (r ∷ rs) =
    block nats translated ends (place_behind one_pass ends (other + width nats true r))
    (skipping_to nats translated (at + width nats translated r) rs r.act) at r
    ++ blocks nats one_pass translated ends (at + width nats translated r) (other + width nats true r) rs
