-- What a text spells is what its diagram asks for.
use Rattle.std.proofs.Common.{◌≡◌, Bool, true, false, ◌&&◌, ◌||◌, not, is_some, List, [], ◌∷◌, refl}
use Rattle.std.proofs.lemmas.Bool.{and_parts, and_from, or_left, or_right}
use Rattle.std.specs.List.{list_all}
use Rattle.std.specs.Option.{option_map_or}
use Rattle.fws_net.specs.declared.condition.Test.{Test}
use Rattle.fws_net.specs.declared.condition.Test.TheVariants.{Via, Outward}
use Rattle.fws_net.specs.declared.condition.Lit.{Lit}
use Rattle.fws_ipt.specs.declared.config.IptChain.{IptChain}
use Rattle.fws_ipt.specs.declared.config.IptGo.{IptGo}
use Rattle.fws_ipt.specs.declared.config.IptGo.TheVariants.{Netmap}
use Rattle.fws_ipt.specs.declared.config.IptRule.{IptRule}
use Rattle.fws_ipt.specs.declared.config.IptTable.TheVariants.{Nat}
use Rattle.fws_ipt.specs.Hooks.{hook_named}
use Rattle.fws_ipt.specs.Soundness.{SpelledFits, SpelledChains}
use Rattle.fws_ipt.specs.Spelled.{asks_ports, asks_protocol, may_stand, is_spelled_cond, may_write, is_spelled_rule, SpelledConditions, is_network, names_block, maps_named, SpelledNetworks}
use Rattle.fws_ipt.specs.Walk.{is_table}
use Rattle.fws_ipt_ifcl.specs.Fitting.{is_sideless, has_sideless_rules, is_netmap, has_netmaps_placed, SpelledDiagrams}
use Rattle.fws_ipt_ifcl.proofs.Placed.{all_met}

all_weaker : {X : Type 0} (test other : X → Bool) → ((x : X) → test x ≡ true → other x ≡ true) → (xs : List X) → list_all test xs ≡ true → list_all other xs ≡ true
all_weaker test other step [] h = refl
all_weaker test other step (x ∷ xs) h =
    let both = and_parts (test x) (list_all test xs) h in and_from (other x) (list_all other xs) (step x both.0) (all_weaker test other step xs both.1)

test_sideless : (ports flags icmp : Bool) (t : Test) → may_stand ports flags icmp t ≡ true → is_sideless t ≡ true
test_sideless ports flags icmp (Via set) h = h
test_sideless ports flags icmp Outward h = h
test_sideless ports flags icmp _ h = refl

rule_sideless : (rule : IptRule) → is_spelled_rule rule ≡ true → list_all (λ lit. is_sideless lit.test) rule.cond ≡ true
rule_sideless rule h =
    all_weaker (λ lit. may_stand (asks_ports rule.cond) (asks_protocol 6 rule.cond) (asks_protocol 1 rule.cond) lit.test) (λ lit. is_sideless lit.test)
    (λ lit. test_sideless (asks_ports rule.cond) (asks_protocol 6 rule.cond) (asks_protocol 1 rule.cond) lit.test) rule.cond
    (and_parts (is_spelled_cond rule.cond) (may_write (asks_ports rule.cond) rule.go) h).0

chain_sideless : (chain : IptChain) → list_all is_spelled_rule chain.rules ≡ true → has_sideless_rules chain ≡ true
chain_sideless chain = all_weaker is_spelled_rule (λ (rule : IptRule). list_all (λ lit. is_sideless lit.test) rule.cond) rule_sideless chain.rules

-- a rule of NETMAP stands in a built-in chain
rule_placed : (chain : IptChain) (c : List Lit) (go : IptGo) → maps_named chain c go ≡ true → (is_some chain.policy || not (is_netmap go)) ≡ true
rule_placed chain c (Netmap net) h =
    let names = option_map_or (λ hook. names_block hook net.len c) (hook_named chain.name) false in
    let front = and_parts (is_table Nat chain.table && is_some chain.policy && is_network net) names h in
    let built = and_parts (is_table Nat chain.table && is_some chain.policy) (is_network net) front.0 in
    or_left (is_some chain.policy) false (and_parts (is_table Nat chain.table) (is_some chain.policy) built.0).1
rule_placed chain c _ h = or_right (is_some chain.policy) true refl

-- one fact of all, or one of each
one_for_all : {X : Type 0} (b : Bool) (test : X → Bool) (xs : List X) → list_all (λ x. b || test x) xs ≡ true → (b || list_all test xs) ≡ true
one_for_all true test xs h = refl
one_for_all false test xs h = h

chain_placed : (chain : IptChain) → list_all (λ rule. maps_named chain rule.cond rule.go) chain.rules ≡ true → has_netmaps_placed chain ≡ true
chain_placed chain h =
    one_for_all (is_some chain.policy) (λ (rule : IptRule). not (is_netmap rule.go)) chain.rules
    (all_weaker (λ rule. maps_named chain rule.cond rule.go) (λ (rule : IptRule). is_some chain.policy || not (is_netmap rule.go))
    (λ rule. rule_placed chain rule.cond rule.go) chain.rules h)

pub texts_are_drawable : SpelledFits → SpelledConditions → SpelledNetworks → SpelledChains → SpelledDiagrams
texts_are_drawable fits conditions networks chains site text c e =
    let all = chains site text c e in
    record {
      fitting = fits site text c e;
      sideless = all_weaker (λ chain. list_all is_spelled_rule chain.rules) has_sideless_rules chain_sideless c.chains (conditions site text c e);
      netmaps_placed =
          all_weaker (λ chain. list_all (λ rule. maps_named chain rule.cond rule.go) chain.rules) has_netmaps_placed chain_placed c.chains (networks site text c e);
      met = all_met c.chains all.0 all.1;
    }
