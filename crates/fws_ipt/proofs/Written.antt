-- Ports are written for TCP and UDP alone, where the rules that write them ask for these.
use Rattle.std.proofs.Common.{◌≡◌, ℕ, zero, suc, ◌≤◌, Bool, true, false, ◌&&◌, ◌||◌, nat_eq, nat_le, Option, Some, None, is_none, List, [], ◌∷◌, IfSome, arith, refl, ap, ◌∙◌, subst, eqb-true, ⊎_elim}
use Rattle.std.specs.Prelude.{not}
use Rattle.std.specs.List.{list_all}
use Rattle.std.proofs.lemmas.Bool.{false≢true, both_ways, false_from_ne_true, and_parts, or_cases, leb-true}
use Rattle.fws_iv.specs.declared.iv.Iv.{Iv}
use Rattle.fws_iv.specs.Ivs.{has}
use Rattle.fws_net.specs.declared.packet.Packet.{Packet}
use Rattle.fws_net.specs.declared.condition.Lit.{Lit}
use Rattle.fws_net.specs.declared.condition.Test.{Test}
use Rattle.fws_net.specs.declared.condition.Test.TheVariants.{Proto}
use Rattle.fws_net.specs.declared.view.View.{View}
use Rattle.fws_net.specs.declared.connection.Kind.TheVariants.{New}
use Rattle.fws_net.specs.declared.site.Site.{Site}
use Rattle.fws_net.specs.declared.transit.Transit.{Transit}
use Rattle.fws_net.specs.Conditions.{test_holds, lit_holds, holds}
use Rattle.fws_net.specs.Fates.{has_ports}
use Rattle.fws_rules.specs.Regular.{IsPortless}
use Rattle.fws_ipt.specs.declared.config.IptTable.{IptTable}
use Rattle.fws_ipt.specs.declared.config.IptGo.{IptGo}
use Rattle.fws_ipt.specs.declared.config.IptGo.TheVariants.{Mark, Source, Masquerade, Dest, Redirect, Netmap}
use Rattle.fws_ipt.specs.declared.config.IptRule.{IptRule}
use Rattle.fws_ipt.specs.declared.config.IptChain.{IptChain}
use Rattle.fws_ipt.specs.declared.config.IptConfig.{IptConfig}
use Rattle.fws_ipt.specs.declared.hook.Hook.{Hook}
use Rattle.fws_ipt.specs.declared.passage.Passage.{Passage}
use Rattle.fws_ipt.specs.Regular.{is_port_asked, ports_are_asked}
use Rattle.fws_ipt.specs.Spelled.{tests_protocol, asks_protocol, asks_ports, may_write}
use Rattle.fws_ipt.specs.Walk.{view_at, rules_at, visits}
use Rattle.fws_ipt.proofs.Kept.{Writes, visits_kept}
use Rattle.fws_ipt.proofs.Shown.{transit_of, passage_of, visiting, shown_holds}

-- What is asked for

one_held : (set : Iv) (x n : ℕ) → (nat_eq set.lo n && nat_eq set.hi n) ≡ true → has (set ∷ []) x ≡ true → x ≡ n
one_held set x n same held =
    let both = and_parts (nat_eq set.lo n) (nat_eq set.hi n) same in
    let lo : set.lo ≡ n = eqb-true set.lo n both.0 in
    let hi : set.hi ≡ n = eqb-true set.hi n both.1 in
    ⊎_elim (λ within.
    let parts = and_parts (nat_le set.lo x) (nat_le x set.hi) within in
    let low : set.lo ≤ x = leb-true set.lo x parts.0 in
    let high : x ≤ set.hi = leb-true x set.hi parts.1 in
    omega arith)
    (λ none. absurd (false≢true none))
    (or_cases (nat_le set.lo x && nat_le x set.hi) false held)

test_asks : (n : ℕ) (v : View) (test : Test) → tests_protocol n test ≡ true → test_holds v test ≡ true → v.packet.proto ≡ n
test_asks n v (Proto []) e h = absurd (false≢true e)
test_asks n v (Proto (set ∷ [])) e h = one_held set v.packet.proto n e h
test_asks n v (Proto (set ∷ other ∷ more)) e h = absurd (false≢true e)
test_asks n v _ e h = absurd (false≢true e)

lit_asks : (n : ℕ) (v : View) (negated : Bool) (asking : Test) → (not negated && tests_protocol n asking) ≡ true → lit_holds v (record { not = negated; test = asking }) ≡ true
    → v.packet.proto ≡ n
lit_asks n v true asking e h = absurd (false≢true e)
lit_asks n v false asking e h = test_asks n v asking e h

asked : (n : ℕ) (v : View) (lits : List Lit) → asks_protocol n lits ≡ true → holds lits v ≡ true → v.packet.proto ≡ n
asked n v [] e h = absurd (false≢true e)
asked n v (lit ∷ lits) e h =
    let both = and_parts (lit_holds v lit) (holds lits v) h in
    ⊎_elim (λ here. lit_asks n v lit.not lit.test here both.0) (λ more. asked n v lits more both.1)
    (or_cases (not lit.not && tests_protocol n lit.test) (asks_protocol n lits) e)

-- a condition that holds of a packet without ports asks for neither
asks_neither : (v : View) (lits : List Lit) → holds lits v ≡ true → has_ports v.packet.proto ≡ false → asks_ports lits ≡ false
asks_neither v lits on off =
    false_from_ne_true (asks_ports lits)
    (λ asks. ⊎_elim (λ tcp. portless 6 refl (asked 6 v lits tcp on)) (λ udp. portless 17 refl (asked 17 v lits udp on))
    (or_cases (asks_protocol 6 lits) (asks_protocol 17 lits) asks))
  where
    portless : (n : ℕ) → has_ports n ≡ true → v.packet.proto ≡ n → ⊥
    portless n ports same = both_ways (has_ports v.packet.proto) off (ap has_ports same ∙ ports)

none_there : (port : Option ℕ) → (is_none port || false) ≡ true → port ≡ None
none_there None e = refl
none_there (Some x) e = absurd (false≢true e)

-- The way

module _ (c : IptConfig) (site : Site) (p : Packet) (asking : ports_are_asked c ≡ true) (off : has_ports p.proto ≡ false) where
  abbrev Portless : Passage → Type 0
  Portless m = IsPortless p (transit_of m)

  rules_ask : (chains : List IptChain) → list_all (λ chain. list_all is_port_asked chain.rules) chains ≡ true → (n : ℕ) → list_all is_port_asked (rules_at chains n) ≡ true
  rules_ask [] all n = refl
  rules_ask (chain ∷ chains) all zero = (and_parts (list_all is_port_asked chain.rules) (list_all (λ other. list_all is_port_asked other.rules) chains) all).0
  rules_ask (chain ∷ chains) all (suc n) =
      rules_ask chains (and_parts (list_all is_port_asked chain.rules) (list_all (λ other. list_all is_port_asked other.rules) chains) all).1 n

  writes_none : (hook : Hook) (go : IptGo) (m : Passage) → may_write false go ≡ true → Portless m → Writes Portless site p hook go m
  writes_none hook (Mark v) m none h = record { proto = h.proto; wrote = h.wrote }
  writes_none hook (Source end) m none h = λ on. record { proto = refl; wrote = (none_there end.port none, h.wrote.1) }
  writes_none hook Masquerade m none h = λ entry. record { proto = refl; wrote = (refl, h.wrote.1) }
  writes_none hook (Dest end) m none h = λ on. record { proto = refl; wrote = (h.wrote.0, none_there end.port none) }
  writes_none hook (Redirect port) m none h = λ on. record { proto = refl; wrote = (h.wrote.0, none_there port none) }
  writes_none hook (Netmap net) m none h =
      (λ on. record { proto = refl; wrote = (h.wrote.0, refl) }, λ on. record { proto = refl; wrote = (refl, h.wrote.1) })
  writes_none hook _ m none h = tt

  rule_keeps : (hook : Hook) (rule : IptRule) → is_port_asked rule ≡ true → (m : Passage) → Portless m → holds rule.cond (view_at site false hook m) ≡ true
      → Writes Portless site p hook rule.go m
  rule_keeps hook rule known m h on =
      let neither = asks_neither (view_at site false hook m) rule.cond on (ap has_ports h.proto ∙ off) in
      writes_none hook rule.go m (subst (λ b. may_write b rule.go ≡ true) neither known) h

  pub visiting_portless : (stations : List (IptTable × Hook)) → list_all (λ at. true) stations ≡ true → (t : Transit) → IsPortless p t
      → IfSome (visiting c site stations p New t) (IsPortless p)
  visiting_portless stations all t h =
      shown_holds (IsPortless p) (visits c site p New stations (passage_of t))
      (visits_kept c site p Portless is_port_asked (λ hook. true) (rules_ask c.chains asking) (λ hook met rule known n k on. rule_keeps hook rule known n k on) stations all
      (passage_of t) (record { proto = h.proto; wrote = h.wrote }))
