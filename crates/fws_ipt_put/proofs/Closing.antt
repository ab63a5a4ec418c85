-- Chains of the user's lead to chains of the user's alone, as printed ones do.
use Rattle.std.proofs.Common.{◌≡◌, ℕ, zero, suc, Bool, true, false, ◌&&◌, ◌||◌, Option, Some, None, is_none, is_some, List, [], ◌∷◌, ◌++◌, All, refl, ap, ◌∙◌}
use Rattle.std.proofs.lemmas.Bool.{false≢true, and_parts, and_from}
use Rattle.std.proofs.lemmas.List.Elements.{All-head, All-tail}
use Rattle.std.specs.List.{list_all}
use Rattle.fws_net.specs.declared.site.Site.{Site}
use Rattle.fws_ipt.specs.declared.config.IptChain.{IptChain}
use Rattle.fws_ipt.specs.declared.config.IptGo.{IptGo}
use Rattle.fws_ipt.specs.declared.config.IptGo.TheVariants as acts
use Rattle.fws_ipt.specs.declared.config.IptRule.{IptRule}
use Rattle.fws_ipt.specs.Walk.{rules_at}
use Rattle.fws_ipt_print.specs.Printable.{is_chain_name, is_printed_act, is_printed_chain, is_printed_literal, is_printed_policy, is_printed_rule, are_different, protocol_leads, shows_receiving}
use Rattle.fws_ipt_put.specs.declared.marks.Mark.{Mark}
use Rattle.fws_ipt_put.specs.Marks.{mark_chains}
use Rattle.fws_ipt_put.proofs.Altered.{all_stay, is_users, stays}
use Rattle.fws_ipt_put.proofs.Drafted.{printed_stays}

-- a built-in chain, or one that stays among those of the user's
abbrev pub settled : List IptChain → IptChain → Bool
settled chains chain = is_some chain.policy || all_stay chains chain.rules

settled_users : (chains : List IptChain) (policy : Option Bool) (rules : List IptRule) → is_none policy ≡ true → (is_some policy || all_stay chains rules) ≡ true → all_stay chains rules ≡ true
settled_users chains None rules none h = h
settled_users chains (Some accepts) rules none h = absurd (false≢true none)

pub closed_by : (chains xs : List IptChain) → list_all (settled chains) xs ≡ true → (c : ℕ) → is_users xs c ≡ true → all_stay chains (rules_at xs c) ≡ true
closed_by chains [] h c users = absurd (false≢true users)
closed_by chains (x ∷ xs) h zero users =
    settled_users chains x.policy x.rules users (and_parts (settled chains x) (list_all (settled chains) xs) h).0
closed_by chains (x ∷ xs) h (suc c) users = closed_by chains xs (and_parts (settled chains x) (list_all (settled chains) xs) h).1 c users

pub all_joined : {X : Type 0} (f : X → Bool) (xs ys : List X) → list_all f xs ≡ true → list_all f ys ≡ true → list_all f (xs ++ ys) ≡ true
all_joined f [] ys first second = second
all_joined f (x ∷ xs) ys first second =
    let parts = and_parts (f x) (list_all f xs) first in
    and_from (f x) (list_all f (xs ++ ys)) parts.0 (all_joined f xs ys parts.1 second)

or_true : (a : Bool) → (a || true) ≡ true
or_true true = refl
or_true false = refl

pub marks_settled : (chains : List IptChain) (v : ℕ) (marks : List Mark) → list_all (settled chains) (mark_chains v marks) ≡ true
marks_settled chains v [] = refl
marks_settled chains v (mark ∷ marks) = marks_settled chains (suc v) marks

-- the rules of a printed chain stay
printed_rules_stay : (site : Site) (chains : List IptChain) (chain : IptChain) (rules : List IptRule) → list_all (is_printed_rule site chains chain) rules ≡ true → all_stay chains rules ≡ true
printed_rules_stay site chains chain [] h = refl
printed_rules_stay site chains chain (r ∷ rs) h =
    let both = and_parts (is_printed_rule site chains chain r) (list_all (is_printed_rule site chains chain) rs) h in
    let act = and_parts (are_different r.cond && protocol_leads r.cond && list_all (is_printed_literal site (shows_receiving chain) r.cond) r.cond)
    (is_printed_act chains chain r.cond r.go) both.0 in
    and_from (stays chains r.go) (all_stay chains rs) (printed_stays chains chain r.cond r.go act.1) (printed_rules_stay site chains chain rs both.1)

pub printed_settled : (site : Site) (chains block : List IptChain) → All (λ (chain : IptChain). is_printed_chain site chains chain ≡ true) block → list_all (settled chains) block ≡ true
printed_settled site chains [] all = refl
printed_settled site chains (x ∷ xs) all =
    let here = All-head (λ (chain : IptChain). is_printed_chain site chains chain ≡ true) x xs all in
    let rules = and_parts ((is_some x.policy || is_chain_name x.name) && is_printed_policy x.table x.policy) (list_all (is_printed_rule site chains x) x.rules) here in
    and_from (settled chains x) (list_all (settled chains) xs)
    (ap (λ b. is_some x.policy || b) (printed_rules_stay site chains x x.rules rules.1) ∙ or_true (is_some x.policy))
    (printed_settled site chains xs (All-tail (λ (chain : IptChain). is_printed_chain site chains chain ≡ true) x xs all))

-- the same among other chains with the same ones of the user's
stays_same : (chains others : List IptChain) → ((c : ℕ) → is_users chains c ≡ is_users others c) → (go : IptGo) → stays chains go ≡ stays others go
stays_same chains others same acts.Accept = refl
stays_same chains others same acts.Drop = refl
stays_same chains others same acts.Return = refl
stays_same chains others same acts.Next = refl
stays_same chains others same (acts.Jump c) = refl
stays_same chains others same (acts.Goto c) = same c
stays_same chains others same (acts.Mark v) = refl
stays_same chains others same (acts.Source e) = refl
stays_same chains others same acts.Masquerade = refl
stays_same chains others same (acts.Dest e) = refl
stays_same chains others same (acts.Redirect port) = refl
stays_same chains others same (acts.Netmap net) = refl

pub list_all_same : {X : Type 0} (f g : X → Bool) → ((x : X) → f x ≡ g x) → (xs : List X) → list_all f xs ≡ list_all g xs
list_all_same f g same [] = refl
list_all_same f g same (x ∷ xs) = (λ i. same x i && list_all_same f g same xs i)

pub settled_same : (chains others : List IptChain) → ((c : ℕ) → is_users chains c ≡ is_users others c) → (xs : List IptChain) → list_all (settled chains) xs ≡ list_all (settled others) xs
settled_same chains others same xs =
    list_all_same (settled chains) (settled others) (λ chain. ap (λ b. is_some chain.policy || b)
    (list_all_same (λ (r : IptRule). stays chains r.go) (λ (r : IptRule). stays others r.go) (λ r. stays_same chains others same r.go) chain.rules)) xs
