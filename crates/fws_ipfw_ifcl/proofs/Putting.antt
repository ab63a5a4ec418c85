-- Rules that are put behind others.
use Rattle.std.proofs.Common.{◌≡◌, ℕ, suc, ◌+◌, Bool, true, false, Option, Some, None, List, [], ◌∷◌, ◌++◌, length, arith, refl, sym, ap, ◌∙◌, append_assoc, length-append}
use Rattle.std.proofs.lemmas.List.Filters.{length-filter_both}
use Rattle.std.specs.Prelude.{not, is_some, is_none}
use Rattle.fws_net.specs.declared.condition.Lit.{Lit}
use Rattle.fws_ifcl.specs.declared.diagram.Act.{Act}
use Rattle.fws_ifcl.specs.declared.diagram.Rule.{Rule}
use Rattle.fws_ifcl_rules.specs.Rules.{always, guard, guarded}
use Rattle.fws_ipfw.specs.declared.config.IpfwAct.{IpfwAct}
use Rattle.fws_ipfw.specs.declared.config.IpfwNat.{IpfwNat}
use Rattle.fws_ipfw.specs.declared.config.IpfwRule.{IpfwRule}
use Rattle.fws_ipfw.specs.declared.config.Redirect.{Redirect}
use Rattle.fws_ipfw_ifcl.specs.Translating.{is_of_ports, is_of_address, by_trial, redirecting, redirecting_width, tracking, translating_by, translating_width}
use Rattle.fws_ipfw_ifcl.specs.Blocks.{acting, acting_width, tagging_first, translating_once, keeping, keeping_width, block}
use Rattle.fws_ipfw_ifcl.proofs.Lengths.{redirecting_length, translating_length, acting_length, keeping_length}

other_kind : (r : Redirect) → is_of_address r ≡ not (is_of_ports r)
other_kind r = kinds r.proto
  where
    kinds : (proto : Option ℕ) → is_none proto ≡ not (is_some proto)
    kinds None = refl
    kinds (Some n) = refl

-- each redirect is tried once
pub by_trial_length : (rs : List Redirect) → length (by_trial rs) ≡ length rs
by_trial_length rs = length-append _ _ ∙ length-filter_both is_of_ports is_of_address other_kind rs

-- three lists, one behind the other
behind_both : {X : Type 0} (xs ys zs ws a b e : List X) → a ≡ xs ++ ys → b ≡ a ++ zs → e ≡ b ++ ws → e ≡ xs ++ (ys ++ zs ++ ws)
behind_both xs ys zs ws a b e first second third =
    third ∙ ap (λ l. l ++ ws) (second ∙ ap (λ l. l ++ zs) first ∙ append_assoc xs ys zs) ∙ append_assoc xs (ys ++ zs) ws

pub translating_put : (rules a b e : List Rule) (done outwards : ℕ) (nat : IpfwNat)
    → outwards ≡ length rules + (4 + redirecting_width false (by_trial nat.redirects))
    → a ≡ rules ++ tracking done outwards
    → b ≡ a ++ redirecting false nat.alias (length a) done (by_trial nat.redirects)
    → e ≡ b ++ redirecting true nat.alias (length b) done (by_trial nat.redirects)
    → e ≡ rules ++ translating_by (length rules) done nat
translating_put rules a b e done outwards nat place first second third =
    let tried = by_trial nat.redirects in
    let four : length a ≡ length rules + 4 = ap length first ∙ length-append rules (tracking done outwards) in
    let inner : length b ≡ length a + length (redirecting false nat.alias (length a) done tried) =
    ap length second ∙ length-append a (redirecting false nat.alias (length a) done tried) in
    let wide : length (redirecting false nat.alias (length a) done tried) ≡ redirecting_width false tried = redirecting_length false nat.alias (length a) done tried in
    let here : length b ≡ length rules + (4 + redirecting_width false tried) = omega (arith, four, inner, wide) in
    behind_both rules (tracking done (length rules + (4 + redirecting_width false tried))) (redirecting false nat.alias (length rules + 4) done tried) _ a b e
    (first ∙ ap (λ n. rules ++ tracking done n) place)
    (second ∙ ap (λ n. a ++ redirecting false nat.alias n done tried) four)
    (third ∙ ap (λ n. b ++ redirecting true nat.alias n done tried) here)

-- inner rules behind a guard of their number
pub guarded_put : (rules a e inner : List Rule) (cond : List Lit) (n : ℕ) → n ≡ length inner → a ≡ rules ++ guard (length rules) cond n → e ≡ a ++ inner
    → e ≡ rules ++ guarded (length rules) cond inner
guarded_put rules a e inner cond n is first second =
    second ∙ ap (λ l. l ++ inner) (first ∙ ap (λ m. rules ++ guard (length rules) cond m) is) ∙ append_assoc rules (guard (length rules) cond (length inner)) inner

pub guard_behind : (rules a : List Rule) (cond : List Lit) (n : ℕ) → a ≡ rules ++ guard (length rules) cond n → length a ≡ length rules + 2
guard_behind rules a cond n first = ap length first ∙ length-append rules (guard (length rules) cond n)

pub instance_put : (done : ℕ) (cond : List Lit) (nat : IpfwNat) (rules a e : List Rule) (n : ℕ)
    → n ≡ translating_width (Some nat)
    → a ≡ rules ++ guard (length rules) cond n
    → e ≡ a ++ translating_by (length a) done nat
    → e ≡ rules ++ translating_once false done (length rules) cond (Some nat)
instance_put done cond nat rules a e n width first second =
    let two : length a ≡ length rules + 2 = guard_behind rules a cond n first in
    let inner = translating_by (length rules + 2) done nat in
    guarded_put rules a e inner cond n (width ∙ sym (translating_length (length rules + 2) done (Some nat))) first
    (second ∙ ap (λ m. a ++ translating_by m done nat) two)

pub tagged_put : (nats : List IpfwNat) (translated : Bool) (ends done to : ℕ) (cond : List Lit) (act : IpfwAct) (tags : Act) (rules a b e : List Rule) (n : ℕ)
    → n ≡ acting_width nats translated act + 1
    → a ≡ rules ++ guard (length rules) cond n
    → b ≡ a ++ always tags ∷ []
    → e ≡ b ++ acting nats translated ends done to (length b) [] act
    → e ≡ rules ++ guarded (length rules) cond (always tags ∷ acting nats translated ends done to (length rules + 3) [] act)
tagged_put nats translated ends done to cond act tags rules a b e n width first second third =
    let two : length a ≡ length rules + 2 = guard_behind rules a cond n first in
    let one : length b ≡ length a + 1 = ap length second ∙ length-append a (always tags ∷ []) in
    let here : length b ≡ length rules + 3 = omega (arith, two, one) in
    let acts = acting nats translated ends done to (length rules + 3) [] act in
    let long : length acts ≡ acting_width nats translated act = acting_length nats translated ends done to (length rules + 3) [] act in
    let is : n ≡ suc (length acts) = omega (arith, width, long) in
    guarded_put rules a e (always tags ∷ acts) cond n is first
    (third ∙ ap (λ m. b ++ acting nats translated ends done to m [] act) here ∙ ap (λ l. l ++ acts) second ∙ append_assoc a (always tags ∷ []) acts)

pub block_put : (nats : List IpfwNat) (translated : Bool) (ends done to : ℕ) (r : IpfwRule) (rules a e : List Rule)
    → a ≡ rules ++ keeping r.keep translated ends
    → e ≡ a ++ tagging_first nats translated ends done to (length a) r.cond r.act r.tag
    → e ≡ rules ++ block nats translated ends done to (length rules) r
block_put nats translated ends done to r rules a e first second =
    let long : length a ≡ length rules + keeping_width r.keep =
    ap length first ∙ length-append rules (keeping r.keep translated ends) ∙ ap (λ n. length rules + n) (keeping_length r.keep translated ends) in
    let inner = tagging_first nats translated ends done to (length rules + keeping_width r.keep) r.cond r.act r.tag in
    second ∙ ap (λ n. a ++ tagging_first nats translated ends done to n r.cond r.act r.tag) long ∙ ap (λ l. l ++ inner) first
    ∙ append_assoc rules (keeping r.keep translated ends) inner
