-- The redirects that the rules of a policy name are no more than those that are shown.
use Rattle.std.proofs.Common.{◌≡◌, ℕ, suc, ◌+◌, ◌≤◌, Bool, true, false, cond, not, nat_eq, slice_get, Some, List, [], ◌∷◌, ◌++◌, length, arith, refl, sym, ap, ◌∙◌, subst}
use Rattle.std.proofs.lemmas.Bool.{false≢true, and_parts}
use Rattle.std.proofs.lemmas.List.{length-map}
use Rattle.std.specs.List.{AllByRecursion, IsDistinct, filter, list_all}
use Rattle.std.proofs.lemmas.Map.Keys.{IsDistinct-head, IsDistinct-tail}
use Rattle.fws_net.specs.declared.outcome.End.{End}
use Rattle.fws_tree.specs.OutcomeEquality.{end_exact}
use Rattle.fws_ipfw.specs.declared.config.IpfwAct.{IpfwAct}
use Rattle.fws_ipfw.specs.declared.config.IpfwAct.TheVariants as acts
use Rattle.fws_ipfw.specs.declared.config.IpfwNat.{IpfwNat}
use Rattle.fws_ipfw.specs.declared.config.IpfwRule.{IpfwRule}
use Rattle.fws_ipfw.specs.Walk.{nat_numbered}
use Rattle.fws_ipfw_print.specs.Printable.{all_redirects, redirects_at, redirects_named}
use Rattle.fws_ipfw_put_rules.specs.Lists.{is_plain}
use Rattle.fws_place.specs.declared.redirect.Redirect.{Redirect as Shown}
use Rattle.fws_ipfw_put.specs.Instances.{redirect_for}
use Rattle.fws_ipfw_put.specs.Laid.{nats_for}
use Rattle.fws_ipfw_put.specs.Layout.{destination_instance, destination_rules, same_end, source_instance, source_rules}
use Rattle.fws_ipfw_put.proofs.Nats.{destination_found, destination_nat, end_itself, some_is, source_found}

-- Redirects to different ends

abbrev to_end : End → List Shown → List Shown
to_end e rs = filter (λ (r : Shown). same_end e r.local) rs

abbrev to_others : End → List Shown → List Shown
to_others e rs = filter (λ (r : Shown). not (same_end e r.local)) rs

-- how many redirects lead to the ends
abbrev pub total : List End → List Shown → ℕ
total [] rs = 0
total (e ∷ ends) rs = length (to_end e rs) + total ends rs

both_parts : (e : End) (rs : List Shown) → length (to_end e rs) + length (to_others e rs) ≡ length rs
both_parts e [] = refl
both_parts e (r ∷ rs) = by_test (same_end e r.local) (both_parts e rs) where
  by_test : (b : Bool) → length (to_end e rs) + length (to_others e rs) ≡ length rs
      → length (cond b (r ∷ to_end e rs) (to_end e rs)) + length (cond (not b) (r ∷ to_others e rs) (to_others e rs)) ≡ suc (length rs)
  by_test true h = omega (arith, h)
  by_test false h = omega (arith, h)

-- what leads to another end isn't among those
other_step : (e d : End) (r : Shown) (front back : List Shown) → same_end e d ≡ false → (b t : Bool) → same_end e r.local ≡ b → same_end d r.local ≡ t → front ≡ back
    → cond t (r ∷ front) front ≡ filter (λ (x : Shown). same_end d x.local) (cond (not b) (r ∷ []) []) ++ back
other_step e d r front back apart true true here there same =
    absurd (false≢true (sym apart ∙ ap (same_end e) (end_exact d r.local there ∙ sym (end_exact e r.local here)) ∙ end_itself e))
other_step e d r front back apart true false here there same = same
other_step e d r front back apart false true here there same = rw there (ap (λ l. r ∷ l) same)
other_step e d r front back apart false false here there same = rw there same

filter_front : (p : Shown → Bool) (q : Bool) (r : Shown) (rest : List Shown) → filter p (cond q (r ∷ rest) rest) ≡ filter p (cond q (r ∷ []) []) ++ filter p rest
filter_front p false r rest = refl
filter_front p true r rest = by_test (p r) where
  by_test : (b : Bool) → cond b (r ∷ filter p rest) (filter p rest) ≡ cond b (r ∷ []) [] ++ filter p rest
  by_test true = refl
  by_test false = refl

others_lead : (e d : End) (rs : List Shown) → same_end e d ≡ false → to_end d rs ≡ to_end d (to_others e rs)
others_lead e d [] apart = refl
others_lead e d (r ∷ rs) apart =
    other_step e d r (to_end d rs) (to_end d (to_others e rs)) apart (same_end e r.local) (same_end d r.local) refl refl (others_lead e d rs apart)
    ∙ sym (filter_front (λ (x : Shown). same_end d x.local) (not (same_end e r.local)) r (to_others e rs))

total_others : (e : End) (ends : List End) (rs : List Shown) → AllByRecursion (λ d. same_end e d ≡ false) ends → total ends rs ≡ total ends (to_others e rs)
total_others e [] rs apart = refl
total_others e (d ∷ ends) rs apart =
    let here = ap length (others_lead e d rs apart.0) in
    let later = total_others e ends rs apart.1 in
    omega (arith, here, later)

pub total_low : (ends : List End) (rs : List Shown) → IsDistinct same_end ends → total ends rs ≤ length rs
total_low [] rs distinct = omega arith
total_low (e ∷ ends) rs distinct =
    let apart = total_others e ends rs (IsDistinct-head same_end e ends distinct) in
    let later = total_low ends (to_others e rs) (IsDistinct-tail same_end e ends distinct) in
    let whole = both_parts e rs in
    omega (arith, apart, later, whole)

-- Rules

pub named_both : (nats : List IpfwNat) (front back : List IpfwRule) → all_redirects nats (front ++ back) ≡ all_redirects nats front + all_redirects nats back
named_both nats [] back = omega arith
named_both nats (r ∷ front) back = let later = named_both nats front back in omega (arith, later)

-- rules of lists name no instance
plain_named : (nats : List IpfwNat) (act : IpfwAct) (r : IpfwRule) → r.act ≡ act → is_plain r ≡ true → redirects_named nats act ≡ 0
plain_named nats acts.Allow r is plain = refl
plain_named nats acts.Deny r is plain = refl
plain_named nats acts.Count r is plain = refl
plain_named nats (acts.Skip n) r is plain = refl
plain_named nats acts.Check r is plain = refl
plain_named nats (acts.Nat n) r is plain = absurd (false≢true (sym (ap (λ (a : IpfwAct). is_plain (record r { act = a })) is) ∙ plain))

pub plain_names_none : (nats : List IpfwNat) (rules : List IpfwRule) → list_all is_plain rules ≡ true → all_redirects nats rules ≡ 0
plain_names_none nats [] plain = refl
plain_names_none nats (r ∷ rules) plain =
    let both = and_parts (is_plain r) (list_all is_plain rules) plain in
    let here = plain_named nats r.act r refl both.0 in
    let later = plain_names_none nats rules both.1 in
    omega (arith, here, later)

-- the redirects of an instance that is found
at_found : (nats : List IpfwNat) (n : ℕ) (nat : IpfwNat) → nat_numbered n nats ≡ Some nat → redirects_at nats n ≡ length nat.redirects
at_found [] n nat is = absurd (cc)
at_found (x ∷ nats) n nat is = by_test (nat_eq x.number n) is (at_found nats n nat) where
  by_test : (b : Bool) → cond b (Some x) (nat_numbered n nats) ≡ Some nat → (nat_numbered n nats ≡ Some nat → redirects_at nats n ≡ length nat.redirects)
      → cond b (length x.redirects) (redirects_at nats n) ≡ length nat.redirects
  by_test true is later = ap (λ (y : IpfwNat). length y.redirects) (some_is is)
  by_test false is later = later is

module _ (rs : List Shown) (ds ss : List End) where
  abbrev nats : List IpfwNat
  nats = nats_for rs ds ss

  -- the rules from a destination on
  named_from : (ends : List End) (i : ℕ) → ((k : ℕ) (e : End) → slice_get ends k ≡ Some e → slice_get ds (i + k) ≡ Some e) → all_redirects nats (destination_rules i ends) ≡ total ends rs
  named_from [] i are = refl
  named_from (e ∷ ends) i are =
      let zero_is : i + 0 ≡ i = omega arith in
      let here = at_found nats (destination_instance i) (destination_nat rs i e) (destination_found rs ds ss i e (subst (λ n. slice_get ds n ≡ Some e) zero_is (are 0 e refl)))
      ∙ length-map (to_end e rs) redirect_for in
      let later = named_from ends (i + 1) (λ k x is. let moved : i + suc k ≡ i + 1 + k = omega arith in subst (λ n. slice_get ds n ≡ Some x) moved (are (suc k) x is)) in
      omega (arith, here, later)

  sources_none : (ends : List End) (j : ℕ) → ((k : ℕ) (e : End) → slice_get ends k ≡ Some e → slice_get ss (j + k) ≡ Some e) → all_redirects nats (source_rules (length ds) j ends) ≡ 0
  sources_none [] j are = refl
  sources_none (e ∷ ends) j are =
      let zero_is : j + 0 ≡ j = omega arith in
      let here = at_found nats (source_instance (length ds) j) _ (source_found rs ds ss j e (subst (λ n. slice_get ss n ≡ Some e) zero_is (are 0 e refl))) in
      let later = sources_none ends (j + 1) (λ k x is. let moved : j + suc k ≡ j + 1 + k = omega arith in subst (λ n. slice_get ss n ≡ Some x) moved (are (suc k) x is)) in
      omega (arith, here, later)

  -- the rules for ends name each redirect once
  pub ends_name : IsDistinct same_end ds → all_redirects nats (destination_rules 0 ds ++ source_rules (length ds) 0 ss) ≤ length rs
  ends_name distinct =
      let both = named_both nats (destination_rules 0 ds) (source_rules (length ds) 0 ss) in
      let first = named_from ds 0 (λ k e is. let same : k ≡ 0 + k = omega arith in subst (λ n. slice_get ds n ≡ Some e) same is) in
      let second = sources_none ss 0 (λ k e is. let same : k ≡ 0 + k = omega arith in subst (λ n. slice_get ss n ≡ Some e) same is) in
      let low = total_low ds rs distinct in
      omega (arith, both, first, second, low)
