-- The rules of a policy stand by their numbers.
use Rattle.std.proofs.Common.{◌≡◌, inl, inr, ℕ, ◌+◌, ◌<◌, ◌≤◌, Bool, true, ◌&&◌, nat_le, List, [], ◌∷◌, ◌++◌, length, All, arith, refl, sym, ap, ◌∙◌, subst}
use Rattle.std.proofs.lemmas.Bool.{le-leb, and_from, and_parts}
use Rattle.std.proofs.lemmas.List.Elements.{All-append, All-cons, All-head, All-nil, All-tail, All-weaker}
use Rattle.fws_net.specs.declared.outcome.End.{End}
use Rattle.fws_net.specs.declared.site.Site.{Site}
use Rattle.fws_tree.specs.declared.tables.Tables.{Tables}
use Rattle.fws_tree.specs.Plain.{Plain}
use Rattle.fws_ipfw.specs.declared.config.IpfwAct.TheVariants as acts
use Rattle.fws_ipfw.specs.declared.config.IpfwConfig.{IpfwConfig}
use Rattle.fws_ipfw.specs.declared.config.IpfwRule.{IpfwRule}
use Rattle.fws_ipfw.specs.Soundness.{are_ordered, is_ahead}
use Rattle.fws_ipfw_put.specs.Guards.{IsGuard}
use Rattle.fws_ipfw_put.specs.Layout.{allowing, destination_instance, destination_number, destination_rules, inward, leaving_rules, lookup_rules, plain_rule}
use Rattle.fws_ipfw_put.proofs.Guarded.{Above, Numbered, arrived_leave, goes_on, lookup_above, looked_up, own_leave, tags_arriving}
use Rattle.fws_ipfw_put.proofs.Plan.{Plan, destinations_low, ends_above, for_ends, for_sent, for_sources, grouped, rest, rest_above, sent_above, sources_numbered}

abbrev AtMost : ℕ → List IpfwRule → Type 0
AtMost n rules = All (λ (r : IpfwRule). r.number ≤ n) rules

abbrev AtLeast : ℕ → List IpfwRule → Type 0
AtLeast n rules = All (λ (r : IpfwRule). n ≤ r.number) rules

at_most : (n k : ℕ) (rules : List IpfwRule) → n ≤ k → Numbered n rules → AtMost k rules
at_most n k rules le all = All-weaker (λ (r : IpfwRule). r.number ≡ n) (λ (r : IpfwRule). r.number ≤ k) (λ r is. omega (arith, is, le)) rules all

at_least : (n k : ℕ) (rules : List IpfwRule) → k ≤ n → Numbered n rules → AtLeast k rules
at_least n k rules le all = All-weaker (λ (r : IpfwRule). r.number ≡ n) (λ (r : IpfwRule). k ≤ r.number) (λ r is. omega (arith, is, le)) rules all

at_most_more : (n k : ℕ) (rules : List IpfwRule) → n ≤ k → AtMost n rules → AtMost k rules
at_most_more n k rules le all = All-weaker (λ (r : IpfwRule). r.number ≤ n) (λ (r : IpfwRule). r.number ≤ k) (λ r is. omega (arith, is, le)) rules all

above_least : (n : ℕ) (rules : List IpfwRule) → Above n rules → AtLeast n rules
above_least n rules all = All-weaker (λ (r : IpfwRule). n < r.number) (λ (r : IpfwRule). n ≤ r.number) (λ r is. omega (arith, is)) rules all

-- Order

-- a rule stands ahead of rules with numbers as great as its own
ahead : (n : ℕ) (r : IpfwRule) (rules : List IpfwRule) → r.number ≤ n → AtLeast n rules → is_ahead r rules ≡ true
ahead n r [] le all = refl
ahead n r (s ∷ rules) le all =
    let high = All-head (λ (r : IpfwRule). n ≤ r.number) s rules all in
    le-leb r.number s.number (omega (arith, le, high))

ordered_both : (n : ℕ) (front back : List IpfwRule) → are_ordered front ≡ true → are_ordered back ≡ true → AtMost n front → AtLeast n back → are_ordered (front ++ back) ≡ true
ordered_both n [] back first second low high = second
ordered_both n (r ∷ []) back first second low high =
    and_from (is_ahead r back) (are_ordered back) (ahead n r back (All-head (λ (r : IpfwRule). r.number ≤ n) r [] low) high) second
ordered_both n (r ∷ s ∷ front) back first second low high =
    let both = and_parts (nat_le r.number s.number) (are_ordered (s ∷ front)) first in
    and_from (nat_le r.number s.number) (are_ordered (s ∷ front ++ back)) both.0
    (ordered_both n (s ∷ front) back both.1 second (All-tail (λ (r : IpfwRule). r.number ≤ n) r (s ∷ front) low) high)

same_ordered : (n : ℕ) (rules : List IpfwRule) → Numbered n rules → are_ordered rules ≡ true
same_ordered n [] all = refl
same_ordered n (r ∷ rules) all =
    let P : IpfwRule → Type 0 = λ (r : IpfwRule). r.number ≡ n in
    let here = All-head P r rules all in
    let later = All-tail P r rules all in
    and_from (is_ahead r rules) (are_ordered rules) (ahead n r rules (omega (arith, here)) (at_least n n rules (omega arith) later)) (same_ordered n rules later)

-- Parts

destinations_from : (i : ℕ) (ends : List End) → AtLeast (10000 + i) (destination_rules i ends)
destinations_from i [] = All-nil (λ (r : IpfwRule). 10000 + i ≤ r.number)
destinations_from i (e ∷ ends) =
    let P : IpfwRule → Type 0 = λ (r : IpfwRule). 10000 + i ≤ r.number in
    let translating = plain_rule (destination_number i) (inward ∷ []) (acts.Nat (destination_instance i)) in
    let allows = allowing (destination_number i) (inward ∷ []) in
    All-cons P translating (allows ∷ destination_rules (i + 1) ends) (omega arith)
    (All-cons P allows (destination_rules (i + 1) ends) (omega arith)
    (All-weaker (λ (r : IpfwRule). 10000 + (i + 1) ≤ r.number) P (λ r le. omega (arith, le)) (destination_rules (i + 1) ends) (destinations_from (i + 1) ends)))

destinations_ordered : (i : ℕ) (ends : List End) → are_ordered (destination_rules i ends) ≡ true
destinations_ordered i [] = refl
destinations_ordered i (e ∷ ends) =
    let allows = allowing (destination_number i) (inward ∷ []) in
    let next = destination_rules (i + 1) ends in
    and_from (nat_le (10000 + i) (10000 + i)) (is_ahead allows next && are_ordered next) (le-leb (10000 + i) (10000 + i) (omega arith))
    (and_from (is_ahead allows next) (are_ordered next) (ahead (10000 + (i + 1)) allows next (omega arith) (destinations_from (i + 1) ends)) (destinations_ordered (i + 1) ends))

leaving_low : (site : Site) → AtMost 3000 (leaving_rules site)
leaving_low site =
    let P : IpfwRule → Type 0 = λ (r : IpfwRule). r.number ≤ 3000 in
    All-cons P arrived_leave (own_leave site ∷ []) (omega arith) (All-cons P (own_leave site) [] (omega arith) (All-nil P))

leaving_high : (site : Site) → AtLeast 1000 (leaving_rules site)
leaving_high site =
    let P : IpfwRule → Type 0 = λ (r : IpfwRule). 1000 ≤ r.number in
    All-cons P arrived_leave (own_leave site ∷ []) (omega arith) (All-cons P (own_leave site) [] (omega arith) (All-nil P))

guard_ordered : (site : Site) (packet behind : Plain Bool) (guard : List IpfwRule) → IsGuard site packet behind guard → (are_ordered guard ≡ true) × AtMost 4000 guard
guard_ordered site packet behind guard (inl n) =
    subst (λ (l : List IpfwRule). (are_ordered l ≡ true) × AtMost 4000 l) (sym n.none) (refl, All-nil (λ (r : IpfwRule). r.number ≤ 4000))
guard_ordered site packet behind guard (inr f) =
    subst (λ (l : List IpfwRule). (are_ordered l ≡ true) × AtMost 4000 l) (sym f.are) (in_order, low) where
      two : List IpfwRule
      two = f.arriving ++ leaving_rules site

      three : List IpfwRule
      three = two ++ f.forwarded

      low_of : (n : ℕ) (front back : List IpfwRule) → AtMost n front → AtMost n back → AtMost n (front ++ back)
      low_of n front back first second = All-append (λ (r : IpfwRule). r.number ≤ n) front back first second

      two_low : AtMost 3000 (f.arriving ++ leaving_rules site)
      two_low = low_of 3000 f.arriving (leaving_rules site) (at_most 1000 3000 f.arriving (omega arith) f.arriving_list.list.numbered) (leaving_low site)

      three_low : AtMost 4000 (f.arriving ++ leaving_rules site ++ f.forwarded)
      three_low = low_of 4000 (f.arriving ++ leaving_rules site) f.forwarded (at_most_more 3000 4000 (f.arriving ++ leaving_rules site) (omega arith) two_low)
          (at_most 3000 4000 f.forwarded (omega arith) f.forwarded_list.list.numbered)

      in_order : are_ordered (f.arriving ++ leaving_rules site ++ f.forwarded ++ f.sent) ≡ true
      in_order =
          ordered_both 4000 (f.arriving ++ leaving_rules site ++ f.forwarded) f.sent
          (ordered_both 3000 (f.arriving ++ leaving_rules site) f.forwarded
          (ordered_both 1000 f.arriving (leaving_rules site) (same_ordered 1000 f.arriving f.arriving_list.list.numbered) refl
          (at_most 1000 1000 f.arriving (omega arith) f.arriving_list.list.numbered) (leaving_high site))
          (same_ordered 3000 f.forwarded f.forwarded_list.list.numbered) two_low (at_least 3000 3000 f.forwarded (omega arith) f.forwarded_list.list.numbered))
          (same_ordered 4000 f.sent f.sent_list.list.numbered) three_low (at_least 4000 4000 f.sent (omega arith) f.sent_list.list.numbered)

      low : AtMost 4000 (f.arriving ++ leaving_rules site ++ f.forwarded ++ f.sent)
      low = low_of 4000 (f.arriving ++ leaving_rules site ++ f.forwarded) f.sent three_low (at_most 4000 4000 f.sent (omega arith) f.sent_list.list.numbered)

-- The whole

lookup_low : AtMost 5200 lookup_rules
lookup_low =
    let P : IpfwRule → Type 0 = λ (r : IpfwRule). r.number ≤ 5200 in
    All-cons P looked_up (tags_arriving ∷ goes_on ∷ []) (omega arith) (All-cons P tags_arriving (goes_on ∷ []) (omega arith) (All-cons P goes_on [] (omega arith) (All-nil P)))

module _ (site : Site) (tables : Tables) (c : IpfwConfig) (plan : Plan site tables c) where
  abbrev dst_rules : List IpfwRule
  dst_rules = destination_rules 0 plan.destinations

  ends_ordered : are_ordered (for_ends site tables c plan) ≡ true
  ends_ordered =
      let numbered = sources_numbered (length plan.destinations) 0 plan.sources in
      let low = destinations_low 0 plan.destinations (omega (arith, plan.ends.few_destinations)) in
      ordered_both 60000 dst_rules (for_sources site tables c plan) (destinations_ordered 0 plan.destinations) (same_ordered 60000 (for_sources site tables c plan) numbered)
      (All-weaker (λ (r : IpfwRule). r.number < 60000) (λ (r : IpfwRule). r.number ≤ 60000) (λ r lt. omega (arith, lt)) dst_rules low)
      (at_least 60000 60000 (for_sources site tables c plan) (omega arith) numbered)

  sent_ordered : are_ordered (for_sent site tables c plan) ≡ true
  sent_ordered =
      let numbered = plan.rules.sent_list.list.numbered in
      ordered_both 7000 plan.rules.sent (for_ends site tables c plan) (same_ordered 7000 plan.rules.sent numbered) ends_ordered
      (at_most 7000 7000 plan.rules.sent (omega arith) numbered) (above_least 7000 (for_ends site tables c plan) (ends_above site tables c plan))

  rest_ordered : are_ordered (rest site tables c plan) ≡ true
  rest_ordered =
      let numbered = plan.rules.arriving_list.list.numbered in
      ordered_both 6000 plan.rules.arriving (for_sent site tables c plan) (same_ordered 6000 plan.rules.arriving numbered) sent_ordered
      (at_most 6000 6000 plan.rules.arriving (omega arith) numbered) (above_least 6000 (for_sent site tables c plan) (sent_above site tables c plan))

  rest_high : AtLeast 5200 (rest site tables c plan)
  rest_high = All-append (λ (r : IpfwRule). 5200 ≤ r.number) plan.rules.arriving (for_sent site tables c plan)
      (at_least 6000 5200 plan.rules.arriving (omega arith) plan.rules.arriving_list.list.numbered)
      (All-weaker (λ (r : IpfwRule). 6000 < r.number) (λ (r : IpfwRule). 5200 ≤ r.number) (λ r lt. omega (arith, lt)) (for_sent site tables c plan) (sent_above site tables c plan))

  pub ordered : are_ordered c.rules ≡ true
  ordered =
      let g = guard_ordered site plan.packet plan.behind plan.rules.guard plan.rules.guarded in
      ap are_ordered (grouped site tables c plan)
      ∙ ordered_both 4000 plan.rules.guard (lookup_rules ++ rest site tables c plan) g.0
      (ordered_both 5200 lookup_rules (rest site tables c plan) refl rest_ordered lookup_low rest_high) g.1
      (above_least 4000 (lookup_rules ++ rest site tables c plan) (lookup_above 4000 (rest site tables c plan) (omega arith) (rest_above site tables c plan)))
