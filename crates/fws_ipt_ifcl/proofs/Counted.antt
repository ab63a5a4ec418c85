-- The numbers at the places of the diagram, and that they are right.
use Rattle.std.proofs.Common.{◌≡◌, ℕ, zero, suc, ◌+◌, ◌<◌, ◌≤◌, Bool, true, ◌&&◌, nat_lt, slice_get, Option, Some, None, is_some, List, [], ◌∷◌, ◌++◌, length, map, take, drop, get_or, sum, arith, refl, sym, ap, ◌∙◌, subst, append_assoc, length-append}
use Rattle.std.proofs.lemmas.Bool.{false≢true, lt-ltb, and_from}
use Rattle.std.proofs.lemmas.List.Folds.{list_all-append}
use Rattle.std.proofs.lemmas.List.Sums.{sum_by-cons}
use Rattle.std.proofs.Math.Seq.{drop-append_seam}
use Rattle.std.specs.List.{list_all}
use Rattle.fws_net.specs.declared.site.Site.{Site}
use Rattle.fws_ifcl.specs.declared.diagram.Rule.{Rule}
use Rattle.fws_ifcl.specs.declared.diagram.Spot.{Spot}
use Rattle.fws_ifcl.specs.Spots.{numbers_at, are_spots_of}
use Rattle.fws_ifcl_rules.specs.UsedPlaces.{spots_from, untold, first_told, are_below, FitBeside, TellsOfUses}
use Rattle.fws_ipt.specs.declared.config.IptChain.{IptChain}
use Rattle.fws_ipt.specs.declared.config.IptConfig.{IptConfig}
use Rattle.fws_ipt.specs.declared.config.IptRule.{IptRule}
use Rattle.fws_ipt.specs.declared.config.IptTable.TheVariants.{Nat}
use Rattle.fws_ipt.specs.Refusals.{width_of, head_width}
use Rattle.fws_ipt.specs.Uses.{first_number}
use Rattle.fws_ipt_ifcl.specs.declared.side.SideTest.TheVariants.{Each}
use Rattle.fws_ipt_ifcl.specs.Blocks.{unfolded}
use Rattle.fws_ipt_ifcl.specs.Diagram.{headed, unfolded_all, chain_for, is_on_source}
use Rattle.fws_ipt_ifcl.specs.Kept.{rule_count}
use Rattle.fws_ipt_ifcl.specs.Placed.{placed_of, rules_told, chain_told, chains_told, spots_of}
use Rattle.fws_ipt_ifcl.proofs.EnteredTold.{AreAllNumbered}
use Rattle.fws_ipt_ifcl.proofs.Files.{same_item, no_item}
use Rattle.fws_ipt_ifcl.proofs.Numbering.{numbered, none_untold}
use Rattle.fws_ipt_ifcl.proofs.Widths.{headed_width}

-- Numbers at places

abbrev all_told : Site → List IptChain → List (List (List ℕ))
all_told site chains = [] ∷ [] ∷ [] ∷ chains_told site 0 chains

-- what is beside the rules of a chain
told_at : (site : Site) (n : ℕ) (chains : List IptChain) (c : ℕ) (chain : IptChain) → slice_get chains c ≡ Some chain
    → get_or (chains_told site n chains) c [] ≡ chain_told site (n + first_number chains c) chain
told_at site n [] c chain is = absurd (no_item chain is)
told_at site n (x ∷ xs) zero chain is =
    let same : n ≡ n + 0 = omega arith in
    ap (chain_told site n) (same_item x chain is) ∙ ap (λ m. chain_told site m chain) same
told_at site n (x ∷ xs) (suc c) chain is =
    let both : first_number (x ∷ xs) (suc c) ≡ length x.rules + first_number xs c = sum_by-cons (λ n. n) (length x.rules) (map (λ (chain : IptChain). length chain.rules) (take c xs)) in
    let same : (n + length x.rules) + first_number xs c ≡ n + first_number (x ∷ xs) (suc c) = omega (arith, both) in
    told_at site (n + length x.rules) xs c chain is ∙ ap (λ m. chain_told site m chain) same

module _ (law : TellsOfUses) (site : Site) (c : IptConfig) where
  -- the diagram's own chains have none
  pub none_first : numbers_at (spots_of site c) (record { chain = 0; rule = 0 }) ≡ []
  none_first = law.beside (all_told site c.chains) 0 0

  pub none_second : numbers_at (spots_of site c) (record { chain = 1; rule = 0 }) ≡ []
  none_second = law.beside (all_told site c.chains) 1 0

  pub none_third : numbers_at (spots_of site c) (record { chain = 2; rule = 0 }) ≡ []
  none_third = law.beside (all_told site c.chains) 2 0

  -- the file's chains have what is beside their rules
  file_told : (n : ℕ) (chain : IptChain) → slice_get c.chains n ≡ Some chain → (i : ℕ)
      → numbers_at (spots_of site c) (record { chain = n + 3; rule = i }) ≡ get_or (chain_told site (first_number c.chains n) chain) i []
  file_told n chain is i =
      let behind : n + 3 ≡ suc (suc (suc n)) = omega arith in
      let whole : 0 + first_number c.chains n ≡ first_number c.chains n = omega arith in
      law.beside (all_told site c.chains) (n + 3) i
      ∙ ap (λ k. get_or (get_or (all_told site c.chains) k []) i []) behind
      ∙ ap (λ l. get_or l i []) (told_at site 0 c.chains n chain is ∙ ap (λ m. chain_told site m chain) whole)

  pub all_numbered : AreAllNumbered site c.chains (spots_of site c)
  all_numbered n chain is =
      let first = untold (headed chain.table chain.policy) in
      let at = head_width chain.table chain.policy in
      let number = first_number c.chains n in
      let last = rules_told site (is_on_source chain.name) at number chain.rules in
      let long : length first ≡ at = law.untold_many (headed chain.table chain.policy) ∙ headed_width chain.table chain.policy in
      numbered law site (is_on_source chain.name) (λ at. numbers_at (spots_of site c) (record { chain = n + 3; rule = at })) (chain_told site number chain) (file_told n chain is) at number chain.rules
      (ap (λ k. drop k (first ++ last)) (sym long) ∙ drop-append_seam first last)

  some_head : (policy : Option Bool) → is_some policy ≡ true → 0 < length (headed Nat policy)
  some_head None some = absurd (false≢true some)
  some_head (Some accepts) some = omega arith

  -- the rule ahead of those of nat has none
  pub none_ahead : (n : ℕ) (chain : IptChain) → slice_get c.chains n ≡ Some chain → Nat ≡ chain.table → is_some chain.policy ≡ true
      → numbers_at (spots_of site c) (record { chain = n + 3; rule = 0 }) ≡ []
  none_ahead n chain is table some =
      let last = rules_told site (is_on_source chain.name) (head_width chain.table chain.policy) (first_number c.chains n) chain.rules in
      file_told n chain is 0
      ∙ none_untold (headed chain.table chain.policy) last 0 (subst (λ t. 0 < length (headed t chain.policy)) table (some_head chain.policy some))

-- Right numbers

below_joined : (m : ℕ) (xs ys : List (List ℕ)) → are_below m xs ≡ true → are_below m ys ≡ true → are_below m (xs ++ ys) ≡ true
below_joined m xs ys first second = list_all-append (list_all (λ n. nat_lt n m)) xs ys ∙ and_from (are_below m xs) (are_below m ys) first second

untold_below : (m : ℕ) (rules : List Rule) → are_below m (untold rules) ≡ true
untold_below m [] = refl
untold_below m (r ∷ rs) = untold_below m rs

first_below : (m n : ℕ) (rules : List Rule) → n < m → are_below m (first_told n rules) ≡ true
first_below m n [] lt = refl
first_below m n (r ∷ rs) lt = and_from (nat_lt n m && true) (are_below m (untold rs)) (and_from (nat_lt n m) true (lt-ltb n m lt) refl) (untold_below m rs)

rules_below : (site : Site) (on_source : Bool) (at n m : ℕ) (rules : List IptRule) → n + length rules ≤ m → are_below m (rules_told site on_source at n rules) ≡ true
rules_below site on_source at n m [] le = refl
rules_below site on_source at n m (r ∷ rs) le =
    let block = unfolded Each site on_source at r.cond r.go in
    let next = at + width_of (length site.faces) r.go in
    below_joined m (first_told n block) (rules_told site on_source next (suc n) rs) (first_below m n block (omega (arith, le))) (rules_below site on_source next (suc n) m rs (omega (arith, le)))

chains_below : (site : Site) (n m : ℕ) (chains : List IptChain) → n + sum (map (λ (chain : IptChain). length chain.rules) chains) ≤ m → list_all (are_below m) (chains_told site n chains) ≡ true
chains_below site n m [] le = refl
chains_below site n m (chain ∷ chains) le =
    let counts = map (λ (chain : IptChain). length chain.rules) chains in
    let both : sum (length chain.rules ∷ counts) ≡ length chain.rules + sum counts = sum_by-cons (λ n. n) (length chain.rules) counts in
    let head = untold (headed chain.table chain.policy) in
    let on_source = is_on_source chain.name in
    let at = head_width chain.table chain.policy in
    and_from (are_below m (chain_told site n chain)) (list_all (are_below m) (chains_told site (n + length chain.rules) chains))
    (below_joined m head (rules_told site on_source at n chain.rules) (untold_below m (headed chain.table chain.policy)) (rules_below site on_source at n m chain.rules (omega (arith, le, both))))
    (chains_below site (n + length chain.rules) m chains (omega (arith, le, both)))

module _ (law : TellsOfUses) (site : Site) where
  rules_many : (on_source : Bool) (at n : ℕ) (rules : List IptRule) → length (rules_told site on_source at n rules) ≡ length (unfolded_all Each site on_source at rules)
  rules_many on_source at n [] = refl
  rules_many on_source at n (r ∷ rs) =
      let block = unfolded Each site on_source at r.cond r.go in
      let next = at + width_of (length site.faces) r.go in
      length-append (first_told n block) (rules_told site on_source next (suc n) rs)
      ∙ ap (λ k. k + length (rules_told site on_source next (suc n) rs)) (law.first_many n block)
      ∙ ap (λ k. length block + k) (rules_many on_source next (suc n) rs)
      ∙ sym (length-append block (unfolded_all Each site on_source next rs))

  chain_many : (n : ℕ) (chain : IptChain) → length (chain_told site n chain) ≡ length (chain_for Each site chain).rules
  chain_many n chain =
      let head = headed chain.table chain.policy in
      let on_source = is_on_source chain.name in
      let at = head_width chain.table chain.policy in
      length-append (untold head) (rules_told site on_source at n chain.rules)
      ∙ ap (λ k. k + length (rules_told site on_source at n chain.rules)) (law.untold_many head)
      ∙ ap (λ k. length head + k) (rules_many on_source at n chain.rules)
      ∙ sym (length-append head (unfolded_all Each site on_source at chain.rules))

  chains_many : (n : ℕ) (chains : List IptChain) → FitBeside (map (chain_for Each site) chains) (chains_told site n chains)
  chains_many n [] = tt
  chains_many n (chain ∷ chains) =
      let same : length (chain_told site n chain) ≡ length (chain_for Each site chain).rules = chain_many n chain in
      (omega (arith, same), chains_many (n + length chain.rules) chains)

  pub spots_right : (c : IptConfig) → are_spots_of (placed_of site c) (rule_count c) (spots_of site c) ≡ true
  spots_right c =
      law.right (placed_of site c) (rule_count c) (all_told site c.chains) (chains_below site 0 (rule_count c) c.chains (omega arith))
      (omega arith, (omega arith, (omega arith, chains_many 0 c.chains)))

  -- Spots that are put

  -- a rule more
  pub rule_put : (on_source : Bool) (chain at behind next n : ℕ) (a b : List Spot) (r : IptRule) (rs : List IptRule)
      → behind ≡ at + width_of (length site.faces) r.go → next ≡ n + 1 → ((rules : List Rule) → at + length rules ≡ behind → b ≡ a ++ spots_from chain at (first_told n rules))
      → length (unfolded Each site on_source at r.cond r.go) ≡ width_of (length site.faces) r.go
      → b ++ spots_from chain behind (rules_told site on_source behind next rs) ≡ a ++ spots_from chain at (rules_told site on_source at n (r ∷ rs))
  rule_put on_source chain at behind next n a b r rs far more put wide =
      let block = unfolded Each site on_source at r.cond r.go in
      let later = at + width_of (length site.faces) r.go in
      let rest = rules_told site on_source later (suc n) rs in
      let many : length (first_told n block) ≡ length block = law.first_many n block in
      let one : next ≡ suc n = omega (arith, more) in
      ap (λ l. l ++ spots_from chain behind (rules_told site on_source behind next rs)) (put block (omega (arith, far, wide)))
      ∙ ap (λ k. (a ++ spots_from chain at (first_told n block)) ++ spots_from chain k (rules_told site on_source k next rs)) far
      ∙ ap (λ k. (a ++ spots_from chain at (first_told n block)) ++ spots_from chain later (rules_told site on_source later k rs)) one
      ∙ append_assoc a (spots_from chain at (first_told n block)) (spots_from chain later rest)
      ∙ ap (λ l. a ++ l) (sym (law.joined chain at later (first_told n block) rest (omega (arith, many, wide))))

  -- those of a chain
  pub chain_put : (at n : ℕ) (a b : List Spot) (chain : IptChain) → b ≡ a ++ spots_from at (head_width chain.table chain.policy)
      (rules_told site (is_on_source chain.name) (head_width chain.table chain.policy) n chain.rules)
      → b ≡ a ++ spots_from at 0 (chain_told site n chain)
  chain_put at n a b chain put =
      let head = headed chain.table chain.policy in
      let first = head_width chain.table chain.policy in
      let rest = rules_told site (is_on_source chain.name) first n chain.rules in
      let long : length (untold head) ≡ length head = law.untold_many head in
      let wide : length head ≡ first = headed_width chain.table chain.policy in
      put
      ∙ ap (λ l. a ++ (l ++ spots_from at first rest)) (sym (law.no_spots at 0 head))
      ∙ ap (λ l. a ++ l) (sym (law.joined at 0 first (untold head) rest (omega (arith, long, wide))))
