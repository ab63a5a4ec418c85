-- What built-in chains hold is nothing to a walk through chains of the user's.
use Rattle.std.proofs.Common.{◌≡◌, ℕ, zero, suc, Bool, true, false, cond, nat_eq, slice_get, is_none, List, [], ◌∷◌, refl, ap, ◌∙◌}
use Rattle.std.proofs.lemmas.Bool.{false≢true, and_parts}
use Rattle.std.specs.List.{list_all, list_any}
use Rattle.std.specs.Option.{option_map_or}
use Rattle.fws_net.specs.Conditions.{holds}
use Rattle.fws_net.specs.declared.packet.Packet.{Packet}
use Rattle.fws_net.specs.declared.site.Site.{Site}
use Rattle.fws_ipt.specs.declared.config.IptChain.{IptChain}
use Rattle.fws_ipt.specs.declared.config.IptGo.{IptGo}
use Rattle.fws_ipt.specs.declared.config.IptGo.TheVariants as acts
use Rattle.fws_ipt.specs.declared.config.IptRule.{IptRule}
use Rattle.fws_ipt.specs.declared.hook.Hook.{Hook}
use Rattle.fws_ipt.specs.declared.passage.ChainEnd.{ChainEnd}
use Rattle.fws_ipt.specs.declared.passage.ChainEnd.TheVariants as ends
use Rattle.fws_ipt.specs.declared.passage.Passage.{Passage}
use Rattle.fws_ipt.specs.Walk.{act, chain_walk, rules_at, rules_walk, view_at, with_mark}

-- a chain of the user's, in any table
abbrev pub is_users : List IptChain → ℕ → Bool
is_users chains c = option_map_or (λ (chain : IptChain). is_none chain.policy) (slice_get chains c) false

-- the act leads to chains of the user's alone
abbrev pub stays : List IptChain → IptGo → Bool
stays chains (acts.Goto c) = is_users chains c
stays chains (acts.Jump c) = false
stays chains _ = true

abbrev pub all_stay : List IptChain → List IptRule → Bool
all_stay chains rules = list_all (λ (r : IptRule). stays chains r.go) rules

-- so do the rules of each chain of the user's
abbrev pub Closed : List IptChain → Type 0
Closed chains = (c : ℕ) → is_users chains c ≡ true → all_stay chains (rules_at chains c) ≡ true

-- the two have the same chains of the user's
abbrev pub SameUsers : List IptChain → List IptChain → Type 0
SameUsers chains others = (c : ℕ) → is_users chains c ≡ true → rules_at chains c ≡ rules_at others c

module _ (chains others : List IptChain) (closed : Closed chains) (same : SameUsers chains others) (site : Site) (p : Packet) (is_est : Bool) (hook : Hook) where
  -- an act that stays among them does the same
  act_same : (enter other : ℕ → Passage → ChainEnd) → ((c : ℕ) → is_users chains c ≡ true → (m : Passage) → enter c m ≡ other c m)
      → (next later : Passage → ChainEnd) → ((m : Passage) → next m ≡ later m)
      → (go : IptGo) → stays chains go ≡ true → (m : Passage) → act enter next site p hook go m ≡ act other later site p hook go m
  act_same enter other entered next later goes acts.Accept stay m = refl
  act_same enter other entered next later goes acts.Drop stay m = refl
  act_same enter other entered next later goes acts.Return stay m = refl
  act_same enter other entered next later goes acts.Next stay m = goes m
  act_same enter other entered next later goes (acts.Jump c) stay m = absurd (false≢true stay)
  act_same enter other entered next later goes (acts.Goto c) stay m = entered c stay m
  act_same enter other entered next later goes (acts.Mark v) stay m = goes (with_mark v m)
  act_same enter other entered next later goes (acts.Source e) stay m = ap (λ (f : Passage → ChainEnd). act other f site p hook (acts.Source e) m) (λ i n. goes n i)
  act_same enter other entered next later goes acts.Masquerade stay m = ap (λ (f : Passage → ChainEnd). act other f site p hook acts.Masquerade m) (λ i n. goes n i)
  act_same enter other entered next later goes (acts.Dest e) stay m = ap (λ (f : Passage → ChainEnd). act other f site p hook (acts.Dest e) m) (λ i n. goes n i)
  act_same enter other entered next later goes (acts.Redirect port) stay m = ap (λ (f : Passage → ChainEnd). act other f site p hook (acts.Redirect port) m) (λ i n. goes n i)
  act_same enter other entered next later goes (acts.Netmap net) stay m = ap (λ (f : Passage → ChainEnd). act other f site p hook (acts.Netmap net) m) (λ i n. goes n i)

  rules_same : (enter other : ℕ → Passage → ChainEnd) → ((c : ℕ) → is_users chains c ≡ true → (m : Passage) → enter c m ≡ other c m)
      → (rules : List IptRule) → all_stay chains rules ≡ true → (m : Passage) → rules_walk enter site p is_est hook rules m ≡ rules_walk other site p is_est hook rules m
  rules_same enter other entered [] stay m = refl
  rules_same enter other entered (r ∷ rs) stay m =
      let both = and_parts (stays chains r.go) (all_stay chains rs) stay in
      let here = act_same enter other entered (rules_walk enter site p is_est hook rs) (rules_walk other site p is_est hook rs) (rules_same enter other entered rs both.1) r.go both.0 m in
      let later = rules_same enter other entered rs both.1 m in
      (λ i. cond (holds r.cond (view_at site is_est hook m)) (here i) (later i))

  pub chain_same : (n : ℕ) (path : List ℕ) (c : ℕ) → is_users chains c ≡ true → (m : Passage)
      → chain_walk chains site p is_est hook n path c m ≡ chain_walk others site p is_est hook n path c m
  chain_same zero path c users m = refl
  chain_same (suc n) path c users m =
      let walked = rules_same (chain_walk chains site p is_est hook n (c ∷ path)) (chain_walk others site p is_est hook n (c ∷ path))
      (λ d is w. chain_same n (c ∷ path) d is w) (rules_at chains c) (closed c users) m in
      let rules = ap (λ rs. rules_walk (chain_walk others site p is_est hook n (c ∷ path)) site p is_est hook rs m) (same c users) in
      let both = walked ∙ rules in
      (λ i. cond (list_any (nat_eq c) path) ends.Dropped (both i))

  -- a rule of a built-in chain that stays among them does the same
  pub go_same : (n : ℕ) (path : List ℕ) (next : Passage → ChainEnd) (go : IptGo) → stays chains go ≡ true → (m : Passage)
      → act (chain_walk chains site p is_est hook n path) next site p hook go m ≡ act (chain_walk others site p is_est hook n path) next site p hook go m
  go_same n path next go stay m = act_same (chain_walk chains site p is_est hook n path) (chain_walk others site p is_est hook n path)
      (λ c is w. chain_same n path c is w) next next (λ w. refl) go stay m
