-- Without loops each path ends, and sizes and walks count no deeper than it.
use Rattle.std.proofs.Common.{◌≡◌, ℕ, zero, suc, ◌+◌, ◌<◌, ◌≤◌, Bool, true, false, cond, eqb, Some, List, [], ◌∷◌, length, map, sum, Contains, arith, refl, sym, ap, ◌∙◌, subst, ⊎_elim, eqb-true}
use Rattle.std.proofs.Math.Path.{fun_ext}
use Rattle.std.specs.Prelude.{is_none, ◌&&◌}
use Rattle.std.specs.List.{list_any, list_all}
use Rattle.std.specs.Option.{option_map_or}
use Rattle.std.proofs.lemmas.Bool.{false≢true, cases_lt, or_cases, and_parts, false_from_ne_true}
use Rattle.std.proofs.lemmas.List.Elements.{Contains-append_left, Contains-append_right, Contains-append_cases}
use Rattle.std.proofs.lemmas.Option.{slice_get_past}
use Rattle.fws_net.specs.declared.packet.Packet.{Packet}
use Rattle.fws_net.specs.declared.site.Site.{Site}
use Rattle.fws_net.specs.Conditions.{holds}
use Rattle.fws_ipt.specs.declared.config.IptTable.{IptTable}
use Rattle.fws_ipt.specs.declared.config.IptGo.{IptGo}
use Rattle.fws_ipt.specs.declared.config.IptGo.TheVariants.{Jump, Goto}
use Rattle.fws_ipt.specs.declared.config.IptRule.{IptRule}
use Rattle.fws_ipt.specs.declared.config.IptChain.{IptChain}
use Rattle.fws_ipt.specs.declared.hook.Hook.{Hook}
use Rattle.fws_ipt.specs.declared.passage.Passage.{Passage}
use Rattle.fws_ipt.specs.declared.passage.ChainEnd.{ChainEnd}
use Rattle.fws_ipt.specs.declared.passage.ChainEnd.TheVariants.{Dropped, Through}
use Rattle.fws_ipt.specs.Loops.{Reaches, names, names_first, NamesChains, FittingNamesChains, SizesStandStill, SizesUnfold, WalksStandStill, WalksUnfold}
use Rattle.fws_ipt.specs.Refusals.{named_by, all_named, named_in, chain_width, width_at, size_within}
use Rattle.fws_ipt.specs.Soundness.{is_user_chain, fits, chain_fits}
use Rattle.fws_ipt.specs.Walk.{is_table, back, act, view_at, rules_at, rules_walk, chain_walk}
use Rattle.fws_ipt.proofs.Loops.{only_chains_name, Passed, none_passed, one_passed, all_passed, no_loop_reached}

-- How far paths go

-- each path that begins at the chain comes within so many steps to a number that is no chain, if it doesn't end before
abbrev EndsWithin : List IptChain → ℕ → ℕ → Type 0
EndsWithin chains zero c = length chains ≤ c
EndsWithin chains (suc n) c = (d : ℕ) → Contains (named_in chains c) d → EndsWithin chains n d

-- each chain of the path reaches this one
abbrev Above : List IptChain → List ℕ → ℕ → Type 0
Above chains path c = (q : ℕ) → list_any (eqb q) path ≡ true → Reaches chains q c

abbrev Acyclic : List IptChain → Type 0
Acyclic chains = (c : ℕ) → Reaches chains c c → ⊥

not_above : (chains : List IptChain) → Acyclic chains → (path : List ℕ) (c : ℕ) → Above chains path c → list_any (eqb c) path ≡ false
not_above chains none path c above = false_from_ne_true (list_any (eqb c) path) (λ on. none c (above c on))

reach_on : {chains : List IptChain} {a b : ℕ} (c : ℕ) → Reaches chains a b → Contains (named_in chains b) c → Reaches chains a c
reach_on c (names e) last = names_first e (names last)
reach_on c (names_first e r) last = names_first e (reach_on c r last)

above_next : (chains : List IptChain) (path : List ℕ) (c d : ℕ) → Above chains path c → Contains (named_in chains c) d → Above chains (c ∷ path) d
above_next chains path c d above e q h =
    ⊎_elim (λ same. names (subst (λ x. Contains (named_in chains x) d) (sym (eqb-true q c same)) e)) (λ on. reach_on d (above q on) e)
    (or_cases (eqb q c) (list_any (eqb q) path) h)

ends_within : (chains : List IptChain) → Acyclic chains → (n : ℕ) (via : List ℕ) → Passed chains via → length chains ≤ n + length via
    → (c : ℕ) → Above chains via c → EndsWithin chains n c
ends_within chains none zero via passed le c above =
    let few : length chains ≤ length via = omega arith in
    ⊎_elim (λ lt. absurd (all_passed chains via c passed few lt (not_above chains none via c above))) (λ past. past) (cases_lt c (length chains))
ends_within chains none (suc n) via passed le c above = λ d e.
    let more : length chains ≤ n + length (c ∷ via) = omega arith in
    ends_within chains none n (c ∷ via) (one_passed chains via c passed (only_chains_name chains c d e) (not_above chains none via c above)) more d
    (above_next chains via c d above e)

all_end : (chains : List IptChain) → Acyclic chains → (c : ℕ) → EndsWithin chains (length chains) c
all_end chains none c =
    let enough : length chains ≤ length chains + 0 = omega arith in
    ends_within chains none (length chains) [] (none_passed chains) enough c (λ q h. absurd (false≢true h))

-- Sizes

size_past : (f : ℕ) (chains : List IptChain) (n c : ℕ) → length chains ≤ c → size_within f chains n c ≡ 0
size_past f chains zero c le = refl
size_past f chains (suc n) c le =
    ap (λ o. option_map_or (chain_width f) o 0 + sum (map (size_within f chains n) (all_named (option_map_or (λ chain. chain.rules) o [])))) (slice_get_past chains c le)

map_same : (g h : ℕ → ℕ) (xs : List ℕ) → ((x : ℕ) → Contains xs x → g x ≡ h x) → map g xs ≡ map h xs
map_same g h [] same = refl
map_same g h (x ∷ xs) same =
    let first : g x ≡ h x = same x (Contains-append_left (x ∷ []) xs x (0, omega arith, refl)) in
    let more : map g xs ≡ map h xs = map_same g h xs (λ y at. same y (Contains-append_right (x ∷ []) xs y at)) in
    cc

size_same : (f : ℕ) (chains : List IptChain) (steps n k c : ℕ) → EndsWithin chains steps c → steps ≤ n → steps ≤ k → size_within f chains n c ≡ size_within f chains k c
size_same f chains zero n k c past le more = size_past f chains n c past ∙ sym (size_past f chains k c past)
size_same f chains (suc steps) zero k c ends le more = absurd (omega arith)
size_same f chains (suc steps) (suc n) zero c ends le more = absurd (omega arith)
size_same f chains (suc steps) (suc n) (suc k) c ends le more =
    let less : steps ≤ n = omega arith in
    let less_too : steps ≤ k = omega arith in
    ap (λ sizes. width_at f chains c + sum sizes)
    (map_same (size_within f chains n) (size_within f chains k) (named_in chains c) (λ d e. size_same f chains steps n k d (ends d e) less less_too))

pub sizes_stand_still : SizesStandStill
sizes_stand_still f chains none n c le =
    let all : length chains ≤ length chains = omega arith in
    size_same f chains (length chains) n (length chains) c (all_end chains (no_loop_reached chains none) c) le all

pub sizes_unfold : SizesUnfold
sizes_unfold f chains none c =
    let more : length chains ≤ suc (length chains) = omega arith in
    sym (sizes_stand_still f chains none (suc (length chains)) c more)

-- Walks

act_same : (enter other : ℕ → Passage → ChainEnd) (next : Passage → ChainEnd) (site : Site) (p : Packet) (hook : Hook) (go : IptGo) (m : Passage)
    → ((d : ℕ) → named_by go ≡ Some d → enter d m ≡ other d m) → act enter next site p hook go m ≡ act other next site p hook go m
act_same enter other next site p hook (Jump d) m same = ap (back next) (same d refl)
act_same enter other next site p hook (Goto d) m same = same d refl
act_same enter other next site p hook _ m same = refl

rules_same : (enter other : ℕ → Passage → ChainEnd) (site : Site) (p : Packet) (is_est : Bool) (hook : Hook) (rules : List IptRule)
    → ((d : ℕ) (m : Passage) → Contains (all_named rules) d → enter d m ≡ other d m)
    → (m : Passage) → rules_walk enter site p is_est hook rules m ≡ rules_walk other site p is_est hook rules m
rules_same enter other site p is_est hook [] same m = refl
rules_same enter other site p is_est hook (r ∷ rs) same m =
    let here = option_map_or (λ c. c ∷ []) (named_by r.go) [] in
    let rest : rules_walk enter site p is_est hook rs ≡ rules_walk other site p is_est hook rs =
    fun_ext (rules_same enter other site p is_est hook rs (λ d n at. same d n (Contains-append_right here (all_named rs) d at))) in
    let acts = act_same enter other (rules_walk other site p is_est hook rs) site p hook r.go m
    (λ d is. same d m (Contains-append_left here (all_named rs) d (subst (λ o. Contains (option_map_or (λ c. c ∷ []) o []) d) (sym is) (0, omega arith, refl)))) in
    ap (λ next. cond (holds r.cond (view_at site is_est hook m)) (act enter next site p hook r.go m) (next m)) rest
    ∙ ap (λ end. cond (holds r.cond (view_at site is_est hook m)) end (rules_walk other site p is_est hook rs m)) acts

module _ (chains : List IptChain) (site : Site) (p : Packet) (is_est : Bool) (hook : Hook) (none : Acyclic chains) (known : NamesChains chains) where
  entered : (n : ℕ) (path : List ℕ) (c : ℕ) (m : Passage) → Above chains path c
      → chain_walk chains site p is_est hook (suc n) path c m
      ≡ rules_walk (chain_walk chains site p is_est hook n (c ∷ path)) site p is_est hook (rules_at chains c) m
  entered n path c m above =
      ap (λ on. cond on Dropped (rules_walk (chain_walk chains site p is_est hook n (c ∷ path)) site p is_est hook (rules_at chains c) m)) (not_above chains none path c above)

  -- the walk through a chain doesn't hang on the path to it, nor on how many more chains than there are may be entered
  walk_same : (steps n k : ℕ) (path other : List ℕ) (c : ℕ) (m : Passage) → EndsWithin chains steps c → c < length chains → steps ≤ n → steps ≤ k
      → Above chains path c → Above chains other c → chain_walk chains site p is_est hook n path c m ≡ chain_walk chains site p is_est hook k other c m
  walk_same zero n k path other c m ends lt le more above above_too = absurd (omega arith)
  walk_same (suc steps) zero k path other c m ends lt le more above above_too = absurd (omega arith)
  walk_same (suc steps) (suc n) zero path other c m ends lt le more above above_too = absurd (omega arith)
  walk_same (suc steps) (suc n) (suc k) path other c m ends lt le more above above_too =
      let less : steps ≤ n = omega arith in
      let less_too : steps ≤ k = omega arith in
      entered n path c m above
      ∙ rules_same (chain_walk chains site p is_est hook n (c ∷ path)) (chain_walk chains site p is_est hook k (c ∷ other)) site p is_est hook (rules_at chains c)
      (λ d here e. walk_same steps n k (c ∷ path) (c ∷ other) d here (ends d e) (known c d e) less less_too (above_next chains path c d above e) (above_next chains other c d above_too e)) m
      ∙ sym (entered k other c m above_too)

  -- a number that is no chain is walked through
  walk_past : (n c : ℕ) (m : Passage) → 0 < n → length chains ≤ c → chain_walk chains site p is_est hook n [] c m ≡ Through m
  walk_past zero c m lt past = absurd (omega arith)
  walk_past (suc n) c m lt past =
      ap (λ o. rules_walk (chain_walk chains site p is_est hook n (c ∷ [])) site p is_est hook (option_map_or (λ chain. chain.rules) o []) m) (slice_get_past chains c past)

  walk_still : 0 < length chains → (n c : ℕ) (m : Passage) → length chains ≤ n
      → chain_walk chains site p is_est hook n [] c m ≡ chain_walk chains site p is_est hook (length chains) [] c m
  walk_still some n c m le =
      let all : length chains ≤ length chains = omega arith in
      let positive : 0 < n = omega arith in
      ⊎_elim
      (λ lt. walk_same (length chains) n (length chains) [] [] c m (all_end chains none c) lt le all (λ q h. absurd (false≢true h)) (λ q h. absurd (false≢true h)))
      (λ past. walk_past n c m positive past ∙ sym (walk_past (length chains) c m some past))
      (cases_lt c (length chains))

  walk_unfolds : 0 < length chains → (c : ℕ) (m : Passage)
      → chain_walk chains site p is_est hook (length chains) [] c m
      ≡ rules_walk (chain_walk chains site p is_est hook (length chains) []) site p is_est hook (rules_at chains c) m
  walk_unfolds some c m =
      let all : length chains ≤ length chains = omega arith in
      let more : length chains ≤ suc (length chains) = omega arith in
      let nothing : (d : ℕ) → Above chains [] d = λ d q h. absurd (false≢true h) in
      sym (walk_still some (suc (length chains)) c m more)
      ∙ entered (length chains) [] c m (nothing c)
      ∙ rules_same (chain_walk chains site p is_est hook (length chains) (c ∷ [])) (chain_walk chains site p is_est hook (length chains) []) site p is_est hook (rules_at chains c)
      (λ d here e. walk_same (length chains) (length chains) (length chains) (c ∷ []) [] d here (all_end chains none d) (known c d e) all all
      (above_next chains [] c d (nothing c) e) (nothing d)) m

pub walks_stand_still : WalksStandStill
walks_stand_still chains site p is_est hook none known some = walk_still chains site p is_est hook (no_loop_reached chains none) known some

pub walks_unfold : WalksUnfold
walks_unfold chains site p is_est hook none known some = walk_unfolds chains site p is_est hook (no_loop_reached chains none) known some

-- Chains that rules name

user_known : (table : IptTable) (chains : List IptChain) (b : ℕ) → is_user_chain table chains b ≡ true → b < length chains
user_known table chains b h = ⊎_elim (λ lt. lt) past (cases_lt b (length chains))
  where
    past : length chains ≤ b → b < length chains
    past le =
        let found = ap (λ o. option_map_or (λ chain. is_table table chain.table && is_none chain.policy) o false) (slice_get_past chains b le) in
        absurd (false≢true (sym found ∙ h))

only_one : (c b : ℕ) → Contains (c ∷ []) b → c ≡ b
only_one c b (zero, lt, is) = is
only_one c b (suc k, lt, is) = absurd (omega arith)

none_named : (b : ℕ) → Contains {X = ℕ} [] b → ⊥
none_named b at = let lt : at.0 < 0 = at.1 in omega arith

rule_known : (table : IptTable) (chains : List IptChain) (go : IptGo) (b : ℕ) → fits table chains go ≡ true
    → Contains (option_map_or (λ c. c ∷ []) (named_by go) []) b → b < length chains
rule_known table chains (Jump c) b fit at = subst (λ x. x < length chains) (only_one c b at) (user_known table chains c fit)
rule_known table chains (Goto c) b fit at = subst (λ x. x < length chains) (only_one c b at) (user_known table chains c fit)
rule_known table chains _ b fit at = absurd (none_named b at)

rules_known : (table : IptTable) (chains : List IptChain) (rules : List IptRule) (b : ℕ) → list_all (λ rule. fits table chains rule.go) rules ≡ true
    → Contains (all_named rules) b → b < length chains
rules_known table chains [] b fit at = absurd (none_named b at)
rules_known table chains (r ∷ rs) b fit at =
    let both = and_parts (fits table chains r.go) (list_all (λ rule. fits table chains rule.go) rs) fit in
    ⊎_elim (rule_known table chains r.go b both.0) (rules_known table chains rs b both.1)
    (Contains-append_cases (option_map_or (λ c. c ∷ []) (named_by r.go) []) (all_named rs) b at)

chains_known : (all chains : List IptChain) (a b : ℕ) → list_all (chain_fits all) chains ≡ true → Contains (named_in chains a) b → b < length all
chains_known all [] a b fit at = absurd (none_named b at)
chains_known all (chain ∷ chains) zero b fit at = rules_known chain.table all chain.rules b (and_parts (chain_fits all chain) (list_all (chain_fits all) chains) fit).0 at
chains_known all (chain ∷ chains) (suc a) b fit at = chains_known all chains a b (and_parts (chain_fits all chain) (list_all (chain_fits all) chains) fit).1 at

pub fitting_names_chains : FittingNamesChains
fitting_names_chains c fit a b at = chains_known c.chains c.chains a b fit at
