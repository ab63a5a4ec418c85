-- Without loops each path ends, and sizes and walks count no deeper than it.
use Rattle.std.proofs.Common.{◌≡◌, ℕ, zero, suc, ◌+◌, ◌<◌, ◌≤◌, Bool, true, false, cond, eqb, nat_lt, ltb-true, Some, List, [], ◌∷◌, ◌++◌, length, map, sum, Contains, arith, refl, sym, ap, ◌∙◌, subst, ⊎_elim, eqb-true}
use Rattle.std.proofs.Math.Path.{fun_ext}
use Rattle.std.specs.Prelude.{◌&&◌}
use Rattle.std.specs.List.{list_any, list_all}
use Rattle.std.specs.Option.{option_map_or}
use Rattle.std.proofs.lemmas.Bool.{false≢true, cases_lt, or_cases, and_parts, false_from_ne_true}
use Rattle.std.proofs.lemmas.List.Elements.{Contains-append_left, Contains-append_right, Contains-append_cases}
use Rattle.std.proofs.lemmas.Option.{slice_get_past}
use Rattle.fws_net.specs.declared.packet.Packet.{Packet}
use Rattle.fws_net.specs.declared.connection.Kind.{Kind}
use Rattle.fws_net.specs.declared.site.Site.{Site}
use Rattle.fws_net.specs.declared.transit.Transit.{Transit}
use Rattle.fws_net.specs.Conditions.{holds}
use Rattle.fws_ifcl.specs.declared.diagram.Act.{Act}
use Rattle.fws_ifcl.specs.declared.diagram.Act.TheVariants.{Call, Goto}
use Rattle.fws_ifcl.specs.declared.diagram.Rule.{Rule}
use Rattle.fws_ifcl.specs.declared.diagram.Chain.{Chain}
use Rattle.fws_ifcl.specs.declared.diagram.Stage.{Stage}
use Rattle.fws_ifcl.specs.declared.step.ChainEnd.{ChainEnd}
use Rattle.fws_ifcl.specs.declared.step.ChainEnd.TheVariants.{Dropped, Through}
use Rattle.fws_ifcl.specs.Loops.{Reaches, names, names_first, NamesChains, OkDiagramsNameChains, SizesStandStill, SizesUnfold, UsesUnfold, WalksStandStill, WalksUnfold}
use Rattle.fws_ifcl.specs.Refusals.{named_by, all_named, named_in, size_within}
use Rattle.fws_ifcl.specs.Soundness.{act_ok, rules_ok, chain_ok, stage_ok}
use Rattle.fws_ifcl.specs.declared.diagram.Place.{Place}
use Rattle.fws_ifcl.specs.Uses.{used_back, used_behind, rules_used, chain_used}
use Rattle.fws_ifcl.specs.Walk.{sees, step_of, stepped, back, rules_at, rules_walk, chain_walk}
use Rattle.fws_ifcl.proofs.Loops.{only_chains_name, Passed, none_passed, one_passed, all_passed, no_loop_reached}

-- How far paths go

-- each path that begins at the chain comes within so many steps to a number that is no chain, if it doesn't end before
abbrev EndsWithin : List Chain → ℕ → ℕ → Type 0
EndsWithin chains zero c = length chains ≤ c
EndsWithin chains (suc n) c = (d : ℕ) → Contains (named_in chains c) d → EndsWithin chains n d

-- each chain of the path reaches this one
abbrev Above : List Chain → List ℕ → ℕ → Type 0
Above chains path c = (q : ℕ) → list_any (eqb q) path ≡ true → Reaches chains q c

abbrev Acyclic : List Chain → Type 0
Acyclic chains = (c : ℕ) → Reaches chains c c → ⊥

not_above : (chains : List Chain) → Acyclic chains → (path : List ℕ) (c : ℕ) → Above chains path c → list_any (eqb c) path ≡ false
not_above chains none path c above = false_from_ne_true (list_any (eqb c) path) (λ on. none c (above c on))

reach_on : {chains : List Chain} {a b : ℕ} (c : ℕ) → Reaches chains a b → Contains (named_in chains b) c → Reaches chains a c
reach_on c (names e) last = names_first e (names last)
reach_on c (names_first e r) last = names_first e (reach_on c r last)

above_next : (chains : List Chain) (path : List ℕ) (c d : ℕ) → Above chains path c → Contains (named_in chains c) d → Above chains (c ∷ path) d
above_next chains path c d above e q h =
    ⊎_elim (λ same. names (subst (λ x. Contains (named_in chains x) d) (sym (eqb-true q c same)) e)) (λ on. reach_on d (above q on) e)
    (or_cases (eqb q c) (list_any (eqb q) path) h)

ends_within : (chains : List Chain) → Acyclic chains → (n : ℕ) (via : List ℕ) → Passed chains via → length chains ≤ n + length via
    → (c : ℕ) → Above chains via c → EndsWithin chains n c
ends_within chains none zero via passed le c above =
    let few : length chains ≤ length via = omega arith in
    ⊎_elim (λ lt. absurd (all_passed chains via c passed few lt (not_above chains none via c above))) (λ past. past) (cases_lt c (length chains))
ends_within chains none (suc n) via passed le c above = λ d e.
    let more : length chains ≤ n + length (c ∷ via) = omega arith in
    ends_within chains none n (c ∷ via) (one_passed chains via c passed (only_chains_name chains c d e) (not_above chains none via c above)) more d
    (above_next chains via c d above e)

all_end : (chains : List Chain) → Acyclic chains → (c : ℕ) → EndsWithin chains (length chains) c
all_end chains none c =
    let enough : length chains ≤ length chains + 0 = omega arith in
    ends_within chains none (length chains) [] (none_passed chains) enough c (λ q h. absurd (false≢true h))

-- Sizes

size_past : (chains : List Chain) (n c : ℕ) → length chains ≤ c → size_within chains n c ≡ 0
size_past chains zero c le = refl
size_past chains (suc n) c le =
    ap (λ o. length (option_map_or (λ chain. chain.rules) o []) + sum (map (size_within chains n) (all_named (option_map_or (λ chain. chain.rules) o [])))) (slice_get_past chains c le)

map_same : (g h : ℕ → ℕ) (xs : List ℕ) → ((x : ℕ) → Contains xs x → g x ≡ h x) → map g xs ≡ map h xs
map_same g h [] same = refl
map_same g h (x ∷ xs) same =
    let first : g x ≡ h x = same x (Contains-append_left (x ∷ []) xs x (0, omega arith, refl)) in
    let more : map g xs ≡ map h xs = map_same g h xs (λ y at. same y (Contains-append_right (x ∷ []) xs y at)) in
    cc

size_same : (chains : List Chain) (steps n k c : ℕ) → EndsWithin chains steps c → steps ≤ n → steps ≤ k → size_within chains n c ≡ size_within chains k c
size_same chains zero n k c past le more = size_past chains n c past ∙ sym (size_past chains k c past)
size_same chains (suc steps) zero k c ends le more = absurd (omega arith)
size_same chains (suc steps) (suc n) zero c ends le more = absurd (omega arith)
size_same chains (suc steps) (suc n) (suc k) c ends le more =
    let less : steps ≤ n = omega arith in
    let less_too : steps ≤ k = omega arith in
    ap (λ sizes. length (rules_at chains c) + sum sizes)
    (map_same (size_within chains n) (size_within chains k) (named_in chains c) (λ d e. size_same chains steps n k d (ends d e) less less_too))

pub sizes_stand_still : SizesStandStill
sizes_stand_still chains none n c le =
    let all : length chains ≤ length chains = omega arith in
    size_same chains (length chains) n (length chains) c (all_end chains (no_loop_reached chains none) c) le all

pub sizes_unfold : SizesUnfold
sizes_unfold chains none c =
    let more : length chains ≤ suc (length chains) = omega arith in
    sym (sizes_stand_still chains none (suc (length chains)) c more)

-- Walks

stepped_same : (enter other : ℕ → Transit → ChainEnd) (go : ℕ → Transit → ChainEnd) (p : Packet) (k : Kind) (act : Act) (t : Transit)
    → ((d : ℕ) → named_by act ≡ Some d → enter d t ≡ other d t) → stepped enter go (step_of p k act t) ≡ stepped other go (step_of p k act t)
stepped_same enter other go p k (Call d) t same = ap (back (go 0)) (same d refl)
stepped_same enter other go p k (Goto d) t same = same d refl
stepped_same enter other go p k _ t same = refl

rule_same : (passed holds_here : Bool) (past act_a act_b next_a next_b past_b : ChainEnd) → past ≡ past_b → act_a ≡ act_b → next_a ≡ next_b
    → cond passed past (cond holds_here act_a next_a) ≡ cond passed past_b (cond holds_here act_b next_b)
rule_same true h past act_a act_b next_a next_b past_b e f g = e
rule_same false true past act_a act_b next_a next_b past_b e f g = f
rule_same false false past act_a act_b next_a next_b past_b e f g = g

rules_same : (enter other : ℕ → Transit → ChainEnd) (site : Site) (p : Packet) (k : Kind) (stage : Stage) (at : ℕ) (rules : List Rule)
    → ((d : ℕ) (t : Transit) → Contains (all_named rules) d → enter d t ≡ other d t)
    → (to : ℕ) (t : Transit) → rules_walk enter site p k stage at rules to t ≡ rules_walk other site p k stage at rules to t
rules_same enter other site p k stage at [] same to t = refl
rules_same enter other site p k stage at (r ∷ rs) same to t =
    let here = option_map_or (λ c. c ∷ []) (named_by r.act) [] in
    let rest : (to : ℕ) (t : Transit) → rules_walk enter site p k stage (suc at) rs to t ≡ rules_walk other site p k stage (suc at) rs to t =
    rules_same enter other site p k stage (suc at) rs (λ d u on. same d u (Contains-append_right here (all_named rs) d on)) in
    let go : rules_walk enter site p k stage (suc at) rs ≡ rules_walk other site p k stage (suc at) rs = fun_ext (λ to. fun_ext (rest to)) in
    let acts : stepped enter (rules_walk enter site p k stage (suc at) rs) (step_of p k r.act t) ≡ stepped other (rules_walk other site p k stage (suc at) rs) (step_of p k r.act t) =
    ap (λ go. stepped enter go (step_of p k r.act t)) go
    ∙ stepped_same enter other (rules_walk other site p k stage (suc at) rs) p k r.act t
    (λ d is. same d t (Contains-append_left here (all_named rs) d (subst (λ o. Contains (option_map_or (λ c. c ∷ []) o []) d) (sym is) (0, omega arith, refl)))) in
    rule_same (nat_lt at to) (holds r.cond (sees site k stage t)) _ _ _ _ _ _ (rest to t) acts (rest 0 t)

-- What is used

used_behind_same : (used others : ℕ → Transit → List Place) (enter other : ℕ → Transit → ChainEnd) (go : ℕ → Transit → List Place) (p : Packet) (k : Kind) (act : Act) (t : Transit)
    → ((d : ℕ) → named_by act ≡ Some d → used d t ≡ others d t) → ((d : ℕ) → named_by act ≡ Some d → enter d t ≡ other d t)
    → used_behind used enter go (step_of p k act t) ≡ used_behind others other go (step_of p k act t)
used_behind_same used others enter other go p k (Call d) t same walked =
    ap (λ xs. xs ++ used_back (go 0) (enter d t)) (same d refl) ∙ ap (λ end. others d t ++ used_back (go 0) end) (walked d refl)
used_behind_same used others enter other go p k (Goto d) t same walked = same d refl
used_behind_same used others enter other go p k _ t same walked = refl

use_same : (passed holds_here : Bool) (past act_a act_b next_a next_b past_b : List Place) → past ≡ past_b → act_a ≡ act_b → next_a ≡ next_b
    → cond passed past (cond holds_here act_a next_a) ≡ cond passed past_b (cond holds_here act_b next_b)
use_same true h past act_a act_b next_a next_b past_b e f g = e
use_same false true past act_a act_b next_a next_b past_b e f g = f
use_same false false past act_a act_b next_a next_b past_b e f g = g

rules_use_same : (used others : ℕ → Transit → List Place) (enter other : ℕ → Transit → ChainEnd) (c : ℕ) (site : Site) (p : Packet) (k : Kind) (stage : Stage) (at : ℕ) (rules : List Rule)
    → ((d : ℕ) (t : Transit) → Contains (all_named rules) d → used d t ≡ others d t) → ((d : ℕ) (t : Transit) → Contains (all_named rules) d → enter d t ≡ other d t)
    → (to : ℕ) (t : Transit) → rules_used used enter c site p k stage at rules to t ≡ rules_used others other c site p k stage at rules to t
rules_use_same used others enter other c site p k stage at [] same walked to t = refl
rules_use_same used others enter other c site p k stage at (r ∷ rs) same walked to t =
    let here = option_map_or (λ c. c ∷ []) (named_by r.act) [] in
    let rest : (to : ℕ) (t : Transit) → rules_used used enter c site p k stage (suc at) rs to t ≡ rules_used others other c site p k stage (suc at) rs to t =
    rules_use_same used others enter other c site p k stage (suc at) rs (λ d u on. same d u (Contains-append_right here (all_named rs) d on)) (λ d u on. walked d u (Contains-append_right here (all_named rs) d on)) in
    let go : rules_used used enter c site p k stage (suc at) rs ≡ rules_used others other c site p k stage (suc at) rs = fun_ext (λ to. fun_ext (rest to)) in
    let named_here : (d : ℕ) → named_by r.act ≡ Some d → Contains (all_named (r ∷ rs)) d =
    λ d is. Contains-append_left here (all_named rs) d (subst (λ o. Contains (option_map_or (λ c. c ∷ []) o []) d) (sym is) (0, omega arith, refl)) in
    let acts : used_behind used enter (rules_used used enter c site p k stage (suc at) rs) (step_of p k r.act t) ≡ used_behind others other (rules_used others other c site p k stage (suc at) rs) (step_of p k r.act t) =
    ap (λ go. used_behind used enter go (step_of p k r.act t)) go
    ∙ used_behind_same used others enter other (rules_used others other c site p k stage (suc at) rs) p k r.act t (λ d is. same d t (named_here d is)) (λ d is. walked d t (named_here d is)) in
    use_same (nat_lt at to) (holds r.cond (sees site k stage t)) _ _ _ _ _ _ (rest to t) (ap (λ xs. record { chain = c; rule = at } ∷ xs) acts) (rest 0 t)

module _ (chains : List Chain) (site : Site) (p : Packet) (k : Kind) (stage : Stage) (none : Acyclic chains) (known : NamesChains chains) where
  entered : (n : ℕ) (path : List ℕ) (c : ℕ) (t : Transit) → Above chains path c
      → chain_walk chains site p k stage (suc n) path c t
      ≡ rules_walk (chain_walk chains site p k stage n (c ∷ path)) site p k stage 0 (rules_at chains c) 0 t
  entered n path c t above =
      ap (λ on. cond on Dropped (rules_walk (chain_walk chains site p k stage n (c ∷ path)) site p k stage 0 (rules_at chains c) 0 t)) (not_above chains none path c above)

  -- the walk through a chain doesn't hang on the path to it, nor on how many more chains than there are may be entered
  walk_same : (steps n m : ℕ) (path other : List ℕ) (c : ℕ) (t : Transit) → EndsWithin chains steps c → c < length chains → steps ≤ n → steps ≤ m
      → Above chains path c → Above chains other c → chain_walk chains site p k stage n path c t ≡ chain_walk chains site p k stage m other c t
  walk_same zero n m path other c t ends lt le more above above_too = absurd (omega arith)
  walk_same (suc steps) zero m path other c t ends lt le more above above_too = absurd (omega arith)
  walk_same (suc steps) (suc n) zero path other c t ends lt le more above above_too = absurd (omega arith)
  walk_same (suc steps) (suc n) (suc m) path other c t ends lt le more above above_too =
      let less : steps ≤ n = omega arith in
      let less_too : steps ≤ m = omega arith in
      entered n path c t above
      ∙ rules_same (chain_walk chains site p k stage n (c ∷ path)) (chain_walk chains site p k stage m (c ∷ other)) site p k stage 0 (rules_at chains c)
      (λ d here e. walk_same steps n m (c ∷ path) (c ∷ other) d here (ends d e) (known c d e) less less_too (above_next chains path c d above e) (above_next chains other c d above_too e)) 0 t
      ∙ sym (entered m other c t above_too)

  -- a number that is no chain is walked through
  walk_past : (n c : ℕ) (t : Transit) → 0 < n → length chains ≤ c → chain_walk chains site p k stage n [] c t ≡ Through t
  walk_past zero c t lt past = absurd (omega arith)
  walk_past (suc n) c t lt past =
      ap (λ o. rules_walk (chain_walk chains site p k stage n (c ∷ [])) site p k stage 0 (option_map_or (λ chain. chain.rules) o []) 0 t) (slice_get_past chains c past)

  walk_still : 0 < length chains → (n c : ℕ) (t : Transit) → length chains ≤ n
      → chain_walk chains site p k stage n [] c t ≡ chain_walk chains site p k stage (length chains) [] c t
  walk_still some n c t le =
      let all : length chains ≤ length chains = omega arith in
      let positive : 0 < n = omega arith in
      ⊎_elim
      (λ lt. walk_same (length chains) n (length chains) [] [] c t (all_end chains none c) lt le all (λ q h. absurd (false≢true h)) (λ q h. absurd (false≢true h)))
      (λ past. walk_past n c t positive past ∙ sym (walk_past (length chains) c t some past))
      (cases_lt c (length chains))

  walk_unfolds : 0 < length chains → (c : ℕ) (t : Transit)
      → chain_walk chains site p k stage (length chains) [] c t
      ≡ rules_walk (chain_walk chains site p k stage (length chains) []) site p k stage 0 (rules_at chains c) 0 t
  walk_unfolds some c t =
      let all : length chains ≤ length chains = omega arith in
      let more : length chains ≤ suc (length chains) = omega arith in
      let nothing : (d : ℕ) → Above chains [] d = λ d q h. absurd (false≢true h) in
      sym (walk_still some (suc (length chains)) c t more)
      ∙ entered (length chains) [] c t (nothing c)
      ∙ rules_same (chain_walk chains site p k stage (length chains) (c ∷ [])) (chain_walk chains site p k stage (length chains) []) site p k stage 0 (rules_at chains c)
      (λ d here e. walk_same (length chains) (length chains) (length chains) (c ∷ []) [] d here (all_end chains none d) (known c d e) all all
      (above_next chains [] c d (nothing c) e) (nothing d)) 0 t

  use_entered : (n : ℕ) (path : List ℕ) (c : ℕ) (t : Transit) → Above chains path c
      → chain_used chains site p k stage (suc n) path c t
      ≡ rules_used (chain_used chains site p k stage n (c ∷ path)) (chain_walk chains site p k stage n (c ∷ path)) c site p k stage 0 (rules_at chains c) 0 t
  use_entered n path c t above =
      ap (λ on. cond on [] (rules_used (chain_used chains site p k stage n (c ∷ path)) (chain_walk chains site p k stage n (c ∷ path)) c site p k stage 0 (rules_at chains c) 0 t)) (not_above chains none path c above)

  used_same : (steps n m : ℕ) (path other : List ℕ) (c : ℕ) (t : Transit) → EndsWithin chains steps c → c < length chains → steps ≤ n → steps ≤ m
      → Above chains path c → Above chains other c → chain_used chains site p k stage n path c t ≡ chain_used chains site p k stage m other c t
  used_same zero n m path other c t ends lt le more above above_too = absurd (omega arith)
  used_same (suc steps) zero m path other c t ends lt le more above above_too = absurd (omega arith)
  used_same (suc steps) (suc n) zero path other c t ends lt le more above above_too = absurd (omega arith)
  used_same (suc steps) (suc n) (suc m) path other c t ends lt le more above above_too =
      let less : steps ≤ n = omega arith in
      let less_too : steps ≤ m = omega arith in
      use_entered n path c t above
      ∙ rules_use_same (chain_used chains site p k stage n (c ∷ path)) (chain_used chains site p k stage m (c ∷ other)) (chain_walk chains site p k stage n (c ∷ path)) (chain_walk chains site p k stage m (c ∷ other)) c site p k stage 0 (rules_at chains c)
      (λ d here e. used_same steps n m (c ∷ path) (c ∷ other) d here (ends d e) (known c d e) less less_too (above_next chains path c d above e) (above_next chains other c d above_too e))
      (λ d here e. walk_same steps n m (c ∷ path) (c ∷ other) d here (ends d e) (known c d e) less less_too (above_next chains path c d above e) (above_next chains other c d above_too e)) 0 t
      ∙ sym (use_entered m other c t above_too)

  use_past : (n c : ℕ) (t : Transit) → length chains ≤ c → chain_used chains site p k stage n [] c t ≡ []
  use_past zero c t past = refl
  use_past (suc n) c t past =
      ap (λ o. rules_used (chain_used chains site p k stage n (c ∷ [])) (chain_walk chains site p k stage n (c ∷ [])) c site p k stage 0 (option_map_or (λ chain. chain.rules) o []) 0 t) (slice_get_past chains c past)

  uses_unfold_there : (c : ℕ) (t : Transit)
      → chain_used chains site p k stage (length chains) [] c t
      ≡ rules_used (chain_used chains site p k stage (length chains) []) (chain_walk chains site p k stage (length chains) []) c site p k stage 0 (rules_at chains c) 0 t
  uses_unfold_there c t =
      let all : length chains ≤ length chains = omega arith in
      let more : length chains ≤ suc (length chains) = omega arith in
      let nothing : (d : ℕ) → Above chains [] d = λ d q h. absurd (false≢true h) in
      ⊎_elim
      (λ lt. used_same (length chains) (length chains) (suc (length chains)) [] [] c t (all_end chains none c) lt all more (nothing c) (nothing c))
      (λ past. use_past (length chains) c t past ∙ sym (use_past (suc (length chains)) c t past))
      (cases_lt c (length chains))
      ∙ use_entered (length chains) [] c t (nothing c)
      ∙ rules_use_same (chain_used chains site p k stage (length chains) (c ∷ [])) (chain_used chains site p k stage (length chains) []) (chain_walk chains site p k stage (length chains) (c ∷ [])) (chain_walk chains site p k stage (length chains) []) c site p k stage 0 (rules_at chains c)
      (λ d here e. used_same (length chains) (length chains) (length chains) (c ∷ []) [] d here (all_end chains none d) (known c d e) all all (above_next chains [] c d (nothing c) e) (nothing d))
      (λ d here e. walk_same (length chains) (length chains) (length chains) (c ∷ []) [] d here (all_end chains none d) (known c d e) all all (above_next chains [] c d (nothing c) e) (nothing d)) 0 t

pub uses_unfold : UsesUnfold
uses_unfold chains site p k stage none known some = uses_unfold_there chains site p k stage (no_loop_reached chains none) known

pub walks_stand_still : WalksStandStill
walks_stand_still chains site p k stage none known some = walk_still chains site p k stage (no_loop_reached chains none) known some

pub walks_unfold : WalksUnfold
walks_unfold chains site p k stage none known some = walk_unfolds chains site p k stage (no_loop_reached chains none) known some

-- Chains that rules name

only_one : (c b : ℕ) → Contains (c ∷ []) b → c ≡ b
only_one c b (zero, lt, is) = is
only_one c b (suc k, lt, is) = absurd (omega arith)

none_named : (b : ℕ) → Contains {X = ℕ} [] b → ⊥
none_named b at = let lt : at.0 < 0 = at.1 in omega arith

rule_known : (chains rules at : ℕ) (act : Act) (b : ℕ) → act_ok chains rules at act ≡ true
    → Contains (option_map_or (λ c. c ∷ []) (named_by act) []) b → b < chains
rule_known chains rules at (Call c) b ok on = subst (λ x. x < chains) (only_one c b on) (ltb-true c chains ok)
rule_known chains rules at (Goto c) b ok on = subst (λ x. x < chains) (only_one c b on) (ltb-true c chains ok)
rule_known chains rules at _ b ok on = absurd (none_named b on)

rules_known : (chains all at : ℕ) (rules : List Rule) (b : ℕ) → rules_ok chains all at rules ≡ true → Contains (all_named rules) b → b < chains
rules_known chains all at [] b ok on = absurd (none_named b on)
rules_known chains all at (r ∷ rs) b ok on =
    let both = and_parts (act_ok chains all at r.act) (rules_ok chains all (suc at) rs) ok in
    ⊎_elim (rule_known chains all at r.act b both.0) (rules_known chains all (suc at) rs b both.1)
    (Contains-append_cases (option_map_or (λ c. c ∷ []) (named_by r.act) []) (all_named rs) b on)

chains_known : (n : ℕ) (chains : List Chain) (a b : ℕ) → list_all (chain_ok n) chains ≡ true → Contains (named_in chains a) b → b < n
chains_known n [] a b ok on = absurd (none_named b on)
chains_known n (chain ∷ chains) zero b ok on =
    rules_known n (length chain.rules) 0 chain.rules b (and_parts (chain_ok n chain) (list_all (chain_ok n) chains) ok).0 on
chains_known n (chain ∷ chains) (suc a) b ok on = chains_known n chains a b (and_parts (chain_ok n chain) (list_all (chain_ok n) chains) ok).1 on

-- the first of five tests that all hold
first_of_five : (a b c d e : Bool) → (a && b && c && d && e) ≡ true → a ≡ true
first_of_five true b c d e h = refl
first_of_five false b c d e h = h

pub ok_diagrams_name_chains : OkDiagramsNameChains
ok_diagrams_name_chains f ok a b on =
    let n = length f.chains in
    chains_known n f.chains a b
    (first_of_five (list_all (chain_ok n) f.chains) (list_all (stage_ok n) f.arrive) (list_all (stage_ok n) f.deliver) (list_all (stage_ok n) f.forward)
    (list_all (stage_ok n) f.send) ok) on
