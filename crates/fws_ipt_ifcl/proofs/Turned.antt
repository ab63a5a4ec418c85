-- The diagram is refused where its configuration is.
use Rattle.std.proofs.Common.{◌≡◌, ℕ, zero, suc, ◌+◌, ◌<◌, ◌≤◌, Bool, true, false, cond, ◌&&◌, ◌||◌, not, nat_eq, nat_lt, slice_get, Option, Some, None, is_some, is_none, option_map, List, [], ◌∷◌, ◌++◌, length, map, sum, Contains, arith, refl, sym, ap, ◌∙◌, subst, eqb-true, ⊎_elim}
use Rattle.std.proofs.lemmas.Bool.{false≢true, or_cases, or_left, or_right, and_right, cases_lt}
use Rattle.std.proofs.lemmas.Option.{slice_get_past}
use Rattle.std.specs.List.{list_any}
use Rattle.std.specs.Option.{option_map_or}
use Rattle.fws_net.specs.declared.site.Site.{Site}
use Rattle.fws_ifcl.specs.declared.diagram.Chain.{Chain}
use Rattle.fws_ifcl.specs.declared.diagram.Rule.{Rule}
use Rattle.fws_ifcl.specs.declared.refusal.UnfoldRefusal.TheVariants as diagrams
use Rattle.fws_ifcl.specs.Refusals.{named_by as called_by, all_named as all_called, named_in as called_in, reaches as reaches_there, is_looped as loops_there, begins_path as begins_there, is_deep as deep_there, is_staged, size_within as sizes_there, size_of as size_there, first_chain as first_there, loop_of as loop_there, deep_of as deepest_there, names_any as calls_any, passed_at as passed_there, long_of as long_there, or_else as else_there, refusal_of as refusal_there}
use Rattle.fws_ipt.specs.declared.config.IptChain.{IptChain}
use Rattle.fws_ipt.specs.declared.config.IptConfig.{IptConfig}
use Rattle.fws_ipt.specs.declared.config.IptRule.{IptRule}
use Rattle.fws_ipt.specs.declared.refusal.UnfoldRefusal.TheVariants.{Loop, Deep, Long}
use Rattle.fws_ipt.specs.Loops.{Reaches, names, names_first, NoLoop, LoopsAreFound, SizesStandStill}
use Rattle.fws_ipt.specs.Refusals.{named_by, all_named, named_in, reaches, is_looped, begins_path, is_deep, is_builtin, width_at, size_within, size_of, first_chain, loop_of, deep_of, names_any, passed_at, long_of, or_else, refusal_of}
use Rattle.fws_ipt_ifcl.specs.declared.side.SideTest.{SideTest}
use Rattle.fws_ipt_ifcl.specs.Diagram.{own_chains, chain_for, drawn_by}
use Rattle.fws_ipt_ifcl.specs.Fitting.{AreMet}
use Rattle.fws_ipt_ifcl.specs.Kept.{refused_behind}
use Rattle.fws_ipt_ifcl.proofs.Files.{nat_moved}
use Rattle.fws_ipt_ifcl.proofs.Lists.{any_found, any_weaker, any_mapped, map_mapped, has_any, has_mapped}
use Rattle.fws_ipt_ifcl.proofs.Named.{chain_calls, file_calls, file_widths, drawn_count}
use Rattle.fws_ipt_ifcl.proofs.Staged.{own_staged, builtins_staged}

-- Paths

module _ (asks : SideTest) (site : Site) (chains : List IptChain) where
  abbrev drawn : List Chain
  drawn = own_chains ++ map (chain_for asks site) chains

  -- a chain reaches another by as many steps
  reach_moved : (n a b : ℕ) → reaches_there drawn n (a + 3) (b + 3) ≡ reaches chains n a b
  reach_moved zero a b = refl
  reach_moved (suc n) a b =
      ap (list_any (λ c. nat_eq c (b + 3) || reaches_there drawn n c (b + 3))) (file_calls asks site chains a)
      ∙ any_mapped (λ c. c + 3) (λ c. nat_eq c (b + 3) || reaches_there drawn n c (b + 3)) (λ c. nat_eq c b || reaches chains n c b)
      (λ c. ap (λ x. x || reaches_there drawn n (c + 3) (b + 3)) (nat_moved c b) ∙ ap (λ x. nat_eq c b || x) (reach_moved n c b)) (named_in chains a)

  begin_moved : (n a : ℕ) → begins_there drawn n (a + 3) ≡ begins_path chains n a
  begin_moved zero a = refl
  begin_moved (suc n) a =
      ap (list_any (begins_there drawn n)) (file_calls asks site chains a)
      ∙ any_mapped (λ c. c + 3) (begins_there drawn n) (begins_path chains n) (begin_moved n) (named_in chains a)

  size_moved : (n a : ℕ) → sizes_there drawn n (a + 3) ≡ size_within (length site.faces) chains n a
  size_moved zero a = refl
  size_moved (suc n) a =
      ap (λ w. w + sum (map (sizes_there drawn n) (called_in drawn (a + 3)))) (file_widths asks site chains a)
      ∙ ap (λ cs. width_at (length site.faces) chains a + sum (map (sizes_there drawn n) cs)) (file_calls asks site chains a)
      ∙ ap (λ ns. width_at (length site.faces) chains a + sum ns)
      (map_mapped (λ c. c + 3) (sizes_there drawn n) (size_within (length site.faces) chains n) (size_moved n) (named_in chains a))

-- Loops

real : (chains : List IptChain) (n a b : ℕ) → reaches chains n a b ≡ true → Reaches chains a b
real chains zero a b is = absurd (false≢true is)
real chains (suc n) a b is =
    let found = any_found (λ c. nat_eq c b || reaches chains n c b) (named_in chains a) is in
    ⊎_elim
    (λ same. names (subst (λ x. Contains (named_in chains a) x) (eqb-true found.0 b same) found.1))
    (λ later. names_first found.1 (real chains n found.0 b later))
    (or_cases (nat_eq found.0 b) (reaches chains n found.0 b) found.2)

one_more : (chains : List IptChain) (n a b : ℕ) → reaches chains n a b ≡ true → reaches chains (suc n) a b ≡ true
one_more chains zero a b is = absurd (false≢true is)
one_more chains (suc n) a b is =
    any_weaker (λ c. nat_eq c b || reaches chains n c b) (λ c. nat_eq c b || reaches chains (suc n) c b)
    (λ c at. ⊎_elim (or_left (nat_eq c b) (reaches chains (suc n) c b)) (λ later. or_right (nat_eq c b) (reaches chains (suc n) c b) (one_more chains n c b later))
    (or_cases (nat_eq c b) (reaches chains n c b) at)) (named_in chains a) is

same_truth : (a b : Bool) → (a ≡ true → b ≡ true) → (b ≡ true → a ≡ true) → a ≡ b
same_truth true b there back = sym (there refl)
same_truth false true there back = back refl
same_truth false false there back = refl

loop_moved : LoopsAreFound → (asks : SideTest) (site : Site) (chains : List IptChain) (n : ℕ) → loops_there (own_chains ++ map (chain_for asks site) chains) (n + 3) ≡ is_looped chains n
loop_moved find asks site chains n =
    let drawn = own_chains ++ map (chain_for asks site) chains in
    let count : length drawn ≡ suc (suc (suc (length chains))) = omega (arith, drawn_count asks site chains) in
    ap (λ k. reaches_there drawn k (n + 3) (n + 3)) count
    ∙ reach_moved asks site chains (suc (suc (suc (length chains)))) n n
    ∙ same_truth (reaches chains (suc (suc (suc (length chains)))) n n) (is_looped chains n)
    (λ is. find chains n (real chains (suc (suc (suc (length chains)))) n n is))
    (λ is. one_more chains (suc (suc (length chains))) n n (one_more chains (suc (length chains)) n n (one_more chains (length chains) n n is)))

-- The first chain with a property

chosen : (b : Bool) (i : ℕ) (o : Option ℕ) → cond b (Some (i + 3)) (option_map (λ n. n + 3) o) ≡ option_map (λ n. n + 3) (cond b (Some i) o)
chosen true i o = refl
chosen false i o = refl

first_moved : (asks : SideTest) (site : Site) (test other : ℕ → Bool) → ((n : ℕ) → test (n + 3) ≡ other n) → (i : ℕ) (rest : List IptChain)
    → first_there test (i + 3) (map (chain_for asks site) rest) ≡ option_map (λ n. n + 3) (first_chain other i rest)
first_moved asks site test other same i [] = refl
first_moved asks site test other same i (chain ∷ rest) =
    let next : suc (i + 3) ≡ suc i + 3 = omega arith in
    ap (λ b. cond b (Some (i + 3)) (first_there test (suc (i + 3)) (map (chain_for asks site) rest))) (same i)
    ∙ ap (λ k. cond (other i) (Some (i + 3)) (first_there test k (map (chain_for asks site) rest))) next
    ∙ ap (cond (other i) (Some (i + 3))) (first_moved asks site test other same (suc i) rest)
    ∙ chosen (other i) i (first_chain other (suc i) rest)

first_behind : (asks : SideTest) (site : Site) (chains : List IptChain) (test other : ℕ → Bool) → test 0 ≡ false → test 1 ≡ false → test 2 ≡ false → ((n : ℕ) → test (n + 3) ≡ other n)
    → first_there test 0 (own_chains ++ map (chain_for asks site) chains) ≡ option_map (λ n. n + 3) (first_chain other 0 chains)
first_behind asks site chains test other none_a none_b none_c same =
    let rest = map (chain_for asks site) chains in
    ap (λ b. cond b (Some 0) (cond (test 1) (Some 1) (cond (test 2) (Some 2) (first_there test 3 rest)))) none_a
    ∙ ap (λ b. cond b (Some 1) (cond (test 2) (Some 2) (first_there test 3 rest))) none_b
    ∙ ap (λ b. cond b (Some 2) (first_there test 3 rest)) none_c
    ∙ first_moved asks site test other same 0 chains

loop_behind : LoopsAreFound → (asks : SideTest) (site : Site) (c : IptConfig) → loop_there (drawn_by asks site c) ≡ option_map (λ n. n + 3) (loop_of c.chains)
loop_behind find asks site c =
    first_behind asks site c.chains (loops_there (own_chains ++ map (chain_for asks site) c.chains)) (is_looped c.chains) refl refl refl (loop_moved find asks site c.chains)

deep_behind : (asks : SideTest) (site : Site) (c : IptConfig) → AreMet c.chains → deepest_there (drawn_by asks site c) ≡ option_map (λ n. n + 3) (deep_of c.chains)
deep_behind asks site c met =
    let drawn = own_chains ++ map (chain_for asks site) c.chains in
    first_behind asks site c.chains (λ n. is_staged (drawn_by asks site c) n && deep_there drawn n) (λ n. is_builtin c.chains n && is_deep c.chains n)
    (and_right (is_staged (drawn_by asks site c) 0) false refl) (and_right (is_staged (drawn_by asks site c) 1) false refl) (and_right (is_staged (drawn_by asks site c) 2) false refl)
    (λ n. ap (λ b. b && deep_there drawn (n + 3)) (builtins_staged asks site c met n) ∙ ap (λ b. is_builtin c.chains n && b) (begin_moved asks site c.chains 64 n))

-- Sizes

has_or : (o : Option ℕ) (more : List ℕ) → (is_some o || has_any more) ≡ has_any (option_map_or (λ c. c ∷ []) o [] ++ more)
has_or None more = refl
has_or (Some c) more = refl

any_called : (rules : List Rule) → list_any (λ (r : Rule). is_some (called_by r.act)) rules ≡ has_any (all_called rules)
any_called [] = refl
any_called (r ∷ rs) = ap (λ b. is_some (called_by r.act) || b) (any_called rs) ∙ has_or (called_by r.act) (all_called rs)

any_named : (rules : List IptRule) → list_any (λ (r : IptRule). is_some (named_by r.go)) rules ≡ has_any (all_named rules)
any_named [] = refl
any_named (r ∷ rs) = ap (λ b. is_some (named_by r.go) || b) (any_named rs) ∙ has_or (named_by r.go) (all_named rs)

calls_moved : (asks : SideTest) (site : Site) (chain : IptChain) → calls_any (chain_for asks site chain) ≡ names_any chain
calls_moved asks site chain =
    any_called (chain_for asks site chain).rules ∙ ap has_any (chain_calls asks site chain) ∙ has_mapped (λ n. n + 3) (all_named chain.rules) ∙ sym (any_named chain.rules)

counted : (policy : Option Bool) (staged : Bool) → staged ≡ is_some policy → (past : Bool) (i : ℕ) (a b : Option ℕ) (x y : Option ℕ)
    → a ≡ option_map (λ n. n + 3) x → b ≡ option_map (λ n. n + 3) y
    → cond (not staged) a (cond past (Some (i + 3)) b) ≡ option_map (λ n. n + 3) (cond (is_none policy) x (cond past (Some i) y))
counted None staged is past i a b x y first second = ap (λ s. cond (not s) a (cond past (Some (i + 3)) b)) is ∙ first
counted (Some accepts) staged is true i a b x y first second = ap (λ s. cond (not s) a (Some (i + 3))) is
counted (Some accepts) staged is false i a b x y first second = ap (λ s. cond (not s) a b) is ∙ second

-- the sum over the file's chains
passed_moved : (asks : SideTest) (site : Site) (c : IptConfig) → ((n : ℕ) → size_there (drawn_by asks site c).chains (n + 3) ≡ size_of (length site.faces) c.chains n)
    → (s i : ℕ) (rest : List IptChain) → ((j : ℕ) (chain : IptChain) → slice_get rest j ≡ Some chain → is_staged (drawn_by asks site c) ((i + j) + 3) ≡ is_some chain.policy)
    → passed_there (drawn_by asks site c) s (i + 3) (map (chain_for asks site) rest) ≡ option_map (λ n. n + 3) (passed_at (length site.faces) c.chains s i rest)
passed_moved asks site c sizes s i [] staged = refl
passed_moved asks site c sizes s i (chain ∷ rest) staged =
    let d = drawn_by asks site c in
    let size = size_of (length site.faces) c.chains i in
    let next : suc (i + 3) ≡ suc i + 3 = omega arith in
    let here : i + 3 ≡ (i + 0) + 3 = omega arith in
    let staged_rest : (j : ℕ) (chain : IptChain) → slice_get rest j ≡ Some chain → is_staged d ((suc i + j) + 3) ≡ is_some chain.policy =
    λ j chain is. let same : (suc i + j) + 3 ≡ (i + suc j) + 3 = omega arith in ap (is_staged d) same ∙ staged (suc j) chain is in
    let further : (t : ℕ) → passed_there d t (suc (i + 3)) (map (chain_for asks site) rest) ≡ option_map (λ n. n + 3) (passed_at (length site.faces) c.chains t (suc i) rest) =
    λ t. ap (λ k. passed_there d t k (map (chain_for asks site) rest)) next ∙ passed_moved asks site c sizes t (suc i) rest staged_rest in
    ap (λ z. cond (not (is_staged d (i + 3))) (passed_there d s (suc (i + 3)) (map (chain_for asks site) rest))
    (cond (nat_lt 1000000 (s + z)) (Some (i + 3)) (passed_there d (s + z) (suc (i + 3)) (map (chain_for asks site) rest)))) (sizes i)
    ∙ counted chain.policy (is_staged d (i + 3)) (ap (is_staged d) here ∙ staged 0 chain refl) (nat_lt 1000000 (s + size)) i _ _ _ _ (further s) (further (s + size))

-- the diagram's own chains have one rule each
passed_own : (asks : SideTest) (site : Site) (c : IptConfig)
    → passed_there (drawn_by asks site c) 0 0 (own_chains ++ map (chain_for asks site) c.chains) ≡ passed_there (drawn_by asks site c) 3 3 (map (chain_for asks site) c.chains)
passed_own asks site c =
    let d = drawn_by asks site c in
    let rest = map (chain_for asks site) c.chains in
    let third : (s : ℕ) → Option ℕ = λ s. cond (not (is_staged d 2)) (passed_there d s 3 rest) (cond (nat_lt 1000000 (s + 1)) (Some 2) (passed_there d (s + 1) 3 rest)) in
    let second : (s : ℕ) → Option ℕ = λ s. cond (not (is_staged d 1)) (third s) (cond (nat_lt 1000000 (s + 1)) (Some 1) (third (s + 1))) in
    ap (λ b. cond (not b) (second 0) (second 1)) (own_staged asks site c 0 (omega arith))
    ∙ ap (λ b. cond (not b) (third 1) (third 2)) (own_staged asks site c 1 (omega arith))
    ∙ ap (λ b. cond (not b) (passed_there d 2 3 rest) (passed_there d 3 3 rest)) (own_staged asks site c 2 (omega arith))

builtin_at : (chains : List IptChain) (j : ℕ) (chain : IptChain) → slice_get chains j ≡ Some chain → is_builtin chains j ≡ is_some chain.policy
builtin_at chains j chain is = ap (λ o. option_map_or (λ (x : IptChain). is_some x.policy) o false) is

picked : (b : Bool) (o : Option ℕ) → cond b (option_map (λ n. n + 3) o) None ≡ option_map (λ n. n + 3) (cond b o None)
picked true o = refl
picked false o = refl

long_behind : SizesStandStill → (asks : SideTest) (site : Site) (c : IptConfig) → AreMet c.chains → NoLoop c.chains
    → long_there (drawn_by asks site c) ≡ option_map (λ n. n + 3) (long_of (length site.faces) c.chains)
long_behind still asks site c met none =
    let d = drawn_by asks site c in
    let drawn = own_chains ++ map (chain_for asks site) c.chains in
    let count = drawn_count asks site c.chains in
    let sizes : (n : ℕ) → size_there drawn (n + 3) ≡ size_of (length site.faces) c.chains n =
    λ n. size_moved asks site c.chains (length drawn) n ∙ still (length site.faces) c.chains none (length drawn) n (omega (arith, count)) in
    let same : (j : ℕ) → (0 + j) + 3 ≡ j + 3 = λ j. omega arith in
    ap (λ b. cond b (passed_there d 0 0 drawn) None) (any_mapped (chain_for asks site) calls_any names_any (calls_moved asks site) c.chains)
    ∙ ap (λ o. cond (list_any names_any c.chains) o None)
    (passed_own asks site c ∙ passed_moved asks site c sizes 3 0 c.chains
    (λ j chain is. ap (is_staged d) (same j) ∙ builtins_staged asks site c met j ∙ builtin_at c.chains j chain is))
    ∙ picked (list_any names_any c.chains) (passed_at (length site.faces) c.chains 3 0 c.chains)

-- Refusals

-- where no chain is looped among those of the file, none is
not_some : (n : ℕ) → Some n ≡ None → ⊥
not_some n is = false≢true (sym (ap is_some is))

first_not : (b : Bool) (test : ℕ → Bool) (i : ℕ) (rest : List IptChain) → test i ≡ b → cond b (Some i) (first_chain test (suc i) rest) ≡ None
    → (first_chain test (suc i) rest ≡ None → (j : ℕ) → j < length rest → test (suc i + j) ≡ false) → (j : ℕ) → j < suc (length rest) → test (i + j) ≡ false
first_not true test i rest at is further j lt = absurd (not_some i is)
first_not false test i rest at is further zero lt = let same : i + 0 ≡ i = omega arith in ap test same ∙ at
first_not false test i rest at is further (suc j) lt = let same : i + suc j ≡ suc i + j = omega arith in ap test same ∙ further is j (omega (arith, lt))

none_first : (test : ℕ → Bool) (i : ℕ) (rest : List IptChain) → first_chain test i rest ≡ None → (j : ℕ) → j < length rest → test (i + j) ≡ false
none_first test i [] is j lt = absurd (omega (arith, lt))
none_first test i (chain ∷ rest) is j lt = first_not (test i) test i rest refl is (none_first test (suc i) rest) j lt

reach_past : (chains : List IptChain) (n a b : ℕ) → length chains ≤ a → reaches chains n a b ≡ false
reach_past chains zero a b past = refl
reach_past chains (suc n) a b past =
    ap (λ o. list_any (λ c. nat_eq c b || reaches chains n c b) (all_named (option_map_or (λ (chain : IptChain). chain.rules) o []))) (slice_get_past chains a past)

no_loop : (chains : List IptChain) → loop_of chains ≡ None → NoLoop chains
no_loop chains none c =
    ⊎_elim
    (λ lt. let same : c ≡ 0 + c = omega arith in ap (is_looped chains) same ∙ none_first (is_looped chains) 0 chains none c lt)
    (λ past. reach_past chains (length chains) c c past)
    (cases_lt c (length chains))

long_refused : (long : Option ℕ) → option_map diagrams.Long (option_map (λ n. n + 3) long) ≡ option_map refused_behind (option_map Long long)
long_refused None = refl
long_refused (Some n) = refl

refused : (loop deep long : Option ℕ) (there : Option ℕ) → (loop ≡ None → there ≡ option_map (λ n. n + 3) long)
    → else_there (option_map diagrams.Loop (option_map (λ n. n + 3) loop)) (else_there (option_map diagrams.Deep (option_map (λ n. n + 3) deep)) (option_map diagrams.Long there))
    ≡ option_map refused_behind (or_else (option_map Loop loop) (or_else (option_map Deep deep) (option_map Long long)))
refused (Some n) deep long there is = refl
refused None (Some n) long there is = refl
refused None None long there is = ap (option_map diagrams.Long) (is refl) ∙ long_refused long

pub refusals_kept : LoopsAreFound → SizesStandStill → (asks : SideTest) (site : Site) (c : IptConfig) → AreMet c.chains
    → refusal_there (drawn_by asks site c) ≡ option_map refused_behind (refusal_of site c)
refusals_kept find still asks site c met =
    let d = drawn_by asks site c in
    ap (λ o. else_there (option_map diagrams.Loop o) (else_there (option_map diagrams.Deep (deepest_there d)) (option_map diagrams.Long (long_there d)))) (loop_behind find asks site c)
    ∙ ap (λ o. else_there (option_map diagrams.Loop (option_map (λ n. n + 3) (loop_of c.chains))) (else_there (option_map diagrams.Deep o) (option_map diagrams.Long (long_there d)))) (deep_behind asks site c met)
    ∙ refused (loop_of c.chains) (deep_of c.chains) (long_of (length site.faces) c.chains) (long_there d)
    (λ none. long_behind still asks site c met (no_loop c.chains none))
