-- What is known where a loop, a deep path or a long sum isn't found.
use Rattle.std.proofs.Common.{◌≡◌, ℕ, zero, suc, ◌+◌, ◌<◌, ◌≤◌, Bool, true, false, cond, ◌&&◌, ◌||◌, List, [], ◌∷◌, ◌++◌, length, map, arith, refl, sym, ap, ◌∙◌, subst, ⊎_elim, eq-or-lt_of_le}
use Rattle.std.specs.Prelude.{Option, Some, None, slice_get, nat_eq, is_some, nat_lt, sum}
use Rattle.std.specs.List.{list_any}
use Rattle.std.specs.Option.{option_map_or}
use Rattle.std.proofs.lemmas.Bool.{false≢true, cases_lt, or_parts, lt-ltb, le-ltb}
use Rattle.std.proofs.lemmas.List.Folds.{list_any-append}
use Rattle.std.proofs.lemmas.Option.{slice_get_past}
use Rattle.fws_ifcl.specs.declared.diagram.Chain.{Chain}
use Rattle.fws_ifcl.specs.declared.diagram.Rule.{Rule}
use Rattle.fws_ifcl.specs.declared.diagram.Stage.{Stage}
use Rattle.fws_ifcl.specs.declared.diagram.Ifcl.{Ifcl}
use Rattle.fws_ifcl.specs.Loops.{NoLoop, SizesStandStill}
use Rattle.fws_ifcl.specs.Refusals.{named_by, all_named, named_in, is_looped, reaches, begins_path, first_chain, is_staged, names_any, passed_at, long_of, size_within, size_of}
use Rattle.fws_ifcl.specs.Walk.{rules_at}
use Rattle.fws_unfold.specs.declared.calls.Shape.{Shape}
use Rattle.fws_unfold.specs.Calls.{shape_of}
use Rattle.fws_unfold.specs.Levels.{is_naming, capped, size_at}
use Rattle.fws_unfold.specs.Short.{IsShort}

-- Stages

pub staged_in : (f : Ifcl) (c : ℕ)
    → is_staged f c ≡ (list_any (λ (s : Stage). nat_eq c s.chain) f.arrive || list_any (λ (s : Stage). nat_eq c s.chain) f.deliver
    || list_any (λ (s : Stage). nat_eq c s.chain) f.forward || list_any (λ (s : Stage). nat_eq c s.chain) f.send)
staged_in f c =
    let test : Stage → Bool = λ s. nat_eq c s.chain in
    list_any-append test (f.arrive ++ f.deliver ++ f.forward) f.send
    ∙ ap (λ b. b || list_any test f.send) (list_any-append test (f.arrive ++ f.deliver) f.forward
    ∙ ap (λ b. b || list_any test f.forward) (list_any-append test f.arrive f.deliver))

-- The first chain that passes a test

none_here : (passes : Bool) (n : ℕ) (rest : Option ℕ) → cond passes (Some n) rest ≡ None → (passes ≡ false) × (rest ≡ None)
none_here true n rest e = cc
none_here false n rest e = (refl, e)

none_passes : (test : ℕ → Bool) (n : ℕ) (chains : List Chain) → first_chain test n chains ≡ None → (j : ℕ) → n ≤ j → j < n + length chains → test j ≡ false
none_passes test n [] none j le lt = absurd (omega arith)
none_passes test n (chain ∷ chains) none j le lt =
    let here = none_here (test n) n (first_chain test (suc n) chains) none in
    let within : j < suc n + length chains = omega arith in
    ⊎_elim (λ same. subst (λ k. test k ≡ false) same here.0) (λ more. none_passes test (suc n) chains here.1 j more within) (eq-or-lt_of_le le)

none_there : (test : ℕ → Bool) (chains : List Chain) → first_chain test 0 chains ≡ None → (j : ℕ) → j < length chains → test j ≡ false
none_there test chains none j lt = none_passes test 0 chains none j (omega arith) (omega arith)

-- a number past the chains names nothing
names_none : (chains : List Chain) (c : ℕ) → length chains ≤ c → named_in chains c ≡ []
names_none chains c past = ap (λ o. all_named (option_map_or (λ chain. chain.rules) o [])) (slice_get_past chains c past)

reaches_none : (chains : List Chain) (n c to : ℕ) → length chains ≤ c → reaches chains n c to ≡ false
reaches_none chains zero c to past = refl
reaches_none chains (suc n) c to past = ap (list_any (λ d. nat_eq d to || reaches chains n d to)) (names_none chains c past)

pub none_looped : (chains : List Chain) → first_chain (is_looped chains) 0 chains ≡ None → NoLoop chains
none_looped chains none c = ⊎_elim (none_there (is_looped chains) chains none c) (reaches_none chains (length chains) c c) (cases_lt c (length chains))

none_begin : (chains : List Chain) (n c : ℕ) → length chains ≤ c → 1 ≤ n → begins_path chains n c ≡ false
none_begin chains zero c past some = absurd (omega arith)
none_begin chains (suc n) c past some = ap (list_any (begins_path chains n)) (names_none chains c past)

not_both : (a b : Bool) → (a && b) ≡ false → a ≡ true → b ≡ false
not_both true b none is = none
not_both false b none is = absurd (false≢true is)

pub none_deep : (f : Ifcl) (n : ℕ) → 1 ≤ n → first_chain (λ c. is_staged f c && begins_path f.chains n c) 0 f.chains ≡ None → IsShort f n
none_deep f n some none c staged =
    ⊎_elim
    (λ lt. not_both (is_staged f c) (begins_path f.chains n c) (none_there (λ c. is_staged f c && begins_path f.chains n c) f.chains none c lt) staged)
    (λ past. none_begin f.chains n c past some)
    (cases_lt c (length f.chains))

-- Sizes

-- a size is known where no deeper path begins
map_where : (test : ℕ → Bool) (g h : ℕ → ℕ) (xs : List ℕ) → list_any test xs ≡ false → ((x : ℕ) → test x ≡ false → g x ≡ h x) → map g xs ≡ map h xs
map_where test g h [] none same = refl
map_where test g h (x ∷ xs) none same =
    let both = or_parts (test x) (list_any test xs) none in
    let here : g x ≡ h x = same x both.0 in
    let more : map g xs ≡ map h xs = map_where test g h xs both.1 same in
    cc

size_enough : (chains : List Chain) (n m c : ℕ) → begins_path chains n c ≡ false → n ≤ m → size_within chains n c ≡ size_within chains m c
size_enough chains zero m c short le = absurd (false≢true (sym short))
size_enough chains (suc n) zero c short le = absurd (omega arith)
size_enough chains (suc n) (suc m) c short le =
    let less : n ≤ m = omega arith in
    ap (λ sizes. length (rules_at chains c) + sum sizes)
    (map_where (begins_path chains n) (size_within chains n) (size_within chains m) (named_in chains c) short (λ d none. size_enough chains n m d none less))

pub size_known : (still : SizesStandStill) (chains : List Chain) → NoLoop chains → (n c : ℕ) → begins_path chains n c ≡ false → size_within chains n c ≡ size_of chains c
size_known still chains none n c short =
    let le : n ≤ n + length chains = omega arith in
    let more : length chains ≤ n + length chains = omega arith in
    size_enough chains n (n + length chains) c short le ∙ still chains none (n + length chains) c more

pub sizes_known : (still : SizesStandStill) (f : Ifcl) (n : ℕ) (sizes : List ℕ) → NoLoop f.chains → IsShort f n → ((c : ℕ) → size_at sizes c ≡ capped (size_within f.chains n c))
    → (c : ℕ) → is_staged f c ≡ true → size_at sizes c ≡ capped (size_of f.chains c)
sizes_known still f n sizes none short made c staged = made c ∙ ap capped (size_known still f.chains none n c (short c staged))

-- Names

naming : (found : Option ℕ) (rest : Bool) (names : List ℕ) → rest ≡ list_any (λ c. true) names
    → (is_some found || rest) ≡ list_any (λ c. true) (option_map_or (λ c. c ∷ []) found [] ++ names)
naming None rest names e = e
naming (Some c) rest names e = refl

any_named : (rules : List Rule) → list_any (λ (r : Rule). is_some (named_by r.act)) rules ≡ list_any (λ c. true) (all_named rules)
any_named [] = refl
any_named (r ∷ rs) = naming (named_by r.act) _ (all_named rs) (any_named rs)

names_some : (xs : List ℕ) → is_some (slice_get xs 0) ≡ list_any (λ d. true) xs
names_some [] = refl
names_some (x ∷ xs) = refl

any_chain : (chains : List Chain) → list_any is_naming (map shape_of chains) ≡ list_any names_any chains
any_chain [] = refl
any_chain (chain ∷ chains) =
    let here : is_naming (shape_of chain) ≡ names_any chain = names_some (all_named chain.rules) ∙ sym (any_named chain.rules) in
    let more = any_chain chains in
    cc

pub none_named : (f : Ifcl) (shapes : List Shape) → shapes ≡ map shape_of f.chains → list_any is_naming shapes ≡ false → None ≡ long_of f
none_named f shapes are none =
    let no : list_any names_any f.chains ≡ false = sym (any_chain f.chains) ∙ ap (list_any is_naming) (sym are) ∙ none in
    rw no refl

pub some_named : (f : Ifcl) (shapes : List Shape) → shapes ≡ map shape_of f.chains → list_any is_naming shapes ≡ true → passed_at f 0 0 f.chains ≡ long_of f
some_named f shapes are some =
    let yes : list_any names_any f.chains ≡ true = sym (any_chain f.chains) ∙ ap (list_any is_naming) (sym are) ∙ some in
    rw yes refl

-- the size of a chain of a stage
pub size_there : (staged : Bool) (size n : ℕ) → staged ≡ true → size ≡ n → Some size ≡ cond staged (Some n) None
size_there true size n is same = ap Some same
size_there false size n is same = absurd (false≢true is)

pub size_nowhere : (staged : Bool) (n : ℕ) → staged ≡ false → None ≡ cond staged (Some n) None
size_nowhere true n is = absurd (false≢true (sym is))
size_nowhere false n is = refl

-- The sum over the chains

staged_some : (staged : Bool) (size n : ℕ) → Some size ≡ cond staged (Some n) None → (staged ≡ true) × (size ≡ n)
staged_some true size n e = (refl, cc)
staged_some false size n e = absurd (cc)

staged_none : (staged : Bool) (n : ℕ) → None ≡ cond staged (Some n) None → staged ≡ false
staged_none true n e = absurd (cc)
staged_none false n e = refl

module _ (f : Ifcl) (s n : ℕ) (chain : Chain) (rest : List Chain) where
  pub passed_here : (size : ℕ) → Some size ≡ cond (is_staged f n) (Some (capped (size_of f.chains n))) None → s ≤ 1000000 → 1000000 < s + size
      → passed_at f s n (chain ∷ rest) ≡ Some n
  passed_here size e small gt =
      let both = staged_some (is_staged f n) size (capped (size_of f.chains n)) e in
      let is : is_staged f n ≡ true = both.0 in
      let capped_so : size ≡ capped (size_of f.chains n) = both.1 in
      let past : nat_lt 1000000 (s + size_of f.chains n) ≡ true = lt-ltb 1000000 (s + size_of f.chains n) (omega arith) in
      rw (is, past) refl

  pub passed_on : (size : ℕ) → Some size ≡ cond (is_staged f n) (Some (capped (size_of f.chains n))) None → s + size ≤ 1000000
      → passed_at f s n (chain ∷ rest) ≡ passed_at f (s + size) (suc n) rest
  passed_on size e le =
      let both = staged_some (is_staged f n) size (capped (size_of f.chains n)) e in
      let is : is_staged f n ≡ true = both.0 in
      let capped_so : size ≡ capped (size_of f.chains n) = both.1 in
      let same : size_of f.chains n ≡ size = omega arith in
      let fits : nat_lt 1000000 (s + size_of f.chains n) ≡ false = le-ltb 1000000 (s + size_of f.chains n) (omega arith) in
      rw (is, fits) (ap (λ k. passed_at f (s + k) (suc n) rest) same)

  pub passed_over : None ≡ cond (is_staged f n) (Some (capped (size_of f.chains n))) None → passed_at f s n (chain ∷ rest) ≡ passed_at f s (suc n) rest
  passed_over e =
      let is : is_staged f n ≡ false = staged_none (is_staged f n) _ e in
      rw is refl
