-- Tables of one step more.
use Rattle.std.proofs.Common.{◌≡◌, ℕ, zero, suc, ◌+◌, ◌-◌, ◌≤◌, Bool, true, false, ◌||◌, List, [], ◌∷◌, ◌++◌, map, nat_eq, arith, refl, sym, ap, ◌∙◌, subst}
use Rattle.std.specs.Prelude.{Option, Some, None, slice_get, unwrap_or, option_map, is_some, sum}
use Rattle.std.specs.List.{list_any}
use Rattle.std.specs.Option.{option_map_or}
use Rattle.std.proofs.lemmas.List.Sums.{sum_by-cons}
use Rattle.std.proofs.lemmas.Option.{slice_get-map}
use Rattle.fws_ipt.specs.declared.config.IptRule.{IptRule}
use Rattle.fws_ipt.specs.declared.config.IptChain.{IptChain}
use Rattle.fws_ipt.specs.Walk.{rules_at}
use Rattle.fws_ipt.specs.Refusals.{named_by, all_named, reaches, begins_path, names_any, chain_width, size_within}
use Rattle.fws_ipt.specs.Levels.{flag_at, is_met, flag_behind, capped, size_at, size_behind}

-- tests that agree find alike
any_same : {X : Type 0} (p q : X → Bool) (xs : List X) → ((x : X) → p x ≡ q x) → list_any p xs ≡ list_any q xs
any_same p q [] e = refl
any_same p q (x ∷ xs) e = let here = e x in let more = any_same p q xs e in cc

-- a test of the rules of a chain, by a table over the chains; past the end there are none
flag_by_rules : (F : IptChain → Bool) (test : List IptRule → Bool) (found : Option IptChain) → test [] ≡ false → ((chain : IptChain) → F chain ≡ test chain.rules)
    → unwrap_or (option_map F found) false ≡ test (option_map_or (λ chain. chain.rules) found [])
flag_by_rules F test None none some = sym none
flag_by_rules F test (Some chain) none some = some chain

flag_of_map : (F : IptChain → Bool) (test : List IptRule → Bool) (chains : List IptChain) (c : ℕ) → test [] ≡ false → ((chain : IptChain) → F chain ≡ test chain.rules)
    → flag_at (map F chains) c ≡ test (rules_at chains c)
flag_of_map F test chains c none some = ap (λ o. unwrap_or o false) (slice_get-map F chains c) ∙ flag_by_rules F test (slice_get chains c) none some

pub reach_behind : (chains : List IptChain) (to n : ℕ) (before : List Bool) → ((c : ℕ) → flag_at before c ≡ reaches chains n c to)
    → (c : ℕ) → flag_at (map (flag_behind (Some to) before) chains) c ≡ reaches chains (suc n) c to
reach_behind chains to n before e c =
    flag_of_map (flag_behind (Some to) before) (λ rules. list_any (λ d. nat_eq d to || reaches chains n d to) (all_named rules)) chains c refl
    (λ chain. any_same (is_met (Some to) before) (λ d. nat_eq d to || reaches chains n d to) (all_named chain.rules) (λ d. ap (λ b. nat_eq d to || b) (e d)))

pub path_behind : (chains : List IptChain) (n : ℕ) (before : List Bool) → ((c : ℕ) → flag_at before c ≡ begins_path chains n c)
    → (c : ℕ) → flag_at (map (flag_behind None before) chains) c ≡ begins_path chains (suc n) c
path_behind chains n before e c =
    flag_of_map (flag_behind None before) (λ rules. list_any (begins_path chains n) (all_named rules)) chains c refl
    (λ chain. any_same (is_met None before) (begins_path chains n) (all_named chain.rules) e)

-- rules that name a chain begin a path of one step
naming : (found : Option ℕ) (rest : Bool) (names : List ℕ) → rest ≡ list_any (λ c. true) names
    → (is_some found || rest) ≡ list_any (λ c. true) (option_map_or (λ c. c ∷ []) found [] ++ names)
naming None rest names e = e
naming (Some c) rest names e = refl

any_named : (rules : List IptRule) → list_any (λ r. is_some (named_by r.go)) rules ≡ list_any (λ c. true) (all_named rules)
any_named [] = refl
any_named (r ∷ rs) = naming (named_by r.go) _ (all_named rs) (any_named rs)

pub paths_begin : (chains : List IptChain) (c : ℕ) → flag_at (map names_any chains) c ≡ begins_path chains 1 c
paths_begin chains c = flag_of_map names_any (λ rules. list_any (λ d. true) (all_named rules)) chains c refl (λ chain. any_named chain.rules)

-- Sizes

capped_step : (w a b s t : ℕ) → a ≡ capped b → capped ((w + a) + s) ≡ capped ((w + a) + t) → capped (w + (a + s)) ≡ capped (w + (b + t))
capped_step w a b s t here more = omega arith

-- a sum of capped sizes is the sum of the sizes, capped
capped_sums : (g h : ℕ → ℕ) (w : ℕ) (cs : List ℕ) → ((c : ℕ) → g c ≡ capped (h c)) → capped (w + sum (map g cs)) ≡ capped (w + sum (map h cs))
capped_sums g h w [] e = refl
capped_sums g h w (c ∷ cs) e =
    ap (λ s. capped (w + s)) (sum_by-cons (λ n. n) (g c) (map g cs))
    ∙ capped_step w (g c) (h c) (sum (map g cs)) (sum (map h cs)) (e c) (capped_sums g h (w + g c) cs e)
    ∙ ap (λ s. capped (w + s)) (sym (sum_by-cons (λ n. n) (h c) (map h cs)))

-- a size by the rules of a chain; past the end there are none
size_by_rules : (f : ℕ) (before : List ℕ) (h : ℕ → ℕ) (found : Option IptChain) → ((c : ℕ) → size_at before c ≡ capped (h c))
    → unwrap_or (option_map (size_behind f before) found) 0
    ≡ capped (option_map_or (chain_width f) found 0 + sum (map h (all_named (option_map_or (λ chain. chain.rules) found []))))
size_by_rules f before h None e = refl
size_by_rules f before h (Some chain) e = capped_sums (size_at before) h (chain_width f chain) (all_named chain.rules) e

pub size_deeper : (f : ℕ) (chains : List IptChain) (n : ℕ) (before : List ℕ) → ((c : ℕ) → size_at before c ≡ capped (size_within f chains n c))
    → (c : ℕ) → size_at (map (size_behind f before) chains) c ≡ capped (size_within f chains (suc n) c)
size_deeper f chains n before e c =
    ap (λ o. unwrap_or o 0) (slice_get-map (size_behind f before) chains c)
    ∙ size_by_rules f before (size_within f chains n) (slice_get chains c) e

-- Tables that stay as they are

from_on : (P : ℕ → Type 0) (n k : ℕ) → P n → ((m : ℕ) → P m → P (suc m)) → P (n + k)
from_on P n zero p step = let e : n + 0 ≡ n = omega arith in subst P (sym e) p
from_on P n (suc k) p step = let e : n + suc k ≡ suc (n + k) = omega arith in subst P (sym e) (step (n + k) (from_on P n k p step))

-- a table that the next step leaves as it is says the same for any more steps
pub reach_settled : (chains : List IptChain) (to n all : ℕ) (level : List Bool) → n ≤ all → map (flag_behind (Some to) level) chains ≡ level
    → ((c : ℕ) → flag_at level c ≡ reaches chains n c to) → (c : ℕ) → flag_at level c ≡ reaches chains all c to
reach_settled chains to n all level le same e =
    let P : ℕ → Type 0 = λ m. (c : ℕ) → flag_at level c ≡ reaches chains m c to in
    let whole : n + (all - n) ≡ all = omega arith in
    subst P whole (from_on P n (all - n) e
    (λ m known c. ap (λ t. flag_at t c) (sym same) ∙ reach_behind chains to m level known c))
