-- Tables of one step more.
use Rattle.std.proofs.Common.{◌≡◌, ℕ, suc, ◌+◌, Bool, true, false, List, [], ◌∷◌, length, map, arith, refl, sym, ap, ◌∙◌}
use Rattle.std.specs.Prelude.{Option, Some, None, slice_get, unwrap_or, option_map, is_some, sum}
use Rattle.std.specs.List.{list_any}
use Rattle.std.specs.Option.{option_map_or}
use Rattle.std.proofs.lemmas.List.Sums.{sum_by-cons}
use Rattle.std.proofs.lemmas.Option.{slice_get-map}
use Rattle.fws_ifcl.specs.declared.diagram.Chain.{Chain}
use Rattle.fws_ifcl.specs.Refusals.{all_named, named_in, begins_path, size_within}
use Rattle.fws_unfold.specs.declared.calls.Shape.{Shape}
use Rattle.fws_unfold.specs.Calls.{shape_of}
use Rattle.fws_unfold.specs.Levels.{flag_at, is_naming, flag_behind, capped, size_at, size_behind}

-- tests that agree find alike
any_same : {X : Type 0} (p q : X → Bool) (xs : List X) → ((x : X) → p x ≡ q x) → list_any p xs ≡ list_any q xs
any_same p q [] e = refl
any_same p q (x ∷ xs) e = let here = e x in let more = any_same p q xs e in cc

-- a test of the chains that a chain names, by a table over the chains; past the end there are none
flag_by_names : (F : Shape → Bool) (test : List ℕ → Bool) (found : Option Chain) → test [] ≡ false → ((shape : Shape) → F shape ≡ test shape.names)
    → unwrap_or (option_map F (option_map shape_of found)) false ≡ test (all_named (option_map_or (λ chain. chain.rules) found []))
flag_by_names F test None none some = sym none
flag_by_names F test (Some chain) none some = some (shape_of chain)

flag_of_map : (F : Shape → Bool) (test : List ℕ → Bool) (chains : List Chain) (shapes : List Shape) (c : ℕ) → shapes ≡ map shape_of chains
    → test [] ≡ false → ((shape : Shape) → F shape ≡ test shape.names) → flag_at (map F shapes) c ≡ test (named_in chains c)
flag_of_map F test chains shapes c are none some =
    ap (λ o. unwrap_or o false) (slice_get-map F shapes c)
    ∙ ap (λ (shapes : List Shape). unwrap_or (option_map F (slice_get shapes c)) false) are
    ∙ ap (λ o. unwrap_or (option_map F o) false) (slice_get-map shape_of chains c)
    ∙ flag_by_names F test (slice_get chains c) none some

pub path_behind : (chains : List Chain) (shapes : List Shape) (n : ℕ) (before : List Bool) → shapes ≡ map shape_of chains → ((c : ℕ) → flag_at before c ≡ begins_path chains n c)
    → (c : ℕ) → flag_at (map (flag_behind before) shapes) c ≡ begins_path chains (suc n) c
path_behind chains shapes n before are e c =
    flag_of_map (flag_behind before) (list_any (begins_path chains n)) chains shapes c are refl
    (λ shape. any_same (flag_at before) (begins_path chains n) shape.names e)

names_some : (xs : List ℕ) → is_some (slice_get xs 0) ≡ list_any (λ d. true) xs
names_some [] = refl
names_some (x ∷ xs) = refl

pub paths_begin : (chains : List Chain) (shapes : List Shape) (c : ℕ) → shapes ≡ map shape_of chains → flag_at (map is_naming shapes) c ≡ begins_path chains 1 c
paths_begin chains shapes c are = flag_of_map is_naming (list_any (λ d. true)) chains shapes c are refl (λ shape. names_some shape.names)

-- Sizes

capped_step : (w a b s t : ℕ) → a ≡ capped b → capped ((w + a) + s) ≡ capped ((w + a) + t) → capped (w + (a + s)) ≡ capped (w + (b + t))
capped_step w a b s t here more = omega arith

-- a sum of capped sizes is the sum of the sizes, capped
capped_sums : (g h : ℕ → ℕ) (w : ℕ) (cs : List ℕ) → ((c : ℕ) → g c ≡ capped (h c)) → capped (w + sum (map g cs)) ≡ capped (w + sum (map h cs))
capped_sums g h w [] e = refl
capped_sums g h w (c ∷ cs) e =
    ap (λ s. capped (w + s)) (sum_by-cons (λ n. n) (g c) (map g cs))
    ∙ capped_step w (g c) (h c) (sum (map g cs)) (sum (map h cs)) (e c) (capped_sums g h (w + g c) cs e)
    ∙ ap (λ s. capped (w + s)) (sym (sum_by-cons (λ n. n) (h c) (map h cs)))

-- a size by what a chain names; past the end there are none
size_by_names : (before : List ℕ) (h : ℕ → ℕ) (found : Option Chain) → ((c : ℕ) → size_at before c ≡ capped (h c))
    → unwrap_or (option_map (size_behind before) (option_map shape_of found)) 0
    ≡ capped (length (option_map_or (λ chain. chain.rules) found []) + sum (map h (all_named (option_map_or (λ chain. chain.rules) found []))))
size_by_names before h None e = refl
size_by_names before h (Some chain) e = capped_sums (size_at before) h (length chain.rules) (all_named chain.rules) e

pub size_deeper : (chains : List Chain) (shapes : List Shape) (n : ℕ) (before : List ℕ) → shapes ≡ map shape_of chains → ((c : ℕ) → size_at before c ≡ capped (size_within chains n c))
    → (c : ℕ) → size_at (map (size_behind before) shapes) c ≡ capped (size_within chains (suc n) c)
size_deeper chains shapes n before are e c =
    ap (λ o. unwrap_or o 0) (slice_get-map (size_behind before) shapes c)
    ∙ ap (λ (shapes : List Shape). unwrap_or (option_map (size_behind before) (slice_get shapes c)) 0) are
    ∙ ap (λ o. unwrap_or (option_map (size_behind before) o) 0) (slice_get-map shape_of chains c)
    ∙ size_by_names before (size_within chains n) (slice_get chains c) e
