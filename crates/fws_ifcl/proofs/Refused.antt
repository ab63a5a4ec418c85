-- What a refusal for a loop, and none at all, say of the chains.
use Rattle.std.proofs.Common.{◌≡◌, ℕ, suc, ◌+◌, ◌<◌, ◌≤◌, Bool, true, false, cond, Option, Some, None, option_map, IfSome, List, [], ◌∷◌, length, arith, refl, subst, ⊎_elim, eq-or-lt_of_le}
use Rattle.std.proofs.lemmas.Bool.{false_from_ne_true}
use Rattle.fws_ifcl.specs.declared.diagram.Chain.{Chain}
use Rattle.fws_ifcl.specs.declared.diagram.Ifcl.{Ifcl}
use Rattle.fws_ifcl.specs.declared.refusal.UnfoldRefusal.{UnfoldRefusal}
use Rattle.fws_ifcl.specs.declared.refusal.UnfoldRefusal.TheVariants.{Loop, Deep, Long}
use Rattle.fws_ifcl.specs.Loops.{Reaches, names, names_first, NoLoop, RefusedLoopsAreReal, UnrefusedHaveNoLoop}
use Rattle.fws_ifcl.specs.Refusals.{is_looped, first_chain, loop_of, deep_of, long_of, or_else}
use Rattle.fws_ifcl.proofs.Loops.{only_chains_name, loops_real}

-- The first chain that passes a test

first_here : (test : ℕ → Bool) (n : ℕ) (passes : Bool) (rest : Option ℕ) → test n ≡ passes → IfSome rest (λ k. test k ≡ true)
    → IfSome (cond passes (Some n) rest) (λ k. test k ≡ true)
first_here test n true rest e h = e
first_here test n false rest e h = h

first_passes : (test : ℕ → Bool) (n : ℕ) (chains : List Chain) → IfSome (first_chain test n chains) (λ k. test k ≡ true)
first_passes test n [] = tt
first_passes test n (chain ∷ chains) = first_here test n (test n) (first_chain test (suc n) chains) refl (first_passes test (suc n) chains)

none_here : (passes : Bool) (n : ℕ) (rest : Option ℕ) → cond passes (Some n) rest ≡ None → (passes ≡ false) × (rest ≡ None)
none_here true n rest e = cc
none_here false n rest e = (refl, e)

none_passes : (test : ℕ → Bool) (n : ℕ) (chains : List Chain) → first_chain test n chains ≡ None → (j : ℕ) → n ≤ j → j < n + length chains → test j ≡ false
none_passes test n [] none j le lt = absurd (omega arith)
none_passes test n (chain ∷ chains) none j le lt =
    let here = none_here (test n) n (first_chain test (suc n) chains) none in
    let within : j < suc n + length chains = omega arith in
    ⊎_elim (λ same. subst (λ k. test k ≡ false) same here.0) (λ more. none_passes test (suc n) chains here.1 j more within) (eq-or-lt_of_le le)

-- Refusals

leaves : {chains : List Chain} {a b : ℕ} → Reaches chains a b → a < length chains
leaves {chains} (names {a = x} {b = y} e) = only_chains_name chains x y e
leaves {chains} (names_first {a = x} {b = y} e r) = only_chains_name chains x y e

no_loop_found : (f : Ifcl) → loop_of f ≡ None → NoLoop f.chains
no_loop_found f none c =
    false_from_ne_true (is_looped f.chains c) (λ looped.
    let lt : c < length f.chains = leaves (loops_real f.chains c looped) in
    let low : 0 ≤ c = omega arith in
    let high : c < 0 + length f.chains = omega arith in
    let not : is_looped f.chains c ≡ false = none_passes (is_looped f.chains) 0 f.chains none c low high in
    cc)

not_refused : (loop : Option ℕ) (rest : Option UnfoldRefusal) → or_else (option_map Loop loop) rest ≡ None → loop ≡ None
not_refused None rest e = refl
not_refused (Some n) rest e = cc

loop_refused : (P : ℕ → Type 0) (loop deep long : Option ℕ) (n : ℕ) → IfSome loop P
    → or_else (option_map Loop loop) (or_else (option_map Deep deep) (option_map Long long)) ≡ Some (Loop n) → P n
loop_refused P (Some k) deep long n h e = let same : k ≡ n = cc in subst P same h
loop_refused P None (Some k) long n h e = absurd (cc)
loop_refused P None None (Some k) n h e = absurd (cc)
loop_refused P None None None n h e = absurd (cc)

pub unrefused_have_no_loop : UnrefusedHaveNoLoop
unrefused_have_no_loop f e = no_loop_found f (not_refused (loop_of f) _ e)

pub refused_loops_are_real : RefusedLoopsAreReal
refused_loops_are_real f n e =
    loops_real f.chains n
    (loop_refused (λ k. is_looped f.chains k ≡ true) (loop_of f) (deep_of f) (long_of f) n (first_passes (is_looped f.chains) 0 f.chains) e)
