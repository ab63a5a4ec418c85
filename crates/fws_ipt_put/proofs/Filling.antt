-- Lists that differ in the rules of built-in chains alone.
use Rattle.std.proofs.Common.{◌≡◌, ℕ, zero, suc, ◌+◌, Bool, true, ◌&&◌, slice_set, is_none, List, [], ◌∷◌, ◌++◌, length, arith, refl, ap, ◌∙◌}
use Rattle.std.proofs.lemmas.Bool.{false≢true}
use Rattle.fws_ipt.specs.declared.config.IptChain.{IptChain}
use Rattle.fws_ipt.specs.declared.config.IptRule.{IptRule}
use Rattle.fws_ipt.specs.declared.config.IptTable.{IptTable}
use Rattle.fws_ipt.specs.declared.hook.Hook.{Hook}
use Rattle.fws_ipt.specs.Soundness.{is_user_chain}
use Rattle.fws_ipt.specs.Walk.{is_table}
use Rattle.fws_ipt_put.specs.Builtin.{builtin}
use Rattle.fws_ipt_put.proofs.Altered.{SameUsers, is_users}

-- the chains have the same heads, and those of the user's the same rules
pub record IsRefilled (x y : IptChain) : Type 0 where
  pub table : x.table ≡ y.table
  pub name : x.name ≡ y.name
  pub policy : x.policy ≡ y.policy
  pub rules : is_none x.policy ≡ true → x.rules ≡ y.rules

abbrev pub AreRefilled : List IptChain → List IptChain → Type 0
AreRefilled [] [] = Unit {0}
AreRefilled [] (y ∷ ys) = ⊥
AreRefilled (x ∷ xs) [] = ⊥
AreRefilled (x ∷ xs) (y ∷ ys) = IsRefilled x y × AreRefilled xs ys

pub builtin_refilled : (table : IptTable) (hook : Hook) (accepts : Bool) (rules others : List IptRule) → IsRefilled (builtin table hook accepts rules) (builtin table hook accepts others)
builtin_refilled table hook accepts rules others = record { table = refl; name = refl; policy = refl; rules = λ h. absurd (false≢true h) }

pub same_refilled : (xs : List IptChain) → AreRefilled xs xs
same_refilled [] = tt
same_refilled (x ∷ xs) = (record { table = refl; name = refl; policy = refl; rules = λ h. refl }, same_refilled xs)

pub both_refilled : (xs ys zs ws : List IptChain) → AreRefilled xs ys → AreRefilled zs ws → AreRefilled (xs ++ zs) (ys ++ ws)
both_refilled [] [] zs ws first second = second
both_refilled [] (y ∷ ys) zs ws first second = absurd first
both_refilled (x ∷ xs) [] zs ws first second = absurd first
both_refilled (x ∷ xs) (y ∷ ys) zs ws first second = (first.0, both_refilled xs ys zs ws first.1 second)

pub refilled_users : (xs ys : List IptChain) → AreRefilled xs ys → SameUsers xs ys
refilled_users [] [] are c users = refl
refilled_users [] (y ∷ ys) are c users = absurd are
refilled_users (x ∷ xs) [] are c users = absurd are
refilled_users (x ∷ xs) (y ∷ ys) are zero users = are.0.rules users
refilled_users (x ∷ xs) (y ∷ ys) are (suc c) users = refilled_users xs ys are.1 c users

pub refilled_user_chain : (table : IptTable) (xs ys : List IptChain) → AreRefilled xs ys → (c : ℕ) → is_user_chain table xs c ≡ is_user_chain table ys c
refilled_user_chain table [] [] are c = refl
refilled_user_chain table [] (y ∷ ys) are c = absurd are
refilled_user_chain table (x ∷ xs) [] are c = absurd are
refilled_user_chain table (x ∷ xs) (y ∷ ys) are zero = (λ i. is_table table (are.0.table i) && is_none (are.0.policy i))
refilled_user_chain table (x ∷ xs) (y ∷ ys) are (suc c) = refilled_user_chain table xs ys are.1 c

pub refilled_length : (xs ys : List IptChain) → AreRefilled xs ys → length xs ≡ length ys
refilled_length [] [] are = refl
refilled_length [] (y ∷ ys) are = absurd are
refilled_length (x ∷ xs) [] are = absurd are
refilled_length (x ∷ xs) (y ∷ ys) are = ap suc (refilled_length xs ys are.1)

-- a chain is put in the place of one behind others
pub set_behind : (xs ys zs : List IptChain) (k : ℕ) (chain : IptChain) (others : List IptChain) → slice_set (ys ++ zs) k chain ≡ others ++ zs
    → (at : ℕ) → at ≡ length xs + k → slice_set ((xs ++ ys) ++ zs) at chain ≡ (xs ++ others) ++ zs
set_behind [] ys zs k chain others here at is = let at_is : at ≡ k = omega (arith, is) in ap (λ n. slice_set (ys ++ zs) n chain) at_is ∙ here
set_behind (x ∷ xs) ys zs k chain others here zero is = absurd (omega (arith, is))
set_behind (x ∷ xs) ys zs k chain others here (suc at) is =
    ap (λ l. x ∷ l) (set_behind xs ys zs k chain others here at (omega (arith, is)))

pub refilled_is_users : (xs ys : List IptChain) → AreRefilled xs ys → (c : ℕ) → is_users xs c ≡ is_users ys c
refilled_is_users [] [] are c = refl
refilled_is_users [] (y ∷ ys) are c = absurd are
refilled_is_users (x ∷ xs) [] are c = absurd are
refilled_is_users (x ∷ xs) (y ∷ ys) are zero = ap is_none are.0.policy
refilled_is_users (x ∷ xs) (y ∷ ys) are (suc c) = refilled_is_users xs ys are.1 c
